-- How large the file of an input is: small enough to be read.
use Rattle.std.proofs.Common.{◌≡◌, ℕ, ◌+◌, ◌-◌, ◌*◌, ◌^◌, ◌≤◌, Bool, true, false, List, [], ◌∷◌, Option, Some, None, Result, Ok, Err, length, take, map, refl, ap, inl, inr, arith}
use Rattle.std.specs.List.{AllByRecursion, onto_first}
use Rattle.std.proofs.lemmas.Bool.{cond-true, cases_Bool, cases_lt}
use Rattle.std.proofs.lemmas.List.{length-take}
use Rattle.std.proofs.lemmas.List.Sums.{sum_by-append, sum_by-cons}
use Rattle.block_layout.specs.Layout.{IsBoundary}
use Rattle.record_io.specs.Puts.{Made, bytes_to}
use Rattle.chunk_header.specs.SimpleChunks.{simple_chunk}
use Rattle.simple_chunk.specs.Costs.{cost, cost_of}
use Rattle.meta_chunk.specs.Laid.{end_of_chunk}
use Rattle.meta_chunk.specs.Files.{signature, end_of_chunks}
use Rattle.meta_chunk.proofs.Begins.{end_of_chunks_boundary}
use Rattle.meta_chunk.proofs.Joins.{end_of_chunks-append, end-laid_each}
use Rattle.meta_chunk.proofs.PaddingLemmas.{padding_at_near}
use Rattle.record_group.specs.declared.pad.Pad.{Pad}
use Rattle.record_group.specs.Groups.{groups, pads_start, pads_end, padding_if, front_padding, front_chunks, end_padding, record_chunks}
use Rattle.record_group.specs.Groupings.{KeepsLimits}
use Rattle.record_group.proofs.Grouping.{joined, joined-groups, groups-keep}
use Rattle.record_group.proofs.Signed.{end_of_chunk-signature, length-file_of-signed}
use Rattle.record_writer.specs.Feeds.{Rest}
use Rattle.record_writer.specs.declared.feed.Stop.{Stop}
use Rattle.record_writer.proofs.Reaches.{group-near}
use Rattle.write_command.specs.declared.write_words.WriteWords.{WriteWords}
use Rattle.command_frame.specs.Lines.{ends_line, lines}
use Rattle.write_command.specs.Input.{running, up_to_last_end, record_of_line, taken_before, taken_lines, stop_past_limit, taken_from}
use Rattle.write_command.specs.WriteCommand.{write_answer}
use Rattle.riegeli_tool.proofs.AnswerStreams.{written_made}
use Rattle.command_frame.proofs.Lines.{lines-cons}
use Rattle.write_command.proofs.TakenLines.{taken_from-within, taken_from-past}
use Rattle.write_command.proofs.TakenRecords.{record_of_line-shorter}

-- lines cost their bytes, and 8 more for each, of which each has a byte or an end
cost-onto_first : (b : ℕ) (parts : List (List ℕ)) → cost_of (onto_first b parts) ≤ cost_of parts + 9
cost-onto_first b [] = omega (arith, sum_by-cons cost (b ∷ []) [])
cost-onto_first b (part ∷ parts) = omega (arith, sum_by-cons cost (b ∷ part) parts, sum_by-cons cost part parts)

cost-lines : (bytes : List ℕ) → cost_of (lines bytes) ≤ 9 * length bytes
cost-lines [] = omega arith
cost-lines (b ∷ bs) = elim (cases_Bool (ends_line b)) [
  | inl at_end ↦
      omega (
        arith,
        ap cost_of (cond-true (ends_line b) ([] ∷ lines bs) (onto_first b (lines bs)) at_end),
        sum_by-cons cost [] (lines bs),
        cost-lines bs,
      )
  | inr within ↦ omega (arith, ap cost_of (lines-cons b bs within), cost-onto_first b (lines bs), cost-lines bs)
]

-- the records that are taken cost no more
cost-taken_before : (line : List ℕ) (first : Result (List ℕ) Stop) (rest : Rest) → ((bytes : List ℕ) → first ≡ Ok bytes → length bytes ≤ length line)
    → cost_of (taken_before first rest).records ≤ cost line + cost_of rest.records
cost-taken_before line (Ok bytes) rest shorter = omega (arith, shorter bytes refl, sum_by-cons cost bytes rest.records)
cost-taken_before line (Err stop) rest shorter = omega arith

cost-taken_lines : (hex : Bool) (parts : List (List ℕ)) (stop : Option Stop) → cost_of (taken_lines hex parts stop).records ≤ cost_of parts
cost-taken_lines hex [] stop = omega arith
cost-taken_lines hex (part ∷ parts) stop =
    omega (
      arith,
      cost-taken_before part (record_of_line hex part) (taken_lines hex parts stop) (record_of_line-shorter hex part),
      sum_by-cons cost part parts,
      cost-taken_lines hex parts stop,
    )

-- so do those of an input
cost-taken_from : (input : List ℕ) (hex : Bool) (limit : ℕ) → cost_of (taken_from input hex limit).records ≤ 9 * limit
cost-taken_from input hex limit = elim (cases_lt limit (length input)) [
  | inl past ↦
      let front : List ℕ = take limit input in
      let kept : List ℕ = up_to_last_end front in
      omega (
        arith,
        ap (λ (r : Rest). cost_of r.records) (taken_from-past input hex limit past),
        cost-taken_lines hex (lines kept) (Some (stop_past_limit hex (running front))),
        cost-lines kept,
        length-take (length front - length (running front)) front,
        length-take limit input,
      )
  | inr within ↦
      omega (
        arith,
        ap (λ (r : Rest). cost_of r.records) (taken_from-within input hex limit within),
        cost-taken_lines hex (lines input) None,
        cost-lines input,
      )
]

-- the chunks of groups end near their begin, by what the groups cost
groups-near : (place : ℕ) (gs : List (List (List ℕ))) (size : ℕ) (every : Option ℕ) → AllByRecursion (KeepsLimits size every) gs
    → end_of_chunks place (map simple_chunk gs) ≤ place + 23 * cost_of (joined gs)
groups-near place [] size every h = omega arith
groups-near place (group ∷ gs) size every h =
    omega (
      arith,
      group-near place group h.0.some,
      groups-near (end_of_chunk place (simple_chunk group)) gs size every h.1,
      sum_by-append cost group (joined gs),
    )

-- padding that is wanted ends near its begin too
padding-near : (wanted : Bool) (place : ℕ) → IsBoundary place → end_of_chunks place (padding_if wanted place) ≤ place + 131072
padding-near true place boundary = omega (arith, padding_at_near place boundary)
padding-near false place boundary = omega arith

-- so do the chunks of records
records-near : (place : ℕ) (records : List (List ℕ)) (size : ℕ) (every : Option ℕ) (pad : Pad) → IsBoundary place
    → end_of_chunks place (record_chunks place records size every pad) ≤ place + 23 * cost_of records + 262144
records-near place records size every pad boundary =
    let gs : List (List (List ℕ)) = groups records size every in
    let first : ℕ = end_of_chunks place (front_padding place pad) in
    let last : ℕ = end_of_chunks place (front_chunks place records size every pad) in
    omega (
      arith,
      padding-near (pads_start pad) place boundary,
      end_of_chunks-append place (front_padding place pad) (map simple_chunk gs),
      groups-near first gs size every (groups-keep records size every),
      ap cost_of (joined-groups records size every),
      padding-near (pads_end pad) last (end_of_chunks_boundary place (front_chunks place records size every pad) boundary),
      end_of_chunks-append place (front_chunks place records size every pad) (end_padding place records size every pad),
    )

-- so the file of an input can be read
pub written-fits : (write : WriteWords) (input : List ℕ) → length (bytes_to Made (write_answer write input).puts) ≤ 2 ^ 60
written-fits write input =
    let records : List (List ℕ) = (taken_from input write.hex (2 ^ 40)).records in
    let place : ℕ = end_of_chunk 0 signature in
    omega (
      arith,
      ap length (written_made write (taken_from input write.hex (2 ^ 40))),
      length-file_of-signed records write.options.size write.options.every write.options.pad,
      end-laid_each place (record_chunks place records write.options.size write.options.every write.options.pad),
      records-near place records write.options.size write.options.every write.options.pad (end_of_chunks_boundary 0 (signature ∷ []) (inl refl)),
      cost-taken_from input write.hex (2 ^ 40),
      end_of_chunk-signature,
    )
