-- The lines of the records of parts are those of the file.
use Rattle.std.proofs.Common.{◌≡◌, ◌∙◌, ℕ, ◌-◌, ◌*◌, ◌/◌, List, [], ◌∷◌, ◌++◌, length, map, refl, sym, ap}
use Rattle.std.specs.List.{flat_map}
use Rattle.std.proofs.lemmas.Grind.{flat_map-append}
use Rattle.std.proofs.lemmas.List.{append-nil, append_assoc}
use Rattle.std.proofs.lemmas.List.FromFn.{length-map-range_with_len}
use Rattle.record_ranges.specs.Ranges.{RiseUpTo, even_cuts}
use Rattle.record_ranges.specs.Stretches.{Adds, AreRangesIn}
use Rattle.record_ranges.specs.declared.stretches.Stretch.{Stretch}
use Rattle.record_ranges.proofs.AllParts.{all_records}
use Rattle.command_frame.specs.Answers.{line}
use Rattle.show_command.specs.Readings.{bare, record_line}
use Rattle.record_ranges.specs.RangesCommand.{IsTextOfFile}
use Rattle.record_ranges.specs.RangesEnds.{all_texts, part_lines}

-- bare records are lines of their bytes, whatever their positions
pub bare_lines : (placed : List (ℕ × List ℕ)) → flat_map (record_line bare) placed ≡ flat_map line (map (λ p. p.1) placed)
bare_lines [] = refl
bare_lines (first ∷ placed) = ap (λ (rest : List ℕ). line first.1 ++ rest) (bare_lines placed)

-- one more line
pub lines-add : (text longer new bytes : List ℕ) → longer ≡ text ++ bytes → new ≡ longer ++ 10 ∷ [] → Adds part_lines text new (bytes ∷ [])
lines-add text longer new bytes put is =
    λ records kept.
    is
    ∙ ap (λ (t : List ℕ). t ++ 10 ∷ []) put
    ∙ append_assoc text bytes (10 ∷ [])
    ∙ ap (λ (t : List ℕ). t ++ line bytes) kept
    ∙ ap (λ (t : List ℕ). part_lines records ++ t) (sym (append-nil (line bytes)))
    ∙ sym (flat_map-append line records (bytes ∷ []))

pub ruleset line_steps = lines-add

-- the lines of parts are those of all their records
joined_texts : (parts : List (Stretch (List ℕ))) (ranges : List (List (List ℕ))) → map (λ s. s.kept) parts ≡ map part_lines ranges
    → all_texts parts ≡ flat_map line (flat_map (λ part. part) ranges)
joined_texts [] [] is = refl
joined_texts [] (part ∷ ranges) is = absurd (cc is)
joined_texts (s ∷ parts) [] is = absurd (cc is)
joined_texts (s ∷ parts) (part ∷ ranges) is =
    let here : s.kept ≡ part_lines part = cc is in
    let behind : map (λ (s : Stretch (List ℕ)). s.kept) parts ≡ map part_lines ranges = cc is in
    ap (λ (text : List ℕ). text ++ all_texts parts) here
    ∙ ap (λ (rest : List ℕ). part_lines part ++ rest) (joined_texts parts ranges behind)
    ∙ sym (flat_map-append line part (flat_map (λ p. p) ranges))

-- so the lines of all parts are those of the file
pub parts_text : (file cuts : List ℕ) (parts : List (Stretch (List ℕ))) → AreRangesIn part_lines file cuts parts → RiseUpTo (length file) 0 cuts
    → IsTextOfFile file (all_texts parts)
parts_text file cuts parts h rise = record {
  chunks = h.are.chunks;
  placed = h.are.placed;
  is_file = h.are.is_file;
  records = h.are.are_placed;
  lines = joined_texts parts h.ranges h.kept
      ∙ ap (λ (ps : List (List (List ℕ))). flat_map line (flat_map (λ p. p) ps)) h.are.are_ranges
      ∙ ap (flat_map line) (all_records h.are.chunks file cuts h.are.placed h.are.is_file h.are.are_placed rise)
      ∙ sym (bare_lines h.are.placed);
}

-- there is one cut fewer than parts
pub length-even_cuts : (size parts : ℕ) → length (even_cuts size parts) ≡ parts - 1
length-even_cuts size parts = length-map-range_with_len (λ i. i * size / parts) 1 (parts - 1)
