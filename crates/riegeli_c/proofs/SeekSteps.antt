-- What searches of a file that is lent find.
use Rattle.std.proofs.Common.{◌≡◌, ◌∙◌, ℕ, ◌+◌, ◌-◌, ◌^◌, ◌<◌, ◌≤◌, Some, List, length, sym, ap, subst, arith}
use Rattle.std.proofs.lemmas.Option.{slice_get_within}
use Rattle.block_layout.proofs.ChunkEnds.{chunk_end_of_past_records}
use Rattle.chunk_header.specs.Chunks.{ChunkValue}
use Rattle.meta_chunk.specs.Files.{IsWellFormed, LiesIn, begin_of}
use Rattle.chunk_reader.specs.Holders.{IsHolder}
use Rattle.chunk_reader.specs.Places.{header_at, end_at}
use Rattle.chunk_reader.specs.PositionSearches.{SearchGives}
use Rattle.chunk_reader.proofs.HeadersTell.{holder_there, passed_below, stands_below, told_end}
use Rattle.record_seek.specs.Begins.{IsRecordOf, StandsInChunk}
use Rattle.record_seek.specs.Met.{IsMetBySearch}
use Rattle.record_seek.proofs.MetPlaces.{met_begin}
use Rattle.record_seek.specs.declared.chunk_records.Found.{Found}
use Rattle.seek_command.specs.Searches.{MayFind}
use Rattle.riegeli_c.specs.Seeks.{TellsSought, TellsFound}
use Rattle.riegeli_c.specs.declared.seeking.FoundAt.{FoundAt}

-- where a record stands is told
stands-told : (file : List ℕ) (told : FoundAt) (sought : Found) → told.position ≡ sought.position → told.begin ≡ sought.begin
    → IsRecordOf file sought.begin (sought.position - sought.begin) sought.bytes
    → IsRecordOf file told.begin (told.position - told.begin) sought.bytes
stands-told file told sought same begins stands =
    subst (λ (p : ℕ). IsRecordOf file told.begin (p - told.begin) sought.bytes) (sym same)
    (subst (λ (b : ℕ). IsRecordOf file b (sought.position - b) sought.bytes) (sym begins) stands)

-- what is told of one that was found for a position
pub sought-told : (file : List ℕ) (at : ℕ) (told : FoundAt) (sought : Found) → SearchGives file at (Some (sought.position, sought.bytes))
    → StandsInChunk file sought → told.position ≡ sought.position → told.begin ≡ sought.begin → told.bytes ≡ length sought.bytes
    → TellsSought file at told sought.bytes
sought-told file at told sought is there same begins size = record {
  gives = subst (λ (p : ℕ). SearchGives file at (Some (p, sought.bytes))) (sym same) is;
  behind = omega (arith, same, begins, there.behind);
  stands = stands-told file told sought same begins there.stands;
  size = size;
}

-- and for a key
pub found-told : (file key : List ℕ) (told : FoundAt) (sought : Found) → MayFind key file (Some (sought.position, sought.bytes))
    → StandsInChunk file sought → told.position ≡ sought.position → told.begin ≡ sought.begin → told.bytes ≡ length sought.bytes
    → TellsFound file key told sought.bytes
found-told file key told sought finds there same begins size = record {
  finds = subst (λ (p : ℕ). MayFind key file (Some (p, sought.bytes))) (sym same) finds;
  met = subst (IsMetBySearch file) (sym begins) there.met;
  behind = omega (arith, same, begins, there.behind);
  stands = stands-told file told sought same begins there.stands;
  size = size;
}

-- a record lies before its chunk's end
stands-within : (file : List ℕ) (place number : ℕ) (bytes : List ℕ) → IsRecordOf file place number bytes → place + number < end_at file place
stands-within file place number bytes stands =
    omega (
      arith,
      slice_get_within stands.records number bytes stands.stands,
      stands.holds.holds.num_records,
      chunk_end_of_past_records place (40 + (header_at file place).data_size) (header_at file place).num_records,
    )

-- in a file of chunks the chunk that is told holds the position
pub found-held : (ks : List ChunkValue) (file key : List ℕ) (told : FoundAt) (bytes : List ℕ) → IsWellFormed ks file → length file ≤ 2 ^ 60
    → TellsFound file key told bytes → IsHolder file told.position told.begin
found-held ks file key told bytes well_formed reach tells =
    let (j, is) = met_begin ks well_formed reach tells.met in
    let within = stands-within file told.begin (told.position - told.begin) bytes tells.stands in
    let none = tells.stands.holds.without_fault in
    let below : told.begin < length file = passed_below file told.begin (none.0, (none.1.0, (none.1.1.0, tt))) in
    let k = stands_below ks file well_formed j (omega (arith, is, below)) in
    let ends : end_at file told.begin ≡ begin_of ks (j + 1) = ap (end_at file) is ∙ told_end ks file well_formed j k.0 k.1 in
    let lies : LiesIn ks told.position j = record {
      number = slice_get_within ks j k.0 k.1;
      begins = omega (arith, is, tells.behind);
      ends = omega (arith, within, tells.behind, ends);
    } in
    subst (IsHolder file told.position) (sym is) (holder_there ks file well_formed told.position j reach lies)
