-- The records of chunks that were judged.
use Rattle.std.proofs.Common.{◌≡◌, ◌∙◌, ℕ, ◌+◌, ◌^◌, ◌≤◌, ◌⊎◌, false, true, Option, Some, None, IfSome, List, [], zero, suc, ◌∷◌, ◌++◌, length, refl, sym, ap, subst, inl, inr, arith}
use Rattle.std.specs.Prelude.{slice_get}
use Rattle.std.specs.List.{concat}
use Rattle.std.proofs.lemmas.List.{length-append}
use Rattle.std.proofs.lemmas.Option.{same_Some}
use Rattle.block_layout.proofs.ChunkEnds.{chunk_end_of_past_records}
use Rattle.chunk_header.specs.Chunks.{ChunkValue}
use Rattle.chunk_header.specs.SimpleChunks.{IsSimple}
use Rattle.chunk_header.specs.Views.{value_of_chunk}
use Rattle.meta_chunk.specs.Kinds.{IsSignature, IsMetadata, IsPadding}
use Rattle.chunk_reader.specs.Contents.{IsWhat, records_given, IsJudged, IsJudgedIn}
use Rattle.chunk_reader.specs.Places.{end_at, chunk_at}
use Rattle.chunk_reader.specs.Reasons.{Applies, NoneOf, loading_reasons, strict_reasons}
use Rattle.chunk_reader.specs.declared.judging.Judged.{Judged}
use Rattle.chunk_reader.specs.declared.judging.What.{What}
use Rattle.chunk_reader.specs.declared.judging.What.TheVariants as what
use Rattle.record_seek.specs.Steps.{AreChunkRecords, AreRecordsAt}
use Rattle.record_seek.specs.declared.chunk_records.ChunkRecords.{ChunkRecords}

-- no reason keeps a chunk without fault from being read
pub strict_none_loading : (file : List ℕ) (place : ℕ) → NoneOf (Applies file place) (strict_reasons false)
    → NoneOf (Applies file place) loading_reasons
strict_none_loading file place none = (none.0, (none.1.0, (none.1.1.0, (none.1.1.1.0, tt))))

-- a record is no longer than its chunk's data
length-concat : (records : List (List ℕ)) (i : ℕ) (bytes : List ℕ) → slice_get records i ≡ Some bytes → length bytes ≤ length (concat records)
length-concat [] i bytes stands = absurd (cc)
length-concat (r ∷ records) zero bytes stands = omega (arith, ap length (same_Some r bytes stands), length-append r (concat records))
length-concat (r ∷ records) (suc i) bytes stands = omega (arith, length-concat records i bytes stands, length-append r (concat records))

record_small : (k : ChunkValue) (records : List (List ℕ)) (i : ℕ) (bytes : List ℕ) → IsSimple k records → slice_get records i ≡ Some bytes
    → length bytes ≤ length k.«data»
record_small k records i bytes simple stands =
    omega (
      arith,
      length-concat records i bytes stands,
      ap length simple.«data»,
      length-append (0 ∷ simple.spelled_size ++ simple.sizes) (concat records),
    )

-- a chunk of another kind has no records
none_in_passive : (k : ChunkValue) → IsSignature k ⊎ IsMetadata k ⊎ IsPadding k → k.num_records ≡ 0
none_in_passive k (inl signature) = (signature.1.signature refl).1
none_in_passive k (inr (inl metadata)) = metadata.1.metadata refl
none_in_passive k (inr (inr padding)) = (padding.1.padding refl).0

-- so a chunk that was judged holds its records
abbrev HoldsThem : ChunkValue → List (List ℕ) → Type 0
HoldsThem k records = IsSimple k records ⊎ ((k.num_records ≡ 0) × (records ≡ []))

records_held : (k : ChunkValue) (w : What) → IsWhat false k w → HoldsThem k (records_given w)
records_held k (what.Records records) simple = inl simple
records_held k what.Passive kind = inr (none_in_passive k kind, refl)
records_held k what.Unread unread =
    let never : false ≡ true = unread.0 in
    absurd (cc)

small_of : (k : ChunkValue) (records : List (List ℕ)) (i : ℕ) (bytes : List ℕ) → HoldsThem k records → slice_get records i ≡ Some bytes
    → length bytes ≤ length k.«data»
small_of k records i bytes (inl simple) stands = record_small k records i bytes simple stands
small_of k records i bytes (inr (none, empty)) stands =
    let never : slice_get [] i ≡ Some bytes = subst (λ (rs : List (List ℕ)). slice_get rs i ≡ Some bytes) empty stands in
    absurd (cc)

count_of : (k : ChunkValue) (records : List (List ℕ)) → HoldsThem k records → length records ≤ k.num_records
count_of k records (inl simple) = omega (arith, simple.num_records)
count_of k records (inr (none, empty)) = omega (arith, ap length empty)

-- and may be asked for them
pub records-of : (size place : ℕ) (j : Judged) (held : ChunkRecords) → size ≤ 2 ^ 60 → IsJudged false size place j → held.begin ≡ j.begin → held.end ≡ j.end
    → held.records ≡ records_given j.what → AreChunkRecords held
records-of size place j held reach judged begin end records =
    let k : ChunkValue = value_of_chunk j.chunk in
    let holds : HoldsThem k held.records = subst (HoldsThem k) (sym records) (records_held k j.what judged.what) in
    record {
      after = omega (arith, begin, end, judged.begin, judged.after);
      to_boundary = rw end judged.to_boundary;
      room = omega (
        arith,
        begin,
        judged.begin,
        judged.end,
        judged.within,
        reach,
        count_of k held.records holds,
        chunk_end_of_past_records place (40 + length k.«data») k.num_records,
      );
      small = λ i bytes stands. omega (arith, small_of k held.records i bytes holds stands, judged.small);
    }

-- it is the chunk of the file
pub records-there : (bytes : Option (List ℕ)) (size place : ℕ) (j : Judged) (held : ChunkRecords) → IsJudged false size place j
    → IfSome bytes (λ file. IsJudgedIn false file place j) → held.begin ≡ j.begin → held.end ≡ j.end → held.records ≡ records_given j.what
    → IfSome bytes (λ file. AreRecordsAt file held)
records-there None size place j held judged sound begin end records = tt
records-there (Some file) size place j held judged sound begin end records =
    let at : place ≡ held.begin = sym (begin ∙ judged.begin) in
    let holds : HoldsThem (value_of_chunk j.chunk) held.records =
    subst (HoldsThem (value_of_chunk j.chunk)) (sym records) (records_held (value_of_chunk j.chunk) j.what judged.what) in
    record {
      none = subst (λ (p : ℕ). NoneOf (Applies file p) (strict_reasons false)) at sound.none;
      end = end ∙ sound.end ∙ ap (end_at file) at;
      records = subst (λ (k : ChunkValue). HoldsThem k held.records) (sound.chunk ∙ ap (chunk_at file) at) holds;
    }
