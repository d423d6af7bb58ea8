-- What is told of a chunk that was judged.
use Rattle.std.proofs.Common.{◌≡◌, ◌∙◌, ℕ, ◌≤◌, ◌⊎◌, true, List, length, refl, sym, ap, subst, inl, inr, arith}
use Rattle.std.proofs.lemmas.List.{length-take}
use Rattle.block_layout.proofs.Ends.{end_of_room}
use Rattle.chunk_header.specs.Chunks.{ChunkValue}
use Rattle.chunk_header.specs.SimpleChunks.{IsSimple}
use Rattle.chunk_header.specs.Views.{value_of_chunk}
use Rattle.chunk_header.proofs.OneList.{records_are_one}
use Rattle.meta_chunk.specs.Files.{signature_bytes, IsWellFormedChunk, Holds}
use Rattle.meta_chunk.specs.Kinds.{IsSignature, IsMetadata, IsPadding}
use Rattle.meta_chunk.proofs.Signature.{laid-signature}
use Rattle.chunk_reader.specs.Places.{chunk_at}
use Rattle.chunk_reader.specs.Contents.{IsWhat, IsJudged, IsJudgedIn, records_given}
use Rattle.chunk_reader.specs.Faults.{BeginsWithSignature}
use Rattle.chunk_reader.specs.declared.judging.Judged.{Judged}
use Rattle.chunk_reader.specs.declared.judging.What.{What}
use Rattle.chunk_reader.specs.declared.judging.What.TheVariants.{Records, Passive, Unread}
use Rattle.damage_skip.proofs.OnePiece.{given_or_kept, given_or_left_out}
use Rattle.riegeli_c.specs.Chunks.{IsToldAs, IsChunkTold, HasChunkWith, IsTooSmall, IsStatusFor}
use Rattle.riegeli_c.specs.Judging.{what_number, TellsJudged}
use Rattle.riegeli_c.specs.declared.reading.ChunkTold.{ChunkTold}

-- by its number it has the records that are given
told_as : (k : ChunkValue) (what : What) → IsWhat true k what → IsToldAs k (what_number what) (records_given what)
told_as k (Records records) simple = inl (refl, simple)
told_as k Passive passive = inr (inl (refl, passive, refl))
told_as k Unread left = inr (inr (refl, left.1, refl))

-- so it is the chunk at its place
pub chunk_told : (file : List ℕ) (size place : ℕ) (told : ChunkTold) (j : Judged) → IsJudged true size place j
    → IsJudgedIn true file place j → TellsJudged j told → IsChunkTold file place told (records_given j.what)
chunk_told file size place told j judged is tells = record {
  without_fault = is.none;
  end = tells.end ∙ is.end;
  what = subst (λ (k : ChunkValue). IsToldAs k told.what (records_given j.what)) is.chunk
      (subst (λ (n : ℕ). IsToldAs (value_of_chunk j.chunk) n (records_given j.what)) (sym tells.what)
      (told_as (value_of_chunk j.chunk) j.what judged.what));
  count = tells.count;
  bytes = tells.bytes;
}

-- a chunk of records isn't passive
given_or_passive : (k : ChunkValue) (records : List (List ℕ)) → IsSimple k records → (IsSignature k ⊎ IsMetadata k ⊎ IsPadding k) → ⊥
given_or_passive k records simple (inl signature) = given_or_left_out k records simple (inl signature)
given_or_passive k records simple (inr (inl metadata)) = given_or_kept true k records simple (inl metadata)
given_or_passive k records simple (inr (inr padding)) = given_or_left_out k records simple (inr padding)

-- a chunk holds the records that it is told with
pub told_held : (k : ChunkValue) (what : ℕ) (records : List (List ℕ)) → IsToldAs k what records → Holds k records
told_held k what records (inl (one, simple)) = inl simple
told_held k what records (inr (inl (two, passive, none))) = inr (λ has. given_or_passive k has.0 has.1 passive, none)
told_held k what records (inr (inr (three, left, none))) = inr (λ has. given_or_kept true k has.0 has.1 (inr (refl, left)), none)

-- and one that is read or left unread is told with those that it holds
pub holds_told : (k : ChunkValue) (records : List (List ℕ)) → IsWellFormedChunk k → Holds k records → (what : ℕ) × IsToldAs k what records
holds_told k records well_formed (inl simple) = (1, inl (refl, simple))
holds_told k records (inl (small, inl has)) (inr (never, none)) = absurd (never has)
holds_told k records (inl (small, inr passive)) (inr (never, none)) = (2, inr (inl (refl, passive, none)))
holds_told k records (inr (small, inl transposed)) (inr (never, none)) = (3, inr (inr (refl, inr transposed, none)))
holds_told k records (inr (small, inr compressed)) (inr (never, none)) = (3, inr (inr (refl, inl compressed, none)))

-- the records that a chunk is told with are those that are given
given_same : (k : ChunkValue) (what : What) (n : ℕ) (records : List (List ℕ)) → IsWhat true k what → IsToldAs k n records → records ≡ records_given what
given_same k (Records given) n records simple (inl (one, also)) = records_are_one k records given also simple
given_same k (Records given) n records simple (inr (inl (two, passive, none))) = absurd (given_or_passive k given simple passive)
given_same k (Records given) n records simple (inr (inr (three, left, none))) = absurd (given_or_kept true k given simple (inr (refl, left)))
given_same k Passive n records passive (inl (one, simple)) = absurd (given_or_passive k records simple passive)
given_same k Passive n records passive (inr (inl (two, also, none))) = none
given_same k Passive n records passive (inr (inr (three, left, none))) = none
given_same k Unread n records left (inl (one, simple)) = absurd (given_or_kept true k records simple (inr left))
given_same k Unread n records left (inr (inl (two, passive, none))) = none
given_same k Unread n records left (inr (inr (three, also, none))) = none

-- so the status is that of these
pub chunk_status : (file : List ℕ) (size place : ℕ) (j : Judged) (records : List (List ℕ)) (values ends : List ℕ) (status : ℕ)
    → IsJudged true size place j → IsJudgedIn true file place j → HasChunkWith file place records → (status ≡ 0) ⊎ (status ≡ 4)
    → (status ≡ 0 → ¬ IsTooSmall (records_given j.what) values ends) → (status ≡ 4 → IsTooSmall (records_given j.what) values ends)
    → IsStatusFor records values ends status
chunk_status file size place j records values ends status judged is has answered fits small =
    let same : records ≡ records_given j.what =
    given_same (chunk_at file place) j.what has.what records (subst (λ (k : ChunkValue). IsWhat true k j.what) is.chunk judged.what) has.told_as in
    subst (λ (rs : List (List ℕ)). IsStatusFor rs values ends status) (sym same)
    (elim answered [ inl zero ↦ inl (zero, fits zero) | inr four ↦ inr (inl (four, small four)) ])

-- a file that begins as files do has 64 bytes
pub signed_is_long : (file : List ℕ) → BeginsWithSignature file → 64 ≤ length file
signed_is_long file begins =
    let size : length signature_bytes ≡ 64 = ap (λ (xs : List ℕ). length xs) laid-signature in
    omega (arith, size, ap (λ (xs : List ℕ). length xs) begins, length-take (length signature_bytes) file)

-- no chunk is at the file's end
pub none_at_end : (file : List ℕ) (place : ℕ) (records : List (List ℕ)) → HasChunkWith file place records → ¬ (place ≡ length file)
none_at_end file place records has end = has.without_fault.0 (omega (arith, end, end_of_room place 40))
