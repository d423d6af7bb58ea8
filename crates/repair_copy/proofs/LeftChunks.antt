-- The chunks that damage leaves are those that are reached, untouched and copied.
use Rattle.std.proofs.Common.{◌≡◌, ◌∙◌, ℕ, ◌+◌, ◌≤◌, ◌^◌, Bool, true, false, ◌&&◌, Option, Some, None, List, [], ◌∷◌, ◌++◌, length, take, refl, sym, ap, subst, inl, inr, arith}
use Rattle.std.specs.Prelude.{slice_get, if◌then◌else◌}
use Rattle.std.specs.List.{AllByRecursion, cons_option}
use Rattle.std.proofs.lemmas.Bool.{cases_Bool}
use Rattle.std.proofs.lemmas.List.{take_all}
use Rattle.std.proofs.lemmas.List.Elements.{All-filter, All-from_recursion, recursion_from_All}
use Rattle.chunk_header.specs.Chunks.{ChunkValue, IsChunk}
use Rattle.meta_chunk.specs.Files.{signature, IsWellFormedChunk, AreLaid, IsWellFormed, laid_each}
use Rattle.meta_chunk.proofs.LaidChunks.{AreLaid-laid_each}
use Rattle.chunk_reader.proofs.AllowedChunks.{allowed_small}
use Rattle.chunk_reader.proofs.ChainSteps.{each_at}
use Rattle.chunk_reader.proofs.SignedFiles.{IsChunk-signature, IsAllowed-signature}
use Rattle.damage_skip.specs.Pieces.{PieceKind, Piece}
use Rattle.damage_skip.specs.FilePieces.{ArePieces}
use Rattle.damage_skip.specs.Damage.{Intact, IsDamaged, AreReached, DamageLeaves, DamageLeavesEach, untouched}
use Rattle.damage_skip.proofs.Damaged.{pieces_left}
use Rattle.damage_skip.proofs.Reached.{reached_past, left_past, next_one}
use Rattle.repair_copy.specs.RepairPuts.{chunk_in, chunks_in}
use Rattle.repair_copy.specs.RelaidFiles.{relaid}
use Rattle.repair_copy.specs.CopiedChunks.{is_copied, copied}
use Rattle.repair_copy.proofs.Copied.{unread_stays, none_before, found_chunk}

-- the chunk of an untouched one's piece
left_untouched : (unread_ok : Bool) (k : ChunkValue) (what : PieceKind) (xs : List ChunkValue) → length k.«data» ≤ 2 ^ 26 → DamageLeaves unread_ok true true k what
    → chunk_in what ++ xs ≡ (if is_copied unread_ok k then k ∷ xs else xs)
left_untouched true k what xs small found = found_chunk true k what xs small found
left_untouched false k what xs small (inl found) = found_chunk false k what xs small found
left_untouched false k what xs small (inr (inl (compressed, is))) =
    none_before false k (chunk_in what) xs (unread_stays k small (inr compressed)) (ap chunk_in is)
left_untouched false k what xs small (inr (inr (transposed, is))) =
    none_before false k (chunk_in what) xs (unread_stays k small (inl transposed)) (ap chunk_in is)

-- that of a touched one has none
left_touched : (unread_ok header «data» : Bool) (k : ChunkValue) (what : PieceKind) → header && «data» ≡ false → DamageLeaves unread_ok header «data» k what
    → chunk_in what ≡ []
left_touched unread_ok false d k what touched left = ap chunk_in left
left_touched unread_ok true false k what touched left = ap chunk_in left
left_touched unread_ok true true k what touched left = cc touched

both_true : (a b : Bool) → a && b ≡ true → (a ≡ true) × (b ≡ true)
both_true true true h = (refl, refl)
both_true true false h = cc
both_true false b h = cc

untouched-cons : (ks : List ChunkValue) (intact : Intact) (j : ℕ) (is : List ℕ) (k : ChunkValue) → intact.header j && intact.«data» j ≡ true
    → slice_get ks j ≡ Some k → untouched ks intact (j ∷ is) ≡ k ∷ untouched ks intact is
untouched-cons ks intact j is k whole at = rw (whole, at)

touched-cons : (ks : List ChunkValue) (intact : Intact) (j : ℕ) (is : List ℕ) → intact.header j && intact.«data» j ≡ false
    → untouched ks intact (j ∷ is) ≡ untouched ks intact is
touched-cons ks intact j is touched = rw touched

module _ (unread_ok : Bool) (ks : List ChunkValue) (intact : Intact) (formed : AllByRecursion IsWellFormedChunk ks) where
  -- so the piece of a chunk that is reached has it where it is copied
  left_chunk : (j : ℕ) (k : ChunkValue) (what : PieceKind) (is : List ℕ) → slice_get ks j ≡ Some k
      → DamageLeaves unread_ok (intact.header j) (intact.«data» j) k what
      → chunk_in what ++ copied unread_ok (untouched ks intact is) ≡ copied unread_ok (untouched ks intact (j ∷ is))
  left_chunk j k what is at left =
      let xs : List ChunkValue = copied unread_ok (untouched ks intact is) in
      elim (cases_Bool (intact.header j && intact.«data» j)) [
        | inl whole ↦
            let flags = both_true (intact.header j) (intact.«data» j) whole in
            let here : DamageLeaves unread_ok true true k what =
            subst (λ (b : Bool). DamageLeaves unread_ok true b k what) flags.1
            (subst (λ (b : Bool). DamageLeaves unread_ok b (intact.«data» j) k what) flags.0 left) in
            left_untouched unread_ok k what xs (allowed_small true k (each_at IsWellFormedChunk ks j k formed at)) here
            ∙ ap (copied unread_ok) (sym (untouched-cons ks intact j is k whole at))
        | inr touched ↦
            ap (λ (ys : List ChunkValue). ys ++ xs) (left_touched unread_ok (intact.header j) (intact.«data» j) k what touched left)
            ∙ ap (copied unread_ok) (sym (touched-cons ks intact j is touched))
      ]

  -- so the pieces that are left have those of them that are copied
  pub left_chunks : (j to : ℕ) (pieces : List Piece) (is : List ℕ) → DamageLeavesEach unread_ok ks intact j to pieces → AreReached ks intact j to is
      → chunks_in pieces ≡ copied unread_ok (untouched ks intact is)
  left_chunks j to [] [] h g = refl
  left_chunks j to [] (i ∷ is) h g = absurd (omega (arith, h, reached_past ks intact j to i is g))
  left_chunks j to (p ∷ pieces) [] h g = absurd (omega (arith, g, left_past unread_ok ks intact j to p pieces h))
  left_chunks j to (p ∷ pieces) (i ∷ is) (k, next, at, step, begin, end, what, rest) (there, below, (other, also, on)) =
      let same : other ≡ next = next_one ks intact j other next also step in
      ap (λ (xs : List ChunkValue). chunk_in p.what ++ xs)
      (left_chunks next to pieces is rest (subst (λ (n : ℕ). AreReached ks intact n to is) same on))
      ∙ left_chunk j k p.what is at what
      ∙ ap (λ (n : ℕ). copied unread_ok (untouched ks intact (n ∷ is))) (sym there)

pub chunks_left : (unread_ok : Bool) (ks : List ChunkValue) (file damaged : List ℕ) (intact : Intact) (is : List ℕ) (pieces : List Piece)
    → length file ≤ 2 ^ 60 → IsDamaged ks file damaged intact → AreReached ks intact 0 (length ks) is → ArePieces unread_ok damaged pieces
    → chunks_in pieces ≡ copied unread_ok (untouched ks intact is)
chunks_left unread_ok ks file damaged intact is pieces reach d reached h =
    left_chunks unread_ok ks intact d.well_formed.1.each 0 (length ks) pieces is (pieces_left unread_ok ks file damaged intact d reach pieces h) reached

-- chunks that are laid can be held by their headers
laid_sound : (begin : ℕ) (ks : List ChunkValue) (bytes : List ℕ) → AreLaid begin ks bytes → AllByRecursion IsChunk ks
laid_sound begin [] bytes h = tt
laid_sound begin (k ∷ ks) bytes (front, rest, parts, laid, on) = (laid.chunk, laid_sound (begin + length front) ks rest on)

-- what holds of each chunk holds of those that are untouched and copied
module _ (P : ChunkValue → Type 0) (unread_ok : Bool) (ks : List ChunkValue) (intact : Intact) (each : AllByRecursion P ks) where
  before_each : (o : Option ChunkValue) (xs : List ChunkValue) → ((k : ChunkValue) → o ≡ Some k → P k) → AllByRecursion P xs
      → AllByRecursion P (cons_option o xs)
  before_each None xs here rest = rest
  before_each (Some k) xs here rest = (here k refl, rest)

  at_number : (whole : Bool) (j : ℕ) (k : ChunkValue) → (if whole then slice_get ks j else None) ≡ Some k → P k
  at_number true j k is = each_at P ks j k each is
  at_number false j k is = cc is

  each_untouched : (numbers : List ℕ) → AllByRecursion P (untouched ks intact numbers)
  each_untouched [] = tt
  each_untouched (j ∷ numbers) =
      let whole : Bool = intact.header j && intact.«data» j in
      before_each (if whole then slice_get ks j else None) (untouched ks intact numbers) (at_number whole j) (each_untouched numbers)

  each_copied : (xs : List ChunkValue) → AllByRecursion P xs → AllByRecursion P (copied unread_ok xs)
  each_copied xs h = recursion_from_All P (copied unread_ok xs) (All-filter (is_copied unread_ok) P xs (All-from_recursion P xs h))

  each_kept : (numbers : List ℕ) → AllByRecursion P (copied unread_ok (untouched ks intact numbers))
  each_kept numbers = each_copied (untouched ks intact numbers) (each_untouched numbers)

-- so these make a well-formed file behind the signature
pub well_formed_kept : (unread_ok : Bool) (ks : List ChunkValue) (file : List ℕ) (intact : Intact) (numbers : List ℕ) → IsWellFormed ks file
    → IsWellFormed (signature ∷ copied unread_ok (untouched ks intact numbers)) (laid_each 0 (signature ∷ copied unread_ok (untouched ks intact numbers)))
well_formed_kept unread_ok ks file intact numbers well_formed =
    let kept : List ChunkValue = copied unread_ok (untouched ks intact numbers) in
    let bytes : List ℕ = laid_each 0 (signature ∷ kept) in
    let sound : AllByRecursion IsChunk kept =
    each_kept IsChunk unread_ok ks intact (laid_sound 0 ks (take (length file) file) well_formed.1.laid) numbers in (
      λ none. cc none,
      record {
        signed = refl;
        each = (IsAllowed-signature true, each_kept IsWellFormedChunk unread_ok ks intact well_formed.1.each numbers);
        within = omega arith;
        laid = subst (AreLaid 0 (signature ∷ kept)) (sym (take_all (length bytes) bytes (omega arith)))
            (AreLaid-laid_each 0 (signature ∷ kept) (IsChunk-signature, sound));
      },
    )

pub well_formed_left : (unread_ok : Bool) (ks : List ChunkValue) (file : List ℕ) (intact : Intact) (to : ℕ) (pieces : List Piece) (is : List ℕ)
    → IsWellFormed ks file → DamageLeavesEach unread_ok ks intact 0 to pieces → AreReached ks intact 0 to is
    → IsWellFormed (signature ∷ copied unread_ok (untouched ks intact is)) (relaid pieces)
well_formed_left unread_ok ks file intact to pieces is well_formed left reached =
    subst (λ (xs : List ChunkValue). IsWellFormed (signature ∷ copied unread_ok (untouched ks intact is)) (laid_each 0 (signature ∷ xs)))
    (sym (left_chunks unread_ok ks intact well_formed.1.each 0 to pieces is left reached)) (well_formed_kept unread_ok ks file intact is well_formed)
