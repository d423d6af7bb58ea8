-- Which chunks are copied, by what they are found as.
use Rattle.std.proofs.Common.{◌≡◌, ◌∙◌, ◌⊎◌, ℕ, ◌^◌, ◌≤◌, Bool, true, false, List, [], ◌∷◌, ◌++◌, length, refl, sym, ap, subst, inl, inr}
use Rattle.std.specs.Prelude.{not, ◌&&◌, ◌||◌, ◌==◌, if◌then◌else◌}
use Rattle.std.specs.List.{AllByRecursion}
use Rattle.std.proofs.lemmas.Bool.{cond-true, cond-false}
use Rattle.chunk_header.specs.Chunks.{ChunkValue}
use Rattle.chunk_header.specs.SimpleChunks.{IsCompressed}
use Rattle.meta_chunk.specs.Kinds.{IsSignature, IsPadding}
use Rattle.meta_chunk.specs.Files.{is_unread, IsPlain, IsTransposed}
use Rattle.meta_chunk.specs.Laid.{end_of_chunk}
use Rattle.chunk_reader.specs.Faults.{IsAllowed}
use Rattle.chunk_reader.proofs.AllowedChunks.{allowed_small}
use Rattle.chunk_reader.proofs.Verdicts.{is_unread-plain, is_unread-unread}
use Rattle.damage_skip.specs.Pieces.{PieceKind, Records, Kept, SignatureOrPadding, Skipped, Piece, IsFoundAs}
use Rattle.damage_skip.specs.FilePieces.{AreFound}
use Rattle.repair_copy.specs.RepairPuts.{chunk_in, chunks_in}
use Rattle.repair_copy.specs.CopiedChunks.{is_copied, copied}

-- whether a chunk of a kind is copied
abbrev of_kind : ℕ → Bool
of_kind kind = (kind == 0x72) || (kind == 0x6d) || (kind == 0x74)

copied_kind : (unread_ok : Bool) (k : ChunkValue) (kind : ℕ) → k.kind ≡ kind → is_copied unread_ok k ≡ of_kind kind && (unread_ok || not (is_unread k))
copied_kind unread_ok k kind is = ap (λ (n : ℕ). of_kind n && (unread_ok || not (is_unread k))) is

-- a chunk that is read, or one that is left unread where such chunks are kept
IsWanted : Bool → ChunkValue → Type 0
IsWanted unread_ok k = (unread_ok ≡ true) ⊎ (is_unread k ≡ false)

wanted : (unread_ok : Bool) (k : ChunkValue) → IsWanted unread_ok k → unread_ok || not (is_unread k) ≡ true
unfolding IsWanted
wanted true k h = refl
wanted false k (inl unread_ok) = cc unread_ok
wanted false k (inr read) = ap not read

simple_copied : (unread_ok : Bool) (k : ChunkValue) → k.kind ≡ 0x72 → IsWanted unread_ok k → is_copied unread_ok k ≡ true
simple_copied unread_ok k is h = copied_kind unread_ok k 0x72 is ∙ wanted unread_ok k h

metadata_copied : (unread_ok : Bool) (k : ChunkValue) → k.kind ≡ 0x6d → IsWanted unread_ok k → is_copied unread_ok k ≡ true
metadata_copied unread_ok k is h = copied_kind unread_ok k 0x6d is ∙ wanted unread_ok k h

transposed_copied : (unread_ok : Bool) (k : ChunkValue) → k.kind ≡ 0x74 → IsWanted unread_ok k → is_copied unread_ok k ≡ true
transposed_copied unread_ok k is h = copied_kind unread_ok k 0x74 is ∙ wanted unread_ok k h

-- signatures and padding are not copied
pub left_out_stays : (unread_ok : Bool) (k : ChunkValue) → (IsSignature k ⊎ IsPadding k) → is_copied unread_ok k ≡ false
left_out_stays unread_ok k (inl s) = copied_kind unread_ok k 0x73 s.0
left_out_stays unread_ok k (inr p) = copied_kind unread_ok k 0x70 p.0

-- nor are unread chunks where they aren't kept
pub unread_stays : (k : ChunkValue) → length k.«data» ≤ 2 ^ 26 → (IsTransposed k ⊎ IsCompressed k) → is_copied false k ≡ false
unread_stays k small (inl t) =
    copied_kind false k 0x74 t ∙ ap not (is_unread-unread k (small, inl t))
unread_stays k small (inr c) =
    copied_kind false k 0x72 c.0 ∙ ap not (is_unread-unread k (small, inr c))

-- chunks behind the one of a piece, if it has one
one_before : (unread_ok : Bool) (k : ChunkValue) (own xs : List ChunkValue) → is_copied unread_ok k ≡ true → own ≡ k ∷ []
    → own ++ xs ≡ (if is_copied unread_ok k then k ∷ xs else xs)
one_before unread_ok k own xs is same =
    ap (λ (ys : List ChunkValue). ys ++ xs) same ∙ sym (cond-true (is_copied unread_ok k) (k ∷ xs) xs is)

pub none_before : (unread_ok : Bool) (k : ChunkValue) (own xs : List ChunkValue) → is_copied unread_ok k ≡ false → own ≡ []
    → own ++ xs ≡ (if is_copied unread_ok k then k ∷ xs else xs)
none_before unread_ok k own xs not none =
    ap (λ (ys : List ChunkValue). ys ++ xs) none ∙ sym (cond-false (is_copied unread_ok k) (k ∷ xs) xs not)

plain_wanted : (unread_ok : Bool) (k : ChunkValue) → IsPlain k → IsWanted unread_ok k
unfolding IsWanted
plain_wanted unread_ok k plain = inr (is_unread-plain k plain)

-- a chunk that is found is the piece's where it is copied
pub found_chunk : (unread_ok : Bool) (k : ChunkValue) (what : PieceKind) (xs : List ChunkValue) → length k.«data» ≤ 2 ^ 26 → IsFoundAs unread_ok k what
    → chunk_in what ++ xs ≡ (if is_copied unread_ok k then k ∷ xs else xs)
unfolding IsWanted
found_chunk unread_ok k (Records records c) xs small (simple, is) =
    one_before unread_ok k (c ∷ []) xs
    (simple_copied unread_ok k simple.kind (plain_wanted unread_ok k (small, inl (records, simple))))
    (ap (λ (x : ChunkValue). x ∷ []) is)
found_chunk unread_ok k (Kept c) xs small (inl metadata, is) =
    one_before unread_ok k (c ∷ []) xs
    (metadata_copied unread_ok k metadata.0 (plain_wanted unread_ok k (small, inr (inr (inl metadata)))))
    (ap (λ (x : ChunkValue). x ∷ []) is)
found_chunk unread_ok k (Kept c) xs small (inr (kept, inl compressed), is) =
    one_before unread_ok k (c ∷ []) xs (simple_copied unread_ok k compressed.0 (inl kept)) (ap (λ (x : ChunkValue). x ∷ []) is)
found_chunk unread_ok k (Kept c) xs small (inr (kept, inr transposed), is) =
    one_before unread_ok k (c ∷ []) xs (transposed_copied unread_ok k transposed (inl kept)) (ap (λ (x : ChunkValue). x ∷ []) is)
found_chunk unread_ok k SignatureOrPadding xs small left_out = none_before unread_ok k [] xs (left_out_stays unread_ok k left_out) refl
found_chunk unread_ok k (Skipped w) xs small found = absurd found

-- so the pieces of chunks that are found have those that are copied
pub found_chunks : (unread_ok : Bool) (place : ℕ) (ks : List ChunkValue) (pieces : List Piece) → AllByRecursion (IsAllowed unread_ok) ks
    → AreFound unread_ok place ks pieces → chunks_in pieces ≡ copied unread_ok ks
found_chunks unread_ok place [] pieces each h = ap chunks_in h
found_chunks unread_ok place (k ∷ ks) [] each h = elim h [ ]
found_chunks unread_ok place (k ∷ ks) (p ∷ pieces) each (begin, end, found, rest) =
    ap (λ (xs : List ChunkValue). chunk_in p.what ++ xs) (found_chunks unread_ok (end_of_chunk place k) ks pieces each.1 rest)
    ∙ found_chunk unread_ok k p.what (copied unread_ok ks) (allowed_small unread_ok k each.0) found

-- the chunk of such a piece is copied
one_copied : (unread_ok : Bool) (k c : ChunkValue) → c ≡ k → is_copied unread_ok k ≡ true → AllByRecursion (λ x. is_copied unread_ok x ≡ true) (c ∷ [])
one_copied unread_ok k c same is = (subst (λ (x : ChunkValue). is_copied unread_ok x ≡ true) (sym same) is, tt)

pub found_copied : (unread_ok : Bool) (k : ChunkValue) (what : PieceKind) → length k.«data» ≤ 2 ^ 26 → IsFoundAs unread_ok k what
    → AllByRecursion (λ c. is_copied unread_ok c ≡ true) (chunk_in what)
unfolding IsWanted
found_copied unread_ok k (Records records c) small (simple, is) =
    one_copied unread_ok k c is (simple_copied unread_ok k simple.kind (plain_wanted unread_ok k (small, inl (records, simple))))
found_copied unread_ok k (Kept c) small (inl metadata, is) =
    one_copied unread_ok k c is (metadata_copied unread_ok k metadata.0 (plain_wanted unread_ok k (small, inr (inr (inl metadata)))))
found_copied unread_ok k (Kept c) small (inr (kept, inl compressed), is) =
    one_copied unread_ok k c is (simple_copied unread_ok k compressed.0 (inl kept))
found_copied unread_ok k (Kept c) small (inr (kept, inr transposed), is) =
    one_copied unread_ok k c is (transposed_copied unread_ok k transposed (inl kept))
found_copied unread_ok k SignatureOrPadding small left_out = tt
found_copied unread_ok k (Skipped w) small found = tt

-- so is an allowed chunk that is neither a signature nor padding
plain_copied : (unread_ok : Bool) (k : ChunkValue) → IsPlain k → ¬ (IsSignature k ⊎ IsPadding k) → is_copied unread_ok k ≡ true
plain_copied unread_ok k (small, inl (records, simple)) active =
    simple_copied unread_ok k simple.kind (plain_wanted unread_ok k (small, inl (records, simple)))
plain_copied unread_ok k (small, inr (inl s)) active = absurd (active (inl s))
plain_copied unread_ok k (small, inr (inr (inl m))) active = metadata_copied unread_ok k m.0 (plain_wanted unread_ok k (small, inr (inr (inl m))))
plain_copied unread_ok k (small, inr (inr (inr p))) active = absurd (active (inr p))

active_copied : (unread_ok : Bool) (k : ChunkValue) → IsAllowed unread_ok k → ¬ (IsSignature k ⊎ IsPadding k) → is_copied unread_ok k ≡ true
unfolding IsWanted
active_copied false k plain active = plain_copied false k plain active
active_copied true k (inl plain) active = plain_copied true k plain active
active_copied true k (inr (small, inl t)) active = transposed_copied true k t (inl refl)
active_copied true k (inr (small, inr c)) active = simple_copied true k c.0 (inl refl)

pub each_active : (unread_ok : Bool) (ks : List ChunkValue) → AllByRecursion (IsAllowed unread_ok) ks
    → AllByRecursion (λ k. ¬ (IsSignature k ⊎ IsPadding k)) ks → AllByRecursion (λ k. is_copied unread_ok k ≡ true) ks
each_active unread_ok [] each h = tt
each_active unread_ok (k ∷ ks) each h = (active_copied unread_ok k each.0 h.0, each_active unread_ok ks each.1 h.1)

-- chunks that are copied are all copied
pub copied_all : (unread_ok : Bool) (ks : List ChunkValue) → AllByRecursion (λ k. is_copied unread_ok k ≡ true) ks → copied unread_ok ks ≡ ks
copied_all unread_ok [] h = refl
copied_all unread_ok (k ∷ ks) h =
    cond-true (is_copied unread_ok k) (k ∷ copied unread_ok ks) (copied unread_ok ks) h.0
    ∙ ap (λ (xs : List ChunkValue). k ∷ xs) (copied_all unread_ok ks h.1)

-- and none where none is
pub copied_none : (unread_ok : Bool) (ks : List ChunkValue) → AllByRecursion (λ k. is_copied unread_ok k ≡ false) ks → copied unread_ok ks ≡ []
copied_none unread_ok [] h = refl
copied_none unread_ok (k ∷ ks) h =
    cond-false (is_copied unread_ok k) (k ∷ copied unread_ok ks) (copied unread_ok ks) h.0 ∙ copied_none unread_ok ks h.1
