-- The chunks that are reached past damage are one list, and so is what is left.
use Rattle.std.proofs.Common.{◌≡◌, ◌∙◌, ◌⊎◌, ℕ, zero, suc, ◌+◌, ◌%◌, ◌<◌, ◌≤◌, max, Bool, true, false, List, [], ◌∷◌, ◌++◌, length, refl, sym, ap, subst, inl, inr, arith}
use Rattle.std.specs.Prelude.{map}
use Rattle.std.specs.List.{AllByRecursion}
use Rattle.std.proofs.lemmas.Bool.{cases_lt, cases_Bool}
use Rattle.std.proofs.lemmas.Option.{slice_get_cases, slice_get_within, same_Some}
use Rattle.block_layout.specs.Layout.{IsBlock}
use Rattle.chunk_header.specs.Chunks.{ChunkValue}
use Rattle.chunk_header.specs.SimpleChunks.{IsCompressed}
use Rattle.chunk_header.proofs.Decided.{IsDecided, both, same_decided, less_decided, at_most_decided, equal_decided, some_below_decided}
use Rattle.meta_chunk.specs.Files.{IsTransposed, IsWellFormedChunk, begin_of, LiesIn}
use Rattle.meta_chunk.proofs.Begins.{holder_of, holder_one}
use Rattle.chunk_reader.proofs.ChainSteps.{each_at}
use Rattle.chunk_reader.proofs.FaultsDecided.{least_below}
use Rattle.chunk_reader.specs.declared.reasons.Why.TheVariants as why
use Rattle.damage_skip.specs.Pieces.{PieceKind, Records, Kept, SignatureOrPadding, Skipped, Piece, IsFoundAs}
use Rattle.damage_skip.specs.Damage.{Intact, IsIntactFrom, IsNext, AreReached, DamageLeaves, DamageLeavesEach}
use Rattle.damage_skip.proofs.OnePiece.{found_one, found_of, given_or_kept}
use Rattle.damage_skip.proofs.Tiles.{same_piece}

-- the chunk reached next is behind the one before, and none past the last
pub next_past : (ks : List ChunkValue) (intact : Intact) (j next : ℕ) → j < length ks → IsNext ks intact j next
    → (j < next) × (next ≤ length ks)
next_past ks intact j next below (inl (whole, is)) = (omega (arith, is), omega (arith, is))
next_past ks intact j next below (inr (broken, inl (b, i, first, contains, is))) =
    (omega (arith, is), omega (arith, is, contains.number))
next_past ks intact j next below (inr (broken, inr (none, is))) = (omega (arith, is), omega (arith, is))

-- it is one
holder_same : (ks : List ChunkValue) (b c i k : ℕ) → b ≡ c → LiesIn ks b i → LiesIn ks c k → i ≡ k
holder_same ks b c i k same h g =
    holder_one ks i k c (omega (arith, h.begins)) (omega (arith, h.ends)) g.begins g.ends

pub next_one : (ks : List ChunkValue) (intact : Intact) (j next other : ℕ) → IsNext ks intact j next → IsNext ks intact j other → next ≡ other
next_one ks intact j next other (inl (whole, is)) (inl (also, there)) = is ∙ sym there
next_one ks intact j next other (inl (whole, is)) (inr (broken, rest)) = cc
next_one ks intact j next other (inr (broken, rest)) (inl (whole, there)) = cc
next_one ks intact j next other (inr (broken, inl (b, i, at, contains, is))) (inr (also, inl (c, k, there_too, holds, there))) =
    let same : b ≡ c = omega (arith, at.first c there_too.here, there_too.first b at.here) in
    is ∙ ap (λ (n : ℕ). max n (j + 1)) (holder_same ks b c i k same contains holds) ∙ sym there
next_one ks intact j next other (inr (broken, inl (b, i, at, contains, is))) (inr (also, inr (none, there))) = absurd (none b at.here)
next_one ks intact j next other (inr (broken, inr (none, is))) (inr (also, inl (c, k, at, holds, there))) = absurd (none c at.here)
next_one ks intact j next other (inr (broken, inr (none, is))) (inr (also, inr (nor, there))) = is ∙ sym there

-- and there is one
true_decided : (b : Bool) → IsDecided (b ≡ true)
true_decided true = inl refl
true_decided false = inr (λ same. cc)

intact_decided : (ks : List ChunkValue) (intact : Intact) (j b : ℕ) → IsDecided (IsIntactFrom ks intact j b)
intact_decided ks intact j b =
    same_decided (IsBlock b × ((begin_of ks j ≤ b) × ((b < begin_of ks (length ks)) × (intact.block b ≡ true)))) _
    (λ h. record { is_block = h.0; from = h.1.0; below = h.1.1.0; is_intact = h.1.1.1 })
    (λ h. (h.is_block, (h.from, (h.below, h.is_intact))))
    (both _ _ (equal_decided (b % 65536) 0)
    (both _ _ (at_most_decided (begin_of ks j) b)
    (both _ _ (less_decided b (begin_of ks (length ks))) (true_decided (intact.block b)))))

some_intact_decided : (ks : List ChunkValue) (intact : Intact) (j : ℕ) → IsDecided ((b : ℕ) × IsIntactFrom ks intact j b)
some_intact_decided ks intact j =
    same_decided ((b : ℕ) × (b < begin_of ks (length ks)) × IsIntactFrom ks intact j b) _
    (λ h. (h.0, h.2))
    (λ h. (h.0, h.1.below, h.1))
    (some_below_decided (IsIntactFrom ks intact j) (intact_decided ks intact j) (begin_of ks (length ks)))

pub next_of : (ks : List ChunkValue) (intact : Intact) (j : ℕ) → (next : ℕ) × IsNext ks intact j next
next_of ks intact j =
    elim (cases_Bool (intact.header j)) [
      | inl whole ↦ (j + 1, inl (whole, refl))
      | inr broken ↦ elim (some_intact_decided ks intact j) [
        | inl some ↦
            let least = least_below (IsIntactFrom ks intact j) (intact_decided ks intact j) some.0 some.0 (omega arith) some.1 in
            let holder = holder_of ks least.0 least.1.below in
            let contains : LiesIn ks least.0 holder.0 = record {
              number = slice_get_within ks holder.0 holder.1 holder.2;
              begins = holder.3;
              ends = holder.4;
            } in
            (max holder.0 (j + 1), inr (broken, inl (least.0, holder.0, record { here = least.1; first = least.2 }, contains, refl)))
        | inr none ↦ (length ks, inr (broken, inr (λ b here. none (b, here), refl)))
      ]
    ]

-- so the chunks that are reached from one on rise, up to the end
pub reached_to : (ks : List ChunkValue) (intact : Intact) (j to : ℕ) (is : List ℕ) → j ≤ length ks → AreReached ks intact j to is
    → (j ≤ to) × (to ≤ length ks)
reached_to ks intact j to [] inside h = (omega (arith, h), omega (arith, h, inside))
reached_to ks intact j to (i ∷ is) inside (at, below, (next, step, rest)) =
    let past : (j < next) × (next ≤ length ks) = next_past ks intact j next below step in
    let on : (next ≤ to) × (to ≤ length ks) = reached_to ks intact next to is past.1 rest in
    (omega (arith, past.0, on.0), on.1)

pub reached_past : (ks : List ChunkValue) (intact : Intact) (j to i : ℕ) (is : List ℕ) → AreReached ks intact j to (i ∷ is) → j < to
reached_past ks intact j to i is (at, below, (next, step, rest)) =
    let past : (j < next) × (next ≤ length ks) = next_past ks intact j next below step in
    omega (arith, past.0, (reached_to ks intact next to is past.1 rest).0)

-- and are one list
pub reached_one : (ks : List ChunkValue) (intact : Intact) (j to : ℕ) (is js : List ℕ) → AreReached ks intact j to is → AreReached ks intact j to js
    → is ≡ js
reached_one ks intact j to [] [] h g = refl
reached_one ks intact j to [] (y ∷ js) h g = absurd (omega (arith, h, reached_past ks intact j to y js g))
reached_one ks intact j to (x ∷ is) [] h g = absurd (omega (arith, g, reached_past ks intact j to x is h))
reached_one ks intact j to (x ∷ is) (y ∷ js) (at, below, (next, step, rest)) (there, under, (other, also, on)) =
    let same : other ≡ next = next_one ks intact j other next also step in
    ap (λ (n : ℕ). n ∷ is) (at ∙ sym there)
    ∙ ap (λ (ns : List ℕ). y ∷ ns)
    (reached_one ks intact next to is js rest (subst (λ (n : ℕ). AreReached ks intact n to js) same on))

-- those reached behind some are reached
pub reached_on : (ks : List ChunkValue) (intact : Intact) (j middle to : ℕ) (is js : List ℕ) → AreReached ks intact j middle is
    → AreReached ks intact middle to js → AreReached ks intact j to (is ++ js)
reached_on ks intact j middle to [] js same g = subst (λ (n : ℕ). AreReached ks intact n to js) (sym same) g
reached_on ks intact j middle to (i ∷ is) js (at, below, (next, step, rest)) g =
    (at, below, (next, step, reached_on ks intact next middle to is js rest g))

reached_from : (ks : List ChunkValue) (intact : Intact) (most j : ℕ) → length ks ≤ j + most → j ≤ length ks
    → (is : List ℕ) × AreReached ks intact j (length ks) is
reached_from ks intact zero j far inside = ([], omega arith)
reached_from ks intact (suc most) j far inside =
    elim (cases_lt j (length ks)) [
      | inl below ↦
          let next = next_of ks intact j in
          let past = next_past ks intact j next.0 below next.1 in
          let rest = reached_from ks intact most next.0 (omega (arith, past.0)) past.1 in
          (j ∷ rest.0, (refl, below, (next.0, next.1, rest.1)))
      | inr end ↦ ([], omega arith)
    ]

pub reached_of : (ks : List ChunkValue) (intact : Intact) (j : ℕ) → j ≤ length ks → (is : List ℕ) × AreReached ks intact j (length ks) is
reached_of ks intact j inside = reached_from ks intact (length ks) j (omega arith) inside

-- a chunk that is left unread is none that is found where such chunks aren't kept
unread_or_found : (k : ChunkValue) (what : PieceKind) → (IsCompressed k ⊎ IsTransposed k) → ¬ IsFoundAs false k what
unread_or_found k (Records records c) unread (simple, is) = given_or_kept true k records simple (inr (refl, unread))
unread_or_found k (Kept c) (inl compressed) (inl metadata, is) =
    let r : k.kind ≡ 0x72 = compressed.0 in let m : k.kind ≡ 0x6d = metadata.0 in omega arith
unread_or_found k (Kept c) (inr transposed) (inl metadata, is) =
    let t : k.kind ≡ 0x74 = transposed in let m : k.kind ≡ 0x6d = metadata.0 in omega arith
unread_or_found k (Kept c) unread (inr (kept, also), is) = cc kept
unread_or_found k SignatureOrPadding (inl compressed) (inl s) =
    let r : k.kind ≡ 0x72 = compressed.0 in let n : k.kind ≡ 0x73 = s.0 in omega arith
unread_or_found k SignatureOrPadding (inl compressed) (inr p) =
    let r : k.kind ≡ 0x72 = compressed.0 in let n : k.kind ≡ 0x70 = p.0 in omega arith
unread_or_found k SignatureOrPadding (inr transposed) (inl s) =
    let t : k.kind ≡ 0x74 = transposed in let n : k.kind ≡ 0x73 = s.0 in omega arith
unread_or_found k SignatureOrPadding (inr transposed) (inr p) =
    let t : k.kind ≡ 0x74 = transposed in let n : k.kind ≡ 0x70 = p.0 in omega arith
unread_or_found k (Skipped w) unread found = found

pub compressed_or_transposed : (k : ChunkValue) → IsCompressed k → ¬ IsTransposed k
compressed_or_transposed k compressed transposed =
    let r : k.kind ≡ 0x72 = compressed.0 in let t : k.kind ≡ 0x74 = transposed in omega arith

-- what is left of a chunk is one
pub left_as_one : (unread_ok header «data» : Bool) (k : ChunkValue) (a b : PieceKind) → DamageLeaves unread_ok header «data» k a → DamageLeaves unread_ok header «data» k b → a ≡ b
left_as_one unread_ok false d k a b h g = h ∙ sym g
left_as_one unread_ok true false k a b h g = h ∙ sym g
left_as_one true true true k a b h g = found_one true k a b h g
left_as_one false true true k a b (inl h) (inl g) = found_one false k a b h g
left_as_one false true true k a b (inl h) (inr (inl (c, g))) = absurd (unread_or_found k a (inl c) h)
left_as_one false true true k a b (inl h) (inr (inr (t, g))) = absurd (unread_or_found k a (inr t) h)
left_as_one false true true k a b (inr (inl (c, h))) (inl g) = absurd (unread_or_found k b (inl c) g)
left_as_one false true true k a b (inr (inl (c, h))) (inr (inl (d, g))) = h ∙ sym g
left_as_one false true true k a b (inr (inl (c, h))) (inr (inr (t, g))) = absurd (compressed_or_transposed k c t)
left_as_one false true true k a b (inr (inr (t, h))) (inl g) = absurd (unread_or_found k b (inr t) g)
left_as_one false true true k a b (inr (inr (t, h))) (inr (inl (c, g))) = absurd (compressed_or_transposed k c t)
left_as_one false true true k a b (inr (inr (t, h))) (inr (inr (u, g))) = h ∙ sym g

-- and there is such, where the chunk is read or left unread
left_as_of : (unread_ok header «data» : Bool) (k : ChunkValue) → IsWellFormedChunk k → (what : PieceKind) × DamageLeaves unread_ok header «data» k what
left_as_of unread_ok false d k formed = (Skipped why.HeaderHash, refl)
left_as_of unread_ok true false k formed = (Skipped why.DataHash, refl)
left_as_of true true true k (inl plain) = found_of true k (inl plain.1)
left_as_of true true true k (inr unread) = found_of true k (inr unread.1)
left_as_of false true true k (inl plain) =
    let found = found_of false k plain.1 in (found.0, inl found.1)
left_as_of false true true k (inr (small, inl t)) = (Skipped why.Transposed, inr (inr (t, refl)))
left_as_of false true true k (inr (small, inr c)) = (Skipped why.Compressed, inr (inl (c, refl)))

-- the pieces that are left are those of chunks that are reached
pub left_numbers : (unread_ok : Bool) (ks : List ChunkValue) (intact : Intact) (j to : ℕ) (pieces : List Piece) → DamageLeavesEach unread_ok ks intact j to pieces
    → (is : List ℕ) × AreReached ks intact j to is
left_numbers unread_ok ks intact j to [] h = ([], h)
left_numbers unread_ok ks intact j to (p ∷ pieces) (k, next, at, step, begin, end, what, rest) =
    let behind = left_numbers unread_ok ks intact next to pieces rest in
    (j ∷ behind.0, (refl, slice_get_within ks j k at, (next, step, behind.1)))

-- which rise
pub left_to : (unread_ok : Bool) (ks : List ChunkValue) (intact : Intact) (j to : ℕ) (pieces : List Piece) → j ≤ length ks
    → DamageLeavesEach unread_ok ks intact j to pieces → (j ≤ to) × (to ≤ length ks)
left_to unread_ok ks intact j to pieces inside h =
    let numbers = left_numbers unread_ok ks intact j to pieces h in
    reached_to ks intact j to numbers.0 inside numbers.1

pub left_past : (unread_ok : Bool) (ks : List ChunkValue) (intact : Intact) (j to : ℕ) (p : Piece) (pieces : List Piece)
    → DamageLeavesEach unread_ok ks intact j to (p ∷ pieces) → j < to
left_past unread_ok ks intact j to p pieces (k, next, at, step, begin, end, what, rest) =
    let past : (j < next) × (next ≤ length ks) = next_past ks intact j next (slice_get_within ks j k at) step in
    omega (arith, past.0, (left_to unread_ok ks intact next to pieces past.1 rest).0)

-- so they are one list
pub left_one : (unread_ok : Bool) (ks : List ChunkValue) (intact : Intact) (j to : ℕ) (ps qs : List Piece)
    → DamageLeavesEach unread_ok ks intact j to ps → DamageLeavesEach unread_ok ks intact j to qs → ps ≡ qs
left_one unread_ok ks intact j to [] [] h g = refl
left_one unread_ok ks intact j to [] (q ∷ qs) h g = absurd (omega (arith, h, left_past unread_ok ks intact j to q qs g))
left_one unread_ok ks intact j to (p ∷ ps) [] h g = absurd (omega (arith, g, left_past unread_ok ks intact j to p ps h))
left_one unread_ok ks intact j to (p ∷ ps) (q ∷ qs) (k, next, at, step, begin, end, what, rest) (l, other, there, also, from, here, that, on) =
    let chunk : l ≡ k = same_Some l k (sym there ∙ at) in
    let same : other ≡ next = next_one ks intact j other next also step in
    let left : DamageLeaves unread_ok (intact.header j) (intact.«data» j) k q.what =
    subst (λ (x : ChunkValue). DamageLeaves unread_ok (intact.header j) (intact.«data» j) x q.what) chunk that in
    ap (λ (x : Piece). x ∷ ps)
    (same_piece p q (begin ∙ sym from) (end ∙ ap (begin_of ks) (sym same) ∙ sym here)
    (left_as_one unread_ok (intact.header j) (intact.«data» j) k p.what q.what what left))
    ∙ ap (λ (xs : List Piece). q ∷ xs)
    (left_one unread_ok ks intact next to ps qs rest (subst (λ (n : ℕ). DamageLeavesEach unread_ok ks intact n to qs) same on))

-- some behind others are left
pub left_on : (unread_ok : Bool) (ks : List ChunkValue) (intact : Intact) (j middle to : ℕ) (ps qs : List Piece) → DamageLeavesEach unread_ok ks intact j middle ps
    → DamageLeavesEach unread_ok ks intact middle to qs → DamageLeavesEach unread_ok ks intact j to (ps ++ qs)
left_on unread_ok ks intact j middle to [] qs same g = subst (λ (n : ℕ). DamageLeavesEach unread_ok ks intact n to qs) (sym same) g
left_on unread_ok ks intact j middle to (p ∷ ps) qs (k, next, at, step, begin, end, what, rest) g =
    (k, next, at, step, begin, end, what, left_on unread_ok ks intact next middle to ps qs rest g)

left_from : (unread_ok : Bool) (ks : List ChunkValue) (intact : Intact) (most j : ℕ) → AllByRecursion IsWellFormedChunk ks
    → length ks ≤ j + most → j ≤ length ks → (pieces : List Piece) × DamageLeavesEach unread_ok ks intact j (length ks) pieces
left_from unread_ok ks intact zero j formed far inside = ([], omega arith)
left_from unread_ok ks intact (suc most) j formed far inside =
    elim (slice_get_cases ks j).1 [
      | inl (k, below, at, same) ↦
          let next = next_of ks intact j in
          let past = next_past ks intact j next.0 below next.1 in
          let rest = left_from unread_ok ks intact most next.0 formed (omega (arith, past.0)) past.1 in
          let what = left_as_of unread_ok (intact.header j) (intact.«data» j) k (each_at IsWellFormedChunk ks j k formed at) in
          let piece : Piece = record { begin = begin_of ks j; end = begin_of ks next.0; what = what.0 } in
          (piece ∷ rest.0, (k, next.0, at, next.1, refl, refl, what.1, rest.1))
      | inr (end, none) ↦ ([], omega arith)
    ]

pub left_of : (unread_ok : Bool) (ks : List ChunkValue) (intact : Intact) (j : ℕ) → AllByRecursion IsWellFormedChunk ks → j ≤ length ks
    → (pieces : List Piece) × DamageLeavesEach unread_ok ks intact j (length ks) pieces
left_of unread_ok ks intact j formed inside = left_from unread_ok ks intact (length ks) j formed (omega arith) inside

-- they begin where the chunks do that are reached
pub left_begins : (unread_ok : Bool) (ks : List ChunkValue) (intact : Intact) (j to : ℕ) (pieces : List Piece) (is : List ℕ)
    → DamageLeavesEach unread_ok ks intact j to pieces → AreReached ks intact j to is → map (λ p. p.begin) pieces ≡ map (begin_of ks) is
left_begins unread_ok ks intact j to [] [] h g = refl
left_begins unread_ok ks intact j to [] (i ∷ is) h g = absurd (omega (arith, h, reached_past ks intact j to i is g))
left_begins unread_ok ks intact j to (p ∷ pieces) [] h g = absurd (omega (arith, g, left_past unread_ok ks intact j to p pieces h))
left_begins unread_ok ks intact j to (p ∷ pieces) (i ∷ is) (k, next, at, step, begin, end, what, rest) (there, below, (other, also, on)) =
    let same : other ≡ next = next_one ks intact j other next also step in
    ap (λ (n : ℕ). n ∷ map (λ (q : Piece). q.begin) pieces) (begin ∙ ap (begin_of ks) (sym there))
    ∙ ap (λ (ns : List ℕ). begin_of ks i ∷ ns)
    (left_begins unread_ok ks intact next to pieces is rest (subst (λ (n : ℕ). AreReached ks intact n to is) same on))
