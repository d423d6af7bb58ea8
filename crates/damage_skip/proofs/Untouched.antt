-- What is left of a file gives the records of the chunks that were reached and not touched, and no chunk is lost past an intact
-- block header behind a broken header.
use Rattle.std.proofs.Common.{◌≡◌, ◌≢◌, ◌∙◌, ℕ, suc, ◌+◌, ◌^◌, ◌<◌, ◌≤◌, Bool, true, false, ◌&&◌, List, [], ◌∷◌, ◌++◌, Some, length, refl, sym, ap, subst, inl, inr, arith}
use Rattle.std.specs.Prelude.{slice_get}
use Rattle.std.proofs.lemmas.Bool.{cases_lt, cases_order, cases_Bool}
use Rattle.std.proofs.lemmas.List.{append-nil}
use Rattle.block_layout.specs.Layout.{IsBlock}
use Rattle.chunk_header.specs.Chunks.{ChunkValue}
use Rattle.meta_chunk.specs.Files.{Holds, AreRecordsOf, begin_of}
use Rattle.meta_chunk.proofs.Begins.{begin_of_rises}
use Rattle.meta_chunk.proofs.Held.{AreRecordsOf-append}
use Rattle.damage_skip.specs.Pieces.{PieceKind, Piece, AreEvents, records_of, records_in}
use Rattle.damage_skip.specs.Damage.{Intact, IsDamaged, IsIntactFrom, IsNext, AreReached, AreLostUpToABlock, DamageLeaves, DamageLeavesEach, untouched}
use Rattle.damage_skip.proofs.OnePiece.{given_or_kept}
use Rattle.damage_skip.proofs.FoundRecords.{found_holds, records_in_events}
use Rattle.damage_skip.proofs.Damaged.{pieces_left}
use Rattle.damage_skip.proofs.Reached.{reached_to, reached_past, left_past, next_one}

-- what an untouched chunk gives it holds
left_holds : (unread_ok : Bool) (k : ChunkValue) (what : PieceKind) → DamageLeaves unread_ok true true k what → Holds k (records_of what)
left_holds true k what left = found_holds true k what left
left_holds false k what (inl found) = found_holds false k what found
left_holds false k what (inr (inl (compressed, is))) =
    inr (λ has. given_or_kept true k has.0 has.1 (inr (refl, inl compressed)), ap records_of is)
left_holds false k what (inr (inr (transposed, is))) =
    inr (λ has. given_or_kept true k has.0 has.1 (inr (refl, inr transposed)), ap records_of is)

-- one that was touched gives nothing
touched_gives : (unread_ok header «data» : Bool) (k : ChunkValue) (what : PieceKind) → header && «data» ≡ false → DamageLeaves unread_ok header «data» k what
    → records_of what ≡ []
touched_gives unread_ok false d k what touched left = ap records_of left
touched_gives unread_ok true false k what touched left = ap records_of left
touched_gives unread_ok true true k what touched left = cc touched

one_chunk : (k : ChunkValue) (records : List (List ℕ)) → Holds k records → AreRecordsOf (k ∷ []) records
one_chunk k records holds = (records ∷ [], (holds, refl), sym (append-nil records))

untouched-cons : (ks : List ChunkValue) (intact : Intact) (j : ℕ) (is : List ℕ) (k : ChunkValue) → intact.header j && intact.«data» j ≡ true
    → slice_get ks j ≡ Some k → untouched ks intact (j ∷ is) ≡ k ∷ untouched ks intact is
untouched-cons ks intact j is k whole at = rw (whole, at)

touched-cons : (ks : List ChunkValue) (intact : Intact) (j : ℕ) (is : List ℕ) → intact.header j && intact.«data» j ≡ false
    → untouched ks intact (j ∷ is) ≡ untouched ks intact is
touched-cons ks intact j is touched = rw touched

both_true : (a b : Bool) → a && b ≡ true → (a ≡ true) × (b ≡ true)
both_true true true h = (refl, refl)
both_true true false h = cc
both_true false b h = cc

pub left_records : (unread_ok : Bool) (ks : List ChunkValue) (intact : Intact) (j to : ℕ) (pieces : List Piece) (is : List ℕ)
    → DamageLeavesEach unread_ok ks intact j to pieces → AreReached ks intact j to is → AreRecordsOf (untouched ks intact is) (records_in pieces)
left_records unread_ok ks intact j to [] [] h g = ([], refl, refl)
left_records unread_ok ks intact j to [] (i ∷ is) h g = absurd (omega (arith, h, reached_past ks intact j to i is g))
left_records unread_ok ks intact j to (p ∷ pieces) [] h g = absurd (omega (arith, g, left_past unread_ok ks intact j to p pieces h))
left_records unread_ok ks intact j to (p ∷ pieces) (i ∷ is) (k, next, at, step, begin, end, what, rest) (there, below, (other, also, on)) =
    let same : other ≡ next = next_one ks intact j other next also step in
    let behind : AreRecordsOf (untouched ks intact is) (records_in pieces) =
    left_records unread_ok ks intact next to pieces is rest (subst (λ (n : ℕ). AreReached ks intact n to is) same on) in
    subst (λ (n : ℕ). AreRecordsOf (untouched ks intact (n ∷ is)) (records_in (p ∷ pieces))) (sym there)
    (elim (cases_Bool (intact.header j && intact.«data» j)) [
      | inl whole ↦
          let flags = both_true (intact.header j) (intact.«data» j) whole in
          let left : DamageLeaves unread_ok true true k p.what =
          subst (λ (b : Bool). DamageLeaves unread_ok true b k p.what) flags.1
          (subst (λ (b : Bool). DamageLeaves unread_ok b (intact.«data» j) k p.what) flags.0 what) in
          subst (λ (xs : List ChunkValue). AreRecordsOf xs (records_in (p ∷ pieces))) (sym (untouched-cons ks intact j is k whole at))
          (AreRecordsOf-append (k ∷ []) (untouched ks intact is) (records_of p.what) (records_in pieces)
          (one_chunk k (records_of p.what) (left_holds unread_ok k p.what left)) behind)
      | inr touched ↦
          let none : records_of p.what ≡ [] = touched_gives unread_ok (intact.header j) (intact.«data» j) k p.what touched what in
          subst (λ (xs : List ChunkValue). AreRecordsOf xs (records_in (p ∷ pieces))) (sym (touched-cons ks intact j is touched))
          (subst (AreRecordsOf (untouched ks intact is)) (ap (λ (xs : List (List ℕ)). xs ++ records_in pieces) (sym none)) behind)
    ])

-- so do the events of a damaged file
pub events_left : (unread_ok : Bool) (ks : List ChunkValue) (file damaged : List ℕ) (intact : Intact) (is : List ℕ) (events : List Piece)
    → length file ≤ 2 ^ 60 → IsDamaged ks file damaged intact → AreReached ks intact 0 (length ks) is → AreEvents unread_ok damaged events
    → AreRecordsOf (untouched ks intact is) (records_in events)
events_left unread_ok ks file damaged intact is events reach d reached (pieces, h, are) =
    subst (AreRecordsOf (untouched ks intact is)) (sym (records_in_events pieces) ∙ ap records_in are)
    (left_records unread_ok ks intact 0 (length ks) pieces is (pieces_left unread_ok ks file damaged intact d reach pieces h) reached)

-- a chunk that is passed over lies before each intact block header from the begin of the one before it with a broken header on
IsLost : List ChunkValue → Intact → ℕ → ℕ → Type 0
IsLost ks intact j m =
    (j < m) × (intact.header j ≡ false) × ((b : ℕ) → IsIntactFrom ks intact j b → begin_of ks (m + 1) ≤ b)

passed_over : (ks : List ChunkValue) (intact : Intact) (j next m : ℕ) → IsNext ks intact j next → j < m → m < next → IsLost ks intact j m
unfolding IsLost
passed_over ks intact j next m (inl (fine, is)) after before = absurd (omega (arith, is))
passed_over ks intact j next m (inr (broken, inl (b, i, at, lies, is))) after before = (
  after,
  broken,
  λ c here.
      let behind : m + 1 ≤ i = omega (arith, is) in
      omega (arith, at.first c here, lies.begins, begin_of_rises ks (m + 1) i behind),
)
passed_over ks intact j next m (inr (broken, inr (none, is))) after before = (after, broken, λ c here. absurd (none c here))

-- so each chunk from one on that is not reached is lost so
not_reached : (ks : List ChunkValue) (intact : Intact) (j to m : ℕ) (is : List ℕ) → AreReached ks intact j to is
    → j ≤ m → m < to → ((i : ℕ) → slice_get is i ≢ Some m) → (l : ℕ) × IsLost ks intact l m
not_reached ks intact j to m [] h from before missed = absurd (omega (arith, h))
not_reached ks intact j to m (i ∷ is) (at, below, (next, step, rest)) from before missed =
    elim (cases_order j m) [
      | inl same ↦ absurd (missed 0 (ap Some (at ∙ same)))
      | inr (inl less) ↦ elim (cases_lt m next) [
        | inl short ↦ (j, passed_over ks intact j next m step less short)
        | inr behind ↦ not_reached ks intact next to m is rest behind before (λ n there. missed (suc n) there)
      ]
      | inr (inr more) ↦ absurd (omega arith)
    ]

pub lost_up_to_a_block : (ks : List ChunkValue) (intact : Intact) (to : ℕ) (is : List ℕ) → AreReached ks intact 0 to is
    → AreLostUpToABlock ks intact to is
unfolding IsLost
lost_up_to_a_block ks intact to is h =
    λ m before missed.
    let lost = not_reached ks intact 0 to m is h (omega arith) before missed in
    (lost.0, lost.1.0, lost.1.1, lost.1.2)

-- where all block headers are intact, up to the first block
pub lost_up_to_first : (ks : List ChunkValue) (intact : Intact) (to lost : ℕ) (is : List ℕ)
    → ((b : ℕ) → IsBlock b → b < begin_of ks (length ks) → intact.block b ≡ true)
    → AreReached ks intact 0 to is → lost < to → ((i : ℕ) → slice_get is i ≢ Some lost)
    → (j : ℕ) × (j < lost) × (intact.header j ≡ false)
    × ((b : ℕ) → IsBlock b → begin_of ks j ≤ b → begin_of ks (lost + 1) ≤ b)
lost_up_to_first ks intact to lost is whole h before missed =
    let end : to ≤ length ks = (reached_to ks intact 0 to is (omega arith) h).1 in
    let there = lost_up_to_a_block ks intact to is h lost before missed in (
      there.0,
      there.1,
      there.2,
      λ b is_block from. elim (cases_lt b (begin_of ks (length ks))) [
        | inl below ↦ there.3 b (record { is_block = is_block; from = from; below = below; is_intact = whole b is_block below })
        | inr past ↦ omega (arith, begin_of_rises ks (lost + 1) (length ks) (omega arith))
      ],
    )
