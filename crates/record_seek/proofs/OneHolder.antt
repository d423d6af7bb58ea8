-- One chunk at most holds a position.
use Rattle.std.proofs.Common.{◌≡◌, ◌∙◌, ℕ, ◌≤◌, false, List, [], ◌∷◌, refl, sym, ap, subst, inl, inr, arith}
use Rattle.std.specs.List.{AllByRecursion}
use Rattle.block_layout.specs.Layout.{block_of}
use Rattle.chunk_reader.specs.Holders.{TellsBegin, IsBlockFault, ArePlacesBetween, IsOnWay, IsHolder, IsHolderFault}
use Rattle.chunk_reader.specs.Faults.{IsVerdict}
use Rattle.chunk_reader.specs.Places.{end_at}
use Rattle.chunk_reader.specs.Reasons.{Applies, NoneOf, IsFirstOf, unpassed_reasons}
use Rattle.chunk_reader.specs.declared.reasons.Fault.{Fault}
use Rattle.chunk_reader.specs.declared.reasons.Why.{Why}
use Rattle.chunk_reader.specs.declared.reasons.Why.TheVariants as why
use Rattle.chunk_reader.proofs.FileFaults.{verdict_is_one}
use Rattle.chunk_reader.proofs.NoReason.{none_is_first}
use Rattle.chunk_reader.proofs.PassedChunks.{end_at_after}
use Rattle.chunk_reader.proofs.Verdicts.{first_in_front, verdict_loading}
use Rattle.record_seek.proofs.Finding.{told_one}

-- chunks that lead on by a property go no further than to a place: no chunk is passed there, or it hasn't the property
abbrev pub StopsAt : (ℕ → Type 0) → List ℕ → ℕ → Type 0
StopsAt P file place = NoneOf (Applies file place) unpassed_reasons → ¬ P place

-- from one place they stop at one
pub stops_are_one : (P : ℕ → Type 0) (file ps qs : List ℕ) (from a b : ℕ) → ArePlacesBetween file from a ps → AllByRecursion P ps
    → ArePlacesBetween file from b qs → AllByRecursion P qs → StopsAt P file a → StopsAt P file b → a ≡ b
stops_are_one P file [] [] from a b same each also too stops halts = sym same ∙ also
stops_are_one P file [] (q ∷ qs) from a b same each (is, passed, rest) too stops halts =
    absurd (stops (subst (λ (p : ℕ). NoneOf (Applies file p) unpassed_reasons) same passed) (subst P (is ∙ same) too.0))
stops_are_one P file (p ∷ ps) [] from a b (is, passed, rest) each same too stops halts =
    absurd (halts (subst (λ (q : ℕ). NoneOf (Applies file q) unpassed_reasons) same passed) (subst P (is ∙ same) each.0))
stops_are_one P file (p ∷ ps) (q ∷ qs) from a b (is, passed, rest) each (also, onward, further) too stops halts =
    stops_are_one P file ps qs (end_at file from) a b rest each.1 further too.1 stops halts

-- a place is at or behind the one from which chunks lead to it
leads_onward : (file places : List ℕ) (from to : ℕ) → ArePlacesBetween file from to places → from ≤ to
leads_onward file [] from to same = omega (arith, same)
leads_onward file (p ∷ places) from to (is, passed, rest) =
    omega (arith, end_at_after file from, leads_onward file places (end_at file from) to rest)

-- chunks that lead to a place at or before a position end at or before it
ends_before : (file places : List ℕ) (from to position : ℕ) → ArePlacesBetween file from to places → to ≤ position
    → AllByRecursion (λ place. end_at file place ≤ position) places
ends_before file [] from to position same before = tt
ends_before file (p ∷ places) from to position (is, passed, rest) before = (
  omega (arith, ap (end_at file) is, leads_onward file places (end_at file from) to rest, before),
  ends_before file places (end_at file from) to position rest before,
)

-- so the way to a position stops at one place, where no chunk is passed or the one there ends past the position
way_is_one : (file : List ℕ) (position a b : ℕ) → IsOnWay file position a → IsOnWay file position b
    → StopsAt (λ place. end_at file place ≤ position) file a → StopsAt (λ place. end_at file place ≤ position) file b → a ≡ b
way_is_one file position a b way other stops halts =
    let same : way.begin ≡ other.begin = told_one file (block_of position) way.begin other.begin way.told other.told in
    stops_are_one (λ place. end_at file place ≤ position) file way.places other.places other.begin a b
    (subst (λ (p : ℕ). ArePlacesBetween file p a way.places) same way.between)
    (ends_before file way.places way.begin a position way.between way.before)
    other.between
    (ends_before file other.places other.begin b position other.between other.before)
    stops halts

held_stops : (file : List ℕ) (position place : ℕ) → IsHolder file position place → StopsAt (λ p. end_at file p ≤ position) file place
held_stops file position place holder none before = omega (arith, holder.within, before)

-- a chunk that is refused isn't passed
pub refused_stops : (P : ℕ → Type 0) (file : List ℕ) (place : ℕ) (first : Why) → IsFirstOf (Applies file place) unpassed_reasons first
    → StopsAt P file place
refused_stops P file place first is none holds = none_is_first (Applies file place) unpassed_reasons first none is

-- the holder is one
pub holder_is_one : (file : List ℕ) (position a b : ℕ) → IsHolder file position a → IsHolder file position b → a ≡ b
holder_is_one file position a b holder other =
    way_is_one file position a b holder.on_way other.on_way (held_stops file position a holder) (held_stops file position b other)

-- a block that has a fault tells no begin
untold : (file : List ℕ) (block begin : ℕ) (fault : Fault) → IsBlockFault file block fault → ¬ TellsBegin file block begin
untold file block begin fault refused (previous, next, stands, is) = refused.unread previous next stands

-- so there aren't both a holder and a fault
pub holder_or_fault : (file : List ℕ) (position place : ℕ) (fault : Fault) → IsHolder file position place → ¬ IsHolderFault file position fault
holder_or_fault file position place fault holder (inl (below, refused)) =
    untold file (block_of position) holder.on_way.begin fault refused holder.on_way.told
holder_or_fault file position place fault holder (inr (way, first)) =
    let same : place ≡ fault.at =
    way_is_one file position place fault.at holder.on_way way (held_stops file position place holder)
    (refused_stops (λ p. end_at file p ≤ position) file fault.at fault.why first) in
    none_is_first (Applies file fault.at) unpassed_reasons fault.why
    (subst (λ (p : ℕ). NoneOf (Applies file p) unpassed_reasons) same holder.whole) first

-- a reason by which a chunk isn't passed is its verdict
pub verdict_unpassed : (file : List ℕ) (fault : Fault) → IsFirstOf (Applies file fault.at) unpassed_reasons fault.why
    → IsVerdict false file fault.at fault
verdict_unpassed file fault first =
    verdict_loading false file fault.at fault (first_in_front (Applies file fault.at) unpassed_reasons (why.TooLarge ∷ []) fault.why first) refl

-- and the fault is one
pub holder_fault_is_one : (file : List ℕ) (position : ℕ) (a b : Fault) → IsHolderFault file position a → IsHolderFault file position b → a ≡ b
holder_fault_is_one file position a b (inl (below, refused)) (inl (too, also)) = refused.is_fault ∙ sym also.is_fault
holder_fault_is_one file position a b (inl (below, refused)) (inr (way, first)) =
    absurd (untold file (block_of position) way.begin a refused way.told)
holder_fault_is_one file position a b (inr (way, first)) (inl (below, refused)) =
    absurd (untold file (block_of position) way.begin b refused way.told)
holder_fault_is_one file position a b (inr (way, first)) (inr (other, also)) =
    let same : a.at ≡ b.at =
    way_is_one file position a.at b.at way other
    (refused_stops (λ p. end_at file p ≤ position) file a.at a.why first)
    (refused_stops (λ p. end_at file p ≤ position) file b.at b.why also) in
    verdict_is_one false file b.at a b
    (subst (λ (p : ℕ). IsVerdict false file p a) same (verdict_unpassed file a first))
    (verdict_unpassed file b also)
