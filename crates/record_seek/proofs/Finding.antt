-- What a search by key comes to, and with which fault it may end.
use Rattle.std.proofs.Common.{◌≡◌, ◌⊎◌, ℕ, ◌*◌, ◌<◌, true, Option, Some, None, IfSome, List, [], ◌∷◌, refl, sym, subst, inl, inr, arith}
use Rattle.chunk_reader.specs.Holders.{TellsBegin, IsBlockFault, ArePlacesBetween}
use Rattle.chunk_reader.specs.Places.{end_at}
use Rattle.chunk_reader.specs.declared.reasons.Fault.{Fault}
use Rattle.chunk_reader.proofs.Blocks.{stands_one}
use Rattle.record_seek.specs.Met as met
use Rattle.record_seek.specs.Met.{IsMetBySearch, IsMetFault}
use Rattle.record_seek.specs.Steps.{LoadsMetChunk, IsFaultOn, LoadsOn, FirstStandsBefore, IsLook}
use Rattle.record_seek.specs.declared.finds.Look.{Look}
use Rattle.record_seek.proofs.Ways.{same_told}

-- from a place that is met, each further one is
pub met-on : (file places : List ℕ) (from place : ℕ) → IsMetBySearch file from → ArePlacesBetween file from place places → IsMetBySearch file place
met-on file [] from place here same = subst (IsMetBySearch file) same here
met-on file (p ∷ places) from place here (same, none, rest) = met-on file places (end_at file from) place (met.behind here none) rest

-- a fault of a block is met
pub block-met : (bytes now : Option (List ℕ)) (block : ℕ) (fault : Fault) → now ≡ bytes → IfSome now (λ file. IsBlockFault file block fault)
    → IfSome bytes (λ file. IsMetFault file fault)
block-met None now block fault same refused = tt
block-met (Some file) now block fault same refused = inl (block, same_told (λ f. IsBlockFault f block fault) (Some file) now same refused)

-- reading begins at the file's front, or where a block tells
abbrev pub IsBeginFrom : (low begin : ℕ) → List ℕ → Type 0
IsBeginFrom low begin file = ((low ≡ 0) × (begin ≡ 0)) ⊎ ((0 < low) × TellsBegin file (low * 65536) begin)

pub begin_met : (file : List ℕ) (low begin : ℕ) → IsBeginFrom low begin file → IsMetBySearch file begin
begin_met file low begin (inl (first, front)) = subst (IsMetBySearch file) (sym front) met.front
begin_met file low begin (inr told) = met.told told.1

-- and a fault on the way from there is met
pub told-met : (bytes now : Option (List ℕ)) (block begin : ℕ) (fault : Fault) → now ≡ bytes → IfSome bytes (λ file. TellsBegin file block begin)
    → IfSome now (λ file. IsFaultOn file begin fault) → IfSome bytes (λ file. IsMetFault file fault)
told-met None now block begin fault same told refused = tt
told-met (Some file) now block begin fault same told refused =
    let on : IsFaultOn file begin fault = same_told (λ f. IsFaultOn f begin fault) (Some file) now same refused in
    inr (on.place, met-on file on.places begin on.place (met.told told) on.between, on.below, on.verdict)

pub fault-met : (bytes now then : Option (List ℕ)) (low begin : ℕ) (fault : Fault) → now ≡ bytes → then ≡ bytes → IfSome now (IsBeginFrom low begin)
    → IfSome then (λ file. IsFaultOn file begin fault) → IfSome bytes (λ file. IsMetFault file fault)
fault-met None now then low begin fault same also from refused = tt
fault-met (Some file) now then low begin fault same also from refused =
    let start : IsBeginFrom low begin file = same_told (IsBeginFrom low begin) (Some file) now same from in
    let on : IsFaultOn file begin fault = same_told (λ f. IsFaultOn f begin fault) (Some file) then also refused in
    inr (on.place, met-on file on.places begin on.place (begin_met file low begin start) on.between, on.below, on.verdict)

-- so is a chunk whose data may be read
pub loads-told : (bytes now : Option (List ℕ)) (block begin : ℕ) → now ≡ bytes → IfSome bytes (λ file. TellsBegin file block begin)
    → IfSome now (λ file. LoadsOn file begin) → IfSome bytes LoadsMetChunk
loads-told None now block begin same told loads = tt
loads-told (Some file) now block begin same told loads =
    let (place, places, between, none) = same_told (λ f. LoadsOn f begin) (Some file) now same loads in
    (place, met-on file places begin place (met.told told) between, none)

pub loads-met : (bytes now then : Option (List ℕ)) (low begin : ℕ) → now ≡ bytes → then ≡ bytes → IfSome now (IsBeginFrom low begin)
    → IfSome then (λ file. LoadsOn file begin) → IfSome bytes LoadsMetChunk
loads-met None now then low begin same also from loads = tt
loads-met (Some file) now then low begin same also from loads =
    let start : IsBeginFrom low begin file = same_told (IsBeginFrom low begin) (Some file) now same from in
    let (place, places, between, none) = same_told (λ f. LoadsOn f begin) (Some file) then also loads in
    (place, met-on file places begin place (begin_met file low begin start) between, none)

-- where the first record stands before
abbrev pub BeginsBefore : (Before : List ℕ → Type 0) → (low : ℕ) → List ℕ → Type 0
BeginsBefore Before low file =
    (low ≡ 0) ⊎ ((begin : ℕ) × TellsBegin file (low * 65536) begin × FirstStandsBefore Before file begin)

pub begins-front : (Before : List ℕ → Type 0) (bytes : Option (List ℕ)) → IfSome bytes (BeginsBefore Before 0)
begins-front Before None = tt
begins-front Before (Some file) = inl refl

pub begins-at : (Before : List ℕ → Type 0) (bytes now : Option (List ℕ)) (low : ℕ) (look : Look) → now ≡ bytes
    → IfSome now (λ file. TellsBegin file (low * 65536) look.begin) → IfSome now (IsLook Before look) → look.before ≡ true
    → IfSome bytes (BeginsBefore Before low)
begins-at Before None now low look same told looked is = tt
begins-at Before (Some file) now low look same told looked is =
    let here : TellsBegin file (low * 65536) look.begin = same_told (λ f. TellsBegin f (low * 65536) look.begin) (Some file) now same told in
    let first : IsLook Before look file = same_told (IsLook Before look) (Some file) now same looked in
    inr (look.begin, here, first.before is)

-- one begin is told
pub told_one : (file : List ℕ) (block begin other : ℕ) → TellsBegin file block begin → TellsBegin file block other → begin ≡ other
told_one file block begin other (p, n, stands, is) (q, m, also, there) =
    let same = stands_one file block p n q m stands also in
    omega (arith, is, there, same.0)
