-- The way of a search to the chunk that holds a position.
use Rattle.std.proofs.Common.{◌≡◌, ◌∙◌, ℕ, ◌+◌, ◌*◌, ◌^◌, ◌<◌, ◌≤◌, Option, Some, None, IfSome, List, [], ◌∷◌, ◌++◌, refl, sym, ap, subst, inl, inr, arith}
use Rattle.std.proofs.lemmas.Bool.{cases_lt}
use Rattle.block_layout.specs.Layout.{block_of}
use Rattle.chunk_header.specs.Chunks.{ChunkValue}
use Rattle.meta_chunk.specs.Files.{IsWellFormed, begin_of}
use Rattle.chunk_reader.specs.Holders.{TellsBegin, ArePlacesBetween, IsOnWay, IsHolder}
use Rattle.chunk_reader.specs.Places.{end_at}
use Rattle.chunk_reader.specs.Reasons.{Applies, NoneOf, IsFirstOf, unpassed_reasons}
use Rattle.chunk_reader.specs.declared.reasons.Fault.{Fault}
use Rattle.chunk_reader.proofs.HeadersTell.{stands_below, told_end, told_is, lies_of}
use Rattle.chunk_reader.proofs.Rooms.{IsSized}
use Rattle.record_seek.specs.Steps.{IsPassedAt}
use Rattle.record_seek.specs.declared.passes.Passed.{Passed}

-- one chunk more
pub between-push : (file places : List ℕ) (from place : ℕ) → ArePlacesBetween file from place places
    → NoneOf (Applies file place) unpassed_reasons → ArePlacesBetween file from (end_at file place) (places ++ place ∷ [])
between-push file [] from place same none =
    (sym same, subst (λ (p : ℕ). NoneOf (Applies file p) unpassed_reasons) (sym same) none, ap (end_at file) same)
between-push file (p ∷ places) from place (same, passed, rest) none =
    (same, passed, between-push file places (end_at file from) place rest none)

-- what is told of the file that a store has
pub same_told : (P : List ℕ → Type 0) (bytes now : Option (List ℕ)) → now ≡ bytes → IfSome now P → IfSome bytes P
same_told P bytes now same told = subst (λ (o : Option (List ℕ)). IfSome o P) same told

-- a place is on the way from a begin that a block tells
abbrev pub IsWayFrom : (at begin place : ℕ) → List ℕ → Type 0
IsWayFrom at begin place file = TellsBegin file (block_of at) begin → IsOnWay file at place

pub way-begun : (bytes : Option (List ℕ)) (size at begin : ℕ) → IsSized bytes (Some size) → at < size → begin ≤ at
    → IfSome bytes (IsWayFrom at begin begin)
way-begun None size at begin sized below before = tt
way-begun (Some file) size at begin sized below before =
    λ told. record {
      begin = begin;
      places = [];
      below = omega (arith, sized, below);
      told = told;
      between = refl;
      before = before;
    }

pub way-on : (bytes now : Option (List ℕ)) (at begin place : ℕ) (chunk : Passed) → now ≡ bytes → IfSome bytes (IsWayFrom at begin place)
    → IfSome now (λ file. IsPassedAt file place chunk) → chunk.end ≤ at → IfSome bytes (IsWayFrom at begin chunk.end)
way-on None now at begin place chunk same way passed before = tt
way-on (Some file) now at begin place chunk same way passed before =
    let here : IsPassedAt file place chunk = same_told (λ f. IsPassedAt f place chunk) (Some file) now same passed in
    λ told.
    let on = way told in
    record {
      begin = on.begin;
      places = on.places ++ place ∷ [];
      below = on.below;
      told = on.told;
      between = subst (λ (p : ℕ). ArePlacesBetween file on.begin p (on.places ++ place ∷ [])) (sym here.end)
          (between-push file on.places on.begin place on.between here.none);
      before = before;
    }

pub way-held : (bytes now : Option (List ℕ)) (at begin place : ℕ) (chunk : Passed) → now ≡ bytes → IfSome bytes (IsWayFrom at begin place)
    → IfSome now (λ file. IsPassedAt file place chunk) → at < chunk.end
    → IfSome bytes (λ file. TellsBegin file (block_of at) begin → IsHolder file at place)
way-held None now at begin place chunk same way passed within = tt
way-held (Some file) now at begin place chunk same way passed within =
    let here : IsPassedAt file place chunk = same_told (λ f. IsPassedAt f place chunk) (Some file) now same passed in
    λ told. record { on_way = way told; whole = here.none; within = omega (arith, within, here.end) }

-- the first reason applies at a fault's place
abbrev pub IsRefusedAt : Fault → List ℕ → Type 0
IsRefusedAt fault file = IsFirstOf (Applies file fault.at) unpassed_reasons fault.why

pub refused_there : (bytes now : Option (List ℕ)) (place : ℕ) (fault : Fault) → now ≡ bytes
    → (fault.at ≡ place) × IfSome now (λ file. IsFirstOf (Applies file place) unpassed_reasons fault.why)
    → IfSome bytes (IsRefusedAt fault)
refused_there None now place fault same refused = tt
refused_there (Some file) now place fault same (at, first) =
    subst (λ (p : ℕ). IsFirstOf (Applies file p) unpassed_reasons fault.why) (sym at) (same_told (λ f. IsFirstOf (Applies f place) unpassed_reasons fault.why) (Some file) now same first)

pub way-refused : (bytes now : Option (List ℕ)) (at begin place : ℕ) (fault : Fault) → now ≡ bytes
    → IfSome bytes (IsWayFrom at begin place)
    → (fault.at ≡ place) × IfSome now (λ file. IsFirstOf (Applies file place) unpassed_reasons fault.why)
    → IfSome bytes (λ file. TellsBegin file (block_of at) begin → IsOnWay file at fault.at × IsRefusedAt fault file)
way-refused None now at begin place fault same way refused = tt
way-refused (Some file) now at begin place fault same way refused =
    let first : IsRefusedAt fault file = refused_there (Some file) now place fault same refused in
    λ told. (subst (IsOnWay file at) (sym refused.0) (way told), first)

-- what was paid from a begin up to a place: nothing yet, or for the first chunk, and for the others at most their bytes
pub record IsPaidTo (block begin place spent now : ℕ) : Type 0 where
  pub from : begin ≤ place
  pub first : place ≤ begin → now ≤ spent
  pub onward : begin < place → (block ≤ place) × (now + block ≤ spent + 40 + place)

-- in a file of chunks
abbrev pub IsPaid : (at begin place spent now : ℕ) → List ℕ → Type 0
IsPaid at begin place spent now file =
    (ks : List ChunkValue) → IsWellFormed ks file → TellsBegin file (block_of at) begin → IsPaidTo (block_of at) begin place spent now

pub paid-begun : (bytes : Option (List ℕ)) (at begin spent : ℕ) → IfSome bytes (IsPaid at begin begin spent spent)
paid-begun None at begin spent = tt
paid-begun (Some file) at begin spent =
    λ ks well_formed told. record { from = omega arith; first = λ same. omega arith; onward = λ past. absurd (omega (arith, past)) }

pub paid-on : (bytes now_bytes : Option (List ℕ)) (size at begin place : ℕ) (chunk : Passed) (spent now then : ℕ) → now_bytes ≡ bytes
    → IsSized bytes (Some size) → size ≤ 2 ^ 60 → at < size → IfSome now_bytes (λ file. IsPassedAt file place chunk)
    → place + 40 ≤ chunk.end → then ≤ now + 40 → IfSome bytes (IsPaid at begin place spent now)
    → IfSome bytes (IsPaid at begin chunk.end spent then)
paid-on None now_bytes size at begin place chunk spent now then same sized reach below passed past more paid = tt
paid-on (Some file) now_bytes size at begin place chunk spent now then same sized reach below passed past more paid =
    let here : IsPassedAt file place chunk = same_told (λ f. IsPassedAt f place chunk) (Some file) now_bytes same passed in
    λ ks well_formed told.
    let before = paid ks well_formed told in
    record {
      from = omega (arith, before.from, past);
      first = λ not. absurd (omega (arith, not, before.from, past));
      onward = λ further. elim (cases_lt begin place) [
        | inl behind ↦
            let on = before.onward behind in
            (omega (arith, on.0, past), omega (arith, on.1, past, more))
        | inr front ↦
            let b : ℕ = block_of at in
            let holder = lies_of ks file well_formed b (omega (arith, below, sized)) in
            let is : begin ≡ begin_of ks holder.0 = told_is ks file well_formed b begin holder.0 (omega (arith, reach, sized)) (omega arith) holder.1 told in
            let at_begin : place ≡ begin_of ks holder.0 = omega (arith, front, before.from, is) in
            let k = stands_below ks file well_formed holder.0 (omega (arith, holder.1.begins, below, sized)) in
            let end : chunk.end ≡ begin_of ks (holder.0 + 1) = here.end ∙ ap (end_at file) at_begin ∙ told_end ks file well_formed holder.0 k.0 k.1 in
            (omega (arith, end, holder.1.ends), omega (arith, more, before.first front, end, holder.1.ends))
      ];
    }

pub paid-all : (bytes : Option (List ℕ)) (at begin place spent now then : ℕ) → place ≤ at → then ≤ now + 40
    → IfSome bytes (IsPaid at begin place spent now)
    → IfSome bytes (λ file. (ks : List ChunkValue) → IsWellFormed ks file → TellsBegin file (block_of at) begin → then ≤ spent + (2 * 40 + 65536))
paid-all None at begin place spent now then before more paid = tt
paid-all (Some file) at begin place spent now then before more paid =
    λ ks well_formed told.
    let all = paid ks well_formed told in
    elim (cases_lt begin place) [
      | inl behind ↦ omega (arith, (all.onward behind).1, before, more)
      | inr front ↦ omega (arith, all.first front, more)
    ]
