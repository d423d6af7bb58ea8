-- What notes took of a line, by how its puts ended.
use Rattle.std.proofs.Common.{ℕ, Option, Result, Ok, Err, List, [], ◌++◌, take, refl, sym, subst, inl, inr}
use Rattle.std.specs.Result.{OnOk, OnErr, IsErr}
use Rattle.record_io.specs.Outside.{Rose, Takes, TakesShort}
use Rattle.record_io.specs.Buffers.{TakesAndHolds}
use Rattle.record_io.proofs.Calls.{Takes-append, TakesShort-append}
use Rattle.record_io.proofs.Buffered.{TakesAndHolds-append, TakesShort-behind}
use Rattle.command_frame.specs.RunLeaves.{TakesThen}

-- a line that was put, or of which a front was put
pub TakesThen-put : {X E : Type 0} (put : Result X E) (a b : Option (List ℕ)) (m n : ℕ) (last : List ℕ)
    → OnOk put (Takes a b last) → OnErr put (TakesShort a b last) → (IsErr put → Rose m n) → TakesThen (record { bytes = a; faults = m }) (record { bytes = b; faults = n }) [] last
TakesThen-put (Ok x) a b m n last whole front cause = (last, whole, inl refl)
TakesThen-put (Err e) a b m n last whole front cause = (take front.0 last, front.2, inr (cause refl, front.0, refl))

-- bytes behind those of a buffer that held none at first: they were put, or not all of what was held and them
pub held-more : (a b c : Option (List ℕ)) (text more held held_then : List ℕ)
    → TakesAndHolds a b text held → TakesAndHolds b c (held ++ more) held_then → TakesAndHolds a c (text ++ more) held_then
held-more a b c text more held held_then first then = TakesAndHolds-append a b c [] held held_then text more first then

pub front-more : (a b c : Option (List ℕ)) (text more held : List ℕ)
    → TakesAndHolds a b text held → TakesShort b c (held ++ more) → TakesShort a c (text ++ more)
front-more a b c text more held first then = TakesShort-behind a b c [] held text more first then

-- what was held at the end goes out
pub whole-flushed : (a b c : Option (List ℕ)) (text held : List ℕ) → TakesAndHolds a b text held → Takes b c held → Takes a c text
whole-flushed a b c text held first then =
    subst (λ (xs : List ℕ). Takes a c xs) (sym first.parts) (Takes-append a b c first.passed held first.taken then)

-- or not all of it
pub front-flushed : (a b c : Option (List ℕ)) (text held : List ℕ) → TakesAndHolds a b text held → TakesShort b c held → TakesShort a c text
front-flushed a b c text held first then =
    subst (λ (xs : List ℕ). TakesShort a c xs) (sym first.parts) (TakesShort-append a b c first.passed held first.taken then)
