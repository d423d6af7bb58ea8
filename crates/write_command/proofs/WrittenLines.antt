-- What a feed of lines shows of its input.
use Rattle.std.proofs.Common.{◌≡◌, ℕ, Option, Some, None, Result, Ok, Err, List, [], option_map}
use Rattle.std.specs.Option.{IfSome}
use Rattle.std.specs.Result.{OnOk}
use Rattle.record_writer.specs.Feeds.{Rest}
use Rattle.record_writer.specs.FeedSteps.{nothing_left}

-- where nothing is left of the feed after the work, nothing is left of the input
pub read-spent : {X E : Type 0} (result : Result X E) (left left_then : Option (List ℕ)) (rest rest_then : Option Rest) (taken : List ℕ → Rest)
    → OnOk result (IfSome rest (λ _. rest_then ≡ Some nothing_left)) → rest ≡ option_map taken left
    → (rest_then ≡ Some nothing_left → left_then ≡ Some [])
    → OnOk result (IfSome left (λ _. left_then ≡ Some []))
read-spent (Err e) left left_then rest rest_then taken spent is all = tt
read-spent (Ok x) None left_then rest rest_then taken spent is all = tt
read-spent (Ok x) (Some bytes) left_then None rest_then taken spent is all = absurd (cc is)
read-spent (Ok x) (Some bytes) left_then (Some r) rest_then taken spent is all = all spent
