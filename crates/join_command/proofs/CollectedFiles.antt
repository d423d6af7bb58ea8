-- The places of collected records in their file.
use Rattle.std.proofs.Common.{◌≡◌, ◌∙◌, List, ℕ, length, ap, sym}
use Rattle.std.proofs.lemmas.List.{length-map}
use Rattle.record_collect.specs.FilePlaces.{placed_in_file, places_in_file}
use Rattle.record_collect.proofs.PlaceSteps.{records_placed}

-- each record has a place in it
pub places-many : (records : List (List ℕ)) (size : ℕ) → length (places_in_file records size) ≡ length records
places-many records size =
    let placed : List (ℕ × List ℕ) = placed_in_file records size in
    length-map placed (λ (p : ℕ × List ℕ). p.0)
    ∙ sym (length-map placed (λ (p : ℕ × List ℕ). p.1))
    ∙ ap length (records_placed records size)
