-- The steps in which a chunk is laid: a block header, a run of bytes, and the end.
use Rattle.std.proofs.Common.{◌≡◌, ◌≢◌, ◌∙◌, ℕ, ◌+◌, ◌-◌, ◌%◌, ◌≤◌, List, [], ◌++◌, length, take, drop, replicate, ap, arith}
use Rattle.std.proofs.lemmas.List.{get_or_append_left}
use Rattle.block_layout.specs.Layout.{IsUsable, room}
use Rattle.block_layout.specs.NextPlaces.{IsNextPlace, usable_from}
use Rattle.block_layout.specs.BlockHeaders.{block_header}
use Rattle.block_layout.proofs.Runs.{room-usable_from, usable_from-block, usable_from-is}
use Rattle.ordered_writer.specs.Layings.{laid_between}
use Rattle.ordered_writer.proofs.Between.{get_or-zeros, laid_between-none, laid_between-same, laid_between-split, laid_between-header, laid_between-run}

-- zero bytes are what stands past the usable bytes
pub laid_between-zeros : (begin end place until n : ℕ) → laid_between begin end place until (replicate n 0) ≡ laid_between begin end place until []
laid_between-zeros begin end place until n =
    laid_between-same begin end place until (replicate n 0) [] (λ i small. get_or-zeros n i)

-- usable bytes behind those that have room don't show
pub laid_between-front : (begin end place until : ℕ) (own more : List ℕ) → room place until ≤ length own
    → laid_between begin end place until (own ++ more) ≡ laid_between begin end place until own
laid_between-front begin end place until own more room =
    laid_between-same begin end place until (own ++ more) own (λ i small. get_or_append_left own more 0 i (omega arith))

-- where no own byte has room, they don't matter
pub laid_between-no_room : (begin end place until : ℕ) (own other : List ℕ) → room place until ≡ 0
    → laid_between begin end place until own ≡ laid_between begin end place until other
laid_between-no_room begin end place until own other none =
    laid_between-same begin end place until own other (λ i small. absurd (omega arith))

-- a block header, where one stands at the place, and a run of bytes behind it
pub laid_between-header_and_run : (begin end place n : ℕ) (bytes : List ℕ)
    → IsNextPlace place → usable_from place % 65536 + n ≤ 65536 → n ≤ length bytes
    → laid_between begin end place (usable_from place + n) bytes ≡ laid_between begin end place (usable_from place) [] ++ take n bytes
laid_between-header_and_run begin end place n bytes next fits enough =
    let first : ℕ = usable_from place in
    let usable : IsUsable first = omega arith in
    laid_between-split begin end place first (first + n) bytes (omega arith) (omega arith)
    ∙ ap (λ (m : ℕ). laid_between begin end place first bytes ++ laid_between begin end first (first + n) (drop m bytes)) (room-usable_from place)
    ∙ ap (λ (xs : List ℕ). xs ++ laid_between begin end first (first + n) bytes)
    (laid_between-no_room begin end place first bytes [] (room-usable_from place))
    ∙ ap (λ (xs : List ℕ). laid_between begin end place first [] ++ xs) (laid_between-run begin end first n bytes usable fits enough)

-- up to the least usable position stands the header of a block, or nothing
pub laid_between-block : (begin end place : ℕ) → place % 65536 ≡ 0
    → laid_between begin end place (usable_from place) [] ≡ block_header (place - begin) (end - place)
laid_between-block begin end place block =
    ap (λ (u : ℕ). laid_between begin end place u []) (usable_from-block place block) ∙ laid_between-header begin end place [] block

pub laid_between-inside : (begin end place : ℕ) → IsNextPlace place → place % 65536 ≢ 0 → laid_between begin end place (usable_from place) [] ≡ []
laid_between-inside begin end place next inside =
    laid_between-none begin end place (usable_from place) [] (omega (arith, usable_from-is place next inside))
