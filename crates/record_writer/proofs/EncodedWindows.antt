-- The chunks of a window's groups, which workers encoded run by run.
use Rattle.std.proofs.Common.{◌≡◌, ◌∙◌, ℕ, zero, suc, ◌+◌, ◌*◌, ◌^◌, ◌<◌, ◌≤◌, Option, Some, None, List, [], ◌∷◌, ◌++◌, All, length, map, take, drop, get_or, refl, sym, ap, subst, arith}
use Rattle.std.specs.Prelude.{is_some, slice_get}
use Rattle.std.specs.List.{flat_map}
use Rattle.std.proofs.Math.Seq.{take-add}
use Rattle.std.proofs.lemmas.List.{length-replicate, take-append-drop, take_all}
use Rattle.std.proofs.lemmas.Option.{get_or_from_slice_get, slice_get_within}
use Rattle.std.proofs.lemmas.List.Elements.{All-append, All-drop, All-take, All-weaker}
use Rattle.std.proofs.lemmas.List.Sums.{count_by-le-length}
use Rattle.chunk_header.specs.Chunks.{ChunkValue}
use Rattle.chunk_header.specs.SimpleChunks.{simple_chunk}
use Rattle.simple_chunk.specs.Costs.{cost_of}
use Rattle.chunk_workers.specs.declared.places.RunPlace.{RunPlace}
use Rattle.chunk_workers.specs.Coded.{AreCoded, CodedValue, IsCodedAt, StandsFor}
use Rattle.chunk_workers.specs.Runs.{RunsValue, groups_of_runs, run_count, run_of}
use Rattle.chunk_workers.specs.RunPlaces.{IsRunPlace, places_of}
use Rattle.meta_chunk.specs.Files.{end_of_chunks}
use Rattle.meta_chunk.proofs.Joins.{end_of_chunks-append}
use Rattle.chunk_workers.proofs.RunLists.{run-next, run_of-at, runs_reach}
use Rattle.chunk_workers.proofs.RunPlaces.{places_of-numbers, places_of-placed}
use Rattle.ordered_writer.specs.Reorders.{HasEachFrom, Reordering, coming, held_at, held_in_row, reordering_from, with_each}
use Rattle.ordered_writer.proofs.ByNumber.{come, each_from_zero, fresh_window, with_each-room, with_each-wanted}
use Rattle.record_writer.specs.EncodedWindows.{AreInOrder, AreRunsOf, EncodesSimply}
use Rattle.record_writer.specs.MadeFiles.{chunks_of_groups}
use Rattle.record_writer.proofs.Given.{chunks_of_groups-all}
use Rattle.record_writer.proofs.Reaches.{within-before}

-- what is known of all groups is known of those of runs
runs-all : {X : Type 0} (P : X → Type 0) (step : ℕ) (xs : List X) (numbers : List ℕ) → All P xs → All P (flat_map (run_of step xs) numbers)
runs-all P step xs [] all = λ k d within. absurd (omega (arith, within))
runs-all P step xs (number ∷ numbers) all =
    All-append P (run_of step xs number) (flat_map (run_of step xs) numbers)
    (All-take P step (drop (number * step) xs) (All-drop P (number * step) xs all))
    (runs-all P step xs numbers all)

-- what a coder makes are the simple chunks of groups, where it makes those of each
coded-simply : (chunk_of : List (List ℕ) → ChunkValue) (groups : List (List (List ℕ))) (chunks : List CodedValue) → EncodesSimply chunk_of
    → All (λ group. cost_of group ≤ 2 ^ 25) groups → AreCoded chunk_of groups chunks → AreCoded simple_chunk groups chunks
coded-simply chunk_of [] [] encodes short are = tt
coded-simply chunk_of [] (c ∷ chunks) encodes short are = absurd are
coded-simply chunk_of (group ∷ groups) [] encodes short are = absurd are
coded-simply chunk_of (group ∷ groups) (c ∷ chunks) encodes short are = (
  subst (λ (k : ChunkValue). StandsFor k group c) (encodes group (short 0 group (omega arith))) are.0,
  coded-simply chunk_of groups chunks encodes (λ k d within. short (suc k) d (omega (arith, within))) are.1,
)

-- also run by run
pub runs-simply : (chunk_of : List (List ℕ) → ChunkValue) (step : ℕ) (groups : List (List (List ℕ))) (runs : List RunsValue) → EncodesSimply chunk_of
    → All (λ group. cost_of group ≤ 2 ^ 25) groups
    → All (λ (r : RunsValue). AreCoded chunk_of (groups_of_runs step groups r.numbers) r.chunks) runs
    → All (λ (r : RunsValue). AreCoded simple_chunk (groups_of_runs step groups r.numbers) r.chunks) runs
runs-simply chunk_of step groups runs encodes short are =
    All-weaker (λ (r : RunsValue). AreCoded chunk_of (groups_of_runs step groups r.numbers) r.chunks)
    (λ (r : RunsValue). AreCoded simple_chunk (groups_of_runs step groups r.numbers) r.chunks)
    (λ r coded. coded-simply chunk_of (groups_of_runs step groups r.numbers) r.chunks encodes
    (runs-all (λ (group : List (List ℕ)). cost_of group ≤ 2 ^ 25) step groups r.numbers short) coded)
    runs
    are

-- where there is a group there is a run
some_count : (count step n : ℕ) → n ≤ count * step → 1 ≤ n → 1 ≤ count
some_count zero step n reach some =
    let none : 0 * step ≡ 0 = omega arith in
    absurd (omega (arith, reach, some, none))
some_count (suc count) step n reach some = omega arith

pub some_runs : (step n : ℕ) → 1 ≤ step → 1 ≤ n → 1 ≤ run_count step n
some_runs step n some_step some = some_count (run_count step n) step n (runs_reach step n some_step) some

-- each run has one place
pub each-placed : (step : ℕ) (groups : List (List (List ℕ))) (runs : List RunsValue) → AreRunsOf step groups runs
    → HasEachFrom 0 (run_count step (length groups)) (map (λ (p : ℕ × RunPlace). p.0) (places_of step (length groups) runs))
each-placed step groups runs are =
    subst (HasEachFrom 0 (run_count step (length groups))) (sym (places_of-numbers step (length groups) runs))
    (each_from_zero (run_count step (length groups)) (flat_map (λ (r : RunsValue). r.numbers) runs) are.each.once are.each.no_other)

-- so where the places are held, they come in the order of the runs
pub order-held : (step : ℕ) (groups : List (List (List ℕ))) (runs : List RunsValue) (order : Reordering RunPlace) → AreRunsOf step groups runs → 1 ≤ step
    → 1 ≤ run_count step (length groups) → run_count step (length groups) ≤ 2 ^ 32
    → order ≡ with_each (reordering_from 0 (run_count step (length groups))) (places_of step (length groups) runs)
    → AreInOrder step groups runs order
order-held step groups runs order are some_step some few is =
    let count : ℕ = run_count step (length groups) in
    let places : List (ℕ × RunPlace) = places_of step (length groups) runs in
    let r : Reordering RunPlace = reordering_from 0 count in
    let room : length r.held ≡ count = length-replicate count None in
    let after : Reordering RunPlace = with_each r places in
    let comes = come (IsRunPlace simple_chunk step groups runs) r count places (fresh_window 0 count places (each-placed step groups runs are))
    (places_of-placed simple_chunk step groups runs are.coded) in
    subst (AreInOrder step groups runs) (sym is)
    (record {
      some_step = some_step;
      begins = with_each-wanted r places;
      places = comes.1;
      all = comes.0;
      some_room = omega (arith, with_each-room r places, room, some);
      in_reach = omega (
        arith,
        with_each-room r places,
        room,
        few,
        count_by-le-length (λ (c : Option RunPlace). is_some c) after.held,
      );
    })

-- where none is held for the next number, none comes
pub coming-none : {X : Type 0} (r : Reordering X) → held_at r r.wanted ≡ None → coming r ≡ []
coming-none {X} r none = row-none r.held (ap (λ (n : ℕ). get_or r.held n None) (omega arith) ∙ none)
  where
    row-none : (held : List (Option X)) → get_or held 0 None ≡ None → held_in_row held ≡ []
    row-none [] none = refl
    row-none (None ∷ held) none = refl
    row-none (Some c ∷ held) none = absurd cc

-- the groups of the runs before a number, and those of the run of that number
pub run-behind : {X : Type 0} (step number : ℕ) (xs : List X) → take (number * step) xs ++ run_of step xs number ≡ take ((number + 1) * step) xs
run-behind step number xs =
    sym (take-add (number * step) step xs) ∙ ap (λ (n : ℕ). take n xs) (omega arith)

-- all runs have all groups
pub runs-whole : {X : Type 0} (step : ℕ) (xs : List X) → 1 ≤ step → take (run_count step (length xs) * step) xs ≡ xs
runs-whole step xs some = take_all (run_count step (length xs) * step) xs (runs_reach step (length xs) some)

-- a group of a run is its one of that number
pub group-in_run : (step number i : ℕ) (groups : List (List (List ℕ))) (group : List (List ℕ)) → i < step → slice_get groups (number * step + i) ≡ Some group
    → (i < length (run_of step groups number)) × (group ≡ get_or (run_of step groups number) i group)
group-in_run step number i groups group less at =
    let there = run_of-at step groups number i group less at in (
      slice_get_within (run_of step groups number) i group there,
      sym (get_or_from_slice_get (run_of step groups number) i group group there),
    )

-- and its chunk stands at its run's place
pub coded-at : (step number i : ℕ) (groups : List (List (List ℕ))) (runs : List RunsValue) (place : RunPlace) (r : RunsValue) (group : List (List ℕ))
    → IsRunPlace simple_chunk step groups runs number place → r ≡ get_or runs place.worker r → i < step → slice_get groups (number * step + i) ≡ Some group
    → IsCodedAt simple_chunk group r.chunks (place.first + i)
coded-at step number i groups runs place r group placed is less at =
    subst (λ (r : RunsValue). IsCodedAt simple_chunk group r.chunks (place.first + i)) (sym (is ∙ get_or_from_slice_get runs place.worker placed.r r placed.runs))
    (placed.stands i group (run_of-at step groups number i group less at))

-- the groups are those of the runs before one, its own, and those behind it
pub run-between : {X : Type 0} (step number : ℕ) (xs : List X) → xs ≡ take (number * step) xs ++ (run_of step xs number ++ drop ((number + 1) * step) xs)
run-between step number xs =
    sym (take-append-drop (number * step) xs) ∙ ap (λ ys. take (number * step) xs ++ ys) (run-next step xs number)

-- a run's chunks end within those of all groups
pub run-within : (place next limit step number : ℕ) (groups : List (List (List ℕ))) → next ≡ end_of_chunks place (chunks_of_groups (take (number * step) groups))
    → end_of_chunks place (chunks_of_groups groups) ≤ limit → end_of_chunks next (chunks_of_groups (run_of step groups number)) ≤ limit
run-within place next limit step number groups at reach =
    let front = take (number * step) groups in
    let run = run_of step groups number in
    let rest = drop ((number + 1) * step) groups in
    within-before next limit run rest
    (omega (
      arith,
      reach,
      ap (λ (place : ℕ). end_of_chunks place (chunks_of_groups (run ++ rest))) at,
      ap (λ (ks : List ChunkValue). end_of_chunks place ks) (chunks_of_groups-all groups front (run ++ rest) (run-between step number groups)),
      end_of_chunks-append place (chunks_of_groups front) (chunks_of_groups (run ++ rest)),
    ))
