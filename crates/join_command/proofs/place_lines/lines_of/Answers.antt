use Rattle.std.proofs.Common.{◌≡◌, ◌∙◌, ◌<◌, ℕ, length, ap, sym, subst}
use Rattle.std.specs.List.{AllByRecursion}
use Rattle.record_collect.specs.Batches.{in_turn}
use Rattle.command_frame.specs.Writing.{default_chunk_size}
use Rattle.join_command.proofs.CollectedFiles.{places-many}
use Rattle.join_command.proofs.place_lines.lines_of.Goals as goal

pub lines_at-requires-clause-placed : goal.lines_at-requires-clause-placed
lines_at-requires-clause-placed c =
    let many : length c.in_ok-places.places ≡ length c.args.gathered.now.records =
    ap length c.in_ok-places.ensures ∙ places-many (in_turn c.batches.result.now) default_chunk_size ∙ ap length c.batches.ensures.value in
    subst (λ (n : ℕ). AllByRecursion (AllByRecursion (λ k. k < n)) c.args.gathered.now.numbers) (sym many) c.batches.ensures.bounds.below
