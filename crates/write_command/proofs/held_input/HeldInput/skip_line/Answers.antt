use Rattle.std.proofs.Common.{◌≡◌, ◌∙◌, ℕ, ◌+◌, List, drop, ap, subst, arith}
use Rattle.write_command.specs.LineEnds.{KnowsEnds}
use Rattle.write_command.proofs.HeldRanges.{IsFirstEnd-held, slice_range-drop}
use Rattle.write_command.proofs.held_input.HeldInput.skip_line.Goals as goal

pub pass-requires-clause-first : goal.pass-requires-clause-first
pass-requires-clause-first c = (
  c.self.inside.begin + c.args.len,
  IsFirstEnd-held c.self.inside.bytes c.args.self.now c.self.inside.begin c.self.inside.end c.args.len c.self.invariant.0 (omega (arith, c.self.invariant.1, c.self.told)) c.self.view_is
      c.requires,
)

pub invariant_of-self : goal.invariant_of-self
invariant_of-self c =
    let first = IsFirstEnd-held c.self.inside.bytes c.args.self.now c.self.inside.begin c.self.inside.end c.args.len c.self.invariant.0 (omega (arith, c.self.invariant.1, c.self.told)) c.self.view_is
    c.requires in
    let next : c.self.inside.begin + c.args.len + 1 ≡ c.self.inside.begin + (c.args.len + 1) = omega arith in (
      omega (arith, first.high),
      c.self.invariant.1,
      subst (λ (from : ℕ). KnowsEnds c.self.inside.bytes from c.self.inside.end c.pass.new.self.base c.pass.new.self.mask) next (c.pass.ensures _ first),
    )

pub returns : goal.returns
returns c =
    let first = IsFirstEnd-held c.self.inside.bytes c.args.self.now c.self.inside.begin c.self.inside.end c.args.len c.self.invariant.0 (omega (arith, c.self.invariant.1, c.self.told)) c.self.view_is
    c.requires in
    slice_range-drop (c.args.len + 1) c.self.inside.bytes c.self.inside.begin c.self.inside.end (omega (arith, first.high))
    ∙ ap (λ (l : List ℕ). drop (c.args.len + 1) l) c.self.view_is
