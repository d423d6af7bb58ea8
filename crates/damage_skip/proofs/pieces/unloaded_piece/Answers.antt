use Rattle.std.proofs.Common.{arith}
use Rattle.chunk_reader.specs.declared.reasons.Why.TheVariants.{Contradicted}
use Rattle.damage_skip.proofs.Leads.{limit-within, agreed-none, stopped-leads}
use Rattle.damage_skip.proofs.PieceSteps.{IsSkipped, unloaded_landing, unloaded_none, skipped_onward}
use Rattle.damage_skip.proofs.Takings.{judged-looks}
use Rattle.damage_skip.proofs.pieces.unloaded_piece.Goals as goal

pub judge_blocks-requires-clause-judges : goal.judge_blocks-requires-clause-judges
judge_blocks-requires-clause-judges g c =
    record {
      fits = c.requires.sized;
      begun = omega arith;
      ordered = omega (arith, c.requires.onward.past);
      within = limit-within c.args.end c.args.walk.size c.args.to c.requires.onward.within c.requires.within;
    }

pub judge_blocks-requires-clause-in_reach : goal.judge_blocks-requires-clause-in_reach
judge_blocks-requires-clause-in_reach g c = omega (arith, c.requires.onward.within, c.requires.sized.in_reach)

pub returns-in-Ok-clause-piece : goal.returns-in-Ok-clause-piece
returns-in-Ok-clause-piece g c =
    skipped_onward c.args.walk c.args.to c.args.why c.skipped.result c.skipped.ensures c.requires.onward

pub returns-in-Ok-clause-unloaded : goal.returns-in-Ok-clause-unloaded
returns-in-Ok-clause-unloaded g c =
    λ end is.
    unloaded_none _ c.args.walk.place end c.args.to c.args.why c.skipped.result c.skipped.ensures
    (agreed-none _ c.args.walk.place end c.args.end c.args.walk.place c.args.to is c.in-Ok.ensures.accepted)

pub returns-in-Ok-clause-looks : goal.returns-in-Ok-clause-looks
returns-in-Ok-clause-looks g c =
    λ end is. judged-looks _ c.args.walk.place end c.args.end c.args.walk.place c.args.to _ is c.judge_blocks.ensures.looks

pub returns-in-Err-Refused-clause-piece : goal.returns-in-Err-Refused-clause-piece
returns-in-Err-Refused-clause-piece g c =
    let landing = c.in-Err-Refused.landing in
    let is : IsSkipped c.skipped-in-Err-Refused.result landing Contradicted = cc (c.skipped-in-Err-Refused.ensures) in
    skipped_onward c.args.walk landing Contradicted c.skipped-in-Err-Refused.result is
    (c.in-Err-Refused.ensures.refused landing (cc)).0

pub returns-in-Err-Refused-clause-unloaded : goal.returns-in-Err-Refused-clause-unloaded
returns-in-Err-Refused-clause-unloaded g c =
    λ end ends.
    let landing = c.in-Err-Refused.landing in
    let is : IsSkipped c.skipped-in-Err-Refused.result landing Contradicted = cc (c.skipped-in-Err-Refused.ensures) in
    unloaded_landing _ c.args.walk.place end c.args.to landing c.args.why c.skipped-in-Err-Refused.result is
    (stopped-leads _ c.args.walk.place end c.args.end c.args.walk.place c.args.to landing _ ends (c.in-Err-Refused.ensures.refused landing (cc)).1)

pub returns-in-Err-Refused-clause-looks : goal.returns-in-Err-Refused-clause-looks
returns-in-Err-Refused-clause-looks g c =
    λ end is. judged-looks _ c.args.walk.place end c.args.end c.args.walk.place c.args.to _ is c.judge_blocks.ensures.looks

pub returns-in-Err-Store-clause-looks : goal.returns-in-Err-Store-clause-looks
returns-in-Err-Store-clause-looks g c =
    λ end is. judged-looks _ c.args.walk.place end c.args.end c.args.walk.place c.args.to _ is c.judge_blocks.ensures.looks
