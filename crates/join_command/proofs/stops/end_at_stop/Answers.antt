use Rattle.std.proofs.Common.{sym, subst}
use Rattle.record_io.specs.Seen.{seen_stream}
use Rattle.command_frame.specs.Endings.{SaysAtEnd}
use Rattle.join_command.specs.CollectingEnds.{uncollected_status, uncollected_text}
use Rattle.join_command.proofs.stops.end_at_stop.Goals as goal

pub returns-in-TooMuch-clause-told : goal.returns-in-TooMuch-clause-told
returns-in-TooMuch-clause-told g c =
    subst (λ s. SaysAtEnd c.end.result (uncollected_status s) (seen_stream g.E.Sink.taken g.E.Sink.faults c.args.notes.now)
    (seen_stream g.E.Sink.taken g.E.Sink.faults c.end.new.notes) (uncollected_text s)) (sym c.in-TooMuch.is) c.end.ensures.notes.said
