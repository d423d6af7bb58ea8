use Rattle.recover_command.proofs.RecoverStreams.{recovered-streams}
use Rattle.riegeli_tool.proofs.AnswerStreams.{written-streams, shown-streams, repaired-streams, sampled-streams, joined-streams, refused-streams, collected-streams}
use Rattle.record_ranges.proofs.RangesStreams.{ranges-streams}
use Rattle.riegeli_tool.proofs.AppendAnswers.{grown-streams}
use Rattle.riegeli_tool.proofs.laws.streams_take_their_parts.Goals as goal

pub returns : goal.returns
returns c = record { write = written-streams; show = shown-streams; recover = recovered-streams; repair = repaired-streams; sample = sampled-streams; join = joined-streams; refused_join = refused-streams; ranges = ranges-streams; append = grown-streams; collect = collected-streams }
