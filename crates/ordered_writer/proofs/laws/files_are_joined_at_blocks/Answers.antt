use Rattle.std.proofs.Common.{inl}
use Rattle.ordered_writer.proofs.JoinedFiles.{IsBoundary-file, IsFileOf-joined, length-joined, records-joined, totals-joined}
use Rattle.ordered_writer.proofs.laws.files_are_joined_at_blocks.Goals as goal

pub returns-clause-boundary : goal.returns-clause-boundary
returns-clause-boundary c = λ ks file h. IsBoundary-file ks file h

pub returns-clause-well_formed : goal.returns-clause-well_formed
returns-clause-well_formed c = λ ks more file other h g. IsFileOf-joined ks more file other (λ k plain. inl plain) h g

pub returns-clause-file : goal.returns-clause-file
returns-clause-file c = λ ks more file other h g. IsFileOf-joined ks more file other (λ k plain. plain) h g

pub returns-clause-size : goal.returns-clause-size
returns-clause-size c = λ ks file other h. length-joined file other

pub returns-clause-records : goal.returns-clause-records
returns-clause-records c = records-joined

pub returns-clause-totals : goal.returns-clause-totals
returns-clause-totals c = totals-joined
