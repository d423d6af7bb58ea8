use Rattle.std.proofs.Common.{◌∙◌, None, Some, [], sym, rules}
use Rattle.std.proofs.Math.Seq.{map-set_same}
use Rattle.riegeli_tool.specs.declared.command.Command.TheVariants.{Write, Show, Recover, Verify, Seek, Repair, Sample, Join, Ranges, Append, Collect}
use Rattle.record_io.specs.Seen.{seen_file}
use Rattle.command_frame.specs.RunObjects.{seen}
use Rattle.command_frame.specs.Unseen.{unseen}
use Rattle.command_frame.proofs.RunEnds.{runs-one_file}
use Rattle.riegeli_tool.proofs.PastDamage.{runs-as}
use Rattle.riegeli_tool.proofs.UsageRuns.{runs-usage}
use Rattle.riegeli_tool.proofs.program.run.Goals as goal

pub returns-in-Some-Write-clause-runs : goal.returns-in-Some-Write-clause-runs
returns-in-Some-Write-clause-runs g c = runs-as (Some (Write c.in-Some-Write.words)) _ _ _ _ (search rules) (c.write.ensures.runs (seen unseen _ unseen _ _ unseen))

pub returns-in-Some-Sample-clause-runs : goal.returns-in-Some-Sample-clause-runs
returns-in-Some-Sample-clause-runs g c = runs-as (Some (Sample c.in-Some-Sample.words)) _ _ _ _ (search rules) (c.sample.ensures.runs (seen _ _ unseen _ unseen unseen))

pub returns-in-Some-Join-clause-runs : goal.returns-in-Some-Join-clause-runs
returns-in-Some-Join-clause-runs g c = runs-as (Some (Join c.in-Some-Join.field-0-0)) _ _ _ _ (search rules) (c.join_files.ensures.runs (seen _ [] unseen _ unseen unseen))

pub returns-in-Some-Ranges-clause-runs : goal.returns-in-Some-Ranges-clause-runs
returns-in-Some-Ranges-clause-runs g c = runs-as (Some (Ranges c.in-Some-Ranges.words)) _ _ _ _ (search rules) (c.ranges-in-Some-Ranges.ensures.runs (seen _ [] _ _ unseen unseen))

pub returns-in-Some-Append-clause-runs : goal.returns-in-Some-Append-clause-runs
returns-in-Some-Append-clause-runs g c = runs-as (Some (Append c.in-Some-Append.words)) _ _ _ _ (search rules) (c.append.ensures.runs (seen unseen _ _ (record { bytes = None; told = None; handed = 0; faults = 0 }) unseen unseen))

pub returns-in-Some-Collect-clause-runs : goal.returns-in-Some-Collect-clause-runs
returns-in-Some-Collect-clause-runs g c = runs-as (Some (Collect c.in-Some-Collect.field-0-0)) _ _ _ _ (search rules) (c.collect_files.ensures.runs (seen _ [] unseen _ unseen unseen))

pub returns-in-Some-Show-clause-runs : goal.returns-in-Some-Show-clause-runs
returns-in-Some-Show-clause-runs g c =
    runs-as (Some (Show c.in-Some-Show.words)) _ _ _ _ (search rules)
    (runs-one_file (seen_file g.S.Store.bytes g.S.Store.told g.S.Store.handed g.S.Store.faults) c.args.files.now _ c.show.new.file _ (seen _ [] _ _ _ _) (seen _ [] _ _ _ _) _
    (search rules) (c.show.ensures.runs (seen _ [] _ _ unseen unseen)))

pub returns-in-Some-Recover-clause-runs : goal.returns-in-Some-Recover-clause-runs
returns-in-Some-Recover-clause-runs g c =
    runs-as (Some (Recover c.in-Some-Recover.words)) _ _ _ _ (search rules)
    (runs-one_file (seen_file g.S.Store.bytes g.S.Store.told g.S.Store.handed g.S.Store.faults) c.args.files.now _ c.recover.new.file _ (seen _ [] _ _ _ _) (seen _ [] _ _ _ _) _
    (search rules) (c.recover.ensures.runs (seen _ [] _ _ unseen unseen)))

pub returns-in-Some-Verify-clause-runs : goal.returns-in-Some-Verify-clause-runs
returns-in-Some-Verify-clause-runs g c =
    runs-as (Some (Verify c.in-Some-Verify.field-0-0)) _ _ _ _ (search rules)
    (runs-one_file (seen_file g.S.Store.bytes g.S.Store.told g.S.Store.handed g.S.Store.faults) c.args.files.now _ c.verify.new.file _ (seen _ [] _ _ _ _) (seen _ [] _ _ _ _) _
    (search rules) (c.verify.ensures.runs (seen _ [] _ _ unseen unseen)))

pub returns-in-Some-Seek-clause-runs : goal.returns-in-Some-Seek-clause-runs
returns-in-Some-Seek-clause-runs g c =
    runs-as (Some (Seek c.in-Some-Seek.words)) _ _ _ _ (search rules)
    (runs-one_file (seen_file g.S.Store.bytes g.S.Store.told g.S.Store.handed g.S.Store.faults) c.args.files.now _ c.show_found.new.file _ (seen _ [] _ _ _ _) (seen _ [] _ _ _ _) _
    (search rules) (c.show_found.ensures.runs (seen _ [] _ _ unseen unseen)))

pub returns-in-Some-Repair-clause-runs : goal.returns-in-Some-Repair-clause-runs
returns-in-Some-Repair-clause-runs g c =
    runs-as (Some (Repair c.in-Some-Repair.words)) _ _ _ _ (search rules)
    (runs-one_file (seen_file g.S.Store.bytes g.S.Store.told g.S.Store.handed g.S.Store.faults) c.args.files.now _ c.repair.new.file _ (seen _ [] _ _ _ _) (seen _ [] _ _ _ _) _
    (search rules) (c.repair.ensures.runs (seen _ [] unseen _ unseen unseen)))

pub returns-in-Some-Show-clause-same_bytes : goal.returns-in-Some-Show-clause-same_bytes
returns-in-Some-Show-clause-same_bytes g c =
    map-set_same g.S.Store.bytes c.args.files.now 0 c.show.new.file c.index-files-0.result c.show.ensures.file.same_bytes

pub returns-in-Some-Show-clause-same_names : goal.returns-in-Some-Show-clause-same_names
returns-in-Some-Show-clause-same_names g c =
    map-set_same g.S.Store.name c.args.files.now 0 c.show.new.file c.index-files-0.result c.show.ensures.file.same_name

pub returns-in-Some-Recover-clause-same_bytes : goal.returns-in-Some-Recover-clause-same_bytes
returns-in-Some-Recover-clause-same_bytes g c =
    map-set_same g.S.Store.bytes c.args.files.now 0 c.recover.new.file c.index-files-0-in-Some-Recover.result c.recover.ensures.file.same_bytes

pub returns-in-Some-Recover-clause-same_names : goal.returns-in-Some-Recover-clause-same_names
returns-in-Some-Recover-clause-same_names g c =
    map-set_same g.S.Store.name c.args.files.now 0 c.recover.new.file c.index-files-0-in-Some-Recover.result c.recover.ensures.file.same_name

pub returns-in-Some-Verify-clause-same_bytes : goal.returns-in-Some-Verify-clause-same_bytes
returns-in-Some-Verify-clause-same_bytes g c =
    map-set_same g.S.Store.bytes c.args.files.now 0 c.verify.new.file c.index-files-0-in-Some-Verify.result c.verify.ensures.file.same_bytes

pub returns-in-Some-Verify-clause-same_names : goal.returns-in-Some-Verify-clause-same_names
returns-in-Some-Verify-clause-same_names g c =
    map-set_same g.S.Store.name c.args.files.now 0 c.verify.new.file c.index-files-0-in-Some-Verify.result c.verify.ensures.file.same_name

pub returns-in-Some-Seek-clause-same_bytes : goal.returns-in-Some-Seek-clause-same_bytes
returns-in-Some-Seek-clause-same_bytes g c =
    map-set_same g.S.Store.bytes c.args.files.now 0 c.show_found.new.file c.index-files-0-in-Some-Seek.result c.show_found.ensures.file.same_bytes

pub returns-in-Some-Seek-clause-same_names : goal.returns-in-Some-Seek-clause-same_names
returns-in-Some-Seek-clause-same_names g c =
    map-set_same g.S.Store.name c.args.files.now 0 c.show_found.new.file c.index-files-0-in-Some-Seek.result c.show_found.ensures.file.same_name

pub returns-in-Some-Repair-clause-same_bytes : goal.returns-in-Some-Repair-clause-same_bytes
returns-in-Some-Repair-clause-same_bytes g c =
    map-set_same g.S.Store.bytes c.args.files.now 0 c.repair.new.file c.index-files-0-in-Some-Repair.result c.repair.ensures.file.same_bytes

pub returns-in-Some-Repair-clause-same_names : goal.returns-in-Some-Repair-clause-same_names
returns-in-Some-Repair-clause-same_names g c =
    map-set_same g.S.Store.name c.args.files.now 0 c.repair.new.file c.index-files-0-in-Some-Repair.result c.repair.ensures.file.same_name

pub returns-in-None-clause-runs : goal.returns-in-None-clause-runs
returns-in-None-clause-runs g c =
    runs-as _ _ _ _ _ (sym c.in-None.is ∙ c.accept.ensures.command)
    (runs-usage (seen _ _ _ _ _ unseen) _ _ _ c.end.ensures.notes.said c.end.ensures.notes.counts.never_falls)
