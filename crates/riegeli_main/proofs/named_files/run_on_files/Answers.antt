use Rattle.std.proofs.Common.{ℕ, List, length, inl, inr, refl}
use Rattle.record_io.specs.Seen.{SeenStream, SeenFile}
use Rattle.command_frame.specs.RunObjects.{seen}
use Rattle.command_frame.specs.declared.status.Status.{Status}
use Rattle.riegeli_tool.specs.Commands.{accepted}
use Rattle.riegeli_tool.specs.CommandRuns.{RunsCommand}
use Rattle.riegeli_main.specs.FileRuns.{RunsOnFiles}
use Rattle.riegeli_main.proofs.named_files.run_on_files.Goals as goal

-- a run of the command, whatever its files and notes did
on_files : (words : List (List ℕ)) (count : ℕ) (files files_then : List SeenFile) (input input_then made made_then : SeenStream) (grown grown_then : SeenFile)
    (out out_then notes notes_then : SeenStream) (ended : Status)
    → RunsCommand (accepted words count) (seen input files made grown out notes) (seen input_then files_then made_then grown_then out_then notes_then) ended
    → RunsOnFiles words input input_then out out_then ended
on_files words count files files_then input input_then made made_then grown grown_then out out_then notes notes_then ended h = record {
  count = count;
  files = files;
  files_then = files_then;
  made = made;
  made_then = made_then;
  grown = grown;
  grown_then = grown_then;
  notes = notes;
  notes_then = notes_then;
  runs = h;
}

pub returns-in_default : goal.returns-in_default
returns-in_default g c = record { runs = inl refl }

pub returns-in_default-grown_file : goal.returns-in_default-grown_file
returns-in_default-grown_file g c = record { runs = inl refl }

pub returns : goal.returns
returns g c = record { runs = inr (on_files _ (length c.deref_mut.result.now) _ _ _ _ _ _ _ _ _ _ _ _ _ c.run.ensures.runs) }
