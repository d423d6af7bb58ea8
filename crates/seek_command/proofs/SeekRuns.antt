-- How a run of `seek` ends, by how its work ended.
use Rattle.std.proofs.Common.{◌≡◌, refl, inl, inr}
use Rattle.command_frame.proofs.FileEnds.{EndsWhole, MayEndInReach}
use Rattle.command_frame.proofs.FileRuns.{ReadsFile, reads_file}
use Rattle.show_command.proofs.ReadingRuns.{IsReading}
use Rattle.seek_command.specs.SeekCommand.{IsSeekAnswer, IsSeekSoFar, seek_meaning}
use Rattle.seek_command.specs.SeekEnds.{unfound_text, unfound_status, seek_ends}
use Rattle.seek_command.specs.declared.seeking.Unfound.{Unfound}
use Rattle.seek_command.specs.declared.seeking.Unfound.TheVariants as unfound
use Rattle.seek_command.specs.declared.seek_words.SeekWords.{SeekWords}
use Rattle.command_frame.specs.declared.status.Status.TheVariants as status

seek_reads_file : (words : SeekWords) → ReadsFile (seek_meaning words) (IsSeekAnswer words) IsSeekSoFar
seek_reads_file words = reads_file (IsSeekAnswer words) IsSeekSoFar _ _ _ _ _ refl refl refl refl

-- how it ends where no record was found
unfound_whole : (words : SeekWords) (why : Unfound) → EndsWhole (seek_meaning words) (unfound_status why)
unfound_whole words unfound.Nothing = (tt, λ before after. tt)
unfound_whole words (unfound.Refused fault) = (tt, λ before after. tt)

unfound_other : (why : Unfound) → ¬ (unfound_status why ≡ status.Ok)
unfound_other unfound.Nothing is = cc is
unfound_other (unfound.Refused fault) is = cc is

unfound_may_end : (words : SeekWords) (why : Unfound) → MayEndInReach (seek_meaning words) (unfound_status why) (unfound_text why)
unfound_may_end words unfound.Nothing = λ sizes reach. inr (reach, refl, refl)
unfound_may_end words (unfound.Refused fault) = λ sizes reach. inl (inl (reach, inr (fault, refl, refl)))

pub seek_reads : (words : SeekWords) → IsReading {X = Unit {0}} (seek_meaning words) seek_ends (IsSeekAnswer words) IsSeekSoFar
seek_reads words = record {
  one = seek_reads_file words;
  by = record {
    too_long = λ sizes long. inl (inr (long, refl, refl));
    whole = unfound_whole words;
    other = unfound_other;
  };
  done = λ x. (λ sizes reach. inl (inl (reach, inl (refl, refl))), (tt, λ before after. tt));
  at = unfound_may_end words;
  unmade = refl;
  says_nothing = λ text is. is;
  may_say = refl;
}
