-- Inside. What stands behind the standard streams. Own.
use Rattle.std.specs.Prelude.{◌≡◌}
use Rattle.real_files.specs.declared.streams.FileId.{FileId}
use Rattle.real_files.specs.declared.streams.Behind.{Behind}
use Rattle.real_files.specs.declared.streams.Behind.TheVariants.{File, NoFile, Unknown}

-- this file may stand behind a stream: it does, or nothing can be learned of what does
abbrev pub MayBe : Behind → FileId → Type 0
MayBe (File own) file = own ≡ file
MayBe NoFile file = ⊥
MayBe Unknown file = Unit {0}

-- what is known to stand behind a stream: no file, where nothing can be learned of it
abbrev pub known : Behind → Behind
known (File own) = File own
known NoFile = NoFile
known Unknown = NoFile
