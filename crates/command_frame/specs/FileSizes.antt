-- Inside. The sizes of files that may be read, and what is handed out of one. Own.
use Rattle.std.specs.Prelude.{◌≡◌, ℕ, ◌<◌, ◌⊎◌, Option, IfSome, IsSomeAnd, List, [], ◌∷◌, length}
use Rattle.record_io.specs.Outside.{Rose}
use Rattle.command_frame.specs.declared.sizes.SizeEnd.{SizeEnd}
use Rattle.command_frame.specs.FileAnswers.{IsTooLong, most_file_bytes}
use Rattle.command_frame.specs.Meanings.{Meaning}
use Rattle.command_frame.specs.declared.sizes.SizeEnd.TheVariants as end

-- why no size was told of a file that may be read: it told too many bytes, or it failed
abbrev pub IsUnsized : SizeEnd → (told : Option ℕ) → (file : Option (List ℕ)) → (before after : ℕ) → Type 0
IsUnsized end.Limit told file before after =
    IsSomeAnd told (λ size. IsTooLong (size ∷ [])) × IfSome file (λ bytes. most_file_bytes < length bytes)
IsUnsized end.File told file before after = Rose before after

-- what was handed out of the one file: nothing, or it has told a size by which a command goes on to its work, and no more than
-- the command may take
abbrev pub HandsOut : Meaning → Option ℕ → (before after : ℕ) → Type 0
HandsOut m told before after =
    (after ≡ before)
    ⊎ IsSomeAnd told (λ size. m.may_work (size ∷ []) × m.may_take (size ∷ []) (before ∷ []) (after ∷ []))
