-- Inside. Whether a search has one answer at most. Own.
use Rattle.std.specs.Prelude.{Bool, true, false}
use Rattle.seek_command.specs.declared.seek_words.By.{By}
use Rattle.seek_command.specs.declared.seek_words.By.TheVariants.{At, Key}

-- whether there is one answer at most: for a position, while several records may be found for a key where they aren't in order
abbrev pub has_one_answer : By → Bool
has_one_answer (At position) = true
has_one_answer (Key key) = false
