-- Promise. Which words are paths. Own.
use Rattle.std.specs.Prelude.{ℕ, Option, Some, None, List, [], get_or}

-- the path of a file, by its place among the words, and an empty one where it has none
abbrev pub path_at : List (List ℕ) → Option ℕ → List ℕ
path_at words None = []
path_at words (Some place) = get_or words place []
