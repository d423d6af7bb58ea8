-- The command of words by the first of them.
use Rattle.std.proofs.Common.{◌≡◌, ◌≢◌, ℕ, false, Some, None, List, [], ◌∷◌, codes, slice_get, ap, refl}
use Rattle.std.proofs.lemmas.Bool.{false_from_ne_true}
use Rattle.std.proofs.lemmas.Slice.Eq.{bytes_eq-Decides}
use Rattle.std.specs.Str.{bytes_eq}
use Rattle.riegeli_tool.specs.CommandWords.{command_named}
use Rattle.riegeli_tool.specs.Commands.{command_of}

-- a word that isn't this one
other_word : (word known : List ℕ) → word ≢ known → bytes_eq word known ≡ false
other_word word known other = false_from_ne_true _ (λ yes. other ((bytes_eq-Decides word known).0 yes))

-- the command that words are is that of their first
pub command_of-named : (words : List (List ℕ)) (name : List ℕ) → slice_get words 0 ≡ Some name → command_of words ≡ command_named name words
command_of-named [] name first = absurd (cc first)
command_of-named (word ∷ words) name first =
    let same : word ≡ name = cc first in
    ap (λ (n : List ℕ). command_named n (word ∷ words)) same

-- a name of no command
pub command_named-other : (name : List ℕ) (words : List (List ℕ))
    → name ≢ codes "write" → name ≢ codes "show" → name ≢ codes "verify" → name ≢ codes "seek" → name ≢ codes "repair" → name ≢ codes "sample"
    → name ≢ codes "join" → name ≢ codes "ranges" → name ≢ codes "append" → name ≢ codes "collect" → command_named name words ≡ None
command_named-other name words no_write no_show no_verify no_seek no_repair no_sample no_join no_ranges no_append no_collect =
    rw (
      other_word name (codes "write") no_write,
      other_word name (codes "show") no_show,
      other_word name (codes "verify") no_verify,
      other_word name (codes "seek") no_seek,
      other_word name (codes "repair") no_repair,
      other_word name (codes "sample") no_sample,
      other_word name (codes "join") no_join,
      other_word name (codes "ranges") no_ranges,
      other_word name (codes "append") no_append,
      other_word name (codes "collect") no_collect,
    ) refl
