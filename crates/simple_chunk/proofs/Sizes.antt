-- The sizes of records, as they are written one after another.
use Rattle.std.proofs.Common.{◌≡◌, ℕ, ◌+◌, ◌<◌, Some, List, [], ◌∷◌, ◌++◌, length, drop, ap, ◌∙◌, append_assoc, sym}
use Rattle.std.specs.Prelude.{slice_get}
use Rattle.std.proofs.lemmas.List.{drop_more, length-append}
use Rattle.std.proofs.lemmas.Option.{slice_get_within, get_or_from_slice_get}
use Rattle.varint_wire.specs.Varint.{shortest}
use Rattle.varint_wire.proofs.Spellings.{shortest_within-small}
use Rattle.chunk_header.specs.SimpleChunks.{sizes_of}

-- the sizes from a record on are its own and those behind it
sizes_of-drop : (records : List (List ℕ)) (i : ℕ) (rec : List ℕ) → slice_get records i ≡ Some rec
    → sizes_of (drop i records) ≡ shortest (length rec) ++ sizes_of (drop (i + 1) records)
sizes_of-drop records i rec is =
    ap sizes_of
    (drop_more records i rec (slice_get_within records i rec is)
    ∙ ap (λ (first : List ℕ). first ∷ drop (i + 1) records) (get_or_from_slice_get records i rec rec is))

-- so is how many bytes they take
pub length-sizes_of-drop : (records : List (List ℕ)) (i : ℕ) (rec : List ℕ) → slice_get records i ≡ Some rec
    → length (sizes_of (drop i records)) ≡ length (shortest (length rec)) + length (sizes_of (drop (i + 1) records))
length-sizes_of-drop records i rec is =
    ap length (sizes_of-drop records i rec is) ∙ length-append (shortest (length rec)) (sizes_of (drop (i + 1) records))

-- where one more size is written, the rest is those behind it
pub sizes_of-written : (written : List ℕ) (records : List (List ℕ)) (i : ℕ) (rec : List ℕ) → slice_get records i ≡ Some rec
    → (written ++ shortest (length rec)) ++ sizes_of (drop (i + 1) records) ≡ written ++ sizes_of (drop i records)
sizes_of-written written records i rec is =
    append_assoc written (shortest (length rec)) (sizes_of (drop (i + 1) records))
    ∙ ap (λ (bytes : List ℕ). written ++ bytes) (sym (sizes_of-drop records i rec is))

-- a small number is its own shortest spelling
pub shortest-small : (v : ℕ) → v < 128 → shortest v ≡ v ∷ []
unfolding shortest
shortest-small v h = shortest_within-small 9 v h
