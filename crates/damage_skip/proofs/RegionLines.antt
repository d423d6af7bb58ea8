-- What a sink took of the line of a region, by how its puts ended.
use Rattle.std.proofs.Common.{◌≡◌, ℕ, Option, Result, Ok, Err, List, [], ◌∷◌, ◌++◌, sym, subst, decimal, append_assoc}
use Rattle.std.specs.Result.{OnOk, OnErr}
use Rattle.std.specs.List.{concat}
use Rattle.record_io.specs.Outside.{Takes, TakesShort}
use Rattle.record_io.specs.Buffers.{TakesAndHolds}
use Rattle.record_io.proofs.Calls.{Takes-append, TakesShort-append, OnErr-any}
use Rattle.record_io.proofs.Buffered.{TakesAndHolds-append, TakesShort-behind}
use Rattle.chunk_reader.specs.Names.{name_of}
use Rattle.damage_skip.specs.Regions.{region_text}
use Rattle.damage_skip.specs.declared.regions.Region.{Region}

-- the pieces behind the word
abbrev pub pieces_of : Region → List (List ℕ)
pieces_of region =
    (32 ∷ []) ∷ decimal region.begin ∷ (32 ∷ []) ∷ decimal region.end ∷ (32 ∷ []) ∷ name_of region.why ∷ (10 ∷ []) ∷ []

-- they are joined to the line's text
regrouped : (w b e n : List ℕ) → w ++ (32 ∷ (b ++ (32 ∷ (e ++ (32 ∷ (n ++ (10 ∷ []))))))) ≡ w ++ 32 ∷ b ++ 32 ∷ e ++ 32 ∷ n ++ 10 ∷ []
regrouped w b e n = simp append_assoc

pieces-text : (word : List ℕ) (region : Region) → word ++ concat (pieces_of region) ≡ region_text word region
pieces-text word region = regrouped word (decimal region.begin) (decimal region.end) (name_of region.why)

-- what is held behind the word and the pieces
held_whole : (a b c : Option (List ℕ)) (word held then : List ℕ) (region : Region) → TakesAndHolds a b word held
    → TakesAndHolds b c (held ++ concat (pieces_of region)) then → TakesAndHolds a c (region_text word region) then
held_whole a b c word held then region first next =
    subst (λ (xs : List ℕ). TakesAndHolds a c xs then) (pieces-text word region)
    (TakesAndHolds-append a b c [] held then word (concat (pieces_of region)) first next)

-- the whole line
pub line-whole : {X E : Type 0} (r : Result X E) (a b c d : Option (List ℕ)) (word held then : List ℕ) (region : Region) → TakesAndHolds a b word held
    → TakesAndHolds b c (held ++ concat (pieces_of region)) then → OnOk r (Takes c d then) → OnOk r (Takes a d (region_text word region))
line-whole (Ok x) a b c d word held then region first next last =
    let whole = held_whole a b c word held then region first next in
    subst (λ (xs : List ℕ). Takes a d xs) (sym whole.parts) (Takes-append a c d whole.passed then whole.taken last)
line-whole (Err e) a b c d word held then region first next last = tt

-- or not all of it
pub line-front : {X E : Type 0} (r : Result X E) (a b c d : Option (List ℕ)) (word held then : List ℕ) (region : Region) → TakesAndHolds a b word held
    → TakesAndHolds b c (held ++ concat (pieces_of region)) then → OnErr r (TakesShort c d then) → OnErr r (TakesShort a d (region_text word region))
line-front (Ok x) a b c d word held then region first next last = tt
line-front (Err e) a b c d word held then region first next last =
    let whole = held_whole a b c word held then region first next in
    subst (λ (xs : List ℕ). TakesShort a d xs) (sym whole.parts) (TakesShort-append a c d whole.passed then whole.taken last)

pub line-cut : {X E : Type 0} (r : Result X E) (a b c : Option (List ℕ)) (word held : List ℕ) (region : Region) → TakesAndHolds a b word held
    → TakesShort b c (held ++ concat (pieces_of region)) → OnErr r (TakesShort a c (region_text word region))
line-cut r a b c word held region first cut =
    OnErr-any r (subst (λ (xs : List ℕ). TakesShort a c xs) (pieces-text word region)
    (TakesShort-behind a b c [] held word (concat (pieces_of region)) first cut))
