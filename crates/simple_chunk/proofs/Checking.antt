-- The steps of a checker: what it takes in each stage, and what it knows at the end.
use Rattle.std.proofs.Common.{◌≡◌, ◌≢◌, ℕ, ◌+◌, ◌-◌, ◌<◌, ◌≤◌, List, [], ◌∷◌, ◌++◌, length, take, drop, refl, sym, ap, ◌∙◌, arith, subst}
use Rattle.std.specs.Prelude.{◌↔◌}
use Rattle.std.proofs.lemmas.List.{length-append, append_assoc, append-nil, take-append-drop, length-drop}
use Rattle.std.proofs.Math.Seq.{take-append-add, take-nil}
use Rattle.varint_wire.specs.Varint.{Spells}
use Rattle.varint_wire.specs.Reading.{IsCut, IsLong}
use Rattle.varint_wire.proofs.Faults.{cut_has_no_spelling, long_begins_none}
use Rattle.chunk_header.specs.SimpleChunks.{IsSimpleChunk, IsCompressed}
use Rattle.chunk_header.specs.Views.{value_of}
use Rattle.chunk_header.specs.declared.Header.{Header}
use Rattle.simple_chunk.specs.Sizes.{AreParts, IsSplit}
use Rattle.simple_chunk.specs.SizesLeft.{AreLeft}
use Rattle.simple_chunk.specs.Checkers.{CheckerValue, chunk_of, CompletesAt, Completes, CompressesAt, Compresses, HasChecked, Follows, IsBehindFront, IsBehindSizes}
use Rattle.simple_chunk.specs.declared.checker.Stage.{Stage}
use Rattle.simple_chunk.specs.declared.checker.Stage.TheVariants.{Front, SizesLen, Sizes, Compressed, Wrong}
use Rattle.simple_chunk.proofs.PartLemmas.{Parts-split, Holding-IsSimpleChunk, IsSimpleChunk-parts, IsSimpleChunk-long, none-unparted, parts_at}

-- what holds of a stage's rule holds of the checker that is there
at_stage : (c : CheckerValue) (stage : Stage) (rest : List ℕ) → c.stage ≡ stage
    → (Completes c rest ↔ CompletesAt stage c rest) × (Compresses c rest ↔ CompressesAt stage c rest)
at_stage c stage rest is =
    subst (λ s. (CompletesAt s c rest ↔ CompletesAt stage c rest) × (CompressesAt s c rest ↔ CompressesAt stage c rest)) (sym is)
    ((λ h. h, λ h. h), (λ h. h, λ h. h))

-- a step from one stage to another
step : (a b : CheckerValue) (s t : Stage) (bytes : List ℕ) → a.stage ≡ s → b.stage ≡ t → length bytes + b.left ≡ a.left
    → ((rest : List ℕ) → length rest ≡ b.left → CompletesAt s a (bytes ++ rest) ↔ CompletesAt t b rest)
    → ((rest : List ℕ) → length rest ≡ b.left → CompressesAt s a (bytes ++ rest) ↔ CompressesAt t b rest)
    → Follows a b bytes
step a b s t bytes from to left holds compressed = record {
  left = left;
  holds = λ rest many.
      let old = (at_stage a s (bytes ++ rest) from).0 in
      let new = (at_stage b t rest to).0 in
      let both = holds rest many in
      (λ h. new.1 (both.0 (old.0 h)), λ h. old.1 (both.1 (new.0 h)));
  compressed = λ rest many.
      let old = (at_stage a s (bytes ++ rest) from).1 in
      let new = (at_stage b t rest to).1 in
      let both = compressed rest many in
      (λ h. new.1 (both.0 (old.0 h)), λ h. old.1 (both.1 (new.0 h)));
}

-- a checker that takes nothing, and two steps one after another
pub Follows-none : (c : CheckerValue) → Follows c c []
Follows-none c = record { left = omega arith; holds = λ rest _. (λ h. h, λ h. h); compressed = λ rest _. (λ h. h, λ h. h) }

pub Follows-append : (a b c : CheckerValue) (front more : List ℕ) → Follows a b front → Follows b c more → Follows a c (front ++ more)
Follows-append a b c front more f g = record {
  left = omega (arith, length-append front more, f.left, g.left);
  holds = λ rest many.
      let one = f.holds (more ++ rest) (omega (arith, length-append more rest, g.left)) in
      let two = g.holds rest many in
      rw append_assoc (λ h. two.0 (one.0 h), λ h. one.1 (two.1 h));
  compressed = λ rest many.
      let one = f.compressed (more ++ rest) (omega (arith, length-append more rest, g.left)) in
      let two = g.compressed rest many in
      rw append_assoc (λ h. two.0 (one.0 h), λ h. one.1 (two.1 h));
}

-- what a checker has taken, it has taken with the bytes behind
pub HasChecked-more : (a b : CheckerValue) (h : Header) (bytes more : List ℕ) → HasChecked a h bytes → Follows a b more → HasChecked b h (bytes ++ more)
HasChecked-more a b h bytes more checked f = record {
  left = omega (arith, length-append bytes more, checked.left, f.left);
  holds = λ rest many.
      let one = checked.holds (more ++ rest) (omega (arith, length-append more rest, f.left)) in
      let two = f.holds rest many in
      rw append_assoc (λ is. two.0 (one.0 is), λ is. one.1 (two.1 is));
  compressed = λ rest many.
      let one = checked.compressed (more ++ rest) (omega (arith, length-append more rest, f.left)) in
      let two = f.compressed rest many in
      rw append_assoc (λ is. two.0 (one.0 is), λ is. one.1 (two.1 is));
}

-- a varint that is too long has no sizes behind it
len_none : (c : CheckerValue) (bytes : List ℕ) → ((v : ℕ) (front rest : List ℕ) → Spells v front → bytes ≡ front ++ rest → ⊥)
    → ¬ IsSimpleChunk (chunk_of c (0 ∷ bytes))
len_none c bytes refuses =
    none-unparted (chunk_of c (0 ∷ bytes)) (λ sizes values p.
    let split = Parts-split 0 bytes (0 ∷ bytes) sizes values refl p in refuses _ split.front _ split.spells split.joined)

pub taken_long : (a b : CheckerValue) (byte : ℕ) → a.stage ≡ SizesLen → b.stage ≡ Wrong → 1 + b.left ≡ a.left
    → IsLong (a.held ++ byte ∷ []) → Follows a b (byte ∷ [])
taken_long a b byte from to left long =
    step a b SizesLen Wrong (byte ∷ []) from to left
    (λ rest _. (
      λ h. len_none a (a.held ++ (byte ∷ rest))
          (λ v front behind s e. long_begins_none v (a.held ++ byte ∷ []) rest front behind long s (append_assoc a.held (byte ∷ []) rest ∙ e)) h,
      λ h. absurd h,
    ))
    (λ rest _. (λ h. h, λ h. h))

-- what is known where the varint is whole: the sizes and the values stand behind it
behind_len : (c : CheckerValue) (byte len : ℕ) (rest : List ℕ) → Spells len (c.held ++ byte ∷ []) → len ≤ length rest
    → AreParts (0 ∷ (c.held ++ (byte ∷ rest))) (take len rest) (drop len rest)
behind_len c byte len rest s long =
    parts_at len (0 ∷ (c.held ++ (byte ∷ rest))) (c.held ++ byte ∷ []) rest s long
    (ap (λ (xs : List ℕ). 0 ∷ xs) (sym (append_assoc c.held (byte ∷ []) rest)))

pub taken_len : (a b : CheckerValue) (byte len : ℕ) → a.stage ≡ SizesLen → b.stage ≡ Sizes → 1 + b.left ≡ a.left
    → Spells len (a.held ++ byte ∷ []) → len ≤ b.left → b.left - len ≡ a.decoded_size → b.size_bytes ≡ len
    → b.sizes ≡ record { count = a.num_records; whole = a.decoded_size; held = [] } → Follows a b (byte ∷ [])
taken_len a b byte len from to left s fits size is sizes =
    step a b SizesLen Sizes (byte ∷ []) from to left
    (λ rest many.
    let k = chunk_of a (0 ∷ (a.held ++ (byte ∷ rest))) in
    let p = behind_len a byte len rest s (omega arith) in
    let whole : length (drop len rest) ≡ a.decoded_size = omega (arith, length-drop len rest) in
    rw (sizes, is) (
      λ h. (Holding-IsSimpleChunk k (take len rest) (drop len rest) p h).sizes_are,
      λ h. IsSimpleChunk-parts k (take len rest) (drop len rest) refl p whole h,
    ))
    (λ rest _. (λ h. h, λ h. h))

-- or they cannot be as many as they must
pub taken_other : (a b : CheckerValue) (byte len : ℕ) → a.stage ≡ SizesLen → b.stage ≡ Wrong → 1 + b.left ≡ a.left
    → Spells len (a.held ++ byte ∷ []) → ¬ ((len ≤ b.left) × (b.left - len ≡ a.decoded_size)) → Follows a b (byte ∷ [])
taken_other a b byte len from to left s other =
    step a b SizesLen Wrong (byte ∷ []) from to left
    (λ rest many.
    let k = chunk_of a (0 ∷ (a.held ++ (byte ∷ rest))) in
    let split : IsSplit len rest (a.held ++ (byte ∷ rest)) =
    record { front = a.held ++ byte ∷ []; spells = s; joined = sym (append_assoc a.held (byte ∷ []) rest) } in (
      λ h.
          let long : len ≤ length rest = IsSimpleChunk-long k len rest (a.held ++ (byte ∷ rest)) refl split h in
          let p = behind_len a byte len rest s long in
          let size = (Holding-IsSimpleChunk k (take len rest) (drop len rest) p h).size in
          other (omega arith, omega (arith, length-drop len rest)),
      λ h. absurd h,
    ))
    (λ rest _. (λ h. h, λ h. h))

-- sizes that are right, and others
pub taken_sizes : (a b : CheckerValue) (bytes : List ℕ) → a.stage ≡ Sizes → b.stage ≡ Sizes → length bytes + b.left ≡ a.left
    → length bytes + b.size_bytes ≡ a.size_bytes
    → ((rest : List ℕ) → AreLeft a.sizes (bytes ++ rest) ↔ AreLeft b.sizes rest) → Follows a b bytes
taken_sizes a b bytes from to left some right =
    step a b Sizes Sizes bytes from to left
    (λ rest _.
    let front : take a.size_bytes (bytes ++ rest) ≡ bytes ++ take b.size_bytes rest = rw (← some) (take-append-add bytes rest b.size_bytes) in
    rw front (right (take b.size_bytes rest)))
    (λ rest _. (λ h. h, λ h. h))

pub taken_wrong : (a b : CheckerValue) (bytes : List ℕ) → a.stage ≡ Sizes → b.stage ≡ Wrong → length bytes + b.left ≡ a.left
    → length bytes ≤ a.size_bytes → ((rest : List ℕ) → ¬ AreLeft a.sizes (bytes ++ rest)) → Follows a b bytes
taken_wrong a b bytes from to left some wrong =
    step a b Sizes Wrong bytes from to left
    (λ rest _.
    let more : length bytes + (a.size_bytes - length bytes) ≡ a.size_bytes = omega arith in
    let front : take a.size_bytes (bytes ++ rest) ≡ bytes ++ take (a.size_bytes - length bytes) rest =
    ap (λ (n : ℕ). take n (bytes ++ rest)) (sym more) ∙ take-append-add bytes rest (a.size_bytes - length bytes) in
    (λ h. wrong (take (a.size_bytes - length bytes) rest) (rw front at h), λ h. absurd h))
    (λ rest _. (λ h. h, λ h. h))

-- values, and what follows where the answer is known
values_at : (c : CheckerValue) (left : ℕ) (s : Stage) (bytes rest : List ℕ) → IsBehindFront s → (s ≡ Sizes → c.size_bytes ≡ 0)
    → (CompletesAt s c (bytes ++ rest) ↔ CompletesAt s (record c { left = left }) rest)
    × (CompressesAt s c (bytes ++ rest) ↔ CompressesAt s (record c { left = left }) rest)
values_at c left Front bytes rest behind none = absurd behind
values_at c left SizesLen bytes rest behind none = absurd behind
values_at c left Sizes bytes rest behind none = rw (none refl) ((λ h. h, λ h. h), (λ h. h, λ h. h))
values_at c left Compressed bytes rest behind none = ((λ h. h, λ h. h), (λ h. h, λ h. h))
values_at c left Wrong bytes rest behind none = ((λ h. h, λ h. h), (λ h. h, λ h. h))

pub taken_values : (a : CheckerValue) (left : ℕ) (bytes : List ℕ) → IsBehindSizes a → length bytes + left ≡ a.left
    → Follows a (record a { left = left }) bytes
taken_values a left bytes behind many = record {
  left = many;
  holds = λ rest _. (values_at a left a.stage bytes rest behind.0 behind.1).0;
  compressed = λ rest _. (values_at a left a.stage bytes rest behind.0 behind.1).1;
}

-- what is left of a piece behind the sizes, if anything
rest_taken : (a : CheckerValue) (left : ℕ) (values : List ℕ) → (0 < length values → IsBehindSizes a) → length values + left ≡ a.left
    → Follows a (record a { left = left }) values
rest_taken a left [] behind many =
    let same : a.left ≡ left = omega arith in
    subst (λ (n : ℕ). Follows a (record a { left = n }) []) same (Follows-none a)
rest_taken a left (x ∷ values) behind many = taken_values a left (x ∷ values) (behind (omega arith)) many

-- a piece is taken in three steps
pub fed : (a b c : CheckerValue) (h : Header) (bytes piece behind values : List ℕ) (n m left : ℕ)
    → Follows a b (take n piece) → behind ≡ drop n piece → Follows b c (take m behind) → values ≡ drop m behind
    → (m < length behind → IsBehindSizes c) → length values + left ≡ c.left → HasChecked a h bytes
    → HasChecked (record c { left = left }) h (bytes ++ piece)
fed a b c h bytes piece behind values n m left front behind_is sizes values_are past many checked =
    let rest : Follows c (record c { left = left }) values =
    rest_taken c left values (λ some. past (omega (arith, length-drop m behind, ap length values_are))) many in
    let joined : take n piece ++ (take m behind ++ values) ≡ piece =
    ap (λ (xs : List ℕ). take n piece ++ (take m behind ++ xs)) values_are
    ∙ ap (λ (xs : List ℕ). take n piece ++ xs) (take-append-drop m behind ∙ behind_is)
    ∙ take-append-drop n piece in
    subst (λ (xs : List ℕ). HasChecked (record c { left = left }) h (bytes ++ xs)) joined
    (HasChecked-more a (record c { left = left }) h bytes (take n piece ++ (take m behind ++ values)) checked
    (Follows-append a b (record c { left = left }) (take n piece) (take m behind ++ values) front
    (Follows-append b c (record c { left = left }) (take m behind) values sizes rest)))

-- at the end nothing follows
pub record Ended (c : CheckerValue) (h : Header) (bytes : List ℕ) (s : Stage) : Type 0 where
  pub holds : IsSimpleChunk (value_of h bytes) ↔ CompletesAt s c []
  pub compressed : IsCompressed (value_of h bytes) ↔ CompressesAt s c []

pub Ended-at : (c : CheckerValue) (h : Header) (bytes : List ℕ) (s : Stage) → c.left ≡ 0 → c.stage ≡ s → HasChecked c h bytes → Ended c h bytes s
Ended-at c h bytes s none is checked =
    let whole = append-nil bytes in
    let holds = checked.holds [] (sym none) in
    let compressed = checked.compressed [] (sym none) in
    let at = at_stage c s [] is in
    record {
      holds = subst (λ (xs : List ℕ). IsSimpleChunk (value_of h xs) ↔ CompletesAt s c []) whole
          (λ x. at.0.0 (holds.0 x), λ x. holds.1 (at.0.1 x));
      compressed = subst (λ (xs : List ℕ). IsCompressed (value_of h xs) ↔ CompressesAt s c []) whole
          (λ x. at.1.0 (compressed.0 x), λ x. compressed.1 (at.1.1 x));
    }

-- where the sizes were reached, records stand in the data exactly where none is still to come
pub Ended-sizes : (c : CheckerValue) (h : Header) (bytes : List ℕ) → c.left ≡ 0 → c.stage ≡ Sizes → HasChecked c h bytes
    → (IsSimpleChunk (value_of h bytes) ↔ AreLeft c.sizes []) × (¬ IsCompressed (value_of h bytes))
Ended-sizes c h bytes none is checked =
    let end = Ended-at c h bytes Sizes none is checked in
    let nothing : take {A = ℕ} c.size_bytes [] ≡ [] = take-nil c.size_bytes in
    (rw nothing at end.holds, end.compressed.0)

pub Ended-compressed : (c : CheckerValue) (h : Header) (bytes : List ℕ) → c.left ≡ 0 → c.stage ≡ Compressed → HasChecked c h bytes
    → (¬ IsSimpleChunk (value_of h bytes)) × IsCompressed (value_of h bytes)
Ended-compressed c h bytes none is checked =
    let end = Ended-at c h bytes Compressed none is checked in
    (end.holds.0, end.compressed.1 tt)

-- and where the sizes were not reached, or are wrong, no records stand in the data
unread_at : (c : CheckerValue) (s : Stage) → s ≢ Sizes → s ≢ Compressed → IsCut c.held → (¬ CompletesAt s c []) × (¬ CompressesAt s c [])
unread_at c Front other compressed cut = (
  none-unparted (chunk_of c []) (λ sizes values p. omega (arith, ap length p.joined)),
  λ h. omega (arith, h.1),
)
unread_at c SizesLen other compressed cut = (
  len_none c (c.held ++ []) (λ v front rest s e. cut_has_no_spelling v c.held front rest cut s (sym (append-nil c.held) ∙ e)),
  λ h. h,
)
unread_at c Sizes other compressed cut = absurd (other refl)
unread_at c Compressed other compressed cut = absurd (compressed refl)
unread_at c Wrong other compressed cut = (λ h. h, λ h. h)

pub Ended-unread : (c : CheckerValue) (h : Header) (bytes : List ℕ) → c.left ≡ 0 → c.stage ≢ Sizes → c.stage ≢ Compressed → IsCut c.held
    → HasChecked c h bytes → (¬ IsSimpleChunk (value_of h bytes)) × (¬ IsCompressed (value_of h bytes))
Ended-unread c h bytes none other compressed cut checked =
    let end = Ended-at c h bytes c.stage none refl checked in
    let unread = unread_at c c.stage other compressed cut in
    (λ x. unread.0 (end.holds.0 x), λ x. unread.1 (end.compressed.0 x))
