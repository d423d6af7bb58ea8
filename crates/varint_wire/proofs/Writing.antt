-- The steps of writing the shortest spelling.
use Rattle.std.proofs.Common.{◌≡◌, ℕ, suc, ◌+◌, ◌-◌, ◌/◌, ◌%◌, ◌^◌, ◌<◌, ◌≤◌, List, [], ◌∷◌, ◌++◌, length, take, drop, set, arith, sym, ap, ◌∙◌, ⊎_elim}
use Rattle.std.proofs.lemmas.Bool.{cases_lt}
use Rattle.std.proofs.lemmas.List.{take_more_set, append_assoc, drop-set-lt, drop-drop}
use Rattle.varint_wire.specs.Varint.{shortest_within}
use Rattle.varint_wire.proofs.Spellings.{div-lt-pow, shortest_within-small, shortest_within-large}

-- where a group is left to be marked, the place is not the tenth, and one group less is left
pub room_more : (at rest : ℕ) → at ≤ 9 → rest < 128 ^ (10 - at) → 128 ≤ rest → (at ≤ 8) × (rest / 128 < 128 ^ (10 - (at + 1)))
room_more at rest few below large =
    let left : 10 - at ≡ suc (10 - (at + 1)) = omega arith in
    let less = div-lt-pow rest (10 - (at + 1)) (rw left at below) in
    ⊎_elim (λ (h : at < 9). (omega arith, less))
    (λ (h : 9 ≤ at). absurd (let one : 10 - at ≡ 1 = omega arith in let small : rest < 128 ^ 1 = rw one at below in omega arith))
    (cases_lt at 9)

-- a group more is written, a group less is left
pub write_more : (buf whole : List ℕ) (at rest : ℕ) → at < length buf → at ≤ 8 → 128 ≤ rest → take at buf ++ shortest_within (9 - at) rest ≡ whole → take (at + 1) (set buf at (rest % 128 + 128)) ++ shortest_within (9 - (at + 1)) (rest / 128) ≡ whole
write_more buf whole at rest inside few large h =
    let left : 9 - at ≡ suc (9 - (at + 1)) = omega arith in
    let group = ap (λ n. shortest_within n rest) left ∙ shortest_within-large (9 - (at + 1)) rest large in
    let front = take_more_set buf at (rest % 128 + 128) inside in
    ap (λ bytes. bytes ++ shortest_within (9 - (at + 1)) (rest / 128)) front ∙ append_assoc (take at buf) ((rest % 128 + 128) ∷ []) (shortest_within (9 - (at + 1)) (rest / 128)) ∙ sym (ap (λ bytes. take at buf ++ bytes) group) ∙ h

-- the last group is written
pub write_last : (buf whole : List ℕ) (at rest : ℕ) → at < length buf → rest < 128 → take at buf ++ shortest_within (9 - at) rest ≡ whole → take (at + 1) (set buf at rest) ≡ whole
write_last buf whole at rest inside small h =
    take_more_set buf at rest inside ∙ sym (ap (λ bytes. take at buf ++ bytes) (shortest_within-small (9 - at) rest small)) ∙ h

-- what stands behind a written byte is as it was
pub behind_more : (buf old : List ℕ) (at x : ℕ) → drop at buf ≡ drop at old → drop (at + 1) (set buf at x) ≡ drop (at + 1) old
behind_more buf old at x h =
    drop-set-lt (at + 1) buf at x (omega arith) ∙ sym (drop-drop 1 at buf) ∙ ap (drop 1) h ∙ drop-drop 1 at old

-- what holds of the length of the shortest spelling where groups are counted
pub record Counting (len groups whole : ℕ) : Type 0 where
  pub room : len ≤ 10
  pub below : groups < 128 ^ (11 - len)
  pub counted : len + length (shortest_within (10 - len) groups) ≡ 1 + whole

-- a group more is counted, a group less is left
pub Counting-more : (len groups whole : ℕ) → Counting len groups whole → 128 ≤ groups → Counting (len + 1) (groups / 128) whole
Counting-more len groups whole h large =
    let left : 11 - len ≡ suc (11 - (len + 1)) = omega (arith, h.room) in
    let less = div-lt-pow groups (11 - (len + 1)) (rw left at h.below) in
    ⊎_elim
    (λ (more : len < 10).
    let inner : 10 - len ≡ suc (10 - (len + 1)) = omega arith in
    let group = ap length (ap (λ n. shortest_within n groups) inner ∙ shortest_within-large (10 - (len + 1)) groups large) in
    record { room = omega arith; below = less; counted = omega (arith, h.counted) })
    (λ (last : 10 ≤ len). absurd
    (let one : 11 - len ≡ 1 = omega (arith, h.room) in
    let small : groups < 128 ^ 1 = rw one at h.below in
    omega arith))
    (cases_lt len 10)

-- the last group is counted
pub Counting-last : (len groups whole : ℕ) → Counting len groups whole → groups < 128 → len ≡ whole
Counting-last len groups whole h small = omega (arith, h.counted, ap length (shortest_within-small (10 - len) groups small))
