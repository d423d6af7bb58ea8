-- What is drawn of a seed.
use Rattle.std.proofs.Common.{◌≡◌, ℕ, zero, suc, ◌+◌, ◌<◌, List, [], ◌∷◌, ◌++◌, length, take, slice_set, add-one, refl, sym, ap, ◌∙◌, arith}
use Rattle.std.proofs.lemmas.List.{take_more_set}
use Rattle.record_values.specs.Bytes.{AreBytes}
use Rattle.record_group.specs.Records.{AreRecords}
use Rattle.sample_command.specs.Generator.{next_state, letter, letters, letter_count, state_after, record_from, state_behind, drawn_from, sample_of}

pub length-letters : (count state : ℕ) → length (letters count state) ≡ count
unfolding letters
length-letters zero state = refl
length-letters (suc count) state = ap (λ n. suc n) (length-letters count (next_state state))

-- one draw more, at the end
state_after-suc : (count state : ℕ) → state_after (suc count) state ≡ next_state (state_after count state)
unfolding state_after
state_after-suc zero state = refl
state_after-suc (suc count) state = state_after-suc count (next_state state)

letters-suc : (count state : ℕ) → letters (suc count) state ≡ letters count state ++ letter (state_after count state) ∷ []
unfolding letters state_after
letters-suc zero state = refl
letters-suc (suc count) state = ap (λ (bs : List ℕ). letter state ∷ bs) (letters-suc count (next_state state))

pub state_after-more : (count n state : ℕ) → n ≡ count + 1 → state_after n state ≡ next_state (state_after count state)
state_after-more count n state is = rw (is, add-one) (state_after-suc count state)

-- so many draws, and then some more
pub state_after-sum : (count more state : ℕ) → state_after more (state_after count state) ≡ state_after (count + more) state
unfolding state_after
state_after-sum zero more state =
    let same : 0 + more ≡ more = omega arith in
    rw same refl
state_after-sum (suc count) more state =
    let moved : suc count + more ≡ suc (count + more) = omega arith in
    rw moved (state_after-sum count more (next_state state))

letters-more : (count state : ℕ) → letters (count + 1) state ≡ letters count state ++ letter (state_after count state) ∷ []
letters-more count state = rw add-one (letters-suc count state)

-- a letter more in its place
pub letters-set : (place : List ℕ) (i n first drawn : ℕ) → n ≡ i + 1 → i < length place → take i place ≡ letters i first
    → drawn ≡ letter (state_after i first) → take n (slice_set place i drawn) ≡ letters n first
letters-set place i n first drawn next within filled is = rw next (
    take_more_set place i drawn within
    ∙ ap (λ (bs : List ℕ). bs ++ drawn ∷ []) filled
    ∙ ap (λ (d : ℕ). letters i first ++ d ∷ []) is
    ∙ sym (letters-more i first)
    )

-- the first of some records
pub drawn_from-some : (count rest state : ℕ) → count ≡ rest + 1 → drawn_from count state ≡ record_from state ∷ drawn_from rest (state_behind state)
unfolding drawn_from
drawn_from-some count rest state is = rw (is, add-one) refl

pub drawn_from-none : (count state : ℕ) → count ≡ 0 → drawn_from count state ≡ []
unfolding drawn_from
drawn_from-none zero state none = refl
drawn_from-none (suc count) state none = absurd (omega (arith, none))

pub length-drawn_from : (count state : ℕ) → length (drawn_from count state) ≡ count
unfolding drawn_from
length-drawn_from zero state = refl
length-drawn_from (suc count) state = ap (λ n. suc n) (length-drawn_from count (state_behind state))

-- letters are bytes
letters-bytes : (count state : ℕ) → AreBytes (letters count state)
unfolding letters
letters-bytes zero state = tt
letters-bytes (suc count) state = (omega arith, letters-bytes count (next_state state))

-- so the records of a seed can be written
drawn_from-records : (count state : ℕ) → AreRecords (drawn_from count state)
unfolding drawn_from
drawn_from-records zero state = tt
drawn_from-records (suc count) state = (
  record {
    are_bytes = letters-bytes (letter_count state) (next_state state);
    at_most = omega (arith, length-letters (letter_count state) (next_state state));
  },
  drawn_from-records count (state_behind state),
)

pub sample_of-records : (seed count : ℕ) → AreRecords (sample_of seed count)
sample_of-records seed count = drawn_from-records count seed
