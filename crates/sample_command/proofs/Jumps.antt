-- Several draws by one product and one sum.
use Rattle.std.proofs.Common.{◌≡◌, ℕ, zero, suc, ◌+◌, ◌*◌, ◌%◌, ◌^◌, ◌<◌, List, [], ◌∷◌, slice_index_or, mul_assoc, add-one, refl, ap, ◌∙◌, arith}
use Rattle.std.proofs.lemmas.Nat.{mul-mod_second}
use Rattle.sample_command.specs.Generator.{next_state, state_after}
use Rattle.sample_command.proofs.Drawings.{state_after-sum}

-- the state that a factor and a term make of a state
abbrev jumped : ℕ → ℕ × ℕ → ℕ
jumped state jump = (state * jump.0 % 2 ^ 64 + jump.1) % 2 ^ 64

-- those of one draw
abbrev one_draw : ℕ × ℕ
one_draw = (6364136223846793005, 1442695040888963407)

-- those of a draw more
abbrev next_jump : ℕ × ℕ → ℕ × ℕ
next_jump jump = (jump.0 * one_draw.0 % 2 ^ 64, (jump.1 * one_draw.0 + one_draw.1) % 2 ^ 64)

-- so many, each of a draw more than the one before
abbrev jumps_from : ℕ × ℕ → ℕ → List (ℕ × ℕ)
jumps_from jump zero = []
jumps_from jump (suc count) = jump ∷ jumps_from (next_jump jump) count

jumped-one_draw : (state : ℕ) → jumped state one_draw ≡ next_state state
jumped-one_draw state = omega arith

jumped-next_jump : (state : ℕ) (jump : ℕ × ℕ) → jumped state (next_jump jump) ≡ next_state (jumped state jump)
jumped-next_jump state jump = omega (arith, mul-mod_second state (jump.0 * one_draw.0) (2 ^ 64), mul_assoc state jump.0 one_draw.0)

jumped-jumps_from : (i count state : ℕ) (jump : ℕ × ℕ) → i < count → jumped state (slice_index_or (jumps_from jump count) i (0, 0)) ≡ state_after i (jumped state jump)
unfolding state_after
jumped-jumps_from i zero state jump within = absurd (omega (arith, within))
jumped-jumps_from zero (suc count) state jump within = refl
jumped-jumps_from (suc i) (suc count) state jump within =
    jumped-jumps_from i count state (next_jump jump) (omega (arith, within))
    ∙ ap (λ (s : ℕ). state_after i s) (jumped-next_jump state jump)

-- the state that a draw of a step leaves, where so many draws came before the step
pub state_after-jump : (count letter first state : ℕ) → letter < 8 → state ≡ state_after count first
    → jumped state (slice_index_or (jumps_from one_draw 8) letter (0, 0)) ≡ state_after (count + (letter + 1)) first
unfolding state_after
state_after-jump count letter first state within left = rw (add-one letter) (
    jumped-jumps_from letter 8 state one_draw within
    ∙ ap (λ (s : ℕ). state_after letter s) (jumped-one_draw state)
    ∙ ap (λ (s : ℕ). state_after (suc letter) s) left
    ∙ state_after-sum count (suc letter) first
    )
