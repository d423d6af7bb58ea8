-- A command that reads one file has an answer, and one at most, where what it does with a short file has.
use Rattle.std.proofs.Common.{◌≡◌, ℕ, List, [], ◌∷◌, sym, ◌∙◌, ap, inl, inr, arith, length, refl}
use Rattle.std.specs.List.{AllByRecursion}
use Rattle.record_io.specs.Puts.{Put}
use Rattle.command_frame.specs.declared.status.Status.{Status}
use Rattle.command_frame.specs.Answers.{Answer, noted}
use Rattle.command_frame.specs.FileAnswers.{OfFile, most_file_bytes, limit_text}
use Rattle.std.proofs.lemmas.Bool.{cases_lt}
use Rattle.record_values.specs.Bytes.{AreBytes}
use Rattle.command_frame.specs.declared.status.Status.TheVariants as status

-- answers of the same parts are one
pub same_answer : (a b : Answer) → a.puts ≡ b.puts → a.status ≡ b.status → a ≡ b
same_answer a b puts ended =
    ap (λ (x : List Put). record { puts = x; status = a.status }) puts
    ∙ ap (λ (x : Status). record { puts = b.puts; status = x }) ended

-- so has a command that reads one file
pub one_of_file : (P : List ℕ → Answer → Type 0) → ((file : List ℕ) (a b : Answer) → P file a → P file b → a ≡ b)
    → (files : List (List ℕ)) (a b : Answer) → OfFile P files a → OfFile P files b → a ≡ b
one_of_file P one [] a b h g = absurd h
one_of_file P one (file ∷ []) a b (inl (long, is)) (inl (too, also)) = is ∙ sym also
one_of_file P one (file ∷ []) a b (inl (long, is)) (inr (short, g)) = absurd (omega arith)
one_of_file P one (file ∷ []) a b (inr (short, h)) (inl (long, also)) = absurd (omega arith)
one_of_file P one (file ∷ []) a b (inr (short, h)) (inr (also, g)) = one file a b h g
one_of_file P one (file ∷ other ∷ files) a b h g = absurd h

-- a file that is too long has its own
pub of_file_exists : (P : List ℕ → Answer → Type 0) → ((file : List ℕ) → AreBytes file → (answer : Answer) × P file answer)
    → (files : List (List ℕ)) → length files ≡ 1 → AllByRecursion AreBytes files → (answer : Answer) × OfFile P files answer
of_file_exists P exists [] one bytes = absurd (omega arith)
of_file_exists P exists (file ∷ []) one bytes =
    elim (cases_lt most_file_bytes (length file)) [
      | inl long ↦ (noted status.Limit limit_text, inl (long, refl))
      | inr short ↦ (let found = exists file bytes.0 in (found.0, inr (short, found.1)))
    ]
of_file_exists P exists (file ∷ other ∷ files) one bytes = absurd (omega arith)
