-- Each file has an answer of `seek`, and one at most for a position.
use Rattle.std.proofs.Common.{◌≡◌, ◌∙◌, ◌⊎◌, ℕ, true, Option, List, refl, sym, ap, inl, inr}
use Rattle.record_values.specs.Bytes.{AreBytes}
use Rattle.chunk_reader.specs.declared.reasons.Fault.{Fault}
use Rattle.record_seek.proofs.JudgedSearch.{given_or_not}
use Rattle.record_seek.proofs.OneSearch.{given_is_one, given_or_fault, search_fault_is_one}
use Rattle.command_frame.specs.Answers.{Answer}
use Rattle.seek_command.specs.Searches.{MayGive, MayRefuse}
use Rattle.seek_command.specs.SeekCommand.{IsSeekAnswer, found_answer, refused_answer}
use Rattle.seek_command.specs.SingleAnswers.{has_one_answer}
use Rattle.seek_command.specs.declared.seek_words.By.{By}
use Rattle.seek_command.specs.declared.seek_words.By.TheVariants.{At, Key}
use Rattle.seek_command.specs.declared.seek_words.SeekWords.{SeekWords}
use Rattle.seek_command.proofs.KeyExists.{found_or_refused}

search_exists : (by : By) (file : List ℕ)
    → ((found : Option (ℕ × List ℕ)) × MayGive by file found) ⊎ ((fault : Fault) × MayRefuse by file fault)
search_exists (At position) file = given_or_not file position
search_exists (Key key) file = found_or_refused key file

pub sought_exists : (words : SeekWords) (file : List ℕ) → AreBytes file → (answer : Answer) × IsSeekAnswer words file answer
sought_exists words file bytes =
    elim (search_exists words.by file) [
      | inl (found, gives) ↦ (found_answer words.hex found, inl (found, gives, refl))
      | inr (fault, refuses) ↦ (refused_answer fault, inr (fault, refuses, refl))
    ]

-- what is given for a position is one, or the fault is
one_given : (by : By) (file : List ℕ) (a b : Option (ℕ × List ℕ)) → has_one_answer by ≡ true → MayGive by file a → MayGive by file b → a ≡ b
one_given (At position) file a b one gives also = given_is_one file position a b gives also
one_given (Key key) file a b one gives also = absurd (cc one)

one_refused : (by : By) (file : List ℕ) (a b : Fault) → has_one_answer by ≡ true → MayRefuse by file a → MayRefuse by file b → a ≡ b
one_refused (At position) file a b one refuses also = search_fault_is_one file position a b refuses also
one_refused (Key key) file a b one refuses also = absurd (cc one)

given_or_refused : (by : By) (file : List ℕ) (a : Option (ℕ × List ℕ)) (b : Fault) → has_one_answer by ≡ true → MayGive by file a → ¬ MayRefuse by file b
given_or_refused (At position) file a b one gives refuses = given_or_fault file position a b gives refuses
given_or_refused (Key key) file a b one gives refuses = cc one

pub one_sought : (words : SeekWords) (file : List ℕ) (a b : Answer) → has_one_answer words.by ≡ true
    → IsSeekAnswer words file a → IsSeekAnswer words file b → a ≡ b
one_sought words file a b one (inl (found, gives, is)) (inl (other, also, too)) =
    is ∙ ap (found_answer words.hex) (one_given words.by file found other one gives also) ∙ sym too
one_sought words file a b one (inl (found, gives, is)) (inr (fault, refuses, too)) =
    absurd (given_or_refused words.by file found fault one gives refuses)
one_sought words file a b one (inr (fault, refuses, is)) (inl (found, gives, too)) =
    absurd (given_or_refused words.by file found fault one gives refuses)
one_sought words file a b one (inr (fault, refuses, is)) (inr (other, also, too)) =
    is ∙ ap refused_answer (one_refused words.by file fault other one refuses also) ∙ sym too
