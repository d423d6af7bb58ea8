-- What words say that name several files is within its limits.
use Rattle.std.proofs.Common.{if◌then◌else◌, ◌≡◌, ◌+◌, ◌-◌, ◌&&◌, ℕ, ◌≤◌, Bool, true, false, Some, None, List, [], length, refl, ap, arith}
use Rattle.std.proofs.lemmas.Bool.{and_parts, leb-true}
use Rattle.command_frame.specs.declared.many_files.FilesWords.{FilesWords}
use Rattle.command_frame.specs.Options.{are_words_of, files_words_of, is_read_too, may_be_files}

of_words : (are read_too : Bool) (most count : ℕ) (w : FilesWords) → (are ≡ true → (3 ≤ count) × (count ≤ most + 2))
    → (if are then (if read_too then None else Some (record { count = count - 2; to = count - 1 })) else None) ≡ Some w
    → (1 ≤ w.count) × (w.count ≤ most)
of_words false read_too most count w within is = absurd (cc is)
of_words true true most count w within is = absurd (cc is)
of_words true false most count w within is =
    let same : ◌≡◌ {A = FilesWords} (record { count = count - 2; to = count - 1 }) w = cc is in
    let files : count - 2 ≡ w.count = ap (λ (x : FilesWords). x.count) same in
    let bounds = within refl in
    (omega (arith, files, bounds.0), omega (arith, files, bounds.1))

-- there are 1 to so many files
pub files_words_of-within : (most : ℕ) (words : List (List ℕ)) (w : FilesWords) → files_words_of most words ≡ Some w → (1 ≤ w.count) × (w.count ≤ most)
unfolding files_words_of
files_words_of-within most words w is =
    of_words (are_words_of [] words && may_be_files most (length words)) (is_read_too words (length words - 1)) most (length words) w
    (λ are.
    let many = and_parts _ _ (and_parts _ _ are).1 in
    (leb-true 3 (length words) many.0, leb-true (length words) (most + 2) many.1)) is
