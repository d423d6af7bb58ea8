-- Words that name several files, of which one is made, judged by hand, computed from the definitions.
use Rattle.std.proofs.Common.{◌≡◌, Some, None, [], ◌∷◌, codes, refl}
use Rattle.command_frame.specs.Options.{files_words_of}

-- one file and more, which may be the same
one_file : files_words_of 2 (codes "join" ∷ codes "A" ∷ codes "B" ∷ []) ≡ Some (record { count = 1; to = 2 })
unfolding files_words_of
one_file = refl

two_files : files_words_of 2 (codes "join" ∷ codes "A" ∷ codes "A" ∷ codes "B" ∷ []) ≡ Some (record { count = 2; to = 3 })
unfolding files_words_of
two_files = refl

-- more than may be
three_files : files_words_of 2 (codes "join" ∷ codes "A" ∷ codes "B" ∷ codes "C" ∷ codes "D" ∷ []) ≡ None
unfolding files_words_of
three_files = refl

-- no file, and none to make
alone : files_words_of 2 (codes "join" ∷ []) ≡ None
unfolding files_words_of
alone = refl

none_made : files_words_of 2 (codes "join" ∷ codes "A" ∷ []) ≡ None
unfolding files_words_of
none_made = refl

-- one that is read and made
same_word : files_words_of 2 (codes "join" ∷ codes "A" ∷ codes "A" ∷ []) ≡ None
unfolding files_words_of
same_word = refl

same_first : files_words_of 2 (codes "join" ∷ codes "A" ∷ codes "B" ∷ codes "A" ∷ []) ≡ None
unfolding files_words_of
same_first = refl

same_last : files_words_of 2 (codes "join" ∷ codes "A" ∷ codes "B" ∷ codes "B" ∷ []) ≡ None
unfolding files_words_of
same_last = refl

-- words that name no file
option : files_words_of 2 (codes "join" ∷ codes "--hex" ∷ codes "A" ∷ codes "B" ∷ []) ≡ None
unfolding files_words_of
option = refl

empty_word : files_words_of 2 (codes "join" ∷ codes "A" ∷ [] ∷ []) ≡ None
unfolding files_words_of
empty_word = refl
