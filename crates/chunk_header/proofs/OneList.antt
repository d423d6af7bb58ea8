-- A simple chunk holds one list of records at most.
use Rattle.std.proofs.Common.{◌≡◌, ℕ, List, [], ◌∷◌, ◌++◌, length, take, drop, refl, sym, ap, ◌∙◌, subst}
use Rattle.std.specs.Prelude.{map}
use Rattle.std.specs.List.{concat}
use Rattle.std.proofs.lemmas.List.{append_assoc, append_cancel_left, take_at}
use Rattle.varint_wire.specs.Varint.{SpellsEach}
use Rattle.varint_wire.proofs.Spellings.{spelling_is_one}
use Rattle.varint_wire.proofs.InARow.{spellings_are_one}
use Rattle.chunk_header.specs.Chunks.{ChunkValue}
use Rattle.chunk_header.specs.SimpleChunks.{IsSimple}

-- lists of one length that begin the same list are one, and so is what follows them
split : (a b x y : List ℕ) → length a ≡ length b → a ++ x ≡ b ++ y → (a ≡ b) × (x ≡ y)
split a b x y long e =
    let front : a ≡ b = sym (take_at a x (length a) refl) ∙ ap (take (length a)) e ∙ take_at b y (length a) (sym long) in
    (front, append_cancel_left a x y (e ∙ ap (λ (xs : List ℕ). xs ++ y) (sym front)))

-- lists are known by their lengths and by what they are joined
joined-inj : (a b : List (List ℕ)) → map length a ≡ map length b → concat a ≡ concat b → a ≡ b
joined-inj [] [] lengths joined = refl
joined-inj [] (s ∷ b) lengths joined = cc
joined-inj (r ∷ a) [] lengths joined = cc
joined-inj (r ∷ a) (s ∷ b) lengths joined =
    let long : length r ≡ length s = cc in
    let parts = split r s (concat a) (concat b) long joined in
    cc (parts.0, joined-inj a b (cc) parts.1)

-- the sizes and the values of a simple chunk are found in one way, and so are its records
pub records_are_one : (k : ChunkValue) (a b : List (List ℕ)) → IsSimple k a → IsSimple k b → a ≡ b
records_are_one k a b s t =
    let same : s.spelled_size ++ (s.sizes ++ concat a) ≡ t.spelled_size ++ (t.sizes ++ concat b) =
    sym (append_assoc s.spelled_size s.sizes (concat a)) ∙ ap (drop 1) (sym s.«data» ∙ t.«data») ∙ append_assoc t.spelled_size t.sizes (concat b) in
    let size = spelling_is_one (length s.sizes) (length t.sizes) s.spelled_size t.spelled_size (s.sizes ++ concat a) (t.sizes ++ concat b)
    s.spells_size t.spells_size same in
    let behind = append_cancel_left s.spelled_size (s.sizes ++ concat a) (t.sizes ++ concat b)
    (same ∙ ap (λ (xs : List ℕ). xs ++ (t.sizes ++ concat b)) (sym size.0)) in
    let parts = split s.sizes t.sizes (concat a) (concat b) size.1 behind in
    let lengths = spellings_are_one (map length a) (map length b) t.sizes (subst (SpellsEach (map length a)) parts.0 s.spells_each) t.spells_each in
    joined-inj a b lengths parts.1
