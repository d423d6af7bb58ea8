-- A file that is copied piece by piece.
use Rattle.std.proofs.Common.{◌≡◌, ◌∙◌, ℕ, ◌+◌, ◌-◌, ◌≤◌, Option, Some, None, Err, List, ◌++◌, length, take, drop, IfSome, sym, ap, subst, arith}
use Rattle.std.specs.Prelude.{slice_range}
use Rattle.std.proofs.Math.Seq.{take-add}
use Rattle.std.proofs.lemmas.List.{take-append-drop, take_all}
use Rattle.record_io.specs.Outside.{Takes, TakesShort}
use Rattle.record_io.specs.Calls.{TakesFront}
use Rattle.record_io.proofs.Calls.{Takes-append, TakesFront-append, TakesFront-longer, TakesFront-none, TakesShort-append, TakesShort-longer}
use Rattle.record_join.specs.Joins.{TakesCopied}
use Rattle.record_join.specs.declared.joins.JoinEnd.{JoinEnd}
use Rattle.record_join.specs.declared.joins.JoinEnd.TheVariants as end

-- a front and a piece behind it
front_and_piece : (file : List ℕ) (at n : ℕ) → take at file ++ slice_range file at (at + n) ≡ take (at + n) file
front_and_piece file at n =
    let size : at + n - at ≡ n = omega arith in
    ap (λ (k : ℕ). take at file ++ take k (drop at file)) size ∙ sym (take-add at n file)

-- a piece more
pub copied_more : (bytes : Option (List ℕ)) (a b c : Option (List ℕ)) (at n : ℕ)
    → IfSome bytes (λ file. Takes a b (take at file)) → IfSome bytes (λ file. Takes b c (slice_range file at (at + n)))
    → IfSome bytes (λ file. Takes a c (take (at + n) file))
copied_more None a b c at n front piece = tt
copied_more (Some file) a b c at n front piece =
    subst (Takes a c) (front_and_piece file at n) (Takes-append a b c (take at file) (slice_range file at (at + n)) front piece)

-- of a piece that wasn't read nothing is put
pub copied_none : (bytes taken : Option (List ℕ)) (piece : List ℕ → List ℕ) → IfSome bytes (λ file. TakesFront taken taken (piece file))
copied_none None taken piece = tt
copied_none (Some file) taken piece = TakesFront-none taken (piece file)

-- P holds of what was put of the file where it does of a piece more
behind_pieces : (P : (before after : Option (List ℕ)) → List ℕ → Type 0)
    → ((a b : Option (List ℕ)) (x y : List ℕ) → P a b x → P a b (x ++ y))
    → ((a b c : Option (List ℕ)) (x y : List ℕ) → Takes a b x → P b c y → P a c (x ++ y))
    → (bytes a b c : Option (List ℕ)) (at n : ℕ)
    → IfSome bytes (λ file. Takes a b (take at file)) → IfSome bytes (λ file. P b c (slice_range file at (at + n)))
    → IfSome bytes (λ file. P a c file)
behind_pieces P longer append None a b c at n front piece = tt
behind_pieces P longer append (Some file) a b c at n front piece =
    subst (P a c)
    (ap (λ (xs : List ℕ). xs ++ drop (at + n) file) (front_and_piece file at n) ∙ take-append-drop (at + n) file)
    (longer a c (take at file ++ slice_range file at (at + n)) (drop (at + n) file)
    (append a b c (take at file) (slice_range file at (at + n)) front piece))

-- so a file is copied as far as its pieces are
pub copied_failed : (X Y : Type 0) (why : JoinEnd) (bytes a b c : Option (List ℕ)) (at n : ℕ)
    → IfSome bytes (λ file. Takes a b (take at file))
    → IfSome bytes (λ file. TakesCopied {X = X} (Err why) (slice_range file at (at + n)) b c)
    → IfSome bytes (λ file. TakesCopied {X = Y} (Err why) file a c)
copied_failed X Y (end.Refused index fault) None a b c at n front piece = tt
copied_failed X Y (end.Refused index fault) (Some file) a b c at n front piece = absurd piece
copied_failed X Y end.Store bytes a b c at n front piece =
    behind_pieces TakesFront TakesFront-longer TakesFront-append bytes a b c at n front piece
copied_failed X Y end.Made bytes a b c at n front piece =
    behind_pieces TakesShort TakesShort-longer TakesShort-append bytes a b c at n front piece

-- all of it
pub copied_whole : (bytes : Option (List ℕ)) (told : Option ℕ) (a b : Option (List ℕ)) (at size : ℕ)
    → IfSome bytes (λ file. IfSome told (λ n. n ≡ length file)) → told ≡ Some size → size ≤ at
    → IfSome bytes (λ file. Takes a b (take at file)) → IfSome bytes (λ file. Takes a b file)
copied_whole None told a b at size sized is end front = tt
copied_whole (Some file) told a b at size sized is end front =
    let length_is : size ≡ length file = subst (λ (o : Option ℕ). IfSome o (λ n. n ≡ length file)) is sized in
    subst (Takes a b) (take_all at file (omega (arith, length_is, end))) front
