-- What streams take of bytes that are put to two.
use Rattle.std.proofs.Common.{◌≡◌, ◌∙◌, ℕ, false, Option, List, [], ◌++◌, sym, ap, subst, append-nil}
use Rattle.record_io.specs.Outside.{Takes}
use Rattle.record_io.specs.Puts.{Stream, Made, Out, taken_by, GoOut, is_stream, puts_to, bytes_to}
use Rattle.record_io.proofs.Puts.{GoOut-append, GoOut-made, GoOut-out, GoOut-nothing, bytes_to-append, bytes_to-own, bytes_to-other}

-- bytes to one stream, and behind them bytes to another
pub bytes_to-first : (s t : Stream) (xs ys : List ℕ) → is_stream s t ≡ false → bytes_to s (puts_to s xs ++ puts_to t ys) ≡ xs
bytes_to-first s t xs ys other =
    bytes_to-append s (puts_to s xs) (puts_to t ys)
    ∙ ap (λ (zs : List ℕ). bytes_to s (puts_to s xs) ++ zs) (bytes_to-other s t ys other)
    ∙ append-nil (bytes_to s (puts_to s xs))
    ∙ bytes_to-own s xs

pub bytes_to-second : (s t : Stream) (xs ys : List ℕ) → is_stream t s ≡ false → bytes_to t (puts_to s xs ++ puts_to t ys) ≡ ys
bytes_to-second s t xs ys other =
    bytes_to-append t (puts_to s xs) (puts_to t ys)
    ∙ ap (λ (zs : List ℕ). zs ++ bytes_to t (puts_to t ys)) (bytes_to-other t s xs other)
    ∙ bytes_to-own t ys

pub bytes_to-neither : (r s t : Stream) (xs ys : List ℕ) → is_stream r s ≡ false → is_stream r t ≡ false → bytes_to r (puts_to s xs ++ puts_to t ys) ≡ []
bytes_to-neither r s t xs ys other another =
    bytes_to-append r (puts_to s xs) (puts_to t ys)
    ∙ ap (λ (zs : List ℕ). zs ++ bytes_to r (puts_to t ys)) (bytes_to-other r s xs other)
    ∙ bytes_to-other r t ys another

-- what went out by what the made file and standard output took
module _ (made made_then out out_then notes : Option (List ℕ)) where
  pub GoOut-neither : made_then ≡ made → out_then ≡ out → GoOut (taken_by made out notes) (taken_by made_then out_then notes) []
  GoOut-neither unmade unprinted =
      subst (λ (m : Option (List ℕ)). GoOut (taken_by made out notes) (taken_by m out_then notes) []) (sym unmade)
      (subst (λ (o : Option (List ℕ)). GoOut (taken_by made out notes) (taken_by made o notes) []) (sym unprinted)
      (GoOut-nothing (taken_by made out notes)))

  pub GoOut-first : (bytes : List ℕ) → Takes made made_then bytes → out_then ≡ out
      → GoOut (taken_by made out notes) (taken_by made_then out_then notes) (puts_to Made bytes)
  GoOut-first bytes took unprinted =
      subst (λ (o : Option (List ℕ)). GoOut (taken_by made out notes) (taken_by made_then o notes) (puts_to Made bytes)) (sym unprinted)
      (GoOut-made made made_then out notes bytes took)

  pub GoOut-both : (bytes text : List ℕ) → Takes made made_then bytes → Takes out out_then text
      → GoOut (taken_by made out notes) (taken_by made_then out_then notes) (puts_to Made bytes ++ puts_to Out text)
  GoOut-both bytes text took printed =
      GoOut-append (taken_by made out notes) (taken_by made_then out notes) (taken_by made_then out_then notes) (puts_to Made bytes) (puts_to Out text)
      (GoOut-made made made_then out notes bytes took)
      (GoOut-out made_then out out_then notes text printed)
