-- Lists of bytes.
use Rattle.std.proofs.Common.{ℕ, suc, ◌<◌, List, [], ◌∷◌, ◌++◌, get_or, Fits}
use Rattle.std.specs.Int.{w8}
use Rattle.record_values.specs.Bytes.{AreBytes}

-- joined lists of bytes are bytes
pub AreBytes-append : (xs ys : List ℕ) → AreBytes xs → AreBytes ys → AreBytes (xs ++ ys)
AreBytes-append [] ys h g = g
AreBytes-append (x ∷ xs) ys h g = (h.0, AreBytes-append xs ys h.1 g)

-- a list whose each element is a byte
pub AreBytes-from_get_or : (xs : List ℕ) → ((i : ℕ) → get_or xs i 0 < 256) → AreBytes xs
AreBytes-from_get_or [] h = tt
AreBytes-from_get_or (x ∷ xs) h = (h 0, AreBytes-from_get_or xs (λ i. h (suc i)))

-- what a slice of bytes holds
pub AreBytes-each : (xs : List ℕ) → ((i : ℕ) → Fits w8 (get_or xs i 0)) → AreBytes xs
AreBytes-each xs each = AreBytes-from_get_or xs (λ i. let byte : Fits w8 (get_or xs i 0) = each i in byte.fits)
