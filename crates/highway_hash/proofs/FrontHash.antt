-- Bytes behind their hash.
use Rattle.std.proofs.Common.{◌≡◌, ℕ, ◌^◌, ◌<◌, ◌≤◌, List, ◌++◌, length, get_or, take, drop, sym, ap, ◌∙◌, arith}
use Rattle.std.specs.Prelude.{◌↔◌, IsTrue, nat_eq}
use Rattle.std.specs.Int.{w64, to_le_bytes, from_le_bytes}
use Rattle.std.proofs.lemmas.Bool.{eq-eqb, eqb-true}
use Rattle.std.proofs.lemmas.Nat.{le_bytes_8, from_le_bytes-to_le_bytes_8}
use Rattle.std.proofs.lemmas.List.{take-append-drop, length-take-le}
use Rattle.std.proofs.lemmas.Grind.{common_steps}
use Rattle.highway_hash.specs.Riegeli.{riegeli_hash, with_hash, BeginsWithHash}

-- bytes behind their hash begin with it
pub BeginsWithHash-with_hash : (bytes rest : List ℕ) → bytes ≡ with_hash rest → BeginsWithHash bytes
BeginsWithHash-with_hash bytes rest e = e ∙ sym (ap (λ (xs : List ℕ). with_hash (drop 8 xs)) e)

-- bytes begin with the hash exactly where the word of the first eight is the hash of the others
pub BeginsWithHash-word : (bytes : List ℕ) (stored computed : ℕ) → 8 ≤ length bytes → ((i : ℕ) → get_or bytes i 0 < 256)
    → stored ≡ from_le_bytes w64 (take 8 bytes) → computed ≡ riegeli_hash (drop 8 bytes) → computed < 2 ^ 64
    → IsTrue (nat_eq stored computed) ↔ BeginsWithHash bytes
BeginsWithHash-word bytes stored computed long small word hash fits =
    let len : length (take 8 bytes) ≡ 8 = length-take-le 8 bytes long in
    let front : to_le_bytes w64 stored ≡ take 8 bytes =
    le_bytes_8 (take 8 bytes) stored len (λ i. grind (arith, common_steps, small i)) word in (
      λ same. sym (take-append-drop 8 bytes)
          ∙ ap (λ (xs : List ℕ). xs ++ drop 8 bytes) (sym front ∙ ap (to_le_bytes w64) (eqb-true stored computed same ∙ hash)),
      λ begins. eq-eqb stored computed
          (word ∙ ap (λ (xs : List ℕ). from_le_bytes w64 (take 8 xs)) (begins ∙ ap (λ x. to_le_bytes w64 x ++ drop 8 bytes) (sym hash))
          ∙ from_le_bytes-to_le_bytes_8 computed fits),
    )
