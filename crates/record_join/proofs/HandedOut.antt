-- How many bytes stores hand out of which one after another is asked.
use Rattle.std.proofs.Common.{◌≡◌, ◌∙◌, ℕ, ◌+◌, ◌*◌, ◌<◌, ◌≤◌, Some, List, length, set, get_or, refl, sym, ap, subst, inl, inr, arith}
use Rattle.std.specs.Prelude.{slice_get}
use Rattle.std.proofs.lemmas.Bool.{cases_eq}
use Rattle.std.proofs.lemmas.Option.{slice_get_read}
use Rattle.record_io.proofs.ManyStores.{set_other, set_there}

-- how many bytes stores hand out of which the first were asked and the others not
pub record HandOut {S : Type 0} (handed : S → ℕ) (sizes : List ℕ) (count : ℕ) (before now : List S) : Type 0 where
  pub most : (place : ℕ) (a b : S) (size : ℕ) → slice_get before place ≡ Some a → slice_get now place ≡ Some b → slice_get sizes place ≡ Some size
      → handed b ≤ handed a + 2 * size
  pub unasked : (place : ℕ) → count ≤ place → slice_get now place ≡ slice_get before place

pub HandOut-none : {S : Type 0} (handed : S → ℕ) (sizes : List ℕ) (stores : List S) → HandOut handed sizes 0 stores stores
HandOut-none handed sizes stores = record {
  most = λ place a b size before after there. let same : a ≡ b = cc in omega (arith, ap handed same);
  unasked = λ place from. refl;
}

-- where the next one was asked
pub HandOut-more : {S : Type 0} (handed : S → ℕ) (sizes : List ℕ) (before now : List S) (count : ℕ) (store after : S) (size : ℕ)
    → count < length now → store ≡ get_or now count store → slice_get sizes count ≡ Some size
    → handed after ≤ handed store + 2 * size
    → HandOut handed sizes count before now → HandOut handed sizes (count + 1) before (set now count after)
HandOut-more {S} handed sizes before now count store after size below there told most kept = record {
  most = λ place a b n was is sized. elim (cases_eq place count) [
    | inl same ↦
        let old : slice_get before count ≡ Some a = subst (λ (p : ℕ). slice_get before p ≡ Some a) same was in
        let here : slice_get now count ≡ Some store = slice_get_read now (length now) count store refl below there in
        let unasked : Some a ≡ Some store = sym old ∙ sym (kept.unasked count (omega arith)) ∙ here in
        let is_store : a ≡ store = cc in
        let new : Some b ≡ Some after = sym is ∙ ap (slice_get (set now count after)) same ∙ set_there now count after below in
        let is_after : b ≡ after = cc in
        let length_is : Some n ≡ Some size = sym sized ∙ ap (slice_get sizes) same ∙ told in
        let is_size : n ≡ size = cc in
        omega (arith, most, ap handed is_store, ap handed is_after, is_size)
    | inr other ↦ kept.most place a b n was (sym (set_other now count place after other) ∙ is) sized
  ];
  unasked = λ place from. set_other now count place after (λ same. omega (arith, from, same)) ∙ kept.unasked place (omega (arith, from));
}
