-- Where a repair breaks off at the made file, notes have whole lines.
use Rattle.std.proofs.Common.{◌≡◌, ◌∙◌, ◌⊎◌, ℕ, List, [], ◌∷◌, ◌++◌, refl, sym, ap, subst, inl, inr}
use Rattle.record_io.specs.Puts.{Made, Notes, Put, puts_to, bytes_to, BreaksOff}
use Rattle.record_io.proofs.Puts.{bytes_to-append, bytes_to-own, bytes_to-other}
use Rattle.meta_chunk.specs.Files.{signature, end_of_chunks, laid_each}
use Rattle.damage_skip.specs.Pieces.{Piece}
use Rattle.damage_skip.specs.Regions.{region_of, regions_in, told_text, skipped_text}
use Rattle.damage_skip.proofs.RegionsIn.{told_first}
use Rattle.repair_copy.specs.RepairPuts.{chunk_in, puts_from, repair_puts}

abbrev made : ℕ → Put
made byte = record { to = Made; byte = byte }

-- what comes before a byte to the made file lies within bytes to it, or goes on behind them
within_chunk : (bytes : List ℕ) (qs before more : List Put) (m : ℕ) → puts_to Made bytes ++ qs ≡ before ++ (made m ∷ more)
    → (bytes_to Notes before ≡ [])
    ⊎ ((behind : List Put) × (before ≡ puts_to Made bytes ++ behind) × (qs ≡ behind ++ (made m ∷ more)))
within_chunk [] qs before more m is = inr (before, refl, is)
within_chunk (b ∷ bytes) qs [] more m is = inl refl
within_chunk (b ∷ bytes) qs (p ∷ before) more m is =
    let first : made b ≡ p = cc is in
    let then : puts_to Made bytes ++ qs ≡ before ++ (made m ∷ more) = cc is in
    elim (within_chunk bytes qs before more m then) [
      | inl none ↦ inl (subst (λ (x : Put). bytes_to Notes (x ∷ before) ≡ []) first none)
      | inr (behind, parts, rest) ↦ inr (
        behind,
        ap (λ (x : Put). x ∷ before) (sym first) ∙ ap (λ (xs : List Put). made b ∷ xs) parts,
        rest,
      )
    ]

-- and never within bytes to notes
between_lines : (bytes : List ℕ) (qs before more : List Put) (m : ℕ) → puts_to Notes bytes ++ qs ≡ before ++ (made m ∷ more)
    → (behind : List Put) × (before ≡ puts_to Notes bytes ++ behind) × (qs ≡ behind ++ (made m ∷ more))
between_lines [] qs before more m is = (before, refl, is)
between_lines (b ∷ bytes) qs [] more m is =
    let line : Put = record { to = Notes; byte = b } in
    let first : line ≡ made m = cc is in
    let same : Notes ≡ Made = ap (λ (x : Put). x.to) first in
    absurd (cc same)
between_lines (b ∷ bytes) qs (p ∷ before) more m is =
    let line : Put = record { to = Notes; byte = b } in
    let first : line ≡ p = cc is in
    let then : puts_to Notes bytes ++ qs ≡ before ++ (made m ∷ more) = cc is in
    let found = between_lines bytes qs before more m then in (
      found.0,
      ap (λ (x : Put). x ∷ before) (sym first) ∙ ap (λ (xs : List Put). line ∷ xs) found.1,
      found.2,
    )

-- so it has the lines of the first pieces
whole_before : (place : ℕ) (ps : List Piece) (before more : List Put) (m : ℕ) → puts_from place ps ≡ before ++ (made m ∷ more)
    → (front behind : List Piece) × (ps ≡ front ++ behind) × (bytes_to Notes before ≡ skipped_text (regions_in front))
unfolding puts_from
whole_before place [] [] more m is = absurd (cc is)
whole_before place [] (p ∷ before) more m is = absurd (cc is)
whole_before place (p ∷ ps) before more m is =
    let chunk : List ℕ = laid_each place (chunk_in p.what) in
    let line : List ℕ = told_text (region_of p) in
    let then : ℕ = end_of_chunks place (chunk_in p.what) in
    elim (within_chunk chunk (puts_to Notes line ++ puts_from then ps) before more m is) [
      | inl none ↦ ([], p ∷ ps, refl, none)
      | inr (behind, parts, rest) ↦
          let past = between_lines line (puts_from then ps) behind more m rest in
          let found = whole_before then ps past.0 more m past.2 in (
            p ∷ found.0,
            found.1,
            ap (λ (qs : List Piece). p ∷ qs) found.2,
            ap (bytes_to Notes) parts
                ∙ bytes_to-append Notes (puts_to Made chunk) behind
                ∙ ap (λ (xs : List ℕ). xs ++ bytes_to Notes behind) (bytes_to-other Notes Made chunk refl)
                ∙ ap (bytes_to Notes) past.1
                ∙ bytes_to-append Notes (puts_to Notes line) past.0
                ∙ ap (λ (xs : List ℕ). xs ++ bytes_to Notes past.0) (bytes_to-own Notes line)
                ∙ ap (λ (xs : List ℕ). line ++ xs) found.3
                ∙ sym (told_first (region_of p) (regions_in found.0)),
          )
    ]

pub whole_lines : (ps : List Piece) (part : List Put) → BreaksOff Made part (repair_puts ps)
    → (front behind : List Piece) × (ps ≡ front ++ behind) × (bytes_to Notes part ≡ skipped_text (regions_in front))
whole_lines ps part h =
    let first : List ℕ = laid_each 0 (signature ∷ []) in
    elim (within_chunk first (puts_from (end_of_chunks 0 (signature ∷ [])) ps) part h.rest h.byte h.parts) [
      | inl none ↦ ([], ps, refl, none)
      | inr (behind, parts, then) ↦
          let found = whole_before (end_of_chunks 0 (signature ∷ [])) ps behind h.rest h.byte then in (
            found.0,
            found.1,
            found.2,
            ap (bytes_to Notes) parts
                ∙ bytes_to-append Notes (puts_to Made first) behind
                ∙ ap (λ (xs : List ℕ). xs ++ bytes_to Notes behind) (bytes_to-other Notes Made first refl)
                ∙ found.3,
          )
    ]
