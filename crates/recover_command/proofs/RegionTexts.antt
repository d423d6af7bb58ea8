-- The lines of regions are whole lines.
use Rattle.std.proofs.Common.{◌≡◌, ◌∙◌, ℕ, zero, suc, ◌+◌, ◌%◌, ◌/◌, ◌<◌, ◌==◌, Bool, true, false, not, ◌&&◌, List, [], ◌∷◌, ◌++◌, length, nat_lt, take, decimal, codes, refl, sym, ap, subst, inl, inr, arith}
use Rattle.std.specs.List.{flat_map, list_all}
use Rattle.std.specs.Fmt.{digit_glyph, digits_onto, digits}
use Rattle.std.proofs.lemmas.Bool.{cond-true, cond-false, cases_Bool, eqb-true, false_from_ne_true, lt-ltb}
use Rattle.std.proofs.lemmas.List.{append_assoc}
use Rattle.record_io.specs.Puts.{Put, Notes, bytes_to}
use Rattle.chunk_reader.specs.Names.{name_of}
use Rattle.chunk_reader.specs.declared.reasons.Why.{Why}
use Rattle.damage_skip.specs.Regions.{region_text, skipped_text}
use Rattle.damage_skip.specs.declared.regions.Region.{Region}
use Rattle.command_frame.specs.Answers.{line}
use Rattle.command_frame.specs.Lines.{ends_line, lines}
use Rattle.command_frame.specs.OpenLines.{NoneEnds}
use Rattle.command_frame.specs.RunLeaves.{PutsLines, first_lines}
use Rattle.command_frame.proofs.Lines.{lines-first, NoneEnds-append, NoneEnds-cons}
use Rattle.chunk_reader.specs.declared.reasons.Why.TheVariants as why

-- bytes that a test passes
and-parts : (a b : Bool) → (a && b) ≡ true → (a ≡ true) × (b ≡ true)
and-parts true b h = (refl, h)
and-parts false b h = absurd (cc h)

not-true : (b : Bool) → not b ≡ true → b ≡ false
not-true true h = sym h
not-true false h = refl

NoneEnds-tested : (bytes : List ℕ) → list_all (λ b. not (ends_line b)) bytes ≡ true → NoneEnds bytes
NoneEnds-tested [] h = λ k within. absurd (omega (arith, within))
NoneEnds-tested (b ∷ bs) h =
    let parts = and-parts (not (ends_line b)) (list_all (λ c. not (ends_line c)) bs) h in
    NoneEnds-cons b bs (not-true (ends_line b) parts.0) (NoneEnds-tested bs parts.1)

-- names of reasons
NoneEnds-name : (reason : Why) → NoneEnds (name_of reason)
NoneEnds-name why.NoSignature = NoneEnds-tested (codes "NoSignature") refl
NoneEnds-name why.Short = NoneEnds-tested (codes "Short") refl
NoneEnds-name why.HeaderHash = NoneEnds-tested (codes "HeaderHash") refl
NoneEnds-name why.Truncated = NoneEnds-tested (codes "Truncated") refl
NoneEnds-name why.TooLarge = NoneEnds-tested (codes "TooLarge") refl
NoneEnds-name why.BlockHeader = NoneEnds-tested (codes "BlockHeader") refl
NoneEnds-name why.DataHash = NoneEnds-tested (codes "DataHash") refl
NoneEnds-name why.Contents = NoneEnds-tested (codes "Contents") refl
NoneEnds-name why.Compressed = NoneEnds-tested (codes "Compressed") refl
NoneEnds-name why.Transposed = NoneEnds-tested (codes "Transposed") refl
NoneEnds-name why.UnknownKind = NoneEnds-tested (codes "UnknownKind") refl
NoneEnds-name why.Contradicted = NoneEnds-tested (codes "Contradicted") refl

-- digits
glyph-ends_none : (d : ℕ) → d < 10 → ends_line (digit_glyph false d) ≡ false
glyph-ends_none d small =
    ap ends_line (cond-true (nat_lt d 10) (48 + d) (87 + d) (lt-ltb d 10 small))
    ∙ false_from_ne_true (ends_line (48 + d)) (λ e. absurd (omega (arith, eqb-true (48 + d) 10 e)))

NoneEnds-onto : (k n : ℕ) (acc : List ℕ) → NoneEnds acc → NoneEnds (digits_onto k 10 false n acc)
NoneEnds-onto zero n acc h = h
NoneEnds-onto (suc k) n acc h =
    let last : NoneEnds (digit_glyph false (n % 10) ∷ acc) =
    NoneEnds-cons (digit_glyph false (n % 10)) acc (glyph-ends_none (n % 10) (omega arith)) h in
    elim (cases_Bool (n / 10 == 0)) [
      | inl first ↦ subst NoneEnds (sym (cond-true (n / 10 == 0) (digit_glyph false (n % 10) ∷ acc) (digits_onto k 10 false (n / 10) (digit_glyph false (n % 10) ∷ acc)) first)) last
      | inr more ↦ subst NoneEnds (sym (cond-false (n / 10 == 0) (digit_glyph false (n % 10) ∷ acc) (digits_onto k 10 false (n / 10) (digit_glyph false (n % 10) ∷ acc)) more))
          (NoneEnds-onto k (n / 10) (digit_glyph false (n % 10) ∷ acc) last)
    ]

NoneEnds-decimal : (n : ℕ) → NoneEnds (decimal n)
unfolding digits
NoneEnds-decimal n = NoneEnds-onto 64 n [] (λ k within. absurd (omega (arith, within)))

-- a region's line without its end
abbrev body : List ℕ → Region → List ℕ
body word region =
    word ++ (32 ∷ (decimal region.begin ++ (32 ∷ (decimal region.end ++ (32 ∷ name_of region.why)))))

regrouped : (w b e n : List ℕ) → w ++ 32 ∷ b ++ 32 ∷ e ++ 32 ∷ n ++ 10 ∷ [] ≡ (w ++ (32 ∷ (b ++ (32 ∷ (e ++ (32 ∷ n)))))) ++ 10 ∷ []
regrouped w b e n = simp append_assoc

text-body : (word : List ℕ) (region : Region) → region_text word region ≡ body word region ++ 10 ∷ []
text-body word region = regrouped word (decimal region.begin) (decimal region.end) (name_of region.why)

NoneEnds-body : (word : List ℕ) (region : Region) → NoneEnds word → NoneEnds (body word region)
NoneEnds-body word region h =
    NoneEnds-append word _ h
    (NoneEnds-cons 32 _ refl (NoneEnds-append (decimal region.begin) _ (NoneEnds-decimal region.begin)
    (NoneEnds-cons 32 _ refl (NoneEnds-append (decimal region.end) _ (NoneEnds-decimal region.end)
    (NoneEnds-cons 32 _ refl (NoneEnds-name region.why))))))

-- the lines of a text that begins with a region's
lines-region : (region : Region) (rest : List ℕ) → lines (region_text (codes "skipped") region ++ rest) ≡ body (codes "skipped") region ∷ lines rest
lines-region region rest =
    ap (λ (t : List ℕ). lines (t ++ rest)) (text-body (codes "skipped") region)
    ∙ ap lines (append_assoc (body (codes "skipped") region) (10 ∷ []) rest)
    ∙ lines-first (body (codes "skipped") region) rest (NoneEnds-body (codes "skipped") region (NoneEnds-tested (codes "skipped") refl))

-- the lines of regions are the first lines of a text that begins with them
first_lines-skipped : (regions : List Region) (rest : List ℕ) → first_lines (length regions) (skipped_text regions ++ rest) ≡ skipped_text regions
first_lines-skipped [] rest = refl
first_lines-skipped (region ∷ regions) rest =
    ap (λ (t : List ℕ). flat_map line (take (length (region ∷ regions)) (lines t))) (append_assoc (region_text (codes "skipped") region) (skipped_text regions) rest)
    ∙ ap (λ (ls : List (List ℕ)). flat_map line (take (length (region ∷ regions)) ls)) (lines-region region (skipped_text regions ++ rest))
    ∙ ap (λ (t : List ℕ). line (body (codes "skipped") region) ++ t) (first_lines-skipped regions rest)
    ∙ ap (λ (t : List ℕ). t ++ skipped_text regions) (sym (text-body (codes "skipped") region))

-- so what puts these lines in notes puts the first lines of what begins there with them
pub PutsLines-regions : (regions : List Region) (part puts : List Put) (rest : List ℕ) → bytes_to Notes part ≡ skipped_text regions
    → bytes_to Notes puts ≡ skipped_text regions ++ rest → PutsLines part puts
PutsLines-regions regions part puts rest these all = record {
  count = length regions;
  lines = these ∙ sym (first_lines-skipped regions rest) ∙ ap (first_lines (length regions)) (sym all);
}
