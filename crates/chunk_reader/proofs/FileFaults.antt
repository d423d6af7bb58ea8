-- The fault of a file is one, and a file that has one isn't without.
use Rattle.std.proofs.Common.{true, false, ◌≢◌, ◌↔◌, ◌≡◌, ◌∙◌, ℕ, ◌<◌, ◌≤◌, Bool, List, [], ◌∷◌, length, refl, sym, ap, subst, inl, inr, arith}
use Rattle.std.specs.List.{AllByRecursion}
use Rattle.block_layout.specs.Layout.{IsBoundary}
use Rattle.chunk_header.specs.Chunks.{ChunkValue}
use Rattle.chunk_reader.specs.Places.{end_at}
use Rattle.chunk_reader.specs.Reasons.{Applies, IsFirstOf, strict_reasons}
use Rattle.chunk_reader.specs.Faults.{IsPlaceOf, IsVerdict, IsLongest, BeginsWithSignature, HasNoFault, IsFault}
use Rattle.chunk_reader.specs.declared.reasons.Why.{Why}
use Rattle.chunk_reader.specs.declared.reasons.Why.TheVariants as why
use Rattle.chunk_reader.specs.declared.reasons.Fault.{Fault}
use Rattle.chunk_reader.proofs.SignedFiles.{begins_signed}
use Rattle.chunk_reader.proofs.ChainSteps.{chain_boundary}

-- the first reason that applies is one
pub first_is_one : (P : Why → Type 0) (reasons : List Why) (a b : Why) → IsFirstOf P reasons a → IsFirstOf P reasons b → a ≡ b
first_is_one P [] a b is also = absurd is
first_is_one P (w ∷ reasons) a b (inl (applies, same)) (inl (also, other)) = same ∙ sym other
first_is_one P (w ∷ reasons) a b (inl (applies, same)) (inr (not, later)) = absurd (not applies)
first_is_one P (w ∷ reasons) a b (inr (not, later)) (inl (applies, same)) = absurd (not applies)
first_is_one P (w ∷ reasons) a b (inr (not, later)) (inr (nor, further)) = first_is_one P reasons a b later further

-- it applies
pub first_applies : (P : Why → Type 0) (reasons : List Why) (first : Why) → IsFirstOf P reasons first → P first
first_applies P [] first is = absurd is
first_applies P (w ∷ reasons) first (inl (applies, same)) = subst P (sym same) applies
first_applies P (w ∷ reasons) first (inr (not, later)) = first_applies P reasons first later

-- so is the place of a fault
place_is_one : (file : List ℕ) (place : ℕ) (w : Why) (a b : ℕ) → IsPlaceOf file place w a → IsPlaceOf file place w b → a ≡ b
place_is_one file place why.BlockHeader a b (wrong, least) (also, first) = omega (arith, least b also, first a wrong)
place_is_one file place other a b is also = is ∙ sym also

-- faults of the same place and reason are one
pub same_fault : (a b : Fault) → a.at ≡ b.at → a.why ≡ b.why → a ≡ b
same_fault a b at reason =
    ap (λ (x : ℕ). record { at = x; why = a.why }) at ∙ ap (λ (w : Why). record { at = b.at; why = w }) reason

-- so the verdict on a chunk is one
pub verdict_is_one : (unread_ok : Bool) (file : List ℕ) (place : ℕ) (a b : Fault) → IsVerdict unread_ok file place a → IsVerdict unread_ok file place b → a ≡ b
verdict_is_one unread_ok file place a b (first, at) (also, there) =
    let reason : a.why ≡ b.why = first_is_one (Applies file place) (strict_reasons unread_ok) a.why b.why first also in
    same_fault a b
    (place_is_one file place b.why a.at b.at (subst (λ (w : Why). IsPlaceOf file place w a.at) reason at) there)
    reason

-- the end of the longest chain is one
pub longest_is_one : {P : ChunkValue → Type 0} (ks ls : List ChunkValue) (file : List ℕ) (place other : ℕ)
    → IsLongest P ks file place → IsLongest P ls file other → place ≡ other
longest_is_one ks ls file place other h g =
    omega (arith, h.greatest ls other g.chain, g.greatest ks place h.chain)

-- and so the fault of a file is
pub fault_is_one : (unread_ok : Bool) (file : List ℕ) (a b : Fault) → IsFault unread_ok file a → IsFault unread_ok file b → a ≡ b
fault_is_one unread_ok file a b (inl (unsigned, is)) (inl (too, also)) = is ∙ sym also
fault_is_one unread_ok file a b (inl (unsigned, is)) (inr (signed, rest)) = absurd (unsigned signed)
fault_is_one unread_ok file a b (inr (signed, rest)) (inl (unsigned, is)) = absurd (unsigned signed)
fault_is_one unread_ok file a b (inr (signed, (ks, place, longest, below, verdict))) (inr (too, (ls, other, also, under, judged))) =
    let same : other ≡ place = longest_is_one ls ks file other place also longest in
    verdict_is_one unread_ok file place a b verdict (subst (λ (p : ℕ). IsVerdict unread_ok file p b) same judged)

-- a file without fault begins with the signature
pub faultless_signed : (unread_ok : Bool) (file : List ℕ) → HasNoFault unread_ok file → BeginsWithSignature file
faultless_signed unread_ok file ([], (some, chain)) = absurd (some refl)
faultless_signed unread_ok file (k ∷ ks, (some, chain)) = begins_signed k ks file (length file) chain

-- a file that has a fault isn't without
pub fault_or_none : (unread_ok : Bool) (file : List ℕ) (fault : Fault) → IsFault unread_ok file fault → ¬ HasNoFault unread_ok file
fault_or_none unread_ok file fault (inl (unsigned, is)) none = unsigned (faultless_signed unread_ok file none)
fault_or_none unread_ok file fault (inr (signed, (ks, place, longest, below, verdict))) (ls, (some, chain)) =
    omega (arith, below, longest.greatest ls (length file) chain)

-- where a wrong block is the first reason, the file has the whole chunk
whole_where_block : (unread_ok : Bool) (file : List ℕ) (place : ℕ) → IsFirstOf (Applies file place) (strict_reasons unread_ok) why.BlockHeader
    → end_at file place ≤ length file
whole_where_block unread_ok file place (inl (short, is)) = absurd (cc is)
whole_where_block unread_ok file place (inr (not, inl (wrong, is))) = absurd (cc is)
whole_where_block unread_ok file place (inr (not, inr (nor, inl (cut, is)))) = absurd (cc is)
whole_where_block unread_ok file place (inr (not, inr (nor, inr (whole, later)))) = omega (arith, whole)

-- a boundary of the file from a place on
record IsPlaceFrom (file : List ℕ) (place at : ℕ) : Type 0 where
  boundary : IsBoundary at
  from : place ≤ at
  within : at < length file

begin_from : (file : List ℕ) (place at : ℕ) → IsBoundary place → place < length file → at ≡ place → IsPlaceFrom file place at
begin_from file place at boundary within is = record {
  boundary = subst IsBoundary (sym is) boundary;
  from = omega (arith, is);
  within = omega (arith, is);
}

-- the place of a verdict is one
verdict_from : (unread_ok : Bool) (file : List ℕ) (place : ℕ) (w : Why) (at : ℕ) → IsBoundary place → place < length file
    → IsFirstOf (Applies file place) (strict_reasons unread_ok) w → IsPlaceOf file place w at → IsPlaceFrom file place at
verdict_from unread_ok file place why.BlockHeader at boundary within first (wrong, least) = record {
  boundary = inl wrong.is_block;
  from = wrong.from;
  within = omega (arith, wrong.below, whole_where_block unread_ok file place first);
}
verdict_from unread_ok file place other at boundary within first is = begin_from file place at boundary within is

-- so is the place of a file's fault; it is the file's end only where the file is empty
pub fault_place : (unread_ok : Bool) (file : List ℕ) (fault : Fault) → IsFault unread_ok file fault
    → IsBoundary fault.at × (fault.at ≤ length file) × (BeginsWithSignature file → fault.at < length file)
fault_place unread_ok file fault (inl (unsigned, is)) =
    let at : fault.at ≡ 0 = ap (λ (f : Fault). f.at) is in
    (subst IsBoundary (sym at) (inl refl), omega (arith, at), λ signed. absurd (unsigned signed))
fault_place unread_ok file fault (inr (signed, (ks, place, longest, below, verdict))) =
    let h = verdict_from unread_ok file place fault.why fault.at
    (chain_boundary ks file place longest.chain) below verdict.0 verdict.1 in
    let within : fault.at < length file = h.within in
    (h.boundary, omega arith, λ too. within)

-- it is that of the signature exactly where the file doesn't begin with that
never_first : (P : Why → Type 0) (w : Why) (reasons : List Why) → AllByRecursion (λ x. w ≢ x) reasons → ¬ IsFirstOf P reasons w
never_first P w [] others is = is
never_first P w (x ∷ reasons) others (inl (applies, same)) = others.0 same
never_first P w (x ∷ reasons) others (inr (not, later)) = never_first P w reasons others.1 later

not_strict : (unread_ok : Bool) → AllByRecursion (λ x. why.NoSignature ≢ x) (strict_reasons unread_ok)
not_strict false =
    (λ e. cc, (λ e. cc, (λ e. cc, (λ e. cc, (λ e. cc, (λ e. cc, (λ e. cc, (λ e. cc, (λ e. cc, (λ e. cc, tt))))))))))
not_strict true = (λ e. cc, (λ e. cc, (λ e. cc, (λ e. cc, (λ e. cc, (λ e. cc, (λ e. cc, (λ e. cc, tt))))))))

pub no_signature-iff : (unread_ok : Bool) (file : List ℕ) (fault : Fault) → IsFault unread_ok file fault
    → (fault.why ≡ why.NoSignature) ↔ (¬ BeginsWithSignature file)
no_signature-iff unread_ok file fault (inl (unsigned, is)) = (λ same. unsigned, λ h. ap (λ (f : Fault). f.why) is)
no_signature-iff unread_ok file fault (inr (signed, (ks, place, longest, below, verdict))) = (
  λ same. absurd (never_first (Applies file place) why.NoSignature (strict_reasons unread_ok) (not_strict unread_ok)
      (subst (λ (w : Why). IsFirstOf (Applies file place) (strict_reasons unread_ok) w) same verdict.0)),
  λ unsigned. absurd (unsigned signed),
)
