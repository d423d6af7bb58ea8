-- Where a file of chunks is split.
use Rattle.std.proofs.Common.{◌≡◌, ◌∙◌, ℕ, ◌+◌, ◌^◌, ◌<◌, ◌≤◌, ◌⊎◌, Option, Some, None, IfSome, Result, Ok, List, length, sym, ap, subst, inl, inr, arith}
use Rattle.std.proofs.lemmas.Bool.{cases_lt}
use Rattle.chunk_header.specs.Chunks.{ChunkValue}
use Rattle.chunk_header.specs.Views.{IsHeader, bytes_of_header, value_of_header}
use Rattle.chunk_header.specs.declared.Header.{Header}
use Rattle.meta_chunk.specs.Files.{IsWellFormed, begin_of}
use Rattle.meta_chunk.proofs.Begins.{begin_of_rises, begin_of_rises_by}
use Rattle.chunk_reader.specs.Holders.{IsHolder, IsHolderFault}
use Rattle.chunk_reader.specs.Places.{header_bytes_at, end_by, end_at}
use Rattle.chunk_reader.specs.Reasons.{Applies, IsFirstOf, unpassed_reasons}
use Rattle.chunk_reader.specs.declared.reasons.Fault.{Fault}
use Rattle.chunk_reader.proofs.HeadersTell.{holder_is, holder_there, last_end, lies_of, stands_below, told_end}
use Rattle.chunk_reader.proofs.NoReason.{none_is_first}
use Rattle.chunk_reader.proofs.Verdicts.{end_by-at}
use Rattle.record_seek.proofs.OneHolder.{holder_or_fault}
use Rattle.riegeli_c.specs.Splits.{IsSplit, IsFirstBegin}

-- a value that is answered is the one that was
pub answered : {E : Type 0} (a b : ℕ) → ◌≡◌ {A = Result ℕ E} (Ok a) (Ok b) → a ≡ b
answered a b is = cc

-- where a file is split, or its end where the position isn't below that
abbrev pub IsSplitOrEnd : List ℕ → (size at place : ℕ) → Type 0
IsSplitOrEnd file size at place = ((size ≤ at) × (place ≡ size)) ⊎ ((at < size) × IsSplit file at place × (place ≤ size))

-- the chunk that holds the position begins there
pub split-there : (bytes : Option (List ℕ)) (size at begin place : ℕ) → at < size → begin ≡ at → at ≡ place → IfSome bytes (λ file. IsHolder file at begin)
    → IfSome bytes (λ file. IsSplitOrEnd file size at place)
split-there None size at begin place below same is holder = tt
split-there (Some file) size at begin place below same is holder =
    inr (below, inl (subst (λ (p : ℕ). IsHolder file at p) same holder, sym is), omega (arith, is, below))

-- or before it
pub split-behind : (bytes now : Option (List ℕ)) (size at begin end place : ℕ) (h : Header) → now ≡ bytes → begin < at → at < size → end ≤ size
    → end ≡ place → IsHeader h → end ≡ end_by begin (value_of_header h) → IfSome bytes (λ file. IsHolder file at begin)
    → IfSome now (λ file. header_bytes_at file begin ≡ bytes_of_header h) → IfSome bytes (λ file. IsSplitOrEnd file size at place)
split-behind None now size at begin end place h same before below within is sound ends holder reads = tt
split-behind (Some file) now size at begin end place h same before below within is sound ends holder reads =
    let read : header_bytes_at file begin ≡ bytes_of_header h =
    subst (λ (o : Option (List ℕ)). IfSome o (λ f. header_bytes_at f begin ≡ bytes_of_header h)) same reads in
    inr (below, inr (begin, holder, before, sym is ∙ ends ∙ end_by-at file begin h sound read), omega (arith, is, within))

-- its header is read
pub split-read : (bytes now : Option (List ℕ)) (at begin : ℕ) (fault : Fault) → now ≡ bytes → IfSome bytes (λ file. IsHolder file at begin)
    → IfSome now (λ file. IsFirstOf (Applies file begin) unpassed_reasons fault.why) → IfSome bytes (λ file. IsHolderFault file at fault)
split-read None now at begin fault same holder refused = tt
split-read (Some file) now at begin fault same holder refused =
    absurd (none_is_first (Applies file begin) unpassed_reasons fault.why holder.whole
    (subst (λ (o : Option (List ℕ)). IfSome o (λ f. IsFirstOf (Applies f begin) unpassed_reasons fault.why)) same refused))

module _ (ks : List ChunkValue) (file : List ℕ) (well_formed : IsWellFormed ks file) where
  -- at or behind the file's end no chunk begins
  pub first_at_end : (position : ℕ) → length file ≤ position → IsFirstBegin ks position (length file)
  first_at_end position past = record {
    number = length ks;
    within = omega arith;
    begin = sym (last_end ks file well_formed);
    past = λ less. absurd (omega (arith, less));
    first = λ i less from.
        absurd (omega (arith, from, past, last_end ks file well_formed, begin_of_rises_by ks i less, begin_of_rises ks (i + 1) (length ks) (omega (arith, less))));
  }

  -- elsewhere the first one begins where the file is split
  pub first_at_split : (position place : ℕ) → length file ≤ 2 ^ 60 → IsSplit file position place → IsFirstBegin ks position place
  first_at_split position place reach (inl (holder, same)) =
      let lies = lies_of ks file well_formed position holder.on_way.below in
      let h : ℕ = lies.0 in
      let is : position ≡ begin_of ks h = holder_is ks file well_formed position position h reach lies.1 holder in
      record {
        number = h;
        within = omega (arith, lies.1.number);
        begin = same ∙ is;
        past = λ less. omega (arith, same);
        first = λ i less from.
            elim (cases_lt i h) [
              | inl before ↦ absurd (omega (arith, from, is, begin_of_rises_by ks i less, begin_of_rises ks (i + 1) h (omega (arith, before))))
              | inr later ↦ later
            ];
      }
  first_at_split position place reach (inr (held, holder, before, same)) =
      let lies = lies_of ks file well_formed position holder.on_way.below in
      let h : ℕ = lies.0 in
      let is : held ≡ begin_of ks h = holder_is ks file well_formed position held h reach lies.1 holder in
      let chunk = stands_below ks file well_formed h (omega (arith, is, before, holder.on_way.below)) in
      let ends : end_at file held ≡ begin_of ks (h + 1) = ap (end_at file) is ∙ told_end ks file well_formed h chunk.0 chunk.1 in
      record {
        number = h + 1;
        within = omega (arith, lies.1.number);
        begin = same ∙ ends;
        past = λ less. omega (arith, same, holder.within);
        first = λ i less from.
            elim (cases_lt i (h + 1)) [
              | inl early ↦ absurd (omega (arith, from, before, is, begin_of_rises ks i h (omega (arith, early))))
              | inr later ↦ later
            ];
      }

  -- nowhere is that refused
  pub never_refused : (position : ℕ) (fault : Fault) → length file ≤ 2 ^ 60 → ¬ IsHolderFault file position fault
  never_refused position fault reach refused =
      let below : ¬ (length file ≤ position) = λ past. elim refused [
        | inl block ↦ omega (arith, past, block.0)
        | inr way ↦ omega (arith, past, way.0.below)
      ] in
      elim (cases_lt position (length file)) [
        | inl inside ↦
            let lies = lies_of ks file well_formed position inside in
            holder_or_fault file position (begin_of ks lies.0) fault (holder_there ks file well_formed position lies.0 reach lies.1) refused
        | inr past ↦ absurd (below past)
      ]

  -- where the first chunk begins
  pub first_begin : (position place : ℕ) → length file ≤ 2 ^ 60 → IsSplitOrEnd file (length file) position place → IsFirstBegin ks position place
  first_begin position place reach (inl (past, same)) = subst (λ (p : ℕ). IsFirstBegin ks position p) (sym same) (first_at_end position past)
  first_begin position place reach (inr (below, split, within)) = first_at_split position place reach split
