-- Files that are joined one by one.
use Rattle.std.proofs.Common.{◌≡◌, ◌∙◌, ℕ, ◌+◌, ◌<◌, ◌≤◌, ◌⊎◌, true, Option, Some, Ok, Err, List, [], ◌∷◌, ◌++◌, length, take, get_or, refl, sym, ap, subst, inl, inr, arith}
use Rattle.std.specs.Prelude.{slice_get, sum}
use Rattle.std.specs.List.{AllByRecursion}
use Rattle.std.proofs.lemmas.List.{append_assoc, length-take-le, take_all, take_more}
use Rattle.std.proofs.lemmas.Bool.{cases_lt}
use Rattle.std.proofs.lemmas.List.Sums.{sum_by_more}
use Rattle.std.proofs.lemmas.Option.{get_or_from_slice_get, slice_get_within}
use Rattle.record_values.specs.declared.file_totals.Totals.{Totals}
use Rattle.record_io.specs.Outside.{Takes, TakesShort}
use Rattle.record_io.specs.Calls.{TakesFront}
use Rattle.record_io.proofs.Calls.{Takes-append, Takes-nothing, TakesFront-append, TakesFront-longer, TakesFront-whole, TakesShort-append, TakesShort-longer}
use Rattle.chunk_header.specs.Chunks.{ChunkValue}
use Rattle.meta_chunk.specs.Files.{totals_of, IsWellFormed, end_of_chunks}
use Rattle.meta_chunk.specs.PaddingSizes.{padding_at}
use Rattle.meta_chunk.proofs.PaddingLemmas.{padding_at-block, padding_at_near}
use Rattle.ordered_writer.specs.Padding.{padding_bytes}
use Rattle.ordered_writer.proofs.JoinedFiles.{IsFileOf-joined, length-file, length-joined, totals-joined}
use Rattle.chunk_reader.specs.Faults.{HasNoFault, IsFault, HaveNoFault}
use Rattle.chunk_reader.specs.declared.reasons.Fault.{Fault}
use Rattle.block_layout.specs.Layout.{IsBoundary}
use Rattle.record_join.specs.Joined.{joined, joined_at_most}
use Rattle.record_join.specs.Joins.{totals_joined, AnswersFirst, AreJoined, AreJoinedUpTo, AreTotalsWith, IsFrontJoined, IsFrontPut, IsPutOfJoined, TakesJoined, TakesNext}
use Rattle.record_join.specs.declared.joins.JoinEnd.{JoinEnd}
use Rattle.record_join.specs.declared.joins.JoinEnd.TheVariants as end
use Rattle.chunk_reader.proofs.ManyFiles.{first_is_one, first_or_none, first_without}
use Rattle.record_join.proofs.FirstFaults.{front_joined}
use Rattle.record_join.proofs.JoinedFiles.{boundaries, joined-more}

-- what the totals count: no chunks, where no file was put, or the chunks of the files
abbrev pub AreCounted : List (List ℕ) → Totals → Type 0
AreCounted files totals =
    ((files ≡ []) × (totals ≡ totals_of []))
    ⊎ ((ks : List ChunkValue) × IsWellFormed ks (joined files) × (totals ≡ totals_of ks))

-- so many files were joined
pub record JoinedSoFar (files : List (List ℕ)) (count : ℕ) (totals : Totals) (before after : Option (List ℕ)) : Type 0 where
  pub without_fault : HaveNoFault true (take count files)
  pub bytes : totals.bytes ≡ length (joined (take count files))
  pub counted : AreCounted (take count files) totals
  pub took : Takes before after (joined (take count files))

pub JoinedSoFar-none : (files : List (List ℕ)) (totals : Totals) (taken : Option (List ℕ)) → totals ≡ totals_of [] → JoinedSoFar files 0 totals taken taken
JoinedSoFar-none files totals taken none = record {
  without_fault = tt;
  bytes = ap (λ (t : Totals). t.bytes) none;
  counted = inl (refl, none);
  took = Takes-nothing taken;
}

-- the next file
next_files : (files : List (List ℕ)) (count : ℕ) (file : List ℕ) → slice_get files count ≡ Some file → take (count + 1) files ≡ take count files ++ file ∷ []
next_files files count file there =
    take_more files count file (slice_get_within files count file there)
    ∙ ap (λ (f : List ℕ). take count files ++ f ∷ []) (get_or_from_slice_get files count file file there)

all_and : {X : Type 0} (P : X → Type 0) (xs : List X) (x : X) → AllByRecursion P xs → P x → AllByRecursion P (xs ++ x ∷ [])
all_and P [] x h is = (is, tt)
all_and P (y ∷ xs) x h is = (h.0, all_and P xs x h.1 is)

-- the totals behind those of no file are those of the file
totals_joined-none : (t : Totals) → totals_joined (totals_of []) t ≡ t
unfolding padding_at
totals_joined-none t =
    let zero : (n : ℕ) → 0 + n ≡ n = λ n. omega arith in
    ap (λ (n : ℕ). record { chunks = n; records = 0 + t.records; bytes = 0 + t.bytes; unread = 0 + t.unread }) (zero t.chunks)
    ∙ ap (λ (n : ℕ). record { chunks = t.chunks; records = n; bytes = 0 + t.bytes; unread = 0 + t.unread }) (zero t.records)
    ∙ ap (λ (n : ℕ). record { chunks = t.chunks; records = t.records; bytes = n; unread = 0 + t.unread }) (zero t.bytes)
    ∙ ap (λ (n : ℕ). record { chunks = t.chunks; records = t.records; bytes = t.bytes; unread = n }) (zero t.unread)

-- files and one more
module _ (files : List (List ℕ)) (file : List ℕ) (totals then : Totals) (without_fault : HaveNoFault true files)
    (bytes : totals.bytes ≡ length (joined files)) (more : AreTotalsWith totals file then) where
  bytes_then : then.bytes ≡ length (joined (files ++ file ∷ []))
  bytes_then =
      let of_all : joined (files ++ file ∷ []) ≡ joined files ++ padding_bytes (length (joined files)) ++ file =
      joined-more files file (boundaries files without_fault) in
      ap (λ (t : Totals). t.bytes) more.2
      ∙ ap (λ (n : ℕ). end_of_chunks totals.bytes (padding_at totals.bytes) + n) (length-file more.0 file more.1)
      ∙ ap (λ (p : ℕ). end_of_chunks p (padding_at p) + length file) bytes
      ∙ sym (length-joined (joined files) file)
      ∙ ap length (sym of_all)

  counted_first : files ≡ [] → totals ≡ totals_of [] → AreCounted (files ++ file ∷ []) then
  counted_first none zero =
      let alone : file ≡ joined (files ++ file ∷ []) = ap (λ (fs : List (List ℕ)). joined (fs ++ file ∷ [])) (sym none) in
      inr (
        more.0,
        subst (IsWellFormed more.0) alone more.1,
        more.2 ∙ ap (λ (t : Totals). totals_joined t (totals_of more.0)) zero ∙ totals_joined-none (totals_of more.0),
      )

  counted_behind : (ls : List ChunkValue) → IsWellFormed ls (joined files) → totals ≡ totals_of ls → AreCounted (files ++ file ∷ []) then
  counted_behind ls h is =
      let place : ℕ = length (joined files) in
      let of_all : joined (files ++ file ∷ []) ≡ joined files ++ padding_bytes place ++ file = joined-more files file (boundaries files without_fault) in
      let at : Totals → ℕ → Totals = λ t p. record {
        chunks = t.chunks + length (padding_at p) + (totals_of more.0).chunks;
        records = t.records + (totals_of more.0).records;
        bytes = end_of_chunks p (padding_at p) + (totals_of more.0).bytes;
        unread = t.unread + (totals_of more.0).unread;
      } in
      inr (
        ls ++ padding_at place ++ more.0,
        subst (IsWellFormed (ls ++ padding_at place ++ more.0)) (sym of_all) (IsFileOf-joined ls more.0 (joined files) file (λ k plain. inl plain) h more.1),
        more.2 ∙ ap (at totals) bytes ∙ ap (λ (t : Totals). at t place) is ∙ sym (totals-joined ls more.0 (joined files) h),
      )

  pub counted_more : AreCounted files totals → AreCounted (files ++ file ∷ []) then
  counted_more (inl none) = counted_first none.0 none.1
  counted_more (inr of) = counted_behind of.0 of.1 of.2

-- what a sink took of files and then of one more
took_more : (files : List (List ℕ)) (file : List ℕ) (place : ℕ) → HaveNoFault true files → place ≡ length (joined files)
    → joined files ++ (padding_bytes place ++ file) ≡ joined (files ++ file ∷ [])
took_more files file place without_fault is =
    ap (λ (p : ℕ). joined files ++ (padding_bytes p ++ file)) is
    ∙ sym (append_assoc (joined files) (padding_bytes (length (joined files))) file)
    ∙ sym (joined-more files file (boundaries files without_fault))

pub JoinedSoFar-more : (files : List (List ℕ)) (count : ℕ) (file : List ℕ) (totals then : Totals) (before between after : Option (List ℕ))
    → slice_get files count ≡ Some file → AreTotalsWith totals file then → Takes between after (padding_bytes totals.bytes ++ file)
    → JoinedSoFar files count totals before between → JoinedSoFar files (count + 1) then before after
JoinedSoFar-more files count file totals then before between after there more took kept =
    let first : List (List ℕ) = take count files in
    let is : first ++ file ∷ [] ≡ take (count + 1) files = sym (next_files files count file there) in
    let front : Takes before after (joined (first ++ file ∷ [])) =
    subst (Takes before after) (took_more first file totals.bytes kept.without_fault kept.bytes)
    (Takes-append before between after (joined first) (padding_bytes totals.bytes ++ file) kept.took took) in
    record {
      without_fault = subst (HaveNoFault true) is (all_and (HasNoFault true) first file kept.without_fault (more.0, more.1));
      bytes = bytes_then first file totals then kept.without_fault kept.bytes more ∙ ap (λ (fs : List (List ℕ)). length (joined fs)) is;
      counted = subst (λ (fs : List (List ℕ)). AreCounted fs then) is
          (counted_more first file totals then kept.without_fault kept.bytes more kept.counted);
      took = subst (λ (fs : List (List ℕ)). Takes before after (joined fs)) is front;
    }

-- all files
pub AreJoined-all : (files : List (List ℕ)) (count : ℕ) (totals : Totals) (before after : Option (List ℕ))
    → 0 < length files → length files ≤ count → JoinedSoFar files count totals before after → AreJoined files totals before after
AreJoined-all files count totals before after some all kept =
    let is : take count files ≡ files = take_all count files all in
    elim (subst (λ (fs : List (List ℕ)). AreCounted fs totals) is kept.counted) [
      | inl none ↦ absurd (omega (arith, some, ap length none.0))
      | inr of ↦ record {
        without_fault = subst (HaveNoFault true) is kept.without_fault;
        chunks = of.0;
        well_formed = of.1;
        totals = of.2;
        took = subst (λ (fs : List (List ℕ)). Takes before after (joined fs)) is kept.took;
      }
    ]

-- so none of them has a fault that could be told
pub first_none : (files : List (List ℕ)) (totals : Totals) (before after : Option (List ℕ)) → AreJoined files totals before after → AnswersFirst (Ok totals) files
first_none files totals before after all = record {
  complete = λ index fault first. absurd (first_or_none true files index fault first all.without_fault);
  sound_first = λ made. absurd (cc made);
}

-- up to a file without fault of which P holds behind those before it
IsPutOfJoined-failed : (P : (before after : Option (List ℕ)) → List ℕ → Type 0)
    → ((a b : Option (List ℕ)) (x y : List ℕ) → P a b x → P a b (x ++ y))
    → ((a b c : Option (List ℕ)) (x y : List ℕ) → Takes a b x → P b c y → P a c (x ++ y))
    → (files : List (List ℕ)) (count : ℕ) (file : List ℕ) (totals : Totals) (before between after : Option (List ℕ))
    → slice_get files count ≡ Some file → HasNoFault true file → P between after (padding_bytes totals.bytes ++ file)
    → JoinedSoFar files count totals before between → IsPutOfJoined P files before after
IsPutOfJoined-failed P longer append files count file totals before between after there none put kept =
    let first : List (List ℕ) = take count files in
    let is : first ++ file ∷ [] ≡ take (count + 1) files = sym (next_files files count file there) in
    let of_all : P before after (joined (first ++ file ∷ [])) =
    subst (P before after) (took_more first file totals.bytes kept.without_fault kept.bytes)
    (append before between after (joined first) (padding_bytes totals.bytes ++ file) kept.took put) in
    front_joined P longer files (count + 1) before after
    (subst (HaveNoFault true) is (all_and (HasNoFault true) first file kept.without_fault none))
    (subst (λ (fs : List (List ℕ)). P before after (joined fs)) is of_all)

-- up to a file that wasn't put whole
module _ (files : List (List ℕ)) (count : ℕ) (file : List ℕ) (totals : Totals) (before between after : Option (List ℕ))
    (there : slice_get files count ≡ Some file) (kept : JoinedSoFar files count totals before between) where
  -- of which nothing was put, since it has a fault
  refused_here : (fault : Fault) → IsFault true file fault → after ≡ between → AreJoinedUpTo files count fault before after
  refused_here fault is same = record {
    first = record { before = kept.without_fault; file = file; there = there; is_fault = is };
    took = subst (λ (o : Option (List ℕ)). Takes before o (joined (take count files))) (sym same) kept.took;
  }

  -- or a front was, or nothing
  front_here : IsFrontPut (padding_bytes totals.bytes) file between after → IsFrontJoined files before after
  front_here (inl same) =
      front_joined TakesFront TakesFront-longer files count before after kept.without_fault
      (TakesFront-whole before after (joined (take count files)) (subst (λ (o : Option (List ℕ)). Takes before o (joined (take count files))) (sym same) kept.took))
  front_here (inr (none, front)) =
      IsPutOfJoined-failed TakesFront TakesFront-longer TakesFront-append files count file totals before between after there none front kept

  -- so files are joined by the end of this one
  pub joined_failed : (why : JoinEnd) → TakesNext (Err why) count totals file between after → TakesJoined (Err why) files before after
  joined_failed (end.Refused number fault) (same, is, unput) =
      subst (λ (n : ℕ). AreJoinedUpTo files n fault before after) (sym same) (refused_here fault is unput)
  joined_failed end.Store front = front_here front
  joined_failed end.Made (none, short) =
      IsPutOfJoined-failed TakesShort TakesShort-longer TakesShort-append files count file totals before between after there none short kept

  -- and it is the first with a fault that is told
  pub first_failed : (why : JoinEnd) → TakesNext (Err why) count totals file between after → AnswersFirst (Err why) files
  first_failed (end.Refused number fault) (same, is, unput) = record {
    complete = λ index other first.
        let one = first_is_one true files count index fault other (refused_here fault is unput).first first in
        inl (ap (λ (n : ℕ). Err (end.Refused n fault)) (same ∙ one.0) ∙ ap (λ (f : Fault). Err (end.Refused index f)) one.1);
    sound_first = λ made. absurd (cc made);
  }
  first_failed end.Store front = record { complete = λ index fault first. inr (inl refl); sound_first = λ made. absurd (cc made) }
  first_failed end.Made (none, short) = record {
    complete = λ index fault first. inr (inr refl);
    sound_first = λ made. first_without true files count file there none kept.without_fault;
  }

-- where one more file ends
pub fits_more : (sizes : List ℕ) (count place then : ℕ) → count < length sizes → IsBoundary place → place ≤ joined_at_most (take count sizes)
    → then ≡ end_of_chunks place (padding_at place) + get_or sizes count 0 → then ≤ joined_at_most (take (count + 1) sizes)
fits_more sizes count place then below boundary fits is =
    let size : length (take count sizes) ≡ count = length-take-le count sizes (omega (arith, below)) in
    let size_then : length (take (count + 1) sizes) ≡ count + 1 = length-take-le (count + 1) sizes (omega (arith, below)) in
    let more : sum (take (count + 1) sizes) ≡ sum (take count sizes) + get_or sizes count 0 = sum_by_more (λ n. n) sizes count 0 below in
    elim (cases_lt 0 count) [
      | inl some ↦ omega (arith, fits, is, size, size_then, more, padding_at_near place boundary)
      | inr none ↦
          let first : count ≡ 0 = omega (arith, none) in
          let front : take count sizes ≡ [] = ap (λ (n : ℕ). take n sizes) first in
          let at_front : place ≡ 0 = omega (arith, fits, ap joined_at_most front) in
          let unpadded : end_of_chunks place (padding_at place) ≡ place =
          ap (end_of_chunks place) (padding_at-block place (omega (arith, at_front))) in
          omega (arith, is, size_then, first, more, ap sum front, unpadded, at_front)
    ]
