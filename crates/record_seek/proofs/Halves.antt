-- How far a search by halves has come, and what it took of a file of chunks.
use Rattle.std.proofs.Common.{◌≡◌, ◌∙◌, ◌⊎◌, ℕ, zero, suc, ◌+◌, ◌-◌, ◌*◌, ◌/◌, ◌^◌, ◌<◌, ◌≤◌, false, Option, Some, None, IfSome, List, [], ◌∷◌, length, get_or, refl, sym, ap, subst, inl, inr, arith}
use Rattle.std.proofs.lemmas.Bool.{cases_lt}
use Rattle.std.proofs.lemmas.List.{nil_from_length}
use Rattle.std.proofs.lemmas.Option.{slice_get_cases}
use Rattle.block_layout.specs.Layout.{blocks_below}
use Rattle.chunk_header.specs.Chunks.{ChunkValue}
use Rattle.meta_chunk.specs.Files.{IsWellFormed, begin_of, LiesIn, signature}
use Rattle.meta_chunk.proofs.Begins.{begin_of-past, begin_of_rises, begin_of_rises_by}
use Rattle.chunk_reader.specs.Holders.{TellsBegin, ArePlacesBetween}
use Rattle.chunk_reader.specs.Places.{header_at}
use Rattle.chunk_reader.specs.SearchBounds.{length_of_chunk, chunks_without_records, greatest_length_from, digit_count_of_blocks, key_bound}
use Rattle.chunk_reader.proofs.Blocks.{stands_within}
use Rattle.chunk_reader.proofs.HeadersTell.{passed_below, last_end, stands_below, told_end, told_records, told_is, places_are, lies_of}
use Rattle.chunk_reader.proofs.Rooms.{IsSized}
use Rattle.record_seek.specs.Met.{HaveNoRecords}
use Rattle.record_seek.specs.Steps.{FirstNotBefore, IsLook, EndsReading, cost_of_chunk, reading_cost}
use Rattle.record_seek.specs.declared.finds.Look.{Look}
use Rattle.record_seek.proofs.Finding.{IsBeginFrom}
use Rattle.record_seek.proofs.LookCosts.{empties_within, without_drop, longest, BlockTakes}
use Rattle.record_seek.proofs.PlacedRecords.{holds_there}
use Rattle.record_seek.proofs.ReadCosts.{cost_most, cost_step, cost_next, ReadingTakes}
use Rattle.record_seek.proofs.Turns.{AreTurnsPaid, after_turn, digits_above}
use Rattle.record_seek.proofs.Ways.{same_told}

-- what a turn takes at most
abbrev pub turn_cost : List ChunkValue → ℕ
turn_cost ks = 200000 + 64 * chunks_without_records ks + 2 * greatest_length_from 0 ks

-- from the chunk at or before a place on, reading ends behind chunks without records
pub record EndsBehind (Before : List ℕ → Type 0) (ks : List ChunkValue) (place : ℕ) : Type 0 where
  pub n : ℕ
  pub to : ℕ
  pub order : n ≤ to
  pub within : n ≤ length ks
  pub ends : EndsReading Before ks to
  pub cost : reading_cost ks to ≤ reading_cost ks n + 40 * chunks_without_records ks
  pub begins : begin_of ks n ≤ place
  pub holds : (n ≡ length ks) ⊎ (place < begin_of ks (n + 1))

module _ (ks : List ChunkValue) (file : List ℕ) (well_formed : IsWellFormed ks file) where
  -- chunks without records cost their headers
  empties_cost : (places : List ℕ) (h to : ℕ) → ArePlacesBetween file (begin_of ks h) to places → HaveNoRecords file places
      → reading_cost ks (h + length places) ≤ reading_cost ks h + 40 * length places
  empties_cost [] h to same none =
      let index : h + length {A = ℕ} [] ≡ h = omega arith in
      omega (arith, ap (reading_cost ks) index)
  empties_cost (place ∷ places) h to (same, passed, rest) none =
      let k = stands_below ks file well_formed h (passed_below file (begin_of ks h) passed) in
      let count : k.0.num_records ≡ 0 =
      sym (ap (λ (p : ℕ). (header_at file p).num_records) same ∙ told_records ks file well_formed h k.0 k.1) ∙ none.0 in
      let one : cost_of_chunk k.0.num_records (length_of_chunk ks h) ≡ 40 = ap (λ (n : ℕ). cost_of_chunk n (length_of_chunk ks h)) count in
      let index : h + length (place ∷ places) ≡ h + 1 + length places = omega arith in
      let on = empties_cost places (h + 1) to (subst (λ (p : ℕ). ArePlacesBetween file p to places) (told_end ks file well_formed h k.0 k.1) rest) none.1 in
      omega (arith, ap (reading_cost ks) index, on, cost_next ks h k.0 k.1, one)

  -- chunks between two cost their headers and bytes
  span_cost : (i d : ℕ) → i + d ≤ length ks → reading_cost ks (i + d) + 2 * begin_of ks i ≤ reading_cost ks i + 2 * begin_of ks (i + d)
  span_cost i zero inside =
      let index : i + 0 ≡ i = omega arith in
      omega (arith, ap (reading_cost ks) index, ap (begin_of ks) index)
  span_cost i (suc d) inside =
      let index : i + suc d ≡ i + d + 1 = omega arith in
      let rises = begin_of_rises_by ks (i + d) (omega (arith, inside)) in
      let most = cost_most (get_or ks (i + d) signature).num_records (length_of_chunk ks (i + d)) in
      omega (
        arith,
        ap (reading_cost ks) index,
        ap (begin_of ks) index,
        span_cost i d (omega (arith, inside)),
        cost_step ks (i + d),
        most,
        rises,
      )

  short : (j : ℕ) → length_of_chunk ks j ≤ greatest_length_from 0 ks
  short j =
      elim (slice_get_cases ks j).1 [
        | inl (k, inside, at, same) ↦ omega (arith, longest ks j k at)
        | inr (past, none) ↦ omega (arith, begin_of-past ks j past, begin_of-past ks (j + 1) (omega (arith, past)))
      ]

  -- a chunk costs its header and at most as many bytes as the longest has
  one_cost : (j : ℕ) → reading_cost ks (j + 1) ≤ reading_cost ks j + 40 + greatest_length_from 0 ks
  one_cost j =
      let most = cost_most (get_or ks j signature).num_records (length_of_chunk ks j) in
      omega (arith, cost_step ks j, most, short j)

  -- behind a chunk whose first record doesn't stand before reading ends
  ends_behind : (Before : List ℕ → Type 0) (place h : ℕ) → LiesIn ks place h → FirstNotBefore Before file (begin_of ks h) → EndsBehind Before ks place
  ends_behind Before place h lies (inl (bytes, first, apart)) =
      let inside : h ≤ length ks = omega (arith, lies.number) in
      let there = places_are ks file well_formed first.places h first.place inside first.between in
      let (k, at, simple) = holds_there ks file well_formed (h + length first.places) first.place first.records there.1 (passed_below file first.place first.whole) first.holds in
      let few = empties_within ks file well_formed first.places h first.place first.between first.none_before in
      record {
        n = h;
        to = h + length first.places;
        order = omega arith;
        within = inside;
        ends = inr (k, first.records, bytes, at, simple, first.stands, apart);
        cost = omega (arith, empties_cost first.places h first.place first.between first.none_before, few, without_drop ks h);
        begins = lies.begins;
        holds = inr lies.ends;
      }
  ends_behind Before place h lies (inr (places, between, none)) =
      let inside : h ≤ length ks = omega (arith, lies.number) in
      let there = places_are ks file well_formed places h (length file) inside between in
      let few = empties_within ks file well_formed places h (length file) between none in
      let j : ℕ = h + length places in
      let end : j ≡ length ks =
      elim (cases_lt j (length ks)) [
        | inl less ↦
            absurd (omega (arith, there.1, begin_of_rises_by ks j less, begin_of_rises ks (j + 1) (length ks) (omega (arith, less)), last_end ks file well_formed))
        | inr past ↦ omega (arith, past, there.0)
      ] in
      record {
        n = h;
        to = j;
        order = omega arith;
        within = inside;
        ends = inl end;
        cost = omega (arith, empties_cost places h (length file) between none, few, without_drop ks h);
        begins = lies.begins;
        holds = inr lies.ends;
      }

  -- so reading on from the block before it takes no more than a turn
  pub read_near : (Before : List ℕ → Type 0) (low high h : ℕ) → LiesIn ks (low * 65536) h → low ≤ high → high ≤ low + 1
      → (e : EndsBehind Before ks (high * 65536)) → (h ≤ e.to) × (reading_cost ks (e.to + 1) + 24 ≤ reading_cost ks h + turn_cost ks)
  read_near Before low high h lies order next e =
      let h_first : h ≤ e.n =
      elim e.holds [
        | inl end ↦ omega (arith, end, lies.number)
        | inr below ↦ elim (cases_lt e.n h) [
          | inl past ↦ absurd (omega (arith, below, order, lies.begins, begin_of_rises ks (e.n + 1) h (omega (arith, past))))
          | inr not ↦ not
        ]
      ] in
      let last = one_cost e.to in
      elim (cases_lt h e.n) [
        | inl more ↦
            let d : ℕ = e.n - (h + 1) in
            let index : h + 1 + d ≡ e.n = omega (arith, more) in
            let span = span_cost (h + 1) d (omega (arith, index, e.within)) in (
              omega (arith, h_first, e.order),
              omega (
                arith,
                last,
                e.cost,
                span,
                ap (reading_cost ks) index,
                ap (begin_of ks) index,
                one_cost h,
                e.begins,
                lies.ends,
                next,
              ),
            )
        | inr same ↦
            let one : e.n ≡ h = omega (arith, same, h_first) in
            (omega (arith, h_first, e.order), omega (arith, last, e.cost, ap (reading_cost ks) one))
      ]

  -- where reading begins
  begin_lies : length file ≤ 2 ^ 60 → (low begin : ℕ) → IsBeginFrom low begin file → (h : ℕ) × (begin ≡ begin_of ks h) × LiesIn ks (low * 65536) h
  begin_lies reach low begin (inl (first, front)) =
      let below : 0 < length file =
      elim (cases_lt 0 (length ks)) [
        | inl some ↦ omega (arith, begin_of_rises_by ks 0 some, begin_of_rises ks (0 + 1) (length ks) (omega (arith, some)), last_end ks file well_formed)
        | inr none ↦ absurd (well_formed.0 (nil_from_length ks (omega (arith, none))))
      ] in
      let holder = lies_of ks file well_formed (low * 65536) (omega (arith, first, below)) in
      (holder.0, omega (arith, front, first, holder.1.begins), holder.1)
  begin_lies reach low begin (inr (some, told)) =
      let (previous, next, stands, is) = told in
      let holder = lies_of ks file well_formed (low * 65536) (omega (arith, stands_within file (low * 65536) previous next stands)) in
      (holder.0, told_is ks file well_formed (low * 65536) begin holder.0 reach stands.is_block holder.1 told, holder.1)

-- the search goes on between two blocks, and the turns that are left are paid
abbrev pub IsHalved : (Before : List ℕ → Type 0) → (size low high spent now : ℕ) → List ℕ → Type 0
IsHalved Before size low high spent now file =
    (ks : List ChunkValue) → IsWellFormed ks file
    → EndsBehind Before ks (high * 65536) × AreTurnsPaid (high - low) now (turn_cost ks) (spent + digit_count_of_blocks size * turn_cost ks)

pub halved-begun : (Before : List ℕ → Type 0) (bytes : Option (List ℕ)) (size high spent : ℕ) → IsSized bytes (Some size)
    → high ≡ (size + 65535) / 65536 → IfSome bytes (IsHalved Before size 0 high spent spent)
halved-begun Before None size high spent sized is = tt
halved-begun Before (Some file) size high spent sized is =
    λ ks well_formed. (
      record {
        n = length ks;
        to = length ks;
        order = omega arith;
        within = omega arith;
        ends = inl refl;
        cost = omega arith;
        begins = omega (arith, last_end ks file well_formed, sized, is);
        holds = inl refl;
      },
      record { turns = digit_count_of_blocks size; narrow = omega (arith, digits_above (blocks_below size), is); paid = omega arith },
    )

pub halved-up : (Before : List ℕ → Type 0) (bytes bytes_now : Option (List ℕ)) (size low high spent now then : ℕ) → bytes_now ≡ bytes
    → IfSome bytes (IsHalved Before size low high spent now) → 1 < high - low → IfSome bytes_now (BlockTakes now then)
    → IfSome bytes (IsHalved Before size (low + (high - low) / 2) high spent then)
halved-up Before None bytes_now size low high spent now then same halved wide takes = tt
halved-up Before (Some file) bytes_now size low high spent now then same halved wide takes =
    let more : BlockTakes now then file = same_told (BlockTakes now then) (Some file) bytes_now same takes in
    λ ks well_formed.
    let (e, paid) = halved ks well_formed in
    (e, after_turn _ _ _ _ _ _ paid wide (omega (arith, wide)) (omega (arith, more ks well_formed)))

pub halved-down : (Before : List ℕ → Type 0) (bytes bytes_now : Option (List ℕ)) (size low high spent now then : ℕ) (look : Look) → bytes_now ≡ bytes
    → IsSized bytes (Some size) → size ≤ 2 ^ 60 → IfSome bytes (IsHalved Before size low high spent now) → 1 < high - low
    → IfSome bytes_now (BlockTakes now then) → IfSome bytes_now (λ file. TellsBegin file ((low + (high - low) / 2) * 65536) look.begin)
    → IfSome bytes_now (IsLook Before look) → look.before ≡ false → IfSome bytes (IsHalved Before size low (low + (high - low) / 2) spent then)
halved-down Before None bytes_now size low high spent now then look same sized reach halved wide takes told looked is = tt
halved-down Before (Some file) bytes_now size low high spent now then look same sized reach halved wide takes told looked is =
    let more : BlockTakes now then file = same_told (BlockTakes now then) (Some file) bytes_now same takes in
    let block : ℕ = (low + (high - low) / 2) * 65536 in
    let here : TellsBegin file block look.begin = same_told (λ f. TellsBegin f block look.begin) (Some file) bytes_now same told in
    let first : IsLook Before look file = same_told (IsLook Before look) (Some file) bytes_now same looked in
    let (previous, next, stands, at) = here in
    λ ks well_formed.
    let (e, paid) = halved ks well_formed in
    let holder = lies_of ks file well_formed block (omega (arith, stands_within file block previous next stands)) in
    let begins = told_is ks file well_formed block look.begin holder.0 (omega (arith, sized, reach)) stands.is_block holder.1 here in (
      ends_behind ks file well_formed Before block holder.0 holder.1 (subst (FirstNotBefore Before file) begins (first.not_before is)),
      after_turn _ _ _ _ _ _ paid wide (omega (arith, wide)) (omega (arith, more ks well_formed)),
    )

-- so much a search takes
abbrev pub KeyTakes : (spent now : ℕ) → List ℕ → Type 0
KeyTakes spent now file = (ks : List ChunkValue) → IsWellFormed ks file → now ≤ spent + key_bound ks

-- a turn more at the end
turn_more : (ks : List ChunkValue) (file : List ℕ) (size width spent now then : ℕ) → IsWellFormed ks file → size ≡ length file
    → AreTurnsPaid width now (turn_cost ks) (spent + digit_count_of_blocks size * turn_cost ks) → then ≤ now + turn_cost ks
    → then ≤ spent + key_bound ks
turn_more ks file size width spent now then well_formed sized paid more =
    let d : ℕ = digit_count_of_blocks (begin_of ks (length ks)) in
    let same : digit_count_of_blocks size ≡ d = ap digit_count_of_blocks (sized ∙ sym (last_end ks file well_formed)) in
    let all : (d + 2) * turn_cost ks ≡ d * turn_cost ks + turn_cost ks + turn_cost ks = grind arith in
    let one : digit_count_of_blocks size * turn_cost ks ≡ d * turn_cost ks = ap (λ (n : ℕ). n * turn_cost ks) same in
    omega (arith, paid.paid, more, all, one)

pub takes-look : (Before : List ℕ → Type 0) (bytes bytes_now : Option (List ℕ)) (size low high spent now then : ℕ) → bytes_now ≡ bytes
    → IsSized bytes (Some size) → IfSome bytes (IsHalved Before size low high spent now) → IfSome bytes_now (BlockTakes now then)
    → IfSome bytes (KeyTakes spent then)
takes-look Before None bytes_now size low high spent now then same sized halved takes = tt
takes-look Before (Some file) bytes_now size low high spent now then same sized halved takes =
    let more : BlockTakes now then file = same_told (BlockTakes now then) (Some file) bytes_now same takes in
    λ ks well_formed. turn_more ks file size (high - low) spent now then well_formed sized (halved ks well_formed).1 (omega (arith, more ks well_formed))

pub takes-begin : (Before : List ℕ → Type 0) (bytes : Option (List ℕ)) (size low high spent now then : ℕ) → IsSized bytes (Some size)
    → IfSome bytes (IsHalved Before size low high spent now) → then ≤ now + 24 → IfSome bytes (KeyTakes spent then)
takes-begin Before None size low high spent now then sized halved more = tt
takes-begin Before (Some file) size low high spent now then sized halved more =
    λ ks well_formed. turn_more ks file size (high - low) spent now then well_formed sized (halved ks well_formed).1 (omega (arith, more))

pub takes-reading : (Before : List ℕ → Type 0) (bytes bytes_now bytes_then : Option (List ℕ)) (size low high begin spent now then last : ℕ) → bytes_now ≡ bytes
    → bytes_then ≡ bytes → IsSized bytes (Some size) → size ≤ 2 ^ 60 → IfSome bytes (IsHalved Before size low high spent now) → low ≤ high
    → high ≤ low + 1 → IfSome bytes_now (IsBeginFrom low begin) → then ≤ now + 24 → IfSome bytes_then (ReadingTakes Before begin then last)
    → IfSome bytes (KeyTakes spent last)
takes-reading Before None bytes_now bytes_then size low high begin spent now then last same also sized reach halved order near from more read = tt
takes-reading Before (Some file) bytes_now bytes_then size low high begin spent now then last same also sized reach halved order near from more read =
    let start : IsBeginFrom low begin file = same_told (IsBeginFrom low begin) (Some file) bytes_now same from in
    let takes : ReadingTakes Before begin then last file = same_told (ReadingTakes Before begin then last) (Some file) bytes_then also read in
    λ ks well_formed.
    let (e, paid) = halved ks well_formed in
    let (h, is, lies) = begin_lies ks file well_formed (omega (arith, sized, reach)) low begin start in
    let (inside, cost) = read_near ks file well_formed Before low high h lies order near e in
    turn_more ks file size (high - low) spent now last well_formed sized paid (omega (arith, takes ks h e.to well_formed is inside e.ends, cost, more))
