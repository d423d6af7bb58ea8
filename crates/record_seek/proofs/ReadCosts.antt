-- What reading on from chunk to chunk takes of a file of chunks.
use Rattle.std.proofs.Common.{◌≡◌, ◌∙◌, ℕ, zero, suc, ◌+◌, ◌*◌, ◌<◌, ◌≤◌, Option, Some, None, IfSome, List, [], ◌∷◌, length, get_or, refl, sym, ap, subst, inl, inr, add-one, arith}
use Rattle.std.specs.Prelude.{slice_get}
use Rattle.std.proofs.lemmas.Bool.{cases_lt}
use Rattle.std.proofs.lemmas.Option.{same_Some, slice_get_within, get_or_from_slice_get}
use Rattle.chunk_header.specs.Chunks.{ChunkValue}
use Rattle.chunk_header.specs.SimpleChunks.{IsSimple}
use Rattle.chunk_header.proofs.OneList.{records_are_one}
use Rattle.meta_chunk.specs.Files.{IsWellFormed, begin_of, signature}
use Rattle.meta_chunk.proofs.Begins.{begin_of_rises_by}
use Rattle.chunk_reader.specs.Holders.{ArePlacesBetween}
use Rattle.chunk_reader.specs.Places.{header_at, end_at, chunk_at}
use Rattle.chunk_reader.specs.SearchBounds.{length_of_chunk}
use Rattle.chunk_reader.proofs.HeadersTell.{laid_at, stands_below, passed_below, told_end, told_records}
use Rattle.chunk_reader.proofs.LaidAt.{chunk_at-laid}
use Rattle.record_seek.specs.Met.{HaveNoRecords}
use Rattle.record_seek.specs.Steps.{IsPassedAt, IsFirstNot, AreFirstRecords, AreNextRecords, IsPaidOn, EndsReading, cost_of_chunk, reading_cost}
use Rattle.record_seek.specs.declared.chunk_records.Found.{Found}
use Rattle.record_seek.specs.declared.chunk_records.ChunkRecords.{ChunkRecords}
use Rattle.record_seek.specs.declared.passes.Passed.{Passed}
use Rattle.record_seek.proofs.Ways.{same_told}

cost_least : (n size : ℕ) → 40 ≤ cost_of_chunk n size
cost_least zero size = omega arith
cost_least (suc n) size = omega arith

pub cost_most : (n size : ℕ) → cost_of_chunk n size ≤ 40 + size
cost_most zero size = omega arith
cost_most (suc n) size = omega arith

cost_whole : (n size : ℕ) → 0 < n → cost_of_chunk n size ≡ 40 + size
cost_whole zero size some = absurd (omega (arith, some))
cost_whole (suc n) size some = refl

-- one chunk more
pub cost_step : (ks : List ChunkValue) (j : ℕ)
    → reading_cost ks (j + 1) ≡ reading_cost ks j + cost_of_chunk (get_or ks j signature).num_records (length_of_chunk ks j)
cost_step ks j =
    subst (λ (n : ℕ). reading_cost ks n ≡ reading_cost ks j + cost_of_chunk (get_or ks j signature).num_records (length_of_chunk ks j))
    (sym (add-one j)) refl

pub cost_next : (ks : List ChunkValue) (j : ℕ) (k : ChunkValue) → slice_get ks j ≡ Some k
    → reading_cost ks (j + 1) ≡ reading_cost ks j + cost_of_chunk k.num_records (length_of_chunk ks j)
cost_next ks j k at =
    cost_step ks j
    ∙ ap (λ (c : ChunkValue). reading_cost ks j + cost_of_chunk c.num_records (length_of_chunk ks j)) (get_or_from_slice_get ks j k signature at)

pub cost_rises : (ks : List ChunkValue) (i j : ℕ) → i ≤ j → reading_cost ks i ≤ reading_cost ks j
cost_rises ks zero zero order = omega arith
cost_rises ks (suc i) zero order = absurd (omega (arith, order))
cost_rises ks i (suc j) order =
    elim (cases_lt j i) [
      | inl last ↦ let same : i ≡ suc j = omega (arith, last, order) in omega (arith, ap (reading_cost ks) same)
      | inr before ↦ omega (arith, cost_rises ks i j before)
    ]

-- reading comes from one place to another, no further than where it ends, and pays what the chunks between cost
abbrev pub IsPaidRead : (Before : List ℕ → Type 0) → (begin place spent now : ℕ) → List ℕ → Type 0
IsPaidRead Before begin place spent now file =
    (ks : List ChunkValue) (h to : ℕ) → IsWellFormed ks file → begin ≡ begin_of ks h → h ≤ to → EndsReading Before ks to
    → (j : ℕ) × (place ≡ begin_of ks j) × (j ≤ to) × (now + reading_cost ks h ≤ spent + reading_cost ks j)

abbrev pub ReadingTakes : (Before : List ℕ → Type 0) → (begin spent now : ℕ) → List ℕ → Type 0
ReadingTakes Before begin spent now file =
    (ks : List ChunkValue) (h to : ℕ) → IsWellFormed ks file → begin ≡ begin_of ks h → h ≤ to → EndsReading Before ks to
    → now + reading_cost ks h ≤ spent + reading_cost ks (to + 1)

pub paid_read-begun : (Before : List ℕ → Type 0) (bytes : Option (List ℕ)) (begin spent : ℕ) → IfSome bytes (IsPaidRead Before begin begin spent spent)
paid_read-begun Before None begin spent = tt
paid_read-begun Before (Some file) begin spent = λ ks h to well_formed is inside ends. (h, is, inside, omega arith)

-- it isn't where reading ends
not_end : (Before : List ℕ → Type 0) (ks : List ChunkValue) (j to : ℕ) (k : ChunkValue) → slice_get ks j ≡ Some k → j ≤ to → EndsReading Before ks to
    → ((records : List (List ℕ)) (r : List ℕ) → IsSimple k records → slice_get records 0 ≡ Some r → Before r) → j + 1 ≤ to
not_end Before ks j to k at order (inl end) all = omega (arith, order, end, slice_get_within ks j k at)
not_end Before ks j to k at order (inr (other, records, r, there, simple, first, apart)) all =
    elim (cases_lt j to) [
      | inl less ↦ omega (arith, less)
      | inr not ↦
          let one : to ≡ j = omega (arith, not, order) in
          let same : other ≡ k = same_Some other k (sym there ∙ ap (slice_get ks) one ∙ at) in
          absurd (apart (all records r (subst (λ (c : ChunkValue). IsSimple c records) same simple) first))
    ]

module _ (Before : List ℕ → Type 0) (file : List ℕ) (begin place : ℕ) (chunk : Passed) (spent now : ℕ) (paid : IsPaidRead Before begin place spent now file) (here : IsPassedAt file place chunk) where
  -- past the chunk at a place
  next_read : (then : ℕ) → ((k : ChunkValue) (records : List (List ℕ)) (r : List ℕ) → chunk_at file place ≡ k → IsSimple k records → slice_get records 0 ≡ Some r → Before r)
      → ((size : ℕ) → end_at file place ≡ place + size → then ≤ now + cost_of_chunk chunk.num_records size)
      → IsPaidRead Before begin chunk.end spent then file
  next_read then all takes =
      λ ks h to well_formed is inside ends.
      let (j, at, order, cost) = paid ks h to well_formed is inside ends in
      let k = stands_below ks file well_formed j (omega (arith, at, passed_below file place here.none)) in
      let there : chunk_at file place ≡ k.0 =
      ap (chunk_at file) at ∙ chunk_at-laid (begin_of ks j) k.0 file (begin_of ks (j + 1)) (laid_at ks file well_formed j k.0 k.1) in
      let end : end_at file place ≡ begin_of ks (j + 1) = ap (end_at file) at ∙ told_end ks file well_formed j k.0 k.1 in
      let count : chunk.num_records ≡ k.0.num_records =
      here.num_records ∙ ap (λ (p : ℕ). (header_at file p).num_records) at ∙ told_records ks file well_formed j k.0 k.1 in
      let rises = begin_of_rises_by ks j (slice_get_within ks j k.0 k.1) in
      let size : end_at file place ≡ place + length_of_chunk ks j = omega (arith, end, at, rises) in
      let same : cost_of_chunk chunk.num_records (length_of_chunk ks j) ≡ cost_of_chunk k.0.num_records (length_of_chunk ks j) =
      ap (λ (n : ℕ). cost_of_chunk n (length_of_chunk ks j)) count in (
        j + 1,
        here.end ∙ end,
        not_end Before ks j to k.0 k.1 order ends (λ records r simple first. all k.0 records r there simple first),
        omega (arith, cost, cost_next ks j k.0 k.1, takes (length_of_chunk ks j) size, same),
      )

  -- or no further
  last_read : (then : ℕ) → ((size : ℕ) → end_at file place ≡ place + size → then ≤ now + cost_of_chunk chunk.num_records size)
      → ReadingTakes Before begin spent then file
  last_read then takes =
      λ ks h to well_formed is inside ends.
      let (j, at, order, cost) = paid ks h to well_formed is inside ends in
      let k = stands_below ks file well_formed j (omega (arith, at, passed_below file place here.none)) in
      let end : end_at file place ≡ begin_of ks (j + 1) = ap (end_at file) at ∙ told_end ks file well_formed j k.0 k.1 in
      let count : chunk.num_records ≡ k.0.num_records =
      here.num_records ∙ ap (λ (p : ℕ). (header_at file p).num_records) at ∙ told_records ks file well_formed j k.0 k.1 in
      let rises = begin_of_rises_by ks j (slice_get_within ks j k.0 k.1) in
      let size : end_at file place ≡ place + length_of_chunk ks j = omega (arith, end, at, rises) in
      let same : cost_of_chunk chunk.num_records (length_of_chunk ks j) ≡ cost_of_chunk k.0.num_records (length_of_chunk ks j) =
      ap (λ (n : ℕ). cost_of_chunk n (length_of_chunk ks j)) count in
      omega (
        arith,
        cost,
        cost_next ks j k.0 k.1,
        takes (length_of_chunk ks j) size,
        same,
        cost_rises ks (j + 1) (to + 1) (omega (arith, order)),
      )

-- past chunks without records
paid_empties : (Before : List ℕ → Type 0) (file : List ℕ) (begin place to spent now then : ℕ) (places : List ℕ) → IsPaidRead Before begin place spent now file
    → ArePlacesBetween file place to places → HaveNoRecords file places → then ≤ now + 40 * length places
    → IsPaidRead Before begin to spent then file
paid_empties Before file begin place to spent now then [] paid same none more =
    λ ks h last well_formed is inside ends.
    let (j, at, order, cost) = paid ks h last well_formed is inside ends in
    (j, sym same ∙ at, order, omega (arith, cost, more))
paid_empties Before file begin place to spent now then (p ∷ places) paid (same, passed, rest) none more =
    let few : (header_at file place).num_records ≡ 0 = ap (λ (q : ℕ). (header_at file q).num_records) (sym same) ∙ none.0 in
    let past : IsPaidRead Before begin (end_at file place) spent (now + 40) file =
    next_read Before file begin place (record { end = end_at file place; num_records = (header_at file place).num_records }) spent now paid
    (record { none = passed; end = refl; num_records = refl }) (now + 40)
    (λ k records r there simple first.
    absurd (omega (arith, few, ap (λ (c : ChunkValue). c.num_records) there, simple.num_records, slice_get_within records 0 r first)))
    (λ size end. omega (arith, cost_least (header_at file place).num_records size)) in
    paid_empties Before file begin (end_at file place) to spent (now + 40) then places past rest none.1 (omega (arith, more))

-- past the first chunk with records, which stand before
pub paid_read-records : (Before : List ℕ → Type 0) (bytes bytes_now : Option (List ℕ)) (begin place : ℕ) (next : Option ChunkRecords) (held : ChunkRecords) (found : Option Found) (spent now then : ℕ)
    → bytes_now ≡ bytes → IfSome bytes (IsPaidRead Before begin place spent now) → next ≡ Some held
    → IfSome bytes_now (λ file. AreNextRecords file place now then next) → found ≡ None → IsFirstNot Before held.records held.begin found
    → IfSome bytes (IsPaidRead Before begin held.end spent then)
paid_read-records Before None bytes_now begin place next held found spent now then same paid is first none not = tt
paid_read-records Before (Some file) bytes_now begin place next held found spent now then same paid is first none not =
    let there : AreFirstRecords file place now then held =
    subst (AreNextRecords file place now then) is (same_told (λ f. AreNextRecords f place now then next) (Some file) bytes_now same first) in
    let all : IsFirstNot Before held.records held.begin None = subst (IsFirstNot Before held.records held.begin) none not in
    let come =
    paid_empties Before file begin place held.begin spent now (now + 40 * length there.places) there.places paid there.between there.none_before
    (omega arith) in
    let some : 0 < (header_at file held.begin).num_records = omega (arith, there.some, there.holds.holds.num_records) in
    next_read Before file begin held.begin (record { end = held.end; num_records = (header_at file held.begin).num_records }) spent
    (now + 40 * length there.places) come (record { none = there.whole; end = there.end; num_records = refl }) then
    (λ k others r at simple stands.
    let one : others ≡ held.records =
    records_are_one k others held.records simple (subst (λ (c : ChunkValue). IsSimple c held.records) at there.holds.holds) in
    all 0 r (subst (λ (rs : List (List ℕ)). slice_get rs 0 ≡ Some r) one stands))
    (λ size end. omega (arith, there.paid, there.end, end, cost_whole (header_at file held.begin).num_records size some))

-- and it goes no further
pub reading-on : (Before : List ℕ → Type 0) (bytes bytes_now : Option (List ℕ)) (begin place spent now then : ℕ) → bytes_now ≡ bytes
    → IfSome bytes (IsPaidRead Before begin place spent now) → IfSome bytes_now (IsPaidOn place now then)
    → IfSome bytes (ReadingTakes Before begin spent then)
reading-on Before None bytes_now begin place spent now then same paid more = tt
reading-on Before (Some file) bytes_now begin place spent now then same paid more =
    let on : IsPaidOn place now then file = same_told (IsPaidOn place now then) (Some file) bytes_now same more in
    let come =
    paid_empties Before file begin place on.place spent now (now + 40 * length on.places) on.places paid on.between on.none_before (omega arith) in
    elim on.paid [
      | inl header ↦
          λ ks h to well_formed is inside ends.
          let (j, at, order, cost) = come ks h to well_formed is inside ends in
          omega (
            arith,
            cost,
            header,
            cost_rises ks j to order,
            cost_step ks to,
            cost_least (get_or ks to signature).num_records (length_of_chunk ks to),
          )
      | inr (none, some, chunk) ↦
          last_read Before file begin on.place (record { end = end_at file on.place; num_records = (header_at file on.place).num_records }) spent
          (now + 40 * length on.places) come (record { none = none; end = refl; num_records = refl }) then
          (λ size end. omega (arith, chunk, end, cost_whole (header_at file on.place).num_records size some))
    ]
