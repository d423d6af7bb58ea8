-- The parts of a file that is read by many.
use Rattle.std.proofs.Common.{◌≡◌, ◌∙◌, ◌↔◌, ℕ, zero, suc, ◌+◌, ◌-◌, ◌^◌, ◌<◌, ◌≤◌, true, Some, List, [], ◌∷◌, ◌++◌, length, append-nil, refl, sym, ap, subst, inl, inr, arith}
use Rattle.std.specs.Prelude.{slice_get}
use Rattle.std.specs.List.{enumerate_from, flat_map}
use Rattle.std.proofs.lemmas.Bool.{cases_lt}
use Rattle.std.proofs.lemmas.Grind.{flat_map-append}
use Rattle.std.proofs.lemmas.Option.{none-some, slice_get_cases}
use Rattle.chunk_header.specs.Chunks.{ChunkValue}
use Rattle.meta_chunk.specs.Files.{IsWellFormedChunk, IsWellFormed, Holds, HoldEach, ArePlaced, begin_of, placed_from}
use Rattle.meta_chunk.proofs.Begins.{begin_of-next, begin_of-past, begin_of_boundary, begin_of_rises, begin_of_rises_by, begin_of-within}
use Rattle.meta_chunk.proofs.Held.{HoldEach-one, HoldEach-well_formed}
use Rattle.chunk_reader.specs.Holders.{IsHolder}
use Rattle.chunk_reader.specs.Places.{end_at, chunk_at}
use Rattle.chunk_reader.proofs.ChainSteps.{each_at}
use Rattle.chunk_reader.proofs.FileFaults.{faultless_signed}
use Rattle.chunk_reader.proofs.HeadersTell.{laid_at, last_end, told_end, lies_of, holder_there}
use Rattle.chunk_reader.proofs.LaidAt.{chunk_at-laid}
use Rattle.chunk_reader.proofs.NoReason.{no_reason}
use Rattle.chunk_reader.proofs.PassedChunks.{end_at_after}
use Rattle.riegeli_c.specs.Chunks.{IsToldAs, HasChunkWith}
use Rattle.riegeli_c.specs.Parts.{AreReadBetween, IsPart, ArePartsFrom}
use Rattle.riegeli_c.specs.Splits.{IsFirstBegin}
use Rattle.riegeli_c.proofs.ChunkSteps.{holds_told, told_held}
use Rattle.riegeli_c.proofs.SplitSteps.{first_at_end, first_at_split}

-- a chunk begins at or past a position exactly where it does at or past the first that does so
pub begins_alike : (ks : List ChunkValue) (position place i : ℕ) → IsFirstBegin ks position place → i < length ks
    → (position ≤ begin_of ks i) ↔ (place ≤ begin_of ks i)
begins_alike ks position place i first inside = (
  λ from. omega (arith, first.begin, begin_of_rises ks first.number i (first.first i inside from)),
  λ from.
      elim (cases_lt first.number (length ks)) [
        | inl less ↦ omega (arith, from, first.past less)
        | inr past ↦
            absurd (omega (
              arith,
              from,
              first.begin,
              begin_of_rises_by ks i inside,
              begin_of_rises ks (i + 1) first.number (omega (arith, inside, past)),
            ))
      ],
)

-- the first chunks of positions that rise have numbers that do
numbers_rise : (ks : List ChunkValue) (from to begin end : ℕ) → from ≤ to → (a : IsFirstBegin ks from begin) (b : IsFirstBegin ks to end)
    → a.number ≤ b.number
numbers_rise ks from to begin end rises a b =
    elim (cases_lt b.number (length ks)) [
      | inl less ↦ a.first b.number less (omega (arith, rises, b.past less, b.begin))
      | inr past ↦ omega (arith, past, a.within)
    ]

-- so of a position one place is told
first_one : (ks : List ChunkValue) (position a b : ℕ) → IsFirstBegin ks position a → IsFirstBegin ks position b → a ≡ b
first_one ks position a b h g =
    let number : h.number ≡ g.number =
    omega (
      arith,
      numbers_rise ks position position a b (omega arith) h g,
      numbers_rise ks position position b a (omega arith) g h,
    ) in
    h.begin ∙ ap (begin_of ks) number ∙ sym g.begin

first_at_front : (ks : List ChunkValue) → IsFirstBegin ks 0 0
first_at_front ks = record {
  number = 0;
  within = omega arith;
  begin = refl;
  past = λ less. omega arith;
  first = λ i less from. omega arith;
}

-- reading goes onward
reads_onward : (file : List ℕ) (from to : ℕ) (chunks : List (List (ℕ × List ℕ))) → AreReadBetween file from to chunks → from ≤ to
reads_onward file from to [] same = omega (arith, same)
reads_onward file from to (placed ∷ others) (records, has, is, on) =
    omega (arith, end_at_after file from, reads_onward file (end_at file from) to others on)

-- a chunk has one list of records
holds_one : (k : ChunkValue) (a b : List (List ℕ)) → Holds k a → Holds k b → a ≡ b
holds_one k a b h g =
    let same : a ∷ [] ≡ b ∷ [] = HoldEach-one (k ∷ []) (a ∷ []) (b ∷ []) (h, refl) (g, refl) in
    cc

-- and what is read from one place to another is one
read_one : (file : List ℕ) (from to : ℕ) (a b : List (List (ℕ × List ℕ))) → AreReadBetween file from to a → AreReadBetween file from to b
    → a ≡ b
read_one file from to [] [] h g = refl
read_one file from to [] (y ∷ b) same (records, has, is, on) =
    absurd (omega (arith, same, end_at_after file from, reads_onward file (end_at file from) to b on))
read_one file from to (x ∷ a) [] (records, has, is, on) same =
    absurd (omega (arith, same, end_at_after file from, reads_onward file (end_at file from) to a on))
read_one file from to (x ∷ a) (y ∷ b) (records, has, is, on) (others, too, also, further) =
    let one : records ≡ others =
    holds_one (chunk_at file from) records others (told_held (chunk_at file from) has.what records has.told_as)
    (told_held (chunk_at file from) too.what others too.told_as) in
    ap (λ (z : List (ℕ × List ℕ)). z ∷ a) (is ∙ ap (enumerate_from from) one ∙ sym also)
    ∙ ap (λ (zs : List (List (ℕ × List ℕ))). y ∷ zs) (read_one file (end_at file from) to a b on further)

-- it may be read in two
read_joined : (file : List ℕ) (from middle to : ℕ) (a b : List (List (ℕ × List ℕ))) → AreReadBetween file from middle a
    → AreReadBetween file middle to b → AreReadBetween file from to (a ++ b)
read_joined file from middle to [] b same g = subst (λ (p : ℕ). AreReadBetween file p to b) (sym same) g
read_joined file from middle to (x ∷ a) b (records, has, is, on) g =
    (records, has, is, read_joined file (end_at file from) middle to a b on g)

-- so a part is one list of records
pub part_one : (ks : List ChunkValue) (file : List ℕ) (from to : ℕ) (a b : List (ℕ × List ℕ)) → IsPart ks file from to a
    → IsPart ks file from to b → a ≡ b
part_one ks file from to a b h g =
    let begin : g.begin ≡ h.begin = first_one ks from g.begin h.begin g.begins h.begins in
    let end : g.end ≡ h.end = first_one ks to g.end h.end g.ends h.ends in
    let read : AreReadBetween file h.begin h.end g.chunks =
    subst (λ (q : ℕ). AreReadBetween file h.begin q g.chunks) end
    (subst (λ (p : ℕ). AreReadBetween file p g.end g.chunks) begin g.read) in
    h.records
    ∙ ap (flat_map (λ (placed : List (ℕ × List ℕ)). placed)) (read_one file h.begin h.end h.chunks g.chunks h.read read)
    ∙ sym g.records

-- and parts that meet are one
pub part_joined : (ks : List ChunkValue) (file : List ℕ) (from middle to : ℕ) (a b : List (ℕ × List ℕ)) → IsPart ks file from middle a
    → IsPart ks file middle to b → IsPart ks file from to (a ++ b)
part_joined ks file from middle to a b h g = record {
  begin = h.begin;
  end = g.end;
  begins = h.begins;
  ends = g.ends;
  chunks = h.chunks ++ g.chunks;
  read = read_joined file h.begin h.end g.end h.chunks g.chunks h.read
      (subst (λ (p : ℕ). AreReadBetween file p g.end g.chunks) (first_one ks middle g.begin h.end g.begins h.ends) g.read);
  records = ap (λ (xs : List (ℕ × List ℕ)). xs ++ b) h.records
      ∙ ap (λ (xs : List (ℕ × List ℕ)). flat_map (λ (placed : List (ℕ × List ℕ)). placed) h.chunks ++ xs) g.records
      ∙ sym (flat_map-append (λ (placed : List (ℕ × List ℕ)). placed) h.chunks g.chunks);
}

parts_joined : (ks : List ChunkValue) (file : List ℕ) (from to : ℕ) (cuts : List ℕ) (parts : List (List (ℕ × List ℕ)))
    → ArePartsFrom ks file from (cuts ++ to ∷ []) parts → IsPart ks file from to (flat_map (λ part. part) parts)
parts_joined ks file from to [] [] h = elim h [ ]
parts_joined ks file from to [] (part ∷ parts) (is, none) =
    subst (λ (ps : List (List (ℕ × List ℕ))). IsPart ks file from to (part ++ flat_map (λ (p : List (ℕ × List ℕ)). p) ps)) (sym none)
    (subst (IsPart ks file from to) (sym (append-nil part)) is)
parts_joined ks file from to (cut ∷ cuts) [] h = elim h [ ]
parts_joined ks file from to (cut ∷ cuts) (part ∷ parts) (is, rest) =
    part_joined ks file from cut to part (flat_map (λ (p : List (ℕ × List ℕ)). p) parts) is (parts_joined ks file cut to cuts parts rest)

-- a chunk that is read or left unread holds a list of records
held_first : (k : ChunkValue) (lists : List (List (List ℕ))) → HoldEach (k ∷ []) lists → (records : List (List ℕ)) × Holds k records
held_first k [] h = elim h [ ]
held_first k (records ∷ lists) h = (records, h.0)

held_by : (k : ChunkValue) → IsWellFormedChunk k → (records : List (List ℕ)) × Holds k records
held_by k well_formed =
    let held = HoldEach-well_formed (k ∷ []) (well_formed, tt) in
    held_first k held.0 held.1

module _ (ks : List ChunkValue) (file : List ℕ) (well_formed : IsWellFormed ks file) (reach : length file ≤ 2 ^ 60) where
  -- each chunk is read with the records that it holds
  chunk_read : (j : ℕ) (k : ChunkValue) (records : List (List ℕ)) → slice_get ks j ≡ Some k → Holds k records
      → HasChunkWith file (begin_of ks j) records
  chunk_read j k records at held =
      let laid = laid_at ks file well_formed j k at in
      let allowed : IsWellFormedChunk k = each_at IsWellFormedChunk ks j k well_formed.1.each at in
      let told = holds_told k records allowed held in
      record {
        fine = λ bad.
            elim bad [
              | inl long ↦ omega (arith, reach, long)
              | inr (inl behind) ↦ omega (arith, behind, begin_of-within ks file (length file) j well_formed.1.within well_formed.1.laid)
              | inr (inr apart) ↦ apart (begin_of_boundary ks j)
            ];
        signed = λ front. faultless_signed true file (ks, well_formed);
        without_fault = no_reason true (begin_of ks j) k file (begin_of ks (j + 1)) laid allowed;
        what = told.0;
        told_as = subst (λ (c : ChunkValue). IsToldAs c told.0 records)
            (sym (chunk_at-laid (begin_of ks j) k file (begin_of ks (j + 1)) laid)) told.1;
      }

  -- so are all of them, from one on
  read_on : (rest : List ChunkValue) (lists : List (List (List ℕ))) (h : ℕ) → ((i : ℕ) → slice_get rest i ≡ slice_get ks (h + i)) → HoldEach rest lists
      → (chunks : List (List (ℕ × List ℕ))) × AreReadBetween file (begin_of ks h) (length file) chunks
      × (flat_map (λ placed. placed) chunks ≡ placed_from (begin_of ks h) rest lists)
  read_on [] lists h at each =
      let index : h + 0 ≡ h = omega arith in
      let past : length ks ≤ h =
      elim (slice_get_cases ks h).1 [
        | inl (k, inside, there, same) ↦ absurd (none-some k (at 0 ∙ ap (slice_get ks) index ∙ there))
        | inr (past, none) ↦ past
      ] in
      ([], begin_of-past ks h past ∙ sym (begin_of-past ks (length ks) (omega arith)) ∙ last_end ks file well_formed, refl)
  read_on (k ∷ rest) [] h at each = elim each [ ]
  read_on (k ∷ rest) (records ∷ lists) h at each =
      let index : h ≡ h + 0 = omega arith in
      let there : slice_get ks h ≡ Some k = ap (slice_get ks) index ∙ sym (at 0) in
      let next : (i : ℕ) → h + suc i ≡ h + 1 + i = λ i. omega arith in
      let on = read_on rest lists (h + 1) (λ i. at (suc i) ∙ ap (slice_get ks) (next i)) each.1 in (
        enumerate_from (begin_of ks h) records ∷ on.0,
        (
          records,
          chunk_read h k records there each.0,
          refl,
          subst (λ (p : ℕ). AreReadBetween file p (length file) on.0) (sym (told_end ks file well_formed h k there)) on.1,
        ),
        ap (λ (xs : List (ℕ × List ℕ)). enumerate_from (begin_of ks h) records ++ xs)
            (on.2 ∙ ap (λ (p : ℕ). placed_from p rest lists) (begin_of-next ks h k there)),
      )

  -- and so many of them
  read_of : (n h : ℕ) → h + n ≤ length ks
      → (chunks : List (List (ℕ × List ℕ))) × AreReadBetween file (begin_of ks h) (begin_of ks (h + n)) chunks
  read_of zero h inside =
      let count : h ≡ h + 0 = omega arith in
      ([], ap (begin_of ks) count)
  read_of (suc n) h inside =
      elim (slice_get_cases ks h).1 [
        | inl (k, within, at, same) ↦
            let held = held_by k (each_at IsWellFormedChunk ks h k well_formed.1.each at) in
            let rest = read_of n (h + 1) (omega (arith, inside)) in
            let count : h + 1 + n ≡ h + suc n = omega arith in
            let to = subst (λ (m : ℕ). AreReadBetween file (begin_of ks (h + 1)) (begin_of ks m) rest.0) count rest.1 in (
              enumerate_from (begin_of ks h) held.0 ∷ rest.0,
              (
                held.0,
                chunk_read h k held.0 at held.1,
                refl,
                subst (λ (p : ℕ). AreReadBetween file p (begin_of ks (h + suc n)) rest.0) (sym (told_end ks file well_formed h k at)) to,
              ),
            )
        | inr (past, none) ↦ absurd (omega (arith, inside, past))
      ]

  -- a first chunk is told of each position
  first_there : (position : ℕ) → (place : ℕ) × IsFirstBegin ks position place
  first_there position =
      elim (cases_lt position (length file)) [
        | inl below ↦
            let lies = lies_of ks file well_formed position below in
            let begin : ℕ = begin_of ks lies.0 in
            let holder = holder_there ks file well_formed position lies.0 reach lies.1 in
            elim (cases_lt begin position) [
              | inl before ↦ (end_at file begin, first_at_split ks file well_formed position (end_at file begin) reach (inr (begin, holder, before, refl)))
              | inr there ↦
                  let same : begin ≡ position = omega (arith, there, lies.1.begins) in
                  (begin, first_at_split ks file well_formed position begin reach (inl (subst (IsHolder file position) same holder, same)))
            ]
        | inr past ↦ (length file, first_at_end ks file well_formed position past)
      ]

-- so there is a part between two positions
pub part_there : (ks : List ChunkValue) (file : List ℕ) (from to : ℕ) → IsWellFormed ks file → length file ≤ 2 ^ 60 → from ≤ to
    → (part : List (ℕ × List ℕ)) × IsPart ks file from to part
part_there ks file from to well_formed reach rises =
    let a = first_there ks file well_formed reach from in
    let b = first_there ks file well_formed reach to in
    let count : a.1.number + (b.1.number - a.1.number) ≡ b.1.number = omega (arith, numbers_rise ks from to a.0 b.0 rises a.1 b.1) in
    let read = read_of ks file well_formed reach (b.1.number - a.1.number) a.1.number (omega (arith, count, b.1.within)) in (
      flat_map (λ placed. placed) read.0,
      record {
        begin = a.0;
        end = b.0;
        begins = a.1;
        ends = b.1;
        chunks = read.0;
        read = subst (λ (p : ℕ). AreReadBetween file p b.0 read.0) (sym a.1.begin)
            (subst (λ (q : ℕ). AreReadBetween file (begin_of ks a.1.number) q read.0) (ap (begin_of ks) count ∙ sym b.1.begin) read.1);
        records = refl;
      },
    )

-- and the part from the front to the end has the records of the file
part_whole : (ks : List ChunkValue) (file : List ℕ) (part placed : List (ℕ × List ℕ)) → IsWellFormed ks file → length file ≤ 2 ^ 60
    → ArePlaced ks placed → IsPart ks file 0 (length file) part → part ≡ placed
part_whole ks file part placed well_formed reach (lists, each, are) is =
    let begin : is.begin ≡ 0 = first_one ks 0 is.begin 0 is.begins (first_at_front ks) in
    let end : is.end ≡ length file =
    first_one ks (length file) is.end (length file) is.ends (first_at_end ks file well_formed (length file) (omega arith)) in
    let index : (i : ℕ) → i ≡ 0 + i = λ i. omega arith in
    let all = read_on ks file well_formed reach ks lists 0 (λ i. ap (slice_get ks) (index i)) each in
    let read : AreReadBetween file 0 (length file) is.chunks =
    subst (λ (q : ℕ). AreReadBetween file 0 q is.chunks) end
    (subst (λ (p : ℕ). AreReadBetween file p is.end is.chunks) begin is.read) in
    is.records
    ∙ ap (flat_map (λ (xs : List (ℕ × List ℕ)). xs)) (read_one file 0 (length file) is.chunks all.0 read all.1)
    ∙ all.2
    ∙ sym are

-- so have all parts together
pub parts_whole : (ks : List ChunkValue) (file cuts : List ℕ) (parts : List (List (ℕ × List ℕ))) (placed : List (ℕ × List ℕ))
    → IsWellFormed ks file → length file ≤ 2 ^ 60 → ArePlaced ks placed → ArePartsFrom ks file 0 (cuts ++ length file ∷ []) parts
    → flat_map (λ part. part) parts ≡ placed
parts_whole ks file cuts parts placed well_formed reach are h =
    part_whole ks file (flat_map (λ (part : List (ℕ × List ℕ)). part) parts) placed well_formed reach are
    (parts_joined ks file 0 (length file) cuts parts h)
