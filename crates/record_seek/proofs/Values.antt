-- Values counted by hand, computed from the definitions.
use Rattle.std.proofs.Common.{◌≡◌, ◌∙◌, ◌⊎◌, ℕ, zero, suc, ◌-◌, false, ◌<◌, ◌≤◌, Some, None, List, [], ◌∷◌, length, replicate, nat_cmp, Less, lit<, lit≤, refl, sym, ap, subst, inl, inr, arith}
use Rattle.std.specs.Prelude.{slice_get}
use Rattle.std.specs.Cmp.Lexicographic.{slice_cmp}
use Rattle.std.proofs.lemmas.Bool.{cases_lt}
use Rattle.std.proofs.lemmas.Option.{same_Some}
use Rattle.block_layout.specs.Layout.{end_of, chunk_end_of}
use Rattle.block_layout.specs.BlockHeaders.{StandsAt}
use Rattle.chunk_header.specs.Chunks.{ChunkValue}
use Rattle.meta_chunk.specs.Files.{signature, begin_of, placed_from}
use Rattle.chunk_reader.specs.Faults.{BeginsWithSignature}
use Rattle.chunk_reader.specs.Holders.{ArePlacesBetween}
use Rattle.chunk_reader.specs.Places.{end_at}
use Rattle.chunk_reader.specs.Reasons.{Applies, NoneOf, unpassed_reasons}
use Rattle.chunk_reader.specs.PositionSearches.{HasRecordsAt}
use Rattle.chunk_reader.proofs.SignedFiles.{chunk_at-signature, no_reason-signature, end_at-signature}
use Rattle.record_seek.specs.Found.{MayAnswer, IsAnswering, IsKeyFound, BytesStandBefore, OnlyFrontStandsBefore}
use Rattle.record_seek.specs.FirstRecords.{IsFirstAt}
use Rattle.record_seek.specs.Met as met
use Rattle.record_seek.specs.Met.{IsMetBySearch, IsMetRecord, LeadsWithoutRecords, LeadsPastAll}

-- a file of four chunks of one record each, as large as those of 30000 bytes
large : ChunkValue
large = record { kind = 0x72; num_records = 1; decoded_size = 30000; «data» = replicate 30005 0 }

four : List ChunkValue
four = signature ∷ large ∷ large ∷ large ∷ large ∷ []

begins :
    (begin_of four 0 ≡ 0)
    × (begin_of four 1 ≡ 64)
    × (begin_of four 2 ≡ 30109)
    × (begin_of four 3 ≡ 60154)
    × (begin_of four 4 ≡ 90223)
    × (begin_of four 5 ≡ 120268)
unfolding large four chunk_end_of end_of
begins = (refl, refl, refl, refl, refl, refl)

-- the places of its chunks that have records
record Place (i begin : ℕ) : Type 0 where
  some : 0 < i
  second : i < 3 → begin ≤ 30109
  third : i < 4 → begin ≤ 60154
  last : begin ≤ 90223

place_of : (i : ℕ) → 0 < i → i ≤ 4 → Place i (begin_of four i)
place_of zero some few = absurd (omega (arith, some))
place_of (suc zero) some few =
    record { some = some; second = λ h. omega (arith, begins.1); third = λ h. omega (arith, begins.1); last = omega (arith, begins.1) }
place_of (suc (suc zero)) some few =
    record { some = some; second = λ h. omega (arith, begins.2); third = λ h. omega (arith, begins.2); last = omega (arith, begins.2) }
place_of (suc (suc (suc zero))) some few =
    record { some = some; second = λ h. absurd (omega (arith, h)); third = λ h. omega (arith, begins.3); last = omega (arith, begins.3) }
place_of (suc (suc (suc (suc zero)))) some few =
    record { some = some; second = λ h. absurd (omega (arith, h)); third = λ h. absurd (omega (arith, h)); last = omega (arith, begins.4) }
place_of (suc (suc (suc (suc (suc i))))) some few = absurd (omega (arith, few))

-- each of them has one
large_has_one : large.num_records ≡ 1
unfolding large
large_has_one = refl

one_record : (k : ChunkValue) → Some large ≡ Some k → k.num_records ≡ 1
one_record k same = ap (λ (c : ChunkValue). c.num_records) (sym (same_Some large k same)) ∙ large_has_one

no_record : (k : ChunkValue) → Some signature ≡ Some k → k.num_records ≡ 0
no_record k same = ap (λ (c : ChunkValue). c.num_records) (sym (same_Some signature k same))

counted : (i : ℕ) (k : ChunkValue) → slice_get four i ≡ Some k → 0 < k.num_records → (0 < i) × (i ≤ 4) × (k.num_records ≡ 1)
unfolding four
counted zero k stands some = absurd (omega (arith, some, no_record k stands))
counted (suc zero) k stands some = (lit< tt, lit≤ tt, one_record k stands)
counted (suc (suc zero)) k stands some = (lit< tt, lit≤ tt, one_record k stands)
counted (suc (suc (suc zero))) k stands some = (lit< tt, lit≤ tt, one_record k stands)
counted (suc (suc (suc (suc zero)))) k stands some = (lit< tt, lit≤ tt, one_record k stands)
counted (suc (suc (suc (suc (suc i))))) k stands some = absurd (cc)

stands_at : (slice_get four 1 ≡ Some large) × (slice_get four 3 ≡ Some large) × (slice_get four 4 ≡ Some large)
unfolding four
stands_at = (refl, refl, refl)

-- the chunk that answers a position
answer_at_a_begin : IsAnswering four 60154 3 large
answer_at_a_begin = record {
  may = record { stands = stands_at.1; has = (omega (arith, large_has_one), omega (arith, begins.3, large_has_one)) };
  first = λ i k h.
      let one = counted i k h.stands h.has.0 in
      let place = place_of i one.0 one.1 in
      elim (cases_lt i 3) [
        | inl before ↦ absurd (omega (arith, h.has.1, one.2, place.second before))
        | inr past ↦ past
      ];
}

answer_past : (position : ℕ) → 60155 ≤ position → position ≤ 90223 → IsAnswering four position 4 large
answer_past position low high = record {
  may = record { stands = stands_at.2; has = (omega (arith, large_has_one), omega (arith, begins.4, large_has_one, high)) };
  first = λ i k h.
      let one = counted i k h.stands h.has.0 in
      let place = place_of i one.0 one.1 in
      elim (cases_lt i 4) [
        | inl before ↦ absurd (omega (arith, h.has.1, one.2, low, place.third before))
        | inr past ↦ past
      ];
}

answer_behind_a_begin : IsAnswering four 60155 4 large
answer_behind_a_begin = answer_past 60155 (lit≤ tt) (lit≤ tt)

answer_further_on : IsAnswering four 70000 4 large
answer_further_on = answer_past 70000 (lit≤ tt) (lit≤ tt)

answer_at_the_front : IsAnswering four 0 1 large
answer_at_the_front = record {
  may = record { stands = stands_at.0; has = (omega (arith, large_has_one), omega (arith, begins.1, large_has_one)) };
  first = λ i k h. (counted i k h.stands h.has.0).0;
}

none_at_the_end : (i : ℕ) (k : ChunkValue) → (¬ MayAnswer four 120267 i k) × (¬ MayAnswer four 120268 i k)
none_at_the_end i k =
    let past : (position : ℕ) → 120267 ≤ position → ¬ MayAnswer four position i k = λ position high h.
    let one = counted i k h.stands h.has.0 in
    let place = place_of i one.0 one.1 in
    absurd (omega (arith, high, h.has.1, one.2, place.last)) in
    (past 120267 (lit≤ tt), past 120268 (lit≤ tt))

-- the records with their positions, of which the first at or past one is found
placed_of_four : (a b c d : List ℕ)
    → placed_from 0 four ([] ∷ (a ∷ []) ∷ (b ∷ []) ∷ (c ∷ []) ∷ (d ∷ []) ∷ []) ≡ (64, a) ∷ (30109, b) ∷ (60154, c) ∷ (90223, d) ∷ []
unfolding large four chunk_end_of end_of
placed_of_four a b c d = refl

placed : (a b c d : List ℕ) → List (ℕ × List ℕ)
placed a b c d = (64, a) ∷ (30109, b) ∷ (60154, c) ∷ (90223, d) ∷ []

record Position (p : ℕ) : Type 0 where
  first : 64 ≤ p
  fourth : 60154 < p → 90223 ≤ p
  last : p ≤ 90223

position_is : (x y : ℕ × List ℕ) → Some x ≡ Some y → Position x.0 → Position y.0
position_is x y same at = subst (λ (p : ℕ). Position p) (ap (λ (z : ℕ × List ℕ). z.0) (same_Some x y same)) at

positions : (a b c d : List ℕ) (i : ℕ) (other : ℕ × List ℕ) → slice_get (placed a b c d) i ≡ Some other → Position other.0
unfolding placed
positions a b c d zero other same =
    position_is _ other same (record { first = lit≤ tt; fourth = λ h. absurd (omega (arith, h)); last = lit≤ tt })
positions a b c d (suc zero) other same =
    position_is _ other same (record { first = lit≤ tt; fourth = λ h. absurd (omega (arith, h)); last = lit≤ tt })
positions a b c d (suc (suc zero)) other same =
    position_is _ other same (record { first = lit≤ tt; fourth = λ h. absurd (omega (arith, h)); last = lit≤ tt })
positions a b c d (suc (suc (suc zero))) other same =
    position_is _ other same (record { first = lit≤ tt; fourth = λ h. lit≤ tt; last = lit≤ tt })
positions a b c d (suc (suc (suc (suc i)))) other same = absurd (cc)

found_behind_a_begin : (a b c d : List ℕ) → IsFirstAt (placed a b c d) 60155 (Some (90223, d))
unfolding placed
found_behind_a_begin a b c d =
    ((3, refl), lit≤ tt, λ i other same past. (positions a b c d i other same).fourth (omega (arith, past)))

found_at_a_begin : (a b c d : List ℕ) → IsFirstAt (placed a b c d) 60154 (Some (60154, c))
unfolding placed
found_at_a_begin a b c d = ((2, refl), lit≤ tt, λ i other same past. past)

found_at_the_front : (a b c d : List ℕ) → IsFirstAt (placed a b c d) 0 (Some (64, a))
unfolding placed
found_at_the_front a b c d = ((0, refl), lit≤ tt, λ i other same past. (positions a b c d i other same).first)

found_further_on : (a b c d : List ℕ) → IsFirstAt (placed a b c d) 70000 (Some (90223, d))
unfolding placed
found_further_on a b c d =
    ((3, refl), lit≤ tt, λ i other same past. (positions a b c d i other same).fourth (omega (arith, past)))

nothing_before_the_end : (a b c d : List ℕ) → IsFirstAt (placed a b c d) 120267 None
nothing_before_the_end a b c d = λ i other same. omega (arith, (positions a b c d i other same).last)

nothing_at_the_end : (a b c d : List ℕ) → IsFirstAt (placed a b c d) 120268 None
nothing_at_the_end a b c d = λ i other same. omega (arith, (positions a b c d i other same).last)

-- a search by key: the records before it in byte order stand before it
Before : List ℕ → List ℕ → Type 0
Before key bytes = slice_cmp nat_cmp bytes key ≡ Less

a : List ℕ
a = 0x61 ∷ []

b : List ℕ
b = 0x62 ∷ []

c : List ℕ
c = 0x63 ∷ []

a_b_c : List (ℕ × List ℕ)
a_b_c = (64, a) ∷ (108, b) ∷ (152, c) ∷ []

key_of_a_record : IsKeyFound (BytesStandBefore (Before (0x62 ∷ []))) a_b_c (Some (108, b))
unfolding Before a_b_c a b
key_of_a_record = ((λ same. cc), (1, refl, inr ((64, a), refl, refl)))

key_between_records : IsKeyFound (BytesStandBefore (Before (0x62 ∷ 0x62 ∷ []))) a_b_c (Some (152, c))
unfolding Before a_b_c b c
key_between_records = ((λ same. cc), (2, refl, inr ((108, b), refl, refl)))

empty_key : IsKeyFound (BytesStandBefore (Before [])) a_b_c (Some (64, a))
unfolding Before a_b_c a
empty_key = ((λ same. cc), (0, refl, inl refl))

key_past_all : IsKeyFound (BytesStandBefore (Before (0x64 ∷ []))) a_b_c None
unfolding Before a_b_c c
key_past_all = inr ((152, c), refl, refl)

front_one : (i : ℕ) (r : ℕ × List ℕ) → slice_get a_b_c i ≡ Some r → i < 1 → BytesStandBefore (Before (0x62 ∷ [])) r
unfolding Before a_b_c a b c
front_one zero r stands before = subst (BytesStandBefore (Before (0x62 ∷ []))) (same_Some (64, a) r stands) refl
front_one (suc i) r stands before = absurd (omega (arith, before))

others_one : (i : ℕ) (r : ℕ × List ℕ) → slice_get a_b_c i ≡ Some r → 1 ≤ i → ¬ BytesStandBefore (Before (0x62 ∷ [])) r
unfolding Before a_b_c a b c
others_one zero r stands past = absurd (omega (arith, past))
others_one (suc zero) r stands past =
    subst (λ (x : ℕ × List ℕ). ¬ BytesStandBefore (Before (0x62 ∷ [])) x) (same_Some (108, b) r stands) (λ same. cc)
others_one (suc (suc zero)) r stands past =
    subst (λ (x : ℕ × List ℕ). ¬ BytesStandBefore (Before (0x62 ∷ [])) x) (same_Some (152, c) r stands) (λ same. cc)
others_one (suc (suc (suc i))) r stands past = absurd (cc)

front_before_a_key : OnlyFrontStandsBefore (BytesStandBefore (Before (0x62 ∷ []))) a_b_c 1
unfolding Before a_b_c a b c
front_before_a_key = record { front = front_one; others = others_one }

-- of two equal records the second isn't found, though its bytes are those of the first
b_b : List (ℕ × List ℕ)
b_b = (64, b) ∷ (108, b) ∷ []

second_of_equals : (i : ℕ) → slice_get b_b i ≡ Some (108, b)
    → (i ≡ 0) ⊎ ((last : ℕ × List ℕ) × (slice_get b_b (i - 1) ≡ Some last) × BytesStandBefore (Before (0x62 ∷ [])) last) → ⊥
unfolding Before b_b b
second_of_equals zero stands around = omega (arith, ap (λ (r : ℕ × List ℕ). r.0) (same_Some (64, b) (108, b) stands))
second_of_equals (suc zero) stands (inl first) = omega (arith, first)
second_of_equals (suc zero) stands (inr (last, there, before)) =
    let same : BytesStandBefore (Before (0x62 ∷ [])) (64, b) = subst (BytesStandBefore (Before (0x62 ∷ []))) (sym (same_Some (64, b) last there)) before in
    cc
second_of_equals (suc (suc i)) stands around = cc

equal_records : ¬ IsKeyFound (BytesStandBefore (Before (0x62 ∷ []))) b_b (Some (108, b))
unfolding Before b_b b
equal_records (apart, (i, stands, around)) = second_of_equals i stands around

-- a file of no records answers nothing
none_of_signature : (position i : ℕ) (k : ChunkValue) → ¬ MayAnswer (signature ∷ []) position i k
none_of_signature position zero k h = absurd (omega (arith, h.has.0, no_record k h.stands))
none_of_signature position (suc i) k h =
    let nothing : None ≡ Some k = h.stands in
    absurd (cc)

nothing_of_none : (position : ℕ) → IsFirstAt [] position None
nothing_of_none position = λ i other same. absurd (cc)

no_key_of_none : (key : List ℕ) → IsKeyFound (BytesStandBefore (Before key)) [] None
no_key_of_none key = inl refl

-- a chunk that is left unread answers too, as its header tells how many records it has
unread : ChunkValue
unread = record { kind = 0x74; num_records = 65480; decoded_size = 0; «data» = replicate 10 0 }

unread_answers : IsAnswering (signature ∷ unread ∷ []) 70 1 unread
unfolding unread chunk_end_of end_of
unread_answers = record {
  may = record { stands = refl; has = (lit< tt, lit< tt) };
  first = λ i k h. elim (cases_lt i 1) [
    | inl before ↦
        let first : i ≡ 0 = omega (arith, before) in
        let front = subst (λ (n : ℕ). slice_get (signature ∷ unread ∷ []) n ≡ Some k) first h.stands in
        absurd (omega (arith, h.has.0, no_record k front))
    | inr past ↦ past
  ];
}

-- of two records in one chunk, and a third in the next, the second stands one behind its chunk's begin
two : ChunkValue
two = record { kind = 0x72; num_records = 2; decoded_size = 2; «data» = replicate 6 0 }

one : ChunkValue
one = record { kind = 0x72; num_records = 1; decoded_size = 1; «data» = replicate 4 0 }

placed_of_two_chunks : (a b c : List ℕ)
    → placed_from 0 (signature ∷ two ∷ one ∷ []) ([] ∷ (a ∷ b ∷ []) ∷ (c ∷ []) ∷ []) ≡ (64, a) ∷ (65, b) ∷ (110, c) ∷ []
unfolding two one chunk_end_of end_of
placed_of_two_chunks a b c = refl

-- each in a chunk of its own, they stand at the chunks' begins
placed_of_three_chunks : (a b c : List ℕ)
    → placed_from 0 (signature ∷ one ∷ one ∷ one ∷ []) ([] ∷ (a ∷ []) ∷ (b ∷ []) ∷ (c ∷ []) ∷ []) ≡ (64, a) ∷ (108, b) ∷ (152, c) ∷ []
unfolding one chunk_end_of end_of
placed_of_three_chunks a b c = refl

-- a file's front is met, and the end of its signature
met_at_the_front : (file : List ℕ) → IsMetBySearch file 0
met_at_the_front file = met.front

met_behind_the_signature : (file : List ℕ) → BeginsWithSignature file → IsMetBySearch file 64
met_behind_the_signature file begins =
    let none = no_reason-signature false file begins in
    subst (λ (place : ℕ). IsMetBySearch file place) (end_at-signature file begins) (met.behind met.front (none.0, (none.1.0, (none.1.1.0, tt))))

-- and the begin that a block header tells
met_before_a_block : (file : List ℕ) → StandsAt file 65536 5382 24687 → IsMetBySearch file 60154
met_before_a_block file stands = met.told (5382, 24687, stands, refl)

-- a file of the signature alone leads to its end without records
signature_leads : (file : List ℕ) → BeginsWithSignature file → length file ≡ 64 → LeadsWithoutRecords file (length file)
signature_leads file begins size =
    let none = no_reason-signature false file begins in (
      0 ∷ [],
      (refl, (none.0, (none.1.0, (none.1.1.0, tt))), end_at-signature file begins ∙ sym size),
      (ap (λ (k : ChunkValue). k.num_records) (chunk_at-signature file begins), tt),
    )

-- and with a chunk behind it, of `a` and `b`, it leads past all that stand before `c`
records_lead : (file : List ℕ) → BeginsWithSignature file → NoneOf (Applies file 64) unpassed_reasons → end_at file 64 ≡ length file
    → HasRecordsAt file 64 (a ∷ b ∷ []) → LeadsPastAll file (length file) (Before (0x63 ∷ []))
unfolding Before a b
records_lead file begins whole end holds =
    let none = no_reason-signature false file begins in
    record {
      begin = 0;
      front = 0 ∷ [];
      place = 64;
      rest = [];
      records = a ∷ b ∷ [];
      last = b;
      from = inl refl;
      between = (
        refl,
        (none.0, (none.1.0, (none.1.1.0, tt))),
        subst (λ (p : ℕ). ArePlacesBetween file p (length file) (64 ∷ [])) (sym (end_at-signature file begins)) (refl, whole, end),
      );
      none_behind = tt;
      holds = holds;
      last_there = refl;
      before = refl;
    }

-- there `a` may be found as the first record, and `b` behind `a`
first_met : (file : List ℕ) → BeginsWithSignature file → HasRecordsAt file 64 (a ∷ b ∷ []) → IsMetRecord file (Before []) (64, a)
first_met file begins holds =
    let none = no_reason-signature false file begins in
    record {
      place = 64;
      records = a ∷ b ∷ [];
      number = 0;
      met = met_behind_the_signature file begins;
      holds = holds;
      stands = refl;
      position = refl;
      before = λ i bytes less stands. absurd (omega (arith, less));
      behind = inr (inl (
        0 ∷ [],
        (refl, (none.0, (none.1.0, (none.1.1.0, tt))), end_at-signature file begins),
        (ap (λ (k : ChunkValue). k.num_records) (chunk_at-signature file begins), tt),
      ));
    }

before_b : (i : ℕ) (bytes : List ℕ) → i < 1 → slice_get (a ∷ b ∷ []) i ≡ Some bytes → Before (0x62 ∷ []) bytes
unfolding Before a b
before_b zero bytes less stands = subst (Before (0x62 ∷ [])) (same_Some a bytes stands) refl
before_b (suc i) bytes less stands = absurd (omega (arith, less))

behind_met : (file : List ℕ) → BeginsWithSignature file → HasRecordsAt file 64 (a ∷ b ∷ []) → IsMetRecord file (Before (0x62 ∷ [])) (65, b)
behind_met file begins holds = record {
  place = 64;
  records = a ∷ b ∷ [];
  number = 1;
  met = met_behind_the_signature file begins;
  holds = holds;
  stands = refl;
  position = refl;
  before = before_b;
  behind = inl (lit< tt);
}

-- but of a chunk of `b` and `c` not `c` for `b`, in whatever file
second_unmet : (file : List ℕ) (is : IsMetRecord file (Before (0x62 ∷ [])) (65, c)) → is.place ≡ 64 → is.records ≡ b ∷ c ∷ [] → ⊥
unfolding Before b c
second_unmet file is at same =
    let stands : Before (0x62 ∷ []) b =
    is.before 0 b (omega (arith, is.position, at)) (ap (λ (records : List (List ℕ)). slice_get records 0) same) in
    cc
