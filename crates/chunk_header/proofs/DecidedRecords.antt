-- Whether a chunk holds records is decided.
use Rattle.std.proofs.Common.{◌≡◌, ◌∙◌, ℕ, zero, suc, ◌+◌, ◌-◌, ◌^◌, ◌<◌, ◌≤◌, List, [], ◌∷◌, ◌++◌, length, get_or, take, drop, refl, sym, ap, subst, inl, inr, arith}
use Rattle.std.specs.Prelude.{map, sum}
use Rattle.std.specs.List.{concat}
use Rattle.std.proofs.lemmas.List.{append_assoc, append_cancel_left, nil_from_length, take_at, drop_at, take-append-drop, length-append, length-map, length-take-le, length-drop}
use Rattle.std.proofs.lemmas.List.Sums.{sum_by-cons}
use Rattle.varint_wire.specs.Varint.{spelled_value, Spells, SpellsEach}
use Rattle.varint_wire.proofs.Spellings.{spelling_is_one}
use Rattle.varint_wire.proofs.InARow.{spellings_are_one}
use Rattle.chunk_header.specs.Chunks.{ChunkValue}
use Rattle.chunk_header.specs.Kinds.{simple_kind}
use Rattle.chunk_header.specs.SimpleChunks.{IsSimple, IsSimpleChunk}
use Rattle.chunk_header.proofs.Decided.{IsDecided, both, same_decided, less_decided, at_most_decided, equal_decided, each_below_decided, some_below_decided}
use Rattle.chunk_header.proofs.SimpleChunks.{sum-map-length}

-- a byte of a spelling that isn't the last
IsContinued : List ℕ → ℕ → Type 0
IsContinued bytes i = (128 ≤ get_or bytes i 0) × (get_or bytes i 0 < 256)

-- what makes bytes a spelling of their value
AreSpelling : List ℕ → Type 0
AreSpelling bytes =
    (0 < length bytes) × ((length bytes ≤ 10)
    × (((i : ℕ) → i < length bytes - 1 → IsContinued bytes i)
    × ((get_or bytes (length bytes - 1) 0 < 128) × (spelled_value bytes < 2 ^ 64))))

spelling_from : (bytes : List ℕ) → AreSpelling bytes → Spells (spelled_value bytes) bytes
unfolding AreSpelling IsContinued
spelling_from bytes (some, (few, (continued, (ended, fits)))) = record {
  some = some;
  at_most_ten = few;
  continued = λ i h. continued i (omega arith);
  ended = ended;
  value_is = refl;
  fits = fits;
}

from_spelling : (bytes : List ℕ) → Spells (spelled_value bytes) bytes → AreSpelling bytes
unfolding AreSpelling IsContinued
from_spelling bytes s = (s.some, (s.at_most_ten, (λ i h. s.continued i (omega arith), (s.ended, s.fits))))

-- whether bytes are a spelling
spelling_decided : (bytes : List ℕ) → IsDecided (Spells (spelled_value bytes) bytes)
unfolding AreSpelling IsContinued
spelling_decided bytes =
    same_decided (AreSpelling bytes) (Spells (spelled_value bytes) bytes) (spelling_from bytes) (from_spelling bytes)
    (both _ _ (less_decided 0 (length bytes))
    (both _ _ (at_most_decided (length bytes) 10)
    (both _ _ (each_below_decided (IsContinued bytes)
    (λ i. both _ _ (at_most_decided 128 (get_or bytes i 0)) (less_decided (get_or bytes i 0) 256))
    (length bytes - 1))
    (both _ _ (less_decided (get_or bytes (length bytes - 1) 0) 128) (less_decided (spelled_value bytes) (2 ^ 64))))))

-- bytes that begin with a spelling
abbrev Begin : List ℕ → Type 0
Begin bytes = (value : ℕ) × (front rest : List ℕ) × (bytes ≡ front ++ rest) × Spells value front

abbrev BeginAt : List ℕ → ℕ → Type 0
BeginAt bytes n = (n ≤ length bytes) × Spells (spelled_value (take n bytes)) (take n bytes)

begin_from : (bytes : List ℕ) → (n : ℕ) × (n < 11) × BeginAt bytes n → Begin bytes
begin_from bytes (n, few, (within, spells)) = (spelled_value (take n bytes), take n bytes, drop n bytes, sym (take-append-drop n bytes), spells)

from_begin : (bytes : List ℕ) → Begin bytes → (n : ℕ) × (n < 11) × BeginAt bytes n
from_begin bytes (value, front, rest, same, spells) =
    let is : front ≡ take (length front) bytes = sym (ap (take (length front)) same ∙ take_at front rest (length front) refl) in
    let least : Spells (spelled_value front) front = subst (λ (v : ℕ). Spells v front) (sym spells.value_is) spells in (
      length front,
      omega (arith, spells.at_most_ten),
      (omega (arith, ap length same, length-append front rest), subst (λ (xs : List ℕ). Spells (spelled_value xs) xs) is least),
    )

begin_decided : (bytes : List ℕ) → IsDecided (Begin bytes)
begin_decided bytes =
    same_decided ((n : ℕ) × (n < 11) × BeginAt bytes n) (Begin bytes) (begin_from bytes) (from_begin bytes)
    (some_below_decided (BeginAt bytes)
    (λ n. both (n ≤ length bytes) (Spells (spelled_value (take n bytes)) (take n bytes)) (at_most_decided n (length bytes)) (spelling_decided (take n bytes)))
    11)

-- bytes that are spellings one after another
abbrev Row : List ℕ → Type 0
Row bytes = (values : List ℕ) × SpellsEach values bytes

-- behind the first spelling stand the others
row_behind : (b : ℕ) (bytes : List ℕ) → Row (b ∷ bytes)
    → (value : ℕ) × (front rest : List ℕ) × (b ∷ bytes ≡ front ++ rest) × Spells value front × Row rest
row_behind b bytes ([], nothing) = absurd (omega (arith, ap length nothing))
row_behind b bytes (value ∷ values, (front, rest, same, spells, each)) = (value, front, rest, same, spells, (values, each))

rest_is_one : (bytes front rest others more : List ℕ) (v w : ℕ) → Spells v front → Spells w others
    → bytes ≡ front ++ rest → bytes ≡ others ++ more → rest ≡ more
rest_is_one bytes front rest others more v w s t e f =
    let same : front ++ rest ≡ others ++ more = sym e ∙ f in
    let one = spelling_is_one v w front others rest more s t same in
    append_cancel_left front rest more (same ∙ ap (λ (xs : List ℕ). xs ++ more) (sym one.0))

row_decided : (most : ℕ) (bytes : List ℕ) → length bytes ≤ most → IsDecided (Row bytes)
row_decided most [] few = inl ([], refl)
row_decided zero (b ∷ bytes) few = absurd (omega arith)
row_decided (suc most) (b ∷ bytes) few =
    elim (begin_decided (b ∷ bytes)) [
      | inl (value, front, rest, same, spells) ↦
          let shorter : length rest ≤ most = omega (arith, ap length same, length-append front rest, spells.some) in
          elim (row_decided most rest shorter) [
            | inl row ↦ inl (value ∷ row.0, (front, rest, same, spells, row.1))
            | inr none ↦ inr (λ row.
                let h = row_behind b bytes row in
                none (subst Row (sym (rest_is_one (b ∷ bytes) front rest h.1 h.2 value h.0 spells h.4 same h.3)) h.5))
          ]
      | inr none ↦ inr (λ row. let h = row_behind b bytes row in none (h.0, h.1, h.2, h.3, h.4))
    ]

-- a list cut into parts of these lengths
cut : List ℕ → List ℕ → List (List ℕ)
cut [] bytes = []
cut (value ∷ values) bytes = take value bytes ∷ cut values (drop value bytes)

length-cut : (values bytes : List ℕ) → sum values ≡ length bytes → map length (cut values bytes) ≡ values
unfolding cut
length-cut [] bytes whole = refl
length-cut (value ∷ values) bytes whole =
    let parts : sum (value ∷ values) ≡ value + sum values = sum_by-cons (λ (n : ℕ). n) value values in
    let front : length (take value bytes) ≡ value = length-take-le value bytes (omega arith) in
    let rest : map length (cut values (drop value bytes)) ≡ values =
    length-cut values (drop value bytes) (omega (arith, length-drop value bytes)) in
    ap (λ (n : ℕ). n ∷ map length (cut values (drop value bytes))) front ∙ ap (λ (ns : List ℕ). value ∷ ns) rest

concat-cut : (values bytes : List ℕ) → sum values ≡ length bytes → concat (cut values bytes) ≡ bytes
unfolding cut
concat-cut [] bytes whole = sym (nil_from_length bytes (sym whole))
concat-cut (value ∷ values) bytes whole =
    let parts : sum (value ∷ values) ≡ value + sum values = sum_by-cons (λ (n : ℕ). n) value values in
    ap (λ (xs : List ℕ). take value bytes ++ xs) (concat-cut values (drop value bytes) (omega (arith, length-drop value bytes)))
    ∙ take-append-drop value bytes

length-cut-count : (values bytes : List ℕ) → length (cut values bytes) ≡ length values
unfolding cut
length-cut-count [] bytes = refl
length-cut-count (value ∷ values) bytes = ap suc (length-cut-count values (drop value bytes))

-- sizes that say how the bytes behind them are cut
abbrev AreSizes : (num_records decoded_size : ℕ) → (values body : List ℕ) → Type 0
AreSizes n d values body = (sum values ≡ length body) × ((n ≡ length values) × (d ≡ sum values))

-- so many bytes of sizes, and the records behind them
abbrev Content : (num_records decoded_size size : ℕ) → List ℕ → Type 0
Content n d size rest =
    (size ≤ length rest) × ((values : List ℕ) × SpellsEach values (take size rest) × AreSizes n d values (drop size rest))

sizes_decided : (n d : ℕ) (values body : List ℕ) → IsDecided (AreSizes n d values body)
sizes_decided n d values body =
    both _ _ (equal_decided (sum values) (length body)) (both _ _ (equal_decided n (length values)) (equal_decided d (sum values)))

content_decided : (n d size : ℕ) (rest : List ℕ) → IsDecided (Content n d size rest)
content_decided n d size rest =
    elim (at_most_decided size (length rest)) [
      | inr large ↦ inr (λ content. large content.0)
      | inl within ↦ elim (row_decided (length (take size rest)) (take size rest) (omega arith)) [
        | inr none ↦ inr (λ content. none (content.1.0, content.1.1))
        | inl row ↦ elim (sizes_decided n d row.0 (drop size rest)) [
          | inl sizes ↦ inl (within, (row.0, row.1, sizes))
          | inr wrong ↦ inr (λ content.
              wrong (subst (λ (values : List ℕ). AreSizes n d values (drop size rest))
              (spellings_are_one content.1.0 row.0 (take size rest) content.1.1 row.1) content.1.2))
        ]
      ]
    ]

-- data that begins with a compression type of 0 and a spelling, by what stands behind it
records_from : (k : ChunkValue) (tail : List ℕ) (size : ℕ) (front rest : List ℕ)
    → k.kind ≡ simple_kind → k.«data» ≡ 0 ∷ tail → tail ≡ front ++ rest → Spells size front
    → Content k.num_records k.decoded_size size rest → IsSimpleChunk k
records_from k tail size front rest kind begins same spells (within, (values, each, (whole, (count, decoded)))) =
    let body : List ℕ = drop size rest in
    let records : List (List ℕ) = cut values body in
    let lengths : map length records ≡ values = length-cut values body whole in
    let taken : length (take size rest) ≡ size = length-take-le size rest within in (
      records,
      record {
        kind = kind;
        num_records = count ∙ sym (length-cut-count values body);
        decoded_size = decoded ∙ ap sum (sym lengths);
        spelled_size = front;
        sizes = take size rest;
        spells_size = subst (λ (n : ℕ). Spells n front) (sym taken) spells;
        spells_each = subst (λ (ns : List ℕ). SpellsEach ns (take size rest)) (sym lengths) each;
        «data» = begins
            ∙ ap (λ (xs : List ℕ). 0 ∷ xs) (same
            ∙ ap (λ (xs : List ℕ). front ++ xs) (sym (take-append-drop size rest))
            ∙ sym (append_assoc front (take size rest) body)
            ∙ ap (λ (xs : List ℕ). (front ++ take size rest) ++ xs) (sym (concat-cut values body whole)));
      },
    )

content_from : (k : ChunkValue) (tail : List ℕ) (size : ℕ) (front rest : List ℕ) (records : List (List ℕ))
    → k.«data» ≡ 0 ∷ tail → tail ≡ front ++ rest → Spells size front → IsSimple k records
    → Content k.num_records k.decoded_size size rest
content_from k tail size front rest records begins same spells simple =
    let own : tail ≡ simple.spelled_size ++ (simple.sizes ++ concat records) =
    ap (drop 1) (sym begins ∙ simple.«data») ∙ append_assoc simple.spelled_size simple.sizes (concat records) in
    let one = spelling_is_one size (length simple.sizes) front simple.spelled_size rest (simple.sizes ++ concat records) spells simple.spells_size (sym same ∙ own) in
    let behind : rest ≡ simple.sizes ++ concat records =
    rest_is_one tail front rest simple.spelled_size (simple.sizes ++ concat records) size (length simple.sizes) spells simple.spells_size same own in
    let sizes : take size rest ≡ simple.sizes = ap (take size) behind ∙ take_at simple.sizes (concat records) size (sym one.1) in
    let body : drop size rest ≡ concat records = ap (drop size) behind ∙ drop_at simple.sizes (concat records) size (sym one.1) in (
      omega (arith, ap length behind, length-append simple.sizes (concat records), one.1),
      (
        map length records,
        subst (λ (xs : List ℕ). SpellsEach (map length records) xs) (sym sizes) simple.spells_each,
        (
          sum-map-length records ∙ ap length (sym body),
          (simple.num_records ∙ sym (length-map records (length {A = ℕ})), simple.decoded_size),
        ),
      ),
    )

-- whether a chunk holds records
data_decided : (k : ChunkValue) (bytes : List ℕ) → k.«data» ≡ bytes → k.kind ≡ simple_kind → IsDecided (IsSimpleChunk k)
data_decided k [] is kind = inr (λ has. omega (arith, ap length (sym has.1.«data» ∙ is)))
data_decided k (b ∷ tail) is kind =
    elim (equal_decided b 0) [
      | inr compressed ↦ inr (λ has. compressed (ap (λ (xs : List ℕ). get_or xs 0 0) (sym is ∙ has.1.«data»)))
      | inl plain ↦
          let begins : k.«data» ≡ 0 ∷ tail = is ∙ ap (λ (x : ℕ). x ∷ tail) plain in
          elim (begin_decided tail) [
            | inr none ↦ inr (λ has. none (
              length has.1.sizes,
              has.1.spelled_size,
              has.1.sizes ++ concat has.0,
              ap (drop 1) (sym begins ∙ has.1.«data») ∙ append_assoc has.1.spelled_size has.1.sizes (concat has.0),
              has.1.spells_size,
            ))
            | inl (size, front, rest, same, spells) ↦
                same_decided (Content k.num_records k.decoded_size size rest) (IsSimpleChunk k)
                (records_from k tail size front rest kind begins same spells)
                (λ has. content_from k tail size front rest has.0 begins same spells has.1)
                (content_decided k.num_records k.decoded_size size rest)
          ]
    ]

pub records_decided : (k : ChunkValue) → IsDecided (IsSimpleChunk k)
records_decided k =
    elim (equal_decided k.kind simple_kind) [
      | inl simple ↦ data_decided k k.«data» refl simple
      | inr other ↦ inr (λ has. other has.1.kind)
    ]
