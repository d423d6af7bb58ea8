-- The parts of data, and the records that stand in it.
use Rattle.std.proofs.Common.{◌≡◌, ◌≢◌, ℕ, suc, ◌+◌, ◌-◌, ◌≤◌, List, [], ◌∷◌, ◌++◌, length, take, drop, refl, sym, ap, ◌∙◌, arith, subst}
use Rattle.std.specs.Prelude.{map, sum}
use Rattle.std.specs.List.{concat}
use Rattle.std.proofs.lemmas.List.{length-append, length-map, append_assoc, append_cancel_left, take_at, drop_at, length-take-le, length-drop, take-append-drop}
use Rattle.std.proofs.lemmas.List.Sums.{sum_by-cons}
use Rattle.varint_wire.specs.Varint.{Spells, SpellsEach}
use Rattle.varint_wire.proofs.Spellings.{spelling_is_one}
use Rattle.chunk_header.specs.Chunks.{ChunkValue}
use Rattle.chunk_header.specs.Kinds.{simple_kind}
use Rattle.chunk_header.specs.SimpleChunks.{IsSimple, IsSimpleChunk}
use Rattle.chunk_header.proofs.SimpleChunks.{sum-map-length}
use Rattle.simple_chunk.proofs.Parts.{AreEnds-le, length-parts_from}
use Rattle.simple_chunk.proofs.RecordLists.{concat-parts_from}
use Rattle.simple_chunk.specs.Records.{parts_from, AreEnds, sizes_between}
use Rattle.simple_chunk.specs.Sizes.{AreSizes, AreParts, IsSplit}

-- a simple chunk's records are what its sizes say
simple_parts : (k : ChunkValue) (records : List (List ℕ)) (is : IsSimple k records) → AreParts k.«data» is.sizes (concat records)
simple_parts k records is = record { spelled_size = is.spelled_size; spells_size = is.spells_size; joined = is.«data» }

-- data has its parts in one way
pub parts_are_one : (bytes sizes values sizes' values' : List ℕ) → AreParts bytes sizes values → AreParts bytes sizes' values'
    → (sizes ≡ sizes') × (values ≡ values')
parts_are_one bytes sizes values sizes' values' p q =
    let same : p.spelled_size ++ (sizes ++ values) ≡ q.spelled_size ++ (sizes' ++ values') =
    sym (append_assoc p.spelled_size sizes values) ∙ ap (drop 1) (sym p.joined ∙ q.joined) ∙ append_assoc q.spelled_size sizes' values' in
    let size = spelling_is_one (length sizes) (length sizes') p.spelled_size q.spelled_size (sizes ++ values) (sizes' ++ values') p.spells_size q.spells_size same in
    let behind : sizes ++ values ≡ sizes' ++ values' = append_cancel_left p.spelled_size (sizes ++ values) (sizes' ++ values')
    (same ∙ ap (λ (xs : List ℕ). xs ++ (sizes' ++ values')) (sym size.0)) in
    let front : sizes ≡ sizes' = sym (take_at sizes values (length sizes) refl) ∙ ap (take (length sizes)) behind ∙ take_at sizes' values' (length sizes) (sym size.1) in
    (front, append_cancel_left sizes values values' (behind ∙ ap (λ (xs : List ℕ). xs ++ values') (sym front)))

-- the sizes and the values stand behind a spelling of how many bytes the sizes take
pub Parts-split : (first : ℕ) (rest bytes sizes values : List ℕ) → bytes ≡ first ∷ rest → AreParts bytes sizes values
    → IsSplit (length sizes) (sizes ++ values) rest
Parts-split first rest bytes sizes values e p = record {
  front = p.spelled_size;
  spells = p.spells_size;
  joined = ap (drop 1) (sym e ∙ p.joined) ∙ append_assoc p.spelled_size sizes values;
}

-- so behind a spelling there are as many bytes as it says at least
pub Parts-long : (first size : ℕ) (behind rest bytes sizes values : List ℕ) → bytes ≡ first ∷ rest → IsSplit size behind rest
    → AreParts bytes sizes values → size ≤ length behind
Parts-long first size behind rest bytes sizes values e split p =
    let other = Parts-split first rest bytes sizes values e p in
    let one = spelling_is_one size (length sizes) split.front other.front behind (sizes ++ values) split.spells other.spells (sym split.joined ∙ other.joined) in
    let same : behind ≡ sizes ++ values = append_cancel_left split.front behind (sizes ++ values)
    (sym split.joined ∙ other.joined ∙ ap (λ (xs : List ℕ). xs ++ (sizes ++ values)) (sym one.0)) in
    omega (arith, one.1, ap length same, length-append sizes values)

-- behind a spelling, the sizes are as many bytes as it says, and the values the bytes behind them
pub parts_at : (len : ℕ) (bytes spelled rest : List ℕ) → Spells len spelled → len ≤ length rest → bytes ≡ 0 ∷ (spelled ++ rest)
    → AreParts bytes (take len rest) (drop len rest)
parts_at len bytes spelled rest s long is =
    let many : length (take len rest) ≡ len = length-take-le len rest long in
    record {
      spelled_size = spelled;
      spells_size = subst (λ (n : ℕ). Spells n spelled) (sym many) s;
      joined = is
          ∙ ap (λ (xs : List ℕ). 0 ∷ (spelled ++ xs)) (sym (take-append-drop len rest))
          ∙ ap (λ (xs : List ℕ). 0 ∷ xs) (sym (append_assoc spelled (take len rest) (drop len rest)));
    }

-- what the parts of a chunk's data are where records stand in it
pub record Holding (k : ChunkValue) (sizes values : List ℕ) : Type 0 where
  pub size : k.decoded_size ≡ length values
  pub sizes_are : AreSizes k.num_records k.decoded_size sizes

pub Holding-IsSimpleChunk : (k : ChunkValue) (sizes values : List ℕ) → AreParts k.«data» sizes values → IsSimpleChunk k → Holding k sizes values
Holding-IsSimpleChunk k sizes values p (records, is) =
    let one = parts_are_one k.«data» is.sizes (concat records) sizes values (simple_parts k records is) p in
    record {
      size = is.decoded_size ∙ sum-map-length records ∙ ap length one.1;
      sizes_are = record {
        sizes = map length records;
        many = length-map records length ∙ sym is.num_records;
        together = sym is.decoded_size;
        spells = subst (SpellsEach (map length records)) one.0 is.spells_each;
      };
    }

-- data without such parts has no records
pub none-unparted : (k : ChunkValue) → ((sizes values : List ℕ) → ¬ AreParts k.«data» sizes values) → ¬ IsSimpleChunk k
none-unparted k unparted = λ (records, is). unparted is.sizes (concat records) (simple_parts k records is)

-- the values stand behind all else
pub values-behind : (bytes sizes values : List ℕ) → AreParts bytes sizes values → drop (length bytes - length values) bytes ≡ values
values-behind bytes sizes values p =
    let front : List ℕ = 0 ∷ (p.spelled_size ++ sizes) in
    let joined : bytes ≡ front ++ values = p.joined in
    let begin = length bytes - length values in
    ap (drop begin) joined ∙ drop_at front values begin (omega (arith, ap length joined, length-append front values))

-- data of such parts has no records where the values are not as many as the header says, or the sizes are not
pub none-sized : (k : ChunkValue) (sizes values : List ℕ) → AreParts k.«data» sizes values → length values ≢ k.decoded_size → ¬ IsSimpleChunk k
none-sized k sizes values p other = λ h. other (sym (Holding-IsSimpleChunk k sizes values p h).size)

pub none-spelled : (k : ChunkValue) (sizes values : List ℕ) → AreParts k.«data» sizes values → length values ≡ k.decoded_size
    → ¬ AreSizes k.num_records (length values) sizes → ¬ IsSimpleChunk k
none-spelled k sizes values p whole other = λ h. other (rw whole (Holding-IsSimpleChunk k sizes values p h).sizes_are)

-- so many bytes lie between the begin and the end of each record
map-length-parts_from : (begin : ℕ) (ends values : List ℕ) → AreEnds begin ends (length values)
    → map length (parts_from begin ends values) ≡ sizes_between begin ends
map-length-parts_from begin [] values h = refl
map-length-parts_from begin (end ∷ ends) values h =
    let within = AreEnds-le end ends (length values) h.1 in
    let size : length (take (end - begin) (drop begin values)) ≡ end - begin =
    length-take-le (end - begin) (drop begin values) (omega (arith, length-drop begin values, h.0)) in
    cc (size, map-length-parts_from end ends values h.1)

-- the records that end at the places which the sizes make are the chunk's
pub IsSimple-ends : (k : ChunkValue) (sizes values ends : List ℕ) → k.kind ≡ simple_kind → AreParts k.«data» sizes values
    → length values ≡ k.decoded_size → AreEnds 0 ends (length values) → length ends ≡ k.num_records
    → SpellsEach (sizes_between 0 ends) sizes → IsSimple k (parts_from 0 ends values)
IsSimple-ends k sizes values ends kind p whole ended counted spelled =
    let joined : concat (parts_from 0 ends values) ≡ values = concat-parts_from 0 ends values ended in
    record {
      kind = kind;
      num_records = sym (length-parts_from 0 ends values ∙ counted);
      decoded_size = sym (sum-map-length (parts_from 0 ends values) ∙ ap length joined ∙ whole);
      spelled_size = p.spelled_size;
      sizes = sizes;
      spells_size = p.spells_size;
      spells_each = subst (λ (xs : List ℕ). SpellsEach xs sizes) (sym (map-length-parts_from 0 ends values ended)) spelled;
      «data» = p.joined ∙ ap (λ (xs : List ℕ). 0 ∷ p.spelled_size ++ sizes ++ xs) (sym joined);
    }

-- the places where records of these sizes end
ends_of : ℕ → List ℕ → List ℕ
ends_of begin [] = []
ends_of begin (size ∷ sizes) = (begin + size) ∷ ends_of (begin + size) sizes

AreEnds-ends_of : (begin : ℕ) (sizes : List ℕ) (whole : ℕ) → begin + sum sizes ≡ whole → AreEnds begin (ends_of begin sizes) whole
unfolding ends_of
AreEnds-ends_of begin [] whole is = omega arith
AreEnds-ends_of begin (size ∷ sizes) whole is =
    (omega arith, AreEnds-ends_of (begin + size) sizes whole (omega (arith, sum_by-cons (λ (n : ℕ). n) size sizes)))

length-ends_of : (begin : ℕ) (sizes : List ℕ) → length (ends_of begin sizes) ≡ length sizes
unfolding ends_of
length-ends_of begin [] = refl
length-ends_of begin (size ∷ sizes) = ap suc (length-ends_of (begin + size) sizes)

sizes_between-ends_of : (begin : ℕ) (sizes : List ℕ) → sizes_between begin (ends_of begin sizes) ≡ sizes
unfolding ends_of
sizes_between-ends_of begin [] = refl
sizes_between-ends_of begin (size ∷ sizes) =
    let first : begin + size - begin ≡ size = omega arith in
    cc (first, sizes_between-ends_of (begin + size) sizes)

-- so records stand in data of such parts exactly where they hold these sizes and values
pub IsSimpleChunk-parts : (k : ChunkValue) (sizes values : List ℕ) → k.kind ≡ simple_kind → AreParts k.«data» sizes values
    → length values ≡ k.decoded_size → AreSizes k.num_records k.decoded_size sizes → IsSimpleChunk k
IsSimpleChunk-parts k sizes values kind p whole h =
    let ends : List ℕ = ends_of 0 h.sizes in (
      parts_from 0 ends values,
      IsSimple-ends k sizes values ends kind p whole
          (AreEnds-ends_of 0 h.sizes (length values) (omega (arith, h.together)))
          (length-ends_of 0 h.sizes ∙ h.many)
          (subst (λ (xs : List ℕ). SpellsEach xs sizes) (sym (sizes_between-ends_of 0 h.sizes)) h.spells),
    )

-- and behind a spelling of how many bytes the sizes take there are as many
pub IsSimpleChunk-long : (k : ChunkValue) (len : ℕ) (behind rest : List ℕ) → k.«data» ≡ 0 ∷ rest → IsSplit len behind rest → IsSimpleChunk k → len ≤ length behind
IsSimpleChunk-long k len behind rest is split (records, simple) =
    Parts-long 0 len behind rest k.«data» simple.sizes (concat records) is split (simple_parts k records simple)
