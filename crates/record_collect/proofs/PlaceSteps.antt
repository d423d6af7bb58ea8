-- Chunks of records, counted, and where their records stand.
use Rattle.std.proofs.Common.{◌≡◌, ◌∙◌, ℕ, zero, suc, ◌+◌, ◌*◌, ◌^◌, ◌≤◌, Bool, true, false, not, ◌&&◌, ◌||◌, Some, None, List, [], ◌∷◌, ◌++◌, length, map, drop, take, ltb, refl, sym, ap, subst, inl, inr, arith}
use Rattle.std.proofs.Math.Dec.{eqb}
use Rattle.std.specs.List.{concat, enumerate_from, flat_map, range_with_len, slice_get}
use Rattle.std.proofs.lemmas.Bool.{cond_both, cond-true, cond-false, cases_lt, eqb-true, eq-eqb}
use Rattle.std.proofs.lemmas.List.{append_assoc, append-nil, drop_more, length-append, take_more}
use Rattle.std.proofs.lemmas.List.Sums.{sum_by-cons}
use Rattle.std.proofs.lemmas.Option.{slice_get_within, get_or_from_slice_get}
use Rattle.varint_wire.specs.Varint.{shortest}
use Rattle.varint_wire.proofs.Spellings.{length-shortest}
use Rattle.block_layout.specs.Layout.{IsBoundary, chunk_end_of, end_of}
use Rattle.block_layout.proofs.Ends.{end_of-some}
use Rattle.block_layout.proofs.ChunkEnds.{chunk_end_of-few_records, chunk_end_of_boundary}
use Rattle.chunk_header.specs.Chunks.{ChunkValue}
use Rattle.chunk_header.specs.SimpleChunks.{simple_chunk, sizes_of}
use Rattle.chunk_header.proofs.SimpleChunks.{length-simple_data}
use Rattle.simple_chunk.specs.Costs.{cost, cost_of}
use Rattle.simple_chunk.proofs.CostLemmas.{cost_of-is}
use Rattle.meta_chunk.specs.Files.{placed_from, ArePlaced, signature}
use Rattle.meta_chunk.specs.Laid.{end_of_chunk}
use Rattle.record_group.specs.declared.pad.Pad.TheVariants.{No}
use Rattle.record_group.specs.Groups.{chunks_of, closes_before, groups, groups_after}
use Rattle.record_group.specs.HeldLists.{lists_held}
use Rattle.record_group.specs.Records.{AreRecords}
use Rattle.record_group.proofs.Grouping.{joined-groups}
use Rattle.record_group.proofs.RecordFiles.{HoldEach-chunks_of}
use Rattle.record_group.proofs.Signed.{end_of_chunk-signature}
use Rattle.record_collect.specs.declared.file_places.OpenChunk.{OpenChunk}
use Rattle.record_collect.specs.FilePlaces.{placed_in_file, places_in_file}
use Rattle.record_collect.specs.OpenChunks.{IsSound, PlacesOn, closes, end_of_open, next_place, opened_at, places_from, reach, ready_for, with_record}

-- bytes end near their begin: less than two block headers, and one more for each block's bytes, lie between
end_of-near : (begin size : ℕ) → 1 ≤ size → end_of begin size ≤ begin + 2 * size + 48
end_of-near begin size some = omega (arith, end_of-some begin size some)

-- a chunk of a record ends within its reach, at a boundary
pub end_near : (chunk : OpenChunk) → IsSound chunk → 1 ≤ chunk.records → end_of_open chunk ≤ reach chunk
end_near chunk sound some =
    let size : ℕ = 40 + (1 + length (shortest chunk.sizes) + chunk.sizes + chunk.values) in
    let few : end_of_open chunk ≡ end_of chunk.begin size = chunk_end_of-few_records chunk.begin size chunk.records (omega arith) (omega (arith, sound.some)) in
    omega (arith, few, end_of-near chunk.begin size (omega arith), length-shortest chunk.sizes, sound.few)

pub end_boundary : (chunk : OpenChunk) → IsBoundary (end_of_open chunk)
end_boundary chunk = chunk_end_of_boundary chunk.begin (40 + (1 + length (shortest chunk.sizes) + chunk.sizes + chunk.values)) chunk.records

pub sound_opened : (begin : ℕ) → IsBoundary begin → IsSound (opened_at begin)
sound_opened begin boundary = record { boundary = boundary; some = omega arith; few = omega arith }

pub sound_more : (len : ℕ) (chunk : OpenChunk) → IsSound chunk → IsSound (with_record len chunk)
sound_more len chunk sound =
    record {
      boundary = sound.boundary;
      some = omega (arith, sound.some, length-shortest len);
      few = omega (arith, sound.few, length-shortest len);
    }

pub sound_first : IsSound (opened_at 64)
sound_first = sound_opened 64 (inr (omega arith))

pub sizes_small : (chunk : OpenChunk) → IsSound chunk → chunk.sizes ≤ reach chunk
sizes_small chunk sound = omega (arith, sound.few)

-- a chunk that closes has a record
pub closes_some : (size len : ℕ) (chunk : OpenChunk) → closes size len chunk ≡ true → 1 ≤ chunk.records
closes_some size len chunk is =
    elim (cases_lt 0 chunk.records) [
      | inl some ↦ omega arith
      | inr none ↦
          let empty : eqb chunk.records 0 ≡ true = eq-eqb chunk.records 0 (omega arith) in
          let stays : closes size len chunk ≡ false = ap (λ (b : Bool). not b && ltb size (chunk.values + 8 * chunk.records + (len + 8))) empty in
          let no : false ≡ true = sym stays ∙ is in
          cc
    ]

-- a group, counted
abbrev pub counted : ℕ → List (List ℕ) → OpenChunk
counted begin group = record { begin = begin; records = length group; sizes = length (sizes_of group); values = length (concat group) }

counted-more : (begin : ℕ) (group : List (List ℕ)) (r : List ℕ) → counted begin (group ++ r ∷ []) ≡ with_record (length r) (counted begin group)
counted-more begin group r =
    let count : length (group ++ r ∷ []) ≡ length group + 1 = length-append group (r ∷ []) in
    let sizes : length (sizes_of (group ++ r ∷ [])) ≡ length (sizes_of group) + length (shortest (length r)) = length-sizes_more group r in
    let values : length (concat (group ++ r ∷ [])) ≡ length (concat group) + length r = length-values_more group r in
    ap (λ (n : ℕ). let c : OpenChunk = record { begin = begin; records = n; sizes = length (sizes_of (group ++ r ∷ [])); values = length (concat (group ++ r ∷ [])) } in c) count
    ∙ ap (λ (n : ℕ). let c : OpenChunk = record { begin = begin; records = length group + 1; sizes = n; values = length (concat (group ++ r ∷ [])) } in c) sizes
    ∙ ap (λ (n : ℕ). let c : OpenChunk = record { begin = begin; records = length group + 1; sizes = length (sizes_of group) + length (shortest (length r)); values = n } in c) values
  where
    length-sizes_more : (group : List (List ℕ)) (r : List ℕ) → length (sizes_of (group ++ r ∷ [])) ≡ length (sizes_of group) + length (shortest (length r))
    length-sizes_more [] r = omega (arith, length-append (shortest (length r)) [])
    length-sizes_more (s ∷ group) r = omega (arith, length-append (shortest (length s)) (sizes_of (group ++ r ∷ [])), length-append (shortest (length s)) (sizes_of group), length-sizes_more group r)

    length-values_more : (group : List (List ℕ)) (r : List ℕ) → length (concat (group ++ r ∷ [])) ≡ length (concat group) + length r
    length-values_more [] r = omega (arith, length-append r [])
    length-values_more (s ∷ group) r = omega (arith, length-append s (concat (group ++ r ∷ [])), length-append s (concat group), length-values_more group r)

-- it closes and ends as the group's chunk does
or_false : (b : Bool) → (b || false) ≡ b
or_false true = refl
or_false false = refl

closes-counted : (size begin : ℕ) (group : List (List ℕ)) (r : List ℕ) → closes_before size None group r ≡ closes size (length r) (counted begin group)
closes-counted size begin group r =
    let same : cost_of group ≡ length (concat group) + 8 * length group = cost_of-is group in
    ap (λ (b : Bool). not (eqb (length group) 0) && b) (or_false (ltb size (cost_of group + cost r)))
    ∙ ap (λ (n : ℕ). not (eqb (length group) 0) && ltb size (n + cost r)) same

end-counted : (begin : ℕ) (group : List (List ℕ)) → end_of_open (counted begin group) ≡ end_of_chunk begin (simple_chunk group)
end-counted begin group = sym (ap (λ (n : ℕ). chunk_end_of begin (40 + n) (length group)) (length-simple_data group))

-- the records of a chunk stand at neighbouring positions
positions : (begin : ℕ) (group : List (List ℕ)) → map (λ (placed : ℕ × List ℕ). placed.0) (enumerate_from begin group) ≡ range_with_len begin (length group)
positions begin [] = refl
positions begin (r ∷ group) = ap (λ (l : List ℕ). begin ∷ l) (positions (begin + 1) group)

range_more : (begin n : ℕ) → range_with_len begin (n + 1) ≡ range_with_len begin n ++ (begin + n) ∷ []
range_more begin n =
    let next : n + 1 ≡ suc n = omega arith in
    ap (range_with_len begin) next ∙ range_suc begin n
  where
    range_suc : (begin n : ℕ) → range_with_len begin (suc n) ≡ range_with_len begin n ++ (begin + n) ∷ []
    range_suc begin zero = let e : begin ≡ begin + 0 = omega arith in ap (λ (k : ℕ). k ∷ []) e
    range_suc begin (suc n) = let e : begin + 1 + n ≡ begin + suc n = omega arith in ap (λ (l : List ℕ). begin ∷ l) (range_suc (begin + 1) n ∙ ap (λ (k : ℕ). range_with_len (begin + 1) n ++ k ∷ []) e)

map_both : (f : ℕ × List ℕ → ℕ) (xs ys : List (ℕ × List ℕ)) → map f (xs ++ ys) ≡ map f xs ++ map f ys
map_both f [] ys = refl
map_both f (x ∷ xs) ys = ap (λ (l : List ℕ). f x ∷ l) (map_both f xs ys)

-- the positions of groups' records, and those that the records get one after another
abbrev positions_of : ℕ → List (List (List ℕ)) → List ℕ
positions_of begin gs = map (λ (placed : ℕ × List ℕ). placed.0) (placed_from begin (map simple_chunk gs) gs)

positions-cons : (begin : ℕ) (group : List (List ℕ)) (gs : List (List (List ℕ)))
    → positions_of begin (group ∷ gs) ≡ range_with_len begin (length group) ++ positions_of (end_of_chunk begin (simple_chunk group)) gs
positions-cons begin group gs =
    map_both (λ (placed : ℕ × List ℕ). placed.0) (enumerate_from begin group) (placed_from (end_of_chunk begin (simple_chunk group)) (map simple_chunk gs) gs)
    ∙ ap (λ (l : List ℕ). l ++ positions_of (end_of_chunk begin (simple_chunk group)) gs) (positions begin group)

pub places_after : (size begin : ℕ) (group records : List (List ℕ))
    → positions_of begin (groups_after size None group records) ≡ range_with_len begin (length group) ++ places_from size (counted begin group) records
places_after size begin group [] =
    cond_both (eqb (length group) 0) [] (group ∷ []) (λ gs. positions_of begin gs ≡ range_with_len begin (length group) ++ [])
    (λ e. ap (λ (n : ℕ). range_with_len begin n ++ []) (sym (eqb-true (length group) 0 e)))
    (λ _. positions-cons begin group [])
places_after size begin group (r ∷ rs) =
    let end : ℕ = end_of_chunk begin (simple_chunk group) in
    let chunk : OpenChunk = counted begin group in
    let Goes : List (List (List ℕ)) → OpenChunk → Type 0 = λ gs ready. positions_of begin gs ≡ range_with_len begin (length group) ++ (next_place ready ∷ places_from size (with_record (length r) ready) rs) in
    let closed : Goes (group ∷ groups_after size None (r ∷ []) rs) (opened_at end) =
    positions-cons begin group (groups_after size None (r ∷ []) rs)
    ∙ ap (λ (l : List ℕ). range_with_len begin (length group) ++ l) (places_after size end (r ∷ []) rs ∙ first end r rs) in
    let stays : Goes (groups_after size None (group ++ r ∷ []) rs) chunk =
    places_after size begin (group ++ r ∷ []) rs
    ∙ ap (λ (n : ℕ). range_with_len begin n ++ places_from size (counted begin (group ++ r ∷ [])) rs) (length-append group (r ∷ []))
    ∙ ap (λ (l : List ℕ). l ++ places_from size (counted begin (group ++ r ∷ [])) rs) (range_more begin (length group))
    ∙ append_assoc (range_with_len begin (length group)) ((begin + length group) ∷ []) (places_from size (counted begin (group ++ r ∷ [])) rs)
    ∙ ap (λ (c : OpenChunk). range_with_len begin (length group) ++ ((begin + length group) ∷ places_from size c rs)) (counted-more begin group r) in
    cond_both (closes_before size None group r) _ _ (λ gs. Goes gs (ready_for size (length r) chunk))
    (λ yes.
    let ready : ready_for size (length r) chunk ≡ opened_at end =
    cond-true (closes size (length r) chunk) _ _ (sym (closes-counted size begin group r) ∙ yes) ∙ ap opened_at (end-counted begin group) in
    subst (Goes (group ∷ groups_after size None (r ∷ []) rs)) (sym ready) closed)
    (λ no.
    let ready : ready_for size (length r) chunk ≡ chunk = cond-false (closes size (length r) chunk) _ _ (sym (closes-counted size begin group r) ∙ no) in
    subst (Goes (groups_after size None (group ++ r ∷ []) rs)) (sym ready) stays)
  where
    first : (end : ℕ) (r : List ℕ) (rs : List (List ℕ)) → range_with_len end 1 ++ places_from size (counted end (r ∷ [])) rs ≡ next_place (opened_at end) ∷ places_from size (with_record (length r) (opened_at end)) rs
    first end r rs =
        let here : end ≡ end + 0 = omega arith in
        ap (λ (n : ℕ). n ∷ places_from size (counted end (r ∷ [])) rs) here
        ∙ ap (λ (c : OpenChunk). (end + 0) ∷ places_from size c rs) (counted-more end [] r)

groups-after : (records : List (List ℕ)) (size : ℕ) → groups records size None ≡ groups_after size None [] records
unfolding groups
groups-after records size = refl

-- so the positions in the file are those that the records get from its first chunk on
pub places_are : (records : List (List ℕ)) (size : ℕ) → places_from size (opened_at 64) records ≡ places_in_file records size
places_are records size =
    let begin : ℕ = end_of_chunk 0 signature in
    sym (ap (positions_of begin) (groups-after records size)
    ∙ places_after size begin [] records
    ∙ ap (λ (n : ℕ). places_from size (opened_at n) records) end_of_chunk-signature)

-- they are the positions of the file's records
pub are_placed : (records : List (List ℕ)) (size : ℕ) → AreRecords records → size ≤ 2 ^ 24 → ArePlaced (chunks_of records size None No) (placed_in_file records size)
are_placed records size each small =
    let begin : ℕ = end_of_chunk 0 signature in
    let gs : List (List (List ℕ)) = groups records size None in (
      [] ∷ lists_held begin records size None No,
      HoldEach-chunks_of records size None No each small,
      ap (λ (ks : List ChunkValue). placed_from begin ks gs) (sym (append-nil (map simple_chunk gs))) ∙ ap (placed_from begin (map simple_chunk gs ++ [])) (sym (append-nil gs)),
    )

records_in : (begin : ℕ) (gs : List (List (List ℕ))) → map (λ (placed : ℕ × List ℕ). placed.1) (placed_from begin (map simple_chunk gs) gs) ≡ flat_map (λ group. group) gs
records_in begin [] = refl
records_in begin (group ∷ gs) =
    let end : ℕ = end_of_chunk begin (simple_chunk group) in
    joined (enumerate_from begin group) (placed_from end (map simple_chunk gs) gs)
    ∙ ap (λ (l : List (List ℕ)). l ++ map (λ (placed : ℕ × List ℕ). placed.1) (placed_from end (map simple_chunk gs) gs)) (alone begin group)
    ∙ ap (λ (l : List (List ℕ)). group ++ l) (records_in end gs)
  where
    alone : (n : ℕ) (group : List (List ℕ)) → map (λ (placed : ℕ × List ℕ). placed.1) (enumerate_from n group) ≡ group
    alone n [] = refl
    alone n (r ∷ group) = ap (λ (l : List (List ℕ)). r ∷ l) (alone (n + 1) group)

    joined : (xs ys : List (ℕ × List ℕ)) → map (λ (placed : ℕ × List ℕ). placed.1) (xs ++ ys) ≡ map (λ (placed : ℕ × List ℕ). placed.1) xs ++ map (λ (placed : ℕ × List ℕ). placed.1) ys
    joined [] ys = refl
    joined (x ∷ xs) ys = ap (λ (l : List (List ℕ)). x.1 ∷ l) (joined xs ys)

pub records_placed : (records : List (List ℕ)) (size : ℕ) → map (λ (placed : ℕ × List ℕ). placed.1) (placed_in_file records size) ≡ records
records_placed records size = records_in (end_of_chunk 0 signature) (groups records size None) ∙ joined-groups records size None

-- the next of some records
pub rest_more : (records : List (List ℕ)) (i : ℕ) (r : List ℕ) → slice_get records i ≡ Some r → drop i records ≡ r ∷ drop (i + 1) records
rest_more records i r is =
    drop_more records i r (slice_get_within records i r is)
    ∙ ap (λ (first : List ℕ). first ∷ drop (i + 1) records) (get_or_from_slice_get records i r r is)

pub cost_more : (records : List (List ℕ)) (i : ℕ) (r : List ℕ) → slice_get records i ≡ Some r → cost_of (drop i records) ≡ cost r + cost_of (drop (i + 1) records)
cost_more records i r is = ap cost_of (rest_more records i r is) ∙ sum_by-cons cost r (drop (i + 1) records)

-- one more position, and those that the rest will get
pub items_more : (size : ℕ) (chunk : OpenChunk) (records : List (List ℕ)) (i : ℕ) (r : List ℕ) (done : List ℕ) → slice_get records i ≡ Some r
    → (done ++ next_place (ready_for size (length r) chunk) ∷ []) ++ places_from size (with_record (length r) (ready_for size (length r) chunk)) (drop (i + 1) records)
    ≡ done ++ places_from size chunk (drop i records)
items_more size chunk records i r done is =
    let ready : OpenChunk = ready_for size (length r) chunk in
    append_assoc done (next_place ready ∷ []) (places_from size (with_record (length r) ready) (drop (i + 1) records))
    ∙ ap (λ (rest : List (List ℕ)). done ++ places_from size chunk rest) (sym (rest_more records i r is))

-- records and those behind them
pub places_on_then : (size : ℕ) (a b c : OpenChunk) (x y z : List ℕ) (records more : List (List ℕ)) → PlacesOn size a x records b y → PlacesOn size b y more c z
    → PlacesOn size a x (records ++ more) c z
places_on_then size a b c x y z records more h g = record {
  all = λ later.
      g.all later
      ∙ h.all (more ++ later)
      ∙ ap (λ (rs : List (List ℕ)). x ++ places_from size a rs) (sym (append_assoc records more later));
}

-- all of them from the first chunk on are those of the file
pub places_on_file : (size : ℕ) (chunk : OpenChunk) (places : List ℕ) (records : List (List ℕ)) → PlacesOn size (opened_at 64) [] records chunk places
    → places ≡ places_in_file records size
places_on_file size chunk places records h =
    sym (append-nil places)
    ∙ h.all []
    ∙ ap (places_from size (opened_at 64)) (append-nil records)
    ∙ places_are records size

-- one record more
pub places_on_next : (size : ℕ) (a b c : OpenChunk) (x y z : List ℕ) (records : List (List ℕ)) (i : ℕ) (r : List ℕ) → slice_get records i ≡ Some r
    → PlacesOn size a x (take i records) b y → c ≡ with_record (length r) (ready_for size (length r) b) → z ≡ y ++ next_place (ready_for size (length r) b) ∷ []
    → PlacesOn size a x (take (i + 1) records) c z
places_on_next size a b c x y z records i r there h chunk items =
    let ready : OpenChunk = ready_for size (length r) b in
    let one : PlacesOn size b y (r ∷ []) (with_record (length r) ready) (y ++ next_place ready ∷ []) =
    record { all = λ later. append_assoc y (next_place ready ∷ []) (places_from size (with_record (length r) ready) later) } in
    let here : PlacesOn size b y (r ∷ []) c z =
    subst (λ (d : OpenChunk). PlacesOn size b y (r ∷ []) d z) (sym chunk)
    (subst (λ (l : List ℕ). PlacesOn size b y (r ∷ []) (with_record (length r) ready) l) (sym items) one) in
    subst (λ (rs : List (List ℕ)). PlacesOn size a x rs c z)
    (sym (take_more records i r (slice_get_within records i r there) ∙ ap (λ (first : List ℕ). take i records ++ first ∷ []) (get_or_from_slice_get records i r r there)))
    (places_on_then size a b c x y z (take i records) (r ∷ []) h here)
