-- Files one after another are one file.
use Rattle.std.proofs.Common.{◌≡◌, ◌≢◌, ◌∙◌, ℕ, ◌+◌, ◌≤◌, suc, true, List, [], ◌∷◌, ◌++◌, length, map, refl, sym, ap, subst, inl, arith}
use Rattle.std.specs.Prelude.{sum}
use Rattle.std.specs.List.{AllByRecursion, AllZip, flat_map}
use Rattle.std.proofs.lemmas.List.{append-nil, append_assoc}
use Rattle.std.proofs.lemmas.List.Sums.{sum_by-cons}
use Rattle.block_layout.specs.Layout.{IsBlock, IsBoundary}
use Rattle.chunk_header.specs.Chunks.{ChunkValue}
use Rattle.meta_chunk.specs.Files.{AreRecordsOf, IsFileOf, IsWellFormedChunk, IsPlain, end_of_chunks, laid_each}
use Rattle.meta_chunk.specs.PaddingSizes.{padding_at}
use Rattle.meta_chunk.proofs.Begins.{end_of_chunks_boundary}
use Rattle.meta_chunk.proofs.PaddingLemmas.{IsBlock-padding_at, padding_at_near}
use Rattle.ordered_writer.specs.Padding.{padding_bytes}
use Rattle.ordered_writer.proofs.JoinedFiles.{IsBoundary-file, IsFileOf-joined, length-file, length-joined, records-joined}
use Rattle.ordered_writer.proofs.Moves.{AreAlike, padding_bytes-alike}
use Rattle.chunk_reader.specs.Faults.{HasNoFault, HaveNoFault}
use Rattle.record_join.specs.Joined.{joined, joined_at_most}
use Rattle.record_join.specs.Joins.{joined_chunks}

-- files of chunks end at boundaries
pub boundaries : (files : List (List ℕ)) → HaveNoFault true files → AllByRecursion (λ file. IsBoundary (length file)) files
boundaries [] h = h
boundaries (file ∷ files) h = (IsBoundary-file h.0.0 file h.0.1, boundaries files h.1)

-- at the front there is no padding
pub padding_bytes-front : padding_bytes 0 ≡ []
unfolding padding_at laid_each
padding_bytes-front = refl

-- a file behind another lies alike in its blocks
alike_behind : (file other : List ℕ) → IsBoundary (length file)
    → AreAlike (length (file ++ padding_bytes (length file) ++ other)) (length other)
alike_behind file other boundary =
    let block : IsBlock (end_of_chunks (length file) (padding_at (length file))) = IsBlock-padding_at (length file) boundary in
    omega (arith, length-joined file other, block)

-- one more file behind others: the padding between begins where those end
pub joined-more : (files : List (List ℕ)) (file : List ℕ) → AllByRecursion (λ f. IsBoundary (length f)) files
    → joined (files ++ file ∷ []) ≡ joined files ++ padding_bytes (length (joined files)) ++ file
joined-more [] file h = ap (λ (bytes : List ℕ). bytes ++ file) (sym padding_bytes-front)
joined-more (x ∷ []) file h = refl
joined-more (x ∷ y ∷ files) file h =
    let front : List ℕ = x ++ padding_bytes (length x) in
    let rest : List ℕ = joined (y ∷ files) in
    let padding : List ℕ = padding_bytes (length rest) in
    ap (λ (bytes : List ℕ). front ++ bytes) (joined-more (y ∷ files) file h.1)
    ∙ sym (append_assoc front (rest ++ padding) file)
    ∙ ap (λ (bytes : List ℕ). bytes ++ file) (sym (append_assoc front rest padding))
    ∙ ap (λ (bytes : List ℕ). front ++ rest ++ bytes ++ file)
    (sym (padding_bytes-alike (length (front ++ rest)) (length rest) (alike_behind x rest h.0)))

-- files before others are a front of all
pub joined-front : (files more : List (List ℕ)) → (rest : List ℕ) × (joined (files ++ more) ≡ joined files ++ rest)
joined-front [] more = (joined more, refl)
joined-front (x ∷ []) [] = ([], sym (append-nil x))
joined-front (x ∷ []) (y ∷ more) = (padding_bytes (length x) ++ joined (y ∷ more), append_assoc x (padding_bytes (length x)) (joined (y ∷ more)))
joined-front (x ∷ y ∷ files) more =
    let front : List ℕ = x ++ padding_bytes (length x) in
    let behind = joined-front (y ∷ files) more in
    (behind.0, ap (λ (bytes : List ℕ). front ++ bytes) behind.1 ∙ sym (append_assoc front (joined (y ∷ files)) behind.0))

-- they are the chunks of all, with the padding between
pub joined-IsFileOf : {P : ChunkValue → Type 0} → ((k : ChunkValue) → IsPlain k → P k) → (lists : List (List ChunkValue)) (files : List (List ℕ))
    → files ≢ [] → AllZip (IsFileOf P) lists files → IsFileOf P (joined_chunks lists) (joined files)
joined-IsFileOf plain [] [] some h = absurd (some refl)
joined-IsFileOf plain [] (f ∷ files) some h = absurd h
joined-IsFileOf plain (ks ∷ lists) [] some h = absurd h
joined-IsFileOf plain (ks ∷ []) (f ∷ []) some h = h.0
joined-IsFileOf plain (ks ∷ []) (f ∷ g ∷ files) some h = absurd h.1
joined-IsFileOf plain (ks ∷ ls ∷ lists) (f ∷ []) some h = absurd h.1
joined-IsFileOf {P} plain (ks ∷ ls ∷ lists) (f ∷ g ∷ files) some h =
    let more : List ChunkValue = joined_chunks (ls ∷ lists) in
    let other : List ℕ = joined (g ∷ files) in
    let behind : IsFileOf P more other = joined-IsFileOf {P = P} plain (ls ∷ lists) (g ∷ files) (λ none. absurd cc) h.1 in
    subst (λ (p : ℕ). IsFileOf P (ks ++ padding_at p ++ more) (f ++ padding_bytes (length f) ++ other)) (sym (length-file ks f h.0))
    (IsFileOf-joined ks more f other plain h.0 behind)

-- each file has its chunks
pub chunks_of_each : (files : List (List ℕ)) → HaveNoFault true files → (lists : List (List ChunkValue)) × AllZip (IsFileOf IsWellFormedChunk) lists files
chunks_of_each [] h = ([], h)
chunks_of_each (file ∷ files) h = let rest = chunks_of_each files h.1 in (h.0.0 ∷ rest.0, (h.0.1, rest.1))

-- so files without fault make one without fault
pub joined-no_fault : (files : List (List ℕ)) → files ≢ [] → HaveNoFault true files → HasNoFault true (joined files)
joined-no_fault files some h =
    let lists = chunks_of_each files h in
    (joined_chunks lists.0, joined-IsFileOf (λ k plain. inl plain) lists.0 files some lists.1)

-- and their records are those of all
pub joined-records : (lists : List (List ChunkValue)) (records : List (List (List ℕ)))
    → AllZip AreRecordsOf lists records → AreRecordsOf (joined_chunks lists) (flat_map (λ held. held) records)
joined-records [] [] h = ([], refl, refl)
joined-records [] (rs ∷ records) h = absurd h
joined-records (ks ∷ lists) [] h = absurd h
joined-records (ks ∷ []) (rs ∷ []) h = subst (AreRecordsOf ks) (sym (append-nil rs)) h.0
joined-records (ks ∷ []) (rs ∷ ss ∷ records) h = absurd h.1
joined-records (ks ∷ ls ∷ lists) (rs ∷ []) h = absurd h.1
joined-records (ks ∷ ls ∷ lists) (rs ∷ ss ∷ records) h =
    records-joined ks (joined_chunks (ls ∷ lists)) rs (flat_map (λ held. held) (ss ∷ records)) (end_of_chunks 0 ks)
    (end_of_chunks_boundary 0 ks (inl refl)) h.0 (joined-records (ls ∷ lists) (ss ∷ records) h.1)

-- and they have so many bytes at most
pub joined-at_most : (files : List (List ℕ)) → HaveNoFault true files → length (joined files) ≤ joined_at_most (map length files)
joined-at_most [] h = omega arith
joined-at_most (x ∷ []) h = omega (arith, sum_by-cons (λ n. n) (length x) [])
joined-at_most (x ∷ y ∷ files) h =
    let boundary : IsBoundary (length x) = IsBoundary-file h.0.0 x h.0.1 in
    let size : length (joined (x ∷ y ∷ files)) ≡ end_of_chunks (length x) (padding_at (length x)) + length (joined (y ∷ files)) =
    length-joined x (joined (y ∷ files)) in
    let sizes : sum (map length (x ∷ y ∷ files)) ≡ length x + sum (map length (y ∷ files)) = sum_by-cons (λ n. n) (length x) (map length (y ∷ files)) in
    let count : length (map length (x ∷ y ∷ files)) ≡ suc (length (map length (y ∷ files))) = refl in
    let some : length (map length (y ∷ files)) ≡ suc (length (map length files)) = refl in
    omega (arith, size, sizes, count, some, padding_at_near (length x) boundary, joined-at_most (y ∷ files) h.1)
