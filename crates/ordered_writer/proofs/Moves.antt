-- Chunks moved by whole blocks keep their bytes.
use Rattle.std.proofs.Common.{◌≡◌, ◌∙◌, ℕ, ◌+◌, ◌-◌, ◌*◌, ◌/◌, ◌%◌, ◌<◌, List, [], ◌∷◌, ◌++◌, cond, length, get_or, ltb, refl, sym, ap, inl, inr, arith}
use Rattle.std.specs.Prelude.{nat_le, slice_get, slice_range, ◌==◌}
use Rattle.std.proofs.lemmas.List.{ext_get_or}
use Rattle.std.proofs.lemmas.List.FromFn.{get_or-map-range_with_len, length-map-range_with_len}
use Rattle.block_layout.specs.Layout.{IsBoundary, chunk_end_of, room}
use Rattle.block_layout.specs.BlockHeaders.{block_header}
use Rattle.block_layout.proofs.Room.{room-closed, room_shift}
use Rattle.block_layout.proofs.ChunkEnds.{chunk_end_of_shift, chunk_end_from_number}
use Rattle.chunk_header.specs.Chunks.{ChunkValue, chunk_bytes}
use Rattle.meta_chunk.specs.Laid.{IsLaid, byte_at, end_of_chunk, laid, laid_bytes}
use Rattle.meta_chunk.specs.Files.{AreLaid, end_of_chunks, laid_each}
use Rattle.meta_chunk.specs.PaddingSizes.{padding, padding_at}
use Rattle.meta_chunk.proofs.LaidChunks.{end-IsLaid}
use Rattle.ordered_writer.specs.Padding.{padding_bytes}

-- two places lie alike in their blocks
abbrev pub AreAlike : ℕ → ℕ → Type 0
AreAlike p q = p % 65536 ≡ q % 65536

-- where chunks end
pub end_of_chunks-further : (place blocks : ℕ) (ks : List ChunkValue) → end_of_chunks (place + blocks * 65536) ks ≡ end_of_chunks place ks + blocks * 65536
end_of_chunks-further place blocks [] = refl
end_of_chunks-further place blocks (k ∷ ks) =
    ap (λ (e : ℕ). end_of_chunks e ks) (chunk_end_of_shift place (40 + length k.«data») k.num_records blocks)
    ∙ end_of_chunks-further (end_of_chunk place k) blocks ks

pub IsBoundary-alike : (p q : ℕ) → AreAlike p q → IsBoundary p → IsBoundary q
IsBoundary-alike p q same (inl block) = inl (sym same ∙ block)
IsBoundary-alike p q same (inr inside) = inr (omega (arith, same, inside))

-- what is the same so many blocks further on is the same at places that lie alike
alike_from_further : {X : Type 0} (f : ℕ → X) → ((p blocks : ℕ) → f (p + blocks * 65536) ≡ f p) → (p q : ℕ) → AreAlike p q → f p ≡ f q
alike_from_further f further p q same = home p ∙ ap f same ∙ sym (home q)
  where
    home : (n : ℕ) → f n ≡ f (n % 65536)
    home n =
        let parts : n ≡ n % 65536 + n / 65536 * 65536 = omega arith in
        ap f parts ∙ further (n % 65536) (n / 65536)

-- a byte
byte_at-further : (begin end blocks : ℕ) (own : List ℕ) (p : ℕ)
    → byte_at (begin + blocks * 65536) (end + blocks * 65536) own (p + blocks * 65536) ≡ byte_at begin end own p
byte_at-further begin end blocks own p =
    let byte : ℕ → ℕ → ℕ → ℕ → ℕ = λ m back on before. cond (ltb m 24) (get_or (block_header back on) m 0) (get_or own before 0) in
    let far : ℕ = p + blocks * 65536 in
    let m : far % 65536 ≡ p % 65536 = omega arith in
    let back : far - far % 65536 - (begin + blocks * 65536) ≡ p - p % 65536 - begin = omega arith in
    let on : end + blocks * 65536 - (far - far % 65536) ≡ end - (p - p % 65536) = omega arith in
    ap (λ (x : ℕ). byte x (far - far % 65536 - (begin + blocks * 65536)) (end + blocks * 65536 - (far - far % 65536)) (room (begin + blocks * 65536) far)) m
    ∙ ap (λ (x : ℕ). byte (p % 65536) x (end + blocks * 65536 - (far - far % 65536)) (room (begin + blocks * 65536) far)) back
    ∙ ap (λ (x : ℕ). byte (p % 65536) (p - p % 65536 - begin) x (room (begin + blocks * 65536) far)) on
    ∙ ap (byte (p % 65536) (p - p % 65536 - begin) (end - (p - p % 65536))) (room_shift begin p blocks)

-- and the bytes of a chunk
laid_bytes-further : (begin end blocks : ℕ) (own : List ℕ) → laid_bytes (begin + blocks * 65536) (end + blocks * 65536) own ≡ laid_bytes begin end own
unfolding laid_bytes
laid_bytes-further begin end blocks own =
    let far : ℕ → ℕ = byte_at (begin + blocks * 65536) (end + blocks * 65536) own in
    let near : ℕ → ℕ = byte_at begin end own in
    let far_begin : ℕ = begin + blocks * 65536 in
    let far_size : ℕ = end + blocks * 65536 - far_begin in
    let size : far_size ≡ end - begin = omega arith in
    ext_get_or 0 (laid_bytes far_begin (end + blocks * 65536) own) (laid_bytes begin end own)
    (length-map-range_with_len far far_begin far_size ∙ size ∙ sym (length-map-range_with_len near begin (end - begin)))
    (λ i small.
    let within : i < end - begin = omega (arith, length-map-range_with_len far far_begin far_size) in
    let place : far_begin + i ≡ begin + i + blocks * 65536 = omega arith in
    get_or-map-range_with_len far far_begin far_size i (begin + i + blocks * 65536) 0 (omega arith) place
    ∙ byte_at-further begin end blocks own (begin + i)
    ∙ sym (get_or-map-range_with_len near begin (end - begin) i (begin + i) 0 within refl))

laid-further : (k : ChunkValue) (begin blocks : ℕ) → laid (begin + blocks * 65536) k ≡ laid begin k
laid-further k begin blocks =
    ap (λ (e : ℕ). laid_bytes (begin + blocks * 65536) e (chunk_bytes k)) (chunk_end_of_shift begin (40 + length k.«data») k.num_records blocks)
    ∙ laid_bytes-further begin (end_of_chunk begin k) blocks (chunk_bytes k)

laid_each-further : (ks : List ChunkValue) (place blocks : ℕ) → laid_each (place + blocks * 65536) ks ≡ laid_each place ks
unfolding laid_each
laid_each-further [] place blocks = refl
laid_each-further (k ∷ ks) place blocks =
    ap (λ (xs : List ℕ). xs ++ laid_each (end_of_chunk (place + blocks * 65536) k) ks) (laid-further k place blocks)
    ∙ ap (λ (e : ℕ). laid place k ++ laid_each e ks) (chunk_end_of_shift place (40 + length k.«data») k.num_records blocks)
    ∙ ap (λ (xs : List ℕ). laid place k ++ xs) (laid_each-further ks (end_of_chunk place k) blocks)

pub laid-alike : (p q : ℕ) (k : ChunkValue) → AreAlike p q → laid p k ≡ laid q k
laid-alike p q k same = alike_from_further (λ (n : ℕ). laid n k) (laid-further k) p q same

pub laid_each-alike : (p q : ℕ) (ks : List ChunkValue) → AreAlike p q → laid_each p ks ≡ laid_each q ks
laid_each-alike p q ks same = alike_from_further (λ (n : ℕ). laid_each n ks) (laid_each-further ks) p q same

-- so is padding
pub padding_at-alike : (p q : ℕ) → AreAlike p q → padding_at p ≡ padding_at q
unfolding padding_at
padding_at-alike p q same =
    ap (λ (m : ℕ). cond (m == 0) [] (padding (cond (nat_le 40 (65536 - m)) (65536 - m - 40) (65536 - m + 65472)) ∷ [])) same

pub padding_bytes-alike : (p q : ℕ) → AreAlike p q → padding_bytes p ≡ padding_bytes q
padding_bytes-alike p q same = ap (laid_each p) (padding_at-alike p q same) ∙ laid_each-alike p q (padding_at q) same

-- a chunk ends as far behind its begin
end-alike : (p q size num_records : ℕ) → AreAlike p q → chunk_end_of p size num_records + q ≡ chunk_end_of q size num_records + p
end-alike p q size num_records same =
    let home : (n : ℕ) → chunk_end_of n size num_records ≡ chunk_end_of (n % 65536) size num_records + n / 65536 * 65536 = λ n.
    (let parts : n ≡ n % 65536 + n / 65536 * 65536 = omega arith in
    ap (λ (m : ℕ). chunk_end_of m size num_records) parts ∙ chunk_end_of_shift (n % 65536) size num_records (n / 65536)) in
    omega (arith, home p, home q, same, ap (λ (m : ℕ). chunk_end_of m size num_records) same)

-- bytes of a chunk are bytes of it
pub IsLaid-alike : (p q : ℕ) (k : ChunkValue) (bytes : List ℕ) → AreAlike p q → IsLaid p k bytes → IsLaid q k bytes
IsLaid-alike p q k bytes same h = record {
  chunk = h.chunk;
  end = chunk_end_from_number q (40 + length k.«data») k.num_records (q + length bytes)
      (omega (arith, end-alike p q (40 + length k.«data») k.num_records same, end-IsLaid p k bytes h));
  own = λ x low high usable within.
      let y : ℕ = x - q + p in
      let place : x - q ≡ y - p = omega arith in
      let before : room q x ≡ room p y = omega (arith, same, room-closed q x, room-closed p y) in
      ap (slice_get bytes) place
      ∙ h.own y (omega arith) (omega arith) (omega (arith, same, usable)) (omega (arith, before, within))
      ∙ ap (slice_get (chunk_bytes k)) (sym before);
  headers = λ b block low high.
      let a : ℕ = b - q + p in
      let place : b - q ≡ a - p = omega arith in
      let rest : q + length bytes - b ≡ p + length bytes - a = omega arith in
      ap (λ (n : ℕ). slice_range bytes n (n + 24)) place
      ∙ h.headers a (omega (arith, same, block)) (omega arith) (omega arith)
      ∙ ap (λ (n : ℕ). block_header n (p + length bytes - a)) (sym place)
      ∙ ap (block_header (b - q)) (sym rest);
}

-- and so it is with chunks one after another
pub AreLaid-alike : (p q : ℕ) (ks : List ChunkValue) (bytes : List ℕ) → AreAlike p q → AreLaid p ks bytes → AreLaid q ks bytes
AreLaid-alike p q [] bytes same h = h
AreLaid-alike p q (k ∷ ks) bytes same (front, rest, parts, laid_front, laid_rest) = (
  front,
  rest,
  parts,
  IsLaid-alike p q k front same laid_front,
  AreLaid-alike (p + length front) (q + length front) ks rest (omega (arith, same)) laid_rest,
)
