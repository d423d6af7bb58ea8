-- Chunks moved by whole blocks keep their bytes.
use Rattle.std.proofs.Common.{◌≡◌, ◌∙◌, ℕ, ◌+◌, ◌-◌, ◌*◌, ◌/◌, List, [], ◌∷◌, length, sym, ap, subst, arith}
use Rattle.std.specs.Prelude.{slice_get, slice_range}
use Rattle.block_layout.specs.Layout.{IsBlock, room}
use Rattle.block_layout.specs.BlockHeaders.{block_header}
use Rattle.block_layout.proofs.Room.{room_shift}
use Rattle.block_layout.proofs.ChunkEnds.{chunk_end_of_shift, chunk_end_from_number}
use Rattle.chunk_header.specs.Chunks.{ChunkValue, chunk_bytes}
use Rattle.meta_chunk.specs.Laid.{IsLaid}
use Rattle.meta_chunk.specs.Files.{AreLaid}
use Rattle.meta_chunk.proofs.LaidChunks.{end-IsLaid}

-- a chunk so many blocks further on
IsLaid-further : (begin blocks : ℕ) (k : ChunkValue) (bytes : List ℕ) → IsLaid begin k bytes → IsLaid (begin + blocks * 65536) k bytes
IsLaid-further begin blocks k bytes h = record {
  chunk = h.chunk;
  end = chunk_end_from_number (begin + blocks * 65536) (40 + length k.«data») k.num_records (begin + blocks * 65536 + length bytes)
      (omega (arith, chunk_end_of_shift begin (40 + length k.«data») k.num_records blocks, end-IsLaid begin k bytes h));
  own = λ p low high usable within.
      let q : ℕ = p - blocks * 65536 in
      let back : p ≡ q + blocks * 65536 = omega arith in
      let place : p - (begin + blocks * 65536) ≡ q - begin = omega arith in
      let before : room (begin + blocks * 65536) p ≡ room begin q =
      ap (room (begin + blocks * 65536)) back ∙ room_shift begin q blocks in
      ap (slice_get bytes) place
      ∙ h.own q (omega arith) (omega arith) (omega arith) (omega arith)
      ∙ ap (slice_get (chunk_bytes k)) (sym before);
  headers = λ b block low high.
      let a : ℕ = b - blocks * 65536 in
      let place : b - (begin + blocks * 65536) ≡ a - begin = omega arith in
      let rest : begin + blocks * 65536 + length bytes - b ≡ begin + length bytes - a = omega arith in
      ap (λ (n : ℕ). slice_range bytes n (n + 24)) place
      ∙ h.headers a (omega arith) (omega arith) (omega arith)
      ∙ ap (λ (n : ℕ). block_header n (begin + length bytes - a)) (sym place)
      ∙ ap (block_header (b - (begin + blocks * 65536))) (sym rest);
}

-- and chunks one after another
AreLaid-further : (begin blocks : ℕ) (ks : List ChunkValue) (bytes : List ℕ) → AreLaid begin ks bytes → AreLaid (begin + blocks * 65536) ks bytes
AreLaid-further begin blocks [] bytes h = h
AreLaid-further begin blocks (k ∷ ks) bytes (front, rest, same, laid_front, laid_rest) =
    let next : begin + length front + blocks * 65536 ≡ begin + blocks * 65536 + length front = omega arith in (
      front,
      rest,
      same,
      IsLaid-further begin blocks k front laid_front,
      subst (λ (p : ℕ). AreLaid p ks rest) next (AreLaid-further (begin + length front) blocks ks rest laid_rest),
    )

-- so what is laid from 0 on can stand from each block on
pub AreLaid-at_block : (block : ℕ) (ks : List ChunkValue) (bytes : List ℕ) → IsBlock block → AreLaid 0 ks bytes → AreLaid block ks bytes
AreLaid-at_block block ks bytes is h =
    let place : 0 + block / 65536 * 65536 ≡ block = omega arith in
    subst (λ (p : ℕ). AreLaid p ks bytes) place (AreLaid-further 0 (block / 65536) ks bytes h)
