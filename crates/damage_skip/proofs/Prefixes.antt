-- The pieces of the front of a file of chunks: those of the chunks that it has whole, and the chunk that is cut.
use Rattle.std.proofs.Common.{◌≡◌, ◌∙◌, ◌⊎◌, ℕ, zero, suc, ◌+◌, ◌-◌, ◌<◌, ◌≤◌, min, nat_lt, Bool, true, List, [], ◌∷◌, ◌++◌, Some, length, take, drop, refl, sym, ap, subst, inl, inr, arith}
use Rattle.std.specs.Prelude.{slice_get, slice_range}
use Rattle.std.proofs.lemmas.Bool.{cases_lt, cond-false, le-ltb}
use Rattle.std.proofs.lemmas.List.{take-take, drop-take, length-take-le, length-take}
use Rattle.std.proofs.lemmas.Option.{slice_get_cases}
use Rattle.block_layout.specs.Layout.{usable_bytes, end_of}
use Rattle.block_layout.specs.BlockHeaders.{StandsAt}
use Rattle.block_layout.proofs.Ends.{end_of_after}
use Rattle.block_layout.proofs.UsableBytes.{usable_bytes_at-to_end}
use Rattle.chunk_header.specs.Chunks.{ChunkValue, IsRightChunkHeader, header_in}
use Rattle.meta_chunk.specs.Laid.{IsLaid}
use Rattle.meta_chunk.specs.Files.{IsWellFormedChunk, AreLaid, IsChainOf, IsWellFormed, begin_of}
use Rattle.meta_chunk.proofs.Begins.{begin_of-next, begin_of-place, begin_of-within, begin_of_rises_by, IsLaid-in_file}
use Rattle.meta_chunk.proofs.Chains.{IsChainOf-take}
use Rattle.chunk_reader.specs.Places.{header_bytes_at, end_by, end_at}
use Rattle.chunk_reader.specs.declared.reasons.Why.{Why}
use Rattle.chunk_reader.specs.declared.reasons.Why.TheVariants as why
use Rattle.chunk_reader.proofs.Blocks.{stands_within}
use Rattle.chunk_reader.proofs.ChainSteps.{each_at}
use Rattle.chunk_reader.proofs.LaidAt.{right_header-laid, end_at-laid, headers-laid}
use Rattle.damage_skip.specs.Resyncs.{IsResync, Contradicts}
use Rattle.damage_skip.specs.Pieces.{PieceKind, Skipped, Piece, IsPieceOf, AreTiles}
use Rattle.damage_skip.specs.FilePieces.{ArePieces}
use Rattle.damage_skip.specs.Damage.{DamageLeaves}
use Rattle.damage_skip.proofs.PlacesFurtherOn.{resync_of}
use Rattle.damage_skip.proofs.OnePiece.{piece_one}
use Rattle.damage_skip.proofs.Tiles.{tiles_past, tiles_append}
use Rattle.damage_skip.proofs.FoundPieces.{says_own, end_in_reach}
use Rattle.damage_skip.proofs.Reached.{left_as_one}
use Rattle.damage_skip.proofs.IntactChunks.{laid_piece}

-- chunks laid at the front of a file
module _ (unread_ok : Bool) (ls : List ChunkValue) (file : List ℕ) (to : ℕ) (chain : IsChainOf IsWellFormedChunk ls file to) where
  chain_end : begin_of ls (length ls) ≡ to
  chain_end = begin_of-place ls file to chain.within chain.laid

  chain_below : (j : ℕ) → j < length ls → begin_of ls j < length file
  chain_below j inside =
      omega (arith, begin_of_rises_by ls j inside, begin_of-within ls file to (j + 1) chain.within chain.laid, chain.within)

  -- the piece at each
  chain_piece : (j : ℕ) (k : ChunkValue) → slice_get ls j ≡ Some k
      → (what : PieceKind) × IsPieceOf unread_ok file (begin_of ls j) (begin_of ls (j + 1)) what × DamageLeaves unread_ok true true k what
  chain_piece j k at =
      let piece = laid_piece unread_ok file (begin_of ls j) k (begin_of ls (j + 1)) (each_at IsWellFormedChunk ls j k chain.each at)
      (IsLaid-in_file ls file to j k chain.within chain.laid at) in (
        piece.0,
        subst (λ (e : ℕ). IsPieceOf unread_ok file (begin_of ls j) e piece.0) (sym (begin_of-next ls j k at)) piece.1,
        piece.2,
      )

  tiles_of_chain : (most j : ℕ) → length ls ≤ j + most → j ≤ length ls → (pieces : List Piece) × AreTiles unread_ok file (begin_of ls j) to pieces
  tiles_of_chain zero j far inside =
      let last : j ≡ length ls = omega arith in
      ([], ap (begin_of ls) last ∙ chain_end)
  tiles_of_chain (suc most) j far inside =
      elim (slice_get_cases ls j).1 [
        | inl (k, within, at, same) ↦
            let here = chain_piece j k at in
            let rest = tiles_of_chain most (j + 1) (omega arith) (omega arith) in
            let piece : Piece = record { begin = begin_of ls j; end = begin_of ls (j + 1); what = here.0 } in
            (piece ∷ rest.0, (refl, chain_below j within, here.1, rest.1))
        | inr (past, none) ↦
            let last : j ≡ length ls = omega arith in
            ([], ap (begin_of ls) last ∙ chain_end)
      ]

-- in two files that begin with the same chunks these are the same pieces
same_tiles : (unread_ok : Bool) (ls : List ChunkValue) (file other : List ℕ) (to : ℕ) → IsChainOf IsWellFormedChunk ls file to → IsChainOf IsWellFormedChunk ls other to
    → (j from : ℕ) (pieces : List Piece) → j ≤ length ls → from ≡ begin_of ls j → AreTiles unread_ok file from to pieces
    → AreTiles unread_ok other from to pieces
same_tiles unread_ok ls file other to chain also j from [] inside begin h = h
same_tiles unread_ok ls file other to chain also j from (p ∷ pieces) inside begin (at_begin, below, is, rest) =
    elim (slice_get_cases ls j).1 [
      | inl (k, within, at, same) ↦
          let here = chain_piece unread_ok ls file to chain j k at in
          let there = chain_piece unread_ok ls other to also j k at in
          let one = piece_one unread_ok file from p.end (begin_of ls (j + 1)) p.what here.0 is
          (subst (λ (x : ℕ). IsPieceOf unread_ok file x (begin_of ls (j + 1)) here.0) (sym begin) here.1) in
          let what : there.0 ≡ p.what = left_as_one unread_ok true true k there.0 here.0 there.2 here.2 ∙ sym one.1 in (
            at_begin,
            omega (arith, begin, chain_below unread_ok ls other to also j within),
            subst (λ (x : ℕ). IsPieceOf unread_ok other x p.end p.what) (sym begin)
                (subst (λ (e : ℕ). IsPieceOf unread_ok other (begin_of ls j) e p.what) (sym one.0)
                (subst (IsPieceOf unread_ok other (begin_of ls j) (begin_of ls (j + 1))) what there.1)),
            same_tiles unread_ok ls file other to chain also (j + 1) p.end pieces (omega arith) one.0 rest,
          )
      | inr (past, none) ↦
          let last : j ≡ length ls = omega arith in
          absurd (omega (
            arith,
            begin,
            ap (begin_of ls) last,
            chain_end unread_ok ls file to chain,
            tiles_past unread_ok file from to p pieces (at_begin, below, is, rest),
          ))
    ]

-- what stands at the front of a file
pub slice_in_front : (file : List ℕ) (m begin end : ℕ) → begin ≤ end → end ≤ m → slice_range (take m file) begin end ≡ slice_range file begin end
slice_in_front file m begin end low high =
    let cut : begin + (m - begin) ≡ m = omega arith in
    ap (λ (n : ℕ). take (end - begin) (drop begin (take n file))) (sym cut)
    ∙ ap (take (end - begin)) (drop-take begin (m - begin) file)
    ∙ take-take (end - begin) (m - begin) (drop begin file) (omega arith)

pub stands_in_front : (file : List ℕ) (m b previous next : ℕ) → StandsAt (take m file) b previous next → StandsAt file b previous next
stands_in_front file m b previous next h =
    let within : b + 24 ≤ m = omega (arith, stands_within (take m file) b previous next h, length-take m file) in
    record { is_block = h.is_block; bytes = sym (slice_in_front file m b (b + 24) (omega arith) within) ∙ h.bytes; sane = h.sane }

pub header_in_front : (file : List ℕ) (m place : ℕ) → m ≤ length file → end_of place 40 ≤ m
    → header_bytes_at (take m file) place ≡ header_bytes_at file place
header_in_front file m place within fits =
    usable_bytes_at-to_end (take m file) place 40 (omega (arith, length-take-le m file within))
    ∙ ap (usable_bytes place) (slice_in_front file m place (end_of place 40) (end_of_after place 40) fits)
    ∙ sym (usable_bytes_at-to_end file place 40 (omega arith))

-- a chunk of a file of chunks that is cut at a place within it
module _ (unread_ok : Bool) (file : List ℕ) (begin : ℕ) (k : ChunkValue) (end m : ℕ) (laid : IsLaid begin k (slice_range file begin end))
    (formed : IsWellFormedChunk k) (within : m ≤ length file) (after : begin < m) (before : m < end_at file begin) where
  cut_length : length (take m file) ≡ m
  cut_length = length-take-le m file within

  -- its block headers say where it would end
  cut_says : (b previous next : ℕ) → StandsAt (take m file) b previous next → begin ≤ b
      → (b < m) × (b - previous ≡ begin) × (b + next ≡ end_at file begin)
  cut_says b previous next h from =
      let inside : b + 24 ≤ m = omega (arith, stands_within (take m file) b previous next h, cut_length) in
      let own = says_own file begin (end_at file begin) b previous next from (omega arith) (end_in_reach true begin k file end laid formed)
      (headers-laid begin k file end laid b h.is_block from (omega arith)) (stands_in_front file m b previous next h) in
      (omega arith, own.0, own.1)

  -- so reading goes on at the end of the cut file
  cut_resync : (to : ℕ) → IsResync (take m file) begin to → to ≡ m
  cut_resync to (inl (b, p, n, first, is)) =
      let says = cut_says b p n first.holds.stands first.holds.from in
      let back : b - p ≡ begin = says.1 in
      let on : b + n ≡ end_at file begin = says.2 in
      let far : min (b + n) (length (take m file)) ≡ m = omega (arith, cut_length) in
      is ∙ cond-false (nat_lt begin (b - p)) _ _ (le-ltb begin (b - p) (omega arith)) ∙ far
  cut_resync to (inr (none, is)) = is ∙ cut_length

  short_piece : m < end_of begin 40 → IsPieceOf unread_ok (take m file) begin m (Skipped why.Short)
  short_piece short =
      let on = resync_of (take m file) begin in (
        inl (omega (arith, short, cut_length), refl),
        subst (IsResync (take m file) begin) (cut_resync on.0 on.1) on.1,
      )

  module _ (long : end_of begin 40 ≤ m) where
    cut_header : header_bytes_at (take m file) begin ≡ header_bytes_at file begin
    cut_header = header_in_front file m begin within long

    cut_end : end_at (take m file) begin ≡ end_at file begin
    cut_end = ap (λ (bytes : List ℕ). end_by begin (header_in bytes)) cut_header

    not_against : ¬ ((block previous next : ℕ) × Contradicts (take m file) begin (end_at (take m file) begin) block previous next)
    not_against (b, p, n, against) =
        let says = cut_says b p n against.stands against.from in
        elim against.differs [ inl other ↦ other says.1 | inr other ↦ other (says.2 ∙ sym cut_end) ]

    long_piece : IsPieceOf unread_ok (take m file) begin m (Skipped why.Truncated)
    long_piece = (
      inr (
        (λ short. omega (arith, short, cut_length)),
        inr (
          (λ wrong. wrong (subst IsRightChunkHeader (sym cut_header) (right_header-laid begin k file end laid))),
          inr (not_against, inl (omega (arith, cut_length, cut_end), refl)),
        ),
      ),
      sym cut_length,
    )

  pub cut_piece : (w : Why) × ((w ≡ why.Short) ⊎ (w ≡ why.Truncated)) × IsPieceOf unread_ok (take m file) begin m (Skipped w)
  cut_piece =
      elim (cases_lt m (end_of begin 40)) [
        | inl short ↦ (why.Short, inl refl, short_piece short)
        | inr long ↦ (why.Truncated, inr refl, long_piece long)
      ]

-- the front of a file of chunks
module _ (unread_ok : Bool) (ks : List ChunkValue) (file : List ℕ) (well_formed : IsWellFormed ks file) where
  front_chain : (n : ℕ) → IsChainOf IsWellFormedChunk (take n ks) file (begin_of ks n)
  front_chain n = IsChainOf-take n ks file (length file) well_formed.1

  pub cut_chain : (n m : ℕ) → begin_of ks n ≤ m → m ≤ length file → IsChainOf IsWellFormedChunk (take n ks) (take m file) (begin_of ks n)
  cut_chain n m few within =
      let chain = front_chain n in
      record {
        signed = chain.signed;
        each = chain.each;
        within = omega (arith, length-take-le m file within);
        laid = subst (AreLaid 0 (take n ks)) (sym (take-take (begin_of ks n) m file few)) chain.laid;
      }

  pub front_tiles : (n : ℕ) → (pieces : List Piece) × AreTiles unread_ok file 0 (begin_of ks n) pieces
  front_tiles n = tiles_of_chain unread_ok (take n ks) file (begin_of ks n) (front_chain n) (length (take n ks)) 0 (omega arith) (omega arith)

  cut_tiles : (n m : ℕ) (front : List Piece) → begin_of ks n ≤ m → m ≤ length file → AreTiles unread_ok file 0 (begin_of ks n) front
      → AreTiles unread_ok (take m file) 0 (begin_of ks n) front
  cut_tiles n m front few within h =
      same_tiles unread_ok (take n ks) file (take m file) (begin_of ks n) (front_chain n) (cut_chain n m few within) 0 0 front (omega arith) refl h

  -- cut where a chunk begins, or at the end
  pub cut_between : (n : ℕ) (front : List Piece) → AreTiles unread_ok file 0 (begin_of ks n) front → ArePieces unread_ok (take (begin_of ks n) file) front
  cut_between n front h =
      let within : begin_of ks n ≤ length file = begin_of-within ks file (length file) n well_formed.1.within well_formed.1.laid in
      subst (λ (x : ℕ). AreTiles unread_ok (take (begin_of ks n) file) 0 x front) (sym (length-take-le (begin_of ks n) file within))
      (cut_tiles n (begin_of ks n) front (omega arith) within h)

  -- cut within a chunk
  pub cut_within : (n m : ℕ) (front : List Piece) → n < length ks → begin_of ks n < m → m < begin_of ks (n + 1)
      → AreTiles unread_ok file 0 (begin_of ks n) front
      → (w : Why) × ((w ≡ why.Short) ⊎ (w ≡ why.Truncated))
      × ArePieces unread_ok (take m file) (front ++ record { begin = begin_of ks n; end = m; what = Skipped w } ∷ [])
  cut_within n m front inside after before h =
      elim (slice_get_cases ks n).1 [
        | inl (k, below, at, same) ↦
            let within : m ≤ length file =
            omega (arith, begin_of-within ks file (length file) (n + 1) well_formed.1.within well_formed.1.laid) in
            let laid = IsLaid-in_file ks file (length file) n k well_formed.1.within well_formed.1.laid at in
            let end : end_at file (begin_of ks n) ≡ begin_of ks (n + 1) =
            end_at-laid (begin_of ks n) k file (begin_of ks (n + 1)) laid ∙ sym (begin_of-next ks n k at) in
            let cut : length (take m file) ≡ m = length-take-le m file within in
            let piece = cut_piece unread_ok file (begin_of ks n) k (begin_of ks (n + 1)) m laid (each_at IsWellFormedChunk ks n k well_formed.1.each at) within after
            (omega (arith, end)) in (
              piece.0,
              piece.1,
              tiles_append unread_ok (take m file) 0 (begin_of ks n) (length (take m file)) front
                  (record { begin = begin_of ks n; end = m; what = Skipped piece.0 } ∷ [])
                  (cut_tiles n m front (omega arith) within h)
                  (refl, omega (arith, cut), piece.2, sym cut),
            )
        | inr (past, none) ↦ absurd (omega arith)
      ]
