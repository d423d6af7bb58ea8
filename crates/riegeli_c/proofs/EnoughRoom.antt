-- The room that a repair tells is enough.
use Rattle.std.proofs.Common.{◌≡◌, ℕ, ◌*◌, ◌-◌, ◌^◌, ◌<◌, ◌≤◌, true, Some, List, [], ◌∷◌, ◌++◌, length, drop, sym, ap, subst, inl, inr, append-nil, length-append, arith}
use Rattle.std.specs.List.{position_or_len}
use Rattle.std.proofs.lemmas.Fmt.{length-decimal-le}
use Rattle.std.proofs.lemmas.List.{take-append-drop}
use lib.Chars.{codes}
use Rattle.meta_chunk.specs.Files.{laid_each}
use Rattle.chunk_reader.specs.Names.{name_of}
use Rattle.chunk_reader.specs.declared.reasons.Why.{Why}
use Rattle.chunk_reader.specs.declared.reasons.Why.TheVariants as why
use Rattle.damage_skip.specs.Bounds.{is_refused, walked}
use Rattle.damage_skip.specs.Pieces.{PieceKind, Records, Kept, SignatureOrPadding, Skipped, Piece, AreTiles, AreEvents, events_in}
use Rattle.damage_skip.specs.Regions.{region_text, regions_in}
use Rattle.damage_skip.specs.declared.regions.Region.{Region}
use Rattle.damage_skip.proofs.OnePiece.{piece_past}
use Rattle.damage_skip.proofs.RegionsIn.{regions_in-append, skipped_text-pieces}
use Rattle.damage_skip.proofs.Tiles.{events-append, events_one}
use Rattle.repair_copy.specs.RelaidFiles.{relaid}
use Rattle.repair_copy.specs.RepairPuts.{chunks_in}
use Rattle.repair_copy.proofs.EventChunks.{relaid-append}
use Rattle.riegeli_c.specs.Repairs.{MeasuresRepair, ExceedsRoom, told_lines}
use Rattle.riegeli_c.specs.declared.repairing.RepairTold.{RepairTold}

-- a reason's name has at most 12 bytes
name_short : (w : Why) → length (name_of w) ≤ 12
name_short why.NoSignature = omega arith
name_short why.Short = omega arith
name_short why.HeaderHash = omega arith
name_short why.Truncated = omega arith
name_short why.TooLarge = omega arith
name_short why.BlockHeader = omega arith
name_short why.DataHash = omega arith
name_short why.Contents = omega arith
name_short why.Compressed = omega arith
name_short why.Transposed = omega arith
name_short why.UnknownKind = omega arith
name_short why.Contradicted = omega arith

-- and each place at most 19, so a line has at most 61
pub line_short : (region : Region) → region.begin ≤ 2 ^ 60 → region.end ≤ 2 ^ 60
    → length (region_text (codes "skipped") region) ≤ 61
line_short region begin end =
    let from = length-decimal-le 19 region.begin (omega arith) (omega (arith, begin)) (omega (arith, begin)) in
    let to = length-decimal-le 19 region.end (omega arith) (omega (arith, end)) (omega (arith, end)) in
    simp length-append (omega (arith, from, to, name_short region.why))

-- the lines of events have at most 64 bytes for each region
AreShort : List Piece → Type 0
AreShort events = length (told_lines events) ≤ length (regions_in events) * 64

short_piece : (begin end : ℕ) (what : PieceKind) → begin ≤ 2 ^ 60 → end ≤ 2 ^ 60
    → AreShort (events_in (record { begin = begin; end = end; what = what } ∷ []))
unfolding AreShort
short_piece begin end (Records records k) first last = omega arith
short_piece begin end (Kept k) first last = omega arith
short_piece begin end SignatureOrPadding first last = omega arith
short_piece begin end (Skipped w) first last =
    let region : Region = record { begin = begin; end = end; why = w } in
    omega (arith, ap length (append-nil (region_text (codes "skipped") region)), line_short region first last)

short_both : (es fs : List Piece) → AreShort es → AreShort fs → AreShort (es ++ fs)
unfolding AreShort
short_both es fs first behind =
    omega (
      arith,
      first,
      behind,
      ap length (skipped_text-pieces es fs),
      length-append (told_lines es) (told_lines fs),
      ap length (regions_in-append es fs),
      length-append (regions_in es) (regions_in fs),
    )

short_tiles : (file : List ℕ) (from to : ℕ) (pieces : List Piece) → length file ≤ 2 ^ 60 → AreTiles true file from to pieces
    → AreShort (events_in pieces)
unfolding AreShort
short_tiles file from to [] small h = omega arith
short_tiles file from to (piece ∷ pieces) small (begin, below, is, rest) =
    let past = piece_past true file from piece.end piece.what below is in
    subst AreShort (sym (events-append (piece ∷ []) pieces))
    (short_both (events_in (piece ∷ [])) (events_in pieces)
    (short_piece piece.begin piece.end piece.what (omega (arith, begin, below, small)) (omega (arith, past.within, small)))
    (short_tiles file piece.end to pieces small rest))

short_events : (file : List ℕ) (events : List Piece) → length file ≤ 2 ^ 60 → AreEvents true file events → AreShort events
short_events file events small (pieces, tiles, are) = subst AreShort are (short_tiles file 0 (length file) pieces small tiles)

-- the file of events and their lines are no shorter than those of the first of them
made_front : (es fs : List Piece) → length (relaid es) ≤ length (relaid (es ++ fs))
made_front es fs =
    omega (arith, ap length (relaid-append es fs), length-append (relaid es) (laid_each (length (relaid es)) (chunks_in fs)))

lines_front : (es fs : List Piece) → length (told_lines es) ≤ length (told_lines (es ++ fs))
lines_front es fs = omega (arith, ap length (skipped_text-pieces es fs), length-append (told_lines es) (told_lines fs))

-- so neither is longer than what is told, up to whichever region
pub enough_room : (file : List ℕ) (most made lines : ℕ) (told : RepairTold) → length file ≤ 2 ^ 60 → lines < 2 ^ 64 - 1
    → MeasuresRepair file told → told.bytes ≤ made → told.lines ≤ lines → ¬ ExceedsRoom file most made lines
unfolding AreShort
enough_room file most made lines told small some measures bytes room exceeds =
    let all = measures.events in
    let front = walked (Some most) all in
    let behind = drop (position_or_len (is_refused (Some most)) all) all in
    let parts : front ++ behind ≡ all = take-append-drop (position_or_len (is_refused (Some most)) all) all in
    let same : walked (Some most) exceeds.events ≡ front =
    ap (walked (Some most)) (events_one true file exceeds.events all exceeds.are measures.are) in
    elim exceeds.exceeds [
      | inl longer ↦
          omega (
            arith,
            longer,
            ap (λ (es : List Piece). length (relaid es)) same,
            made_front front behind,
            ap (λ (es : List Piece). length (relaid es)) parts,
            measures.bytes,
            bytes,
          )
      | inr longer ↦
          omega (
            arith,
            longer,
            ap (λ (es : List Piece). length (told_lines es)) same,
            lines_front front behind,
            ap (λ (es : List Piece). length (told_lines es)) parts,
            short_events file all small measures.are,
            measures.lines,
            room,
            some,
          )
    ]
