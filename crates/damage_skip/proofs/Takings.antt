-- How many bytes the steps of a walk take, where the bytes of the file may be shown.
use Rattle.std.proofs.Common.{◌≡◌, ◌∙◌, ℕ, ◌+◌, ◌-◌, ◌*◌, ◌<◌, ◌≤◌, min, Bool, ◌⊎◌, inl, inr, Option, Some, None, Result, Ok, Err, IfSome, List, [], ◌∷◌, ◌++◌, length, refl, sym, subst, arith}
use Rattle.std.proofs.lemmas.Bool.{cases_lt}
use Rattle.std.specs.Result.{IsErr}
use Rattle.block_layout.specs.Layout.{IsBlock, blocks_below}
use Rattle.chunk_header.proofs.Decided.{IsDecided, both, not_decided}
use Rattle.chunk_header.specs.declared.Header.{Header}
use Rattle.chunk_header.specs.Views.{IsHeader, value_of_header}
use Rattle.meta_chunk.specs.Files.{max_data_size}
use Rattle.chunk_reader.specs.BlockJudges.{StopsAtBlockInChunk, JudgesUpTo}
use Rattle.chunk_reader.specs.Heads.{IsHead}
use Rattle.chunk_reader.specs.Places.{end_by, end_at}
use Rattle.chunk_reader.specs.Reasons.{Applies, NoneOf, header_reasons, loading_reasons}
use Rattle.chunk_reader.specs.declared.heads.Head.{Head}
use Rattle.chunk_reader.specs.declared.heads.Head.TheVariants as head
use Rattle.chunk_reader.specs.declared.judging.LoadEnd.{LoadEnd}
use Rattle.chunk_reader.specs.declared.reasons.Why.{Why}
use Rattle.chunk_reader.proofs.FaultsDecided.{reason_decided}
use Rattle.chunk_reader.proofs.PassedChunks.{end_at_after}
use Rattle.chunk_reader.proofs.Rooms.{IsSized}
use Rattle.chunk_reader.proofs.Verdicts.{end_by-at}
use Rattle.chunk_reader.proofs.WholeHeads.{HasRightHead, none_loading, none_unpassed}
use Rattle.damage_skip.specs.Pieces.{Piece}
use Rattle.damage_skip.specs.Resyncs.{StandsFrom, Contradicts}
use Rattle.damage_skip.specs.Steps.{IsEndOf, ContradictsIn, LeadsTo, AgreesAt, DisagreesAt, IsPieceThere, TakesForPiece}
use Rattle.damage_skip.specs.Takings.{LooksAtBlocks, MayTakeAt, StopsInChunk, StopsWhereContradicted, MayTakeFor, AccountFor, IsTakenFrom, IsTakenUpTo}
use Rattle.damage_skip.specs.Walks.{TakesByCall}
use Rattle.damage_skip.specs.declared.events.Event.{Event}
use Rattle.damage_skip.specs.declared.events.WalkEnd.{WalkEnd}
use Rattle.damage_skip.specs.declared.pieces.NextPiece.{NextPiece}
use Rattle.damage_skip.proofs.PieceSteps.{says_size}
use Rattle.damage_skip.proofs.Resyncing.{StandNotBelow}
use Rattle.damage_skip.proofs.WalkSteps.{tiles_joined, piece_value}

-- so may fewer be taken
looks_fewer : (P : (block previous next : ℕ) → Type 0) (from to less taken : ℕ) → less ≤ taken → LooksAtBlocks P from to taken
    → LooksAtBlocks P from to less
looks_fewer P from to less taken few h =
    record { up_to = h.up_to; within = h.within; first = h.first; few = omega (arith, few, h.few) }

pub may_take_less : (file : List ℕ) (place less taken : ℕ) → less ≤ taken → MayTakeAt file place taken → MayTakeAt file place less
may_take_less file place less taken few (inl (unread, looks)) =
    let head : ℕ = min 40 (length file - place) in
    inl (unread, looks_fewer (StandsFrom file place) place (length file) (less - head) (taken - head) (omega (arith, few)) looks)
may_take_less file place less taken few (inr (inl (right, unloaded, looks))) =
    inr (inl (right, unloaded, looks_fewer (Contradicts file place (end_at file place)) place (min (end_at file place) (length file)) (less - 40) (taken - 40) (omega (arith, few)) looks))
may_take_less file place less taken few (inr (inr (loaded, within))) = inr (inr (loaded, omega (arith, few, within)))

-- the block that is looked at last, before which P holds of none
looks_at : (P : (block previous next : ℕ) → Type 0) (from to block before middle after : ℕ) → IsBlock block → from ≤ block → block < to
    → ((b p n : ℕ) → P b p n → block ≤ b) → middle ≤ before + 24 * (blocks_below block - blocks_below from) → after ≤ middle + 24
    → LooksAtBlocks P from to (after - before)
looks_at P from to block before middle after at begun below none few more = record {
  up_to = block + 1;
  within = omega (arith, below);
  first = λ b p n h. omega (arith, none b p n h);
  few = omega (arith, at, begun, few, more);
}

-- or P holds of none up to the end
looks_past : (P : (block previous next : ℕ) → Type 0) (from to block before after : ℕ) → IsBlock block → to ≤ block → block < to + 65536
    → ((b p n : ℕ) → P b p n → block ≤ b) → after ≤ before + 24 * (blocks_below block - blocks_below from)
    → LooksAtBlocks P from to (after - before)
looks_past P from to block before after at past near none few = record {
  up_to = to;
  within = omega arith;
  first = λ b p n h. omega (arith, past, none b p n h);
  few = omega (arith, at, past, near, few);
}

-- so of the headers that are right and sane
pub stand-looks : (bytes : Option (List ℕ)) (size place block before middle after : ℕ) → IsBlock block → place ≤ block → block < size
    → IfSome bytes (λ file. StandNotBelow file place block)
    → middle ≤ before + 24 * (blocks_below block - blocks_below place) → after ≤ middle + 24
    → IfSome bytes (λ file. LooksAtBlocks (StandsFrom file place) place size (after - before))
stand-looks None size place block before middle after at begun below none few more = tt
stand-looks (Some file) size place block before middle after at begun below none few more =
    looks_at (StandsFrom file place) place size block before middle after at begun below none few more

pub stand-looked : (bytes : Option (List ℕ)) (size place block before after : ℕ) → IsBlock block → size ≤ block → block < size + 65536
    → IfSome bytes (λ file. StandNotBelow file place block) → after ≤ before + 24 * (blocks_below block - blocks_below place)
    → IfSome bytes (λ file. LooksAtBlocks (StandsFrom file place) place size (after - before))
stand-looked None size place block before after at past near none few = tt
stand-looked (Some file) size place block before after at past near none few =
    looks_past (StandsFrom file place) place size block before after at past near none few

-- whether none of some reasons applies
none_decided : (file : List ℕ) (place : ℕ) (reasons : List Why) → IsDecided (NoneOf (Applies file place) reasons)
none_decided file place [] = inl tt
none_decided file place (w ∷ reasons) = both _ _ (not_decided _ (reason_decided file place w)) (none_decided file place reasons)

-- a chunk that can be loaded has a header that can be read
loaded_right : (file : List ℕ) (place : ℕ) → NoneOf (Applies file place) loading_reasons → NoneOf (Applies file place) header_reasons
loaded_right file place loaded = (loaded.0, (loaded.1.0, tt))

-- no more than a chunk header, and no more than the file has, whatever stands there
pub may_take_head : (file : List ℕ) (place taken : ℕ) → place + taken ≤ length file → taken ≤ 40 → MayTakeAt file place taken
may_take_head file place taken within few = elim (none_decided file place header_reasons) [
  | inr unread ↦
      inl (
        unread,
        record { up_to = place; within = omega (arith, within); first = λ b p n h. omega (arith, h.from); few = omega (arith, within, few) },
      )
  | inl right ↦ elim (none_decided file place loading_reasons) [
    | inl loaded ↦ inr (inr (loaded, omega (arith, few, end_at_after file place)))
    | inr unloaded ↦ inr (inl (
      right,
      unloaded,
      record {
        up_to = place;
        within = omega (arith, within, end_at_after file place);
        first = λ b p n h. omega (arith, h.from);
        few = omega (arith, few);
      },
    ))
  ]
]

pub takes_head : (bytes : Option (List ℕ)) (size place before after : ℕ) → IsSized bytes (Some size) → place < size → after ≤ before + 40
    → after + place ≤ before + size → IfSome bytes (λ file. MayTakeAt file place (after - before))
takes_head None size place before after sized below few within = tt
takes_head (Some file) size place before after sized below few within =
    may_take_head file place (after - before) (omega (arith, sized, below, within)) (omega (arith, few))

-- no chunk header can be read
pub unread_short : (bytes : Option (List ℕ)) (place : ℕ) (found : Head) → found ≡ head.Short → IfSome bytes (λ file. IsHead file place found)
    → IfSome bytes (λ file. ¬ NoneOf (Applies file place) header_reasons)
unread_short None place found is there = tt
unread_short (Some file) place found is there = let short : IsHead file place head.Short = subst (IsHead file place) is there in λ none. none.0 short

pub unread_hash : (bytes : Option (List ℕ)) (place : ℕ) (found : Head) → found ≡ head.BadHash → IfSome bytes (λ file. IsHead file place found)
    → IfSome bytes (λ file. ¬ NoneOf (Applies file place) header_reasons)
unread_hash None place found is there = tt
unread_hash (Some file) place found is there =
    let wrong : IsHead file place head.BadHash = subst (IsHead file place) is there in
    λ none. none.1.0 wrong.1

-- so reading goes on where a block leads that is searched for
pub takes_resync : (bytes now : Option (List ℕ)) (size place before middle after : ℕ) → now ≡ bytes → IsSized bytes (Some size)
    → IfSome bytes (λ file. ¬ NoneOf (Applies file place) header_reasons)
    → middle ≤ before + 40 → middle + place ≤ before + size
    → IfSome now (λ file. LooksAtBlocks (StandsFrom file place) place size (after - middle))
    → IfSome bytes (λ file. MayTakeAt file place (after - before))
takes_resync None now size place before middle after same sized unread few within looks = tt
takes_resync (Some file) None size place before middle after same sized unread few within looks = absurd (cc same)
takes_resync (Some file) (Some other) size place before middle after same sized unread few within looks =
    let h : LooksAtBlocks (StandsFrom file place) place size (after - middle) =
    subst (λ (f : List ℕ). LooksAtBlocks (StandsFrom f place) place size (after - middle)) (cc same) looks in
    inl (
      unread,
      record { up_to = h.up_to; within = omega (arith, h.within, sized); first = h.first; few = omega (arith, h.few, few, within, sized) },
    )

pub stops_unread : (bytes : Option (List ℕ)) (place taken : ℕ) → IfSome bytes (λ file. ¬ NoneOf (Applies file place) header_reasons)
    → IfSome bytes (λ file. StopsWhereContradicted file place taken)
stops_unread None place taken unread = tt
stops_unread (Some file) place taken unread = λ loaded. absurd (unread (loaded_right file place loaded))

-- a chunk whose header is right and whose data isn't read, as the file hasn't it to its end or it is too large
abbrev pub IsUnread : (size place : ℕ) → Header → Type 0
IsUnread size place h = (size < end_by place (value_of_header h)) ⊎ (max_data_size < h.data_size)

unloaded : (file : List ℕ) (place : ℕ) (h : Header) → IsHeader h → HasRightHead h place file → IsUnread (length file) place h
    → ¬ NoneOf (Applies file place) loading_reasons
unloaded file place h fits right (inl past) = λ none. none.1.1.0 (omega (arith, past, end_by-at file place h fits right.1))
unloaded file place h fits right (inr large) =
    λ none. none.1.1.1.0 (subst (λ (v : ℕ). max_data_size < v) (says_size file place h fits right) large)

looks_unloaded : (file : List ℕ) (place end to taken : ℕ) → end ≡ end_at file place → to ≤ end → to ≤ length file
    → LooksAtBlocks (ContradictsIn file place end place to) place to taken
    → LooksAtBlocks (Contradicts file place (end_at file place)) place (min (end_at file place) (length file)) taken
looks_unloaded file place end to taken ends in_chunk within h = record {
  up_to = h.up_to;
  within = omega (arith, h.within, within, in_chunk, ends);
  first = λ b p n c. elim (cases_lt b to) [
    | inl below ↦ h.first b p n (record {
      contradicts = subst (λ (e : ℕ). Contradicts file place e b p n) (sym ends) c;
      from_place = c.from;
      below = below;
    })
    | inr past ↦ omega (arith, h.within, past)
  ];
  few = h.few;
}

pub takes_unloaded : (bytes : Option (List ℕ)) (size place end to : ℕ) (h : Header) (before after : ℕ) → IsSized bytes (Some size) → IsHeader h
    → IfSome bytes (HasRightHead h place) → IsUnread size place h → end ≡ end_by place (value_of_header h) → to ≤ end → to ≤ size
    → IfSome bytes (λ file. LooksAtBlocks (ContradictsIn file place end place to) place to (after - before))
    → IfSome bytes (λ file. MayTakeAt file place (40 + (after - before)))
takes_unloaded None size place end to h before after sized fits right why is in_chunk within looks = tt
takes_unloaded (Some file) size place end to h before after sized fits right why is in_chunk within looks =
    let ends : end ≡ end_at file place = is ∙ end_by-at file place h fits right.1 in
    let unread : IsUnread (length file) place h = subst (λ (n : ℕ). IsUnread n place h) (omega (arith, sized)) why in
    inr (inl (
      right.0,
      unloaded file place h fits right unread,
      looks_fewer (Contradicts file place (end_at file place)) place (min (end_at file place) (length file)) ((40 + (after - before)) - 40) (after - before) (omega arith)
          (looks_unloaded file place end to (after - before) ends in_chunk (omega (arith, within, sized)) looks),
    ))

pub stops_unloaded : (bytes : Option (List ℕ)) (size place taken : ℕ) (h : Header) → IsSized bytes (Some size) → IsHeader h
    → IfSome bytes (HasRightHead h place) → IsUnread size place h
    → IfSome bytes (λ file. StopsWhereContradicted file place taken)
stops_unloaded None size place taken h sized fits right why = tt
stops_unloaded (Some file) size place taken h sized fits right why =
    let unread : IsUnread (length file) place h = subst (λ (n : ℕ). IsUnread n place h) (omega (arith, sized)) why in
    λ loaded. absurd (unloaded file place h fits right unread loaded)

-- a chunk that is loaded, no more of which is taken than it has
pub takes_loaded : (bytes : Option (List ℕ)) (size place end : ℕ) (h : Header) (before after : ℕ) → IsSized bytes (Some size) → IsHeader h
    → IfSome bytes (HasRightHead h place) → end ≡ end_by place (value_of_header h) → end ≤ size → h.data_size ≤ max_data_size
    → after + (place + 40) ≤ before + end
    → IfSome bytes (λ file. MayTakeAt file place (40 + (after - before)))
takes_loaded None size place end h before after sized fits right is within small few = tt
takes_loaded (Some file) size place end h before after sized fits right is within small few =
    let ends : end ≡ end_at file place = is ∙ end_by-at file place h fits right.1 in
    inr (inr (
      none_loading (Some file) place h fits right.1 (none_unpassed (Some file) size place h sized fits right (omega (arith, is, within))) small,
      omega (arith, few, ends, end_at_after file place),
    ))

-- nor behind a block that contradicts it
pub stops_loaded : (bytes : Option (List ℕ)) (place end : ℕ) (h : Header) (before after : ℕ) → IsHeader h
    → IfSome bytes (HasRightHead h place) → end ≡ end_by place (value_of_header h)
    → IfSome bytes (λ file. StopsInChunk file place end (place + 40 + (after - before)))
    → IfSome bytes (λ file. StopsWhereContradicted file place (40 + (after - before)))
stops_loaded None place end h before after fits right is stops = tt
stops_loaded (Some file) place end h before after fits right is stops =
    let ends : end ≡ end_at file place = is ∙ end_by-at file place h fits right.1 in
    λ loaded b p n c. omega (arith, stops b p n (subst (λ (e : ℕ). Contradicts file place e b p n) (sym ends) c))

-- reading stops at the first block that contradicts the chunk
pub stops_at_block : (bytes : Option (List ℕ)) (begin end : ℕ) (told : Option ℕ) (place taken : ℕ) → IsEndOf told end
    → IfSome bytes (λ file. StopsAtBlockInChunk (AgreesAt begin told file) (DisagreesAt begin told file) begin end place taken)
    → IfSome bytes (λ file. StopsInChunk file begin end (begin + 40 + taken))
stops_at_block None begin end told place taken is stops = tt
stops_at_block (Some file) begin end told place taken is (block, first, few) =
    λ b p n c. elim (cases_lt b block) [
      | inl before ↦ absurd (first.before b c.stands.is_block c.from before end is b p n
          (record { contradicts = c; from_place = omega arith; below = omega arith }))
      | inr past ↦ omega (arith, few, past)
    ]

-- which no block does where each agrees
pub stops_nowhere : (bytes : Option (List ℕ)) (begin end to : ℕ) → IfSome bytes (λ file. LeadsTo file begin end begin end None)
    → IfSome bytes (λ file. StopsInChunk file begin end to)
stops_nowhere None begin end to none = tt
stops_nowhere (Some file) begin end to none =
    λ b p n c. absurd (none b p n (record { contradicts = c; from_place = c.from; below = c.below }))

-- no more block headers are looked at than up to that block
pub judged-looks : (bytes : Option (List ℕ)) (begin end : ℕ) (told : Option ℕ) (from to taken : ℕ) → IsEndOf told end
    → IfSome bytes (λ file. JudgesUpTo (AgreesAt begin told file) from to taken)
    → IfSome bytes (λ file. LooksAtBlocks (ContradictsIn file begin end from to) from to taken)
judged-looks None begin end told from to taken is h = tt
judged-looks (Some file) begin end told from to taken is h = record {
  up_to = h.up_to;
  within = h.within;
  first = λ b p n c. elim (cases_lt (b + 1) h.up_to) [
    | inl before ↦ absurd (h.accepted b c.contradicts.stands.is_block c.from_place (omega (arith, before)) end is b p n
        (record { contradicts = c.contradicts; from_place = omega arith; below = omega arith }))
    | inr past ↦ past
  ];
  few = h.few;
}

-- with the chunk header before it
head_taken : (bytes now : Option (List ℕ)) (place before middle after : ℕ) → now ≡ bytes → middle ≤ before + 40
    → IfSome now (λ file. MayTakeAt file place (40 + (after - middle))) → IfSome bytes (λ file. MayTakeAt file place (after - before))
head_taken None now place before middle after same few takes = tt
head_taken (Some file) None place before middle after same few takes = absurd (cc same)
head_taken (Some file) (Some other) place before middle after same few takes =
    may_take_less file place (after - before) (40 + (after - middle)) (omega (arith, few))
    (subst (λ (f : List ℕ). MayTakeAt f place (40 + (after - middle))) (cc same) takes)

head_stops : (bytes now : Option (List ℕ)) (place before middle after : ℕ) → now ≡ bytes → middle ≤ before + 40
    → IfSome now (λ file. StopsWhereContradicted file place (40 + (after - middle)))
    → IfSome bytes (λ file. StopsWhereContradicted file place (after - before))
head_stops None now place before middle after same few stops = tt
head_stops (Some file) None place before middle after same few stops = absurd (cc same)
head_stops (Some file) (Some other) place before middle after same few stops =
    let here : StopsWhereContradicted file place (40 + (after - middle)) =
    subst (λ (f : List ℕ). StopsWhereContradicted f place (40 + (after - middle))) (cc same) stops in
    λ loaded b p n c. omega (arith, few, here loaded b p n c)

-- both of them, and each of both
pub taken_for : (bytes : Option (List ℕ)) (place taken : ℕ) → IfSome bytes (λ file. MayTakeAt file place taken)
    → IfSome bytes (λ file. StopsWhereContradicted file place taken) → IfSome bytes (λ file. MayTakeFor file place taken)
taken_for None place taken takes stops = tt
taken_for (Some file) place taken takes stops = (takes, stops)

pub taken_at : (bytes : Option (List ℕ)) (place taken : ℕ) → IfSome bytes (λ file. MayTakeFor file place taken)
    → IfSome bytes (λ file. MayTakeAt file place taken)
taken_at None place taken h = tt
taken_at (Some file) place taken h = h.0

stopped_at : (bytes : Option (List ℕ)) (place taken : ℕ) → IfSome bytes (λ file. MayTakeFor file place taken)
    → IfSome bytes (λ file. StopsWhereContradicted file place taken)
stopped_at None place taken h = tt
stopped_at (Some file) place taken h = h.1

-- whichever way the piece was looked for
pub takes_headed : {E : Type 0} (result : Result NextPiece E) (bytes now : Option (List ℕ)) (place before middle after : ℕ) → now ≡ bytes
    → middle ≤ before + 40 → IfSome now (λ file. TakesForPiece result file place (40 + (after - middle)))
    → IfSome bytes (λ file. TakesForPiece result file place (after - before))
takes_headed (Err e) bytes now place before middle after same few takes = head_taken bytes now place before middle after same few takes
takes_headed (Ok piece) bytes now place before middle after same few takes =
    taken_for bytes place (after - before)
    (head_taken bytes now place before middle after same few (taken_at now place (40 + (after - middle)) takes))
    (head_stops bytes now place before middle after same few (stopped_at now place (40 + (after - middle)) takes))

-- also where there is none
pub takes_failed : (result : Result NextPiece LoadEnd) (bytes : Option (List ℕ)) (place taken : ℕ) → IsErr result
    → IfSome bytes (λ file. MayTakeAt file place taken) → IfSome bytes (λ file. TakesForPiece result file place taken)
takes_failed (Ok piece) bytes place taken failed takes = absurd (cc failed)
takes_failed (Err e) bytes place taken failed takes = takes

-- pieces account for fewer bytes too
account_less : (file : List ℕ) (pieces : List Piece) (less taken : ℕ) → less ≤ taken → AccountFor file pieces taken → AccountFor file pieces less
account_less file [] less taken few h = omega (arith, few, h)
account_less file (piece ∷ pieces) less taken few (here, at, rest) =
    (here, at, account_less file pieces (less - here) (taken - here) (omega (arith, few)) rest)

-- and pieces behind others for the bytes of both
account_joined : (file : List ℕ) (front rest : List Piece) (taken more all : ℕ) → all ≤ taken + more → AccountFor file front taken
    → AccountFor file rest more → AccountFor file (front ++ rest) all
account_joined file [] rest taken more all few h behind = account_less file rest all more (omega (arith, few, h)) behind
account_joined file (piece ∷ front) rest taken more all few (here, at, h) behind =
    (here, at, account_joined file front rest (taken - here) more (all - here) (omega (arith, few)) h behind)

-- nothing is taken of no pieces
pub taken-none : (unread_ok : Bool) (file : List ℕ) (place taken : ℕ) → taken ≤ 0 → IsTakenFrom unread_ok file place place taken
taken-none unread_ok file place taken none = ([], refl, none)

pub taken-start : (bytes : Option (List ℕ)) (unread_ok : Bool) (place taken : ℕ) → taken ≤ 0 → IfSome bytes (λ file. IsTakenFrom unread_ok file place place taken)
taken-start None unread_ok place taken none = tt
taken-start (Some file) unread_ok place taken none = taken-none unread_ok file place taken none

pub taken-joined : (unread_ok : Bool) (file : List ℕ) (from middle to taken more all : ℕ) → all ≤ taken + more
    → IsTakenFrom unread_ok file from middle taken → IsTakenFrom unread_ok file middle to more → IsTakenFrom unread_ok file from to all
taken-joined unread_ok file from middle to taken more all few (front, tiles, h) (rest, behind, g) =
    (front ++ rest, tiles_joined unread_ok file from middle to front rest tiles behind, account_joined file front rest taken more all few h g)

pub up_to-joined : (unread_ok : Bool) (file : List ℕ) (from middle to taken more all : ℕ) → all ≤ taken + more
    → IsTakenFrom unread_ok file from middle taken → IsTakenUpTo unread_ok file middle to more → IsTakenUpTo unread_ok file from to all
up_to-joined unread_ok file from middle to taken more all few h (passed, behind, at) = (
  taken + passed,
  taken-joined unread_ok file from middle to taken passed (taken + passed) (omega arith) h behind,
  may_take_less file to (all - (taken + passed)) (more - passed) (omega (arith, few)) at,
)

-- a walk that stands still
pub taken-still : (bytes : Option (List ℕ)) (unread_ok : Bool) (size place taken : ℕ) → IsSized bytes (Some size) → place ≤ size → taken ≤ 0
    → IfSome bytes (λ file. IsTakenUpTo unread_ok file place place taken)
taken-still None unread_ok size place taken sized within none = tt
taken-still (Some file) unread_ok size place taken sized within none =
    (0, taken-none unread_ok file place 0 (omega arith), may_take_head file place (taken - 0) (omega (arith, sized, within, none)) (omega (arith, none)))

-- or goes on past a piece
pub taken-past : (bytes now : Option (List ℕ)) (unread_ok kept : Bool) (size from at : ℕ) (piece : NextPiece) (start middle after : ℕ)
    → now ≡ bytes → kept ≡ unread_ok → IsSized bytes (Some size) → at < size
    → IfSome bytes (λ file. IsTakenFrom unread_ok file from at (middle - start)) → IfSome now (IsPieceThere kept at piece)
    → IfSome now (λ file. MayTakeFor file at (after - middle)) → IfSome bytes (λ file. IsTakenFrom unread_ok file from piece.end (after - start))
taken-past None now unread_ok kept size from at piece start middle after same same_unread_ok sized below on there takes = tt
taken-past (Some file) None unread_ok kept size from at piece start middle after same same_unread_ok sized below on there takes = absurd (cc same)
taken-past (Some file) (Some other) unread_ok kept size from at piece start middle after same same_unread_ok sized below on there takes =
    let is : other ≡ file = cc same in
    let here : IsPieceThere unread_ok at piece file = subst (λ (k : Bool). IsPieceThere k at piece file) same_unread_ok (subst (IsPieceThere kept at piece) is there) in
    let may : MayTakeFor file at (after - middle) = subst (λ (f : List ℕ). MayTakeFor f at (after - middle)) is takes in
    taken-joined unread_ok file from at piece.end (middle - start) (after - middle) (after - start) (omega arith) on
    (piece_value at piece ∷ [], (refl, omega (arith, sized, below), here, refl), (after - middle, may, omega arith))

-- or stops at one
pub taken-to : (bytes now : Option (List ℕ)) (unread_ok : Bool) (from at start middle after : ℕ) → now ≡ bytes
    → IfSome bytes (λ file. IsTakenFrom unread_ok file from at (middle - start)) → IfSome now (λ file. MayTakeAt file at (after - middle))
    → IfSome bytes (λ file. IsTakenUpTo unread_ok file from at (after - start))
taken-to None now unread_ok from at start middle after same on takes = tt
taken-to (Some file) None unread_ok from at start middle after same on takes = absurd (cc same)
taken-to (Some file) (Some other) unread_ok from at start middle after same on takes = (
  middle - start,
  on,
  may_take_less file at ((after - start) - (middle - start)) (after - middle) (omega arith)
      (subst (λ (f : List ℕ). MayTakeAt f at (after - middle)) (cc same) takes),
)

-- a call of a walk with an event or at the file's end
pub called-on : (told bytes : Option (List ℕ)) (unread_ok kept : Bool) (from place next : ℕ) (result : Result (Option Event) WalkEnd) (event : Option Event)
    (start middle after : ℕ) → told ≡ bytes → unread_ok ≡ kept → result ≡ Ok event
    → IfSome bytes (λ file. IsTakenFrom kept file from place (middle - start))
    → IfSome told (λ file. TakesByCall unread_ok file place next result (after - middle))
    → IfSome bytes (λ file. IsTakenFrom kept file from next (after - start))
called-on told None unread_ok kept from place next result event start middle after same same_unread_ok is on takes = tt
called-on None (Some file) unread_ok kept from place next result event start middle after same same_unread_ok is on takes = absurd (cc same)
called-on (Some other) (Some file) unread_ok kept from place next result event start middle after same same_unread_ok is on takes =
    let call : TakesByCall unread_ok other place next (Ok event) (after - middle) =
    subst (λ (r : Result (Option Event) WalkEnd). TakesByCall unread_ok other place next r (after - middle)) is takes in
    let here : IsTakenFrom kept file place next (after - middle) =
    subst (λ (k : Bool). IsTakenFrom k file place next (after - middle)) same_unread_ok
    (subst (λ (f : List ℕ). IsTakenFrom unread_ok f place next (after - middle)) (cc same) call) in
    taken-joined kept file from place next (middle - start) (after - middle) (after - start) (omega arith) on here

-- and one without
pub called-to : (told bytes : Option (List ℕ)) (unread_ok kept : Bool) (from place next : ℕ) (result : Result (Option Event) WalkEnd) (why : WalkEnd)
    (start middle after : ℕ) → told ≡ bytes → unread_ok ≡ kept → result ≡ Err why
    → IfSome bytes (λ file. IsTakenFrom kept file from place (middle - start))
    → IfSome told (λ file. TakesByCall unread_ok file place next result (after - middle))
    → IfSome bytes (λ file. IsTakenUpTo kept file from next (after - start))
called-to told None unread_ok kept from place next result why start middle after same same_unread_ok is on takes = tt
called-to None (Some file) unread_ok kept from place next result why start middle after same same_unread_ok is on takes = absurd (cc same)
called-to (Some other) (Some file) unread_ok kept from place next result why start middle after same same_unread_ok is on takes =
    let call : TakesByCall unread_ok other place next (Err why) (after - middle) =
    subst (λ (r : Result (Option Event) WalkEnd). TakesByCall unread_ok other place next r (after - middle)) is takes in
    let here : IsTakenUpTo kept file place next (after - middle) =
    subst (λ (k : Bool). IsTakenUpTo k file place next (after - middle)) same_unread_ok
    (subst (λ (f : List ℕ). IsTakenUpTo unread_ok f place next (after - middle)) (cc same) call) in
    up_to-joined kept file from place next (middle - start) (after - middle) (after - start) (omega arith) on here

-- before the first call nothing was taken
pub taken-front : (bytes : Option (List ℕ)) (unread_ok : Bool) (place taken : ℕ) → place ≡ 0 → taken ≤ 0
    → IfSome bytes (λ file. IsTakenFrom unread_ok file 0 place taken)
taken-front bytes unread_ok place taken front none =
    subst (λ (p : ℕ). IfSome bytes (λ file. IsTakenFrom unread_ok file p place taken)) front (taken-start bytes unread_ok place taken none)

pub up_to-none : (unread_ok : Bool) (file : List ℕ) (taken : ℕ) → taken ≤ 0 → IsTakenUpTo unread_ok file 0 0 taken
up_to-none unread_ok file taken none =
    (0, taken-none unread_ok file 0 0 (omega arith), may_take_head file 0 (taken - 0) (omega (arith, none)) (omega (arith, none)))
