-- Passes over the blocks of a file that lie within a chunk.
use Rattle.std.proofs.Common.{◌≡◌, ◌∙◌, ℕ, ◌+◌, ◌-◌, ◌*◌, ◌%◌, ◌^◌, ◌<◌, ◌≤◌, Option, Some, None, IfSome, IsSomeAnd, List, inl, inr, sym, ap, subst, arith}
use Rattle.std.proofs.lemmas.Bool.{cases_lt}
use Rattle.block_layout.specs.Layout.{IsBlock, blocks_below, end_of}
use Rattle.block_layout.specs.NextPlaces.{IsOnBoundary, usable_from}
use Rattle.block_layout.proofs.Ends.{end_of-some, end_of-more, end_of_room}
use Rattle.chunk_reader.proofs.Rooms.{end_of-le}
use Rattle.chunk_reader.specs.BlockJudges.{EachBlock, StopsAtBlock, StopsAtBlockInChunk, JudgesUpTo}
use Rattle.chunk_reader.specs.Places.{HasHeaderOf}
use Rattle.chunk_reader.specs.PlaceChecks.{HasUsableBytes, IsFirstWrong}

-- where no block lies each is accepted
pub accepted-none : (bytes : Option (List ℕ)) (A : List ℕ → ℕ → Type 0) (from to : ℕ) → blocks_below to ≤ blocks_below from
    → IfSome bytes (λ file. EachBlock (A file) from to)
accepted-none None A from to none = tt
accepted-none (Some file) A from to none = λ block at low high. absurd (omega arith)

-- those up to a place and those from there on are all
pub accepted-joined : (bytes now : Option (List ℕ)) (A : List ℕ → ℕ → Type 0) (from middle to : ℕ) → now ≡ bytes
    → IfSome bytes (λ file. EachBlock (A file) from middle) → IfSome now (λ file. EachBlock (A file) middle to)
    → IfSome bytes (λ file. EachBlock (A file) from to)
accepted-joined None now A from middle to same front rest = tt
accepted-joined (Some file) None A from middle to same front rest = cc
accepted-joined (Some file) (Some other) A from middle to same front rest =
    let is : other ≡ file = cc in
    let behind : EachBlock (A file) middle to = subst (λ (f : List ℕ). EachBlock (A f) middle to) is rest in
    λ block at low high.
    elim (cases_lt block middle) [ inl before ↦ front block at low before | inr past ↦ behind block at past high ]

-- those up to a place further on are those up to one before too
pub accepted-narrower : (bytes : Option (List ℕ)) (A : List ℕ → ℕ → Type 0) (from to before : ℕ) → before ≤ to
    → IfSome bytes (λ file. EachBlock (A file) from to) → IfSome bytes (λ file. EachBlock (A file) from before)
accepted-narrower None A from to before less each = tt
accepted-narrower (Some file) A from to before less each = λ block at low high. each block at low (omega (arith, high, less))

-- a block that is accepted is the only one up to the next
pub accepted-one : (bytes : Option (List ℕ)) (A : List ℕ → ℕ → Type 0) (block to : ℕ) → IsBlock block → to ≤ block + 65536
    → IfSome bytes (λ file. A file block) → IfSome bytes (λ file. EachBlock (A file) block to)
accepted-one None A block to is_block near accepted = tt
accepted-one (Some file) A block to is_block near accepted =
    λ b at low high.
    let same : block ≡ b = omega (arith, is_block, at, low, high, near) in subst (A file) same accepted

-- a block that isn't accepted is the first from there on
pub refused-one : (bytes : Option (List ℕ)) (A : List ℕ → ℕ → Type 0) (T : List ℕ → ℕ → ℕ → Type 0) (block to told before after : ℕ)
    → IsBlock block → block < to → after ≤ before + 24 → IfSome bytes (λ file. T file block told)
    → IfSome bytes (λ file. StopsAtBlock (A file) (T file) block to told (after - before))
refused-one None A T block to told before after is_block below few tells = tt
refused-one (Some file) A T block to told before after is_block below few tells = (
  block,
  record {
    is_block = is_block;
    from_place = omega arith;
    below = below;
    tells = tells;
    before = λ b at low high. absurd (omega (arith, low, high));
  },
  omega (arith, few),
)

-- the first behind some that are accepted is the first of all
pub refused-joined : (bytes now : Option (List ℕ)) (A : List ℕ → ℕ → Type 0) (T : List ℕ → ℕ → ℕ → Type 0)
    (from middle near to told before between after : ℕ) → now ≡ bytes → from ≤ middle → near ≤ to
    → IfSome bytes (λ file. EachBlock (A file) from middle) → between + from ≤ before + middle
    → IfSome now (λ file. StopsAtBlock (A file) (T file) middle near told (after - between))
    → IfSome bytes (λ file. StopsAtBlock (A file) (T file) from to told (after - before))
refused-joined None now A T from middle near to told before between after same past less front few stops = tt
refused-joined (Some file) None A T from middle near to told before between after same past less front few stops = cc
refused-joined (Some file) (Some other) A T from middle near to told before between after same past less front few stops =
    let is : other ≡ file = cc in
    let here : StopsAtBlock (A file) (T file) middle near told (after - between) =
    subst (λ (f : List ℕ). StopsAtBlock (A f) (T f) middle near told (after - between)) is stops in
    let (block, first, more) = here in (
      block,
      record {
        is_block = first.is_block;
        from_place = omega (arith, first.from_place, past);
        below = omega (arith, first.below, less);
        tells = first.tells;
        before = λ b at low high.
            elim (cases_lt b middle) [ inl before ↦ front b at low before | inr behind ↦ first.before b at behind high ];
      },
      omega (arith, more, few, past),
    )

-- the first block that isn't accepted behind those that a pass accepted
pub refused-passed : (bytes now : Option (List ℕ)) (A : List ℕ → ℕ → Type 0) (T : List ℕ → ℕ → ℕ → Type 0)
    (from block to told before between after : ℕ) → now ≡ bytes → IsBlock block → from ≤ block → block < to
    → IfSome bytes (λ file. EachBlock (A file) from block) → between ≤ before + 24 * (blocks_below block - blocks_below from)
    → after ≤ between + 24 → IfSome now (λ file. T file block told)
    → IfSome bytes (λ file. StopsAtBlock (A file) (T file) from to told (after - before))
refused-passed None now A T from block to told before between after same is_block past below front few more tells = tt
refused-passed (Some file) None A T from block to told before between after same is_block past below front few more tells = cc
refused-passed (Some file) (Some other) A T from block to told before between after same is_block past below front few more tells =
    let is : other ≡ file = cc in (
      block,
      record {
        is_block = is_block;
        from_place = past;
        below = below;
        tells = subst (λ (f : List ℕ). T f block told) is tells;
        before = front;
      },
      omega (arith, is_block, past, few, more),
    )

-- a pass up to the block that was judged last, before which each is accepted
pub judged-last : (bytes : Option (List ℕ)) (A : List ℕ → ℕ → Type 0) (from block to before between after : ℕ) → IsBlock block → from ≤ block
    → block < to → IfSome bytes (λ file. EachBlock (A file) from block)
    → between ≤ before + 24 * (blocks_below block - blocks_below from) → after ≤ between + 24
    → IfSome bytes (λ file. JudgesUpTo (A file) from to (after - before))
judged-last None A from block to before between after is_block past below front few more = tt
judged-last (Some file) A from block to before between after is_block past below front few more = record {
  up_to = block + 1;
  within = omega (arith, below);
  accepted = λ b at low high. front b at low (omega (arith, high));
  few = omega (arith, is_block, past, few, more);
}

-- or up to its end
pub judged-all : (bytes : Option (List ℕ)) (A : List ℕ → ℕ → Type 0) (from block to before after : ℕ) → IsBlock block → to ≤ block
    → block < to + 65536 → IfSome bytes (λ file. EachBlock (A file) from block)
    → after ≤ before + 24 * (blocks_below block - blocks_below from)
    → IfSome bytes (λ file. JudgesUpTo (A file) from to (after - before))
judged-all None A from block to before after is_block past near front few = tt
judged-all (Some file) A from block to before after is_block past near front few = record {
  up_to = to;
  within = omega arith;
  accepted = λ b at low high. front b at low (omega (arith, high, past));
  few = omega (arith, is_block, past, near, few);
}

-- a block within a chunk's header is the first of the chunk
pub refused-in_header : (bytes : Option (List ℕ)) (A : List ℕ → ℕ → Type 0) (T : List ℕ → ℕ → ℕ → Type 0)
    (begin place end told before after : ℕ) → place ≤ end → after + (begin + 40) ≤ before + end_of begin 40
    → IfSome bytes (λ file. StopsAtBlock (A file) (T file) begin place told (after - before))
    → IfSome bytes (λ file. StopsAtBlockInChunk (A file) (T file) begin end told (after - before))
refused-in_header None A T begin place end told before after within few stops = tt
refused-in_header (Some file) A T begin place end told before after within few (block, first, more) = (
  block,
  record {
    is_block = first.is_block;
    from_place = first.from_place;
    below = omega (arith, first.below, within);
    tells = first.tells;
    before = first.before;
  },
  omega (arith, few, end_of_room begin 40),
)

-- and so is one behind it, behind others that are accepted
pub refused-behind : (bytes now : Option (List ℕ)) (A : List ℕ → ℕ → Type 0) (T : List ℕ → ℕ → ℕ → Type 0)
    (begin place near end told before between after : ℕ) → now ≡ bytes → begin + 40 ≤ place → near ≤ end
    → IfSome bytes (λ file. EachBlock (A file) begin place) → between + (begin + 40) ≤ before + place
    → IfSome now (λ file. StopsAtBlock (A file) (T file) place near told (after - between))
    → IfSome bytes (λ file. StopsAtBlockInChunk (A file) (T file) begin end told (after - before))
refused-behind None now A T begin place near end told before between after same past less front few stops = tt
refused-behind (Some file) None A T begin place near end told before between after same past less front few stops = cc
refused-behind (Some file) (Some other) A T begin place near end told before between after same past less front few stops =
    let is : other ≡ file = cc in
    let here : StopsAtBlock (A file) (T file) place near told (after - between) =
    subst (λ (f : List ℕ). StopsAtBlock (A f) (T f) place near told (after - between)) is stops in
    let (block, first, more) = here in (
      block,
      record {
        is_block = first.is_block;
        from_place = omega (arith, first.from_place, past);
        below = omega (arith, first.below, less);
        tells = first.tells;
        before = λ b at low high.
            elim (cases_lt b place) [ inl before ↦ front b at low before | inr behind ↦ first.before b at behind high ];
      },
      omega (arith, more, few, past),
    )

-- the first that hasn't the header that its chunk gives it is the first wrong one
pub wrong-first : (bytes : Option (List ℕ)) (begin end told taken : ℕ)
    → IfSome bytes (λ file. StopsAtBlockInChunk (HasHeaderOf file begin end) (λ block at. (at ≡ block) × (¬ HasHeaderOf file begin end block)) begin end told taken)
    → IfSome bytes (λ file. IsFirstWrong file begin end begin end told)
wrong-first None begin end told taken stops = tt
wrong-first (Some file) begin end told taken (block, first, few) =
    let P : ℕ → Type 0 = IsFirstWrong file begin end begin end in
    let same : block ≡ told = sym first.tells.0 in
    subst P same (record {
      is_block = first.is_block;
      from_place = first.from_place;
      below = first.below;
      differs = first.tells.1;
      first = first.before;
    })

-- bytes that end by a told place have room
pub HasUsableBytes-before : (told : Option ℕ) (place count end : ℕ) → IsSomeAnd told (λ size. end ≤ size) → end_of place count ≤ end → end ≤ 2 ^ 60
    → HasUsableBytes told place count
HasUsableBytes-before None place count end some within small = elim some [ ]
HasUsableBytes-before (Some size) place count end some within small = (omega arith, omega (arith, some))

-- usable bytes end past the block header before them, where there is one
pub usable-end_of : (place n : ℕ) → 1 ≤ n → usable_from place + n ≤ end_of place n
usable-end_of place n some = omega (arith, end_of-some place n some)

-- the block headers before or within a chunk header take what it spans beyond its usable bytes
pub headers-of_header : (begin : ℕ) → IsOnBoundary begin
    → 24 * (blocks_below (end_of begin 40) - blocks_below begin) + (begin + 40) ≤ end_of begin 40
headers-of_header begin boundary = omega (arith, boundary, end_of-some begin 40 (omega arith))

-- and those behind its data what lies behind these
pub headers-behind : (place end before between after start : ℕ) → place ≤ end → IsOnBoundary end → between + start ≤ before + place
    → after ≤ between + 24 * (blocks_below end - blocks_below place) → after + start ≤ before + end
headers-behind place end before between after start within boundary few more = elim (cases_lt 0 (end % 65536)) [
  | inl some ↦ omega (arith, within, boundary some, few, more)
  | inr none ↦ omega (arith, within, none, few, more)
]

-- a piece of bytes ends where they do or before
pub piece-within : (place count i n now : ℕ) → now ≡ end_of place i → i + n ≤ count → end_of now n ≤ end_of place count
piece-within place count i n now is less =
    let joined : end_of now n ≡ end_of place (i + n) = ap (λ (p : ℕ). end_of p n) is ∙ end_of-more place i n in
    omega (arith, joined, end_of-le place (i + n) count less)

-- and it has room where they have
pub HasUsableBytes-piece : (told : Option ℕ) (place count i n : ℕ) → HasUsableBytes told place count → i + n ≤ count
    → HasUsableBytes told (end_of place i) n
HasUsableBytes-piece None place count i n room less = elim room [ ]
HasUsableBytes-piece (Some size) place count i n room less =
    let within : end_of (end_of place i) n ≤ end_of place count =
    omega (arith, end_of-more place i n, end_of-le place (i + n) count less) in
    (omega (arith, room.0, within), omega (arith, room.1, within))

-- bytes that have room end in the file
pub HasUsableBytes-told : (told : Option ℕ) (place count : ℕ) → HasUsableBytes told place count → IsSomeAnd told (λ size. end_of place count ≤ size)
HasUsableBytes-told None place count room = elim room [ ]
HasUsableBytes-told (Some size) place count room = room.1
