-- Which headers at blocks contradict a chunk.
use Rattle.std.proofs.Common.{◌≡◌, ℕ, ◌+◌, ◌-◌, ◌<◌, ◌≤◌, Option, Some, None, IfSome, List, inl, inr, refl, subst, arith}
use Rattle.std.proofs.lemmas.Bool.{cases_lt}
use Rattle.block_layout.specs.BlockHeaders.{StandsAt}
use Rattle.block_layout.specs.declared.block_header.BlockHeader.{BlockHeader}
use Rattle.chunk_reader.specs.BlockJudges.{EachBlock, IsFirstRefused, StopsAtBlock, StopsAtBlockInChunk}
use Rattle.chunk_reader.specs.Holders.{IsSaneHeaderAt}
use Rattle.chunk_reader.proofs.Blocks.{stands_one}
use Rattle.damage_skip.specs.Steps.{IsEndOf, LeadsTo, AgreesAt, DisagreesAt, limit_of}

-- no header contradicts a chunk where none stands at the only block
pub leads-unread : (bytes : Option (List ℕ)) (begin end block : ℕ) (found : Option BlockHeader) → found ≡ None
    → IfSome bytes (λ file. IsSaneHeaderAt file block found) → IfSome bytes (λ file. LeadsTo file begin end block (block + 1) None)
leads-unread None begin end block found none at = tt
leads-unread (Some file) begin end block found none at =
    let unread : IsSaneHeaderAt file block None = subst (IsSaneHeaderAt file block) none at in
    λ b p n h.
    unread p n (subst (λ (x : ℕ). StandsAt file x p n) (omega (arith, h.from_place, h.below)) h.contradicts.stands)

-- nor where the header there tells of the same chunk
pub leads-agreed : (bytes : Option (List ℕ)) (begin end block : ℕ) (found : Option BlockHeader) (h : BlockHeader) → found ≡ Some h
    → IfSome bytes (λ file. IsSaneHeaderAt file block found) → (block - h.previous ≡ begin) × (block + h.next ≡ end)
    → IfSome bytes (λ file. LeadsTo file begin end block (block + 1) None)
leads-agreed None begin end block found h is at agrees = tt
leads-agreed (Some file) begin end block found h is at agrees =
    let here : StandsAt file block h.previous h.next = subst (IsSaneHeaderAt file block) is at in
    λ b p n other.
    let place : b ≡ block = omega (arith, other.from_place, other.below) in
    let same = stands_one file block p n h.previous h.next (subst (λ (x : ℕ). StandsAt file x p n) place other.contradicts.stands) here in
    elim other.contradicts.differs [
      | inl begins ↦ begins (omega (arith, place, same.0, agrees.0))
      | inr ends ↦ ends (omega (arith, place, same.1, agrees.1))
    ]

-- equal answers lead to one place
pub leads-at : (bytes : Option (List ℕ)) (begin end from to : ℕ) (found leads : Option ℕ) → found ≡ leads
    → IfSome bytes (λ file. LeadsTo file begin end from to found) → IfSome bytes (λ file. LeadsTo file begin end from to leads)
leads-at bytes begin end from to found leads same h = subst (λ (o : Option ℕ). IfSome bytes (λ file. LeadsTo file begin end from to o)) same h

-- where none contradicts up to a place, the first from there on is the first of all
pub leads-joined : (bytes now : Option (List ℕ)) (begin end from middle to : ℕ) (leads : Option ℕ) → now ≡ bytes → from ≤ middle
    → middle ≤ to → IfSome bytes (λ file. LeadsTo file begin end from middle None)
    → IfSome now (λ file. LeadsTo file begin end middle to leads) → IfSome bytes (λ file. LeadsTo file begin end from to leads)
leads-joined None now begin end from middle to leads same ordered on front rest = tt
leads-joined (Some file) None begin end from middle to leads same ordered on front rest = cc
leads-joined (Some file) (Some other) begin end from middle to None same ordered on front rest =
    let is : other ≡ file = cc in
    let behind : LeadsTo file begin end middle to None = subst (λ (f : List ℕ). LeadsTo f begin end middle to None) is rest in
    λ b p n h.
    elim (cases_lt b middle) [
      | inl before ↦ front b p n (record { contradicts = h.contradicts; from_place = h.from_place; below = before })
      | inr past ↦ behind b p n (record { contradicts = h.contradicts; from_place = past; below = h.below })
    ]
leads-joined (Some file) (Some other) begin end from middle to (Some place) same ordered on front rest =
    let is : other ≡ file = cc in
    let behind : LeadsTo file begin end middle to (Some place) = subst (λ (f : List ℕ). LeadsTo f begin end middle to (Some place)) is rest in
    let (block, previous, next, first, leads) = behind in (
      block,
      previous,
      next,
      record {
        holds = record {
          contradicts = first.holds.contradicts;
          from_place = omega (arith, first.holds.from_place);
          below = first.holds.below;
        };
        first = λ b p n h.
            elim (cases_lt b middle) [
              | inl before ↦ absurd (front b p n (record { contradicts = h.contradicts; from_place = h.from_place; below = before }))
              | inr past ↦ first.first b p n (record { contradicts = h.contradicts; from_place = past; below = h.below })
            ];
      },
      leads,
    )

-- it is the first up to a place further on too
pub leads-wider : (bytes : Option (List ℕ)) (begin end from to further place : ℕ) → to ≤ further
    → IfSome bytes (λ file. LeadsTo file begin end from to (Some place)) → IfSome bytes (λ file. LeadsTo file begin end from further (Some place))
leads-wider None begin end from to further place more leads = tt
leads-wider (Some file) begin end from to further place more (block, previous, next, first, leads) = (
  block,
  previous,
  next,
  record {
    holds = record {
      contradicts = first.holds.contradicts;
      from_place = first.holds.from_place;
      below = omega (arith, first.holds.below);
    };
    first = λ b p n h.
        elim (cases_lt b to) [
          | inl before ↦ first.first b p n (record { contradicts = h.contradicts; from_place = h.from_place; below = before })
          | inr past ↦ omega (arith, first.holds.below)
        ];
  },
  leads,
)

-- a block within a chunk, and the places up to which its blocks may lie
pub limit-file : (told : Option ℕ) (size block : ℕ) → block + 1 ≤ limit_of size told → block < size
limit-file None size block within = omega (arith, within)
limit-file (Some end) size block within = omega (arith, within)

pub limit-chunk : (told : Option ℕ) (size block : ℕ) → block + 1 ≤ limit_of size told → IfSome told (λ e. block < e)
limit-chunk None size block within = tt
limit-chunk (Some end) size block within = omega (arith, within)

pub limit-within : (told : Option ℕ) (size to : ℕ) → to ≤ size → IfSome told (λ e. to ≤ e) → to ≤ limit_of size told
limit-within None size to in_file in_chunk = in_file
limit-within (Some end) size to in_file in_chunk = omega (arith, in_file, in_chunk)

-- what holds for each end holds of the file for each
pub each_end : (bytes : Option (List ℕ)) (F : List ℕ → ℕ → Type 0) (told : Option ℕ)
    → ((end : ℕ) → IsEndOf told end → IfSome bytes (λ file. F file end)) → IfSome bytes (λ file. (end : ℕ) → IsEndOf told end → F file end)
each_end None F told each = tt
each_end (Some file) F told each = each

-- where each block agrees none contradicts
none_of : (file : List ℕ) (begin end : ℕ) (told : Option ℕ) (from to : ℕ) → IsEndOf told end → EachBlock (AgreesAt begin told file) from to
    → LeadsTo file begin end from to None
none_of file begin end told from to is each =
    λ b p n h.
    each b h.contradicts.stands.is_block h.from_place h.below end is b p n
    (record { contradicts = h.contradicts; from_place = omega arith; below = omega arith })

pub agreed-none : (bytes : Option (List ℕ)) (begin end : ℕ) (told : Option ℕ) (from to : ℕ) → IsEndOf told end
    → IfSome bytes (λ file. EachBlock (AgreesAt begin told file) from to) → IfSome bytes (λ file. LeadsTo file begin end from to None)
agreed-none None begin end told from to is each = tt
agreed-none (Some file) begin end told from to is each = none_of file begin end told from to is each

-- and the first that doesn't agree leads
first_of : (file : List ℕ) (begin end : ℕ) (told : Option ℕ) (from to block place : ℕ) → IsEndOf told end
    → IsFirstRefused (AgreesAt begin told file) (DisagreesAt begin told file) from to block place → LeadsTo file begin end from to (Some place)
first_of file begin end told from to block place is first =
    leads-wider (Some file) begin end from (block + 1) to place (omega (arith, first.below))
    (leads-joined (Some file) (Some file) begin end from block (block + 1) (Some place) refl first.from_place (omega arith)
    (none_of file begin end told from block is first.before) (first.tells end is))

pub stopped-leads : (bytes : Option (List ℕ)) (begin end : ℕ) (told : Option ℕ) (from to place taken : ℕ) → IsEndOf told end
    → IfSome bytes (λ file. StopsAtBlock (AgreesAt begin told file) (DisagreesAt begin told file) from to place taken)
    → IfSome bytes (λ file. LeadsTo file begin end from to (Some place))
stopped-leads None begin end told from to place taken is stops = tt
stopped-leads (Some file) begin end told from to place taken is (block, first, few) = first_of file begin end told from to block place is first

pub stopped_in_chunk-leads : (bytes : Option (List ℕ)) (begin end : ℕ) (told : Option ℕ) (place taken : ℕ) → IsEndOf told end
    → IfSome bytes (λ file. StopsAtBlockInChunk (AgreesAt begin told file) (DisagreesAt begin told file) begin end place taken)
    → IfSome bytes (λ file. LeadsTo file begin end begin end (Some place))
stopped_in_chunk-leads None begin end told place taken is stops = tt
stopped_in_chunk-leads (Some file) begin end told place taken is (block, first, few) = first_of file begin end told begin end block place is first
