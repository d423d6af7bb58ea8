-- A search by position has an answer or a fault.
use Rattle.std.proofs.Common.{◌≡◌, ℕ, zero, suc, ◌+◌, ◌-◌, ◌<◌, ◌≤◌, ◌⊎◌, false, Option, Some, None, List, [], ◌∷◌, ◌++◌, length, refl, subst, inl, inr, arith}
use Rattle.std.proofs.lemmas.Bool.{cases_lt}
use Rattle.std.proofs.lemmas.Option.{slice_get_cases}
use Rattle.block_layout.specs.Layout.{block_of}
use Rattle.chunk_header.specs.Chunks.{ChunkValue}
use Rattle.chunk_header.specs.SimpleChunks.{IsSimpleChunk}
use Rattle.chunk_header.proofs.Decided.{IsDecided, both, less_decided}
use Rattle.meta_chunk.specs.Files.{IsPlain}
use Rattle.chunk_reader.specs.Holders.{IsOnWay, IsHolder, IsHolderFault}
use Rattle.chunk_reader.specs.Places.{header_at, end_at, chunk_at}
use Rattle.chunk_reader.specs.Reasons.{Applies, NoneOf, unpassed_reasons, strict_reasons}
use Rattle.chunk_reader.specs.PositionSearches.{MayAnswerAt, SearchComesTo, AnswersAt, IsSought, SearchGives, IsSearchFault}
use Rattle.chunk_reader.specs.declared.reasons.Fault.{Fault}
use Rattle.chunk_reader.specs.declared.reasons.Why.TheVariants as why
use Rattle.chunk_reader.proofs.Blocks.{stands_decided}
use Rattle.chunk_reader.proofs.FaultsDecided.{reason_decided, first_or_none, judged}
use Rattle.chunk_reader.proofs.NoReasonLaid.{allowed_where_none}
use Rattle.chunk_reader.proofs.PassedChunks.{end_at_after}
use Rattle.record_seek.proofs.Searching.{all-push}
use Rattle.record_seek.proofs.Ways.{between-push}

-- a holder, or a fault of the search for it
abbrev pub IsHeldOrNot : List ℕ → ℕ → Type 0
IsHeldOrNot file position =
    ((place : ℕ) × IsHolder file position place) ⊎ ((fault : Fault) × IsHolderFault file position fault)

-- from a place on the way
held_from : (file : List ℕ) (position most place : ℕ) → position < place + most → IsOnWay file position place → IsHeldOrNot file position
held_from file position zero place near way = absurd (omega (arith, near, way.before))
held_from file position (suc most) place near way =
    elim (first_or_none (Applies file place) (reason_decided file place) unpassed_reasons) [
      | inl (first, is) ↦ inr (record { at = place; why = first }, inr (way, is))
      | inr none ↦ elim (cases_lt position (end_at file place)) [
        | inl within ↦ inl (place, record { on_way = way; whole = none; within = within })
        | inr before ↦
            held_from file position most (end_at file place) (omega (arith, near, end_at_after file place))
            (record {
              begin = way.begin;
              places = way.places ++ place ∷ [];
              below = way.below;
              told = way.told;
              between = between-push file way.places way.begin place way.between none;
              before = before;
            })
      ]
    ]

-- each position below the file's end has one
pub held_or_not : (file : List ℕ) (position : ℕ) → position < length file → IsHeldOrNot file position
held_or_not file position below =
    elim (stands_decided file (block_of position)) [
      | inl (previous, next, stands) ↦
          held_from file position (position + 1) (block_of position - previous) (omega arith)
          (record {
            begin = block_of position - previous;
            places = [];
            below = below;
            told = (previous, next, stands, refl);
            between = refl;
            before = omega arith;
          })
      | inr none ↦
          inr (
            record { at = block_of position; why = why.BlockHeader },
            inl (
              below,
              record {
                is_block = omega arith;
                below = omega (arith, below);
                unread = λ previous next stands. none (previous, next, stands);
                is_fault = refl;
              },
            ),
          )
    ]

-- what is given, or a fault
abbrev pub IsGivenOrNot : List ℕ → ℕ → Type 0
IsGivenOrNot file position =
    ((given : Option (ℕ × List ℕ)) × SearchGives file position given) ⊎ ((fault : Fault) × IsSearchFault file position fault)

-- a chunk that is read and whose header counts records holds some
pub holds_counted : (k : ChunkValue) → IsPlain k → 0 < k.num_records → IsSimpleChunk k
holds_counted k (small, inl holds) some = holds
holds_counted k (small, inr (inl (kind, rule))) some = absurd (omega (arith, some, (rule.signature refl).1))
holds_counted k (small, inr (inr (inl (kind, rule)))) some = absurd (omega (arith, some, rule.metadata refl))
holds_counted k (small, inr (inr (inr (kind, rule)))) some = absurd (omega (arith, some, (rule.padding refl).0))

-- of the chunk that answers, where it has no fault
pub sought_at : (file : List ℕ) (position place : ℕ) → AnswersAt file position place → NoneOf (Applies file place) (strict_reasons false)
    → (found : ℕ × List ℕ) × IsSought file position found
sought_at file position place answers none =
    let (records, simple) = holds_counted (chunk_at file place) (allowed_where_none false file place none) answers.has.0 in
    elim (slice_get_cases records (position - place)).1 [
      | inr (few, nothing) ↦ absurd (omega (arith, few, simple.num_records, answers.has.0, answers.has.1))
      | inl (bytes, within, there, same) ↦ (
        (place + (position - place), bytes),
        record {
          place = place;
          records = records;
          answers = answers;
          holds = record { without_fault = none; holds = simple };
          record_there = there;
          position_there = refl;
        },
      )
    ]

given_at : (file : List ℕ) (position place : ℕ) → AnswersAt file position place → IsGivenOrNot file position
given_at file position place answers =
    elim (judged false file place) [
      | inl (fault, verdict) ↦ inr (fault, inr (inr (place, answers, verdict)))
      | inr none ↦
          let (found, sought) = sought_at file position place answers none in
          inl (Some found, sought)
    ]

may_decided : (file : List ℕ) (position place : ℕ) → IsDecided (MayAnswerAt file position place)
may_decided file position place =
    both _ _ (less_decided 0 (header_at file place).num_records)
    (less_decided position (place + (header_at file place).num_records))

-- at the file's end
given_end : (file : List ℕ) (position place : ℕ) → place ≤ length file → length file ≤ place → SearchComesTo file position place
    → IsGivenOrNot file position
given_end file position place within past searched =
    let end : place ≡ length file = omega (arith, within, past) in
    inl (None, inr (subst (SearchComesTo file position) end searched))

-- and from a place to which the search comes
given_from : (file : List ℕ) (position most place : ℕ) → length file ≤ place + most → place ≤ length file
    → SearchComesTo file position place → IsGivenOrNot file position
given_from file position zero place near within searched = given_end file position place within (omega (arith, near)) searched
given_from file position (suc most) place near within searched =
    elim (cases_lt place (length file)) [
      | inr past ↦ given_end file position place within past searched
      | inl below ↦ elim (first_or_none (Applies file place) (reason_decided file place) unpassed_reasons) [
        | inl (first, is) ↦ inr (record { at = place; why = first }, inr (inl (searched, below, is)))
        | inr none ↦ elim (may_decided file position place) [
          | inl may ↦ given_at file position place (record { searched = searched; whole = none; has = may })
          | inr not ↦
              let end : ¬ (length file < end_at file place) = none.1.1.0 in
              given_from file position most (end_at file place) (omega (arith, near, end_at_after file place)) (omega (arith, end))
              (record {
                holder = searched.holder;
                places = searched.places ++ place ∷ [];
                holds = searched.holds;
                between = between-push file searched.places searched.holder place searched.between none;
                none = all-push (λ passed. ¬ MayAnswerAt file position passed) searched.places place searched.none not;
              })
        ]
      ]
    ]

-- so each search has one
pub given_or_not : (file : List ℕ) (position : ℕ) → IsGivenOrNot file position
given_or_not file position =
    elim (cases_lt position (length file)) [
      | inr past ↦ inl (None, inl past)
      | inl below ↦ elim (held_or_not file position below) [
        | inr (fault, unheld) ↦ inr (fault, inl unheld)
        | inl (place, holder) ↦
            given_from file position (length file) place (omega arith) (omega (arith, holder.on_way.before, below))
            (record { holder = place; places = []; holds = holder; between = refl; none = tt })
      ]
    ]
