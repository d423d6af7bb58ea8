use Rattle.std.proofs.Common.{◌∙◌, ℕ, ◌+◌, ◌<◌, ◌≤◌, Some, None, Err, Ok, IfSome, sym, ap, subst, arith}
use Rattle.chunk_reader.specs.Holders.{IsHolder}
use Rattle.chunk_reader.specs.Places.{end_at}
use Rattle.chunk_reader.specs.Reasons.{Applies, NoneOf, unpassed_reasons}
use Rattle.chunk_reader.specs.PositionSearches.{AnswersAt}
use Rattle.chunk_reader.proofs.Loads as loads
use Rattle.chunk_reader.proofs.Rooms.{IsSized}
use Rattle.record_seek.proofs.Begun.{numbered-begun}
use Rattle.record_seek.proofs.Seeking.{refused_before, refused-holder, refused-search, answers, refused-answer, gives-answer, gives-nothing, memory-for, memory-in, SearchTakes, takes-headers, takes-record}
use Rattle.record_seek.proofs.seeks.seek.Goals as goal
use Rattle.record_seek.proofs.seeks.seek.Goals.{Start, In-Some, In-Some-2}

-- the told size is that of the file
sized : (g : _) (c : Start g) → IsSized (g.S.Store.bytes c.args.store.now) (Some c.args.size)
sized g c = subst (IsSized (g.S.Store.bytes c.args.store.now)) c.requires.sized.is_told (g.met.S.Store.sized c.args.store.now)

-- the chunk at the begin holds the position
holds : (g : _) (c : In-Some g) → IfSome (g.S.Store.bytes c.args.store.now) (λ file. IsHolder file c.args.at c.in-Some.begin)
holds g c = c.in_ok-begin.ensures.holder c.in-Some.begin (ap Ok c.in-Some.is)

below : (g : _) (c : In-Some g) → c.args.at < c.args.size
below g c = (c.in_ok-begin.ensures.begin c.in-Some.begin (ap Ok c.in-Some.is)).2

-- the chunk that answers
answering : (g : _) (c : In-Some-2 g) → IfSome (g.S.Store.bytes c.args.store.now) (λ file. AnswersAt file c.args.at c.in-Some-2.place)
answering g c =
    answers _ _ c.args.at c.in-Some.begin c.in_ok-place.field-0 (Some c.in-Some-2.place) c.in_ok-begin.ensures.store.same_bytes c.in-Some-2.is
    (c.in_ok-begin.ensures.holder c.in-Some.begin (ap Ok c.in-Some.is)) c.in_ok-place.ensures.answer

-- what is handed out up to its end
takes :
    (g : _) (c : In-Some-2 g) (last : ℕ)
    → IfSome (g.S.Store.bytes c.answering_from.new.store) (λ file. NoneOf (Applies file c.in-Some-2.place) unpassed_reasons
    → last + c.in-Some-2.place ≤ g.S.Store.handed c.answering_from.new.store + end_at file c.in-Some-2.place)
    → IfSome (g.S.Store.bytes c.args.store.now) (SearchTakes c.args.at (g.S.Store.handed c.args.store.now) last)
takes g c last read =
    takes-record _ _ _ c.args.size c.args.at c.in-Some.begin c.in-Some-2.place _ _ _ _ c.in_ok-begin.ensures.store.same_bytes
    (c.in_ok-place.ensures.store.same_bytes ∙ c.in_ok-begin.ensures.store.same_bytes)
    (subst (IsSized (g.S.Store.bytes c.args.store.now)) c.requires.sized.is_told (g.met.S.Store.sized c.args.store.now)) c.requires.sized.in_reach
    (c.in_ok-begin.ensures.holder c.in-Some.begin (ap Ok c.in-Some.is)) c.holder.ensures.handed c.answering_from.ensures.handed (answering g c) read

pub returns-in_err-begin-clause-refused : goal.returns-in_err-begin-clause-refused
returns-in_err-begin-clause-refused g c =
    λ fault e.
    refused-holder _ c.args.at fault
    (c.in_err-begin.ensures.refused fault (ap Err (refused_before c.in_err-begin.field-0.0 fault (rw e at c.from_residual.ensures.1))))

pub answering_from-requires : goal.answering_from-requires
answering_from-requires g c =
    let begin = c.in_ok-begin.ensures.begin c.in-Some.begin (ap Ok c.in-Some.is) in
    record {
      place = record {
        sized = record {
          is_told = c.in_ok-begin.ensures.store.same_told ∙ c.requires.sized.is_told;
          in_reach = c.requires.sized.in_reach;
        };
        from_boundary = begin.0;
        below = omega (arith, begin.1, begin.2);
      };
    }

pub returns-in_err-place-clause-refused : goal.returns-in_err-place-clause-refused
returns-in_err-place-clause-refused g c =
    λ fault e.
    let at = goal.at.returns-in_err-place-clause-refused g c in
    refused-search _ _ c.args.size c.args.at c.in-Some.begin fault c.in_ok-begin.ensures.store.same_bytes (sized g at.Start) (holds g at.In-Some)
    (c.in_err-place.ensures.refused fault
    (ap Err (loads.refused_before c.in_err-place.field-0.0 fault (rw e at c.from_residual-in_err-place.ensures.1))))

pub returns-in_err-place-clause-handed : goal.returns-in_err-place-clause-handed
returns-in_err-place-clause-handed g c =
    let at = goal.at.returns-in_err-place-clause-handed g c in
    takes-headers _ _ c.args.size c.args.at c.in-Some.begin _ _ _ c.in_ok-begin.ensures.store.same_bytes (sized g at.Start) c.requires.sized.in_reach
    (holds g at.In-Some) c.holder.ensures.handed c.answering_from.ensures.handed

pub returns-in_err-place-clause-handed_past : goal.returns-in_err-place-clause-handed_past
returns-in_err-place-clause-handed_past g c =
    λ past. absurd (omega (arith, past, below g (goal.at.returns-in_err-place-clause-handed_past g c).In-Some))

pub returns-in_default-2-clause-found : goal.returns-in_default-2-clause-found
returns-in_default-2-clause-found g c =
    let at = goal.at.returns-in_default-2-clause-found g c in
    gives-nothing _ c.args.at
    (answers _ _ c.args.at c.in-Some.begin c.in_ok-place.field-0 None c.in_ok-begin.ensures.store.same_bytes c.in_default-2.is
    (holds g at.In-Some) c.in_ok-place.ensures.answer)

pub returns-in_default-2-clause-handed : goal.returns-in_default-2-clause-handed
returns-in_default-2-clause-handed g c =
    let at = goal.at.returns-in_default-2-clause-handed g c in
    takes-headers _ _ c.args.size c.args.at c.in-Some.begin _ _ _ c.in_ok-begin.ensures.store.same_bytes (sized g at.Start) c.requires.sized.in_reach
    (holds g at.In-Some) c.holder.ensures.handed c.answering_from.ensures.handed

pub returns-in_default-2-clause-handed_past : goal.returns-in_default-2-clause-handed_past
returns-in_default-2-clause-handed_past g c =
    λ past. absurd (omega (arith, past, below g (goal.at.returns-in_default-2-clause-handed_past g c).In-Some))

pub returns-in_err-chunk-clause-refused : goal.returns-in_err-chunk-clause-refused
returns-in_err-chunk-clause-refused g c =
    λ fault e.
    let at = goal.at.returns-in_err-chunk-clause-refused g c in
    refused-answer _ _ c.args.at c.in-Some-2.place fault
    (c.in_ok-place.ensures.store.same_bytes ∙ c.in_ok-begin.ensures.store.same_bytes) (answering g at.In-Some-2)
    (c.in_err-chunk.ensures.refused fault (ap Err (sym (rw e at c.from_residual-in_err-chunk.ensures.1))))

pub returns-in_err-chunk-clause-handed : goal.returns-in_err-chunk-clause-handed
returns-in_err-chunk-clause-handed g c = takes g (goal.at.returns-in_err-chunk-clause-handed g c).In-Some-2 _ c.in_err-chunk.ensures.handed

pub returns-in_err-chunk-clause-handed_past : goal.returns-in_err-chunk-clause-handed_past
returns-in_err-chunk-clause-handed_past g c =
    λ past. absurd (omega (arith, past, below g (goal.at.returns-in_err-chunk-clause-handed_past g c).In-Some))

pub returns-in_err-chunk-clause-memory : goal.returns-in_err-chunk-clause-memory
returns-in_err-chunk-clause-memory g c =
    λ e.
    let at = goal.at.returns-in_err-chunk-clause-memory g c in
    memory-for _ _ c.args.at c.in-Some-2.place
    (c.in_ok-place.ensures.store.same_bytes ∙ c.in_ok-begin.ensures.store.same_bytes) (answering g at.In-Some-2)
    (c.in_err-chunk.ensures.memory (ap Err (sym (rw e at c.from_residual-in_err-chunk.ensures.1))))

pub returns-in_err-record_of-clause-handed : goal.returns-in_err-record_of-clause-handed
returns-in_err-record_of-clause-handed g c =
    takes g (goal.at.returns-in_err-record_of-clause-handed g c).In-Some-2 _ c.in_ok-chunk.ensures.handed

pub returns-in_err-record_of-clause-handed_past : goal.returns-in_err-record_of-clause-handed_past
returns-in_err-record_of-clause-handed_past g c =
    λ past. absurd (omega (arith, past, below g (goal.at.returns-in_err-record_of-clause-handed_past g c).In-Some))

pub returns-in_err-record_of-clause-memory : goal.returns-in_err-record_of-clause-memory
returns-in_err-record_of-clause-memory g c =
    λ e.
    memory-in _ _ c.args.at c.in-Some-2.place c.in_ok-chunk.chunk
    (c.in_ok-place.ensures.store.same_bytes ∙ c.in_ok-begin.ensures.store.same_bytes)
    (answering g (goal.at.returns-in_err-record_of-clause-memory g c).In-Some-2) c.in_ok-chunk.ensures.begin c.in_ok-chunk.ensures.there

pub returns-clause-found : goal.returns-clause-found
returns-clause-found g c =
    gives-answer _ _ c.args.at c.in-Some-2.place _ c.in_ok-chunk.chunk _
    (c.in_ok-place.ensures.store.same_bytes ∙ c.in_ok-begin.ensures.store.same_bytes) (omega arith)
    (answering g (goal.at.returns-clause-found g c).In-Some-2) c.in_ok-chunk.ensures.begin c.in_ok-chunk.ensures.there c.in_ok-record_of.ensures

pub returns-clause-handed : goal.returns-clause-handed
returns-clause-handed g c = takes g (goal.at.returns-clause-handed g c).In-Some-2 _ c.in_ok-chunk.ensures.handed

pub returns-clause-handed_past : goal.returns-clause-handed_past
returns-clause-handed_past g c =
    λ past. absurd (omega (arith, past, below g (goal.at.returns-clause-handed_past g c).In-Some))

pub returns-clause-begin : goal.returns-clause-begin
returns-clause-begin g c =
    numbered-begun _ _ c.args.at c.in-Some-2.place _ c.in_ok-chunk.chunk _
    (c.in_ok-place.ensures.store.same_bytes ∙ c.in_ok-begin.ensures.store.same_bytes)
    (answering g (goal.at.returns-clause-begin g c).In-Some-2) c.in_ok-chunk.ensures.begin c.in_ok-chunk.ensures.there c.in_ok-record_of.ensures
