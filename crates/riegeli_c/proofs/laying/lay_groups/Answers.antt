use Rattle.std.proofs.Common.{◌≡◌, ◌∙◌, ℕ, ◌+◌, ◌^◌, Bool, true, false, Some, List, [], ◌∷◌, ◌++◌, Err, length, sym, ap, subst, arith, rules}
use Rattle.std.specs.Option.{option_to_list}
use Rattle.std.proofs.lemmas.List.{map-append}
use Rattle.std.proofs.lemmas.Result.{err_from_is_err_and}
use Rattle.record_io.specs.Outside.{TakesShort}
use Rattle.chunk_header.specs.Chunks.{ChunkValue}
use Rattle.chunk_header.specs.SimpleChunks.{simple_chunk}
use Rattle.meta_chunk.specs.Files.{laid_each}
use Rattle.simple_chunk.proofs.Parts.{length-parts_from}
use Rattle.record_group.specs.Groups.{groups}
use Rattle.record_group.specs.Groupings.{groups_from}
use Rattle.record_writer.specs.MadeFiles.{chunks_of_groups}
use Rattle.record_writer.proofs.Reaches.{reach_of-last}
use Rattle.riegeli_c.specs.Laying.{AreLaidBy}
use Rattle.riegeli_c.specs.Writes.{groups_laid, records_cut, records_laid}
use Rattle.riegeli_c.specs.declared.laying.LayEnd.TheVariants.{Made}
use Rattle.riegeli_c.proofs.ClosedGroups.{chunks-push, count-none, count-held, laid-parts, new-groups, none-held}
use Rattle.riegeli_c.proofs.HeldGroups.{laid-all}
use Rattle.riegeli_c.proofs.LaidBy.{counts-then, counts-where, laid-then, lays-err, lays-ok, position, short-longer, short-then, unspent}
use Rattle.riegeli_c.proofs.laying.lay_groups.Goals as goal
use Rattle.riegeli_c.proofs.laying.lay_groups.Goals.{After-finish}

-- the groups of the records
abbrev groups_of : (g : _) → After-finish g → List (List (List ℕ))
groups_of g c = groups (records_cut c.args.values.now c.args.ends.now) c.args.grouper.size c.args.grouper.every

same_groups : (g : _) (c : After-finish g)
    → groups_from c.args.grouper (records_cut c.args.values.now c.args.ends.now) ≡ groups_of g c
same_groups g c = new-groups c.args.grouper (records_cut c.args.values.now c.args.ends.now) c.requires.new

-- the chunks of those that closed are laid, and behind these comes the open one, if there is one
closed_laid : (g : _) (c : After-finish g)
    → AreLaidBy (g.M.Sink.taken c.args.made.now) (g.M.Sink.taken c.lay_closed.new.made)
    c.args.writer.now c.lay_closed.new.writer (chunks_of_groups (groups_laid false (groups_of g c)))
closed_laid g c =
    subst
    (λ (all : List (List (List ℕ))). AreLaidBy (g.M.Sink.taken c.args.made.now) (g.M.Sink.taken c.lay_closed.new.made)
    c.args.writer.now c.lay_closed.new.writer (chunks_of_groups (groups_laid false all)))
    (same_groups g c) c.in_ok-lay_closed.ensures.laid.whole

open_behind : (g : _) (c : After-finish g) → groups_of g c ≡ groups_laid false (groups_of g c) ++ option_to_list c.finish.result
open_behind g c =
    let all = groups_from c.args.grouper (records_cut c.args.values.now c.args.ends.now) in
    subst (λ (gs : List (List (List ℕ))). gs ≡ groups_laid false gs ++ option_to_list c.finish.result) (same_groups g c)
    (c.in_ok-lay_closed.ensures.behind ∙ ap (λ (more : List (List (List ℕ))). groups_laid false all ++ more) c.finish.ensures.rest)

-- with its chunk they are all, where no record follows
all_chunks : (g : _) (c : After-finish g) (group : List (List ℕ)) → c.finish.result ≡ Some group → c.args.last ≡ true
    → chunks_of_groups (groups_laid false (groups_of g c)) ++ simple_chunk group ∷ []
    ≡ chunks_of_groups (groups_laid c.args.last (groups_of g c))
all_chunks g c group is all =
    chunks-push (groups_of g c) (groups_laid false (groups_of g c)) group (rw is at (open_behind g c))
    ∙ ap (λ (last : Bool). chunks_of_groups (groups_laid last (groups_of g c))) (sym all)

pub returns-in_err-lay_closed-clause-laid : goal.returns-in_err-lay_closed-clause-laid
returns-in_err-lay_closed-clause-laid g c =
    let rs = records_cut c.args.values.now c.args.ends.now in
    let gs = groups rs c.args.grouper.size c.args.grouper.every in
    let same = new-groups c.args.grouper rs c.requires.new in
    let p = err_from_is_err_and c.from_residual.result c.from_residual.ensures.1 in
    let parts = laid-parts c.args.last gs in
    let made = λ (is : c.from_residual.result ≡ Err Made). let m : c.in_err-lay_closed.field-0.0 ≡ Made = cc (p.1, p.2, is) in m in
    lays-err g.M.Sink.taken g.M.Sink.lent g.M.Sink.faults c.from_residual.result p.0 c.args.writer.now c.lay_closed.new.writer _ c.args.made.now c.lay_closed.new.made p.1
    (λ is.
    subst (λ (ks : List ChunkValue). TakesShort (g.M.Sink.taken c.args.made.now) (g.M.Sink.taken c.lay_closed.new.made) (laid_each c.args.writer.now.position ks))
    (sym (ap chunks_of_groups parts.1 ∙ map-append simple_chunk (groups_laid false gs) parts.0))
    (short-longer (g.M.Sink.taken c.args.made.now) (g.M.Sink.taken c.lay_closed.new.made) c.args.writer.now.position (chunks_of_groups (groups_laid false gs)) (chunks_of_groups parts.0)
    (subst
    (λ (all : List (List (List ℕ))). TakesShort (g.M.Sink.taken c.args.made.now) (g.M.Sink.taken c.lay_closed.new.made)
    (laid_each c.args.writer.now.position (chunks_of_groups (groups_laid false all))))
    same (c.in_err-lay_closed.ensures.laid.short (ap Err (made is))))))
    (counts-where g.M.Sink.lent g.M.Sink.faults c.args.made.now c.lay_closed.new.made c.in_err-lay_closed.ensures.laid.counts (λ is. ap Err (made is)))

pub returns-in_default-clause-laid : goal.returns-in_default-clause-laid
returns-in_default-clause-laid g c =
    let s = (goal.at.returns-in_default-clause-laid g c).After-finish in
    let gs = groups_of g s in
    lays-ok g.M.Sink.taken g.M.Sink.lent g.M.Sink.faults 0 c.args.writer.now c.lay_closed.new.writer (chunks_of_groups (groups_laid c.args.last gs)) c.args.made.now c.lay_closed.new.made (λ is. cc is)
    (subst (λ (laid : List (List (List ℕ))). AreLaidBy (g.M.Sink.taken c.args.made.now) (g.M.Sink.taken c.lay_closed.new.made) c.args.writer.now c.lay_closed.new.writer (chunks_of_groups laid))
    (none-held c.args.last gs (rw c.in_default.is at (open_behind g s))) (closed_laid g s))
    c.in_ok-lay_closed.ensures.laid.counts

pub returns-in_default-clause-held : goal.returns-in_default-clause-held
returns-in_default-clause-held g c =
    let s = (goal.at.returns-in_default-clause-held g c).After-finish in
    let rs = records_cut c.args.values.now c.args.ends.now in
    omega (
      arith,
      count-none c.args.last rs c.args.grouper.size c.args.grouper.every (rw c.in_default.is at (open_behind g s)),
      length-parts_from 0 c.args.ends.now c.args.values.now,
    )

pub returns-then-not-last-clause-laid : goal.returns-then-not-last-clause-laid
returns-then-not-last-clause-laid g c =
    let s = (goal.at.returns-then-not-last-clause-laid g c).After-finish in
    let gs = groups_of g s in
    let more : c.args.last ≡ false = search rules in
    lays-ok g.M.Sink.taken g.M.Sink.lent g.M.Sink.faults c.len.result c.args.writer.now c.lay_closed.new.writer (chunks_of_groups (groups_laid c.args.last gs)) c.args.made.now c.lay_closed.new.made (λ is. cc is)
    (subst
    (λ (last : Bool). AreLaidBy (g.M.Sink.taken c.args.made.now) (g.M.Sink.taken c.lay_closed.new.made)
    c.args.writer.now c.lay_closed.new.writer (chunks_of_groups (groups_laid last gs)))
    (sym more) (closed_laid g s))
    c.in_ok-lay_closed.ensures.laid.counts

pub returns-then-not-last-clause-held : goal.returns-then-not-last-clause-held
returns-then-not-last-clause-held g c =
    let s = (goal.at.returns-then-not-last-clause-held g c).After-finish in
    let rs = records_cut c.args.values.now c.args.ends.now in
    let more : c.args.last ≡ false = search rules in
    subst (λ (last : Bool). c.len.result + length (records_laid rs c.args.grouper.size c.args.grouper.every last) ≡ length c.args.ends.now) (sym more)
    (omega (
      arith,
      c.len.ensures,
      count-held rs c.in-Some.group c.args.grouper.size c.args.grouper.every (rw c.in-Some.is at (open_behind g s)),
      length-parts_from 0 c.args.ends.now c.args.values.now,
    ))

pub lay_group-requires-clause-may_reach : goal.lay_group-requires-clause-may_reach
lay_group-requires-clause-may_reach g c =
    let given = rw c.in-Some.is at c.finish.ensures.given in
    let last = rw c.in-Some.is at c.finish.ensures.last in
    record {
      unspent = unspent _ _ c.args.writer.now c.lay_closed.new.writer _ c.in_ok-lay_closed.ensures.laid.whole;
      in_reach = omega (
        arith,
        reach_of-last c.lay_closed.new.writer.position c.lay_closed.new.grouper c.in-Some.group (2 ^ 61) c.in_ok-lay_closed.ensures.in_reach last given.limits.some,
      );
    }

pub returns-in_err-lay_group-clause-laid : goal.returns-in_err-lay_group-clause-laid
returns-in_err-lay_group-clause-laid g c =
    let s = (goal.at.returns-in_err-lay_group-clause-laid g c).After-finish in
    let p = err_from_is_err_and c.from_residual-in_err-lay_group.result c.from_residual-in_err-lay_group.ensures.1 in
    let made = λ (is : c.from_residual-in_err-lay_group.result ≡ Err Made). let m : c.in_err-lay_group.field-0.0 ≡ Made = cc (p.1, p.2, is) in m in
    lays-err g.M.Sink.taken g.M.Sink.lent g.M.Sink.faults c.from_residual-in_err-lay_group.result p.0 c.args.writer.now c.lay_group.new.writer _ c.args.made.now c.lay_group.new.made p.1
    (λ is.
    subst (λ (ks : List ChunkValue). TakesShort (g.M.Sink.taken c.args.made.now) (g.M.Sink.taken c.lay_group.new.made) (laid_each c.args.writer.now.position ks))
    (all_chunks g s c.in-Some.group c.in-Some.is (search rules))
    (short-then (g.M.Sink.taken c.args.made.now) (g.M.Sink.taken c.lay_closed.new.made) (g.M.Sink.taken c.lay_group.new.made) c.args.writer.now c.lay_closed.new.writer
    (chunks_of_groups (groups_laid false (groups_of g s))) (simple_chunk c.in-Some.group ∷ []) (closed_laid g s)
    (c.in_err-lay_group.ensures.short (ap Err (made is)))))
    (counts-then g.M.Sink.lent g.M.Sink.faults c.args.made.now c.lay_closed.new.made c.lay_group.new.made c.in_ok-lay_closed.ensures.laid.counts
    (counts-where g.M.Sink.lent g.M.Sink.faults c.lay_closed.new.made c.lay_group.new.made c.in_err-lay_group.ensures.counts (λ is. ap Err (made is))))

pub returns-clause-laid : goal.returns-clause-laid
returns-clause-laid g c =
    let s = (goal.at.returns-clause-laid g c).After-finish in
    let gs = groups_of g s in
    lays-ok g.M.Sink.taken g.M.Sink.lent g.M.Sink.faults 0 c.args.writer.now c.lay_group.new.writer (chunks_of_groups (groups_laid c.args.last gs)) c.args.made.now c.lay_group.new.made (λ is. cc is)
    (subst (λ (ks : List ChunkValue). AreLaidBy (g.M.Sink.taken c.args.made.now) (g.M.Sink.taken c.lay_group.new.made) c.args.writer.now c.lay_group.new.writer ks)
    (all_chunks g s c.in-Some.group c.in-Some.is (search rules))
    (laid-then (g.M.Sink.taken c.args.made.now) (g.M.Sink.taken c.lay_closed.new.made) (g.M.Sink.taken c.lay_group.new.made) c.args.writer.now c.lay_closed.new.writer c.lay_group.new.writer
    (chunks_of_groups (groups_laid false gs)) (simple_chunk c.in-Some.group ∷ []) (closed_laid g s) c.in_ok-lay_group.ensures.whole))
    (counts-then g.M.Sink.lent g.M.Sink.faults c.args.made.now c.lay_closed.new.made c.lay_group.new.made c.in_ok-lay_closed.ensures.laid.counts c.in_ok-lay_group.ensures.counts)

pub returns-clause-held : goal.returns-clause-held
returns-clause-held g c =
    let rs = records_cut c.args.values.now c.args.ends.now in
    let all : c.args.last ≡ true = search rules in
    subst (λ (last : Bool). 0 + length (records_laid rs c.args.grouper.size c.args.grouper.every last) ≡ length c.args.ends.now) (sym all)
    (omega (arith, ap length (laid-all rs c.args.grouper.size c.args.grouper.every), length-parts_from 0 c.args.ends.now c.args.values.now))

pub returns-clause-in_reach : goal.returns-clause-in_reach
returns-clause-in_reach g c =
    let given = rw c.in-Some.is at c.finish.ensures.given in
    let last = rw c.in-Some.is at c.finish.ensures.last in
    omega (
      arith,
      position _ _ c.lay_closed.new.writer c.lay_group.new.writer (simple_chunk c.in-Some.group ∷ []) c.in_ok-lay_group.ensures.whole,
      reach_of-last c.lay_closed.new.writer.position c.lay_closed.new.grouper c.in-Some.group (2 ^ 61) c.in_ok-lay_closed.ensures.in_reach last given.limits.some,
    )
