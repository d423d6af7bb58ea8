use Rattle.std.proofs.Common.{◌∙◌, Option, Err, Result, IfSome, List, ℕ, ap, sym, subst}
use Rattle.std.proofs.lemmas.Result.{err_from_is_err_and}
use Rattle.record_values.specs.declared.file_totals.Totals.{Totals}
use Rattle.record_io.specs.Outside.{Takes, TakesShort}
use Rattle.ordered_writer.specs.Writers.{Writer}
use Rattle.ordered_writer.specs.Padding.{padding_bytes}
use Rattle.record_join.specs.Joins.{TakesCopied, TakesNext}
use Rattle.record_join.specs.declared.joins.JoinEnd.{JoinEnd}
use Rattle.record_join.proofs.Behind.{copied_behind, refused_behind, short_of_padding, whole_behind}
use Rattle.record_join.proofs.joins.join_file.Goals as goal
use Rattle.record_join.proofs.joins.join_file.Goals.{In_ok-pad}

pub returns-in-Err-Refused-clause-joined : goal.returns-in-Err-Refused-clause-joined
returns-in-Err-Refused-clause-joined g c =
    refused_behind _ _ c.args.index c.args.before.now c.in-Err-Refused.fault (c.in-Err-Refused.ensures.refused c.in-Err-Refused.fault (ap Err c.in-Err-Refused.field-0-is))

pub returns-in_err-pad-clause-joined : goal.returns-in_err-pad-clause-joined
returns-in_err-pad-clause-joined g c =
    let P : ℕ → Type 0 = λ p. TakesShort (g.M.Sink.taken c.args.made.now) (g.M.Sink.taken c.pad.new.sink) (padding_bytes p) in
    let short = subst P (ap (λ (w : Writer). w.position) c.resume-writer.ensures) c.in_err-pad.ensures.sink.front in
    let bytes : Option (List ℕ) = g.S.Store.bytes c.args.store.now in
    let Q : Result Totals JoinEnd → Type 0 = λ r. IfSome bytes (λ file.
    TakesNext r c.args.index c.args.before.now file (g.M.Sink.taken c.args.made.now) (g.M.Sink.taken c.pad.new.sink)) in
    let p = err_from_is_err_and c.from_residual.result c.from_residual.ensures.1 in
    subst Q (sym (p.1 ∙ ap Err p.2))
    (short_of_padding _ _ c.args.index c.args.before.now c.in-Ok.file bytes c.in-Ok.ensures.whole short)

-- the padding, once it is put
padding : (g : _) (c : In_ok-pad g) → Takes (g.M.Sink.taken c.args.made.now) (g.M.Sink.taken c.pad.new.sink) (padding_bytes c.args.before.now.bytes)
padding g c =
    let P : ℕ → Type 0 = λ p. Takes (g.M.Sink.taken c.args.made.now) (g.M.Sink.taken c.pad.new.sink) (padding_bytes p) in
    subst P (ap (λ (w : Writer). w.position) c.resume-writer.ensures) c.in_ok-pad.ensures.sink.whole

-- and as much of the file behind it as was copied
pub returns-in_err-copy_file-clause-joined : goal.returns-in_err-copy_file-clause-joined
returns-in_err-copy_file-clause-joined g c =
    let at = goal.at.returns-in_err-copy_file-clause-joined g c in
    let bytes : Option (List ℕ) = g.S.Store.bytes c.args.store.now in
    let between : Option (List ℕ) = g.M.Sink.taken c.pad.new.sink in
    let after : Option (List ℕ) = g.M.Sink.taken c.copy_file.new.made in
    let why : JoinEnd = c.in_err-copy_file.field-0.0 in
    let P : Option (List ℕ) → Type 0 = λ o. IfSome o (λ file. TakesCopied {X = Unit {0}} (Err why) file between after) in
    let Q : Result Totals JoinEnd → Type 0 = λ r. IfSome bytes (λ file.
    TakesNext r c.args.index c.args.before.now file (g.M.Sink.taken c.args.made.now) after) in
    let p = err_from_is_err_and c.from_residual-in_err-copy_file.result c.from_residual-in_err-copy_file.ensures.1 in
    subst Q (sym (p.1 ∙ ap Err p.2))
    (copied_behind _ between c.args.index c.args.before.now c.in-Ok.file (Unit {0}) why bytes after c.in-Ok.ensures.whole (padding g at.In_ok-pad)
    (subst P c.in-Ok.ensures.store.asks.same_bytes c.in_err-copy_file.ensures.copied))

pub returns-clause-joined : goal.returns-clause-joined
returns-clause-joined g c =
    let at = goal.at.returns-clause-joined g c in
    let between : Option (List ℕ) = g.M.Sink.taken c.pad.new.sink in
    let after : Option (List ℕ) = g.M.Sink.taken c.copy_file.new.made in
    let P : Option (List ℕ) → Type 0 = λ o. IfSome o (λ file. Takes between after file) in
    whole_behind _ between c.args.index c.args.before.now c.in-Ok.file c.totals_joined.result (g.S.Store.bytes c.args.store.now) after
    c.in-Ok.ensures.whole c.totals_joined.ensures.value (padding g at.In_ok-pad)
    (subst P c.in-Ok.ensures.store.asks.same_bytes c.in_ok-copy_file.ensures.copied)
