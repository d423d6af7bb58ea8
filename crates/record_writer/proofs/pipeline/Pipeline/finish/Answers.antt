use Rattle.std.proofs.Common.{◌≡◌, ◌^◌, ◌++◌, Err, List, ℕ, refl, subst, rules}
use Rattle.std.specs.Result.{IsErr}
use Rattle.std.proofs.lemmas.Result.{err_from_is_err_and}
use Rattle.record_io.proofs.Calls.{OnErr-any}
use Rattle.record_writer.specs.declared.cut_off.CutOff.TheVariants.{Made}
use Rattle.record_writer.specs.MadeFiles.{Lays, LaysFront, chunks_of_groups}
use Rattle.record_writer.proofs.Layings.{LaysFront-where, LaysFront-whole}
use Rattle.record_writer.proofs.Given.{Lays-all, LaysFront-all, LaysFront-more}
use Rattle.record_writer.proofs.Reaches.{within-before, within-behind}
use Rattle.record_writer.proofs.pipeline.Pipeline.finish.Goals as goal

pub put_and_encode-put-requires-clause-may_lay : goal.put_and_encode-put-requires-clause-may_lay
put_and_encode-put-requires-clause-may_lay g c κs within = record {
  going = c.requires.may_lay.going;
  in_reach = within-before c.args.file.now.place (2 ^ 62) (c.args.self.now.next.groups) (c.args.self.now.coming.taken.groups)
      c.requires.may_lay.in_reach;
}

pub returns-in_err-put-clause-laid : goal.returns-in_err-put-clause-laid
returns-in_err-put-clause-laid g c =
    let first = c.args.self.now.next.groups in
    let failed : IsErr c.put_and_encode-put.result.0 = search rules in
    let front : LaysFront (IsErr c.put_and_encode-put.result.0) (g.M.Sink.taken c.args.made.now) (g.M.Sink.taken c.put_and_encode-put.new.made)
    c.args.file.now c.put_and_encode-put.new.file (chunks_of_groups first) = search rules in
    record {
      whole = search rules;
      front = OnErr-any _
          (LaysFront-more _ _ c.args.file.now c.put_and_encode-put.new.file first (c.args.self.now.coming.taken.groups)
          (LaysFront-where _ _ c.args.file.now c.put_and_encode-put.new.file _ (λ _. failed) front));
      counts = search rules;
    }

pub returns-in_err-encoded-clause-laid : goal.returns-in_err-encoded-clause-laid
returns-in_err-encoded-clause-laid g c =
    let first = c.args.self.now.next.groups in
    let laid : Lays (g.M.Sink.taken c.args.made.now) (g.M.Sink.taken c.put_and_encode-put.new.made) c.args.file.now c.put_and_encode-put.new.file
    (chunks_of_groups first) = search rules in
    let p = err_from_is_err_and c.from_residual-in_err-encoded.result c.from_residual-in_err-encoded.ensures.1 in
    rw (p.1, p.2)
    (record {
      whole = tt;
      front = LaysFront-more _ _ c.args.file.now c.put_and_encode-put.new.file first (c.args.self.now.coming.taken.groups)
          (LaysFront-whole _ _ _ _ _ (λ is. cc is) laid);
      counts = search rules;
    })

pub put-requires-clause-may_lay : goal.put-requires-clause-may_lay
put-requires-clause-may_lay g c =
    let first = c.args.self.now.next.groups in
    let taken = c.args.self.now.coming.taken.groups in
    let laid : Lays (g.M.Sink.taken c.args.made.now) (g.M.Sink.taken c.put_and_encode-put.new.made) c.args.file.now c.put_and_encode-put.new.file
    (chunks_of_groups first) = search rules in
    let same : c.put_and_encode-put.new.self.coming.taken.groups ≡ taken = search rules in
    record {
      going = laid.going;
      in_reach = rw same (within-behind c.args.file.now.place c.put_and_encode-put.new.file.place (2 ^ 62) first taken laid.place c.requires.may_lay.in_reach);
    }

pub returns-in_err-put-2-clause-laid : goal.returns-in_err-put-2-clause-laid
returns-in_err-put-2-clause-laid g c =
    let first = c.args.self.now.next.groups in
    let taken = c.args.self.now.coming.taken.groups in
    let laid : Lays (g.M.Sink.taken c.args.made.now) (g.M.Sink.taken c.put_and_encode-put.new.made) c.args.file.now c.put_and_encode-put.new.file
    (chunks_of_groups first) = search rules in
    let same : c.put_and_encode-put.new.self.coming.taken.groups ≡ taken = search rules in
    record {
      whole = search rules;
      front = OnErr-any _
          (LaysFront-all _ _ _ c.args.file.now c.put_and_encode-put.new.file c.put.new.file (first ++ taken) first taken refl laid
          (subst (λ (gs : List (List (List ℕ))). LaysFront (c.from_residual-in_err-put-2.result ≡ Err Made) (g.M.Sink.taken c.put_and_encode-put.new.made)
          (g.M.Sink.taken c.put.new.made) c.put_and_encode-put.new.file c.put.new.file (chunks_of_groups gs)) same
          (LaysFront-where _ _ c.put_and_encode-put.new.file c.put.new.file _ (λ _. refl) c.in_err-put-2.ensures.laid.front)));
      counts = search rules;
    }

pub returns-clause-laid : goal.returns-clause-laid
returns-clause-laid g c =
    let first = c.args.self.now.next.groups in
    let taken = c.args.self.now.coming.taken.groups in
    let laid : Lays (g.M.Sink.taken c.args.made.now) (g.M.Sink.taken c.put_and_encode-put.new.made) c.args.file.now c.put_and_encode-put.new.file
    (chunks_of_groups first) = search rules in
    let same : c.put_and_encode-put.new.self.coming.taken.groups ≡ taken = search rules in
    record {
      whole = Lays-all _ _ _ c.args.file.now c.put_and_encode-put.new.file c.put.new.file (first ++ taken) first taken refl laid
          (subst (λ (gs : List (List (List ℕ))). Lays (g.M.Sink.taken c.put_and_encode-put.new.made) (g.M.Sink.taken c.put.new.made) c.put_and_encode-put.new.file
          c.put.new.file (chunks_of_groups gs)) same c.in_ok-put-2.ensures.laid.whole);
      front = tt;
      counts = search rules;
    }
