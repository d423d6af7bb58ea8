use Rattle.std.proofs.Common.{◌≡◌, ℕ, ◌+◌, ◌-◌, ◌<◌, ◌≤◌, arith, length, take, drop, length-append, length-drop, sym, ap, ◌∙◌, rules}
use Rattle.std.proofs.lemmas.List.{length-take}
use Rattle.block_layout.specs.Layout.{end_of}
use Rattle.block_layout.proofs.Ends.{end_of-zero, end_of-more}
use Rattle.chunk_reader.proofs.Rooms.{HasUsableBytes-rest, own_filled, own_filled-none}
use Rattle.chunk_reader.proofs.usable_bytes.UsableBytes.fill.Goals as goal

-- the rest of the buffer, which keeps its length
rest_size : (g : _) (c : goal.In_ok-filled g) → c.loop-filled.filled + length c.take.new.buf ≡ length c.loop-filled.buf
rest_size g c =
    let inside : c.loop-filled.filled < length c.loop-filled.buf = c.loop-filled-test.true in
    omega (arith, c.take.auto.buf, length-take {A = ℕ}, length-drop {A = ℕ})

pub loop-filled-init : goal.loop-filled-init
loop-filled-init g c = record {
  within = omega arith;
  moved = sym (end_of-zero c.args.self.now.place);
  given = own_filled-none (g.S.Store.bytes c.args.store.now);
  handed = omega arith;
  asks = search rules;
}

pub take-requires-clause-told : goal.take-requires-clause-told
take-requires-clause-told g c =
    let i = c.loop-filled.filled in
    let rest : length (take (length c.loop-filled.buf - i) (drop i c.loop-filled.buf)) ≡ length c.loop-filled.buf - i =
    omega (arith, length-take {A = ℕ}, length-drop {A = ℕ}) in
    rw (c.loop-filled.invariant.asks.same_told, c.loop-filled.invariant.moved, rest)
    (HasUsableBytes-rest _ c.args.self.now.place (length c.loop-filled.buf) i
    (rw (c.loop-filled.auto.buf) c.requires.told) (omega (arith, c.loop-filled-test.true)))

pub loop-filled-preserved : goal.loop-filled-preserved
loop-filled-preserved g c =
    let i = c.loop-filled.filled in
    let n = c.in_ok-filled.field-0 in
    let place = c.args.self.now.place in
    let size = rest_size g c in
    let inside : i < length c.loop-filled.buf = c.loop-filled-test.true in
    let fits : n ≤ length c.take.new.buf = omega (arith, c.in_ok-filled.ensures.run.fits, c.take.auto.buf) in
    record {
      within = omega (arith, size, length-append {A = ℕ}, length-take {A = ℕ}, length-drop {A = ℕ});
      moved = c.in_ok-filled.ensures.run.moved ∙ ap (λ p. end_of p n) c.loop-filled.invariant.moved ∙ end_of-more place i n;
      given = own_filled _ _ (g.S.Store.told c.args.store.now) place i n c.loop-filled.buf c.take.new.buf
          c.loop-filled.invariant.asks.same_bytes (g.met.S.Store.sized c.args.store.now) (rw (c.loop-filled.auto.buf) c.requires.told) size fits
          c.loop-filled.invariant.given (rw (← c.loop-filled.invariant.moved) c.in_ok-filled.ensures.given);
      handed = omega (arith, c.in_ok-filled.ensures.handed);
      asks = search rules;
    }
