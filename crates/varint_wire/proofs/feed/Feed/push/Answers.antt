use Rattle.std.proofs.Common.{◌≡◌, ◌+◌, [], ◌∷◌, ◌++◌, refl, arith, sym, ap, ◌∙◌, subst, add-one}
use Rattle.std.proofs.lemmas.List.{append-nil}
use Rattle.varint_wire.specs.Varint.{Spells}
use Rattle.varint_wire.proofs.Faults.{long_has_no_spelling}
use Rattle.varint_wire.proofs.Feeding.{pushed, pushed_long, pushed_spelled, held_bytes-push, IsCut-held_bytes}
use Rattle.varint_wire.proofs.Spellings.{spelling_is_one}
use Rattle.varint_wire.proofs.Steps.{room_for_more}
use Rattle.varint_wire.proofs.feed.Feed.push.Goals as goal

pub returns-then-is_tenth_above_one-clause-more : goal.returns-then-is_tenth_above_one-clause-more
returns-then-is_tenth_above_one-clause-more c =
    let p = pushed c.args.self.now c.self.inside.count c.self.inside.value c.args.byte c.self.view_is c.self.invariant.1 (omega arith) in
    let nine = (c.is_tenth_above_one.ensures.0 c.if-is_tenth_above_one.true).0 in
    (λ e. absurd cc, λ h. absurd (omega (arith, h.1, p.many)))

pub returns-then-is_tenth_above_one-clause-value : goal.returns-then-is_tenth_above_one-clause-value
returns-then-is_tenth_above_one-clause-value c =
    let p = pushed c.args.self.now c.self.inside.count c.self.inside.value c.args.byte c.self.view_is c.self.invariant.1 (omega arith) in
    let long = pushed_long _ _ _ _ p (c.is_tenth_above_one.ensures.0 c.if-is_tenth_above_one.true) in
    λ v. (λ e. absurd cc, λ s. absurd (long_has_no_spelling v _ _ [] long s (sym (append-nil _))))

pub returns-then-is_tenth_above_one-clause-long : goal.returns-then-is_tenth_above_one-clause-long
returns-then-is_tenth_above_one-clause-long c =
    let p = pushed c.args.self.now c.self.inside.count c.self.inside.value c.args.byte c.self.view_is c.self.invariant.1 (omega arith) in
    (λ _. pushed_long _ _ _ _ p (c.is_tenth_above_one.ensures.0 c.if-is_tenth_above_one.true), λ _. refl)

pub returns-then-byte-lt128-clause-value : goal.returns-then-byte-lt128-clause-value
returns-then-byte-lt128-clause-value c =
    let p = pushed c.args.self.now c.self.inside.count c.self.inside.value c.args.byte c.self.view_is c.self.invariant.1 (omega arith) in
    let spelled = pushed_spelled _ _ _ _ c.with_group-value.result p c.self.invariant.0 c.if-byte-lt128.true c.with_group-value.ensures (omega arith) in
    λ v. (
      λ e. let same : c.with_group-value.result ≡ v = cc in subst (λ n. Spells n (c.args.self.now ++ c.args.byte ∷ [])) same spelled,
      λ s. let same = (spelling_is_one _ v _ _ [] [] spelled s refl).1 in cc,
    )

pub returns-then-byte-lt128-clause-long : goal.returns-then-byte-lt128-clause-long
returns-then-byte-lt128-clause-long c =
    let p = pushed c.args.self.now c.self.inside.count c.self.inside.value c.args.byte c.self.view_is c.self.invariant.1 (omega arith) in
    let spelled = pushed_spelled _ _ _ _ c.with_group-value.result p c.self.invariant.0 c.if-byte-lt128.true c.with_group-value.ensures (omega arith) in
    (λ e. absurd cc, λ h. absurd (long_has_no_spelling _ _ _ [] h spelled (sym (append-nil _))))

pub returns-clause-more : goal.returns-clause-more
returns-clause-more c =
    let p = pushed c.args.self.now c.self.inside.count c.self.inside.value c.args.byte c.self.view_is c.self.invariant.1 (omega arith) in
    let room = room_for_more _ _ _ c.self.invariant.0 c.is_tenth_above_one.ensures c.if-is_tenth_above_one.false c.if-byte-lt128.false in
    (λ _. (omega arith, omega (arith, p.many)), λ _. refl)

pub returns-clause-long : goal.returns-clause-long
returns-clause-long c =
    let p = pushed c.args.self.now c.self.inside.count c.self.inside.value c.args.byte c.self.view_is c.self.invariant.1 (omega arith) in
    let room = room_for_more _ _ _ c.self.invariant.0 c.is_tenth_above_one.ensures c.if-is_tenth_above_one.false c.if-byte-lt128.false in
    (λ e. absurd cc, λ h. absurd (omega (arith, h.0, p.many)))

pub returns-clause-kept : goal.returns-clause-kept
returns-clause-kept c = λ _.
    rw (c.with_group-value.ensures, add-one)
    (held_bytes-push c.self.inside.count c.self.inside.value c.args.byte c.self.invariant.1 c.if-byte-lt128.false (omega arith) ∙ ap (λ xs. xs ++ c.args.byte ∷ []) c.self.view_is)

pub returns-clause-taken : goal.returns-clause-taken
returns-clause-taken c =
    let room = room_for_more _ _ _ c.self.invariant.0 c.is_tenth_above_one.ensures c.if-is_tenth_above_one.false c.if-byte-lt128.false in
    IsCut-held_bytes (c.self.inside.count + 1) c.with_group-value.result _ refl (omega arith)
