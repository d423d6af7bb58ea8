use Rattle.std.proofs.Common.{◌≡◌, ℕ, ◌+◌, List, [], ◌∷◌, ◌++◌, take, get_or, refl, ap, ◌∙◌, arith, append_assoc}
use Rattle.std.proofs.lemmas.List.{take_more}
use Rattle.varint_wire.proofs.Spellings.{Spells-small}
use Rattle.simple_chunk.proofs.SizeLemmas.{AreSizes-whole}
use Rattle.simple_chunk.proofs.sizes_left.SizesLeft.take_small.Goals as goal

pub loop-byte-preserved : goal.loop-byte-preserved
loop-byte-preserved c = record {
  counted = omega (arith, c.loop-byte.invariant.counted);
  right = λ rest.
      let byte = get_or c.args.bytes.now c.loop-byte.byte-index 0 in
      let more : take (c.loop-byte.byte-index + 1) c.args.bytes.now ++ rest ≡ take c.loop-byte.byte-index c.args.bytes.now ++ (byte ∷ rest) =
      ap (λ (bytes : List ℕ). bytes ++ rest) (take_more c.args.bytes.now c.loop-byte.byte-index 0 c.loop-byte-test.true)
      ∙ append_assoc (take c.loop-byte.byte-index c.args.bytes.now) (byte ∷ []) rest in
      let before = c.loop-byte.invariant.right (byte ∷ rest) in
      let step = AreSizes-whole c.loop-byte.count c.loop-byte.whole byte byte [] [] rest (Spells-small byte (omega arith)) refl (omega arith) (omega arith) in
      rw (more, c.from-size.ensures) (λ h. step.0 (before.0 h), λ h. before.1 (step.1 h));
}
