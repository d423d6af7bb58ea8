-- What `show` answers past damage, judged by hand.
use Rattle.std.proofs.Common.{◌≡◌, ℕ, zero, suc, true, false, None, List, [], ◌∷◌, ◌++◌, lit<, codes, refl, sym, inl, inr, arith}
use Rattle.std.specs.Prelude.{not, ◌==◌}
use Rattle.std.specs.Fmt.{digits}
use Rattle.varint_wire.specs.Varint.{shortest}
use Rattle.record_io.specs.Puts.{Out, Notes, puts_to}
use Rattle.block_layout.specs.Layout.{end_of, chunk_end_of}
use Rattle.chunk_header.specs.Chunks.{ChunkValue}
use Rattle.chunk_header.specs.SimpleChunks.{simple_chunk, IsSimple}
use Rattle.chunk_header.proofs.SimpleChunks.{IsSimple-simple_chunk}
use Rattle.meta_chunk.specs.Files.{signature, begin_of}
use Rattle.meta_chunk.specs.Kinds.{IsSignature}
use Rattle.chunk_reader.specs.declared.reasons.Why.TheVariants as why
use Rattle.damage_skip.specs.Damage.{Intact, IsIntactFrom, IsNext, AreLostUpToABlock}
use Rattle.damage_skip.specs.Pieces.{Records, SignatureOrPadding, Skipped, Piece}
use Rattle.command_frame.specs.declared.status.Status.TheVariants as status
use Rattle.recover_command.specs.declared.recover_words.RecoverWords.{RecoverWords}
use Rattle.riegeli_tool.specs.PastDamage.{recovered_as, IsAnswerPastDamage}

-- a file of `a`, `b` and `c`, each in a chunk, of which the second's header has changed
of_byte : ℕ → ChunkValue
of_byte b = simple_chunk ((b ∷ []) ∷ [])

abc : List ChunkValue
abc = signature ∷ of_byte 0x61 ∷ of_byte 0x62 ∷ of_byte 0x63 ∷ []

second_hit : Intact
second_hit = record { header = λ j. not (j == 2); «data» = λ j. true; block = λ b. true }

begins : (begin_of abc 1 ≡ 64) × (begin_of abc 2 ≡ 108) × (begin_of abc 4 ≡ 196)
unfolding abc of_byte chunk_end_of end_of shortest
begins = (refl, refl, refl)

-- no block header stands behind that, and so the third is lost with it
no_block : (b : ℕ) → ¬ IsIntactFrom abc second_hit 2 b
unfolding abc
no_block b here = omega (arith, here.is_block, here.from, here.below, begins.1, begins.2)

to_the_end : IsNext abc second_hit 2 4
unfolding abc second_hit
to_the_end = inr (refl, inr (no_block, refl))

third_lost : AreLostUpToABlock abc second_hit 4 (0 ∷ 1 ∷ 2 ∷ [])
unfolding second_hit
third_lost zero before missed = absurd (missed 0 refl)
third_lost (suc zero) before missed = absurd (missed 1 refl)
third_lost (suc (suc zero)) before missed = absurd (missed 2 refl)
third_lost (suc (suc (suc zero))) before missed = (2, lit< tt, refl, λ b here. absurd (no_block b here))
third_lost (suc (suc (suc (suc lost)))) before missed = absurd (omega arith)

pieces_of_abc : List Piece
pieces_of_abc =
    record { begin = 0; end = 64; what = SignatureOrPadding }
    ∷ record { begin = 64; end = 108; what = Records ((0x61 ∷ []) ∷ []) (of_byte 0x61) }
    ∷ record { begin = 108; end = 196; what = Skipped why.HeaderHash }
    ∷ []

a_is_simple : IsSimple (of_byte 0x61) ((0x61 ∷ []) ∷ [])
unfolding of_byte shortest
a_is_simple = IsSimple-simple_chunk ((0x61 ∷ []) ∷ []) (lit< tt, tt) (lit< tt)

signature_is_one : IsSignature signature
signature_is_one =
    (refl, record { signature = λ same. (refl, refl, refl); metadata = λ same. refl; padding = λ same. (refl, refl) })

-- `show --recover` prints `a` and tells the region
recovers : RecoverWords
recovers = record { show = record { form = record { positions = false; hex = false }; file = 2 }; most = None }

abc_recovered : IsAnswerPastDamage false None (recovered_as recovers) abc second_hit
    (record { puts = puts_to Out (codes "a\n") ++ puts_to Notes (codes "skipped 108 196 HeaderHash\n"); status = status.Skipped })
unfolding recovers pieces_of_abc abc second_hit of_byte digits shortest
abc_recovered = record {
  to = 4;
  numbers = 0 ∷ 1 ∷ 2 ∷ [];
  reached = (refl, lit< tt, (1, inl (refl, refl), (refl, lit< tt, (2, inl (refl, refl), (refl, lit< tt, (4, to_the_end, refl))))));
  pieces = pieces_of_abc;
  left = (
    signature,
    1,
    refl,
    inl (refl, refl),
    refl,
    sym begins.0,
    inl (inl signature_is_one),
    (
      of_byte 0x61,
      2,
      refl,
      inl (refl, refl),
      sym begins.0,
      sym begins.1,
      inl (a_is_simple, refl),
      (of_byte 0x62, 4, refl, to_the_end, sym begins.1, sym begins.2, refl, refl),
    ),
  );
  skips = (refl, tt);
  stopped = None;
  ends = refl;
  answers = refl;
  records = ([] ∷ ((0x61 ∷ []) ∷ []) ∷ [], (inr ((λ simple. signature_or_simple simple.0 simple.1), refl), (inl a_is_simple, refl)), refl);
  chunks = refl;
  lost = third_lost;
} where
  signature_or_simple : (records : List (List ℕ)) → ¬ IsSimple signature records
  signature_or_simple records simple = omega (arith, simple.kind)
