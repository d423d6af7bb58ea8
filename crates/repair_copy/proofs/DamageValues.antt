-- The repair of a damaged file, judged by hand.
use Rattle.std.proofs.Common.{◌≡◌, ℕ, zero, suc, Bool, true, Some, None, Ok, List, [], ◌∷◌, length, lit<, lit≤, codes, refl, sym, ap, subst, inl, inr, arith}
use Rattle.std.specs.Prelude.{not, ◌==◌}
use Rattle.std.specs.Fmt.{digits}
use Rattle.std.specs.Fn.{Shared, FnReturnsAt}
use denote.Ref.{Bor}
use Rattle.std.proofs.lemmas.List.{take_all}
use Rattle.varint_wire.specs.Varint.{shortest}
use Rattle.record_io.specs.Puts.{Taken, taken_by}
use Rattle.block_layout.specs.Layout.{end_of, chunk_end_of}
use Rattle.chunk_header.specs.Chunks.{ChunkValue}
use Rattle.chunk_header.specs.SimpleChunks.{simple_chunk, IsSimple}
use Rattle.chunk_header.proofs.SimpleChunks.{IsSimple-simple_chunk}
use Rattle.meta_chunk.specs.Files.{signature, AreLaid, IsWellFormed, begin_of, laid_each}
use Rattle.meta_chunk.specs.Kinds.{IsSignature}
use Rattle.meta_chunk.proofs.LaidChunks.{AreLaid-laid_each}
use Rattle.chunk_reader.proofs.SignedFiles.{IsChunk-signature, IsAllowed-signature}
use Rattle.chunk_reader.specs.declared.reasons.Why.TheVariants as why
use Rattle.damage_skip.specs.Damage.{Intact, IsIntactFrom, IsNext, AreReached, AreLostUpToABlock, DamageLeavesEach}
use Rattle.damage_skip.specs.Pieces.{Records, SignatureOrPadding, Skipped, Piece}
use Rattle.damage_skip.specs.declared.regions.Region.{Region}
use Rattle.repair_copy.specs.DamagedRepairs.{RepairsDamage}
use Rattle.repair_copy.specs.RepairPuts.{repair_puts}
use Rattle.repair_copy.proofs.RepairPuts.{made_in-repair, notes_in-repair}

-- a file of `a`, `b` and `c`, each in a chunk, of which the second's header has changed
of_byte : ℕ → ChunkValue
of_byte b = simple_chunk ((b ∷ []) ∷ [])

abc : List ChunkValue
abc = signature ∷ of_byte 0x61 ∷ of_byte 0x62 ∷ of_byte 0x63 ∷ []

second_hit : Intact
second_hit = record { header = λ j. not (j == 2); «data» = λ j. true; block = λ b. true }

begins : (begin_of abc 1 ≡ 64) × (begin_of abc 2 ≡ 108) × (begin_of abc 4 ≡ 196)
unfolding abc of_byte chunk_end_of end_of shortest
begins = (refl, refl, refl)

-- no block header stands behind that, and so the third is lost with it
no_block : (b : ℕ) → ¬ IsIntactFrom abc second_hit 2 b
unfolding abc
no_block b here = omega (arith, here.is_block, here.from, here.below, begins.1, begins.2)

to_the_end : IsNext abc second_hit 2 4
unfolding abc second_hit
to_the_end = inr (refl, inr (no_block, refl))

are_reached : AreReached abc second_hit 0 4 (0 ∷ 1 ∷ 2 ∷ [])
unfolding abc second_hit
are_reached = (refl, lit< tt, (1, inl (refl, refl), (refl, lit< tt, (2, inl (refl, refl), (refl, lit< tt, (4, to_the_end, refl))))))

third_lost : AreLostUpToABlock abc second_hit 4 (0 ∷ 1 ∷ 2 ∷ [])
unfolding second_hit
third_lost zero before missed = absurd (missed 0 refl)
third_lost (suc zero) before missed = absurd (missed 1 refl)
third_lost (suc (suc zero)) before missed = absurd (missed 2 refl)
third_lost (suc (suc (suc zero))) before missed = (2, lit< tt, refl, λ b here. absurd (no_block b here))
third_lost (suc (suc (suc (suc lost)))) before missed = absurd (omega arith)

given : Piece
given = record { begin = 64; end = 108; what = Records ((0x61 ∷ []) ∷ []) (of_byte 0x61) }

skipped : Piece
skipped = record { begin = 108; end = 196; what = Skipped why.HeaderHash }

pieces_of_abc : List Piece
pieces_of_abc = record { begin = 0; end = 64; what = SignatureOrPadding } ∷ given ∷ skipped ∷ []

a_is_simple : IsSimple (of_byte 0x61) ((0x61 ∷ []) ∷ [])
unfolding of_byte shortest
a_is_simple = IsSimple-simple_chunk ((0x61 ∷ []) ∷ []) (lit< tt, tt) (lit< tt)

signature_is_one : IsSignature signature
signature_is_one =
    (refl, record { signature = λ same. (refl, refl, refl); metadata = λ same. refl; padding = λ same. (refl, refl) })

are_left : DamageLeavesEach true abc second_hit 0 4 pieces_of_abc
unfolding abc second_hit pieces_of_abc given skipped
are_left = (
  signature,
  1,
  refl,
  inl (refl, refl),
  refl,
  sym begins.0,
  inl signature_is_one,
  (
    of_byte 0x61,
    2,
    refl,
    inl (refl, refl),
    sym begins.0,
    sym begins.1,
    (a_is_simple, refl),
    (of_byte 0x62, 4, refl, to_the_end, sym begins.1, sym begins.2, refl, refl),
  ),
)

-- the signature and `a` are made, and the region is told
kept : List ChunkValue
kept = signature ∷ of_byte 0x61 ∷ []

kept_is_well_formed : IsWellFormed kept (laid_each 0 kept)
unfolding kept of_byte shortest
kept_is_well_formed =
    let bytes = laid_each 0 kept in (
      λ none. cc none,
      record {
        signed = refl;
        each = (IsAllowed-signature true, (inl (lit≤ tt, inl ((0x61 ∷ []) ∷ [], a_is_simple)), tt));
        within = omega arith;
        laid = subst (AreLaid 0 kept) (sym (take_all (length bytes) bytes (omega arith)))
            (AreLaid-laid_each 0 kept (
              IsChunk-signature,
              (
                record {
                  kind = lit< tt;
                  num_records = lit< tt;
                  decoded_size = lit< tt;
                  size = lit< tt;
                  bytes = (lit< tt, (lit< tt, (lit< tt, (lit< tt, tt))));
                },
                tt,
              ),
            ));
      },
    )

after : Taken
after = taken_by (Some (laid_each 0 kept)) None (Some (codes "skipped 108 196 HeaderHash\n"))

abc_repaired : {F : Type 0} (test : Shared F (Bor Region × Unit {0}) Bool) (f : F) (faults faults_then : ℕ)
    → FnReturnsAt test f (record { begin = 108; end = 196; why = why.HeaderHash }) true
    → RepairsDamage test f (Ok (record { totals = record { chunks = 2; records = 1; bytes = 108; unread = 0 }; regions = 1 })) faults faults_then
    (taken_by (Some []) None (Some [])) after abc second_hit
unfolding pieces_of_abc given skipped kept after abc second_hit of_byte digits chunk_end_of end_of shortest
abc_repaired test f faults faults_then allows = record {
  to = 4;
  numbers = 0 ∷ 1 ∷ 2 ∷ [];
  reached = are_reached;
  lost = third_lost;
  pieces = pieces_of_abc;
  left = are_left;
  allowed = ((record { ordered = lit≤ tt; in_reach = lit≤ tt }, allows), tt);
  answer = (refl, refl, refl);
  part = repair_puts (given ∷ skipped ∷ []);
  went = refl;
  took = record {
    made = ap Some (sym (made_in-repair (given ∷ skipped ∷ [])));
    out = tt;
    notes = ap Some (sym (notes_in-repair (given ∷ skipped ∷ [])));
  };
  made = refl;
  well_formed = kept_is_well_formed;
}
