-- The answers of the commands that go past damage, told by the numbers of the undamaged file's chunks, and to the front of a file.
use Rattle.std.proofs.Common.{◌≡◌, ◌∙◌, ◌⊎◌, ℕ, ◌^◌, ◌≤◌, Bool, true, false, Option, Some, None, List, [], ◌∷◌, ◌++◌, length, take, refl, sym, ap, subst, inl, inr, append_assoc, arith}
use Rattle.std.specs.Prelude.{MatchOption}
use Rattle.std.proofs.lemmas.Bool.{cases_Bool}
use Rattle.chunk_header.specs.Chunks.{ChunkValue}
use Rattle.meta_chunk.specs.Files.{IsWellFormed, AreRecordsOf}
use Rattle.chunk_reader.specs.declared.reasons.Why.{Why}
use Rattle.damage_skip.specs.Bounds.{may_skip, MaySkip, walked, refused_in}
use Rattle.damage_skip.specs.Damage.{Intact, IsDamaged, DamageLeaves, DamageLeavesEach, untouched}
use Rattle.damage_skip.specs.DamagedWalks.{IsLeftRegion}
use Rattle.damage_skip.specs.Pieces.{PieceKind, Records, Kept, SignatureOrPadding, Skipped, Piece, events_in, AreEvents}
use Rattle.damage_skip.specs.declared.regions.Region.{Region}
use Rattle.damage_skip.proofs.BoundedWalks.{MaySkipEach, walked-all, refused-none, walked-to_refused, refused-there}
use Rattle.damage_skip.proofs.Damaged.{pieces_left}
use Rattle.damage_skip.proofs.FoundRecords.{records_in_events}
use Rattle.damage_skip.proofs.FrontWalks.{front_pieces}
use Rattle.damage_skip.proofs.Reached.{left_numbers}
use Rattle.damage_skip.proofs.Tiles.{same_piece, events-append, events_one}
use Rattle.damage_skip.proofs.Untouched.{left_records, lost_up_to_a_block}
use Rattle.damage_skip.proofs.WalkedTo.{piece_at, each_region}
use Rattle.repair_copy.proofs.EventChunks.{chunks_in_events}
use Rattle.repair_copy.proofs.LeftChunks.{left_chunks}
use Rattle.command_frame.specs.Answers.{Answer}
use Rattle.command_frame.specs.FileAnswers.{OfFile}
use Rattle.command_frame.specs.Meanings.{Read}
use Rattle.command_frame.specs.Runs.{Runs}
use Rattle.command_frame.specs.RunObjects.{Seen}
use Rattle.command_frame.specs.declared.status.Status.{Status}
use Rattle.command_frame.proofs.OneAnswer.{same_answer}
use Rattle.recover_command.specs.RecoverCommand.{IsRecovered}
use Rattle.riegeli_tool.specs.CommandAnswers.{meaning_of}
use Rattle.riegeli_tool.specs.AnswersTo.{IsAnswerTo}
use Rattle.riegeli_tool.specs.PastDamage.{recovered_as, repaired_as, IsAnswerPastDamage, IsAnswerToFront, IsToldSo, IsToldPastDamage, meaning_past_damage}
use Rattle.riegeli_tool.specs.CommandRuns.{RunsCommand}
use Rattle.riegeli_tool.specs.RepairCommand.{IsRepaired}
use Rattle.riegeli_tool.specs.declared.command.Command.{Command}
use Rattle.riegeli_tool.specs.declared.command.Command.TheVariants.{Write, Show, Recover, Verify, Seek, Repair, Sample, Join, Ranges, Append, Collect}
use Rattle.riegeli_tool.proofs.RunsWith.{runs-with}

-- a piece that is no region, or one that may be skipped or not
skippable : (most : Option ℕ) (begin end : ℕ) (w : PieceKind)
    → MaySkipEach most (events_in (record { begin = begin; end = end; what = w } ∷ []))
    ⊎ ((reason : Why) × (w ≡ Skipped reason) × (may_skip most (record { begin = begin; end = end; why = reason }) ≡ false))
skippable most begin end (Records records c) = inl tt
skippable most begin end (Kept c) = inl tt
skippable most begin end SignatureOrPadding = inl tt
skippable most begin end (Skipped reason) =
    elim (cases_Bool (may_skip most (record { begin = begin; end = end; why = reason }))) [
      | inl allowed ↦ inl (allowed, tt)
      | inr refused ↦ inr (reason, refl, refused)
    ]

module _ (unread_ok : Bool) (most : Option ℕ) (ks : List ChunkValue) (intact : Intact) where
  -- where a walk of what damage leaves ends: at the file's end, or at a region that may not be skipped
  EndsSo : (to : ℕ) (events front : List Piece) → Type 0
  EndsSo to events front =
      ((to ≡ length ks) × (events ≡ front))
      ⊎ ((region : Region) × (behind : List Piece) × IsLeftRegion unread_ok ks intact to region × (may_skip most region ≡ false)
      × (events ≡ front ++ piece_at region ∷ behind))

  ends_behind : (to : ℕ) (first events front : List Piece) → EndsSo to events front → EndsSo to (first ++ events) (first ++ front)
  unfolding EndsSo
  ends_behind to first events front (inl (end, same)) = inl (end, ap (λ (es : List Piece). first ++ es) same)
  ends_behind to first events front (inr (region, behind, left, refused, same)) =
      inr (region, behind, left, refused, ap (λ (es : List Piece). first ++ es) same ∙ sym (append_assoc first front (piece_at region ∷ behind)))

  -- so the first pieces are passed
  FrontOf : (j : ℕ) (pieces : List Piece) → Type 0
  FrontOf j pieces =
      (to : ℕ) × (front : List Piece) × DamageLeavesEach unread_ok ks intact j to front × MaySkipEach most (events_in front)
      × EndsSo to (events_in pieces) (events_in front)

  front_of : (j : ℕ) (pieces : List Piece) → DamageLeavesEach unread_ok ks intact j (length ks) pieces → FrontOf j pieces
  unfolding FrontOf EndsSo
  front_of j [] same = (j, [], refl, tt, inl (same, refl))
  front_of j (p ∷ pieces) (k, next, at, step, begin, end, what, rest) =
      elim (skippable most p.begin p.end p.what) [
        | inl passed ↦
            let behind = front_of next pieces rest in
            let own : Piece = record { begin = p.begin; end = p.end; what = p.what } in
            let same : own ≡ p = same_piece own p refl refl refl in
            let may : MaySkipEach most (events_in (p ∷ [])) = subst (λ (q : Piece). MaySkipEach most (events_in (q ∷ []))) same passed in (
              behind.0,
              p ∷ behind.1,
              (k, next, at, step, begin, end, what, behind.2),
              subst (MaySkipEach most) (sym (events-append (p ∷ []) behind.1))
                  (each_region (MaySkip most) (events_in (p ∷ [])) (events_in behind.1) may behind.3),
              subst (λ (es : List Piece). EndsSo behind.0 es (events_in (p ∷ behind.1))) (sym (events-append (p ∷ []) pieces))
                  (subst (EndsSo behind.0 (events_in (p ∷ []) ++ events_in pieces)) (sym (events-append (p ∷ []) behind.1))
                  (ends_behind behind.0 (events_in (p ∷ [])) (events_in pieces) (events_in behind.1) behind.4)),
            )
        | inr (reason, is, refused) ↦
            let region : Region = record { begin = p.begin; end = p.end; why = reason } in
            let it : p ≡ piece_at region = same_piece p (piece_at region) refl refl is in
            let left : DamageLeaves unread_ok (intact.header j) (intact.«data» j) k (Skipped reason) =
            subst (λ (w : PieceKind). DamageLeaves unread_ok (intact.header j) (intact.«data» j) k w) is what in
            (j, [], refl, tt, inr (region, events_in pieces, (next, (k, next, at, step, begin, end, left, refl)), refused, ap (λ (q : Piece). events_in (q ∷ pieces)) it))
      ]

  -- the answer to a damaged file
  module _ (answer_as : List Piece → Option Region → Answer) (answer : Answer) (file damaged : List ℕ) (reach : length file ≤ 2 ^ 60)
      (d : IsDamaged ks file damaged intact) (events : List Piece) (is : answer ≡ answer_as (walked most events) (refused_in most events)) where
    answer_up_to : (to : ℕ) (front : List Piece) (stopped : Option Region) → DamageLeavesEach unread_ok ks intact 0 to front → MaySkipEach most (events_in front)
        → MatchOption stopped (to ≡ length ks) (λ region. IsLeftRegion unread_ok ks intact to region × (may_skip most region ≡ false))
        → walked most events ≡ events_in front → refused_in most events ≡ stopped → IsAnswerPastDamage unread_ok most answer_as ks intact answer
    answer_up_to to front stopped left skips ends walk stop =
        let numbers = left_numbers unread_ok ks intact 0 to front left in
        record {
          to = to;
          numbers = numbers.0;
          reached = numbers.1;
          pieces = front;
          left = left;
          skips = skips;
          stopped = stopped;
          ends = ends;
          answers = is ∙ ap (λ (es : List Piece). answer_as es (refused_in most events)) walk ∙ ap (answer_as (events_in front)) stop;
          records = subst (AreRecordsOf (untouched ks intact numbers.0)) (sym (records_in_events front))
              (left_records unread_ok ks intact 0 to front numbers.0 left numbers.1);
          chunks = chunks_in_events front ∙ left_chunks unread_ok ks intact d.well_formed.1.each 0 to front numbers.0 left numbers.1;
          lost = lost_up_to_a_block ks intact to numbers.0 numbers.1;
        }

    answer_past : AreEvents unread_ok damaged events → IsAnswerPastDamage unread_ok most answer_as ks intact answer
    unfolding FrontOf EndsSo
    answer_past (pieces, h, are) =
        let found : FrontOf 0 pieces = front_of 0 pieces (pieces_left unread_ok ks file damaged intact d reach pieces h) in
        by_end found.0 found.1 found.2 found.3 (subst (λ (es : List Piece). EndsSo found.0 es (events_in found.1)) are found.4) where
          by_end : (to : ℕ) (front : List Piece) → DamageLeavesEach unread_ok ks intact 0 to front → MaySkipEach most (events_in front)
              → EndsSo to events (events_in front) → IsAnswerPastDamage unread_ok most answer_as ks intact answer
          by_end to front left skips (inl (end, same)) =
              answer_up_to to front None left skips end (ap (walked most) same ∙ walked-all most (events_in front) skips)
              (ap (refused_in most) same ∙ refused-none most (events_in front) skips)
          by_end to front left skips (inr (region, behind, there, refused, same)) =
              answer_up_to to front (Some region) left skips (there, refused)
              (ap (walked most) same ∙ walked-to_refused most (events_in front) behind region skips refused)
              (ap (refused_in most) same ∙ refused-there most (events_in front) behind region skips refused)

-- the answer to the front of a file
module _ (unread_ok : Bool) (most : Option ℕ) (answer_as : List Piece → Option Region → Answer) (answer : Answer) (ks : List ChunkValue) (file bytes : List ℕ) (m : ℕ)
    (well_formed : IsWellFormed ks file) (within : m ≤ length file) (cut_off : bytes ≡ take m file) (events : List Piece) (are : AreEvents unread_ok bytes events)
    (is : answer ≡ answer_as (walked most events) (refused_in most events)) where
  answer_to_front : IsAnswerToFront unread_ok most answer_as ks file m answer
  answer_to_front =
      let front = front_pieces unread_ok ks file m well_formed within in
      record {
        pieces = front.0;
        apart = front.1;
        answers = is ∙ ap (λ (es : List Piece). answer_as (walked most es) (refused_in most es))
            (events_one unread_ok bytes events (events_in front.0) are
            (subst (λ (b : List ℕ). AreEvents unread_ok b (events_in front.0)) (sym cut_off) (front.0, front.2, refl)));
      }

-- so an answer that tells of the events of a file is so told
told_so : (unread_ok : Bool) (most : Option ℕ) (answer_as : List Piece → Option Region → Answer) (bytes : List ℕ) (answer : Answer) (events : List Piece)
    → length bytes ≤ 2 ^ 60 → AreEvents unread_ok bytes events → answer ≡ answer_as (walked most events) (refused_in most events)
    → IsToldSo unread_ok most answer_as bytes answer
told_so unread_ok most answer_as bytes answer events reach are is = record {
  damaged = λ ks file intact d. answer_past unread_ok most ks intact answer_as answer file bytes (omega (arith, reach, d.same_length)) d events is are;
  front = λ ks file m well_formed within cut. answer_to_front unread_ok most answer_as answer ks file bytes m well_formed within cut events are is;
}

-- and that of a file that isn't too long is the one of its events
of_file : (P : List ℕ → Answer → Type 0) (files : List (List ℕ)) (bytes : List ℕ) (answer : Answer) → files ≡ bytes ∷ [] → length bytes ≤ 2 ^ 60
    → OfFile P files answer → P bytes answer
of_file P files bytes answer same reach h =
    elim (subst (λ (xs : List (List ℕ)). OfFile P xs answer) same h) [
      | inl (long, is) ↦ absurd (omega (arith, long, reach))
      | inr (short, is) ↦ is
    ]

told_past_damage : (command : Option Command) (r : Read) (answer : Answer) → IsAnswerTo command r answer
    → (bytes : List ℕ) → r.files ≡ bytes ∷ [] → length bytes ≤ 2 ^ 60 → IsToldPastDamage command bytes answer
told_past_damage None r answer h bytes same reach = tt
told_past_damage (Some (Write words)) r answer h bytes same reach = tt
told_past_damage (Some (Show words)) r answer h bytes same reach = tt
told_past_damage (Some (Recover words)) r answer h bytes same reach =
    let is : IsRecovered words bytes answer = of_file (IsRecovered words) r.files bytes answer same reach h in
    told_so false words.most (recovered_as words) bytes answer is.events reach is.are
    (same_answer answer (recovered_as words (walked words.most is.events) (refused_in words.most is.events)) is.puts is.status)
told_past_damage (Some (Verify words)) r answer h bytes same reach = tt
told_past_damage (Some (Seek words)) r answer h bytes same reach = tt
told_past_damage (Some (Repair words)) r answer h bytes same reach =
    let is : IsRepaired words bytes answer = of_file (IsRepaired words) r.files bytes answer same reach h in
    told_so true words.most repaired_as bytes answer is.events reach is.are
    (same_answer answer (repaired_as (walked words.most is.events) (refused_in words.most is.events)) is.puts is.status)
told_past_damage (Some (Sample words)) r answer h bytes same reach = tt
told_past_damage (Some (Join words)) r answer h bytes same reach = tt
told_past_damage (Some (Ranges words)) r answer h bytes same reach = tt
told_past_damage (Some (Append words)) r answer h bytes same reach = tt
told_past_damage (Some (Collect words)) r answer h bytes same reach = tt

runs-past_damage : (command : Option Command) (before after : Seen) (ended : Status) → Runs (meaning_of command) before after ended
    → Runs (meaning_past_damage command) before after ended
runs-past_damage command before after ended ran =
    runs-with (meaning_of command)
    (λ r answer. (meaning_of command).answers r answer
    × ((bytes : List ℕ) → r.files ≡ bytes ∷ [] → length bytes ≤ 2 ^ 60 → IsToldPastDamage command bytes answer))
    (λ r answer h. (h, told_past_damage command r answer h)) before after ended ran

-- a run of a command goes so where it has this meaning
pub runs-as : (known command : Option Command) (before after : Seen) (ended : Status) → known ≡ command → Runs (meaning_of known) before after ended
    → RunsCommand command before after ended
runs-as known command before after ended same ran =
    subst (λ (c : Option Command). RunsCommand c before after ended) same
    (record { runs = ran; damaged = runs-past_damage known before after ended ran })
