-- How the work of `repair` ends, by how the repair of its file did, where the file may show its bytes.
use Rattle.std.proofs.Common.{◌≡◌, ℕ, ◌-◌, ◌≤◌, arith, Bool, true, false, Option, Some, None, Result, Ok, Err, IfSome, IsSomeAnd, List, [], ◌∷◌, length, refl, sym, subst}
use Rattle.std.specs.Fn.{Shared}
use denote.Ref.{Bor}
use Rattle.std.proofs.lemmas.Option.{MatchOption-at_some}
use Rattle.record_io.specs.Outside.{Rose, Takes, TakesShort}
use Rattle.record_io.specs.Puts.{Put, Taken, taken_by}
use Rattle.damage_skip.specs.declared.regions.Region.{Region}
use Rattle.repair_copy.specs.Repairs.{Repairs, Skips, WentOut}
use Rattle.repair_copy.specs.Copies.{WentOutAtFault}
use Rattle.repair_copy.proofs.WalkEnds.{repairs_takes}
use Rattle.repair_copy.specs.declared.repairs.Repaired.{Repaired}
use Rattle.repair_copy.specs.declared.repairs.RepairEnd.{RepairEnd}
use Rattle.damage_skip.specs.Pieces.{Piece}
use Rattle.damage_skip.specs.Bounds.{MaySkip}
use Rattle.damage_skip.specs.Policies.{IsAllowedRegion}
use Rattle.damage_skip.specs.Takings.{IsTakenByWalk}
use Rattle.damage_skip.proofs.WalkedTo.{walked-none}
use Rattle.damage_skip.proofs.Takings.{up_to-none}
use Rattle.damage_skip.proofs.WalkTakings.{by_walk-then}
use Rattle.riegeli_tool.specs.declared.repair_words.RepairWords.{RepairWords}
use Rattle.command_frame.specs.declared.status.Status.{Status}
use Rattle.command_frame.specs.declared.ending.Ending.{Ending}
use Rattle.command_frame.specs.FileAnswers.{IsInReach, most_file_bytes, report}
use Rattle.riegeli_tool.specs.RepairCommand.{IsRepaired, IsRepairedSoFar, repair_meaning}
use Rattle.riegeli_tool.specs.RepairingEnds.{end_of_repair}
use Rattle.recover_command.specs.WalkAnswers.{walk_status}
use Rattle.command_frame.specs.PutSoFar.{HasPut, HasPutSoFar}
use Rattle.command_frame.specs.Endings.{IsAllowedEnd, CutsReadingOff, HasPutToCut, HasPutAtEnd}
use Rattle.recover_command.specs.WalkingEnds.{walk_ends, IsBound, TellsOf}
use Rattle.command_frame.proofs.FileEnds.{some-answer}
use Rattle.command_frame.proofs.FileRuns.{reads_file}
use Rattle.riegeli_tool.proofs.FileAnswersExist.{repaired_exists}
use Rattle.riegeli_tool.proofs.RepairSteps.{allowed-may, cut-so_far, cut-walked, repaired-walked, stopped-walked, told-front, told-of, unmade-walked, unreported-walked, untold-walked}
use Rattle.recover_command.proofs.WalkRuns.{IsWalking, untold-may}
use Rattle.repair_copy.specs.declared.repairs.RepairEnd.TheVariants as repair
use Rattle.record_io.specs.declared.cut.Cut.TheVariants as cut
use Rattle.command_frame.specs.declared.ending.Ending.TheVariants as end

pub repair_walks : (words : RepairWords) → IsWalking (repair_meaning words) (IsRepaired words) (IsRepairedSoFar words) words.most
repair_walks words = record {
  one = reads_file (IsRepaired words) (IsRepairedSoFar words) _ _ _ _ _ refl refl refl refl;
  may_end = λ sizes ended text may. may;
  may_say = λ text may. may;
}

-- before the first event nothing is put
pub repaired-none : (words : RepairWords) (before after : ℕ) → after ≡ before → (file : List ℕ) → IsRepairedSoFar words before after file []
repaired-none words before after same file = record {
  place = 0;
  events = [];
  walked = walked-none true (MaySkip words.most) file;
  puts = refl;
  taken = up_to-none true file (after - before) (omega (arith, same));
}

module _ {F : Type 0} (g : Shared F (Bor Region × Unit {0}) Bool) (f : F) (words : RepairWords) (bound : IsBound g f words.most) where
  -- what the repair takes of a file of which the size was asked before
  pub repair-takes : (told bytes : Option (List ℕ)) (before then after : ℕ) (result : Result Repaired RepairEnd) (x y : ℕ) (a b : Taken)
      → told ≡ bytes → then ≡ before → IfSome told (Repairs g f result x y a b (after - then))
      → IfSome bytes (λ file. IsTakenByWalk true (MaySkip words.most) file (after - before))
  repair-takes told bytes before then after result x y a b same first repairs =
      by_walk-then true (IsAllowedRegion g f) (MaySkip words.most) told bytes before then after same first (allowed-may g f words bound)
      (repairs_takes g f told result x y (after - then) a b repairs)

  -- why the repair of a file ended
  cut-walks : (file : List ℕ) → length file ≤ most_file_bytes → (e : RepairEnd) (x y taken : ℕ) (a b o n m : Option (List ℕ))
      → Repairs g f (Err e) x y (taken_by a None n) (taken_by b None m) taken file
      → HasPutAtEnd walk_ends (IsRepaired words) (Err (end_of_repair e)) file (taken_by a o n) (taken_by b o m) []
  cut-walks file short (repair.Stopped region) x y taken a b o n m h = stopped-walked g f words bound file short x y taken a b o n m region h
  cut-walks file short repair.Store x y taken a b o n m h =
      some-answer (IsRepaired words) (repaired_exists words) (HasPutToCut cut.File (taken_by a o n) (taken_by b o m) []) file
      (λ answer is. cut-walked g f words bound file short x y taken a b o n m h.place h.events h.walked h.part h.took answer is h.went)
  cut-walks file short repair.Made x y taken a b o n m h =
      some-answer (IsRepaired words) (repaired_exists words) (HasPutToCut cut.Made (taken_by a o n) (taken_by b o m) []) file
      (λ answer is. unmade-walked g f words bound file short x y taken a b o n m h.place h.events h.walked h.part h.took answer is h.went)
  cut-walks file short repair.Memory x y taken a b o n m h =
      some-answer (IsRepaired words) (repaired_exists words) (HasPutToCut cut.Memory (taken_by a o n) (taken_by b o m) []) file
      (λ answer is. cut-walked g f words bound file short x y taken a b o n m h.place h.events h.walked h.part h.took answer is h.went)
  cut-walks file short repair.Notes x y taken a b o n m h =
      some-answer (IsRepaired words) (repaired_exists words) (HasPutToCut cut.Notes (taken_by a o n) (taken_by b o m) []) file
      (λ answer is. (refl, untold-walked g f words bound file short x y taken a b o n m h.place h.events h.walked h.part h.took answer is h.went))

  -- what is read failed, or memory was wanting
  went_short : (e : RepairEnd) (x y : ℕ) (events : List Piece) (part : List Put) → CutsReadingOff (end_of_repair e) → WentOut (Err e) x y events part
      → WentOutAtFault x y events part
  went_short (repair.Stopped region) x y events part short went = absurd short
  went_short repair.Store x y events part short went = went
  went_short repair.Made x y events part short went = absurd short
  went_short repair.Memory x y events part short went = went
  went_short repair.Notes x y events part short went = absurd short

  tells : (e : RepairEnd) (n m : Option (List ℕ)) → Skips g f (Err e) n m → TellsOf words.most (Err (end_of_repair e)) n m
  tells (repair.Stopped region) n m h =
      (h.regions, told-of g f words bound n m h.regions h.allowed h.lines, sym (bound region false h.answer.0 h.answer.1))
  tells repair.Store n m h = (h.regions, told-of g f words bound n m h.regions h.allowed h.lines)
  tells repair.Made n m h = (h.regions, told-of g f words bound n m h.regions h.allowed h.lines)
  tells repair.Memory n m h = (h.regions, told-of g f words bound n m h.regions h.allowed h.lines)
  tells repair.Notes n m h = told-front g f words bound n m h.regions h.allowed h.lines

  module _ (told bytes : Option (List ℕ)) (same : told ≡ bytes) (short : IfSome bytes (λ file. length file ≤ most_file_bytes)) where
    pub ended-walks : (e : RepairEnd) (why : Ending Region) (x y taken : ℕ) (a b o n m : Option (List ℕ)) → why ≡ end_of_repair e
        → IfSome told (Repairs g f (Err e) x y (taken_by a None n) (taken_by b None m) taken)
        → IfSome bytes (λ file. HasPutAtEnd walk_ends (IsRepaired words) (Err why) file (taken_by a o n) (taken_by b o m) [])
    ended-walks e why x y taken a b o n m is h =
        subst (λ (z : Ending Region). IfSome bytes (λ file. HasPutAtEnd walk_ends (IsRepaired words) (Err z) file (taken_by a o n) (taken_by b o m) [])) (sym is)
        (both bytes same short) where
          both : (bs : Option (List ℕ)) → told ≡ bs → IfSome bs (λ file. length file ≤ most_file_bytes)
              → IfSome bs (λ file. HasPutAtEnd walk_ends (IsRepaired words) (Err (end_of_repair e)) file (taken_by a o n) (taken_by b o m) [])
          both None is few = tt
          both (Some file) is few =
              cut-walks file few e x y taken a b o n m (MatchOption-at_some _ (Repairs g f (Err e) x y (taken_by a None n) (taken_by b None m) taken) file is h)

    -- all that was put so far went out
    pub ended-so_far : (e : RepairEnd) (why : Ending Region) (x y start now : ℕ) (a b o n m : Option (List ℕ))
        → why ≡ end_of_repair e
        → IfSome told (Repairs g f (Err e) x y (taken_by a None n) (taken_by b None m) (now - start))
        → CutsReadingOff why → ¬ Rose x y
        → IfSome bytes (λ file. HasPutSoFar (IsRepairedSoFar words start now file) (taken_by a o n) (taken_by b o m) [])
    ended-so_far e why x y start now a b o n m is repairs ends sound = both bytes same short where
      both : (bs : Option (List ℕ)) → told ≡ bs → IfSome bs (λ file. length file ≤ most_file_bytes)
          → IfSome bs (λ file. HasPutSoFar (IsRepairedSoFar words start now file) (taken_by a o n) (taken_by b o m) [])
      both None same few = tt
      both (Some file) same few =
          let h = MatchOption-at_some _ (Repairs g f (Err e) x y (taken_by a None n) (taken_by b None m) (now - start)) file same repairs in
          cut-so_far g f words bound file few x y (now - start) a b o n m sound h.place h.events h.walked h.part
          (went_short e x y h.events h.part (subst (CutsReadingOff {W = Region}) is ends) h.went) h.took start now h.account

    -- the file was repaired, and the report printed
    pub done-walks : (repaired : Repaired) (x y taken : ℕ) (a b o p n m : Option (List ℕ)) (ended : Status)
        → IfSome told (Repairs g f (Ok repaired) x y (taken_by a None n) (taken_by b None m) taken)
        → Takes o p (report repaired.totals) → ((regions : List Region) → repaired.regions ≡ length regions → ended ≡ walk_status regions None)
        → IfSome bytes (λ file. HasPut (IsRepaired words) file (taken_by a o n) (taken_by b p m) [] [] ended)
    done-walks repaired x y taken a b o p n m ended h printed status_is = both bytes same short where
      both : (bs : Option (List ℕ)) → told ≡ bs → IfSome bs (λ file. length file ≤ most_file_bytes)
          → IfSome bs (λ file. HasPut (IsRepaired words) file (taken_by a o n) (taken_by b p m) [] [] ended)
      both None is few = tt
      both (Some file) is few =
          repaired-walked g f words bound file few x y taken a b o n m repaired p ended
          (MatchOption-at_some _ (Repairs g f (Ok repaired) x y (taken_by a None n) (taken_by b None m) taken) file is h) printed status_is

    -- or not all of it was
    pub unreported-ends : (repaired : Repaired) (x y taken : ℕ) (a b o p n m : Option (List ℕ))
        → IfSome told (Repairs g f (Ok repaired) x y (taken_by a None n) (taken_by b None m) taken) → TakesShort o p (report repaired.totals)
        → IfSome bytes (λ file. HasPutAtEnd walk_ends (IsRepaired words) (Err (end.Cut cut.Out)) file (taken_by a o n) (taken_by b p m) [])
    unreported-ends repaired x y taken a b o p n m h printed = both bytes same short where
      both : (bs : Option (List ℕ)) → told ≡ bs → IfSome bs (λ file. length file ≤ most_file_bytes)
          → IfSome bs (λ file. HasPutAtEnd walk_ends (IsRepaired words) (Err (end.Cut cut.Out)) file (taken_by a o n) (taken_by b p m) [])
      both None is few = tt
      both (Some file) is few =
          some-answer (IsRepaired words) (repaired_exists words) (HasPutToCut cut.Out (taken_by a o n) (taken_by b p m) []) file
          (unreported-walked g f words bound file few x y taken a b o n m repaired p
          (MatchOption-at_some _ (Repairs g f (Ok repaired) x y (taken_by a None n) (taken_by b None m) taken) file is h) printed)

  -- what was told, whatever the file shows
  pub ended-tells : (e : RepairEnd) (why : Ending Region) (n m : Option (List ℕ)) → why ≡ end_of_repair e
      → Skips g f (Err e) n m → TellsOf words.most (Err why) n m
  ended-tells e why n m is h = subst (λ (y : Ending Region). TellsOf words.most (Err y) n m) (sym is) (tells e n m h)

  -- it may end so
  pub ended-allowed : (e : RepairEnd) (why : Ending Region) (told : Option ℕ) (n m : Option (List ℕ)) → why ≡ end_of_repair e
      → Skips g f (Err e) n m → IsSomeAnd told (λ size. IsInReach (size ∷ []))
      → IsAllowedEnd {X = Status} (repair_meaning words) (Err why) told
  ended-allowed e why told n m is h reach =
      subst (λ (y : Ending Region). IsAllowedEnd {X = Status} (repair_meaning words) (Err y) told) (sym is) (by_end e h) where
        by_end : (e : RepairEnd) → Skips g f (Err e) n m → IsAllowedEnd {X = Status} (repair_meaning words) (Err (end_of_repair e)) told
        by_end (repair.Stopped region) h = reach
        by_end repair.Store h = refl
        by_end repair.Made h = (refl, reach)
        by_end repair.Notes h = (untold-may words.most n m (tells repair.Notes n m h), reach)
        by_end repair.Memory h = (refl, reach)

  pub done-tells : (repaired : Repaired) (n m : Option (List ℕ)) (ended : Status) → Skips g f (Ok repaired) n m
      → ((regions : List Region) → repaired.regions ≡ length regions → ended ≡ walk_status regions None) → TellsOf words.most (Ok ended) n m
  done-tells repaired n m ended h status_is =
      (h.regions, told-of g f words bound n m h.regions h.allowed h.lines, status_is h.regions h.answer)

  pub unreported-tells : (repaired : Repaired) (n m : Option (List ℕ)) → Skips g f (Ok repaired) n m → TellsOf words.most (Err (end.Cut cut.Out)) n m
  unreported-tells repaired n m h = (h.regions, told-of g f words bound n m h.regions h.allowed h.lines)
