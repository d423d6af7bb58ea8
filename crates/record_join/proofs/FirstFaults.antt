-- The files before the first with a fault, joined.
use Rattle.std.proofs.Common.{◌≡◌, ◌∙◌, ℕ, ◌+◌, ◌-◌, ◌≤◌, true, Option, List, ◌++◌, take, drop, sym, ap, subst, arith}
use Rattle.std.proofs.lemmas.List.{take-append-drop}
use Rattle.std.proofs.Math.Seq.{take-add}
use Rattle.chunk_reader.specs.Faults.{HaveNoFault}
use Rattle.chunk_reader.proofs.ManyFiles.{first_behind}
use Rattle.record_join.specs.Joined.{joined}
use Rattle.record_join.specs.Joins.{IsPutOfJoined}
use Rattle.record_join.proofs.JoinedFiles.{joined-front}

-- what was put of the first files, of which none has a fault, was put of what is made of the files
pub front_joined : (P : (before after : Option (List ℕ)) → List ℕ → Type 0)
    → ((a b : Option (List ℕ)) (x y : List ℕ) → P a b x → P a b (x ++ y))
    → (files : List (List ℕ)) (count : ℕ) (before after : Option (List ℕ)) → HaveNoFault true (take count files)
    → P before after (joined (take count files)) → IsPutOfJoined P files before after
front_joined P longer files count before after none front = record {
  of_all = λ h.
      let rest = joined-front (take count files) (drop count files) in
      subst (P before after) (sym rest.1 ∙ ap joined (take-append-drop count files))
      (longer before after (joined (take count files)) rest.0 front);
  of_those_before = λ index fault first.
      let most : count ≤ index = first_behind true files count index fault none first in
      let rest = joined-front (take count files) (take (index - count) (drop count files)) in
      let n : count + (index - count) ≡ index = omega (arith, most) in
      subst (P before after) (sym rest.1 ∙ ap joined (sym (take-add count (index - count) files)) ∙ ap (λ (k : ℕ). joined (take k files)) n)
      (longer before after (joined (take count files)) rest.0 front);
}
