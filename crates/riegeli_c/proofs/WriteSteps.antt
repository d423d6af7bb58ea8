-- The steps of a call that writes.
use Rattle.std.proofs.Common.{◌≡◌, ◌∙◌, ℕ, ◌+◌, ◌-◌, ◌≤◌, Bool, ◌&&◌, Option, Some, None, Result, Ok, Err, List, [], ◌++◌, length, take, drop, refl, sym, ap, subst, length-append, inl, inr, arith}
use Rattle.std.specs.Result.{IfOk, OnOk}
use Rattle.std.proofs.lemmas.Bool.{cases_lt, cond-false, ne_eqb}
use Rattle.std.proofs.lemmas.List.{take_at, take-append-drop}
use Rattle.std.proofs.lemmas.Option.{none-some, same_Some}
use Rattle.std.specs.Prelude.{◌==◌}
use Rattle.record_io.specs.Outside.{Takes, TakesShort}
use Rattle.chunk_header.specs.Chunks.{ChunkValue}
use Rattle.meta_chunk.specs.Files.{end_of_chunks, laid_each}
use Rattle.meta_chunk.proofs.Joins.{end-laid_each}
use Rattle.ordered_writer.specs.Writers.{Writer}
use Rattle.record_group.specs.Groups.{groups, padding_if, pads_start, pads_end}
use Rattle.record_group.specs.Groupings.{Grouping, MayLimit}
use Rattle.record_writer.specs.MadeFiles.{chunks_of_groups}
use Rattle.riegeli_c.specs.declared.laying.LayEnd.{LayEnd}
use Rattle.riegeli_c.specs.declared.writing.OptionsTold.{OptionsTold}
use Rattle.riegeli_c.specs.declared.writing.WrittenTold.{WrittenTold}
use Rattle.riegeli_c.specs.Laying.{AreLaidBy}
use Rattle.riegeli_c.specs.Writes.{AreGoodOptions, TellsWritten, chunks_told, every_told, groups_laid, pad_told, records_laid, signature_at}
use Rattle.riegeli_c.proofs.LaidBy.{laid-then, short-then, short-longer, position}

-- what a call that writes makes of its arguments: a writer at the place, whether padding is wanted before, and the limits of groups
pub record IsReady (place : ℕ) (options : OptionsTold) (writer : Writer) (starts : Bool) (grouper : Grouping) : Type 0 where
  pub there : writer.position ≡ place
  pub starts_is : starts ≡ pads_start (pad_told options.pad)
  pub size_is : grouper.size ≡ options.chunk
  pub every_is : grouper.every ≡ every_told options.every

-- how many of the records are laid, where the others are held
pub count-told : {place : ℕ} {options : OptionsTold} {writer : Writer} {starts : Bool} {grouper : Grouping}
    (ready : IsReady place options writer starts grouper) (records : List (List ℕ)) (last held count : ℕ)
    → held + length (records_laid records grouper.size grouper.every (last == 1)) ≡ count
    → held + length (records_laid records options.chunk (every_told options.every) (last == 1)) ≡ count
count-told ready records last held count is = rw (ready.size_is, ready.every_is) at is

-- a number of records that is told is at least 1
every_some : (count n : ℕ) → every_told count ≡ Some n → (1 ≤ n) × (count ≡ n)
every_some count n is =
    elim (cases_lt 0 count) [
      | inl some ↦
          let there : every_told count ≡ Some count = cond-false (count == 0) None (Some count) (ne_eqb count 0 (λ same. omega (arith, some, same))) in
          let same : count ≡ n = same_Some count n (sym there ∙ is) in
          (omega (arith, some, same), same)
      | inr none ↦
          let nothing : count ≡ 0 = omega (arith, none) in
          absurd (none-some n (sym (ap every_told nothing) ∙ is))
    ]

-- options within their limits are those that groups may be limited to
pub may_limit : (options : OptionsTold) (every : Option ℕ) → AreGoodOptions options → every ≡ every_told options.every
    → MayLimit options.chunk every
may_limit options every good is = record {
  some_size = good.some_size;
  size_at_most = good.size;
  some_records = λ n there. (every_some options.every n (sym is ∙ there)).0;
  every_at_most = λ n there. omega (arith, good.every, (every_some options.every n (sym is ∙ there)).1);
}

module _ (a b : Option (List ℕ)) (u v : Writer) (place : ℕ) (records : List (List ℕ)) (options : OptionsTold) (last : ℕ)
    (starts : Bool) (grouper : Grouping) (ready : IsReady place options u starts grouper) where
  -- what stands before the chunks of records
  abbrev First : List ChunkValue
  First = signature_at u.position ++ padding_if starts (end_of_chunks u.position (signature_at u.position))

  abbrev Grouped : List ChunkValue
  Grouped = chunks_of_groups (groups_laid (last == 1) (groups records grouper.size grouper.every))

  abbrev Ended : Bool → List ChunkValue
  Ended wanted = (First ++ Grouped) ++ padding_if wanted (end_of_chunks u.position (First ++ Grouped))

  -- whether padding is wanted behind
  abbrev Wanted : Bool
  Wanted = (last == 1) && pads_end (pad_told options.pad)

  -- all chunks
  all-are : Ended Wanted ≡ chunks_told u.position records options last
  all-are = rw (ready.starts_is, ready.size_is, ready.every_is) refl

  at_place : (P : ℕ → Type 0) → P u.position → P place
  at_place P h = subst P ready.there h

  -- a front of the first isn't all
  short-grouped : (c : Option (List ℕ)) → TakesShort a c (laid_each u.position (First ++ Grouped))
      → TakesShort a c (laid_each place (chunks_told place records options last))
  short-grouped c h =
      at_place (λ (p : ℕ). TakesShort a c (laid_each p (chunks_told p records options last)))
      (subst (λ (ks : List ChunkValue). TakesShort a c (laid_each u.position ks)) all-are
      (short-longer a c u.position (First ++ Grouped) (padding_if Wanted (end_of_chunks u.position (First ++ Grouped))) h))

  -- not all of the first was taken
  pub short-first : TakesShort a b (laid_each u.position First) → TakesShort a b (laid_each place (chunks_told place records options last))
  short-first h = short-grouped b (short-longer a b u.position First Grouped h)

  -- or of the groups' chunks, behind it
  pub short-groups : (c : Option (List ℕ)) → AreLaidBy a b u v First → TakesShort b c (laid_each v.position Grouped)
      → TakesShort a c (laid_each place (chunks_told place records options last))
  short-groups c first h = short-grouped c (short-then a b c u v First Grouped first h)

  module _ (c : Option (List ℕ)) (w : Writer) (wanted : Bool) (ends_is : wanted ≡ ((last == 1) && pads_end (pad_told options.pad)))
      (first : AreLaidBy a b u v First) (then : AreLaidBy b c v w Grouped) where
    both : AreLaidBy a c u w (First ++ Grouped)
    both = laid-then a b c u v w First Grouped first then

    -- the padding behind these
    behind : padding_if wanted w.position ≡ padding_if Wanted (end_of_chunks u.position (First ++ Grouped))
    behind = rw (ends_is, position a c u w (First ++ Grouped) both) refl

    -- or of that
    pub short-end : (d : Option (List ℕ)) → TakesShort c d (laid_each w.position (padding_if wanted w.position))
        → TakesShort a d (laid_each place (chunks_told place records options last))
    short-end d h =
        at_place (λ (p : ℕ). TakesShort a d (laid_each p (chunks_told p records options last)))
        (subst (λ (ks : List ChunkValue). TakesShort a d (laid_each u.position ks)) all-are
        (short-then a c d u w (First ++ Grouped) (padding_if Wanted (end_of_chunks u.position (First ++ Grouped))) both
        (subst (λ (ks : List ChunkValue). TakesShort c d (laid_each w.position ks)) behind h)))

    -- all was taken
    pub whole-written : (d : Option (List ℕ)) (x : Writer) → AreLaidBy c d w x (padding_if wanted w.position)
        → Takes a d (laid_each place (chunks_told place records options last)) × (x.position ≡ end_of_chunks place (chunks_told place records options last))
    whole-written d x h =
        at_place
        (λ (p : ℕ). Takes a d (laid_each p (chunks_told p records options last)) × (x.position ≡ end_of_chunks p (chunks_told p records options last)))
        (let all : AreLaidBy a d u x (chunks_told u.position records options last) =
        subst (λ (ks : List ChunkValue). AreLaidBy a d u x ks) all-are
        (laid-then a c d u w x (First ++ Grouped) (padding_if Wanted (end_of_chunks u.position (First ++ Grouped))) both
        (subst (λ (ks : List ChunkValue). AreLaidBy c d w x ks) behind h)) in
        (all.bytes, position a d u x (chunks_told u.position records options last) all))

-- what stands in room of which so much is used, where a sink over it took all that was laid
pub in-room : (result : Result WrittenTold LayEnd) (place : ℕ) (records : List (List ℕ)) (options : OptionsTold) (last : ℕ) (before after : Option (List ℕ))
    (used : ℕ) (room : List ℕ) → before ≡ Some [] → after ≡ Some (take used room)
    → OnOk result (Takes before after (laid_each place (chunks_told place records options last))) → IfOk result (TellsWritten place records options last)
    → IfOk result (λ told. (take (told.end - place) room ≡ laid_each place (chunks_told place records options last)) × (told.end ≤ place + length room))
in-room (Err e) place records options last before after used room none is took told = tt
in-room (Ok told) place records options last before after used room none is took tells =
    let ks : List ChunkValue = chunks_told place records options last in
    let all : Some (take used room) ≡ Some (laid_each place ks) = sym is ∙ subst (λ (o : Option (List ℕ)). Takes o after (laid_each place ks)) none took in
    let same : take used room ≡ laid_each place ks = cc all in
    let parts : take used room ++ drop used room ≡ room = take-append-drop used room in
    let size : told.end - place ≡ length (take used room) = omega (arith, tells.end, end-laid_each place ks, ap length same) in (
      ap (λ (n : ℕ). take n room) size
          ∙ ap (take (length (take used room))) (sym parts)
          ∙ take_at (take used room) (drop used room) (length (take used room)) refl
          ∙ same,
      omega (arith, tells.end, end-laid_each place ks, ap length same, ap length parts, length-append (take used room) (drop used room)),
    )
