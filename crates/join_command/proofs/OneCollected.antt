-- What two answers of `collect` to the same files share, and which there are.
use Rattle.std.proofs.Common.{◌≡◌, ◌≢◌, ◌∙◌, ℕ, ◌⊎◌, false, List, [], length, map, refl, sym, ap, inl, inr}
use Rattle.record_io.specs.Puts.{Made, Out, Notes, bytes_to}
use Rattle.chunk_reader.specs.declared.reasons.Fault.{Fault}
use Rattle.chunk_reader.proofs.ManyFiles.{first_is_one, first_or_none}
use Rattle.record_collect.specs.Gatherings.{AreRecordsOfEach, IsTooMuch, AreWoven, GatheredValue}
use Rattle.record_collect.proofs.WholeGatherings.{fits, none_of_each}
use Rattle.command_frame.specs.Answers.{Answer, noted}
use Rattle.command_frame.specs.declared.status.Status.TheVariants as status
use Rattle.command_frame.proofs.TwoStreams.{bytes_to-neither}
use Rattle.show_command.specs.Readings.{refused_file_text}
use Rattle.join_command.specs.CollectCommand.{AreCollectedIn, AreOnlyRefusedIn, AreTooMuchIn, IsCollectAnswer, collected_answer, collected_file, collected_lines}
use Rattle.join_command.specs.CollectingEnds.{AreEachInReach}
use Rattle.join_command.proofs.AllWeaves.{each_gathered}
use Rattle.join_command.proofs.CollectAnswers.{is_whole}

-- the same status and the same notes; and they are one where that status isn't that of a whole run
abbrev pub AreAlike : Answer → Answer → Type 0
AreAlike a b = (a.status ≡ b.status) × (bytes_to Notes a.puts ≡ bytes_to Notes b.puts) × (a.status ≢ status.Ok → a ≡ b)

same : (a b : Answer) → a ≡ b → AreAlike a b
same a b is = (ap (λ (x : Answer). x.status) is, ap (λ (x : Answer). bytes_to Notes x.puts) is, λ other. is)

-- of records that are gathered nothing is said
says_nothing : (files : List (List ℕ)) (a : Answer) → AreCollectedIn files a → bytes_to Notes a.puts ≡ []
says_nothing files a h =
    ap (λ (x : Answer). bytes_to Notes x.puts) h.is
    ∙ bytes_to-neither Notes Made Out (collected_file h.made.records) (collected_lines h.made) refl refl

ends_well : (files : List (List ℕ)) (a : Answer) → AreCollectedIn files a → a.status ≡ status.Ok
ends_well files a h = ap (λ (x : Answer). x.status) h.is

both_collected : (files : List (List ℕ)) (a b : Answer) → AreCollectedIn files a → AreCollectedIn files b → AreAlike a b
both_collected files a b h g = (
  ends_well files a h ∙ sym (ends_well files b g),
  says_nothing files a h ∙ sym (says_nothing files b g),
  λ other. absurd (other (ends_well files a h)),
)

-- records that are gathered leave no file refused, and are not too much; nor are those of a refused file
collected_or_refused : (files : List (List ℕ)) (a b : Answer) → AreCollectedIn files a → AreOnlyRefusedIn files b → ⊥
collected_or_refused files a b h g = first_or_none false files g.index g.fault g.first (none_of_each files h.gathered.lists h.gathered.are)

refused_or_too_much : (files : List (List ℕ)) (a : Answer) → AreOnlyRefusedIn files a → IsTooMuch files → ⊥
refused_or_too_much files a h much = first_or_none false files h.index h.fault h.first (none_of_each files much.lists much.are)

both_refused : (files : List (List ℕ)) (a b : Answer) → AreOnlyRefusedIn files a → AreOnlyRefusedIn files b → a ≡ b
both_refused files a b h g =
    let one = first_is_one false files h.index g.index h.fault g.fault h.first g.first in
    h.is
    ∙ ap (λ (index : ℕ). noted status.Refused (refused_file_text index h.fault)) one.0
    ∙ ap (λ (fault : Fault). noted status.Refused (refused_file_text g.index fault)) one.1
    ∙ sym g.is

abbrev AreJudgedIn : List (List ℕ) → Answer → Type 0
AreJudgedIn files a = AreCollectedIn files a ⊎ AreOnlyRefusedIn files a ⊎ AreTooMuchIn files a

judged_alike : (files : List (List ℕ)) (a b : Answer) → AreJudgedIn files a → AreJudgedIn files b → AreAlike a b
judged_alike files a b (inl h) (inl g) = both_collected files a b h g
judged_alike files a b (inl h) (inr (inl g)) = absurd (collected_or_refused files a b h g)
judged_alike files a b (inl h) (inr (inr g)) = absurd (fits files h.made h.gathered g.0)
judged_alike files a b (inr (inl h)) (inl g) = absurd (collected_or_refused files b a g h)
judged_alike files a b (inr (inl h)) (inr (inl g)) = same a b (both_refused files a b h g)
judged_alike files a b (inr (inl h)) (inr (inr g)) = absurd (refused_or_too_much files a h g.0)
judged_alike files a b (inr (inr h)) (inl g) = absurd (fits files g.made g.gathered h.0)
judged_alike files a b (inr (inr h)) (inr (inl g)) = absurd (refused_or_too_much files b g h.0)
judged_alike files a b (inr (inr h)) (inr (inr g)) = same a b (h.1 ∙ sym g.1)

pub answers_alike : (files : List (List ℕ)) (a b : Answer) → IsCollectAnswer files a → IsCollectAnswer files b → AreAlike a b
answers_alike files a b (inl (long, is)) (inl (too, also)) = same a b (is ∙ sym also)
answers_alike files a b (inl (long, is)) (inr (reach, g)) = absurd (long reach)
answers_alike files a b (inr (reach, h)) (inl (long, also)) = absurd (long reach)
answers_alike files a b (inr (reach, h)) (inr (also, g)) = judged_alike files a b h g

-- an answer of a whole run is one of gathered records
pub whole_collected : (files : List (List ℕ)) (a : Answer) → IsCollectAnswer files a → a.status ≡ status.Ok
    → AreEachInReach (map length files) × AreCollectedIn files a
whole_collected files a (inl (long, is)) well = absurd (let no : status.Limit ≡ status.Ok = sym (ap (λ (x : Answer). x.status) is) ∙ well in cc)
whole_collected files a (inr (reach, inl h)) well = (reach, h)
whole_collected files a (inr (reach, inr (inl h))) well = absurd (let no : status.Refused ≡ status.Ok = sym (ap (λ (x : Answer). x.status) h.is) ∙ well in cc)
whole_collected files a (inr (reach, inr (inr h))) well = absurd (let no : status.Limit ≡ status.Ok = sym (ap (λ (x : Answer). x.status) h.1) ∙ well in cc)

-- and then each weave of the records gives one
pub each_weave : (files : List (List ℕ)) (a : Answer) (lists : List (List (List ℕ))) (made : GatheredValue) → IsCollectAnswer files a
    → a.status ≡ status.Ok → AreRecordsOfEach files lists → AreWoven lists made.records made.numbers → IsCollectAnswer files (collected_answer made)
each_weave files a lists made is well are woven =
    let whole = whole_collected files a is well in
    is_whole files made whole.0 (each_gathered files whole.1.made made lists whole.1.gathered are woven)
