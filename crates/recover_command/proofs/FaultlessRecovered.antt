-- A file without fault has the same answer where `show` goes on past damage as where it doesn't.
use Rattle.std.proofs.Common.{◌≡◌, ◌≢◌, ◌∙◌, ℕ, false, Option, None, List, [], ◌∷◌, ◌++◌, length, refl, sym, ap, subst, inl}
use Rattle.std.specs.List.{AllByRecursion, cons_option, flat_map}
use Rattle.record_io.specs.Puts.{Put, Notes, puts_to, bytes_to}
use Rattle.meta_chunk.specs.Files.{IsPlain, IsFileOf}
use Rattle.chunk_reader.specs.Faults.{HasNoFault}
use Rattle.chunk_reader.specs.declared.reasons.Why.{Why}
use Rattle.chunk_reader.proofs.ChainSteps.{longest_where_whole}
use Rattle.damage_skip.specs.Pieces.{Skipped, Piece}
use Rattle.damage_skip.specs.FilePieces.{placed_in}
use Rattle.damage_skip.specs.declared.regions.Region.{Region}
use Rattle.damage_skip.proofs.FoundRecords.{events_not_skipped, events_placed}
use Rattle.recover_command.specs.declared.recover_words.RecoverWords.{RecoverWords}
use Rattle.command_frame.specs.Answers.{Answer}
use Rattle.show_command.specs.ShowCommand.{IsShown}
use Rattle.recover_command.specs.RecoverCommand.{event_puts, IsRecovered}
use Rattle.damage_skip.specs.Bounds.{MaySkip, walked, refused_in}
use Rattle.damage_skip.specs.Regions.{regions_in, stopped_text, walk_text}
use Rattle.damage_skip.proofs.BoundedWalks.{MaySkipEach, walked-all, refused-none}
use Rattle.damage_skip.proofs.RegionsIn.{no_region}
use Rattle.recover_command.proofs.RecoverStreams.{recovered-streams, events-unskipped}
use Rattle.recover_command.specs.WalkAnswers.{walk_status}
use Rattle.show_command.proofs.OneReading.{one_shown}
use Rattle.command_frame.specs.declared.status.Status.TheVariants as status

-- events that are no regions
abbrev NoneSkipped : List Piece → Type 0
NoneSkipped events = AllByRecursion (λ event. (w : Why) → event.what ≢ Skipped w) events

no_regions : (events : List Piece) → NoneSkipped events → regions_in events ≡ []
no_regions [] h = refl
no_regions (event ∷ events) h =
    ap (λ (r : Option Region). cons_option r (regions_in events)) (no_region event.begin event.end event.what h.0)
    ∙ no_regions events h.1

-- so all of them are walked, and there is nothing to say
none_skipped : (words : RecoverWords) (file : List ℕ) (answer : Answer) → HasNoFault false file → (is : IsRecovered words file answer) → NoneSkipped is.events
none_skipped words file answer none is = events_not_skipped false none.0 file is.events none.1 is.are

account : (words : RecoverWords) (file : List ℕ) (answer : Answer) → HasNoFault false file → (is : IsRecovered words file answer)
    → (walked words.most is.events ≡ is.events) × (regions_in is.events ≡ []) × (refused_in words.most is.events ≡ None)
account words file answer none is =
    let no : NoneSkipped is.events = none_skipped words file answer none is in
    let free : MaySkipEach words.most is.events = subst (AllByRecursion (MaySkip words.most)) (sym (no_regions is.events no)) tt in
    (walked-all words.most is.events free, no_regions is.events no, refused-none words.most is.events free)

pub recovered-ok : (words : RecoverWords) (file : List ℕ) (answer : Answer) → HasNoFault false file → IsRecovered words file answer
    → (bytes_to Notes answer.puts ≡ []) × (answer.status ≡ status.Ok)
recovered-ok words file answer none is =
    let a = account words file answer none is in
    let regions : regions_in (walked words.most is.events) ≡ [] = ap regions_in a.0 ∙ a.1 in (
      (recovered-streams words file answer is).2
          ∙ ap (λ (rs : List Region). walk_text rs (refused_in words.most is.events)) regions
          ∙ ap (λ (s : Option Region). walk_text [] s) a.2,
      is.status ∙ ap (λ (rs : List Region). walk_status rs (refused_in words.most is.events)) regions ∙ ap (λ (s : Option Region). walk_status [] s) a.2,
    )

pub recovered-shown : (words : RecoverWords) (file : List ℕ) (a b : Answer) → HasNoFault false file → IsShown words.show file a → IsRecovered words file b → b ≡ a
recovered-shown words file a b none shown is =
    let whole : IsFileOf IsPlain none.0 file = none.1 in
    let told = account words file b none is in
    one_shown words.show file b a
    (record {
      ks = none.0;
      place = length file;
      placed = placed_in is.events;
      longest = longest_where_whole IsPlain none.0 file whole.1;
      records = events_placed false none.0 file is.events none.1 is.are;
      said = [];
      puts = is.puts
          ∙ ap (λ (es : List Piece). flat_map (event_puts words.show.form) es ++ puts_to Notes (stopped_text (refused_in words.most is.events))) told.0
          ∙ ap (λ (s : Option Region). flat_map (event_puts words.show.form) is.events ++ puts_to Notes (stopped_text s)) told.2
          ∙ ap (λ (ps : List Put). ps ++ puts_to Notes []) (events-unskipped words.show.form is.events (none_skipped words file b none is));
      ended = inl (none, refl, (recovered-ok words file b none is).1);
    })
    shown
