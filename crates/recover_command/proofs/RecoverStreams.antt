-- What each stream takes of the answer of `show` where it goes on past damage.
use Rattle.std.proofs.Common.{◌≡◌, ◌≢◌, ◌∙◌, ℕ, List, [], ◌∷◌, ◌++◌, refl, sym, ap, append-nil}
use Rattle.std.specs.List.{AllByRecursion, enumerate_from, flat_map}
use Rattle.std.proofs.lemmas.Grind.{flat_map-append}
use Rattle.record_io.specs.Puts.{Put, Made, Out, Notes, puts_to, bytes_to}
use Rattle.record_io.proofs.Puts.{bytes_to-append, bytes_to-own, bytes_to-other, puts_to-append}
use Rattle.chunk_reader.specs.declared.reasons.Why.{Why}
use Rattle.damage_skip.specs.Pieces.{Skipped, Piece, records_of}
use Rattle.damage_skip.specs.FilePieces.{placed_in}
use Rattle.recover_command.specs.declared.recover_words.RecoverWords.{RecoverWords}
use Rattle.command_frame.specs.Answers.{Answer}
use Rattle.show_command.specs.declared.show_words.RecordForm.{RecordForm}
use Rattle.show_command.specs.Readings.{record_line}
use Rattle.damage_skip.specs.Bounds.{walked, refused_in}
use Rattle.damage_skip.proofs.RegionsIn.{told_first, no_region}
use Rattle.damage_skip.specs.Regions.{region_of, regions_in, told_text, skipped_text, stopped_text, walk_text}
use Rattle.recover_command.specs.RecoverCommand.{event_puts, IsRecovered}
use Rattle.command_frame.proofs.TwoStreams.{bytes_to-first, bytes_to-second, bytes_to-neither}

-- of what is put of events
events_made : (form : RecordForm) (es : List Piece) → bytes_to Made (flat_map (event_puts form) es) ≡ []
events_made form [] = refl
events_made form (e ∷ es) =
    bytes_to-append Made (event_puts form e) (flat_map (event_puts form) es)
    ∙ ap (λ (xs : List ℕ). xs ++ bytes_to Made (flat_map (event_puts form) es))
    (bytes_to-neither Made Out Notes (flat_map (record_line form) (enumerate_from e.begin (records_of e.what))) (told_text (region_of e)) refl refl)
    ∙ events_made form es

events_out : (form : RecordForm) (es : List Piece) → bytes_to Out (flat_map (event_puts form) es) ≡ flat_map (record_line form) (placed_in es)
events_out form [] = refl
events_out form (e ∷ es) =
    let placed : List (ℕ × List ℕ) = enumerate_from e.begin (records_of e.what) in
    let lines : List ℕ = flat_map (record_line form) placed in
    bytes_to-append Out (event_puts form e) (flat_map (event_puts form) es)
    ∙ ap (λ (xs : List ℕ). xs ++ bytes_to Out (flat_map (event_puts form) es)) (bytes_to-first Out Notes lines (told_text (region_of e)) refl)
    ∙ ap (λ (xs : List ℕ). lines ++ xs) (events_out form es)
    ∙ sym (flat_map-append (record_line form) placed (placed_in es))

pub events_notes : (form : RecordForm) (es : List Piece) → bytes_to Notes (flat_map (event_puts form) es) ≡ skipped_text (regions_in es)
events_notes form [] = refl
events_notes form (e ∷ es) =
    let line : List ℕ = told_text (region_of e) in
    bytes_to-append Notes (event_puts form e) (flat_map (event_puts form) es)
    ∙ ap (λ (xs : List ℕ). xs ++ bytes_to Notes (flat_map (event_puts form) es))
    (bytes_to-second Out Notes (flat_map (record_line form) (enumerate_from e.begin (records_of e.what))) line refl)
    ∙ ap (λ (xs : List ℕ). line ++ xs) (events_notes form es)
    ∙ sym (told_first (region_of e) (regions_in es))

-- of the answer of `show` where it goes on past damage
pub recovered-streams : (words : RecoverWords) (file : List ℕ) (answer : Answer) (is : IsRecovered words file answer)
    → (bytes_to Made answer.puts ≡ [])
    × (bytes_to Out answer.puts ≡ flat_map (record_line words.show.form) (placed_in (walked words.most is.events)))
    × (bytes_to Notes answer.puts ≡ walk_text (regions_in (walked words.most is.events)) (refused_in words.most is.events))
recovered-streams words file answer is =
    let es : List Piece = walked words.most is.events in
    let puts : List Put = flat_map (event_puts words.show.form) es in
    let stop : List ℕ = stopped_text (refused_in words.most is.events) in (
      ap (bytes_to Made) is.puts
          ∙ bytes_to-append Made puts (puts_to Notes stop)
          ∙ ap (λ (xs : List ℕ). xs ++ bytes_to Made (puts_to Notes stop)) (events_made words.show.form es)
          ∙ bytes_to-other Made Notes stop refl,
      ap (bytes_to Out) is.puts
          ∙ bytes_to-append Out puts (puts_to Notes stop)
          ∙ ap (λ (xs : List ℕ). bytes_to Out puts ++ xs) (bytes_to-other Out Notes stop refl)
          ∙ append-nil (bytes_to Out puts)
          ∙ events_out words.show.form es,
      ap (bytes_to Notes) is.puts
          ∙ bytes_to-append Notes puts (puts_to Notes stop)
          ∙ ap (λ (xs : List ℕ). xs ++ bytes_to Notes (puts_to Notes stop)) (events_notes words.show.form es)
          ∙ ap (λ (xs : List ℕ). skipped_text (regions_in es) ++ xs) (bytes_to-own Notes stop),
    )

-- what is put of events of which none is a region
pub events-unskipped : (form : RecordForm) (es : List Piece) → AllByRecursion (λ event. (why : Why) → event.what ≢ Skipped why) es
    → flat_map (event_puts form) es ≡ puts_to Out (flat_map (record_line form) (placed_in es))
events-unskipped form [] h = refl
events-unskipped form (e ∷ es) h =
    let placed : List (ℕ × List ℕ) = enumerate_from e.begin (records_of e.what) in
    let lines : List ℕ = flat_map (record_line form) placed in
    ap (λ (t : List ℕ). (puts_to Out lines ++ puts_to Notes t) ++ flat_map (event_puts form) es) (ap told_text (no_region e.begin e.end e.what h.0))
    ∙ ap (λ (ps : List Put). ps ++ flat_map (event_puts form) es) (append-nil (puts_to Out lines))
    ∙ ap (λ (ps : List Put). puts_to Out lines ++ ps) (events-unskipped form es h.1)
    ∙ sym (puts_to-append Out lines (flat_map (record_line form) (placed_in es)))
    ∙ ap (puts_to Out) (sym (flat_map-append (record_line form) placed (placed_in es)))
