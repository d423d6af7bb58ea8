-- What each stream takes of an answer of `ranges`, and that `show` prints the same.
use Rattle.std.proofs.Common.{◌≡◌, ◌≢◌, ◌∙◌, ℕ, ◌≤◌, ◌<◌, false, List, [], ◌∷◌, ◌++◌, length, map, refl, sym, ap, subst, inl, inr, arith}
use Rattle.std.specs.List.{AllByRecursion, flat_map}
use Rattle.std.proofs.lemmas.List.{append-nil}
use Rattle.record_io.specs.Puts.{Made, Out, Notes, puts_to, bytes_to}
use Rattle.record_io.proofs.Puts.{bytes_to-own, bytes_to-other}
use Rattle.chunk_header.specs.Chunks.{ChunkValue}
use Rattle.meta_chunk.specs.Files.{IsPlain, IsChainOf, ArePlaced}
use Rattle.meta_chunk.proofs.Placed.{ArePlaced-one}
use Rattle.chunk_reader.specs.Faults.{HasNoFault}
use Rattle.chunk_reader.proofs.FileFaults.{fault_is_one, fault_or_none}
use Rattle.chunk_reader.proofs.WellFormedFiles.{chain_is_one}
use Rattle.command_frame.specs.Answers.{Answer, noted}
use Rattle.command_frame.specs.declared.status.Status.{Status}
use Rattle.command_frame.specs.FileAnswers.{limit_text}
use Rattle.command_frame.proofs.OneAnswer.{same_answer}
use Rattle.command_frame.proofs.TwoStreams.{bytes_to-second}
use Rattle.show_command.specs.Readings.{bare, record_line, refused_text}
use Rattle.show_command.specs.ShowCommand.{IsShown}
use Rattle.show_command.specs.declared.show_words.RecordForm.{RecordForm}
use Rattle.show_command.specs.declared.show_words.ShowWords.{ShowWords}
use Rattle.record_ranges.specs.RangesCommand.{AreAlike, IsRangesAnswer, IsReadAnswer, IsTextOfFile, differ_text, most_range_bytes}
use Rattle.record_ranges.proofs.RangesAnswers.{first_of_all, printed}
use Rattle.record_ranges.proofs.RangesSizes.{alike_or_differ, alike_within}
use Rattle.command_frame.specs.declared.status.Status.TheVariants as status

-- nothing is made; on standard output nothing is put unless the work was done, and then in notes nothing
abbrev pub PutApart : Answer → Type 0
PutApart answer =
    (bytes_to Made answer.puts ≡ [])
    × (answer.status ≢ status.Ok → bytes_to Out answer.puts ≡ [])
    × (answer.status ≡ status.Ok → bytes_to Notes answer.puts ≡ [])

apart_noted : (ended : Status) (text : List ℕ) (answer : Answer) → ended ≢ status.Ok → answer ≡ noted ended text → PutApart answer
apart_noted ended text answer other is = subst PutApart (sym is) (
  bytes_to-other Made Notes text refl,
  (λ not_ok. bytes_to-other Out Notes text refl),
  (λ ok. absurd (other ok)),
)

apart_printed : (text : List ℕ) (answer : Answer) → answer ≡ printed text → PutApart answer
apart_printed text answer is = subst PutApart (sym is) (
  bytes_to-other Made Out text refl,
  (λ not_ok. absurd (not_ok refl)),
  (λ ok. bytes_to-other Notes Out text refl),
)

pub ranges-streams : (files : List (List ℕ)) (answer : Answer) → IsRangesAnswer files answer → PutApart answer
ranges-streams files answer (inl (past, is)) = apart_noted status.Limit limit_text answer (λ e. cc e) is
ranges-streams files answer (inr (inl (within, first, other, differ, is))) = apart_noted status.Differ (differ_text first other) answer (λ e. cc e) is
ranges-streams files answer (inr (inr (may, file, there, inl (text, h, is)))) = apart_printed text answer is
ranges-streams files answer (inr (inr (may, file, there, inr (fault, faulty, is)))) = apart_noted status.Refused (refused_text fault) answer (λ e. cc e) is

-- stores that show one file told its size
sizes_of_one : (files : List (List ℕ)) (file : List ℕ) → files ≢ [] → AllByRecursion (λ other. other ≡ file) files → length file ≤ most_range_bytes
    → AreAlike (length file) (map length files)
sizes_of_one files file some one small = record { some = any files some; same = each files one; within = small } where
  any : (files : List (List ℕ)) → files ≢ [] → 0 < length (map length files)
  any [] some = absurd (some refl)
  any (file ∷ files) some = omega arith

  each : (files : List (List ℕ)) → AllByRecursion (λ other. other ≡ file) files → AllByRecursion (λ size. size ≡ length file) (map length files)
  each [] one = tt
  each (other ∷ files) one = (ap length one.0, each files one.1)

-- so what they show is answered as the file is
pub ranges-read : (files : List (List ℕ)) (file : List ℕ) (answer : Answer) → files ≢ [] → AllByRecursion (λ other. other ≡ file) files
    → length file ≤ most_range_bytes → IsRangesAnswer files answer → IsReadAnswer file answer
ranges-read files file answer some one small (inl (past, is)) =
    let alike = sizes_of_one files file some one small in
    absurd (past (alike_within (length file) (map length files) alike))
ranges-read files file answer some one small (inr (inl (within, first, other, differ, is))) =
    absurd (alike_or_differ (length file) first other (map length files) (sizes_of_one files file some one small) differ)
ranges-read files file answer some one small (inr (inr (may, read, there, h))) =
    let same : read ≡ file = cc (sym there ∙ first_of_all files file some one) in
    subst (λ (f : List ℕ). IsReadAnswer f answer) same h

-- the lines of a file without fault are what `show` prints
shown_text : (words : ShowWords) (file text : List ℕ) (shown : Answer) → words.form ≡ bare → IsTextOfFile file text
    → (is : IsShown words file shown) → text ≡ flat_map (record_line words.form) is.placed
shown_text words file text shown is_bare h is =
    let last : is.place ≡ length file =
    omega (arith, is.longest.chain.within, is.longest.greatest h.chunks (length file) h.is_file.1) in
    let chain : IsChainOf IsPlain is.ks file (length file) = subst (λ (p : ℕ). IsChainOf IsPlain is.ks file p) last is.longest.chain in
    let chunks : h.chunks ≡ is.ks = chain_is_one h.chunks is.ks file (length file) h.is_file.1 chain in
    let placed : h.placed ≡ is.placed =
    ArePlaced-one is.ks h.placed is.placed (subst (λ (ks : List ChunkValue). ArePlaced ks h.placed) chunks h.records) is.records in
    h.lines
    ∙ ap (flat_map (record_line bare)) placed
    ∙ ap (λ (form : RecordForm). flat_map (record_line form) is.placed) (sym is_bare)

-- the same status and text in notes, and all the same where the file has no fault
abbrev pub AsShown : List ℕ → (answer shown : Answer) → Type 0
AsShown file answer shown =
    (answer.status ≡ shown.status) × (bytes_to Notes answer.puts ≡ bytes_to Notes shown.puts) × (HasNoFault false file → answer ≡ shown)

read-as_shown : (words : ShowWords) (file : List ℕ) (shown answer : Answer) → words.form ≡ bare → IsShown words file shown → IsReadAnswer file answer
    → AsShown file answer shown
read-as_shown words file shown answer is_bare is (inl (text, h, also)) =
    elim is.ended [
      | inl (none, said, ended) ↦
          let same : answer ≡ shown =
          also ∙ sym (same_answer shown (printed text)
          (is.puts
          ∙ ap (λ (t : List ℕ). puts_to Out (flat_map (record_line words.form) is.placed) ++ puts_to Notes t) said
          ∙ append-nil (puts_to Out (flat_map (record_line words.form) is.placed))
          ∙ ap (puts_to Out) (sym (shown_text words file text shown is_bare h is)))
          ended) in
          (ap (λ (a : Answer). a.status) same, ap (λ (a : Answer). bytes_to Notes a.puts) same, (λ faultless. same))
      | inr (fault, faulty, said, ended) ↦ absurd (fault_or_none false file fault faulty (h.chunks, h.is_file))
    ]
read-as_shown words file shown answer is_bare is (inr (fault, faulty, also)) =
    elim is.ended [
      | inl (none, said, ended) ↦ absurd (fault_or_none false file fault faulty none)
      | inr (other, too, said, ended) ↦
          let same : fault ≡ other = fault_is_one false file fault other faulty too in (
            ap (λ (a : Answer). a.status) also ∙ sym ended,
            ap (λ (a : Answer). bytes_to Notes a.puts) also
                ∙ bytes_to-own Notes (refused_text fault)
                ∙ ap refused_text same
                ∙ sym said
                ∙ sym (bytes_to-second Out Notes (flat_map (record_line words.form) is.placed) is.said refl)
                ∙ sym (ap (bytes_to Notes) is.puts),
            (λ none. absurd (fault_or_none false file fault faulty none)),
          )
    ]

pub ranges-as_shown : (words : ShowWords) (files : List (List ℕ)) (file : List ℕ) (shown answer : Answer)
    → files ≢ [] → AllByRecursion (λ other. other ≡ file) files → length file ≤ most_range_bytes → words.form ≡ bare
    → IsShown words file shown → IsRangesAnswer files answer → AsShown file answer shown
ranges-as_shown words files file shown answer some one small is_bare is h =
    read-as_shown words file shown answer is_bare is (ranges-read files file answer some one small h)
