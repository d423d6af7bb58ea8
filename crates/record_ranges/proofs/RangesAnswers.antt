-- Stores of one file have one answer of `ranges`.
use Rattle.std.proofs.Common.{◌≡◌, ◌≢◌, ◌∙◌, ℕ, ◌<◌, false, Some, List, [], ◌∷◌, length, map, refl, sym, ap, subst, inl, inr, arith}
use Rattle.std.specs.Prelude.{slice_get}
use Rattle.std.specs.List.{AllByRecursion, flat_map}
use Rattle.record_values.specs.Bytes.{AreBytes}
use Rattle.record_io.specs.Puts.{Out, puts_to}
use Rattle.chunk_header.specs.Chunks.{ChunkValue}
use Rattle.meta_chunk.specs.Files.{ArePlaced, placed_from}
use Rattle.meta_chunk.proofs.Held.{HoldEach-well_formed}
use Rattle.meta_chunk.proofs.Placed.{ArePlaced-one}
use Rattle.chunk_reader.specs.Faults.{HasNoFault}
use Rattle.chunk_reader.specs.declared.reasons.Fault.{Fault}
use Rattle.chunk_reader.proofs.FileFaults.{fault_is_one, fault_or_none}
use Rattle.chunk_reader.proofs.WellFormedFiles.{chain_is_one, well_formed_of_plain}
use Rattle.chunk_reader.proofs.FaultsDecided.{file_judged}
use Rattle.command_frame.specs.Answers.{Answer, noted}
use Rattle.command_frame.specs.FileAnswers.{limit_text}
use Rattle.command_frame.specs.declared.status.Status.TheVariants as status
use Rattle.show_command.specs.Readings.{bare, record_line, refused_text}
use Rattle.record_ranges.specs.RangesCommand.{AreOneFile, Differ, IsRangesAnswer, IsReadAnswer, IsTextOfFile, MayBeRead, differ_text}
use Rattle.record_ranges.proofs.RangesSizes.{alike_or_differ, alike_within, sizes_judged}

-- an answer that is printed alone
abbrev pub printed : List ℕ → Answer
printed text = record { puts = puts_to Out text; status = status.Ok }

-- the file that all are is the first
pub first_of_all : (files : List (List ℕ)) (file : List ℕ) → files ≢ [] → AllByRecursion (λ other. other ≡ file) files → slice_get files 0 ≡ Some file
first_of_all [] file some all = absurd (some refl)
first_of_all (other ∷ files) file some all = ap Some all.0

-- a file without fault has lines
text_of : (file : List ℕ) → HasNoFault false file → (text : List ℕ) × IsTextOfFile file text
text_of file (ks, is) =
    let held = HoldEach-well_formed ks (well_formed_of_plain ks file (length file) is.1).each in
    let placed : List (ℕ × List ℕ) = placed_from 0 ks held.0 in
    (flat_map (record_line bare) placed, record { chunks = ks; placed = placed; is_file = is; records = (held.0, held.1, refl); lines = refl })

-- which are no others
pub text_is_one : (file a b : List ℕ) → IsTextOfFile file a → IsTextOfFile file b → a ≡ b
text_is_one file a b h g =
    let chunks : h.chunks ≡ g.chunks = chain_is_one h.chunks g.chunks file (length file) h.is_file.1 g.is_file.1 in
    let placed : h.placed ≡ g.placed =
    ArePlaced-one g.chunks h.placed g.placed (subst (λ (ks : List ChunkValue). ArePlaced ks h.placed) chunks h.records) g.records in
    h.lines ∙ ap (flat_map (record_line bare)) placed ∙ sym g.lines

-- each file of bytes has an answer, and one at most
read_exists : (file : List ℕ) → AreBytes file → (answer : Answer) × IsReadAnswer file answer
read_exists file bytes = elim (file_judged false file bytes) [
  | inl none ↦ let text = text_of file none in (printed text.0, inl (text.0, text.1, refl))
  | inr (fault, is) ↦ (noted status.Refused (refused_text fault), inr (fault, is, refl))
]

pub read_is_one : (file : List ℕ) (a b : Answer) → IsReadAnswer file a → IsReadAnswer file b → a ≡ b
read_is_one file a b (inl (text, h, is)) (inl (other, g, also)) = is ∙ ap printed (text_is_one file text other h g) ∙ sym also
read_is_one file a b (inl (text, h, is)) (inr (fault, faulty, also)) =
    absurd (fault_or_none false file fault faulty (h.chunks, h.is_file))
read_is_one file a b (inr (fault, faulty, is)) (inl (text, h, also)) =
    absurd (fault_or_none false file fault faulty (h.chunks, h.is_file))
read_is_one file a b (inr (fault, faulty, is)) (inr (other, too, also)) =
    is ∙ ap (λ (f : Fault). noted status.Refused (refused_text f)) (fault_is_one false file fault other faulty too) ∙ sym also

-- all files are of bytes, so the first is
first_bytes : (files : List (List ℕ)) (file : List ℕ) → AllByRecursion AreBytes files → slice_get files 0 ≡ Some file → AreBytes file
first_bytes [] file bytes there = absurd (cc there)
first_bytes (first ∷ files) file bytes there = let is : first ≡ file = cc there in subst AreBytes is bytes.0

-- what the stores of a file show has an answer
pub ranges_exists : (files : List (List ℕ)) → files ≢ [] → AllByRecursion AreBytes files → (MayBeRead (map length files) → AreOneFile files)
    → (answer : Answer) × IsRangesAnswer files answer
ranges_exists files some bytes supposed = elim (sizes_judged (map length files) (any files some)) [
  | inl past ↦ (noted status.Limit limit_text, inl (past, refl))
  | inr (inl (within, first, other, differ)) ↦
      (noted status.Differ (differ_text first other), inr (inl (within, first, other, differ, refl)))
  | inr (inr may) ↦
      let one = supposed may in
      let there = first_of_all files one.0 some one.1 in
      let read = read_exists one.0 (first_bytes files one.0 bytes there) in
      (read.0, inr (inr (may, one.0, there, read.1)))
] where
  any : (files : List (List ℕ)) → files ≢ [] → 0 < length (map length files)
  any [] some = absurd (some refl)
  any (file ∷ files) some = omega arith

one_differ : (sizes : List ℕ) (a b c d : ℕ) → Differ sizes a b → Differ sizes c d
    → noted status.Differ (differ_text a b) ≡ noted status.Differ (differ_text c d)
one_differ sizes a b c d h g =
    let first : a ≡ c = cc (sym h.0 ∙ g.0) in
    let same = subst (λ (n : ℕ). Differ sizes n b) first h in
    let other : b ≡ d = cc (sym same.1 ∙ g.1) in
    ap (λ (n : ℕ). noted status.Differ (differ_text n b)) first ∙ ap (λ (n : ℕ). noted status.Differ (differ_text c n)) other

-- and one at most
pub ranges_is_one : (files : List (List ℕ)) (a b : Answer) → IsRangesAnswer files a → IsRangesAnswer files b → a ≡ b
ranges_is_one files a b (inl (past, is)) (inl (too, also)) = is ∙ sym also
ranges_is_one files a b (inl (past, is)) (inr (inl (within, first, other, differ, also))) = absurd (past within)
ranges_is_one files a b (inl (past, is)) (inr (inr (may, file, there, h))) =
    absurd (past (alike_within may.0 (map length files) may.1))
ranges_is_one files a b (inr (inl (within, first, other, differ, is))) (inl (past, also)) = absurd (past within)
ranges_is_one files a b (inr (inl (within, first, other, differ, is))) (inr (inl (too, one, another, differs, also))) =
    is ∙ one_differ (map length files) first other one another differ differs ∙ sym also
ranges_is_one files a b (inr (inl (within, first, other, differ, is))) (inr (inr (may, file, there, h))) =
    absurd (alike_or_differ may.0 first other (map length files) may.1 differ)
ranges_is_one files a b (inr (inr (may, file, there, h))) (inl (past, also)) =
    absurd (past (alike_within may.0 (map length files) may.1))
ranges_is_one files a b (inr (inr (may, file, there, h))) (inr (inl (within, first, other, differ, also))) =
    absurd (alike_or_differ may.0 first other (map length files) may.1 differ)
ranges_is_one files a b (inr (inr (may, file, there, h))) (inr (inr (also, other, is, g))) =
    let same : other ≡ file = cc (sym is ∙ there) in
    read_is_one file a b h (subst (λ (f : List ℕ). IsReadAnswer f b) same g)
