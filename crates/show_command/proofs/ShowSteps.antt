-- How `show` gets on: the lines of the chunks that were read, one chunk more, and how they stand to the answer.
use Rattle.std.proofs.Common.{◌≡◌, ◌∙◌, ℕ, ◌+◌, ◌-◌, ◌^◌, ◌≤◌, ◌⊎◌, Bool, true, false, Option, Some, None, Result, Ok, Err, IfSome, List, [], ◌∷◌, ◌++◌, length, take, drop, refl, sym, ap, subst, inl, inr, arith, append_assoc}
use Rattle.std.specs.Result.{IsErr, IsErrAnd}
use Rattle.std.specs.List.{enumerate_from}
use Rattle.std.proofs.lemmas.List.{append-nil, take-append-drop}
use Rattle.std.proofs.lemmas.Grind.{flat_map-append}
use Rattle.record_io.specs.Outside.{TakesShort}
use Rattle.record_io.specs.Buffers.{TakesAndHolds, GoOutOrAreHeld}
use Rattle.record_io.specs.Puts.{Put, Out, Notes, Taken, taken_by, BreaksOff, puts_to, bytes_to}
use Rattle.record_io.proofs.Puts.{GoOut-nothing, GoOutOrAreHeld-none, GoOutOrAreHeld-more, GoOut-broken, BreaksOff-longer, bytes_to-other, puts_to-append}
use Rattle.record_values.specs.Bytes.{AreBytes}
use Rattle.record_values.specs.declared.file_totals.Totals.{Totals}
use Rattle.chunk_header.specs.Chunks.{ChunkValue}
use Rattle.chunk_header.specs.Views.{value_of_chunk}
use Rattle.meta_chunk.specs.Kinds.{IsSignature, IsMetadata, IsPadding}
use Rattle.meta_chunk.specs.Laid.{end_of_chunk}
use Rattle.meta_chunk.specs.Files.{totals_of, IsPlain, IsChainOf, IsFileOf, Holds, HoldEach, ArePlaced, placed_from, end_of_chunks}
use Rattle.meta_chunk.proofs.Held.{HoldEach-one}
use Rattle.meta_chunk.proofs.Chains.{AreLaid-front_of}
use Rattle.chunk_reader.specs.Progress.{AreReadFrom, ReaderValue}
use Rattle.chunk_reader.specs.Readers.{ReadsIn, ReadsOn}
use Rattle.chunk_reader.specs.SearchBounds.{MayBeReadTo}
use Rattle.chunk_reader.proofs.Rooms.{IsSized}
use Rattle.chunk_reader.specs.Contents.{IsWhat, records_given, IsJudged}
use Rattle.chunk_reader.specs.declared.judging.What.{What}
use Rattle.chunk_reader.specs.declared.judging.What.TheVariants.{Records, Passive, Unread}
use Rattle.chunk_reader.specs.Faults.{IsAllowed, IsFault}
use Rattle.chunk_reader.specs.declared.reasons.Fault.{Fault}
use Rattle.chunk_reader.proofs.ChainSteps.{IsChainOf-nil, longest_where_whole}
use Rattle.chunk_reader.specs.declared.judging.Judged.{Judged}
use Rattle.command_frame.specs.declared.ending.Ending.{Ending}
use Rattle.show_command.specs.declared.show_words.ShowWords.{ShowWords}
use Rattle.command_frame.specs.Answers.{Answer}
use Rattle.show_command.specs.ReadingEnds.{reading_ends}
use Rattle.show_command.specs.Readings.{record_line, refused_text}
use Rattle.command_frame.specs.FileAnswers.{most_file_bytes, OfFile}
use Rattle.show_command.specs.ShowCommand.{IsShown, IsShownSoFar}
use Rattle.command_frame.specs.Endings.{HasPutEarly, HasPutAtEnd}
use Rattle.command_frame.specs.PutSoFar.{HasPut, HasPutSoFar, HasPutFront, HasBrokenOff}
use Rattle.show_command.specs.ShowProgress.{record_lines, IsTextOf, IsPrinted, PrintsOn}
use Rattle.command_frame.proofs.RunEnds.{PutsLines-none}
use Rattle.command_frame.proofs.FileEnds.{some-answer}
use Rattle.show_command.proofs.ReadingsExist.{shown_exists}
use Rattle.command_frame.specs.declared.status.Status.TheVariants as status

-- what chunks hold with one chunk more
HoldEach-push : (ks : List ChunkValue) (k : ChunkValue) (lists : List (List (List ℕ))) (records : List (List ℕ))
    → HoldEach ks lists → Holds k records → HoldEach (ks ++ k ∷ []) (lists ++ records ∷ [])
HoldEach-push [] k lists records h holds =
    subst (λ (xs : List (List (List ℕ))). HoldEach (k ∷ []) (xs ++ records ∷ [])) (sym h) (holds, refl)
HoldEach-push (x ∷ ks) k [] records h holds = elim h [ ]
HoldEach-push (x ∷ ks) k (first ∷ lists) records h holds = (h.0, HoldEach-push ks k lists records h.1 holds)

placed_from-push : (place : ℕ) (ks : List ChunkValue) (k : ChunkValue) (lists : List (List (List ℕ))) (records : List (List ℕ))
    → HoldEach ks lists
    → placed_from place (ks ++ k ∷ []) (lists ++ records ∷ []) ≡ placed_from place ks lists ++ enumerate_from (end_of_chunks place ks) records
placed_from-push place [] k lists records h =
    ap (λ (xs : List (List (List ℕ))). placed_from place (k ∷ []) (xs ++ records ∷ [])) h
    ∙ append-nil (enumerate_from place records)
placed_from-push place (x ∷ ks) k [] records h = elim h [ ]
placed_from-push place (x ∷ ks) k (first ∷ lists) records h =
    ap (λ (ps : List (ℕ × List ℕ)). enumerate_from place first ++ ps) (placed_from-push (end_of_chunk place x) ks k lists records h.1)
    ∙ sym (append_assoc (enumerate_from place first) (placed_from (end_of_chunk place x) ks lists) (enumerate_from (end_of_chunks place (x ∷ ks)) records))

ArePlaced-push : (ks : List ChunkValue) (k : ChunkValue) (placed : List (ℕ × List ℕ)) (records : List (List ℕ))
    → ArePlaced ks placed → Holds k records → ArePlaced (ks ++ k ∷ []) (placed ++ enumerate_from (end_of_chunks 0 ks) records)
ArePlaced-push ks k placed records (lists, h, same) holds = (
  lists ++ records ∷ [],
  HoldEach-push ks k lists records h holds,
  ap (λ (ps : List (ℕ × List ℕ)). ps ++ enumerate_from (end_of_chunks 0 ks) records) same ∙ sym (placed_from-push 0 ks k lists records h),
)

-- what chunks hold of which the first are known
HoldEach-split : (ks more : List ChunkValue) (lists : List (List (List ℕ))) → HoldEach (ks ++ more) lists
    → (first rest : List (List (List ℕ))) × HoldEach ks first × HoldEach more rest × (lists ≡ first ++ rest)
HoldEach-split [] more lists h = ([], lists, refl, h, refl)
HoldEach-split (k ∷ ks) more [] h = elim h [ ]
HoldEach-split (k ∷ ks) more (records ∷ lists) h =
    let parts = HoldEach-split ks more lists h.1 in
    (records ∷ parts.0, parts.1, (h.0, parts.2), parts.3, ap (λ (xs : List (List (List ℕ))). records ∷ xs) parts.4)

placed_from-front : (place : ℕ) (ks more : List ChunkValue) (first rest : List (List (List ℕ))) → HoldEach ks first
    → (others : List (ℕ × List ℕ)) × (placed_from place (ks ++ more) (first ++ rest) ≡ placed_from place ks first ++ others)
placed_from-front place [] more first rest h =
    (placed_from place more rest, ap (λ (xs : List (List (List ℕ))). placed_from place more (xs ++ rest)) h)
placed_from-front place (k ∷ ks) more [] rest h = elim h [ ]
placed_from-front place (k ∷ ks) more (records ∷ first) rest h =
    let behind = placed_from-front (end_of_chunk place k) ks more first rest h.1 in (
      behind.0,
      ap (λ (ps : List (ℕ × List ℕ)). enumerate_from place records ++ ps) behind.1
          ∙ sym (append_assoc (enumerate_from place records) (placed_from (end_of_chunk place k) ks first) behind.0),
    )

ArePlaced-front : (ks more : List ChunkValue) (placed all : List (ℕ × List ℕ)) → ArePlaced ks placed → ArePlaced (ks ++ more) all
    → (others : List (ℕ × List ℕ)) × (all ≡ placed ++ others)
ArePlaced-front ks more placed all (lists, h, same) (longer, g, also) =
    let parts = HoldEach-split ks more longer g in
    let behind = placed_from-front 0 ks more parts.0 parts.1 parts.2 in (
      behind.0,
      also
          ∙ ap (placed_from 0 (ks ++ more)) parts.4
          ∙ behind.1
          ∙ ap (λ (xs : List (List (List ℕ))). placed_from 0 ks xs ++ behind.0) (HoldEach-one ks parts.0 lists parts.2 h)
          ∙ ap (λ (ps : List (ℕ × List ℕ)). ps ++ behind.0) (sym same),
    )

-- before the first chunk there are no lines
pub text-none : (words : ShowWords) (file : List ℕ) → IsTextOf words file (record { chunks = 0; records = 0; bytes = 0; unread = 0 }) []
text-none words file = record {
  ks = [];
  placed = [];
  chain = IsChainOf-nil file;
  counted = refl;
  records = ([], refl, refl);
  lines = refl;
}

pub shown-none : (words : ShowWords) (before after : ℕ) → after ≡ before → (file : List ℕ) → IsShownSoFar words before after file []
shown-none words before after same file = record {
  ks = [];
  place = 0;
  placed = [];
  chain = IsChainOf-nil file;
  records = ([], refl, refl);
  puts = refl;
  read = inl (omega (arith, same));
}

-- one chunk more is given
abbrev pub Given : List ℕ → Totals → Totals → ChunkValue → Type 0
Given file before after k =
    (ks : List ChunkValue) → IsChainOf IsPlain ks file before.bytes → before ≡ totals_of ks
    → IsChainOf IsPlain (ks ++ k ∷ []) file after.bytes × (after ≡ totals_of (ks ++ k ∷ []))

-- its lines come behind those of the chunks before
pub text-more : (words : ShowWords) (file : List ℕ) (before after : Totals) (text : List ℕ) (k : ChunkValue) (records : List (List ℕ)) (place : ℕ)
    → IsTextOf words file before text → Given file before after k → Holds k records → place ≡ before.bytes
    → IsTextOf words file after (text ++ record_lines words.form (enumerate_from place records))
text-more words file before after text k records place h given holds here =
    let next = given h.ks h.chain h.counted in
    let end : end_of_chunks 0 h.ks ≡ place = ap (λ (t : Totals). t.bytes) (sym h.counted) ∙ sym here in
    record {
      ks = h.ks ++ k ∷ [];
      placed = h.placed ++ enumerate_from place records;
      chain = next.0;
      counted = next.1;
      records = subst (λ (p : ℕ). ArePlaced (h.ks ++ k ∷ []) (h.placed ++ enumerate_from p records)) end
          (ArePlaced-push h.ks k h.placed records h.records holds);
      lines = ap (λ (t : List ℕ). t ++ record_lines words.form (enumerate_from place records)) h.lines
          ∙ sym (flat_map-append (record_line words.form) h.placed (enumerate_from place records));
    }

-- a chunk of another kind than simple ones holds no records
passive_holds : (k : ChunkValue) → IsSignature k ⊎ IsMetadata k ⊎ IsPadding k → Holds k []
passive_holds k (inl is) = inr ((λ some. omega (arith, is.0, some.1.kind)), refl)
passive_holds k (inr (inl is)) = inr ((λ some. omega (arith, is.0, some.1.kind)), refl)
passive_holds k (inr (inr is)) = inr ((λ some. omega (arith, is.0, some.1.kind)), refl)

-- so in what strict reading made of a chunk are its records
pub what_holds : (k : ChunkValue) (what : What) → IsWhat false k what → Holds k (records_given what)
what_holds k (Records records) is = inl is
what_holds k Passive is = passive_holds k is
what_holds k Unread is = absurd (cc is.0)

-- the lines of the chunks so far are a front of those of the longest front
text-front : (words : ShowWords) (file : List ℕ) (totals : Totals) (text : List ℕ) (answer : Answer)
    → IsTextOf words file totals text → (is : IsShown words file answer) → (rest : List ℕ) × (record_lines words.form is.placed ≡ text ++ rest)
text-front words file totals text answer h is =
    let within : totals.bytes ≤ is.place = is.longest.greatest h.ks totals.bytes h.chain in
    let front : h.ks ≡ take (length h.ks) is.ks =
    AreLaid-front_of h.ks is.ks file totals.bytes is.place is.longest.chain.within within h.chain.laid is.longest.chain.laid in
    let more : List ChunkValue = drop (length h.ks) is.ks in
    let all : is.ks ≡ h.ks ++ more = sym (take-append-drop (length h.ks) is.ks) ∙ ap (λ (xs : List ChunkValue). xs ++ more) (sym front) in
    let others = ArePlaced-front h.ks more h.placed is.placed h.records (subst (λ (xs : List ChunkValue). ArePlaced xs is.placed) all is.records) in (
      record_lines words.form others.0,
      ap (record_lines words.form) others.1
          ∙ flat_map-append (record_line words.form) h.placed others.0
          ∙ ap (λ (t : List ℕ). t ++ record_lines words.form others.0) (sym h.lines),
    )

-- so they are a front of what the answer puts
puts-front : (words : ShowWords) (file : List ℕ) (totals : Totals) (text : List ℕ) (answer : Answer)
    → IsTextOf words file totals text → IsShown words file answer → (rest : List Put) × (answer.puts ≡ puts_to Out text ++ rest)
puts-front words file totals text answer h is =
    let lines = text-front words file totals text answer h is in (
      puts_to Out lines.0 ++ puts_to Notes is.said,
      is.puts
          ∙ ap (λ (t : List ℕ). puts_to Out t ++ puts_to Notes is.said) lines.1
          ∙ ap (λ (ps : List Put). ps ++ puts_to Notes is.said) (puts_to-append Out text lines.0)
          ∙ append_assoc (puts_to Out text) (puts_to Out lines.0) (puts_to Notes is.said),
    )

-- of a file that isn't too long
pub in_reach : (P : List ℕ → Answer → Type 0) (file : List ℕ) (answer : Answer) → length file ≤ most_file_bytes → OfFile P (file ∷ []) answer → P file answer
in_reach P file answer short (inl (long, said)) = absurd (omega (arith, short, long))
in_reach P file answer short (inr (also, is)) = is

-- lines that were printed are a front of the answer's
pub printed-front : (words : ShowWords) (file : List ℕ) (totals : Totals) (before after : Taken) (held : List ℕ)
    → length file ≤ most_file_bytes → IsPrinted words file totals before after held
    → (answer : Answer) → OfFile (IsShown words) (file ∷ []) answer → HasPutFront before after held answer
printed-front words file totals before after held short (text, h, out) answer is =
    let rest = puts-front words file totals text answer h (in_reach (IsShown words) file answer short is) in
    record {
      part = puts_to Out text;
      rest = rest.0;
      parts = rest.1;
      lines = PutsLines-none (puts_to Out text) answer.puts (bytes_to-other Notes Out text refl);
      went = out;
    }

-- a file may be read less far
read_less : (file : List ℕ) (place less to : ℕ) → less ≤ to → MayBeReadTo file place to → MayBeReadTo file place less
read_less file place less to few (inl front) = inl (omega (arith, few, front))
read_less file place less to few (inr (none, within)) = inr (none, omega (arith, few, within))

-- and all that was put so far, where no more was handed out than the chunks before have, and then what the next call takes
pub printed-so_far : (words : ShowWords) (told bytes : Option (List ℕ)) (totals : Totals) (before : Taken) (made b c notes : Option (List ℕ)) (held then : List ℕ)
    (start now end : ℕ) → told ≡ bytes → c ≡ b → then ≡ held → now ≤ start + totals.bytes
    → IfSome told (λ f. MayBeReadTo f totals.bytes (totals.bytes + (end - now)))
    → IfSome bytes (λ f. IsPrinted words f totals before (taken_by made b notes) held)
    → IfSome bytes (λ f. HasPutSoFar (IsShownSoFar words start end f) before (taken_by made c notes) then)
printed-so_far words told None totals before made b c notes held then start now end told_same same also few reads h = tt
printed-so_far words None (Some f) totals before made b c notes held then start now end told_same same also few reads h = absurd (cc told_same)
printed-so_far words (Some e) (Some f) totals before made b c notes held then start now end told_same same also few reads (text, is, out) = record {
  part = puts_to Out text;
  is = record {
    ks = is.ks;
    place = totals.bytes;
    placed = is.placed;
    chain = is.chain;
    records = is.records;
    puts = ap (puts_to Out) is.lines;
    read = read_less f totals.bytes (end - start) (totals.bytes + (end - now)) (omega (arith, few))
        (subst (λ (x : List ℕ). MayBeReadTo x totals.bytes (totals.bytes + (end - now))) (cc told_same) reads);
  };
  went = subst (λ (x : Option (List ℕ)). GoOutOrAreHeld before (taken_by made x notes) Out (puts_to Out text) then) (sym same)
      (subst (λ (hs : List ℕ). GoOutOrAreHeld before (taken_by made b notes) Out (puts_to Out text) hs) (sym also) out);
}

module _ (words : ShowWords) (file : List ℕ) (before after : Totals) (a : Taken) (made b c notes : Option (List ℕ)) (held then : List ℕ)
    (k : ChunkValue) (records : List (List ℕ)) (place : ℕ) where
  -- the lines of a chunk more
  abbrev More : List ℕ
  More = record_lines words.form (enumerate_from place records)

  -- they failed to go out
  pub printed-failed : length file ≤ most_file_bytes → IsPrinted words file before a (taken_by made b notes) held → Given file before after k → Holds k records
      → place ≡ before.bytes → TakesShort b c (held ++ More) → then ≡ []
      → (answer : Answer) → OfFile (IsShown words) (file ∷ []) answer → HasBrokenOff Out a (taken_by made c notes) then answer
  printed-failed short (text, h, out) given holds here front none answer is =
      let rest = puts-front words file after (text ++ More) answer (text-more words file before after text k records place h given holds here)
      (in_reach (IsShown words) file answer short is) in
      let puts : List Put = puts_to Out text ++ puts_to Out More in
      let broken = GoOut-broken a made b c notes (puts_to Out text) held More out front in
      record {
        none_held = none;
        part = broken.0;
        broke = subst (λ (ps : List Put). BreaksOff Out broken.0 ps)
            (sym (rest.1 ∙ ap (λ (ps : List Put). ps ++ rest.0) (puts_to-append Out text More)))
            (BreaksOff-longer Out broken.0 puts rest.0 broken.1);
        lines = PutsLines-none broken.0 answer.puts
            (broken.3 ∙ ap (bytes_to Notes) (sym (puts_to-append Out text More)) ∙ bytes_to-other Notes Out (text ++ More) refl);
        went = broken.2;
      }

  -- they went out, or are held
  pub printed-more : IsPrinted words file before a (taken_by made b notes) held → Given file before after k → Holds k records → place ≡ before.bytes
      → TakesAndHolds b c (held ++ More) then → IsPrinted words file after a (taken_by made c notes) then
  printed-more (text, h, out) given holds here whole = (
    text ++ More,
    text-more words file before after text k records place h given holds here,
    subst (λ (ps : List Put). GoOutOrAreHeld a (taken_by made c notes) Out ps then) (sym (puts_to-append Out text More))
        (GoOutOrAreHeld-more a made b c notes (puts_to Out text) held More then out whole),
  )

-- all lines were printed of a file that was read to its end
pub printed-whole : (words : ShowWords) (file : List ℕ) (totals : Totals) (before after : Taken) (held : List ℕ)
    → length file ≤ most_file_bytes → totals.bytes ≡ length file
    → ((ks : List ChunkValue) → IsChainOf IsPlain ks file totals.bytes → IsFileOf IsPlain ks file)
    → IsPrinted words file totals before after held
    → HasPut (IsShown words) file before after held [] status.Ok
printed-whole words file totals before after held short end whole (text, h, out) =
    let all : IsFileOf IsPlain h.ks file = whole h.ks h.chain in
    let puts : List Put = puts_to Out text in
    record {
      answer = record { puts = puts ++ puts_to Notes []; status = status.Ok };
      is = inr (
        short,
        record {
          ks = h.ks;
          place = length file;
          placed = h.placed;
          longest = longest_where_whole IsPlain h.ks file all.1;
          records = h.records;
          said = [];
          puts = ap (λ (t : List ℕ). puts_to Out t ++ puts_to Notes []) h.lines;
          ended = inl ((h.ks, all), refl, refl);
        },
      );
      puts = puts;
      whole = refl;
      lines = PutsLines-none puts (puts ++ puts_to Notes []) (bytes_to-other Notes Out text refl);
      went = out;
      status = refl;
    }

-- and of one that is refused
pub printed-refused : (words : ShowWords) (file : List ℕ) (totals : Totals) (before after : Taken) (held : List ℕ) (fault : Fault)
    → length file ≤ most_file_bytes → IsFault false file fault
    → ((ks : List ChunkValue) (place : ℕ) → IsChainOf IsPlain ks file place → place ≤ totals.bytes)
    → IsPrinted words file totals before after held
    → HasPut (IsShown words) file before after held (refused_text fault) status.Refused
printed-refused words file totals before after held fault short is greatest (text, h, out) =
    let puts : List Put = puts_to Out text in
    let all : List Put = puts ++ puts_to Notes (refused_text fault) in
    record {
      answer = record { puts = all; status = status.Refused };
      is = inr (
        short,
        record {
          ks = h.ks;
          place = totals.bytes;
          placed = h.placed;
          longest = record { chain = h.chain; greatest = greatest };
          records = h.records;
          said = refused_text fault;
          puts = ap (λ (t : List ℕ). puts_to Out t ++ puts_to Notes (refused_text fault)) h.lines;
          ended = inr (fault, is, refl, refl);
        },
      );
      puts = puts;
      whole = refl;
      lines = PutsLines-none puts all (bytes_to-other Notes Out text refl);
      went = out;
      status = refl;
    }

-- the reader refused the file
pub read-refused : (words : ShowWords) (unread_ok : Bool) (bytes : Option (List ℕ)) (totals : Totals) (before out : Taken) (held : List ℕ) (fault : Fault)
    → unread_ok ≡ false → IfSome bytes (λ f. length f ≤ most_file_bytes) → IfSome bytes (λ f. IsFault unread_ok f fault)
    → IfSome bytes (λ f. (ks : List ChunkValue) (place : ℕ) → IsChainOf (IsAllowed unread_ok) ks f place → place ≤ totals.bytes)
    → IfSome bytes (λ f. IsPrinted words f totals before out held → HasPut (IsShown words) f before out held (refused_text fault) status.Refused)
read-refused words true bytes totals before out held fault strict short refused given = absurd (cc strict)
read-refused words false None totals before out held fault strict short refused given = tt
read-refused words false (Some f) totals before out held fault strict short refused given = λ h.
    printed-refused words f totals before out held fault short refused given h

-- or it failed to read on
pub read-short : (words : ShowWords) (bytes : Option (List ℕ)) (totals : Totals) (before out : Taken) (held : List ℕ)
    → IfSome bytes (λ f. length f ≤ most_file_bytes)
    → IfSome bytes (λ f. IsPrinted words f totals before out held
    → AreBytes f → (answer : Answer) × OfFile (IsShown words) (f ∷ []) answer × HasPutFront before out held answer)
read-short words None totals before out held short = tt
read-short words (Some f) totals before out held short = λ h.
    some-answer (IsShown words) (shown_exists words) (HasPutFront before out held) f (printed-front words f totals before out held short h)

-- the file that is read has as many bytes as was told, and is not too long
pub exact_told : (bytes : Option (List ℕ)) (told : Option ℕ) (size : ℕ) → told ≡ Some size → IsSized bytes told → IfSome bytes (λ f. size ≡ length f)
exact_told bytes told size is sized =
    subst (λ (t : Option ℕ). IfSome bytes (λ f. IfSome t (λ n. n ≡ length f))) is sized

pub short_told : (bytes : Option (List ℕ)) (size : ℕ) → size ≤ most_file_bytes → IfSome bytes (λ f. size ≡ length f) → IfSome bytes (λ f. length f ≤ most_file_bytes)
short_told None size short exact = tt
short_told (Some f) size short exact = omega (arith, short, exact)

-- it has no further chunk
pub read-through : (words : ShowWords) (unread_ok : Bool) (bytes : Option (List ℕ)) (totals : Totals) (before out : Taken) (held : List ℕ) (size : ℕ)
    → unread_ok ≡ false → size ≤ most_file_bytes → IfSome bytes (λ f. size ≡ length f) → totals.bytes ≡ size
    → IfSome bytes (λ f. (ks : List ChunkValue) → IsChainOf (IsAllowed unread_ok) ks f totals.bytes → IsFileOf (IsAllowed unread_ok) ks f)
    → IfSome bytes (λ f. IsPrinted words f totals before out held → HasPut (IsShown words) f before out held [] status.Ok)
read-through words true bytes totals before out held size strict short exact end whole = absurd (cc strict)
read-through words false None totals before out held size strict short exact end whole = tt
read-through words false (Some f) totals before out held size strict short exact end whole = λ h.
    printed-whole words f totals before out held (omega (arith, short, exact)) (end ∙ exact) whole h

-- a chunk was read: it is given, and what it holds is known
pub record IsNext (unread_ok : Bool) (bytes : Option (List ℕ)) (totals then : Totals) (size : ℕ) (j : Judged) : Type 0 where
  pub strict : unread_ok ≡ false
  pub short : IfSome bytes (λ f. length f ≤ most_file_bytes)
  pub judged : IsJudged unread_ok size totals.bytes j
  pub given : IfSome bytes (λ f. (ks : List ChunkValue) → IsChainOf (IsAllowed unread_ok) ks f totals.bytes → totals ≡ totals_of ks
      → IsChainOf (IsAllowed unread_ok) (ks ++ value_of_chunk j.chunk ∷ []) f then.bytes × (then ≡ totals_of (ks ++ value_of_chunk j.chunk ∷ [])))

-- and its lines went out, or are held
pub next-printed : (words : ShowWords) (unread_ok : Bool) (bytes : Option (List ℕ)) (totals then : Totals) (size : ℕ) (j : Judged)
    (before : Taken) (made out out_then notes : Option (List ℕ)) (held held_then : List ℕ)
    → IsNext unread_ok bytes totals then size j
    → TakesAndHolds out out_then (held ++ record_lines words.form (enumerate_from j.begin (records_given j.what))) held_then
    → IfSome bytes (λ f. IsPrinted words f totals before (taken_by made out notes) held → IsPrinted words f then before (taken_by made out_then notes) held_then)
next-printed words true bytes totals then size j before made out out_then notes held held_then next whole = absurd (cc next.strict)
next-printed words false None totals then size j before made out out_then notes held held_then next whole = tt
next-printed words false (Some f) totals then size j before made out out_then notes held held_then next whole = λ h.
    printed-more words f totals then before made out out_then notes held held_then (value_of_chunk j.chunk) (records_given j.what) j.begin h next.given
    (what_holds (value_of_chunk j.chunk) j.what next.judged.what) next.judged.begin whole

-- or they failed to
pub next-failed : (words : ShowWords) (unread_ok : Bool) (bytes : Option (List ℕ)) (totals then : Totals) (size : ℕ) (j : Judged)
    (before : Taken) (made out out_then notes : Option (List ℕ)) (held held_then : List ℕ)
    → IsNext unread_ok bytes totals then size j
    → TakesShort out out_then (held ++ record_lines words.form (enumerate_from j.begin (records_given j.what))) → held_then ≡ []
    → IfSome bytes (λ f. IsPrinted words f totals before (taken_by made out notes) held
    → AreBytes f → (answer : Answer) × OfFile (IsShown words) (f ∷ []) answer × HasBrokenOff Out before (taken_by made out_then notes) held_then answer)
next-failed words true bytes totals then size j before made out out_then notes held held_then next front none = absurd (cc next.strict)
next-failed words false None totals then size j before made out out_then notes held held_then next front none = tt
next-failed words false (Some f) totals then size j before made out out_then notes held held_then next front none = λ h.
    some-answer (IsShown words) (shown_exists words) (HasBrokenOff Out before (taken_by made out_then notes) held_then) f
    (printed-failed words f totals then before made out out_then notes held held_then (value_of_chunk j.chunk) (records_given j.what) j.begin next.short h next.given
    (what_holds (value_of_chunk j.chunk) j.what next.judged.what) next.judged.begin front none)

-- before the first chunk nothing was printed
pub printed-none : (words : ShowWords) (bytes : Option (List ℕ)) (totals : Totals) (out : Taken) (held : List ℕ)
    → totals ≡ record { chunks = 0; records = 0; bytes = 0; unread = 0 } → held ≡ []
    → IfSome bytes (λ f. IsPrinted words f totals out out held)
printed-none words None totals out held front none = tt
printed-none words (Some f) totals out held front none =
    subst (λ (t : Totals). IsPrinted words f t out out held) (sym front)
    (subst (λ (h : List ℕ). IsPrinted words f (record { chunks = 0; records = 0; bytes = 0; unread = 0 }) out out h) (sym none)
    ([], text-none words f, GoOutOrAreHeld-none out out Out [] (GoOut-nothing out)))

-- one step more, of a file whose bytes stayed
pub printed-on : (words : ShowWords) (a b : Option (List ℕ)) (totals then : Totals) (before out out_then : Taken) (held held_then : List ℕ)
    (result : Result Bool (Ending Fault)) → a ≡ b
    → IfSome a (λ f. IsPrinted words f totals before out held → PrintsOn words result f then before out_then held_then)
    → IfSome b (λ f. IsPrinted words f totals before out held) → IfSome b (λ f. PrintsOn words result f then before out_then held_then)
printed-on words a None totals then before out out_then held held_then result same on h = tt
printed-on words None (Some f) totals then before out out_then held held_then result same on h = absurd (cc same)
printed-on words (Some e) (Some f) totals then before out out_then held held_then result same on h =
    let one : e ≡ f = cc same in
    subst (λ (x : List ℕ). PrintsOn words result x then before out_then held_then) one
    (on (subst (λ (x : List ℕ). IsPrinted words x totals before out held) (sym one) h))

-- an end that is passed on
pub printed-ended : (words : ShowWords) (bytes : Option (List ℕ)) (then : Totals) (before after : Taken) (held : List ℕ) (why : Ending Fault)
    (ended : Result Bool (Ending Fault)) (result : Result (Unit {0}) (Ending Fault))
    → ended ≡ Err why → IsErr result → IsErrAnd result (λ made. made ≡ why)
    → IfSome bytes (λ f. PrintsOn words ended f then before after held) → IfSome bytes (λ f. HasPutAtEnd reading_ends (IsShown words) result f before after held)
printed-ended words None then before after held why ended result same err is h = tt
printed-ended words (Some f) then before after held why ended (Ok x) same err is h = absurd (cc err)
printed-ended words (Some f) then before after held why ended (Err made) same err is h =
    subst (λ (w : Ending Fault). HasPutEarly refused_text (λ _. status.Refused) (IsShown words) w f before after held) (sym is)
    (subst (λ (r : Result Bool (Ending Fault)). PrintsOn words r f then before after held) same h)

-- what holds of each file holds of the one that is shown
pub reads-none : (bytes : Option (List ℕ)) (told : Option ℕ) (size : ℕ) (at : ReaderValue) → told ≡ Some size → size ≤ 2 ^ 60 → at.size ≡ size
    → at.unread_ok ≡ false → ((f : List ℕ) → AreReadFrom false f at.totals) → ReadsIn bytes told at
reads-none bytes told size at is reach same strict each = record {
  size = is ∙ ap Some (sym same);
  in_reach = omega (arith, reach, same);
  read = subst (λ (unread_ok : Bool). IfSome bytes (λ f. AreReadFrom unread_ok f at.totals)) (sym strict) (of_any bytes);
} where
  of_any : (bytes : Option (List ℕ)) → IfSome bytes (λ f. AreReadFrom false f at.totals)
  of_any None = tt
  of_any (Some f) = each f

-- and behind the next one the reader stands in the same file
pub reads-on : (bytes now : Option (List ℕ)) (told told_now : Option ℕ) (before after : ReaderValue) → now ≡ bytes → told_now ≡ told
    → ReadsIn bytes told before → ReadsOn bytes before after → ReadsIn now told_now after
reads-on bytes now told told_now before after same same_told h on = record {
  size = same_told ∙ h.size ∙ ap Some (sym on.same_size);
  in_reach = omega (arith, h.in_reach, on.same_size);
  read = subst (λ (b : Option (List ℕ)). IfSome b (λ f. AreReadFrom after.unread_ok f after.totals)) (sym same) on.read;
}
