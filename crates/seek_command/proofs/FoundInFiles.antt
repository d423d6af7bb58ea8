-- What `seek` finds in a file without fault, told by its records.
use Rattle.std.proofs.Common.{◌≡◌, ◌∙◌, ℕ, ◌^◌, ◌<◌, ◌≤◌, Option, Some, None, List, [], ◌∷◌, ◌++◌, length, refl, sym, ap, subst, inl, inr, arith}
use Rattle.std.specs.Prelude.{slice_get}
use Rattle.std.proofs.lemmas.Bool.{cases_lt}
use Rattle.block_layout.specs.Layout.{block_of}
use Rattle.chunk_header.specs.Chunks.{ChunkValue}
use Rattle.meta_chunk.specs.Files.{IsReadable, IsWellFormed, ArePlaced}
use Rattle.chunk_reader.specs.Holders.{ArePlacesBetween}
use Rattle.chunk_reader.specs.Places.{end_at}
use Rattle.chunk_reader.specs.PositionSearches.{SearchGives, IsSearchFault}
use Rattle.chunk_reader.specs.declared.reasons.Fault.{Fault}
use Rattle.chunk_reader.proofs.WellFormedFiles.{readable_of_well_formed}
use Rattle.chunk_reader.proofs.HeadersTell.{passed_below}
use Rattle.record_seek.specs.Found.{BytesStandBefore, OnlyFrontStandsBefore}
use Rattle.record_seek.specs.FirstRecords.{IsFirstAt}
use Rattle.record_seek.specs.Met.{IsMetFault}
use Rattle.record_seek.proofs.Finding.{told-met}
use Rattle.record_seek.proofs.FirstRecords.{first_record, held_number, none_answers, placed-of}
use Rattle.record_seek.proofs.MetPlaces.{no_met_fault}
use Rattle.record_seek.proofs.OneHolder.{verdict_unpassed}
use Rattle.command_frame.specs.Answers.{Answer}
use Rattle.seek_command.specs.Searches.{IsBelow, MayGive, MayRefuse}
use Rattle.seek_command.specs.SeekCommand.{IsSeekAnswer, found_answer}
use Rattle.seek_command.specs.declared.seek_words.SeekWords.{SeekWords}
use Rattle.seek_command.specs.declared.seek_words.By.{By}
use Rattle.seek_command.specs.declared.seek_words.By.TheVariants.{At, Key}

-- one way leads on where another one ends
between-join : (file ps qs : List ℕ) (from mid to : ℕ) → ArePlacesBetween file from mid ps → ArePlacesBetween file mid to qs
    → ArePlacesBetween file from to (ps ++ qs)
between-join file [] qs from mid to same rest = subst (λ (p : ℕ). ArePlacesBetween file p to qs) (sym same) rest
between-join file (p ∷ ps) qs from mid to (is, passed, further) rest = (is, passed, between-join file ps qs (end_at file from) mid to further rest)

-- a fault of a search for a position is one that a search for a key may meet too
search_met : (file : List ℕ) (position : ℕ) (fault : Fault) → IsSearchFault file position fault → IsMetFault file fault
search_met file position fault (inl (inl (below, refused))) = inl (block_of position, refused)
search_met file position fault (inl (inr (way, first))) =
    told-met (Some file) (Some file) (block_of position) way.begin fault refl way.told
    (record {
      place = fault.at;
      places = way.places;
      between = way.between;
      below = omega (arith, way.before, way.below);
      verdict = verdict_unpassed file fault first;
    })
search_met file position fault (inr (inl (searched, below, first))) =
    let way = searched.holds.on_way in
    told-met (Some file) (Some file) (block_of position) way.begin fault refl way.told
    (record {
      place = fault.at;
      places = way.places ++ searched.places;
      between = between-join file way.places searched.places way.begin searched.holder fault.at way.between searched.between;
      below = below;
      verdict = verdict_unpassed file fault first;
    })
search_met file position fault (inr (inr (place, answers, verdict))) =
    let way = answers.searched.holds.on_way in
    told-met (Some file) (Some file) (block_of position) way.begin fault refl way.told
    (record {
      place = place;
      places = way.places ++ answers.searched.places;
      between = between-join file way.places answers.searched.places way.begin answers.searched.holder place way.between answers.searched.between;
      below = passed_below file place answers.whole;
      verdict = verdict;
    })

module _ (ks : List ChunkValue) (file : List ℕ) (whole : IsReadable ks file) (reach : length file ≤ 2 ^ 60) where
  well_formed : IsWellFormed ks file
  well_formed = ((readable_of_well_formed ks file).1 whole).0

  -- so in such a file a search for a position has none
  no_search_fault : (position : ℕ) (fault : Fault) → ¬ IsSearchFault file position fault
  no_search_fault position fault refused = no_met_fault ks file fault well_formed whole reach (search_met file position fault refused)

  -- and gives the first record there
  first_given : (position : ℕ) (placed : List (ℕ × List ℕ)) (found : Option (ℕ × List ℕ)) → ArePlaced ks placed
      → SearchGives file position found → IsFirstAt placed position found
  first_given position placed (Some found) are sought =
      first_record ks file well_formed reach position placed found sought.answers.searched.holds.on_way.below are sought
  first_given position placed None (lists, each, is) gives = λ i other stands.
      elim (cases_lt other.0 position) [
        | inl before ↦ before
        | inr past ↦
            let of = placed-of 0 ks lists i other each (ap (λ (xs : List (ℕ × List ℕ)). slice_get xs i) (sym is) ∙ stands) in
            let less : of.number < of.k.num_records = held_number of.k of.records of.number other.1 of.holds of.stands in
            absurd (none_answers ks file well_formed reach position gives of.chunk of.k
            (record { stands = of.at; has = (omega (arith, less), omega (arith, past, of.position, less)) }))
      ]

  pub position-prints : (words : SeekWords) (position : ℕ) (placed : List (ℕ × List ℕ)) (answer : Answer) → words.by ≡ At position → ArePlaced ks placed
      → IsSeekAnswer words file answer
      → (found : Option (ℕ × List ℕ)) × IsFirstAt placed position found × (answer ≡ found_answer words.hex found)
  position-prints words position placed answer is are (inl (found, gives, same)) =
      (found, first_given position placed found are (subst (λ (by : By). MayGive by file found) is gives), same)
  position-prints words position placed answer is are (inr (fault, refuses, same)) =
      absurd (no_search_fault position fault (subst (λ (by : By). MayRefuse by file fault) is refuses))

  pub key-prints : (words : SeekWords) (key : List ℕ) (placed : List (ℕ × List ℕ)) (count : ℕ) (answer : Answer) → words.by ≡ Key key → ArePlaced ks placed
      → OnlyFrontStandsBefore (BytesStandBefore (IsBelow key)) placed count → IsSeekAnswer words file answer
      → answer ≡ found_answer words.hex (slice_get placed count)
  key-prints words key placed count answer is are front (inl (found, gives, same)) =
      let may = subst (λ (by : By). MayGive by file found) is gives in
      same ∙ ap (found_answer words.hex) (may.in_order ks placed count whole are front)
  key-prints words key placed count answer is are front (inr (fault, refuses, same)) =
      let refused = subst (λ (by : By). MayRefuse by file fault) is refuses in
      absurd (refused.not_whole ks whole)
