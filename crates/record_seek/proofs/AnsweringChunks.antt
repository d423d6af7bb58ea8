-- In a file of chunks a search by position finds a record of the chunk that answers, where that is read, and is else refused there.
use Rattle.std.proofs.Common.{◌≡◌, ℕ, ◌+◌, ◌^◌, ◌<◌, ◌≤◌, false, Some, List, length, subst, inl, inr, arith}
use Rattle.std.specs.Prelude.{slice_get}
use Rattle.chunk_header.specs.Chunks.{ChunkValue}
use Rattle.chunk_header.specs.SimpleChunks.{IsCompressed}
use Rattle.meta_chunk.specs.Files.{IsPlain, IsUnread, IsTransposed, IsWellFormedChunk, IsWellFormed, ArePlaced, LiesIn, begin_of}
use Rattle.chunk_reader.specs.Faults.{IsVerdict}
use Rattle.chunk_reader.specs.Holders.{IsHolderFault}
use Rattle.chunk_reader.specs.Reasons.{Applies, NoneOf, IsFirstOf, unpassed_reasons, strict_reasons}
use Rattle.chunk_reader.specs.PositionSearches.{SearchComesTo, AnswersAt, SearchGives, IsSearchFault}
use Rattle.chunk_reader.specs.declared.reasons.Fault.{Fault}
use Rattle.chunk_reader.specs.declared.reasons.Why.TheVariants as why
use Rattle.chunk_reader.proofs.ChainSteps.{each_at}
use Rattle.chunk_reader.proofs.WellFormedFiles.{verdict_compressed, verdict_transposed}
use Rattle.chunk_reader.proofs.HeadersTell.{laid_at, stands_below, places_are, passes, lies_of, holder_there}
use Rattle.chunk_reader.proofs.NoReason.{no_reason, none_is_first}
use Rattle.record_seek.specs.Found.{IsAnswering}
use Rattle.record_seek.specs.FirstRecords.{IsFirstAt}
use Rattle.record_seek.proofs.FirstRecords.{first_record, answering_there}
use Rattle.record_seek.proofs.JudgedSearch.{sought_at}
use Rattle.record_seek.proofs.OneHolder.{holder_or_fault}
use Rattle.record_seek.proofs.OneSearch.{fault_below}
use Rattle.record_seek.proofs.Searching.{searched_to, answering_of}

module _ (ks : List ChunkValue) (file : List ℕ) (well_formed : IsWellFormed ks file) (reach : length file ≤ 2 ^ 60) (position : ℕ) where
  -- strict reading has no reason to refuse a chunk that is read
  read_chunk : (j : ℕ) (k : ChunkValue) → slice_get ks j ≡ Some k → IsPlain k → NoneOf (Applies file (begin_of ks j)) (strict_reasons false)
  read_chunk j k at plain = no_reason false (begin_of ks j) k file (begin_of ks (j + 1)) (laid_at ks file well_formed j k at) plain

  pub read_answers : (j : ℕ) (k : ChunkValue) (placed : List (ℕ × List ℕ)) → ArePlaced ks placed → IsAnswering ks position j k → IsPlain k
      → (found : ℕ × List ℕ) × IsFirstAt placed position (Some found) × SearchGives file position (Some found)
  read_answers j k placed all answers plain =
      let there = answering_there ks file well_formed reach position j k answers in
      let (found, sought) = sought_at file position (begin_of ks j) there (read_chunk j k answers.may.stands plain) in
      (found, first_record ks file well_formed reach position placed found there.searched.holds.on_way.below all sought, sought)

  -- one that is left unread is refused by its name
  pub compressed_answers : (j : ℕ) (k : ChunkValue) → IsAnswering ks position j k → IsUnread k → IsCompressed k
      → IsSearchFault file position (record { at = begin_of ks j; why = why.Compressed })
  compressed_answers j k answers unread compressed =
      let laid = laid_at ks file well_formed j k answers.may.stands in
      inr (inr (
        begin_of ks j,
        answering_there ks file well_formed reach position j k answers,
        verdict_compressed (begin_of ks j) k file (begin_of ks (j + 1)) laid unread compressed,
      ))

  pub transposed_answers : (j : ℕ) (k : ChunkValue) → IsAnswering ks position j k → IsUnread k → IsTransposed k
      → IsSearchFault file position (record { at = begin_of ks j; why = why.Transposed })
  transposed_answers j k answers unread transposed =
      let laid = laid_at ks file well_formed j k answers.may.stands in
      inr (inr (
        begin_of ks j,
        answering_there ks file well_formed reach position j k answers,
        verdict_transposed (begin_of ks j) k file (begin_of ks (j + 1)) laid unread transposed,
      ))

  -- and no block or other chunk is refused
  not_held : (fault : Fault) (h : ℕ) → LiesIn ks position h → ¬ IsHolderFault file position fault
  not_held fault h lies = holder_or_fault file position (begin_of ks h) fault (holder_there ks file well_formed position h reach lies)

  not_passed : (fault : Fault) (h : ℕ) → LiesIn ks position h → SearchComesTo file position fault.at → fault.at < length file
      → ¬ IsFirstOf (Applies file fault.at) unpassed_reasons fault.why
  not_passed fault h lies searched below first =
      let way = searched_to ks file well_formed reach position h lies fault.at searched in
      let there = places_are ks file well_formed way.0 h fault.at (omega (arith, lies.number)) way.1 in
      let j : ℕ = h + length way.0 in
      let k = stands_below ks file well_formed j (omega (arith, there.1, below)) in
      none_is_first (Applies file (begin_of ks j)) unpassed_reasons fault.why (passes ks file well_formed j k.0 k.1)
      (subst (λ (p : ℕ). IsFirstOf (Applies file p) unpassed_reasons fault.why) there.1 first)

  unread_answers : (fault : Fault) (place h : ℕ) → LiesIn ks position h → AnswersAt file position place → IsVerdict false file place fault
      → (j : ℕ) × (k : ChunkValue) × IsAnswering ks position j k × IsUnread k
  unread_answers fault place h lies there verdict =
      let (j, k, is, answers) = answering_of ks file well_formed reach position h lies place there in
      elim (each_at IsWellFormedChunk ks j k well_formed.1.each answers.may.stands) [
        | inr unread ↦ (j, k, answers, unread)
        | inl plain ↦
            absurd (none_is_first (Applies file (begin_of ks j)) (strict_reasons false) fault.why (read_chunk j k answers.may.stands plain)
            (subst (λ (p : ℕ). IsFirstOf (Applies file p) (strict_reasons false) fault.why) is verdict.0))
      ]

  pub only_unread : (fault : Fault) → IsSearchFault file position fault
      → (j : ℕ) × (k : ChunkValue) × IsAnswering ks position j k × IsUnread k
  only_unread fault refused =
      let (h, lies) = lies_of ks file well_formed position (fault_below file position fault refused) in
      elim refused [
        | inl unheld ↦ absurd (not_held fault h lies unheld)
        | inr (inl (searched, below, first)) ↦ absurd (not_passed fault h lies searched below first)
        | inr (inr (place, there, verdict)) ↦ unread_answers fault place h lies there verdict
      ]
