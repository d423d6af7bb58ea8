-- Each file of bytes has a fault or none.
use Rattle.std.proofs.Common.{◌↔◌, ◌≡◌, ◌≢◌, ◌⊎◌, ℕ, zero, suc, ◌+◌, ◌-◌, ◌%◌, ◌<◌, ◌≤◌, Bool, List, [], ◌∷◌, ◌++◌, Some, length, take, drop, refl, ap, subst, inl, inr, arith}
use Rattle.std.specs.Prelude.{slice_get, slice_index, slice_range}
use Rattle.std.proofs.lemmas.Bool.{cases_lt}
use Rattle.std.proofs.lemmas.Option.{none-some, same_Some}
use Rattle.highway_hash.specs.Riegeli.{riegeli_hash, with_hash}
use Rattle.record_values.specs.Bytes.{AreBytes}
use Rattle.block_layout.specs.Layout.{IsBlock, end_of}
use Rattle.block_layout.specs.BlockHeaders.{block_header}
use Rattle.chunk_header.specs.Chunks.{ChunkValue, IsRightChunkHeader}
use Rattle.chunk_header.specs.Kinds.{signature_kind, metadata_kind, padding_kind, simple_kind, transposed_kind, IsOfNoName}
use Rattle.chunk_header.specs.SimpleChunks.{IsCompressed}
use Rattle.chunk_header.proofs.Decided.{IsDecided, both, same_decided, less_decided, at_most_decided, equal_decided, lists_decided, not_decided, some_below_decided}
use Rattle.chunk_header.proofs.DecidedRecords.{records_decided}
use Rattle.meta_chunk.specs.Kinds.{KeepsRule}
use Rattle.meta_chunk.specs.Files.{max_data_size, signature_bytes, IsChainOf}
use Rattle.chunk_reader.specs.Places.{header_bytes_at, header_at, end_at, chunk_at, HasHeaderOf}
use Rattle.chunk_reader.specs.Reasons.{HasBadContents, ContentApplies, IsWrongBlock, Applies, NoneOf, IsFirstOf, strict_reasons}
use Rattle.chunk_reader.specs.Faults.{IsAllowed, IsPlaceOf, IsVerdict, BeginsWithSignature, HasNoFault, IsFault}
use Rattle.chunk_reader.specs.declared.reasons.Why.{Why}
use Rattle.chunk_reader.specs.declared.reasons.Why.TheVariants as why
use Rattle.chunk_reader.specs.declared.reasons.Fault.{Fault}
use Rattle.chunk_reader.proofs.PassedChunks.{end_at_after}
use Rattle.chunk_reader.proofs.SignedFiles.{signed_length}
use Rattle.chunk_reader.proofs.ChainSteps.{IsChainOf-nil, no_chunks, chain_goes_on, longest_where_refused}
use Rattle.chunk_reader.proofs.FileFaults.{first_applies, fault_or_none}
use Rattle.chunk_reader.proofs.NoReasonLaid.{laid_where_none, allowed_where_none}

-- either of two things, where each is decided, and what follows from one
pub either_decided : (A B : Type 0) → IsDecided A → IsDecided B → IsDecided (A ⊎ B)
either_decided A B (inl a) b = inl (inl a)
either_decided A B (inr not) (inl b) = inl (inr b)
either_decided A B (inr not) (inr nor) = inr (λ e. elim e [ inl a ↦ not a | inr b ↦ nor b ])

follows_decided : (A B : Type 0) → IsDecided A → IsDecided B → IsDecided (A → B)
follows_decided A B (inr not) b = inl (λ a. absurd (not a))
follows_decided A B (inl a) (inl b) = inl (λ x. b)
follows_decided A B (inl a) (inr nor) = inr (λ f. nor (f a))

-- whether a header is right
header_decided : (bytes : List ℕ) → IsDecided (IsRightChunkHeader bytes)
header_decided bytes = both _ _ (equal_decided (length bytes) 40) (lists_decided bytes (with_hash (drop 8 bytes)))

-- whether a block is wrong
WrongParts : List ℕ → ℕ → ℕ → Type 0
WrongParts file place block = IsBlock block × ((place ≤ block) × (¬ HasHeaderOf file place (end_at file place) block))

wrong_decided : (file : List ℕ) (place block : ℕ) → IsDecided (WrongParts file place block)
unfolding WrongParts
wrong_decided file place block =
    both _ _ (equal_decided (block % 65536) 0)
    (both _ _ (at_most_decided place block)
    (not_decided _ (lists_decided (slice_range file block (block + 24)) (block_header (block - place) (end_at file place - block)))))

block_decided : (file : List ℕ) (place : ℕ) → IsDecided ((block : ℕ) × IsWrongBlock file place block)
unfolding WrongParts
block_decided file place =
    same_decided ((block : ℕ) × (block < end_at file place) × WrongParts file place block) ((block : ℕ) × IsWrongBlock file place block)
    (λ some. (some.0, record { is_block = some.2.0; from = some.2.1.0; below = some.1; differs = some.2.1.1 }))
    (λ some. (some.0, some.1.below, (some.1.is_block, (some.1.from, some.1.differs))))
    (some_below_decided (WrongParts file place) (wrong_decided file place) (end_at file place))

-- whether a kind's rule is kept
rule_decided : (kind a b c : ℕ) → IsDecided (KeepsRule kind a b c)
rule_decided kind a b c =
    same_decided ((kind ≡ signature_kind → (a ≡ 0) × (b ≡ 0) × (c ≡ 0)) × ((kind ≡ metadata_kind → b ≡ 0) × (kind ≡ padding_kind → (b ≡ 0) × (c ≡ 0)))) (KeepsRule kind a b c)
    (λ h. record { signature = h.0; metadata = h.1.0; padding = h.1.1 })
    (λ h. (h.signature, (h.metadata, h.padding)))
    (both _ _ (follows_decided _ _ (equal_decided kind signature_kind)
    (same_decided ((a ≡ 0) × ((b ≡ 0) × (c ≡ 0))) _ (λ h. (h.0, h.1.0, h.1.1)) (λ h. (h.0, (h.1, h.2)))
    (both _ _ (equal_decided a 0) (both _ _ (equal_decided b 0) (equal_decided c 0)))))
    (both _ _ (follows_decided _ _ (equal_decided kind metadata_kind) (equal_decided b 0))
    (follows_decided _ _ (equal_decided kind padding_kind) (both _ _ (equal_decided b 0) (equal_decided c 0)))))

-- whether a list begins with 0
first_decided : (bytes : List ℕ) → IsDecided (slice_get bytes 0 ≡ Some 0)
first_decided [] = inr (λ is. none-some 0 is)
first_decided (b ∷ bytes) =
    same_decided (b ≡ 0) (Some b ≡ Some 0) (λ same. ap Some same) (same_Some b 0) (equal_decided b 0)

-- whether the content is bad
bad_decided : (k : ChunkValue) → IsDecided (HasBadContents k)
bad_decided k =
    either_decided _ _ (not_decided _ (rule_decided k.kind (length k.«data») k.num_records k.decoded_size))
    (both _ _ (equal_decided k.kind simple_kind)
    (either_decided _ _ (lists_decided k.«data» [])
    (both _ _ (first_decided k.«data») (not_decided _ (records_decided k)))))

-- whether a kind has no name
name_decided : (kind : ℕ) → IsDecided (IsOfNoName kind)
name_decided kind =
    same_decided ((kind ≢ signature_kind) × ((kind ≢ metadata_kind) × ((kind ≢ padding_kind) × ((kind ≢ simple_kind) × (kind ≢ transposed_kind))))) (IsOfNoName kind)
    (λ h. record { signature = h.0; metadata = h.1.0; padding = h.1.1.0; simple = h.1.1.1.0; transposed = h.1.1.1.1 })
    (λ h. (h.signature, (h.metadata, (h.padding, (h.simple, h.transposed)))))
    (both _ _ (not_decided _ (equal_decided kind signature_kind))
    (both _ _ (not_decided _ (equal_decided kind metadata_kind))
    (both _ _ (not_decided _ (equal_decided kind padding_kind))
    (both _ _ (not_decided _ (equal_decided kind simple_kind)) (not_decided _ (equal_decided kind transposed_kind))))))

-- so whether a reason applies
content_decided : (hash : ℕ) (k : ChunkValue) (w : Why) → IsDecided (ContentApplies hash k w)
content_decided hash k why.DataHash = not_decided _ (equal_decided (riegeli_hash k.«data») hash)
content_decided hash k why.Contents = bad_decided k
content_decided hash k why.Compressed =
    same_decided ((k.kind ≡ simple_kind) × ((0 < length k.«data») × (slice_index k.«data» 0 ≢ 0))) (IsCompressed k) (λ h. (h.0, h.1.0, h.1.1)) (λ h. (h.0, (h.1, h.2)))
    (both _ _ (equal_decided k.kind simple_kind)
    (both _ _ (less_decided 0 (length k.«data»)) (not_decided _ (equal_decided (slice_index k.«data» 0) 0))))
content_decided hash k why.Transposed = equal_decided k.kind transposed_kind
content_decided hash k why.UnknownKind = name_decided k.kind
content_decided hash k other = inr (λ never. never)

pub reason_decided : (file : List ℕ) (place : ℕ) (w : Why) → IsDecided (Applies file place w)
reason_decided file place why.Short = less_decided (length file) (end_of place 40)
reason_decided file place why.HeaderHash = not_decided _ (header_decided (header_bytes_at file place))
reason_decided file place why.Truncated = less_decided (length file) (end_at file place)
reason_decided file place why.TooLarge = less_decided max_data_size (header_at file place).data_size
reason_decided file place why.BlockHeader = block_decided file place
reason_decided file place other = content_decided (header_at file place).data_hash (chunk_at file place) other

-- the first reason that applies, or that none does
pub first_or_none : (P : Why → Type 0) → ((w : Why) → IsDecided (P w)) → (reasons : List Why)
    → ((first : Why) × IsFirstOf P reasons first) ⊎ NoneOf P reasons
first_or_none P decided [] = inr tt
first_or_none P decided (w ∷ reasons) =
    elim (decided w) [
      | inl applies ↦ inl (w, inl (applies, refl))
      | inr not ↦ elim (first_or_none P decided reasons) [
        | inl later ↦ inl (later.0, inr (not, later.1))
        | inr none ↦ inr (not, none)
      ]
    ]

-- the least number of which something holds
pub least_below : (P : ℕ → Type 0) → ((i : ℕ) → IsDecided (P i)) → (most i : ℕ) → i ≤ most → P i
    → (least : ℕ) × P least × ((j : ℕ) → P j → least ≤ j)
least_below P decided zero i few here =
    let first : i ≡ 0 = omega arith in (i, here, λ j there. omega arith)
least_below P decided (suc most) i few here =
    elim (some_below_decided P decided i) [
      | inl some ↦ least_below P decided most some.0 (omega (arith, some.1)) some.2
      | inr none ↦ (i, here, λ j there. elim (cases_lt j i) [ inl less ↦ absurd (none (j, less, there)) | inr after ↦ after ])
    ]

one_wrong_decided : (file : List ℕ) (place block : ℕ) → IsDecided (IsWrongBlock file place block)
unfolding WrongParts
one_wrong_decided file place block =
    same_decided ((block < end_at file place) × WrongParts file place block) (IsWrongBlock file place block)
    (λ h. record { is_block = h.1.0; from = h.1.1.0; below = h.0; differs = h.1.1.1 })
    (λ h. (h.below, (h.is_block, (h.from, h.differs))))
    (both _ _ (less_decided block (end_at file place)) (wrong_decided file place block))

-- a reason that applies has a place
place_of : (file : List ℕ) (place : ℕ) (w : Why) → Applies file place w → (at : ℕ) × IsPlaceOf file place w at
place_of file place why.BlockHeader (block, wrong) =
    let first = least_below (IsWrongBlock file place) (one_wrong_decided file place) block block (omega arith) wrong in
    (first.0, (first.1, first.2))
place_of file place other applies = (place, refl)

-- so a verdict is given of a place, or no reason applies there
pub judged : (unread_ok : Bool) (file : List ℕ) (place : ℕ)
    → ((fault : Fault) × IsVerdict unread_ok file place fault) ⊎ NoneOf (Applies file place) (strict_reasons unread_ok)
judged unread_ok file place =
    elim (first_or_none (Applies file place) (reason_decided file place) (strict_reasons unread_ok)) [
      | inl (first, is) ↦
          let at = place_of file place first (first_applies (Applies file place) (strict_reasons unread_ok) first is) in
          inl (record { at = at.0; why = first }, (is, at.1))
      | inr none ↦ inr none
    ]

-- a file without fault, or its fault
abbrev IsEither : Bool → List ℕ → Type 0
IsEither unread_ok file = HasNoFault unread_ok file ⊎ ((fault : Fault) × IsFault unread_ok file fault)

-- a chain to the end of a file that begins with the signature has chunks
some_chunks : (P : ChunkValue → Type 0) (ks : List ChunkValue) (file : List ℕ) → BeginsWithSignature file → IsChainOf P ks file (length file) → ks ≢ []
some_chunks P ks file begins h none =
    omega (arith, signed_length file begins, no_chunks file (length file) (subst (λ (xs : List ChunkValue). IsChainOf P xs file (length file)) none h))

-- a chain to the end of the file
judged_whole : (unread_ok : Bool) (file : List ℕ) → BeginsWithSignature file → (ks : List ChunkValue) (place : ℕ) → length file ≤ place
    → IsChainOf (IsAllowed unread_ok) ks file place → IsEither unread_ok file
judged_whole unread_ok file begins ks place far h =
    let end : place ≡ length file = omega (arith, h.within) in
    let whole : IsChainOf (IsAllowed unread_ok) ks file (length file) = subst (λ (p : ℕ). IsChainOf (IsAllowed unread_ok) ks file p) end h in
    inl (ks, (some_chunks (IsAllowed unread_ok) ks file begins whole, whole))

-- from the end of a chain the file is judged to its end
judged_from : (unread_ok : Bool) (file : List ℕ) → AreBytes file → BeginsWithSignature file
    → (most : ℕ) (ks : List ChunkValue) (place : ℕ) → length file ≤ place + most → IsChainOf (IsAllowed unread_ok) ks file place
    → IsEither unread_ok file
judged_from unread_ok file bytes begins zero ks place far h = judged_whole unread_ok file begins ks place (omega arith) h
judged_from unread_ok file bytes begins (suc most) ks place far h =
    elim (cases_lt place (length file)) [
      | inr past ↦ judged_whole unread_ok file begins ks place past h
      | inl below ↦ elim (judged unread_ok file place) [
        | inl (fault, verdict) ↦
            inr (fault, inr (begins, (ks, place, longest_where_refused unread_ok ks file place fault.why h verdict.0, below, verdict)))
        | inr none ↦
            judged_from unread_ok file bytes begins most (ks ++ chunk_at file place ∷ []) (end_at file place)
            (omega (arith, end_at_after file place))
            (chain_goes_on unread_ok ks file place h begins
            (laid_where_none unread_ok file place bytes none)
            (allowed_where_none unread_ok file place none))
      ]
    ]

-- so each file of bytes is
pub file_judged : (unread_ok : Bool) (file : List ℕ) → AreBytes file → IsEither unread_ok file
file_judged unread_ok file bytes =
    elim (lists_decided (take (length signature_bytes) file) signature_bytes) [
      | inl begins ↦ judged_from unread_ok file bytes begins (length file) [] 0 (omega arith) (IsChainOf-nil file)
      | inr differs ↦ inr (record { at = 0; why = why.NoSignature }, inl (differs, refl))
    ]

-- and it has none exactly where it is well-formed chunks to its end
pub faultless-iff : (unread_ok : Bool) (file : List ℕ) → AreBytes file → (¬ ((fault : Fault) × IsFault unread_ok file fault)) ↔ HasNoFault unread_ok file
faultless-iff unread_ok file bytes = (
  λ none. elim (file_judged unread_ok file bytes) [ inl faultless ↦ faultless | inr faulty ↦ absurd (none faulty) ],
  λ faultless. λ faulty. fault_or_none unread_ok file faulty.0 faulty.1 faultless,
)
