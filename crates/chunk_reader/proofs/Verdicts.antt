-- Verdicts and judged chunks, from what is found on the way: first the header, then the blocks, then the content.
use Rattle.std.proofs.Common.{◌≡◌, ◌≢◌, ◌∙◌, ◌⊎◌, ℕ, ◌≤◌, Bool, true, false, List, [], ◌∷◌, ◌++◌, length, sym, ap, subst, inl, inr}
use Rattle.std.proofs.lemmas.Bool.{cases_lt, cases_Bool}
use Rattle.std.specs.Prelude.{slice_range}
use Rattle.std.specs.List.{AllByRecursion}
use Rattle.highway_hash.specs.Riegeli.{riegeli_hash}
use Rattle.record_values.specs.Bytes.{AreBytes}
use Rattle.chunk_header.specs.Chunks.{ChunkValue, HeaderValue, IsChunk}
use Rattle.chunk_header.specs.SimpleChunks.{IsCompressed}
use Rattle.chunk_header.specs.declared.Header.{Header}
use Rattle.chunk_header.specs.Views.{IsHeader, bytes_of_header, value_of_header, value_of}
use Rattle.meta_chunk.specs.Files.{IsPlain, IsUnread, IsTransposed, is_unread}
use Rattle.meta_chunk.specs.Laid.{IsLaid}
use Rattle.meta_chunk.proofs.OneChunk.{same_chunk}
use Rattle.meta_chunk.proofs.Held.{plain_or_unread}
use Rattle.meta_chunk.proofs.Totals.{is_unread-iff}
use Rattle.chunk_reader.specs.Places.{header_bytes_at, header_at, end_by, end_at, data_at, chunk_at}
use Rattle.chunk_reader.specs.PlaceChecks.{HaveHeadersOf, IsFirstWrong}
use Rattle.chunk_reader.specs.Reasons.{ContentApplies, IsWrongBlock, Applies, NoneOf, IsFirstOf, loading_reasons, content_reasons, strict_reasons}
use Rattle.chunk_reader.specs.Faults.{IsVerdict, IsPlaceOf}
use Rattle.chunk_reader.specs.declared.reasons.Why.{Why}
use Rattle.chunk_reader.specs.declared.reasons.Why.TheVariants as why
use Rattle.chunk_reader.specs.declared.reasons.Fault.{Fault}
use Rattle.chunk_reader.proofs.PassedChunks.{header_at-header, IsLaid-right}

-- the first of some reasons is the first of these and more behind them
pub first_in_front : (P : Why → Type 0) (reasons more : List Why) (first : Why) → IsFirstOf P reasons first → IsFirstOf P (reasons ++ more) first
first_in_front P [] more first is = absurd is
first_in_front P (w ∷ reasons) more first (inl here) = inl here
first_in_front P (w ∷ reasons) more first (inr (not, later)) = inr (not, first_in_front P reasons more first later)

-- and of these behind some of which none applies
pub first_behind : (P : Why → Type 0) (reasons more : List Why) (first : Why) → NoneOf P reasons → IsFirstOf P more first → IsFirstOf P (reasons ++ more) first
first_behind P [] more first none is = is
first_behind P (w ∷ reasons) more first none is = inr (none.0, first_behind P reasons more first none.1 is)

-- none of some reasons, and none of others
pub none_behind : (P : Why → Type 0) (reasons more : List Why) → NoneOf P reasons → NoneOf P more → NoneOf P (reasons ++ more)
none_behind P [] more none others = others
none_behind P (w ∷ reasons) more none others = (none.0, none_behind P reasons more none.1 others)

-- the first of reasons whose place is the chunk's begin has that place
begin_of_first : (P : Why → Type 0) (file : List ℕ) (place at : ℕ) (reasons : List Why) (first : Why)
    → AllByRecursion (λ w. at ≡ place → IsPlaceOf file place w at) reasons → IsFirstOf P reasons first → at ≡ place → IsPlaceOf file place first at
begin_of_first P file place at [] first each is here = absurd is
begin_of_first P file place at (w ∷ reasons) first each (inl (applies, same)) here =
    subst (λ (x : Why). IsPlaceOf file place x at) (sym same) (each.0 here)
begin_of_first P file place at (w ∷ reasons) first each (inr (not, later)) here =
    begin_of_first P file place at reasons first each.1 later here

-- a reason by which a chunk is refused before its data is read is its verdict
pub verdict_loading : (unread_ok : Bool) (file : List ℕ) (place : ℕ) (fault : Fault)
    → IsFirstOf (Applies file place) loading_reasons fault.why → fault.at ≡ place → IsVerdict unread_ok file place fault
verdict_loading unread_ok file place fault first here = (
  first_in_front (Applies file place) loading_reasons (why.BlockHeader ∷ content_reasons unread_ok) fault.why first,
  begin_of_first (Applies file place) file place fault.at loading_reasons fault.why
      ((λ e. e), ((λ e. e), ((λ e. e), ((λ e. e), tt)))) first here,
)

-- so is the first wrong block, where none of these applies
pub verdict_block : (unread_ok : Bool) (file : List ℕ) (place end : ℕ) (fault : Fault)
    → NoneOf (Applies file place) loading_reasons → end ≡ end_at file place
    → IsFirstWrong file place end place end fault.at → fault.why ≡ why.BlockHeader
    → IsVerdict unread_ok file place fault
verdict_block unread_ok file place end fault none is wrong reason =
    let there : IsFirstWrong file place (end_at file place) place (end_at file place) fault.at =
    subst (λ (e : ℕ). IsFirstWrong file place e place e fault.at) is wrong in
    let block : IsWrongBlock file place fault.at =
    record { is_block = there.is_block; from = there.from_place; below = there.below; differs = there.differs } in (
      first_behind (Applies file place) loading_reasons (why.BlockHeader ∷ content_reasons unread_ok) fault.why none
          (inl ((fault.at, block), reason)),
      subst (λ (w : Why). IsPlaceOf file place w fault.at) (sym reason) (
        block,
        λ other wrong_there.
            elim (cases_lt other fault.at) [
              | inl before ↦ absurd (wrong_there.differs (there.first other wrong_there.is_block wrong_there.from before))
              | inr at_or_after ↦ at_or_after
            ],
      ),
    )

-- where the blocks have their headers, none is wrong
pub no_wrong_block : (file : List ℕ) (place : ℕ) → HaveHeadersOf file place (end_at file place) place (end_at file place)
    → ¬ Applies file place why.BlockHeader
no_wrong_block file place blocks (block, wrong) = wrong.differs (blocks block wrong.is_block wrong.from wrong.below)

-- the reasons of content are judged over the chunk at the place
content_first : (unread_ok : Bool) (file : List ℕ) (place : ℕ) (first : Why)
    → IsFirstOf (ContentApplies (header_at file place).data_hash (chunk_at file place)) (content_reasons unread_ok) first
    → IsFirstOf (Applies file place) (content_reasons unread_ok) first
content_first false file place first is = is
content_first true file place first is = is

pub content_none : (unread_ok : Bool) (file : List ℕ) (place : ℕ)
    → NoneOf (ContentApplies (header_at file place).data_hash (chunk_at file place)) (content_reasons unread_ok)
    → NoneOf (Applies file place) (content_reasons unread_ok)
content_none false file place none = none
content_none true file place none = none

-- their fault is at the chunk's begin
content_begin : (unread_ok : Bool) (file : List ℕ) (place at : ℕ) → AllByRecursion (λ w. at ≡ place → IsPlaceOf file place w at) (content_reasons unread_ok)
content_begin false file place at = ((λ e. e), ((λ e. e), ((λ e. e), ((λ e. e), ((λ e. e), tt)))))
content_begin true file place at = ((λ e. e), ((λ e. e), ((λ e. e), tt)))

-- so a reason of the content is the verdict, where the header and the blocks are right
pub verdict_content : (unread_ok : Bool) (file : List ℕ) (place hash : ℕ) (k : ChunkValue) (fault : Fault)
    → NoneOf (Applies file place) loading_reasons → HaveHeadersOf file place (end_at file place) place (end_at file place)
    → hash ≡ (header_at file place).data_hash → k ≡ chunk_at file place
    → IsFirstOf (ContentApplies hash k) (content_reasons unread_ok) fault.why → fault.at ≡ place
    → IsVerdict unread_ok file place fault
verdict_content unread_ok file place hash k fault none blocks hash_is chunk_is first here =
    let there : IsFirstOf (Applies file place) (content_reasons unread_ok) fault.why =
    content_first unread_ok file place fault.why
    (subst (λ (c : ChunkValue). IsFirstOf (ContentApplies (header_at file place).data_hash c) (content_reasons unread_ok) fault.why) chunk_is
    (subst (λ (h : ℕ). IsFirstOf (ContentApplies h k) (content_reasons unread_ok) fault.why) hash_is first)) in (
      first_behind (Applies file place) loading_reasons (why.BlockHeader ∷ content_reasons unread_ok) fault.why none
          (inr (no_wrong_block file place blocks, there)),
      begin_of_first (Applies file place) file place fault.at (content_reasons unread_ok) fault.why (content_begin unread_ok file place fault.at) there here,
    )

-- where unread chunks are let through the reasons are the same but for those that name them
pub first_with_unread : (P : Why → Type 0) (first : Why) → first ≢ why.Compressed → first ≢ why.Transposed
    → IsFirstOf P (content_reasons false) first → IsFirstOf P (content_reasons true) first
first_with_unread P first c t (inl hash) = inl hash
first_with_unread P first c t (inr (a, inl contents)) = inr (a, inl contents)
first_with_unread P first c t (inr (a, inr (b, inl (compressed, is)))) = absurd (c is)
first_with_unread P first c t (inr (a, inr (b, inr (d, inl (transposed, is))))) = absurd (t is)
first_with_unread P first c t (inr (a, inr (b, inr (d, inr (e, inl unknown))))) = inr (a, inr (b, inl unknown))
first_with_unread P first c t (inr (a, inr (b, inr (d, inr (e, inr never))))) = absurd never.1

-- and a chunk that is refused by one of those is let through: no other reason applies
pub none_with_unread : (hash : ℕ) (k : ChunkValue) (first : Why) → (first ≡ why.Compressed) ⊎ (first ≡ why.Transposed)
    → IsFirstOf (ContentApplies hash k) (content_reasons false) first
    → NoneOf (ContentApplies hash k) (content_reasons true) × (IsCompressed k ⊎ IsTransposed k)
none_with_unread hash k first unread (inl (differs, is)) = absurd (elim unread [ inl c ↦ cc (c, is) | inr t ↦ cc (t, is) ])
none_with_unread hash k first unread (inr (a, inl (contents, is))) = absurd (elim unread [ inl c ↦ cc (c, is) | inr t ↦ cc (t, is) ])
none_with_unread hash k first unread (inr (a, inr (b, inl (compressed, is)))) =
    ((a, (b, ((λ no_name. no_name.simple compressed.0), tt))), inl compressed)
none_with_unread hash k first unread (inr (a, inr (b, inr (d, inl (transposed, is))))) =
    ((a, (b, ((λ no_name. no_name.transposed transposed), tt))), inr transposed)
none_with_unread hash k first unread (inr (a, inr (b, inr (d, inr (e, inl (unknown, is)))))) =
    absurd (elim unread [ inl c ↦ cc (c, is) | inr t ↦ cc (t, is) ])
none_with_unread hash k first unread (inr (a, inr (b, inr (d, inr (e, inr never))))) = absurd never.1

-- what no reason refuses strictly, none refuses where unread chunks are let through
pub none_strict : (P : Why → Type 0) → NoneOf P (content_reasons false) → NoneOf P (content_reasons true)
none_strict P (hash, (contents, (compressed, (transposed, (unknown, end))))) = (hash, (contents, (unknown, end)))

-- the chunk of a header and data at a place is the chunk there
pub value_of-at : (file : List ℕ) (place : ℕ) (h : Header) (bytes : List ℕ) → IsHeader h
    → header_bytes_at file place ≡ bytes_of_header h → bytes ≡ data_at file place h.data_size
    → value_of h bytes ≡ chunk_at file place
value_of-at file place h bytes sound same given =
    let value : value_of_header h ≡ header_at file place = sym (header_at-header file place h sound same) in
    same_chunk (value_of h bytes) (chunk_at file place)
    (ap (λ (v : HeaderValue). v.kind) value)
    (ap (λ (v : HeaderValue). v.num_records) value)
    (ap (λ (v : HeaderValue). v.decoded_size) value)
    (given ∙ ap (λ (v : HeaderValue). data_at file place v.data_size) value)

-- its end, and the hash of its data as the header says it
pub end_by-at : (file : List ℕ) (place : ℕ) (h : Header) → IsHeader h → header_bytes_at file place ≡ bytes_of_header h
    → end_by place (value_of_header h) ≡ end_at file place
end_by-at file place h sound same = ap (end_by place) (sym (header_at-header file place h sound same))

pub hash_of-at : (file : List ℕ) (place : ℕ) (h : Header) → IsHeader h → header_bytes_at file place ≡ bytes_of_header h
    → h.data_hash ≡ (header_at file place).data_hash
hash_of-at file place h sound same = ap (λ (v : HeaderValue). v.data_hash) (sym (header_at-header file place h sound same))

-- where the header, the blocks and the content are right, no reason applies
pub none_at : (unread_ok : Bool) (file : List ℕ) (place : ℕ) (h : Header) (bytes : List ℕ) → IsHeader h
    → header_bytes_at file place ≡ bytes_of_header h → bytes ≡ data_at file place h.data_size
    → NoneOf (Applies file place) loading_reasons → HaveHeadersOf file place (end_at file place) place (end_at file place)
    → NoneOf (ContentApplies h.data_hash (value_of h bytes)) (content_reasons unread_ok)
    → NoneOf (Applies file place) (strict_reasons unread_ok)
none_at unread_ok file place h bytes sound same given none blocks content =
    none_behind (Applies file place) loading_reasons (why.BlockHeader ∷ content_reasons unread_ok) none (
      no_wrong_block file place blocks,
      content_none unread_ok file place
          (subst (λ (c : ChunkValue). NoneOf (ContentApplies (header_at file place).data_hash c) (content_reasons unread_ok)) (value_of-at file place h bytes sound same given)
          (subst (λ (x : ℕ). NoneOf (ContentApplies x (value_of h bytes)) (content_reasons unread_ok)) (hash_of-at file place h sound same) content)),
    )

-- and the chunk is laid
pub laid_at : (file : List ℕ) (place : ℕ) (h : Header) (bytes : List ℕ) → IsHeader h
    → header_bytes_at file place ≡ bytes_of_header h → bytes ≡ data_at file place h.data_size → IsChunk (value_of h bytes)
    → end_at file place ≤ length file → HaveHeadersOf file place (end_at file place) place (end_at file place)
    → h.data_hash ≡ riegeli_hash bytes
    → IsLaid place (chunk_at file place) (slice_range file place (end_at file place))
laid_at file place h bytes sound same given chunk whole blocks hash =
    let is : value_of h bytes ≡ chunk_at file place = value_of-at file place h bytes sound same given in
    let «data» : bytes ≡ (chunk_at file place).«data» = ap (λ (c : ChunkValue). c.«data») is in
    IsLaid-right file place h (record {
      sound = sound;
      header = same;
      whole = whole;
      bytes = subst AreBytes «data» chunk.bytes;
      hash = ap riegeli_hash (sym «data») ∙ sym hash ∙ hash_of-at file place h sound same;
      blocks = blocks;
    })

-- the test of chunks that are left unread, by what they are
pub is_unread-plain : (k : ChunkValue) → IsPlain k → is_unread k ≡ false
is_unread-plain k plain =
    elim (cases_Bool (is_unread k)) [
      | inl passed ↦ absurd (plain_or_unread k plain ((is_unread-iff k (inl plain)).0 passed))
      | inr failed ↦ failed
    ]

pub is_unread-unread : (k : ChunkValue) → IsUnread k → is_unread k ≡ true
is_unread-unread k unread = (is_unread-iff k (inr unread)).1 unread
