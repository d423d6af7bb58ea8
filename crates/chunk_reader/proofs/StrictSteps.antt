-- The steps of judging a chunk at a place, where the bytes of the file may be shown.
use Rattle.std.proofs.Common.{◌≡◌, ◌≢◌, ◌∙◌, ℕ, ◌+◌, ◌≤◌, Bool, true, false, inl, inr, Option, Some, None, IfSome, IsSomeAnd, List, refl, sym, ap, subst, arith}
use Rattle.std.proofs.lemmas.Bool.{cases_eq}
use Rattle.highway_hash.specs.Riegeli.{riegeli_hash}
use Rattle.chunk_header.specs.Chunks.{IsChunk}
use Rattle.chunk_header.specs.declared.Header.{Header}
use Rattle.chunk_header.specs.declared.Chunk.{Chunk}
use Rattle.chunk_header.specs.Views.{HasRightHash, value_of_chunk}
use Rattle.chunk_reader.specs.Contents.{IsJudgedIn}
use Rattle.chunk_reader.specs.Faults.{IsVerdict}
use Rattle.chunk_reader.specs.Heads.{IsFoundHead}
use Rattle.chunk_reader.specs.Places.{end_at, data_at}
use Rattle.chunk_reader.specs.PlaceChecks.{HaveHeadersOf, IsFirstWrong}
use Rattle.chunk_reader.specs.Reasons.{Applies, ContentApplies, NoneOf, IsFirstOf, unpassed_reasons, loading_reasons, content_reasons}
use Rattle.chunk_reader.specs.Ends.{IsOneOf}
use Rattle.chunk_reader.specs.declared.judging.Judged.{Judged}
use Rattle.chunk_reader.specs.declared.reasons.Fault.{Fault}
use Rattle.chunk_reader.specs.declared.reasons.Why.{Why}
use Rattle.chunk_reader.specs.declared.reasons.Why.TheVariants as why
use Rattle.chunk_reader.proofs.PassedChunks.{end_at_after}
use Rattle.chunk_reader.proofs.Rooms.{IsSized}
use Rattle.chunk_reader.proofs.Verdicts.{verdict_loading, verdict_block, verdict_content, value_of-at, end_by-at, hash_of-at, none_at, laid_at}

-- a reason by which its data isn't read is the verdict
pub refused_early : (bytes : Option (List ℕ)) (unread_ok : Bool) (at : ℕ) (fault : Fault) → fault.at ≡ at
    → IfSome bytes (λ file. IsFirstOf (Applies file at) loading_reasons fault.why)
    → IfSome bytes (λ file. IsVerdict unread_ok file at fault)
refused_early None unread_ok at fault place first = tt
refused_early (Some file) unread_ok at fault place first = verdict_loading unread_ok file at fault first place

-- no more is handed out than the chunk's header has
pub handed_early : (bytes : Option (List ℕ)) (at before after : ℕ) → after ≤ before + 40
    → IfSome bytes (λ file. NoneOf (Applies file at) unpassed_reasons → after + at ≤ before + end_at file at)
handed_early None at before after h = tt
handed_early (Some file) at before after h = λ _. omega (arith, end_at_after file at)

-- a wrong block is the verdict
pub refused_block : (bytes now : Option (List ℕ)) (unread_ok : Bool) (at end : ℕ) (h : Header) (fault : Fault) → now ≡ bytes
    → IsFoundHead loading_reasons bytes at h end → fault.why ≡ why.BlockHeader
    → IfSome now (λ file. IsFirstWrong file at end at end fault.at)
    → IfSome bytes (λ file. IsVerdict unread_ok file at fault)
refused_block None now unread_ok at end h fault same found is wrong = tt
refused_block (Some file) now unread_ok at end h fault same found is wrong =
    let P : Option (List ℕ) → Type 0 = λ o. IfSome o (λ bytes. IsFirstWrong bytes at end at end fault.at) in
    verdict_block unread_ok file at end fault found.none (found.ends ∙ end_by-at file at h found.fits found.header) (subst P same wrong) is

-- what is known of a chunk whose data is read, and of its blocks
pub record IsLoaded (bytes : Option (List ℕ)) (at end : ℕ) (c : Chunk) : Type 0 where
  pub found : IsFoundHead loading_reasons bytes at c.header end
  pub sound : IsChunk (value_of_chunk c)
  pub given : IfSome bytes (λ file. c.bytes ≡ data_at file at c.header.data_size)
  pub right : IfSome bytes (λ file. HaveHeadersOf file at end at end)

-- the blocks have their headers up to the end of the chunk there
right_at : (file : List ℕ) (at end : ℕ) → end ≡ end_at file at → HaveHeadersOf file at end at end
    → HaveHeadersOf file at (end_at file at) at (end_at file at)
right_at file at end same right = subst (λ e. HaveHeadersOf file at e at e) same right

-- a reason of its content is the verdict
pub refused_content : (bytes : Option (List ℕ)) (unread_ok : Bool) (at end : ℕ) (c : Chunk) (w : Why) (fault : Fault) → IsLoaded bytes at end c
    → record { at = at; why = w } ≡ fault
    → IsFirstOf (ContentApplies c.header.data_hash (value_of_chunk c)) (content_reasons unread_ok) w
    → IfSome bytes (λ file. IsVerdict unread_ok file at fault)
refused_content None unread_ok at end c w fault loaded is first = tt
refused_content (Some file) unread_ok at end c w fault loaded is first =
    let h = c.header in
    let found = loaded.found in
    let same_end : end ≡ end_at file at = found.ends ∙ end_by-at file at h found.fits found.header in
    let P : Fault → Type 0 = λ f. IsVerdict unread_ok file at f in
    subst P is (
    verdict_content unread_ok file at h.data_hash (value_of_chunk c) (record { at = at; why = w }) found.none
    (right_at file at end same_end loaded.right) (hash_of-at file at h found.fits found.header)
    (value_of-at file at h c.bytes found.fits found.header loaded.given) first refl)

-- whether the data isn't read by a reason
abbrev IsEarly : Why → Type 0
IsEarly why.Short = Unit {0}
IsEarly why.HeaderHash = Unit {0}
IsEarly why.Truncated = Unit {0}
IsEarly why.TooLarge = Unit {0}
IsEarly other = ⊥

early : (w : Why) → IsOneOf loading_reasons w → IsEarly w
early w (inl is) = subst IsEarly (sym is) tt
early w (inr (inl is)) = subst IsEarly (sym is) tt
early w (inr (inr (inl is))) = subst IsEarly (sym is) tt
early w (inr (inr (inr (inl is)))) = subst IsEarly (sym is) tt
early w (inr (inr (inr (inr none)))) = absurd none

-- a wrong block and a reason of the content are found where the data is read
pub late_block : (w : Why) → w ≡ why.BlockHeader → ¬ IsOneOf loading_reasons w
late_block w is one = subst IsEarly is (early w one)

late : (P : Why → Type 0) (unread_ok : Bool) (w : Why) → IsFirstOf P (content_reasons unread_ok) w → ¬ IsEarly w
late P true w (inl h) e = subst IsEarly h.1 e
late P true w (inr (a, inl h)) e = subst IsEarly h.1 e
late P true w (inr (a, inr (b, inl h))) e = subst IsEarly h.1 e
late P true w (inr (a, inr (b, inr (none, end)))) e = end
late P false w (inl h) e = subst IsEarly h.1 e
late P false w (inr (a, inl h)) e = subst IsEarly h.1 e
late P false w (inr (a, inr (b, inl h))) e = subst IsEarly h.1 e
late P false w (inr (a, inr (b, inr (c, inl h)))) e = subst IsEarly h.1 e
late P false w (inr (a, inr (b, inr (c, inr (d, inl h))))) e = subst IsEarly h.1 e
late P false w (inr (a, inr (b, inr (c, inr (d, inr (none, end)))))) e = end

pub late_content : (P : Why → Type 0) (unread_ok : Bool) (w : Why) → IsFirstOf P (content_reasons unread_ok) w → ¬ IsOneOf loading_reasons w
late_content P unread_ok w first one = late P unread_ok w first (early w one)

-- numbers that aren't different are the same
hash_same : (a b : ℕ) → ¬ (a ≢ b) → b ≡ a
hash_same a b same = elim (cases_eq a b) [ inl is ↦ sym is | inr other ↦ absurd (same other) ]

-- where no reason of its content applies, the hash of its data is right
pub right_hash : (unread_ok : Bool) (c : Chunk) → NoneOf (ContentApplies c.header.data_hash (value_of_chunk c)) (content_reasons unread_ok) → HasRightHash c
right_hash true c none = hash_same (riegeli_hash c.bytes) c.header.data_hash none.0
right_hash false c none = hash_same (riegeli_hash c.bytes) c.header.data_hash none.0

-- and the chunk is judged
pub judged_in : (bytes : Option (List ℕ)) (told : Option ℕ) (unread_ok : Bool) (at end : ℕ) (c : Chunk) (j : Judged) → IsSized bytes told
    → IsSomeAnd told (λ size. end ≤ size) → IsLoaded bytes at end c → j.end ≡ end → j.chunk ≡ c
    → NoneOf (ContentApplies c.header.data_hash (value_of_chunk c)) (content_reasons unread_ok)
    → IfSome bytes (λ file. IsJudgedIn unread_ok file at j)
judged_in None told unread_ok at end c j sized within loaded is_end is_chunk none = tt
judged_in (Some file) None unread_ok at end c j sized within loaded is_end is_chunk none = elim within [ ]
judged_in (Some file) (Some size) unread_ok at end c j sized within loaded is_end is_chunk none =
    let h = c.header in
    let found = loaded.found in
    let same_end : end ≡ end_at file at = found.ends ∙ end_by-at file at h found.fits found.header in
    let right = right_at file at end same_end loaded.right in
    record {
      chunk = ap value_of_chunk is_chunk ∙ value_of-at file at h c.bytes found.fits found.header loaded.given;
      end = is_end ∙ same_end;
      laid = laid_at file at h c.bytes found.fits found.header loaded.given loaded.sound (omega (arith, same_end, within)) right (right_hash unread_ok c none);
      none = none_at unread_ok file at h c.bytes found.fits found.header loaded.given found.none right none;
    }
