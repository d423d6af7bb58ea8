-- What reading a file chunk by chunk shows of it, over a store that may show its bytes.
use Rattle.std.proofs.Common.{◌≡◌, ◌≢◌, ◌∙◌, ℕ, zero, suc, refl, ◌+◌, ◌-◌, ◌<◌, ◌≤◌, ◌⊎◌, Bool, true, false, Option, Some, None, IfSome, List, [], ◌∷◌, ◌++◌, length, take, sym, ap, subst, inl, inr, arith}
use Rattle.std.specs.Prelude.{slice_range, if◌then◌else◌}
use Rattle.std.proofs.lemmas.Bool.{cases_Bool}
use Rattle.record_values.specs.declared.file_totals.Totals.{Totals}
use Rattle.block_layout.specs.Layout.{IsBoundary, end_of}
use Rattle.block_layout.specs.NextPlaces.{IsOnBoundary}
use Rattle.block_layout.proofs.Ends.{end_of_mono}
use Rattle.block_layout.proofs.ChunkEnds.{chunk_end_of_past_bytes, chunk_end_of_past_records}
use Rattle.chunk_header.specs.Chunks.{ChunkValue}
use Rattle.chunk_header.specs.Views.{value_of_chunk}
use Rattle.meta_chunk.specs.Laid.{end_of_chunk}
use Rattle.meta_chunk.specs.Files.{max_data_size, signature_bytes, IsPlain, IsUnread, IsChainOf, is_unread, totals_of}
use Rattle.meta_chunk.proofs.Held.{plain_or_unread}
use Rattle.meta_chunk.proofs.Totals.{is_unread-iff}
use Rattle.chunk_reader.specs.Ends.{read_end_of}
use Rattle.chunk_reader.specs.Contents.{IsWhat, IsJudged, IsJudgedIn}
use Rattle.chunk_reader.specs.Faults.{IsAllowed, IsVerdict, IsFault, BeginsWithSignature}
use Rattle.chunk_reader.specs.Progress.{totals_with_chunk, AreInBounds, AreReadFrom}
use Rattle.chunk_reader.specs.Places.{end_at, chunk_at}
use Rattle.chunk_reader.specs.Readers.{GoesOn}
use Rattle.chunk_reader.specs.Reasons.{Applies, NoneOf, unpassed_reasons, loading_reasons}
use Rattle.chunk_reader.specs.SearchBounds.{MayBeReadTo}
use Rattle.chunk_reader.specs.declared.judging.Judged.{Judged}
use Rattle.chunk_reader.specs.declared.judging.What.{What}
use Rattle.chunk_reader.specs.declared.judging.What.TheVariants.{Records, Passive, Unread}
use Rattle.chunk_reader.specs.declared.reasons.Fault.{Fault}
use Rattle.chunk_reader.specs.declared.reasons.VerifyEnd.{VerifyEnd}
use Rattle.chunk_reader.specs.declared.reasons.VerifyEnd.TheVariants as verify
use Rattle.chunk_reader.specs.declared.reasons.ReadEnd.TheVariants as read
use Rattle.chunk_reader.proofs.AllowedChunks.{IsPassed, IsAllowed-passed}
use Rattle.chunk_reader.proofs.PassedChunks.{end_at_after}
use Rattle.chunk_reader.proofs.Rooms.{IsSized}
use Rattle.chunk_reader.proofs.SignedFiles.{length-signature_bytes, signed_length, begins_signed}
use Rattle.chunk_reader.proofs.ChainSteps.{no_chunks, chain_goes_on, longest_where_refused, totals_of-push}
use Rattle.chunk_reader.proofs.ReadingSteps.{fault_here}

-- the first 64 bytes of a file are the signature's exactly where it begins with them
front_of : (file : List ℕ) → slice_range file 0 64 ≡ take (length signature_bytes) file
front_of file = ap (λ (n : ℕ). take n file) (sym length-signature_bytes)

pub signed_by_bytes : (bytes : Option (List ℕ)) (buf : List ℕ) → IfSome bytes (λ file. buf ≡ slice_range file 0 64)
    → buf ≡ signature_bytes → IfSome bytes BeginsWithSignature
signed_by_bytes None buf given same = tt
signed_by_bytes (Some file) buf given same = sym (front_of file) ∙ sym given ∙ same

pub unsigned_by_bytes : (bytes : Option (List ℕ)) (buf : List ℕ) → IfSome bytes (λ file. buf ≡ slice_range file 0 64)
    → buf ≢ signature_bytes → IfSome bytes (λ file. ¬ BeginsWithSignature file)
unsigned_by_bytes None buf given differ = tt
unsigned_by_bytes (Some file) buf given differ = λ begins. differ (given ∙ front_of file ∙ begins)

-- a file of fewer bytes doesn't
pub unsigned_by_size : (bytes : Option (List ℕ)) (told : Option ℕ) (size : ℕ) → IsSized bytes told → told ≡ Some size → size < 64
    → IfSome bytes (λ file. ¬ BeginsWithSignature file)
unsigned_by_size None told size sized is small = tt
unsigned_by_size (Some file) told size sized is small =
    let same : size ≡ length file = subst (λ (o : Option ℕ). IfSome o (λ n. n ≡ length file)) is sized in
    λ begins. omega (arith, signed_length file begins)

-- a file of which chunks were read begins with the signature; one of which none were, where that was seen
pub signed_where_read : (unread_ok : Bool) (bytes : Option (List ℕ)) (totals : Totals) → IfSome bytes (λ file. AreReadFrom unread_ok file totals)
    → (totals.bytes ≡ 0 → IfSome bytes BeginsWithSignature) → IfSome bytes BeginsWithSignature
signed_where_read unread_ok None totals read seen = tt
signed_where_read unread_ok (Some file) totals ([], chain, same) seen = seen (no_chunks file totals.bytes chain)
signed_where_read unread_ok (Some file) totals (k ∷ ks, chain, same) seen = begins_signed k ks file totals.bytes chain

-- a verdict on the next chunk is the fault of the file
pub fault_read : (unread_ok : Bool) (bytes : Option (List ℕ)) (told : Option ℕ) (totals : Totals) (size : ℕ) (fault : Fault)
    → IsSized bytes told → told ≡ Some size → totals.bytes < size
    → IfSome bytes (λ file. AreReadFrom unread_ok file totals) → IfSome bytes BeginsWithSignature
    → IfSome bytes (λ file. IsVerdict unread_ok file totals.bytes fault) → IfSome bytes (λ file. IsFault unread_ok file fault)
fault_read unread_ok None told totals size fault sized is below read begins verdict = tt
fault_read unread_ok (Some file) told totals size fault sized is below (ks, chain, counts) begins verdict =
    let same : size ≡ length file = subst (λ (o : Option ℕ). IfSome o (λ n. n ≡ length file)) is sized in
    fault_here unread_ok ks file totals.bytes fault begins chain (omega arith) verdict

-- and no front of well-formed chunks reaches further than what was read
abbrev pub ReachNoFurther : Bool → List ℕ → ℕ → Type 0
ReachNoFurther unread_ok file place = (others : List ChunkValue) (other : ℕ) → IsChainOf (IsAllowed unread_ok) others file other → other ≤ place

pub no_further_refused : (unread_ok : Bool) (bytes : Option (List ℕ)) (totals : Totals) (fault : Fault)
    → IfSome bytes (λ file. AreReadFrom unread_ok file totals) → IfSome bytes (λ file. IsVerdict unread_ok file totals.bytes fault)
    → IfSome bytes (λ file. ReachNoFurther unread_ok file totals.bytes)
no_further_refused unread_ok None totals fault read verdict = tt
no_further_refused unread_ok (Some file) totals fault (ks, chain, counts) verdict =
    (longest_where_refused unread_ok ks file totals.bytes fault.why chain verdict.0).greatest

reach_nothing : (unread_ok : Bool) (file : List ℕ) (place : ℕ) → ¬ BeginsWithSignature file → ReachNoFurther unread_ok file place
reach_nothing unread_ok file place unsigned [] other chain = omega (arith, no_chunks file other chain)
reach_nothing unread_ok file place unsigned (k ∷ ks) other chain = absurd (unsigned (begins_signed k ks file other chain))

pub no_further_unsigned : (unread_ok : Bool) (bytes : Option (List ℕ)) (place : ℕ) → IfSome bytes (λ file. ¬ BeginsWithSignature file)
    → IfSome bytes (λ file. ReachNoFurther unread_ok file place)
no_further_unsigned unread_ok None place unsigned = tt
no_further_unsigned unread_ok (Some file) place unsigned = reach_nothing unread_ok file place unsigned

-- a refusal is handed on with its fault
pub refused_end : (end : VerifyEnd) (fault : Fault) → read.Refused fault ≡ read_end_of end → end ≡ verify.Refused fault
refused_end (verify.Refused f) fault same = let is : fault ≡ f = cc in ap verify.Refused (sym is)
refused_end verify.Store fault same = absurd (cc same)

-- whether a chunk is left unread
abbrev pub is_left : What → Bool
is_left (Records records) = false
is_left Passive = false
is_left Unread = true

pub is_left_other : (what : What) → what ≢ Unread → is_left what ≡ false
is_left_other (Records records) other = refl
is_left_other Passive other = refl
is_left_other Unread other = absurd (other refl)

-- of a chunk that was given it is so exactly where its records aren't counted
given_plain : (k : ChunkValue) → IsPlain k → is_unread k ≡ false
given_plain k plain =
    elim (cases_Bool (is_unread k)) [
      | inl unread ↦ absurd (plain_or_unread k plain ((is_unread-iff k (inl plain)).0 unread))
      | inr read ↦ read
    ]

pub left_unread : (unread_ok : Bool) (k : ChunkValue) (what : What) → length k.«data» ≤ max_data_size → IsWhat unread_ok k what
    → is_left what ≡ is_unread k
left_unread unread_ok k (Records records) small is = sym (given_plain k (small, inl (records, is)))
left_unread unread_ok k Passive small is = sym (given_plain k (small, inr is))
left_unread unread_ok k Unread small (formed, inl compressed) =
    let unread : IsUnread k = (small, inr compressed) in sym ((is_unread-iff k (inr unread)).1 unread)
left_unread unread_ok k Unread small (formed, inr transposed) =
    let unread : IsUnread k = (small, inl transposed) in sym ((is_unread-iff k (inr unread)).1 unread)

-- and allowed
what_passed : (unread_ok : Bool) (k : ChunkValue) (what : What) → IsWhat unread_ok k what → IsPassed unread_ok k
what_passed false k (Records records) is = inl (records, is)
what_passed false k Passive is = inr is
what_passed false k Unread (formed, is) = absurd (cc formed)
what_passed true k (Records records) is = inl (inl (records, is))
what_passed true k Passive is = inl (inr is)
what_passed true k Unread (formed, inl compressed) = inr (inr compressed)
what_passed true k Unread (formed, inr transposed) = inr (inl transposed)

pub allowed_given : (unread_ok : Bool) (size place : ℕ) (j : Judged) → IsJudged unread_ok size place j → IsAllowed unread_ok (value_of_chunk j.chunk)
allowed_given unread_ok size place j h =
    IsAllowed-passed unread_ok (value_of_chunk j.chunk) h.small (what_passed unread_ok (value_of_chunk j.chunk) j.what h.what)

-- a chunk that ends within a size is judged of a file of that size
pub judged_within : (unread_ok : Bool) (end size place : ℕ) (j : Judged) → end ≤ size → IsJudged unread_ok end place j → IsJudged unread_ok size place j
judged_within unread_ok end size place j within h = record {
  begin = h.begin;
  end = h.end;
  to_boundary = h.to_boundary;
  after = h.after;
  within = omega (arith, h.within, within);
  small = h.small;
  right = h.right;
  sound = h.sound;
  what = h.what;
}

-- a chunk takes up at least as many bytes as it holds records
pub room_given : (unread_ok : Bool) (size place : ℕ) (j : Judged) → IsJudged unread_ok size place j → place + j.chunk.header.num_records ≤ j.end
room_given unread_ok size place j h =
    omega (arith, h.end, chunk_end_of_past_records place (40 + length j.chunk.bytes) j.chunk.header.num_records)

-- the first chunk ends behind a block header and its own header
first_end : (k : ChunkValue) → 64 ≤ end_of_chunk 0 k
unfolding end_of
first_end k =
    let header : end_of 0 40 ≡ 64 = refl in
    omega (
      arith,
      header,
      end_of_mono 0 40 (40 + length k.«data») (omega arith),
      chunk_end_of_past_bytes 0 (40 + length k.«data») k.num_records,
    )

-- what is counted of it
counted_most : (unread : Bool) (records : ℕ) → (if unread then 0 else records) ≤ records
counted_most true records = omega arith
counted_most false records = omega arith

left_most : (unread : Bool) → (if unread then 1 else 0) ≤ 1
left_most true = omega arith
left_most false = omega arith

on_boundary : (p : ℕ) → IsBoundary p → IsOnBoundary p
on_boundary p (inl block) = λ inside. absurd (omega arith)
on_boundary p (inr inside) = λ _. inside

end_signed : (place end : ℕ) (k : ChunkValue) → (0 < place → 64 ≤ place) → place < end → end ≡ end_of_chunk place k → 64 ≤ end
end_signed zero end k signed after at = omega (arith, at, first_end k)
end_signed (suc n) end k signed after at = omega (arith, signed (omega arith))

-- totals stay in their bounds
pub AreInBounds-totals_with_chunk : (unread_ok : Bool) (size : ℕ) (totals : Totals) (j : Judged) (unread : Bool)
    → AreInBounds size totals → IsJudged unread_ok size totals.bytes j
    → AreInBounds size (totals_with_chunk totals j.end j.chunk.header.num_records unread)
AreInBounds-totals_with_chunk unread_ok size totals j unread t h =
    let after : totals.bytes < j.end = h.after in
    let records : ℕ = j.chunk.header.num_records in
    record {
      within = h.within;
      boundary = on_boundary j.end h.to_boundary;
      signed = λ some. end_signed totals.bytes j.end (value_of_chunk j.chunk) t.signed after h.end;
      chunks = omega (arith, t.chunks);
      records = omega (arith, t.records, room_given unread_ok size totals.bytes j h, counted_most unread records);
      unread = omega (arith, t.unread, left_most unread);
    }

-- and are those of the chunks with that one more
totals_given : (ks : List ChunkValue) (k : ChunkValue) (totals : Totals) (end : ℕ) (unread : Bool)
    → totals ≡ totals_of ks → unread ≡ is_unread k → end ≡ end_of_chunk totals.bytes k
    → totals_with_chunk totals end k.num_records unread ≡ totals_of (ks ++ k ∷ [])
totals_given ks k totals end unread same left at =
    ap (λ (t : Totals). totals_with_chunk t end k.num_records unread) same
    ∙ ap (λ (u : Bool). totals_with_chunk (totals_of ks) end k.num_records u) left
    ∙ ap (λ (e : ℕ). totals_with_chunk (totals_of ks) e k.num_records (is_unread k)) (at ∙ ap (λ (t : Totals). end_of_chunk t.bytes k) same)
    ∙ sym (totals_of-push ks k)

-- the chunks go on by it
chain_given : (unread_ok : Bool) (size place : ℕ) (file : List ℕ) (j : Judged) (ks : List ChunkValue)
    → BeginsWithSignature file → IsJudged unread_ok size place j → IsJudgedIn unread_ok file place j
    → IsChainOf (IsAllowed unread_ok) ks file place
    → IsChainOf (IsAllowed unread_ok) (ks ++ value_of_chunk j.chunk ∷ []) file j.end
chain_given unread_ok size place file j ks begins judged there chain =
    let allowed : IsAllowed unread_ok (chunk_at file place) = subst (IsAllowed unread_ok) there.chunk (allowed_given unread_ok size place j judged) in
    subst (λ (k : ChunkValue). IsChainOf (IsAllowed unread_ok) (ks ++ k ∷ []) file j.end) (sym there.chunk)
    (subst (λ (e : ℕ). IsChainOf (IsAllowed unread_ok) (ks ++ chunk_at file place ∷ []) file e) (sym there.end)
    (chain_goes_on unread_ok ks file place chain begins there.laid allowed))

-- what a call on a chunk says is said of the reader, which has the same `unread_ok`, size and place
pub judged_shown : (unread_ok now : Bool) (size told place here : ℕ) (j : Judged) → now ≡ unread_ok → told ≡ size → here ≡ place
    → IsJudged unread_ok size place j → IsJudged now told here j
judged_shown unread_ok now size told place here j f s p h =
    subst (λ (b : Bool). IsJudged b told here j) (sym f)
    (subst (λ (n : ℕ). IsJudged unread_ok n here j) (sym s) (subst (λ (n : ℕ). IsJudged unread_ok size n j) (sym p) h))

pub judged_in_shown : (unread_ok now : Bool) (bytes held : Option (List ℕ)) (place here : ℕ) (j : Judged) → now ≡ unread_ok → held ≡ bytes → here ≡ place
    → IfSome held (λ file. IsJudgedIn unread_ok file place j) → IfSome bytes (λ file. IsJudgedIn now file here j)
judged_in_shown unread_ok now bytes held place here j f same p h =
    subst (λ (b : Bool). IfSome bytes (λ file. IsJudgedIn b file here j)) (sym f)
    (subst (λ (o : Option (List ℕ)). IfSome o (λ file. IsJudgedIn unread_ok file here j)) same
    (subst (λ (n : ℕ). IfSome held (λ file. IsJudgedIn unread_ok file n j)) (sym p) h))

pub verdict_shown : (unread_ok now : Bool) (bytes held : Option (List ℕ)) (place here : ℕ) (fault : Fault) → now ≡ unread_ok → held ≡ bytes → here ≡ place
    → IfSome held (λ file. IsVerdict unread_ok file place fault) → IfSome bytes (λ file. IsVerdict now file here fault)
verdict_shown unread_ok now bytes held place here fault f same p h =
    subst (λ (b : Bool). IfSome bytes (λ file. IsVerdict b file here fault)) (sym f)
    (subst (λ (o : Option (List ℕ)). IfSome o (λ file. IsVerdict unread_ok file here fault)) same
    (subst (λ (n : ℕ). IfSome held (λ file. IsVerdict unread_ok file n fault)) (sym p) h))

pub loading_shown : (bytes held : Option (List ℕ)) (place here : ℕ) → held ≡ bytes → here ≡ place
    → IfSome held (λ file. NoneOf (Applies file place) loading_reasons) → IfSome bytes (λ file. NoneOf (Applies file here) loading_reasons)
loading_shown bytes held place here same p h =
    subst (λ (o : Option (List ℕ)). IfSome o (λ file. NoneOf (Applies file here) loading_reasons)) same
    (subst (λ (n : ℕ). IfSome held (λ file. NoneOf (Applies file n) loading_reasons)) (sym p) h)

-- how far the file may have been read: past a header
pub read_to-header : (bytes : Option (List ℕ)) (place before after : ℕ) → after ≤ before + 64
    → IfSome bytes (λ file. MayBeReadTo file place (place + (after - before)))
read_to-header None place before after few = tt
read_to-header (Some file) place before after few = inl (omega (arith, few))

-- or to the end of the chunk there
to_chunk : (file : List ℕ) (at before after : ℕ) → NoneOf (Applies file at) unpassed_reasons ⊎ (after ≤ before + 64)
    → (NoneOf (Applies file at) unpassed_reasons → after + at ≤ before + end_at file at)
    → MayBeReadTo file at (at + (after - before))
to_chunk file at before after (inl none) whole = inr (none, omega (arith, whole none, end_at_after file at))
to_chunk file at before after (inr few) whole = inl (omega (arith, few))

pub read_to-chunk : (bytes : Option (List ℕ)) (at place before after : ℕ) → at ≡ place
    → IfSome bytes (λ file. NoneOf (Applies file at) unpassed_reasons ⊎ (after ≤ before + 64))
    → IfSome bytes (λ file. NoneOf (Applies file at) unpassed_reasons → after + at ≤ before + end_at file at)
    → IfSome bytes (λ file. MayBeReadTo file place (place + (after - before)))
read_to-chunk None at place before after here early whole = tt
read_to-chunk (Some file) at place before after here early whole =
    subst (λ (p : ℕ). MayBeReadTo file p (p + (after - before))) here (to_chunk file at before after early whole)

-- totals of the chunks before go on by a chunk that was given
pub goes_on_given : (unread_ok : Bool) (size : ℕ) (bytes : Option (List ℕ)) (before : Totals) (j : Judged) (unread : Bool)
    → IfSome bytes BeginsWithSignature → IsJudged unread_ok size before.bytes j
    → IfSome bytes (λ file. IsJudgedIn unread_ok file before.bytes j) → unread ≡ is_left j.what
    → IfSome bytes (λ file. GoesOn unread_ok file before (totals_with_chunk before j.end j.chunk.header.num_records unread) (value_of_chunk j.chunk))
goes_on_given unread_ok size None before j unread begins judged there left = tt
goes_on_given unread_ok size (Some file) before j unread begins judged there left =
    let k : ChunkValue = value_of_chunk j.chunk in
    λ ks chain same. (
      chain_given unread_ok size before.bytes file j ks begins judged there chain,
      totals_given ks k before j.end unread same (left ∙ left_unread unread_ok k j.what judged.small judged.what) judged.end,
    )

-- so what was read is read on
pub read_on : (unread_ok : Bool) (bytes : Option (List ℕ)) (before after : Totals) (j : Judged)
    → IfSome bytes (λ file. AreReadFrom unread_ok file before) → IfSome bytes (λ file. GoesOn unread_ok file before after (value_of_chunk j.chunk))
    → IfSome bytes (λ file. AreReadFrom unread_ok file after)
read_on unread_ok None before after j read on = tt
read_on unread_ok (Some file) before after j (ks, chain, same) on =
    let longer = on ks chain same in (ks ++ value_of_chunk j.chunk ∷ [], longer.0, longer.1)
