-- A right chunk header at a place of a file, and whether the file has its chunk.
use Rattle.std.proofs.Common.{◌≡◌, ℕ, ◌<◌, ◌≤◌, inl, inr, Option, Some, None, IfSome, List, length, refl, sym, ap, subst, arith}
use Rattle.chunk_header.specs.declared.Header.{Header}
use Rattle.chunk_header.specs.Views.{IsHeader, bytes_of_header, value_of_header}
use Rattle.meta_chunk.specs.Files.{max_data_size}
use Rattle.chunk_reader.specs.Places.{header_bytes_at, header_at, end_by, end_at}
use Rattle.chunk_reader.specs.Reasons.{Applies, NoneOf, IsFirstOf, header_reasons, unpassed_reasons, loading_reasons}
use Rattle.chunk_reader.proofs.PassedChunks.{header_at-header}
use Rattle.chunk_reader.proofs.Rooms.{IsSized}
use Rattle.chunk_reader.specs.declared.reasons.Fault.{Fault}
use Rattle.chunk_reader.specs.declared.reasons.Why.{Why}
use Rattle.chunk_reader.specs.declared.reasons.Why.TheVariants as why

-- a header that can be read stands at a place of a file
abbrev pub HasRightHead : Header → ℕ → List ℕ → Type 0
HasRightHead h at file = NoneOf (Applies file at) header_reasons × (header_bytes_at file at ≡ bytes_of_header h)

-- what it says
says : (h : Header) (at : ℕ) (file : List ℕ) → IsHeader h → HasRightHead h at file → header_at file at ≡ value_of_header h
says h at file fits right = header_at-header file at h fits right.1

-- the header stands there
pub there : (bytes : Option (List ℕ)) (at : ℕ) (h : Header) → IfSome bytes (HasRightHead h at)
    → IfSome bytes (λ file. header_bytes_at file at ≡ bytes_of_header h)
there None at h right = tt
there (Some file) at h right = right.1

-- the file ends before its chunk
pub first_truncated : (bytes : Option (List ℕ)) (size at : ℕ) (h : Header) → IsSized bytes (Some size) → IsHeader h
    → IfSome bytes (HasRightHead h at) → size < end_by at (value_of_header h)
    → IfSome bytes (λ file. IsFirstOf (Applies file at) unpassed_reasons why.Truncated)
first_truncated None size at h sized fits right past = tt
first_truncated (Some file) size at h sized fits right past =
    let applies : Applies file at why.Truncated =
    subst (λ v. length file < end_by at v) (sym (says h at file fits right)) (omega arith) in
    inr (right.0.0, inr (right.0.1.0, inl (applies, refl)))

-- or it has its chunk
pub none_unpassed : (bytes : Option (List ℕ)) (size at : ℕ) (h : Header) → IsSized bytes (Some size) → IsHeader h
    → IfSome bytes (HasRightHead h at) → end_by at (value_of_header h) ≤ size
    → IfSome bytes (λ file. NoneOf (Applies file at) unpassed_reasons)
none_unpassed None size at h sized fits right within = tt
none_unpassed (Some file) size at h sized fits right within =
    let whole : end_at file at ≤ length file =
    subst (λ v. end_by at v ≤ length file) (sym (says h at file fits right)) (omega arith) in
    (right.0.0, (right.0.1.0, ((λ past. absurd (omega arith)), tt)))

-- a reason by which a chunk isn't passed keeps it from being read
pub unpassed_is_loading : (P : Why → Type 0) (w : Why) → IsFirstOf P unpassed_reasons w → IsFirstOf P loading_reasons w
unpassed_is_loading P w (inl short) = inl short
unpassed_is_loading P w (inr (not_short, inl hash)) = inr (not_short, inl hash)
unpassed_is_loading P w (inr (not_short, inr (right, inl cut))) = inr (not_short, inr (right, inl cut))
unpassed_is_loading P w (inr (not_short, inr (right, inr (whole, none)))) = absurd none

-- a chunk that is passed, whose data is too large
pub first_too_large : (bytes : Option (List ℕ)) (at : ℕ) (h : Header) → IsHeader h
    → IfSome bytes (λ file. header_bytes_at file at ≡ bytes_of_header h)
    → IfSome bytes (λ file. NoneOf (Applies file at) unpassed_reasons) → max_data_size < h.data_size
    → IfSome bytes (λ file. IsFirstOf (Applies file at) loading_reasons why.TooLarge)
first_too_large None at h fits same none large = tt
first_too_large (Some file) at h fits same none large =
    let applies : Applies file at why.TooLarge =
    subst (λ v. max_data_size < v.data_size) (sym (header_at-header file at h fits same)) large in
    inr (none.0, inr (none.1.0, inr (none.1.1.0, inl (applies, refl))))

-- or nothing keeps it from being read
pub none_loading : (bytes : Option (List ℕ)) (at : ℕ) (h : Header) → IsHeader h
    → IfSome bytes (λ file. header_bytes_at file at ≡ bytes_of_header h)
    → IfSome bytes (λ file. NoneOf (Applies file at) unpassed_reasons) → h.data_size ≤ max_data_size
    → IfSome bytes (λ file. NoneOf (Applies file at) loading_reasons)
none_loading None at h fits same none small = tt
none_loading (Some file) at h fits same none small =
    let size : (header_at file at).data_size ≡ h.data_size = ap (λ v. v.data_size) (header_at-header file at h fits same) in
    let not_large : ¬ Applies file at why.TooLarge = λ large. absurd (omega arith) in
    (none.0, (none.1.0, (none.1.1.0, (not_large, tt))))

-- a fault that is at the place, for such a reason
pub refused_for : (reasons : List Why) (bytes : Option (List ℕ)) (at : ℕ) (w : Why) (fault : Fault)
    → record { at = at; why = w } ≡ fault → IfSome bytes (λ file. IsFirstOf (Applies file at) reasons w)
    → (fault.at ≡ at) × IfSome bytes (λ file. IsFirstOf (Applies file at) reasons fault.why)
refused_for reasons bytes at w fault is first =
    subst (λ (f : Fault). (f.at ≡ at) × IfSome bytes (λ file. IsFirstOf (Applies file at) reasons f.why)) is (refl, first)

-- a fault by which a chunk isn't passed keeps it from being read
pub refused_loading : (bytes : Option (List ℕ)) (at : ℕ) (fault : Fault)
    → (fault.at ≡ at) × IfSome bytes (λ file. IsFirstOf (Applies file at) unpassed_reasons fault.why)
    → (fault.at ≡ at) × IfSome bytes (λ file. IsFirstOf (Applies file at) loading_reasons fault.why)
refused_loading None at fault h = (h.0, tt)
refused_loading (Some file) at fault h = (h.0, unpassed_is_loading (Applies file at) fault.why h.1)
