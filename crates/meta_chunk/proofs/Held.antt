-- Signatures, and the records that chunks hold.
use Rattle.std.proofs.Common.{◌≡◌, ◌∙◌, ◌≢◌, ◌↔◌, ◌⊎◌, ℕ, ◌<◌, List, [], ◌∷◌, ◌++◌, length, get_or, refl, sym, ap, subst, inl, inr, arith}
use Rattle.std.specs.List.{AllByRecursion, flat_map}
use Rattle.std.proofs.lemmas.List.{nil_from_length}
use Rattle.std.proofs.lemmas.Grind.{flat_map-append}
use Rattle.chunk_header.specs.Chunks.{ChunkValue}
use Rattle.chunk_header.specs.Kinds.{simple_kind}
use Rattle.chunk_header.specs.SimpleChunks.{IsSimpleChunk}
use Rattle.chunk_header.proofs.OneList.{records_are_one}
use Rattle.meta_chunk.specs.Kinds.{IsSignature}
use Rattle.meta_chunk.specs.Files.{signature, IsPlain, IsUnread, IsWellFormedChunk, Holds, HoldEach, AreRecordsOf}
use Rattle.meta_chunk.proofs.OneChunk.{same_chunk}

-- the signature has the kind and keeps its rule
IsSignature-signature : IsSignature signature
IsSignature-signature = (
  refl,
  record {
    signature = λ is. (refl, refl, refl);
    metadata = λ is. refl;
    padding = λ is. (refl, refl);
  },
)

-- a chunk of that kind that keeps its rule is the signature
signature-IsSignature : (k : ChunkValue) → IsSignature k → k ≡ signature
signature-IsSignature k (is, rule) =
    let none = rule.signature refl in
    same_chunk k signature is none.1 none.2 (nil_from_length k.«data» none.0)

-- and the signature alone is
pub IsSignature-one : (k : ChunkValue) → IsSignature k ↔ (k ≡ signature)
IsSignature-one k = (signature-IsSignature k, λ same. subst IsSignature (sym same) IsSignature-signature)

-- a chunk holds one list of records
Holds-one : (k : ChunkValue) (a b : List (List ℕ)) → Holds k a → Holds k b → a ≡ b
Holds-one k a b (inl simple) (inl other) = records_are_one k a b simple other
Holds-one k a b (inl simple) (inr (none, nothing)) = absurd (none (a, simple))
Holds-one k a b (inr (none, nothing)) (inl simple) = absurd (none (b, simple))
Holds-one k a b (inr (none, nothing)) (inr (also, none_there)) = nothing ∙ sym none_there

-- so chunks hold one list each
pub HoldEach-one : (ks : List ChunkValue) (a b : List (List (List ℕ))) → HoldEach ks a → HoldEach ks b → a ≡ b
HoldEach-one [] a b h g = h ∙ sym g
HoldEach-one (k ∷ ks) [] b h g = elim h [ ]
HoldEach-one (k ∷ ks) (x ∷ a) [] h g = elim g [ ]
HoldEach-one (k ∷ ks) (x ∷ a) (y ∷ b) h g =
    ap (λ (z : List (List ℕ)). z ∷ a) (Holds-one k x y h.0 g.0) ∙ ap (λ (zs : List (List (List ℕ))). y ∷ zs) (HoldEach-one ks a b h.1 g.1)

-- and have one list of records
pub AreRecordsOf-one : (ks : List ChunkValue) (a b : List (List ℕ)) → AreRecordsOf ks a → AreRecordsOf ks b → a ≡ b
AreRecordsOf-one ks a b (lists, h, joined) (others, g, also) =
    joined ∙ ap (flat_map (λ (held : List (List ℕ)). held)) (HoldEach-one ks lists others h g) ∙ sym also

-- a chunk of another kind than simple ones has no records
no_records : (k : ChunkValue) (kind : ℕ) → k.kind ≡ kind → kind ≢ simple_kind → ¬ IsSimpleChunk k
no_records k kind is other (records, simple) = other (sym is ∙ simple.kind)

-- nor has a compressed one
compressed : (k : ChunkValue) → get_or k.«data» 0 0 ≢ 0 → ¬ IsSimpleChunk k
compressed k some (records, simple) = some (ap (λ (xs : List ℕ). get_or xs 0 0) simple.«data»)

-- a chunk that is read or left unread holds a list of records
Holds-well_formed : (k : ChunkValue) → IsWellFormedChunk k → (records : List (List ℕ)) × Holds k records
Holds-well_formed k (inl (small, inl (records, simple))) = (records, inl simple)
Holds-well_formed k (inl (small, inr (inl is))) = ([], inr (no_records k 0x73 is.0 (λ same. omega arith), refl))
Holds-well_formed k (inl (small, inr (inr (inl is)))) = ([], inr (no_records k 0x6d is.0 (λ same. omega arith), refl))
Holds-well_formed k (inl (small, inr (inr (inr is)))) = ([], inr (no_records k 0x70 is.0 (λ same. omega arith), refl))
Holds-well_formed k (inr (small, inl is)) = ([], inr (no_records k 0x74 is (λ same. omega arith), refl))
Holds-well_formed k (inr (small, inr (is, some, other))) = ([], inr (compressed k other, refl))

-- so do such chunks each
pub HoldEach-well_formed : (ks : List ChunkValue) → AllByRecursion IsWellFormedChunk ks → (lists : List (List (List ℕ))) × HoldEach ks lists
HoldEach-well_formed [] h = ([], refl)
HoldEach-well_formed (k ∷ ks) h =
    let here = Holds-well_formed k h.0 in
    let rest = HoldEach-well_formed ks h.1 in
    (here.0 ∷ rest.0, (here.1, rest.1))

-- an unread chunk has no records
pub unread_records : (k : ChunkValue) → IsUnread k → ¬ IsSimpleChunk k
unread_records k (small, inl is) = no_records k 0x74 is (λ same. omega arith)
unread_records k (small, inr (is, some, other)) = compressed k other

-- and is transposed or simple
unread_kind : (k : ChunkValue) (kind : ℕ) → k.kind ≡ kind → kind < 0x72 ⊎ (kind ≡ 0x73) → ¬ IsUnread k
unread_kind k kind is other (small, inl transposed) =
    let t : k.kind ≡ 0x74 = transposed in elim other [ inl below ↦ omega arith | inr same ↦ omega arith ]
unread_kind k kind is other (small, inr (simple, some, compression)) =
    let r : k.kind ≡ 0x72 = simple in elim other [ inl below ↦ omega arith | inr same ↦ omega arith ]

-- so a chunk that is read is not left unread
pub plain_or_unread : (k : ChunkValue) → IsPlain k → IsUnread k → ⊥
plain_or_unread k (small, inl has) unread = unread_records k unread has
plain_or_unread k (small, inr (inl is)) unread = unread_kind k 0x73 is.0 (inr refl) unread
plain_or_unread k (small, inr (inr (inl is))) unread = unread_kind k 0x6d is.0 (inl (omega arith)) unread
plain_or_unread k (small, inr (inr (inr is))) unread = unread_kind k 0x70 is.0 (inl (omega arith)) unread

-- a chunk that is read holds as many records as its header says
pub Holds-counted : (k : ChunkValue) (records : List (List ℕ)) → IsPlain k → Holds k records → length records ≡ k.num_records
Holds-counted k records plain (inl simple) = sym simple.num_records
Holds-counted k records (small, inl has) (inr (none, nothing)) = absurd (none has)
Holds-counted k records (small, inr (inl is)) (inr (none, nothing)) = ap length nothing ∙ sym ((is.1).signature refl).1
Holds-counted k records (small, inr (inr (inl is))) (inr (none, nothing)) = ap length nothing ∙ sym ((is.1).metadata refl)
Holds-counted k records (small, inr (inr (inr is))) (inr (none, nothing)) = ap length nothing ∙ sym ((is.1).padding refl).0

-- chunks behind others hold their lists behind these
pub HoldEach-append : (ks more : List ChunkValue) (a b : List (List (List ℕ))) → HoldEach ks a → HoldEach more b → HoldEach (ks ++ more) (a ++ b)
HoldEach-append [] more a b h g = subst (λ (xs : List (List (List ℕ))). HoldEach more (xs ++ b)) (sym h) g
HoldEach-append (k ∷ ks) more [] b h g = elim h [ ]
HoldEach-append (k ∷ ks) more (x ∷ a) b h g = (h.0, HoldEach-append ks more a b h.1 g)

-- and their records behind the others'
pub AreRecordsOf-append : (ks more : List ChunkValue) (a b : List (List ℕ)) → AreRecordsOf ks a → AreRecordsOf more b → AreRecordsOf (ks ++ more) (a ++ b)
AreRecordsOf-append ks more a b (lists, h, joined) (others, g, also) = (
  lists ++ others,
  HoldEach-append ks more lists others h g,
  ap (λ (xs : List (List ℕ)). xs ++ b) joined
      ∙ ap (λ (xs : List (List ℕ)). flat_map (λ (held : List (List ℕ)). held) lists ++ xs) also
      ∙ sym (flat_map-append (λ (held : List (List ℕ)). held) lists others),
)
