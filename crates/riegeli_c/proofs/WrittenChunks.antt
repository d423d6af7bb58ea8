-- The chunks that are laid by one call and by several.
use Rattle.std.proofs.Common.{◌≡◌, ◌∙◌, ℕ, ◌+◌, ◌<◌, ◌≤◌, Bool, true, false, ◌&&◌, Option, List, [], ◌∷◌, ◌++◌, length, drop, refl, sym, ap, subst, append-nil, append_assoc, arith}
use Rattle.std.specs.Prelude.{map}
use Rattle.std.proofs.Math.Dec.{eqb}
use Rattle.std.proofs.lemmas.Bool.{cond_both, eqb-true, eqb-false}
use Rattle.std.proofs.lemmas.List.{map-append}
use Rattle.chunk_header.specs.Chunks.{ChunkValue}
use Rattle.chunk_header.specs.SimpleChunks.{simple_chunk}
use Rattle.meta_chunk.specs.Files.{signature, signature_bytes, end_of_chunks, laid_each}
use Rattle.meta_chunk.specs.Laid.{end_of_chunk}
use Rattle.meta_chunk.proofs.Joins.{end_of_chunks-append, end_of_chunks_past, laid_each-append}
use Rattle.block_layout.specs.Layout.{IsBoundary}
use Rattle.meta_chunk.proofs.Begins.{end_of_chunks_boundary}
use Rattle.meta_chunk.proofs.PaddingLemmas.{padding_at_near}
use Rattle.record_group.specs.declared.pad.Pad.{Pad}
use Rattle.record_group.specs.declared.pad.Pad.TheVariants.{No, Start, End, Both}
use Rattle.record_group.specs.Groups.{groups, pads_start, pads_end, padding_if, front_padding, record_chunks, chunks_of, file_of}
use Rattle.record_group.proofs.Signed.{end_of_chunk-signature}
use Rattle.riegeli_c.specs.Writes.{groups_laid, records_laid, signature_at, first_laid, grouped_laid, chunks_laid}
use Rattle.riegeli_c.specs.WritingOn.{pad_behind}
use Rattle.riegeli_c.proofs.HeldGroups.{groups-more}
use Rattle.riegeli_c.proofs.LaidBy.{laid-one}

-- at a file's front, where no record follows, they are the chunks of the file
pub whole-chunks : (records : List (List ℕ)) (size : ℕ) (every : Option ℕ) (pad : Pad) → chunks_laid 0 records size every pad true ≡ chunks_of records size every pad
whole-chunks records size every pad = refl

pub whole-file : (records : List (List ℕ)) (size : ℕ) (every : Option ℕ) (pad : Pad)
    → laid_each 0 (chunks_laid 0 records size every pad true) ≡ file_of records size every pad
unfolding file_of
whole-file records size every pad = refl

-- there is no signature further on
pub unsigned : (place : ℕ) → 0 < place → signature_at place ≡ []
unsigned place some =
    cond_both (eqb place 0) (signature ∷ []) [] (λ (ks : List ChunkValue). ks ≡ [])
    (λ e. absurd (omega (arith, some, eqb-true place 0 e)))
    (λ e. refl)

-- so there they are the chunks of records
pub behind-chunks : (place : ℕ) (records : List (List ℕ)) (size : ℕ) (every : Option ℕ) (pad : Pad) → 0 < place
    → chunks_laid place records size every pad true ≡ record_chunks place records size every pad
behind-chunks place records size every pad some =
    ap
    (λ (signed : List ChunkValue).
    let front : List ChunkValue = (signed ++ front_padding (end_of_chunks place signed) pad) ++ map simple_chunk (groups records size every) in
    front ++ padding_if (pads_end pad) (end_of_chunks place front))
    (unsigned place some)

-- no chunk is laid at a file's front behind another
past-front : (place : ℕ) (ks : List ChunkValue) → 0 < end_of_chunks place (signature_at place ++ ks)
past-front place ks =
    cond_both (eqb place 0) (signature ∷ []) [] (λ (signed : List ChunkValue). 0 < end_of_chunks place (signed ++ ks))
    (λ e.
    omega (
      arith,
      ap (λ (p : ℕ). end_of_chunk p signature) (eqb-true place 0 e),
      end_of_chunk-signature,
      end_of_chunks_past (end_of_chunk place signature) ks,
    ))
    (λ e. omega (arith, eqb-false place 0 e, end_of_chunks_past place ks))

-- padding is wanted behind as before, and none at the start
no_start : (pad : Pad) → pads_start (pad_behind pad) ≡ false
no_start No = refl
no_start Start = refl
no_start End = refl
no_start Both = refl

same_end : (pad : Pad) → pads_end (pad_behind pad) ≡ pads_end pad
same_end No = refl
same_end Start = refl
same_end End = refl
same_end Both = refl

module _ (place : ℕ) (records more : List (List ℕ)) (size : ℕ) (every : Option ℕ) (pad : Pad) (last : Bool) where
  -- the records that are left, and more behind them
  abbrev rest : List (List ℕ)
  rest = drop (length (records_laid records size every false)) records ++ more

  -- what is laid first: all that is laid of the records alone
  abbrev first : List ChunkValue
  first = first_laid place pad ++ map simple_chunk (groups_laid false (groups records size every))

  -- the chunks of the groups behind these
  abbrev then : List ChunkValue
  then = map simple_chunk (groups_laid last (groups rest size every))

  -- the padding behind chunks
  abbrev ended : ℕ → List ChunkValue → List ChunkValue
  ended at ks = ks ++ padding_if (last && pads_end pad) (end_of_chunks at ks)

  first-is : chunks_laid place records size every pad false ≡ first
  first-is = append-nil first

  all-are : chunks_laid place (records ++ more) size every pad last ≡ ended place (first ++ then)
  all-are =
      ap (ended place)
      (ap (λ (gs : List (List (List ℕ))). first_laid place pad ++ map simple_chunk gs) (groups-more records more size every last)
      ∙ ap (λ (ks : List ChunkValue). first_laid place pad ++ ks)
      (map-append simple_chunk (groups_laid false (groups records size every)) (groups_laid last (groups rest size every)))
      ∙ sym (append_assoc (first_laid place pad) (map simple_chunk (groups_laid false (groups records size every))) then))

  -- further on nothing stands before the chunks of groups
  bare : (at : ℕ) → 0 < at → first_laid at (pad_behind pad) ≡ []
  bare at some =
      ap (λ (signed : List ChunkValue). signed ++ front_padding (end_of_chunks at signed) (pad_behind pad)) (unsigned at some)
      ∙ ap (λ (wanted : Bool). padding_if wanted at) (no_start pad)

  next-are : (at : ℕ) → 0 < at → chunks_laid at rest size every (pad_behind pad) last ≡ ended at then
  next-are at some =
      ap
      (λ (before : List ChunkValue). (before ++ then) ++ padding_if (last && pads_end (pad_behind pad)) (end_of_chunks at (before ++ then)))
      (bare at some)
      ∙ ap (λ (wanted : Bool). then ++ padding_if (last && wanted) (end_of_chunks at then)) (same_end pad)

  first-past : 0 < end_of_chunks place first
  first-past =
      omega (
        arith,
        past-front place (front_padding (end_of_chunks place (signature_at place)) pad ++ map simple_chunk (groups_laid false (groups records size every))),
        ap (end_of_chunks place)
            (append_assoc (signature_at place) (front_padding (end_of_chunks place (signature_at place)) pad) (map simple_chunk (groups_laid false (groups records size every)))),
      )

  -- so chunks that are laid by two calls are those that one lays
  pub pieces : chunks_laid place (records ++ more) size every pad last
      ≡ chunks_laid place records size every pad false
      ++ chunks_laid (end_of_chunks place (chunks_laid place records size every pad false)) rest size every (pad_behind pad) last
  pieces =
      all-are
      ∙ append_assoc first then (padding_if (last && pads_end pad) (end_of_chunks place (first ++ then)))
      ∙ ap (λ (at : ℕ). first ++ (then ++ padding_if (last && pads_end pad) at)) (end_of_chunks-append place first then)
      ∙ ap (λ (ks : List ChunkValue). first ++ ks) (sym (next-are (end_of_chunks place first) first-past))
      ∙ ap (λ (ks : List ChunkValue). ks ++ chunks_laid (end_of_chunks place ks) rest size every (pad_behind pad) last) (sym first-is)

  pub bytes-pieces : laid_each place (chunks_laid place (records ++ more) size every pad last)
      ≡ laid_each place (chunks_laid place records size every pad false)
      ++ laid_each (end_of_chunks place (chunks_laid place records size every pad false))
      (chunks_laid (end_of_chunks place (chunks_laid place records size every pad false)) rest size every (pad_behind pad) last)
  bytes-pieces =
      ap (laid_each place) pieces
      ∙ laid_each-append place (chunks_laid place records size every pad false)
      (chunks_laid (end_of_chunks place (chunks_laid place records size every pad false)) rest size every (pad_behind pad) last)

-- at a file's front the signature's bytes come first, and end at 64
pub signed-front : (place : ℕ) → place ≡ 0 → (signature_bytes ≡ laid_each place (signature_at place)) × (64 ≡ end_of_chunks place (signature_at place))
signed-front place front =
    subst (λ (p : ℕ). (signature_bytes ≡ laid_each p (signature_at p)) × (64 ≡ end_of_chunks p (signature_at p))) (sym front)
    (sym (laid-one 0 signature), sym end_of_chunk-signature)

pub signed-near : (place : ℕ) → end_of_chunks place (signature_at place) ≤ place + 64
signed-near place =
    cond_both (eqb place 0) (signature ∷ []) [] (λ (ks : List ChunkValue). end_of_chunks place ks ≤ place + 64)
    (λ e. omega (arith, ap (λ (p : ℕ). end_of_chunk p signature) (eqb-true place 0 e), end_of_chunk-signature))
    (λ e. omega arith)

-- with the padding that may be wanted behind it, less than three blocks
pub padded-near : (wanted : Bool) (place : ℕ) → IsBoundary place → end_of_chunks place (padding_if wanted place) ≤ place + 131072
padded-near true place boundary = omega (arith, padding_at_near place boundary)
padded-near false place boundary = omega arith

pub first-near : (place : ℕ) (wanted : Bool) → IsBoundary place
    → end_of_chunks place (signature_at place ++ padding_if wanted (end_of_chunks place (signature_at place))) ≤ place + 131136
first-near place wanted boundary =
    let signed : ℕ = end_of_chunks place (signature_at place) in
    omega (
      arith,
      signed-near place,
      end_of_chunks-append place (signature_at place) (padding_if wanted signed),
      padded-near wanted signed (end_of_chunks_boundary place (signature_at place) boundary),
    )
