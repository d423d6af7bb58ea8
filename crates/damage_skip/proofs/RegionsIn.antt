-- The regions among pieces, and their lines.
use Rattle.std.proofs.Common.{◌≡◌, ◌≢◌, ◌∙◌, ℕ, ◌≤◌, Bool, Option, Some, None, List, [], ◌∷◌, ◌++◌, length, refl, sym, ap, arith}
use Rattle.std.specs.List.{AllByRecursion, cons_option}
use Rattle.std.proofs.lemmas.Grind.{flat_map-append}
use Rattle.std.proofs.lemmas.List.{append-nil}
use Rattle.std.proofs.lemmas.List.Elements.{filter_map-append}
use lib.Chars.{codes}
use Rattle.chunk_header.specs.Views.{value_of_chunk}
use Rattle.chunk_header.specs.declared.Chunk.{Chunk}
use Rattle.meta_chunk.specs.Laid.{end_of_chunk}
use Rattle.chunk_reader.specs.declared.reasons.Why.{Why}
use Rattle.damage_skip.specs.Pieces.{PieceKind, Records, Kept, SignatureOrPadding, Skipped, Piece}
use Rattle.damage_skip.specs.Regions.{region_text, region_as, region_of, regions_in, told_text, skipped_text}
use Rattle.damage_skip.specs.Walks.{piece_of, event_text}
use Rattle.damage_skip.specs.declared.events.Event.{Event}
use Rattle.damage_skip.specs.declared.events.Event.TheVariants as event
use Rattle.damage_skip.specs.declared.regions.Region.{Region}
use Rattle.damage_skip.proofs.KeptChunks.{kept_region}

-- what holds of each of two lists holds of each of both
pub each_append : {X : Type 0} (P : X → Type 0) (xs ys : List X) → AllByRecursion P xs → AllByRecursion P ys → AllByRecursion P (xs ++ ys)
each_append P [] ys h g = g
each_append P (x ∷ xs) ys h g = (h.0, each_append P xs ys h.1 g)

-- and what follows of each
pub each_so : {X : Type 0} (P Q : X → Type 0) → ((x : X) → P x → Q x) → (xs : List X) → AllByRecursion P xs → AllByRecursion Q xs
each_so P Q so [] h = tt
each_so P Q so (x ∷ xs) h = (so x h.0, each_so P Q so xs h.1)

-- the regions of pieces behind others
pub regions_in-append : (ps qs : List Piece) → regions_in (ps ++ qs) ≡ regions_in ps ++ regions_in qs
regions_in-append ps qs = filter_map-append region_of ps qs

-- and their lines
pub skipped_text-append : (rs ss : List Region) → skipped_text (rs ++ ss) ≡ skipped_text rs ++ skipped_text ss
skipped_text-append rs ss = flat_map-append (region_text (codes "skipped")) rs ss

pub skipped_text-pieces : (ps qs : List Piece) → skipped_text (regions_in (ps ++ qs)) ≡ skipped_text (regions_in ps) ++ skipped_text (regions_in qs)
skipped_text-pieces ps qs = ap skipped_text (regions_in-append ps qs) ∙ skipped_text-append (regions_in ps) (regions_in qs)

pub told_first : (region : Option Region) (regions : List Region) → skipped_text (cons_option region regions) ≡ told_text region ++ skipped_text regions
told_first None regions = refl
told_first (Some region) regions = refl

-- a chunk that is kept is none
pub kept_no_region : (begin : ℕ) (chunk : Chunk) (unread : Bool) → regions_in (piece_of (event.Kept begin chunk unread) ∷ []) ≡ []
kept_no_region begin chunk unread =
    ap (λ (r : Option Region). cons_option r []) (kept_region begin (end_of_chunk begin (value_of_chunk chunk)) (value_of_chunk chunk))

-- the line of an event is that of the region that it is
pub event_text-regions : (e : Event) → event_text e ≡ skipped_text (regions_in (piece_of e ∷ []))
event_text-regions (event.Records begin records chunk) = refl
event_text-regions (event.Kept begin chunk unread) = ap skipped_text (sym (kept_no_region begin chunk unread))
event_text-regions (event.Skipped region) = sym (append-nil (region_text (codes "skipped") region))

pub skipped_text-event : (rs : List Region) (e : Event) → skipped_text (rs ++ regions_in (piece_of e ∷ [])) ≡ skipped_text rs ++ event_text e
skipped_text-event rs e =
    skipped_text-append rs (regions_in (piece_of e ∷ []))
    ∙ ap (λ (t : List ℕ). skipped_text rs ++ t) (sym (event_text-regions e))

-- which is one at most
pub one_region : (e : Event) → length (regions_in (piece_of e ∷ [])) ≤ 1
one_region (event.Records begin records chunk) = omega arith
one_region (event.Kept begin chunk unread) = omega (arith, ap {B = ℕ} length (kept_no_region begin chunk unread))
one_region (event.Skipped region) = omega arith

-- a piece that is not skipped is no region
pub no_region : (begin end : ℕ) (what : PieceKind) → ((why : Why) → what ≢ Skipped why) → region_as begin end what ≡ None
no_region begin end (Records records chunk) other = refl
no_region begin end (Kept chunk) other = refl
no_region begin end SignatureOrPadding other = refl
no_region begin end (Skipped why) other = absurd (other why refl)
