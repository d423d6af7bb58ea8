-- What a repair puts of events, behind others and to each stream.
use Rattle.std.proofs.Common.{◌≡◌, ◌∙◌, ℕ, List, [], ◌∷◌, ◌++◌, refl, sym, ap, append_assoc}
use Rattle.record_io.specs.Puts.{Made, Out, Notes, Put, puts_to, bytes_to}
use Rattle.record_io.proofs.Puts.{bytes_to-append, bytes_to-own, bytes_to-other}
use Rattle.meta_chunk.specs.Files.{signature, end_of_chunks, laid_each}
use Rattle.meta_chunk.proofs.Joins.{end_of_chunks-append, laid_each-append}
use Rattle.damage_skip.specs.Pieces.{Piece}
use Rattle.damage_skip.specs.Regions.{region_of, regions_in, told_text, skipped_text}
use Rattle.damage_skip.proofs.RegionsIn.{told_first}
use Rattle.repair_copy.specs.RepairPuts.{chunk_in, chunks_in, puts_from, repair_puts}
use Rattle.repair_copy.specs.RelaidFiles.{relaid}

-- where the chunks of pieces end
end_of-more : (place : ℕ) (p : Piece) (ps : List Piece)
    → end_of_chunks (end_of_chunks place (chunk_in p.what)) (chunks_in ps) ≡ end_of_chunks place (chunks_in (p ∷ ps))
end_of-more place p ps = sym (end_of_chunks-append place (chunk_in p.what) (chunks_in ps))

-- what is put of pieces behind others
pub puts_from-append : (place : ℕ) (ps qs : List Piece)
    → puts_from place (ps ++ qs) ≡ puts_from place ps ++ puts_from (end_of_chunks place (chunks_in ps)) qs
unfolding puts_from
puts_from-append place [] qs = refl
puts_from-append place (p ∷ ps) qs =
    let chunk : List Put = puts_to Made (laid_each place (chunk_in p.what)) in
    let line : List Put = puts_to Notes (told_text (region_of p)) in
    let behind : ℕ = end_of_chunks place (chunk_in p.what) in
    ap (λ (xs : List Put). chunk ++ (line ++ xs)) (puts_from-append behind ps qs)
    ∙ ap (λ (n : ℕ). chunk ++ (line ++ (puts_from behind ps ++ puts_from n qs))) (end_of-more place p ps)
    ∙ ap (λ (xs : List Put). chunk ++ xs) (sym (append_assoc line (puts_from behind ps) (puts_from (end_of_chunks place (chunks_in (p ∷ ps))) qs)))
    ∙ sym (append_assoc chunk (line ++ puts_from behind ps) (puts_from (end_of_chunks place (chunks_in (p ∷ ps))) qs))

pub repair_puts-append : (ps qs : List Piece)
    → repair_puts (ps ++ qs) ≡ repair_puts ps ++ puts_from (end_of_chunks 0 (signature ∷ chunks_in ps)) qs
repair_puts-append ps qs =
    let first : List Put = puts_to Made (laid_each 0 (signature ∷ [])) in
    let place : ℕ = end_of_chunks 0 (signature ∷ []) in
    ap (λ (xs : List Put). first ++ xs) (puts_from-append place ps qs)
    ∙ sym (append_assoc first (puts_from place ps) (puts_from (end_of_chunks place (chunks_in ps)) qs))

-- of what is put of pieces, the bytes of the made file are their chunks
made_from : (place : ℕ) (ps : List Piece) → bytes_to Made (puts_from place ps) ≡ laid_each place (chunks_in ps)
unfolding puts_from laid_each
made_from place [] = refl
made_from place (p ∷ ps) =
    let chunk : List ℕ = laid_each place (chunk_in p.what) in
    let line : List ℕ = told_text (region_of p) in
    let behind : ℕ = end_of_chunks place (chunk_in p.what) in
    bytes_to-append Made (puts_to Made chunk) (puts_to Notes line ++ puts_from behind ps)
    ∙ ap (λ (xs : List ℕ). xs ++ bytes_to Made (puts_to Notes line ++ puts_from behind ps)) (bytes_to-own Made chunk)
    ∙ ap (λ (xs : List ℕ). chunk ++ xs) (bytes_to-append Made (puts_to Notes line) (puts_from behind ps))
    ∙ ap (λ (xs : List ℕ). chunk ++ (xs ++ bytes_to Made (puts_from behind ps))) (bytes_to-other Made Notes line refl)
    ∙ ap (λ (xs : List ℕ). chunk ++ xs) (made_from behind ps)
    ∙ sym (laid_each-append place (chunk_in p.what) (chunks_in ps))

pub made_in-repair : (ps : List Piece) → bytes_to Made (repair_puts ps) ≡ relaid ps
made_in-repair ps =
    let first : List ℕ = laid_each 0 (signature ∷ []) in
    let place : ℕ = end_of_chunks 0 (signature ∷ []) in
    bytes_to-append Made (puts_to Made first) (puts_from place ps)
    ∙ ap (λ (xs : List ℕ). xs ++ bytes_to Made (puts_from place ps)) (bytes_to-own Made first)
    ∙ ap (λ (xs : List ℕ). first ++ xs) (made_from place ps)
    ∙ sym (laid_each-append 0 (signature ∷ []) (chunks_in ps))

-- and those of notes their lines
notes_from : (place : ℕ) (ps : List Piece) → bytes_to Notes (puts_from place ps) ≡ skipped_text (regions_in ps)
unfolding puts_from
notes_from place [] = refl
notes_from place (p ∷ ps) =
    let chunk : List ℕ = laid_each place (chunk_in p.what) in
    let line : List ℕ = told_text (region_of p) in
    let behind : ℕ = end_of_chunks place (chunk_in p.what) in
    bytes_to-append Notes (puts_to Made chunk) (puts_to Notes line ++ puts_from behind ps)
    ∙ ap (λ (xs : List ℕ). xs ++ bytes_to Notes (puts_to Notes line ++ puts_from behind ps)) (bytes_to-other Notes Made chunk refl)
    ∙ bytes_to-append Notes (puts_to Notes line) (puts_from behind ps)
    ∙ ap (λ (xs : List ℕ). xs ++ bytes_to Notes (puts_from behind ps)) (bytes_to-own Notes line)
    ∙ ap (λ (xs : List ℕ). line ++ xs) (notes_from behind ps)
    ∙ sym (told_first (region_of p) (regions_in ps))

pub notes_in-repair : (ps : List Piece) → bytes_to Notes (repair_puts ps) ≡ skipped_text (regions_in ps)
notes_in-repair ps =
    let first : List ℕ = laid_each 0 (signature ∷ []) in
    let place : ℕ = end_of_chunks 0 (signature ∷ []) in
    bytes_to-append Notes (puts_to Made first) (puts_from place ps)
    ∙ ap (λ (xs : List ℕ). xs ++ bytes_to Notes (puts_from place ps)) (bytes_to-other Notes Made first refl)
    ∙ notes_from place ps

-- none go to standard output
out_from : (place : ℕ) (ps : List Piece) → bytes_to Out (puts_from place ps) ≡ []
unfolding puts_from
out_from place [] = refl
out_from place (p ∷ ps) =
    let chunk : List ℕ = laid_each place (chunk_in p.what) in
    let line : List ℕ = told_text (region_of p) in
    let behind : ℕ = end_of_chunks place (chunk_in p.what) in
    bytes_to-append Out (puts_to Made chunk) (puts_to Notes line ++ puts_from behind ps)
    ∙ ap (λ (xs : List ℕ). xs ++ bytes_to Out (puts_to Notes line ++ puts_from behind ps)) (bytes_to-other Out Made chunk refl)
    ∙ bytes_to-append Out (puts_to Notes line) (puts_from behind ps)
    ∙ ap (λ (xs : List ℕ). xs ++ bytes_to Out (puts_from behind ps)) (bytes_to-other Out Notes line refl)
    ∙ out_from behind ps

pub out_in-repair : (ps : List Piece) → bytes_to Out (repair_puts ps) ≡ []
out_in-repair ps =
    let first : List ℕ = laid_each 0 (signature ∷ []) in
    let place : ℕ = end_of_chunks 0 (signature ∷ []) in
    bytes_to-append Out (puts_to Made first) (puts_from place ps)
    ∙ ap (λ (xs : List ℕ). xs ++ bytes_to Out (puts_from place ps)) (bytes_to-other Out Made first refl)
    ∙ out_from place ps
