-- What a repair doesn't put where a sink fails.
use Rattle.std.proofs.Common.{◌≡◌, ◌∙◌, ℕ, ◌<◌, true, Option, Some, IfSome, List, ◌∷◌, ◌++◌, length, refl, sym, ap, subst, arith}
use Rattle.std.proofs.lemmas.List.{length-append}
use Rattle.record_io.specs.Puts.{Stream, Made, Out, Notes, Put, bytes_to, BreaksOff}
use Rattle.record_io.proofs.Puts.{bytes_to-append}
use Rattle.meta_chunk.specs.Files.{signature, end_of_chunks}
use Rattle.damage_skip.specs.Bounds.{MaySkip, walked}
use Rattle.damage_skip.specs.Pieces.{Piece}
use Rattle.damage_skip.specs.Regions.{IsWalkedTo}
use Rattle.damage_skip.proofs.BoundedWalks.{walked-behind}
use Rattle.damage_skip.proofs.WalkedTo.{rest_of}
use Rattle.repair_copy.specs.RelaidFiles.{relaid}
use Rattle.repair_copy.specs.RepairPuts.{chunks_in, puts_from, repair_puts}
use Rattle.repair_copy.proofs.RepairPuts.{repair_puts-append, made_in-repair, notes_in-repair}
use Rattle.riegeli_c.specs.Repairing.{TakesLess}
use Rattle.riegeli_c.specs.Repairs.{told_lines}

-- a byte that goes to a stream is one of its bytes
own_byte : (stream : Stream) (byte : ℕ) (rest : List Put) → bytes_to stream (record { to = stream; byte = byte } ∷ rest) ≡ byte ∷ bytes_to stream rest
own_byte Made byte rest = refl
own_byte Out byte rest = refl
own_byte Notes byte rest = refl

-- what breaks off before one is shorter than all
longer : (stream : Stream) (part : List Put) (byte : ℕ) (rest more : List Put)
    → length (bytes_to stream part) < length (bytes_to stream ((part ++ (record { to = stream; byte = byte } ∷ rest)) ++ more))
longer stream part byte rest more =
    let own : List Put = record { to = stream; byte = byte } ∷ rest in
    omega (
      arith,
      ap (λ (xs : List ℕ). length xs) (bytes_to-append stream (part ++ own) more),
      length-append (bytes_to stream (part ++ own)) (bytes_to stream more),
      ap (λ (xs : List ℕ). length xs) (bytes_to-append stream part own),
      length-append (bytes_to stream part) (bytes_to stream own),
      ap (λ (xs : List ℕ). length xs) (own_byte stream byte rest),
    )

short_of : (stream : Stream) (part : List Put) (es fs : List Piece) → BreaksOff stream part (repair_puts es)
    → length (bytes_to stream part) < length (bytes_to stream (repair_puts (es ++ fs)))
short_of stream part es fs off =
    let more : List Put = puts_from (end_of_chunks 0 (signature ∷ chunks_in es)) fs in
    let whole : repair_puts (es ++ fs) ≡ (part ++ (record { to = stream; byte = off.byte } ∷ off.rest)) ++ more =
    repair_puts-append es fs ∙ ap (λ (ps : List Put). ps ++ more) off.parts in
    subst (λ (ps : List Put). length (bytes_to stream part) < length (bytes_to stream ps)) (sym whole) (longer stream part off.byte off.rest more)

-- so less of what is walked was taken than all
pub less_taken : (stream : Stream) (bytes_of : List Piece → List ℕ) → ((es : List Piece) → bytes_to stream (repair_puts es) ≡ bytes_of es)
    → (file : List ℕ) (most place : ℕ) (events : List Piece) (part : List Put) (taken : Option (List ℕ))
    → IsWalkedTo true (MaySkip (Some most)) file place events → BreaksOff stream part (repair_puts events)
    → taken ≡ Some (bytes_to stream part) → TakesLess bytes_of file most taken
less_taken stream bytes_of are file most place events part taken walk off same =
    let rest = rest_of true (MaySkip (Some most)) file place events walk in
    let behind : List Piece = walked (Some most) rest.0 in
    let all : walked (Some most) (events ++ rest.0) ≡ events ++ behind = walked-behind (Some most) events rest.0 walk.each in
    let less : length (bytes_to stream part) < length (bytes_of (events ++ behind)) =
    subst (λ (xs : List ℕ). length (bytes_to stream part) < length xs) (are (events ++ behind)) (short_of stream part events behind off) in
    record {
      events = events ++ rest.0;
      are = rest.1;
      less = subst (λ (o : Option (List ℕ)). IfSome o (λ bytes. length bytes < length (bytes_of (walked (Some most) (events ++ rest.0))))) (sym same)
          (subst (λ (es : List Piece). length (bytes_to stream part) < length (bytes_of es)) (sym all) less);
    }

pub made_less : (file : List ℕ) (most place : ℕ) (events : List Piece) (part : List Put) (taken : Option (List ℕ))
    → IsWalkedTo true (MaySkip (Some most)) file place events → BreaksOff Made part (repair_puts events)
    → taken ≡ Some (bytes_to Made part) → TakesLess relaid file most taken
made_less = less_taken Made relaid made_in-repair

pub lines_less : (file : List ℕ) (most place : ℕ) (events : List Piece) (part : List Put) (taken : Option (List ℕ))
    → IsWalkedTo true (MaySkip (Some most)) file place events → BreaksOff Notes part (repair_puts events)
    → taken ≡ Some (bytes_to Notes part) → TakesLess told_lines file most taken
lines_less = less_taken Notes told_lines notes_in-repair
