-- What a search finds whose test compares bytes with those of a key.
use Rattle.std.proofs.Common.{◌≡◌, ◌∙◌, ◌↔◌, ◌⊎◌, ℕ, Bool, true, Bor, Option, Some, None, Result, Ok, Err, IfOk, IfSome, List, length, refl, sym, ap, inl, inr}
use Rattle.std.specs.Prelude.{slice_get}
use Rattle.std.specs.Fn.{Shared}
use Rattle.chunk_header.specs.Chunks.{ChunkValue}
use Rattle.meta_chunk.specs.Files.{IsReadable, ArePlaced}
use Rattle.chunk_reader.specs.declared.reasons.Fault.{Fault}
use Rattle.chunk_reader.specs.declared.reasons.ReadEnd.{ReadEnd}
use Rattle.record_seek.specs.Found.{IsKeyFound, BytesStandBefore, OnlyFrontStandsBefore}
use Rattle.record_seek.specs.KeyTests.{StandsBefore}
use Rattle.record_seek.specs.Met.{IsMetFault, IsMetRecord, LeadsWithoutRecords, LeadsPastAll}
use Rattle.record_seek.specs.Steps.{placed_of}
use Rattle.record_seek.specs.declared.chunk_records.Found.{Found}
use Rattle.seek_command.specs.Searches.{is_below, IsBelow, MayFind, IsKeyFault}

-- a function answers of each list of bytes whether it is less than a key, and nothing else
abbrev pub Compares : {F : Type 0} → Shared F (Bor (List ℕ) × Unit {0}) Bool → F → (key : List ℕ) → Type 0
Compares g f key = (p : Bor (List ℕ)) (answer : Bool) → g.post f (p, tt) answer ↔ (answer ≡ is_below key p.now)

-- what a search by key finds that asks a function
abbrev IsFoundBy : {F : Type 0} → Shared F (Bor (List ℕ) × Unit {0}) Bool → F → Option Found → List ℕ → Type 0
IsFoundBy g f found file =
    (ks : List ChunkValue) (placed : List (ℕ × List ℕ)) → IsReadable ks file → ArePlaced ks placed
    → IsKeyFound (BytesStandBefore (StandsBefore g f)) placed (placed_of found)

abbrev IsFirstBy : {F : Type 0} → Shared F (Bor (List ℕ) × Unit {0}) Bool → F → Option Found → List ℕ → Type 0
IsFirstBy g f found file =
    (ks : List ChunkValue) (placed : List (ℕ × List ℕ)) (count : ℕ) → IsReadable ks file → ArePlaced ks placed
    → OnlyFrontStandsBefore (BytesStandBefore (StandsBefore g f)) placed count → placed_of found ≡ slice_get placed count

module _ {F : Type 0} (g : Shared F (Bor (List ℕ) × Unit {0}) Bool) (f : F) (key : List ℕ) (compares : Compares g f key) where
  -- bytes of which it can answer yes are less, and the other way round
  below : (bytes : List ℕ) → StandsBefore g f bytes → IsBelow key bytes
  below bytes stands = ap (is_below key) (sym stands.shows) ∙ sym ((compares stands.shown true).0 stands.says.met)

  stands : (bytes : List ℕ) → IsBelow key bytes → StandsBefore g f bytes
  stands bytes is =
      let shown : Bor (List ℕ) = record { ref_ptr = (0, 0); now = bytes } in
      record { shown = shown; shows = refl; says = record { met = (compares shown true).1 (sym is) } }

  found_below : (placed : List (ℕ × List ℕ)) (found : Option (ℕ × List ℕ)) → IsKeyFound (BytesStandBefore (StandsBefore g f)) placed found
      → IsKeyFound (BytesStandBefore (IsBelow key)) placed found
  found_below placed None (inl none) = inl none
  found_below placed None (inr (last, there, before)) = inr (last, there, below last.1 before)
  found_below placed (Some found) (apart, (i, there, inl first)) = (λ is. apart (stands found.1 is), (i, there, inl first))
  found_below placed (Some found) (apart, (i, there, inr (last, at, before))) =
      (λ is. apart (stands found.1 is), (i, there, inr (last, at, below last.1 before)))

  front_stands : (placed : List (ℕ × List ℕ)) (count : ℕ) → OnlyFrontStandsBefore (BytesStandBefore (IsBelow key)) placed count
      → OnlyFrontStandsBefore (BytesStandBefore (StandsBefore g f)) placed count
  front_stands placed count front = record {
    front = λ i r there less. stands r.1 (front.front i r there less);
    others = λ i r there past before. front.others i r there past (below r.1 before);
  }

  past_below : (file : List ℕ) (to : ℕ) → LeadsPastAll file to (StandsBefore g f) → LeadsPastAll file to (IsBelow key)
  past_below file to past = record {
    begin = past.begin;
    front = past.front;
    place = past.place;
    rest = past.rest;
    records = past.records;
    last = past.last;
    from = past.from;
    between = past.between;
    none_behind = past.none_behind;
    holds = past.holds;
    last_there = past.last_there;
    before = below past.last past.before;
  }

  led_below : (file : List ℕ) (to : ℕ) → LeadsWithoutRecords file to ⊎ LeadsPastAll file to (StandsBefore g f)
      → LeadsWithoutRecords file to ⊎ LeadsPastAll file to (IsBelow key)
  led_below file to (inl none) = inl none
  led_below file to (inr past) = inr (past_below file to past)

  met_below : (file : List ℕ) (found : ℕ × List ℕ) → IsMetRecord file (StandsBefore g f) found → IsMetRecord file (IsBelow key) found
  met_below file found is = record {
    place = is.place;
    records = is.records;
    number = is.number;
    met = is.met;
    holds = is.holds;
    stands = is.stands;
    position = is.position;
    before = λ i bytes less there. below bytes (is.before i bytes less there);
    behind = elim is.behind [
      | inl later ↦ inl later
      | inr led ↦ inr (led_below file is.place led)
    ];
  }

-- so is what it finds
pub finds : {F : Type 0} (g : Shared F (Bor (List ℕ) × Unit {0}) Bool) (f : F) (key : List ℕ) (result : Result (Option Found) ReadEnd) (bytes : Option (List ℕ))
    → IfOk result (λ found. IfSome bytes (IsFoundBy g f found)) → IfOk result (λ found. IfSome bytes (IsFirstBy g f found))
    → IfOk result (λ found. IfSome found (λ x. ¬ StandsBefore g f x.bytes))
    → ((found : Found) → result ≡ Ok (Some found) → IfSome bytes (λ file. IsMetRecord file (StandsBefore g f) (found.position, found.bytes)))
    → (result ≡ Ok None → IfSome bytes (λ file. LeadsWithoutRecords file (length file) ⊎ LeadsPastAll file (length file) (StandsBefore g f)))
    → Compares g f key → IfOk result (λ found. IfSome bytes (λ file. MayFind key file (placed_of found)))
finds g f key (Err end) bytes found first apart met none compares = tt
finds g f key (Ok found) None is first apart met none compares = tt
finds g f key (Ok None) (Some file) found first apart met none compares = record {
  among = λ ks placed whole are. found_below g f key compares placed None (found ks placed whole are);
  in_order = λ ks placed count whole are front. first ks placed count whole are (front_stands g f key compares placed count front);
  apart = tt;
  met = tt;
  none = λ is. led_below g f key compares file (length file) (none refl);
}
finds g f key (Ok (Some x)) (Some file) found first apart met none compares = record {
  among = λ ks placed whole are. found_below g f key compares placed (Some (x.position, x.bytes)) (found ks placed whole are);
  in_order = λ ks placed count whole are front. first ks placed count whole are (front_stands g f key compares placed count front);
  apart = λ is. apart (stands g f key compares x.bytes is);
  met = met_below g f key compares file (x.position, x.bytes) (met x refl);
  none = λ is. absurd (cc is);
}

-- and with what fault it is refused
pub refuses : (bytes : Option (List ℕ)) (fault : Fault) → IfSome bytes (λ file. IsMetFault file fault)
    → IfSome bytes (λ file. (ks : List ChunkValue) → ¬ IsReadable ks file) → IfSome bytes (λ file. IsKeyFault file fault)
refuses None fault met not_whole = tt
refuses (Some file) fault met not_whole = record { met = met; not_whole = not_whole }
