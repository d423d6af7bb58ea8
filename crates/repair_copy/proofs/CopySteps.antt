-- The steps of copying a file, whatever the file shows.
use Rattle.std.proofs.Common.{◌≡◌, ◌≢◌, ◌∙◌, ℕ, ◌+◌, ◌*◌, ◌^◌, ◌≤◌, true, false, Option, None, Result, Ok, Err, List, [], ◌∷◌, ◌++◌, length, take, drop, refl, sym, ap, subst, inl, inr, arith, append_assoc, length-append}
use Rattle.std.proofs.lemmas.Bool.{cases_Bool, cond-true, cond-false}
use Rattle.std.specs.List.{cons_option}
use Rattle.std.proofs.lemmas.List.{append-nil, take-append-drop}
use Rattle.record_io.specs.Outside.{Rose, Takes, TakesShort}
use Rattle.record_io.specs.declared.outside.Failed.{Failed}
use Rattle.std.specs.Result.{OnOk, OnErr, IsErr, IsErrAnd}
use Rattle.record_group.proofs.Signed.{end_of_chunk-signature}
use Rattle.record_io.specs.Buffers.{TakesAndHolds, GoOutOrAreHeld}
use Rattle.record_io.specs.Puts.{Made, Notes, Put, Taken, taken_by, puts_to, GoOut, BreaksOff}
use Rattle.record_io.proofs.Calls.{TakesShort-some}
use Rattle.record_io.proofs.Puts.{puts_to-append, GoOut-append, GoOut-made, GoOut-notes, BreaksOff-last, BreaksOff-longer}
use Rattle.chunk_header.specs.Chunks.{ChunkValue}
use Rattle.chunk_header.specs.Views.{value_of_chunk}
use Rattle.meta_chunk.specs.Files.{signature, end_of_chunks, laid_each}
use Rattle.chunk_reader.proofs.Verdicts.{is_unread-plain}
use Rattle.record_writer.specs.MadeFiles.{MadeFileValue, Lays, LaysFront, nothing_made, totals_made}
use Rattle.record_writer.proofs.Layings.{Lays-append}
use Rattle.record_writer.proofs.Counted.{totals_made-laid}
use Rattle.damage_skip.specs.Pieces.{Piece}
use Rattle.damage_skip.specs.Regions.{region_of, regions_in, told_text}
use Rattle.damage_skip.specs.Walks.{piece_of, IsEventIn}
use Rattle.damage_skip.specs.declared.events.Event.{Event}
use Rattle.damage_skip.specs.declared.events.Event.TheVariants as event
use Rattle.damage_skip.specs.declared.progress.Progress.{Progress}
use Rattle.damage_skip.specs.declared.regions.Region.{Region}
use Rattle.repair_copy.specs.RepairPuts.{chunk_in, chunks_in, puts_from, repair_puts}
use Rattle.repair_copy.specs.Copies.{WentOutAtFault, FitsAt, BreaksOffBy, next_chunk_place, puts_behind, Begins, Copies, CopiesFront, CopiesTo, IsPast, HasBegun, HasCopied, HasPutAll, HasCopiedFront, HasCopiedTo, HasPutTo, HasPutAtFault}
use Rattle.repair_copy.specs.declared.copying.Copied.{Copied}
use Rattle.repair_copy.specs.declared.repairs.RepairEnd.{RepairEnd}
use Rattle.repair_copy.specs.declared.repairs.RepairEnd.TheVariants as end
use Rattle.damage_skip.proofs.RegionsIn.{regions_in-append}
use Rattle.repair_copy.proofs.EventChunks.{chunks_in-append, kept_chunk}
use Rattle.repair_copy.proofs.Growth.{place_moved}
use Rattle.repair_copy.proofs.HeldPuts.{held_more, held_broken_by, breaks_off-front, held_made, held_flushed}
use Rattle.repair_copy.proofs.RepairPuts.{repair_puts-append}

-- what is held went out: no chunk is laid then
Lays-flushed : (a b : Option (List ℕ)) (s t : MadeFileValue) → s.spent ≡ false → Takes a b s.held → t ≡ record s { held = [] } → Lays a b s t []
unfolding laid_each
Lays-flushed a b s t going taken is = record {
  bytes = record { passed = s.held; parts = ap (λ (xs : List ℕ). s.held ++ xs) (sym (ap (λ (p : MadeFileValue). p.held) is)); taken = taken };
  place = ap (λ (p : MadeFileValue). p.place) is;
  going = ap (λ (p : MadeFileValue). p.spent) is ∙ going;
  chunks = omega (arith, ap (λ (p : MadeFileValue). p.chunks) is);
  records = omega (arith, ap (λ (p : MadeFileValue). p.records) is);
  unread = omega (arith, ap (λ (p : MadeFileValue). p.unread) is);
}

-- what is put of a piece without a line, or without a chunk
puts_of-chunk : (s : MadeFileValue) (p : Piece) → region_of p ≡ None
    → puts_behind s p ≡ puts_to Made (s.held ++ laid_each s.place (chunk_in p.what))
unfolding puts_from
puts_of-chunk s p none =
    ap (λ (r : Option Region). puts_to Made s.held ++ (puts_to Made (laid_each s.place (chunk_in p.what)) ++ (puts_to Notes (told_text r) ++ []))) none
    ∙ ap (λ (xs : List Put). puts_to Made s.held ++ xs) (append-nil (puts_to Made (laid_each s.place (chunk_in p.what))))
    ∙ sym (puts_to-append Made s.held (laid_each s.place (chunk_in p.what)))

puts_of-line : (s : MadeFileValue) (p : Piece) → chunk_in p.what ≡ []
    → puts_behind s p ≡ puts_to Made s.held ++ puts_to Notes (told_text (region_of p))
unfolding puts_from laid_each
puts_of-line s p none =
    ap (λ (ks : List ChunkValue). puts_to Made s.held ++ (puts_to Made (laid_each s.place ks) ++ (puts_to Notes (told_text (region_of p)) ++ []))) none
    ∙ ap (λ (xs : List Put). puts_to Made s.held ++ xs) (append-nil (puts_to Notes (told_text (region_of p))))

-- a chunk was put
pub chunk_put : (a b n : Option (List ℕ)) (s t : Copied) (p : Piece) (k : ChunkValue) → chunk_in p.what ≡ k ∷ [] → region_of p ≡ None
    → Lays a b s.file t.file (k ∷ []) → t.begun ≡ s.begun → t.regions ≡ s.regions
    → Copies (taken_by a None n) (taken_by b None n) s t p
chunk_put a b n s t p k one none lays begun counted = record {
  chunks = subst (λ (ks : List ChunkValue). Lays a b s.file t.file (ks ++ [])) (sym one) lays;
  puts = subst (λ (ps : List Put). GoOutOrAreHeld (taken_by a None n) (taken_by b None n) Made ps t.file.held)
      (sym (puts_of-chunk s.file p none))
      (held_made a b n (s.file.held ++ laid_each s.file.place (chunk_in p.what)) t.file.held
      (subst (λ (ks : List ChunkValue). TakesAndHolds a b (s.file.held ++ laid_each s.file.place ks) t.file.held) (sym one) lays.bytes));
  begun = begun;
  regions = omega (arith, counted, ap (λ (r : Option Region). length (cons_option r [])) none);
}

-- or not whole
pub chunk_failed : {Fails : Type 0} (a b n : Option (List ℕ)) (s t : MadeFileValue) (p : Piece) (k : ChunkValue) → chunk_in p.what ≡ k ∷ [] → region_of p ≡ None
    → LaysFront Fails a b s t (k ∷ []) → Fails → CopiesFront end.Made (taken_by a None n) (taken_by b None n) s p
chunk_failed a b n s t p k one none front fails = record {
  part = puts_to Made front.bytes.passed;
  went = GoOut-made a b None n front.bytes.passed front.bytes.taken;
  broken = subst (λ (ps : List Put). BreaksOff Made (puts_to Made front.bytes.passed) ps) (sym (puts_of-chunk s p none))
      (subst (λ (ks : List ChunkValue). BreaksOff Made (puts_to Made front.bytes.passed) (puts_to Made (s.held ++ laid_each s.place ks))) (sym one)
      (breaks_off-front Made (s.held ++ laid_each s.place (k ∷ [])) front.bytes.passed t.held front.bytes.rest front.bytes.parts
      (front.bytes.short fails)));
}

-- a line was put, behind what was held
pub line_put : (a b n m : Option (List ℕ)) (s t : Copied) (p : Piece) → chunk_in p.what ≡ [] → length (regions_in (p ∷ [])) ≡ 1 → s.file.spent ≡ false
    → Takes a b s.file.held → t.file ≡ record s.file { held = [] } → Takes n m (told_text (region_of p)) → t.begun ≡ s.begun
    → t.regions ≡ s.regions + 1 → Copies (taken_by a None n) (taken_by b None m) s t p
line_put a b n m s t p none one going taken held line begun counted = record {
  chunks = subst (λ (ks : List ChunkValue). Lays a b s.file t.file (ks ++ [])) (sym none) (Lays-flushed a b s.file t.file going taken held);
  puts = record {
    passed = puts_to Made s.file.held ++ puts_to Notes (told_text (region_of p));
    parts = puts_of-line s.file p none
        ∙ sym (append-nil (puts_to Made s.file.held ++ puts_to Notes (told_text (region_of p))))
        ∙ ap (λ (xs : List ℕ). (puts_to Made s.file.held ++ puts_to Notes (told_text (region_of p))) ++ puts_to Made xs)
        (sym (ap (λ (f : MadeFileValue). f.held) held));
    went = GoOut-append (taken_by a None n) (taken_by b None n) (taken_by b None m) (puts_to Made s.file.held)
        (puts_to Notes (told_text (region_of p))) (GoOut-made a b None n s.file.held taken)
        (GoOut-notes b None n m (told_text (region_of p)) line);
  };
  begun = begun;
  regions = omega (arith, counted, one);
}

-- or what was held before it was not put whole
pub flush_failed : (a b n : Option (List ℕ)) (s : MadeFileValue) (p : Piece) → chunk_in p.what ≡ [] → TakesShort a b s.held
    → CopiesFront end.Made (taken_by a None n) (taken_by b None n) s p
flush_failed a b n s p none short = record {
  part = puts_to Made (take short.0 s.held);
  went = GoOut-made a b None n (take short.0 s.held) short.2;
  broken = subst (λ (ps : List Put). BreaksOff Made (puts_to Made (take short.0 s.held)) ps) (sym (puts_of-line s p none))
      (BreaksOff-longer Made (puts_to Made (take short.0 s.held)) (puts_to Made s.held) (puts_to Notes (told_text (region_of p)))
      (BreaksOff-last Made [] s.held short.0 short.1));
}

-- or the line itself
pub line_failed : (a b n m : Option (List ℕ)) (s : MadeFileValue) (p : Piece) → chunk_in p.what ≡ [] → Takes a b s.held
    → TakesShort n m (told_text (region_of p)) → CopiesFront end.Notes (taken_by a None n) (taken_by b None m) s p
line_failed a b n m s p none taken short =
    let line : List ℕ = told_text (region_of p) in
    record {
      part = puts_to Made s.held ++ puts_to Notes (take short.0 line);
      went = GoOut-append (taken_by a None n) (taken_by b None n) (taken_by b None m) (puts_to Made s.held) (puts_to Notes (take short.0 line))
          (GoOut-made a b None n s.held taken) (GoOut-notes b None n m (take short.0 line) short.2);
      broken = subst (λ (ps : List Put). BreaksOff Notes (puts_to Made s.held ++ puts_to Notes (take short.0 line)) ps) (sym (puts_of-line s p none))
          (BreaksOff-last Notes (puts_to Made s.held) line short.0 short.1);
    }

-- an end that a call passes on is that of the sink that failed
pub copies_failed : {X : Type 0} (result : Result X RepairEnd) (end : RepairEnd) (before after : Taken) (s t : Copied) (p : Piece)
    → IsErr result → IsErrAnd result (λ e. e ≡ end) → CopiesFront end before after s.file p → CopiesTo result before after s t p
copies_failed (Ok done) end before after s t p failed is front = absurd (cc failed)
copies_failed (Err e) end before after s t p failed is front = subst (λ (x : RepairEnd). CopiesFront x before after s.file p) (sym is) front

pub copied_failed : {X : Type 0} (result : Result X RepairEnd) (end : RepairEnd) (before after : Taken) (t : Copied) (events : List Piece)
    → IsErr result → IsErrAnd result (λ e. e ≡ end) → HasCopiedFront end before after events → HasCopiedTo result before after t events
copied_failed (Ok done) end before after t events failed is front = absurd (cc failed)
copied_failed (Err e) end before after t events failed is front = subst (λ (x : RepairEnd). HasCopiedFront x before after events) (sym is) front

-- once the signature was put, the file is begun
pub has_begun : (before : Taken) (a b n : Option (List ℕ)) (s t : Copied) (events : List Piece)
    → HasCopied before (taken_by a None n) s events → Begins a b s t → HasBegun before (taken_by b None n) t events
unfolding puts_from laid_each
has_begun before a b n s t events (inl h) (inl (begun, same, made)) = cc (h.unbegun, begun)
has_begun before a b n s t events (inl h) (inr (unbegun, begun, counted, lays)) =
    subst (λ (es : List Piece). HasBegun before (taken_by b None n) t es) (sym h.none)
    (subst (λ (x : Taken). HasBegun x (taken_by b None n) t []) h.same (record {
      begun = begun;
      chunks = lays;
      puts = subst (λ (ps : List Put). GoOutOrAreHeld (taken_by a None n) (taken_by b None n) Made ps t.file.held)
          (sym (append-nil (puts_to Made (laid_each 0 (signature ∷ [])))))
          (held_made a b n (laid_each 0 (signature ∷ [])) t.file.held lays.bytes);
      regions = counted ∙ h.regions;
    }))
has_begun before a b n s t events (inr (h, some)) (inl (begun, same, made)) =
    subst (λ (x : Copied). HasBegun before (taken_by b None n) x events) (sym same)
    (subst (λ (x : Option (List ℕ)). HasBegun before (taken_by x None n) s events) (sym made) h)
has_begun before a b n s t events (inr (h, some)) (inr (unbegun, begun, counted, lays)) = cc (h.begun, unbegun)

-- or that was cut off
pub begin_failed : {Fails : Type 0} (before : Taken) (a b n : Option (List ℕ)) (s : Copied) (t : MadeFileValue) (events more : List Piece)
    → HasCopied before (taken_by a None n) s events → s.begun ≡ false → LaysFront Fails a b nothing_made t (signature ∷ []) → Fails
    → HasCopiedFront end.Made before (taken_by b None n) (events ++ more)
begin_failed before a b n s t events more (inr (h, some)) unbegun front fails = cc (h.begun, unbegun)
begin_failed before a b n s t events more (inl h) unbegun front fails =
    let bytes : List ℕ = laid_each 0 (signature ∷ []) in
    subst (λ (es : List Piece). HasCopiedFront end.Made before (taken_by b None n) (es ++ more)) (sym h.none)
    (subst (λ (x : Taken). HasCopiedFront end.Made x (taken_by b None n) more) h.same (record {
      part = puts_to Made front.bytes.passed;
      went = GoOut-made a b None n front.bytes.passed front.bytes.taken;
      broken = BreaksOff-longer Made (puts_to Made front.bytes.passed) (puts_to Made bytes) (puts_from (end_of_chunks 0 (signature ∷ [])) more)
          (breaks_off-front Made bytes front.bytes.passed t.held front.bytes.rest front.bytes.parts (front.bytes.short fails));
    }))

-- what is put of one event more
puts_more : (before after : Taken) (s : Copied) (events : List Piece) (e : Piece) → HasBegun before after s events
    → repair_puts (events ++ e ∷ []) ≡ repair_puts events ++ puts_from s.file.place (e ∷ [])
puts_more before after s events e h =
    repair_puts-append events (e ∷ []) ∙ ap (λ (n : ℕ). repair_puts events ++ puts_from n (e ∷ [])) (sym h.chunks.place)

-- one event more was copied
pub copies_more : (before now then : Taken) (s t : Copied) (events : List Piece) (e : Piece) → HasBegun before now s events
    → Copies now then s t e → HasBegun before then t (events ++ e ∷ [])
copies_more before now then s t events e h more = record {
  begun = more.begun ∙ h.begun;
  chunks = subst (λ (ks : List ChunkValue). Lays before.made then.made nothing_made t.file (signature ∷ ks)) (sym (chunks_in-append events (e ∷ [])))
      (Lays-append before.made now.made then.made nothing_made s.file t.file (signature ∷ chunks_in events) (chunks_in (e ∷ [])) h.chunks more.chunks);
  puts = subst (λ (ps : List Put). GoOutOrAreHeld before then Made ps t.file.held) (sym (puts_more before now s events e h))
      (held_more before now then (repair_puts events) (puts_from s.file.place (e ∷ [])) s.file.held t.file.held h.puts more.puts);
  regions = omega (
    arith,
    h.regions,
    more.regions,
    ap length (regions_in-append events (e ∷ [])),
    length-append (regions_in events) (regions_in (e ∷ [])),
  );
}

-- or that was cut off
copies_cut : (c : RepairEnd) (before now then : Taken) (s : Copied) (events : List Piece) (e : Piece) → HasBegun before now s events
    → CopiesFront c now then s.file e → HasCopiedFront c before then (events ++ e ∷ [])
copies_cut c before now then s events e h front = record {
  part = h.puts.passed ++ front.part;
  went = GoOut-append before now then h.puts.passed front.part h.puts.went front.went;
  broken = subst (λ (ps : List Put). BreaksOffBy c (h.puts.passed ++ front.part) ps) (sym (puts_more before now s events e h))
      (held_broken_by c before now (repair_puts events) front.part (puts_from s.file.place (e ∷ [])) s.file.held h.puts front.broken);
}

-- so it is behind the signature
pub event_copied : (r : Result (Unit {0}) RepairEnd) (a b n : Option (List ℕ)) (then : Taken) (s t u : Copied) (e : Piece) → Begins a b s t
    → CopiesTo r (taken_by b None n) then t u e
    → (before : Taken) (events : List Piece) → HasCopied before (taken_by a None n) s events → HasCopiedTo r before then u (events ++ e ∷ [])
event_copied (Err c) a b n then s t u e begins front before events h =
    copies_cut c before (taken_by b None n) then t events e (has_begun before a b n s t events h begins) front
event_copied (Ok done) a b n then s t u e begins copies before events h =
    copies_more before (taken_by b None n) then t u events e (has_begun before a b n s t events h begins) copies

-- where what is held went out, all did
put_all : (before : Taken) (a b n : Option (List ℕ)) (s t : Copied) (events : List Piece) → HasBegun before (taken_by a None n) s events
    → Takes a b s.file.held → totals_made t.file ≡ totals_made s.file → t.regions ≡ s.regions → HasPutAll before (taken_by b None n) t events
put_all before a b n s t events h taken totals counted = record {
  puts = held_flushed before a b n (repair_puts events) s.file.held h.puts taken;
  totals = totals ∙ totals_made-laid before.made a s.file (signature ∷ chunks_in events) h.chunks;
  regions = counted ∙ h.regions;
}

-- or a front did, and what is left is held
flush_broke : (before : Taken) (a b n : Option (List ℕ)) (ps : List Put) (held : List ℕ) (h : GoOutOrAreHeld before (taken_by a None n) Made ps held)
    → TakesShort a b held
    → (part : List Put) × GoOut before (taken_by b None n) part × BreaksOff Made part ps × (rest : List ℕ) × (ps ≡ part ++ puts_to Made rest)
flush_broke before a b n ps held h (count, less, took) = (
  h.passed ++ puts_to Made (take count held),
  GoOut-append before (taken_by a None n) (taken_by b None n) h.passed (puts_to Made (take count held)) h.went (GoOut-made a b None n (take count held) took),
  subst (λ (xs : List Put). BreaksOff Made (h.passed ++ puts_to Made (take count held)) xs) (sym h.parts) (BreaksOff-last Made h.passed held count less),
  drop count held,
  h.parts
      ∙ ap (λ (xs : List ℕ). h.passed ++ puts_to Made xs) (sym (take-append-drop count held))
      ∙ ap (λ (xs : List Put). h.passed ++ xs) (puts_to-append Made (take count held) (drop count held))
      ∙ sym (append_assoc h.passed (puts_to Made (take count held)) (puts_to Made (drop count held))),
)

finish_failed : (before : Taken) (a b n : Option (List ℕ)) (s : Copied) (events : List Piece) → HasBegun before (taken_by a None n) s events
    → TakesShort a b s.file.held → HasCopiedFront end.Made before (taken_by b None n) events
finish_failed before a b n s events h short =
    let broke = flush_broke before a b n (repair_puts events) s.file.held h.puts short in
    record { part = broke.0; went = broke.1; broken = broke.2 }

-- so it is behind the signature
pub finish_put : (r : Result (Unit {0}) Failed) (a b c : Option (List ℕ)) (s t u : Copied) → Begins a b s t → OnOk r (Takes b c t.file.held)
    → OnErr r (TakesShort b c t.file.held) → totals_made u.file ≡ totals_made t.file → u.regions ≡ t.regions
    → (before : Taken) (n : Option (List ℕ)) (events : List Piece) → HasCopied before (taken_by a None n) s events
    → HasPutTo r before (taken_by c None n) u events
finish_put (Ok done) a b c s t u begins taken short totals counted before n events h =
    put_all before b c n t u events (has_begun before a b n s t events h begins) taken totals counted
finish_put (Err failed) a b c s t u begins taken short totals counted before n events h =
    finish_failed before b c n t events (has_begun before a b n s t events h begins) short

-- at a fault too, but for what wasn't begun
all_at_fault : (f g : ℕ) (events : List Piece) → events ≢ [] → WentOutAtFault f g events (repair_puts events)
all_at_fault f g [] some = absurd (some refl)
all_at_fault f g (e ∷ events) some = inl refl

front_at_fault : (f g : ℕ) (events : List Piece) (part : List Put) (rest : List ℕ) → events ≢ [] → Rose f g
    → repair_puts events ≡ part ++ puts_to Made rest → WentOutAtFault f g events part
front_at_fault f g [] part rest some rose is = absurd (some refl)
front_at_fault f g (e ∷ events) part rest some rose is = inr (rose, rest, is)

pub put_at_fault : (result : Result (Unit {0}) Failed) (before : Taken) (a b n : Option (List ℕ)) (s : Copied) (events : List Piece) (f g : ℕ)
    → OnOk result (Takes a b s.file.held) → OnErr result (TakesShort a b s.file.held) → (IsErr result → Rose f g)
    → HasCopied before (taken_by a None n) s events → HasPutAtFault f g before (taken_by b None n) events
put_at_fault (Ok done) before a b n s events f g whole short rose (inl h) =
    subst (λ (es : List Piece). HasPutAtFault f g before (taken_by b None n) es) (sym h.none)
    (subst (λ (x : Taken). HasPutAtFault f g x (taken_by b None n) []) h.same (record {
      part = [];
      went = refl;
      took = GoOut-made a b None n [] (subst (λ (p : MadeFileValue). Takes a b p.held) h.file whole);
    }))
put_at_fault (Ok done) before a b n s events f g whole short rose (inr (h, more)) = record {
  part = repair_puts events;
  went = all_at_fault f g events more;
  took = held_flushed before a b n (repair_puts events) s.file.held h.puts whole;
}
put_at_fault (Err failed) before a b n s events f g whole short rose (inl h) =
    absurd (TakesShort-some a b s.file.held short (ap (λ (p : MadeFileValue). p.held) h.file))
put_at_fault (Err failed) before a b n s events f g whole short rose (inr (h, more)) =
    let broke = flush_broke before a b n (repair_puts events) s.file.held h.puts short in
    record { part = broke.0; went = front_at_fault f g events broke.0 broke.3 more (rose refl) broke.4; took = broke.1 }

-- the next chunk is laid behind what was made
pub next_when_begun : (s : Copied) → s.begun ≡ true → next_chunk_place s ≡ s.file.place
next_when_begun s begun = cond-true s.begun s.file.place (end_of_chunks 0 (signature ∷ [])) begun

pub next_when_unbegun : (s : Copied) → s.begun ≡ false → next_chunk_place s ≡ 64
next_when_unbegun s unbegun = cond-false s.begun s.file.place (end_of_chunks 0 (signature ∷ [])) unbegun ∙ end_of_chunk-signature

pub next_place_small : (from : ℕ) (s : Copied) → s.file.place ≤ 64 + 2 * from → next_chunk_place s ≤ 64 + 2 * from
next_place_small from s small = elim (cases_Bool s.begun) [
  | inl begun ↦ omega (arith, small, next_when_begun s begun)
  | inr unbegun ↦ omega (arith, next_when_unbegun s unbegun)
]

-- once the signature was put the next chunk is laid where the file ends
begun_next : (a b : Option (List ℕ)) (s t : Copied) → Begins a b s t
    → (t.begun ≡ true) × (t.file.place ≡ next_chunk_place s) × (t.regions ≡ s.regions)
begun_next a b s t (inl (begun, same, made)) = (
  subst (λ (x : Copied). x.begun ≡ true) (sym same) begun,
  ap (λ (x : Copied). x.file.place) same ∙ sym (next_when_begun s begun),
  ap (λ (x : Copied). x.regions) same,
)
begun_next a b s t (inr (unbegun, begun, counted, lays)) = (
  begun,
  lays.place ∙ sym (cond-false s.begun s.file.place (end_of_chunks 0 (signature ∷ [])) unbegun),
  counted,
)

-- and behind an event
pub event_past : {N : Type 0} (r : Result (Unit {0}) RepairEnd) (a b : Option (List ℕ)) (now then : Taken) (s t u : Copied) (e : Piece) (n m : N)
    → Begins a b s t → CopiesTo r now then t u e → OnOk r (u.regions ≡ t.regions → m ≡ n) → OnOk r (IsPast e s u n m)
event_past (Err c) a b now then s t u e n m begins front quiet = tt
event_past (Ok done) a b now then s t u e n m begins more quiet =
    let begun = begun_next a b s t begins in
    record {
      begun = more.begun ∙ begun.0;
      going = more.chunks.going;
      place = more.chunks.place ∙ ap (λ (p : ℕ). end_of_chunks p (chunks_in (e ∷ []))) begun.1;
      regions = omega (arith, more.regions, begun.2);
      quiet = λ same. quiet (same ∙ sym begun.2);
    }

-- an event's chunk can be laid
pub fits : (at : Progress) (to place : ℕ) (e : Event) → IsEventIn at to e → place ≤ 64 + 2 * at.place → to ≤ 2 ^ 60 → FitsAt place e
fits at to place (event.Records begin records chunk) h small reach = record {
  right = h.intact.0.right;
  in_reach = omega (arith, h.from_place, h.to_place, place_moved begin place (value_of_chunk chunk) (omega (arith, h.from_place)));
  unread_is = sym (is_unread-plain (value_of_chunk chunk) (h.intact.0.small, inl (records, h.intact.1)));
}
fits at to place (event.Kept begin chunk unread) h small reach = record {
  right = h.intact.0.right;
  in_reach = omega (arith, h.from_place, h.to_place, place_moved begin place (value_of_chunk chunk) (omega (arith, h.from_place)));
  unread_is = h.intact.1;
}
fits at to place (event.Skipped region) h small reach = tt

-- and moves the place where the next one is laid by at most twice its size
pub grows : (at : Progress) (to place : ℕ) (e : Event) → IsEventIn at to e → place ≤ 64 + 2 * at.place
    → end_of_chunks place (chunks_in (piece_of e ∷ [])) ≤ 64 + 2 * to
grows at to place (event.Records begin records chunk) h small =
    omega (arith, h.from_place, h.to_place, place_moved begin place (value_of_chunk chunk) (omega (arith, h.from_place)))
grows at to place (event.Kept begin chunk unread) h small =
    let k : ChunkValue = value_of_chunk chunk in
    omega (
      arith,
      h.from_place,
      h.to_place,
      place_moved begin place k (omega (arith, h.from_place)),
      ap {B = ℕ} (λ (ks : List ChunkValue). end_of_chunks place (ks ++ [])) (kept_chunk k),
    )
grows at to place (event.Skipped region) h small = omega (arith, h.from_place, h.rises, h.to_place)
