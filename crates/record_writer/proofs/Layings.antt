-- Chunks that are laid behind others.
use Rattle.std.proofs.Common.{◌≡◌, ◌∙◌, ℕ, ◌+◌, ◌<◌, ◌≤◌, ◌⊎◌, Bool, Option, List, [], ◌∷◌, ◌++◌, true, false, sym, ap, subst, length-append, cond, arith}
use Rattle.std.proofs.lemmas.List.{append-nil}
use Rattle.std.proofs.lemmas.List.Sums.{sum_by-cons, sum_by-append}
use Rattle.record_io.specs.Outside.{TakesShort}
use Rattle.record_io.specs.Buffers.{TakesAndHolds}
use Rattle.record_io.proofs.Buffered.{TakesAndHolds-append}
use Rattle.chunk_header.specs.Chunks.{ChunkValue}
use Rattle.meta_chunk.specs.Laid.{laid, end_of_chunk}
use Rattle.meta_chunk.specs.Files.{is_unread, end_of_chunks, laid_each}
use Rattle.meta_chunk.specs.PaddingSizes.{padding_at}
use Rattle.meta_chunk.proofs.Joins.{end_of_chunks-append, laid_each-append}
use Rattle.record_writer.specs.MadeFiles.{MadeFileValue, Lays, LaysFront, TakesAndHoldsFront, nothing_made}
use Rattle.record_writer.proofs.Counted.{counted-padding_at, length-padding_at}
use Rattle.record_writer.proofs.Fronts.{TakesAndHolds-none, TakesAndHoldsFront-none, TakesAndHoldsFront-failed, TakesAndHoldsFront-longer, TakesAndHoldsFront-behind}

-- no chunks are laid where nothing is done
pub Lays-none : (a : Option (List ℕ)) (s : MadeFileValue) → s.spent ≡ false → Lays a a s s []
unfolding laid_each
Lays-none a s going =
    record { bytes = TakesAndHolds-none a s.held; place = omega arith; going = going; chunks = omega arith; records = omega arith; unread = omega arith }

-- the bytes of chunks, and of those that are laid behind them
bytes-append : (s t : MadeFileValue) (ks more : List ChunkValue) → t.place ≡ end_of_chunks s.place ks
    → laid_each s.place ks ++ laid_each t.place more ≡ laid_each s.place (ks ++ more)
bytes-append s t ks more next =
    ap (λ (place : ℕ). laid_each s.place ks ++ laid_each place more) next ∙ sym (laid_each-append s.place ks more)

-- chunks, and behind them more chunks
pub Lays-append : (a b c : Option (List ℕ)) (s t u : MadeFileValue) (ks more : List ChunkValue)
    → Lays a b s t ks → Lays b c t u more → Lays a c s u (ks ++ more)
Lays-append a b c s t u ks more first then = record {
  bytes = subst (λ (xs : List ℕ). TakesAndHolds a c (s.held ++ xs) u.held)
      (bytes-append s t ks more first.place)
      (TakesAndHolds-append a b c s.held t.held u.held (laid_each s.place ks) (laid_each t.place more) first.bytes then.bytes);
  place = then.place
      ∙ ap (λ (place : ℕ). end_of_chunks place more) first.place
      ∙ sym (end_of_chunks-append s.place ks more);
  going = then.going;
  chunks = omega (arith, first.chunks, then.chunks, length-append ks more);
  records = omega (arith, first.records, then.records, sum_by-append (λ (k : ChunkValue). cond (is_unread k) 0 k.num_records) ks more);
  unread = omega (arith, first.unread, then.unread, sum_by-append (λ (k : ChunkValue). cond (is_unread k) 1 0) ks more);
}

-- chunks, and behind them a front of more
pub LaysFront-behind : {F : Type 0} (a b c : Option (List ℕ)) (s t u : MadeFileValue) (ks more : List ChunkValue)
    → Lays a b s t ks → LaysFront F b c t u more → LaysFront F a c s u (ks ++ more)
LaysFront-behind {F} a b c s t u ks more first then = record {
  bytes = subst (λ (xs : List ℕ). TakesAndHoldsFront F a c (s.held ++ xs) u.held)
      (bytes-append s t ks more first.place)
      (TakesAndHoldsFront-behind a b c s.held t.held u.held (laid_each s.place ks) (laid_each t.place more) first.bytes then.bytes);
}

-- a front of chunks is a front of these and more
pub LaysFront-longer : {F : Type 0} (a b : Option (List ℕ)) (s t : MadeFileValue) (ks more : List ChunkValue) → LaysFront F a b s t ks → LaysFront F a b s t (ks ++ more)
LaysFront-longer {F} a b s t ks more front = record {
  bytes = subst (λ (xs : List ℕ). TakesAndHoldsFront F a b (s.held ++ xs) t.held)
      (sym (laid_each-append s.place ks more))
      (TakesAndHoldsFront-longer a b s.held (laid_each s.place ks) (laid_each (end_of_chunks s.place ks) more) t.held front.bytes);
}

-- where nothing is done, it is a front of any chunks
pub LaysFront-none : {F : Type 0} (a : Option (List ℕ)) (s : MadeFileValue) (ks : List ChunkValue) → (F → ⊥) → LaysFront F a a s s ks
LaysFront-none a s ks done = record { bytes = TakesAndHoldsFront-none a s.held (laid_each s.place ks) done }

-- all of them are a front of them
pub LaysFront-whole : {F : Type 0} (a b : Option (List ℕ)) (s t : MadeFileValue) (ks : List ChunkValue) → (F → ⊥) → Lays a b s t ks → LaysFront F a b s t ks
LaysFront-whole {F} a b s t ks done laid =
    subst (λ (ks : List ChunkValue). LaysFront F a b s t ks) (append-nil ks) (LaysFront-behind a b b s t t ks [] laid (LaysFront-none b t [] done))

-- in whichever way it is told that a put failed
pub LaysFront-where : {F G : Type 0} (a b : Option (List ℕ)) (s t : MadeFileValue) (ks : List ChunkValue) → (G → F) → LaysFront F a b s t ks → LaysFront G a b s t ks
LaysFront-where a b s t ks told front = record {
  bytes = record {
    passed = front.bytes.passed;
    rest = front.bytes.rest;
    parts = front.bytes.parts;
    short = λ fails. front.bytes.short (told fails);
    taken = front.bytes.taken;
  };
}

-- where a put failed, the sink took a front of them and nothing is held
pub LaysFront-failed : {F : Type 0} (a b : Option (List ℕ)) (s t : MadeFileValue) (ks : List ChunkValue) → t.held ≡ [] → TakesShort a b (s.held ++ laid_each s.place ks)
    → LaysFront F a b s t ks
LaysFront-failed a b s t ks emptied front =
    record { bytes = TakesAndHoldsFront-failed a b (s.held ++ laid_each s.place ks) t.held emptied front }

-- the bytes of one chunk
laid_each-one : (place : ℕ) (k : ChunkValue) → laid_each place (k ∷ []) ≡ laid place k
unfolding laid_each
laid_each-one place k = append-nil (laid place k)

-- one chunk that was laid
Lays-one : (a b : Option (List ℕ)) (s t : MadeFileValue) (k : ChunkValue) → TakesAndHolds a b (s.held ++ laid s.place k) t.held
    → t.place ≡ end_of_chunk s.place k → t.spent ≡ false → t.chunks ≡ s.chunks + 1
    → t.records ≡ s.records + cond (is_unread k) 0 k.num_records → t.unread ≡ s.unread + cond (is_unread k) 1 0
    → Lays a b s t (k ∷ [])
Lays-one a b s t k bytes place going chunks records unread = record {
  bytes = subst (λ (xs : List ℕ). TakesAndHolds a b (s.held ++ xs) t.held) (sym (laid_each-one s.place k)) bytes;
  place = place;
  going = going;
  chunks = chunks;
  records = omega (arith, records, sum_by-cons (λ (x : ChunkValue). cond (is_unread x) 0 x.num_records) k []);
  unread = omega (arith, unread, sum_by-cons (λ (x : ChunkValue). cond (is_unread x) 1 0) k []);
}

-- which counts as left unread
pub Lays-unread : (a b : Option (List ℕ)) (s t : MadeFileValue) (k : ChunkValue) → TakesAndHolds a b (s.held ++ laid s.place k) t.held
    → t.place ≡ end_of_chunk s.place k → t.spent ≡ false → t.chunks ≡ s.chunks + 1 → is_unread k ≡ true
    → t.records ≡ s.records → t.unread ≡ s.unread + 1 → Lays a b s t (k ∷ [])
Lays-unread a b s t k bytes place going chunks is records unread =
    Lays-one a b s t k bytes place going chunks
    (omega (arith, records, ap (λ (x : Bool). cond x 0 k.num_records) is))
    (omega (arith, unread, ap {B = ℕ} (λ (x : Bool). cond x 1 0) is))

-- or as read
pub Lays-read : (a b : Option (List ℕ)) (s t : MadeFileValue) (k : ChunkValue) → TakesAndHolds a b (s.held ++ laid s.place k) t.held
    → t.place ≡ end_of_chunk s.place k → t.spent ≡ false → t.chunks ≡ s.chunks + 1 → is_unread k ≡ false
    → t.records ≡ s.records + k.num_records → t.unread ≡ s.unread → Lays a b s t (k ∷ [])
Lays-read a b s t k bytes place going chunks is records unread =
    Lays-one a b s t k bytes place going chunks
    (omega (arith, records, ap (λ (x : Bool). cond x 0 k.num_records) is))
    (omega (arith, unread, ap {B = ℕ} (λ (x : Bool). cond x 1 0) is))

-- and one of which a front was put, where that failed
pub LaysFront-one : {F : Type 0} (a b : Option (List ℕ)) (s t : MadeFileValue) (k : ChunkValue) → t.held ≡ [] → TakesShort a b (s.held ++ laid s.place k)
    → LaysFront F a b s t (k ∷ [])
LaysFront-one a b s t k emptied front =
    LaysFront-failed a b s t (k ∷ []) emptied
    (subst (λ (xs : List ℕ). TakesShort a b (s.held ++ xs)) (sym (laid_each-one s.place k)) front)

-- padding up to a block, which counts as a chunk where it ends further on
pub Lays-padding : (a b : Option (List ℕ)) (s t : MadeFileValue) → TakesAndHolds a b (s.held ++ laid_each s.place (padding_at s.place)) t.held
    → t.place ≡ end_of_chunks s.place (padding_at s.place) → t.spent ≡ false → t.records ≡ s.records → t.unread ≡ s.unread
    → ((s.place < t.place) × (t.chunks ≡ s.chunks + 1)) ⊎ ((t.place ≤ s.place) × (t.chunks ≡ s.chunks))
    → Lays a b s t (padding_at s.place)
Lays-padding a b s t bytes place going records unread counted = record {
  bytes = bytes;
  place = place;
  going = going;
  chunks = omega (arith, place, counted, length-padding_at s.place);
  records = omega (arith, records, (counted-padding_at s.place).0);
  unread = omega (arith, unread, (counted-padding_at s.place).1);
}

-- where nothing was made before
pub Lays-at_front : (a b : Option (List ℕ)) (s t : MadeFileValue) (ks : List ChunkValue) → s ≡ nothing_made → Lays a b s t ks → Lays a b nothing_made t ks
Lays-at_front a b s t ks is laid = subst (λ (p : MadeFileValue). Lays a b p t ks) is laid

pub LaysFront-at_front : {F : Type 0} (a b : Option (List ℕ)) (s t : MadeFileValue) (ks : List ChunkValue) → s ≡ nothing_made → LaysFront F a b s t ks
    → LaysFront F a b nothing_made t ks
LaysFront-at_front {F} a b s t ks is front = subst (λ (p : MadeFileValue). LaysFront F a b p t ks) is front
