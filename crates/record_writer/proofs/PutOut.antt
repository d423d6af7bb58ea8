-- Chunks that are put between what went out before and what went out behind them.
use Rattle.std.proofs.Common.{◌≡◌, ℕ, false, Option, Result, Ok, Err, List, [], refl, ap, subst, sym, arith}
use Rattle.std.specs.Result.{OnOk, OnErr}
use Rattle.std.proofs.lemmas.List.{append-nil}
use Rattle.record_io.specs.Outside.{Takes, TakesShort}
use Rattle.record_io.proofs.Calls.{TakesShort-longer}
use Rattle.chunk_header.specs.Chunks.{ChunkValue}
use Rattle.meta_chunk.specs.Files.{laid_each}
use Rattle.record_writer.specs.MadeFiles.{MadeFileValue, Lays, LaysFront}
use Rattle.record_writer.proofs.Layings.{Lays-append, LaysFront-behind, LaysFront-failed}

-- what is held goes out, which lays no chunk
pub Lays-flushed : (x y : Option (List ℕ)) (s t : MadeFileValue) → s.spent ≡ false → t ≡ record s { held = [] } → Takes x y s.held → Lays x y s t []
unfolding laid_each
Lays-flushed x y s t going is out =
    subst (λ (t : MadeFileValue). Lays x y s t []) (sym is)
    (record {
      bytes = record { passed = s.held; parts = refl; taken = out };
      place = refl;
      going = going;
      chunks = omega arith;
      records = omega arith;
      unread = omega arith;
    })

-- or a front of it
pub LaysFront-flushed : {F : Type 0} (x y : Option (List ℕ)) (s t : MadeFileValue) (ks : List ChunkValue) → t ≡ record s { held = [] } → TakesShort x y s.held → LaysFront F x y s t ks
LaysFront-flushed x y s t ks is front =
    LaysFront-failed x y s t ks (ap (λ (t : MadeFileValue). t.held) is) (TakesShort-longer x y s.held (laid_each s.place ks) front)

-- chunks that were put between what went out before and what went out behind them
pub Lays-out : {X E : Type 0} (result : Result X E) (w x y z : Option (List ℕ)) (s t u v : MadeFileValue) (ks : List ChunkValue)
    → Lays w x s t [] → Lays x y t u ks → v ≡ record u { held = [] } → OnOk result (Takes y z u.held) → OnOk result (Lays w z s v ks)
Lays-out (Ok r) w x y z s t u v ks first then is out =
    subst (λ (ks : List ChunkValue). Lays w z s v ks) (append-nil ks)
    (Lays-append w y z s u v ks [] (Lays-append w x y s t u [] ks first then) (Lays-flushed y z u v then.going is out))
Lays-out (Err e) w x y z s t u v ks first then is out = tt

pub LaysFront-out : {X E : Type 0} (F : Type 0) (result : Result X E) (w x y z : Option (List ℕ)) (s t u v : MadeFileValue) (ks : List ChunkValue)
    → Lays w x s t [] → Lays x y t u ks → v ≡ record u { held = [] } → OnErr result (TakesShort y z u.held) → OnErr result (LaysFront F w z s v ks)
LaysFront-out F (Ok r) w x y z s t u v ks first then is front = tt
LaysFront-out F (Err e) w x y z s t u v ks first then is front =
    subst (λ (ks : List ChunkValue). LaysFront F w z s v ks) (append-nil ks)
    (LaysFront-behind w y z s u v ks [] (Lays-append w x y s t u [] ks first then) (LaysFront-flushed y z u v [] is front))
