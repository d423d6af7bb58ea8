-- What the answers of reading leave open.
use Rattle.std.proofs.Common.{◌≡◌, ◌≢◌, Result, Ok, Err, refl}
use Rattle.std.specs.Prelude.{◌↔◌, IsOk}
use Rattle.simple_chunk.specs.declared.decoding.SimpleFault.{SimpleFault}
use Rattle.simple_chunk.specs.declared.decoding.SimpleFault.TheVariants.{Compressed, Contents, Memory}

-- the answer where records stand exactly where H, and the data is compressed exactly where C
pub record Verdict (H C : Type 0) (answer : Result (Unit {0}) SimpleFault) : Type 0 where
  pub holds : IsOk answer ↔ H
  pub compressed : (answer ≡ Err Compressed) ↔ C
  pub contents : (answer ≡ Err Contents) ↔ ((¬ C) × (¬ H))
  pub no_memory : answer ≢ Err Memory

pub Verdict-ok : (H C : Type 0) → H → ¬ C → Verdict H C (Ok tt)
Verdict-ok H C h plain = record {
  holds = (λ _. h, λ _. refl);
  compressed = (λ e. cc, λ packed. absurd (plain packed));
  contents = (λ e. cc, λ both. absurd (both.1 h));
  no_memory = λ e. cc;
}

pub Verdict-compressed : (H C : Type 0) → ¬ H → C → Verdict H C (Err Compressed)
Verdict-compressed H C none packed = record {
  holds = (λ e. cc, λ h. absurd (none h));
  compressed = (λ _. packed, λ _. refl);
  contents = (λ e. cc, λ both. absurd (both.0 packed));
  no_memory = λ e. cc;
}

pub Verdict-contents : (H C : Type 0) → ¬ H → ¬ C → Verdict H C (Err Contents)
Verdict-contents H C none plain = record {
  holds = (λ e. cc, λ h. absurd (none h));
  compressed = (λ e. cc, λ packed. absurd (plain packed));
  contents = (λ _. (plain, none), λ _. refl);
  no_memory = λ e. cc;
}
