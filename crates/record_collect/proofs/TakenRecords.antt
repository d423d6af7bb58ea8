-- What is held of records that come chunk by chunk.
use Rattle.std.proofs.Common.{◌≡◌, ◌∙◌, ℕ, List, [], ◌∷◌, ◌++◌, sym, ap, subst}
use Rattle.std.proofs.lemmas.List.{append-nil}
use Rattle.std.proofs.lemmas.List.Concat.{flat_map-append}
use Rattle.record_collect.specs.declared.collector.Batch.{Batch}
use Rattle.record_collect.specs.declared.feeding.Fed.{Fed}
use Rattle.record_collect.specs.declared.feeding.Fed.TheVariants.{Whole, TooLong}
use Rattle.record_collect.specs.Batches.{HasLong}
use Rattle.record_collect.specs.Passes.{CollectorValue, IsFilled, IsReserved, PassValue, ReservedValue, pass_records}
use Rattle.record_collect.specs.Takings.{BelongsWhere, HoldsOn, IsReadyFed}
use Rattle.record_collect.proofs.InTurn.{long_behind}

-- a pass of which nothing was put belongs to its collector and goes on
pub ready_belongs : (collector : CollectorValue) (fed : Fed) → IsReadyFed collector fed → BelongsWhere collector fed
ready_belongs collector fed (pass, is, ready) = subst (BelongsWhere collector) (sym is) (ready.0, ready.1.1)

-- the records for which a pass took its step are put behind its own
pub holds_put : (pass new : PassValue) (reserved : ReservedValue) (cost_then : ℕ) (more : List (List ℕ)) → IsReserved pass cost_then reserved → IsFilled reserved more new
    → HoldsOn (Whole pass) (Whole new) more
holds_put pass new reserved cost_then more from filled = record { behind = λ records has. (all records has.0, ap (λ (p : PassValue). p.ended) filled) }
  where
    all : (records : List (List ℕ)) → pass_records pass ≡ records → pass_records new ≡ records ++ more
    all records has =
        let one : Batch = record { at = reserved.at; records = more } in
        ap pass_records filled
        ∙ flat_map-append (λ (b : Batch). b.records) reserved.mine (one ∷ [])
        ∙ ap (λ (mine : List Batch). pass_records (record pass { mine = mine }) ++ (more ++ [])) from.mine
        ∙ ap (λ (l : List (List ℕ)). l ++ (more ++ [])) has
        ∙ ap (λ (l : List (List ℕ)). records ++ l) (append-nil more)

-- one of them is too long
pub holds_none : (before : Fed) (more : List (List ℕ)) → HasLong more → HoldsOn before TooLong more
holds_none before more long = record { behind = λ records has. long_behind records more long }
