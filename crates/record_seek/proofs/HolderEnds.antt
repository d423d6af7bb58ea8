-- Why no chunk is found that holds a position.
use Rattle.std.proofs.Common.{◌≡◌, ℕ, ◌<◌, Option, Some, None, IfSome, List, subst, inl, inr, arith}
use Rattle.block_layout.specs.Layout.{block_of}
use Rattle.chunk_reader.specs.Holders.{TellsBegin, IsBlockFault, IsOnWay, IsHolderFault}
use Rattle.chunk_reader.specs.declared.reasons.Fault.{Fault}
use Rattle.chunk_reader.specs.declared.reasons.VerifyEnd.{VerifyEnd}
use Rattle.chunk_reader.specs.declared.reasons.VerifyEnd.TheVariants as verify
use Rattle.chunk_reader.proofs.Rooms.{IsSized}
use Rattle.record_seek.specs.Ends.{holder_end_of}
use Rattle.record_seek.specs.declared.holders.HolderEnd.TheVariants as holder
use Rattle.record_seek.proofs.Ways.{same_told, IsRefusedAt}

-- a fault comes from one before
pub refused_before : (end : VerifyEnd) (fault : Fault) → holder.Refused fault ≡ holder_end_of end → end ≡ verify.Refused fault
refused_before (verify.Refused other) fault same = cc
refused_before verify.Store fault same = cc

-- the block at or before the position has it
pub refused-block : (bytes : Option (List ℕ)) (size at block : ℕ) (fault : Fault) → IsSized bytes (Some size) → at < size → block ≡ block_of at
    → IfSome bytes (λ file. IsBlockFault file block fault) → IfSome bytes (λ file. IsHolderFault file at fault)
refused-block None size at block fault sized below is refused = tt
refused-block (Some file) size at block fault sized below is refused =
    inl (omega (arith, sized, below), subst (λ (b : ℕ). IsBlockFault file b fault) is refused)

-- or a chunk on the way from the begin that this tells
pub refused-way : (bytes now : Option (List ℕ)) (at block begin : ℕ) (fault : Fault) → now ≡ bytes → block ≡ block_of at
    → IfSome bytes (λ file. TellsBegin file block begin)
    → IfSome now (λ file. TellsBegin file (block_of at) begin → IsOnWay file at fault.at × IsRefusedAt fault file)
    → IfSome bytes (λ file. IsHolderFault file at fault)
refused-way None now at block begin fault same is told refused = tt
refused-way (Some file) now at block begin fault same is told refused =
    let on = same_told (λ f. TellsBegin f (block_of at) begin → IsOnWay f at fault.at × IsRefusedAt fault f) (Some file) now same refused in
    inr (on (subst (λ (b : ℕ). TellsBegin file b begin) is told))
