use Rattle.std.proofs.Common.{◌≡◌, rules}
use Rattle.record_values.specs.Bytes.{AreBytes}
use Rattle.record_values.proofs.ByteLists.{AreBytes-append, AreBytes-each}
use Rattle.record_values.proofs.byte_list.Bytes.push_all.Goals as goal
use Rattle.record_values.proofs.byte_list.Bytes.push_all.Goals.{In_ok-extend_from_slice-in-Shared}

pub invariant_of-self : goal.invariant_of-self
invariant_of-self c =
    let old : AreBytes c.in-Own.bytes.items = rw c.in-Own.is at c.self.invariant in
    rw c.in_ok-extend_from_slice-in-Own.ensures.items (AreBytes-append _ _ old (AreBytes-each _ c.type_inv.piece))

-- what was shared, and the piece
grown : (c : In_ok-extend_from_slice-in-Shared) → AreBytes c.extend_from_slice-in-Shared.new.self.items
grown c =
    let old : AreBytes c.in-Shared.bytes = rw c.in-Shared.is at c.self.invariant in
    let copied : c.in_ok-own-in-Shared.own.items ≡ c.in-Shared.bytes = search rules in
    rw (c.in_ok-extend_from_slice-in-Shared.ensures.items, copied) (AreBytes-append _ _ old (AreBytes-each _ c.type_inv.piece))

pub invariant_of-self-in-Shared : goal.invariant_of-self-in-Shared
invariant_of-self-in-Shared c = grown (goal.at.invariant_of-self-in-Shared c).In_ok-extend_from_slice-in-Shared
