use Rattle.std.proofs.Common.{◌≤◌, length, get_or, refl, ap, ◌∙◌, Fits}
use Rattle.std.specs.Int.{w8, w64, from_le_bytes}
use Rattle.highway_hash.specs.Riegeli.{riegeli_hash}
use Rattle.highway_hash.proofs.FrontHash.{BeginsWithHash-word}
use Rattle.highway_hash.proofs.hashed.begins_with_hash.Goals as goal

pub returns-in-Some : goal.returns-in-Some
returns-in-Some c =
    let long : 8 ≤ length c.args.bytes.now = c.in-Some.ensures.variant.0 refl in
    BeginsWithHash-word c.args.bytes.now c.from_le_bytes.result c.hash_lanes.result long
    (λ i. let byte : Fits w8 (get_or c.args.bytes.now i 0) = c.type_inv.bytes i in byte.fits)
    (c.from_le_bytes.ensures ∙ ap (from_le_bytes w64) c.in-Some.ensures.cases.0)
    (c.hash_lanes.ensures ∙ ap riegeli_hash c.in-Some.ensures.cases.1)
    c.hash_lanes.type_inv
