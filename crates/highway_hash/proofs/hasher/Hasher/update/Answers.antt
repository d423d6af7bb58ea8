use Rattle.std.proofs.Common.{◌≡◌, ◌+◌, ◌-◌, ◌<◌, ◌++◌, List, ℕ, length, ap, ◌∙◌, arith}
use Rattle.std.proofs.lemmas.Grind.{common_steps}
use Rattle.std.proofs.lemmas.List.{append_assoc, take-append-drop}
use Rattle.highway_hash.specs.Hashers.{hasher_of}
use Rattle.highway_hash.proofs.HasherSteps.{packet_completed, held_more, packets_taken}
use Rattle.highway_hash.proofs.hasher.Hasher.update.Goals as goal

pub returns-then-piece-room : goal.returns-then-piece-room
returns-then-piece-room c key bytes e =
    let short : length c.args.self.now.held + length c.args.piece.now < 32 = grind (arith, common_steps) in
    c.hold.ensures ∙ held_more c.args.self.now key bytes c.args.piece.now e short

pub returns : goal.returns
returns c key bytes e =
    let piece : List ℕ = c.args.piece.now in
    let front : List ℕ = c.split_at.result.0.now in
    let behind : List ℕ = c.split_at.result.1.now in
    let whole : length c.args.self.now.held + length front ≡ 32 = grind (arith, common_steps) in
    let completed = c.complete.ensures ∙ packet_completed c.args.self.now key bytes front e whole in
    let none = ap (λ h. h.held) c.complete.ensures in
    let joined : front ++ behind ≡ piece = rw (c.split_at.ensures.front, c.split_at.ensures.back) (take-append-drop (32 - c.self.inside.count) piece) in
    c.take-2.ensures ∙ packets_taken c.complete.new.self key (bytes ++ front) behind completed none
    ∙ ap (hasher_of key) (append_assoc bytes front behind ∙ ap (λ (ys : List ℕ). bytes ++ ys) joined)
