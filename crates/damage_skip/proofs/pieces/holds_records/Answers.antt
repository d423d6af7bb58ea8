use Rattle.std.proofs.Common.{[], subst, List, ℕ, rules}
use Rattle.chunk_header.specs.Views.{value_of}
use Rattle.chunk_reader.proofs.BadContents.{bad_simple}
use Rattle.simple_chunk.specs.Checkers.{HasChecked}
use Rattle.damage_skip.proofs.pieces.holds_records.Goals as goal
use Rattle.damage_skip.proofs.pieces.holds_records.Goals.{After-feed}

-- the checker took all of the data
checked : (c : After-feed) → HasChecked c.feed.new.self c.args.chunk.now.header c.args.chunk.now.bytes
checked c =
    let header = c.args.chunk.now.header in
    subst (λ (xs : List ℕ). HasChecked c.feed.new.self header xs) c.as_slice.ensures.value (c.feed.ensures.checked header [] c.new-checker.ensures.checked)

pub returns-in-Ok-clause-some : goal.returns-in-Ok-clause-some
returns-in-Ok-clause-some c = λ _.
    (c.finish.ensures.holds c.args.chunk.now.header c.args.chunk.now.bytes (checked (goal.at.returns-in-Ok-clause-some c).After-feed)).0 (search rules)

pub returns-in-Err-Contents-clause-none : goal.returns-in-Err-Contents-clause-none
returns-in-Err-Contents-clause-none c = λ _.
    let chunk = c.args.chunk.now in
    let none = (c.finish.ensures.contents chunk.header chunk.bytes (checked (goal.at.returns-in-Err-Contents-clause-none c).After-feed)).0 (search rules) in
    bad_simple (value_of chunk.header chunk.bytes) (search rules) none.0 none.1
