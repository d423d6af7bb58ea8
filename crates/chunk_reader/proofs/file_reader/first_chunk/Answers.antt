use Rattle.std.proofs.Common.{◌≡◌, refl, rules}
use Rattle.chunk_header.specs.Views.{value_of_chunk}
use Rattle.meta_chunk.specs.Files.{signature}
use Rattle.chunk_reader.proofs.FirstChunks.{first_judged, first_judged_in}
use Rattle.chunk_reader.proofs.file_reader.first_chunk.Goals as goal
use Rattle.chunk_reader.proofs.file_reader.first_chunk.Goals.{After-new-2}

is_signature : (g : _) (c : After-new-2 g) → value_of_chunk c.new-2.result ≡ signature
is_signature g c = search rules

pub returns-clause-judged : goal.returns-clause-judged
returns-clause-judged g c =
    let is = is_signature g (goal.at.returns-clause-judged g c).After-new-2 in
    λ unread_ok. first_judged unread_ok c.args.size _ c.in_ok-check_signature.ensures.long refl refl refl is c.new-2.ensures.right

pub returns-clause-sound : goal.returns-clause-sound
returns-clause-sound g c =
    let is = is_signature g (goal.at.returns-clause-sound g c).After-new-2 in
    λ unread_ok. first_judged_in unread_ok _ _ c.in_ok-check_signature.ensures.signed is refl
