-- What is given and said past damage, judged by hand, computed from the definitions.
use Rattle.std.proofs.Common.{◌≡◌, ℕ, true, Option, Some, None, List, [], ◌∷◌, ◌++◌, codes, refl}
use Rattle.std.specs.List.{flat_map}
use Rattle.std.specs.Fmt.{digits}
use Rattle.record_io.specs.Puts.{Put, Out, Notes, puts_to}
use Rattle.chunk_header.specs.Chunks.{ChunkValue}
use Rattle.damage_skip.specs.Pieces.{Records, SignatureOrPadding, Skipped, Piece}
use Rattle.recover_command.specs.RecoverCommand.{event_puts}
use Rattle.damage_skip.specs.Bounds.{walked, refused_in}
use Rattle.damage_skip.specs.Regions.{regions_in, stopped_text}
use Rattle.recover_command.specs.WalkAnswers.{walk_status}
use Rattle.chunk_reader.specs.declared.reasons.Why.TheVariants as why
use Rattle.command_frame.specs.declared.status.Status.TheVariants as status
use Rattle.show_command.specs.declared.show_words.RecordForm.{RecordForm}
use Rattle.show_command.specs.Readings.{bare}

-- records with their positions
abbrev with_positions : RecordForm
with_positions = record bare { positions = true }

-- two regions of 44 and of 30045 bytes with a chunk between them that gives nothing
abbrev two : List Piece
two =
    record { begin = 64; end = 108; what = Skipped why.HeaderHash }
    ∷ record { begin = 108; end = 30109; what = SignatureOrPadding }
    ∷ record { begin = 30109; end = 60154; what = Skipped why.DataHash }
    ∷ []

-- what is put of these under a bound
abbrev puts_under : Option ℕ → List Put
puts_under most = flat_map (event_puts bare) (walked most two) ++ puts_to Notes (stopped_text (refused_in most two))

-- without a bound, and with one of just so many bytes, both are skipped
unbounded : walked None two ≡ two
unbounded = refl

none_refused : refused_in None two ≡ None
none_refused = refl

just_so_many : walked (Some 30045) two ≡ two
just_so_many = refl

both_told : puts_under None ≡ puts_to Notes (codes "skipped 64 108 HeaderHash\nskipped 30109 60154 DataHash\n")
unfolding digits
both_told = refl

both_skipped : walk_status (regions_in two) None ≡ status.Skipped
both_skipped = refl

-- with one byte fewer the walk stops at the second, and what was skipped before is told
stopped_at : refused_in (Some 30044) two ≡ Some (record { begin = 30109; end = 60154; why = why.DataHash })
stopped_at = refl

stop_told : puts_under (Some 30044) ≡ puts_to Notes (codes "skipped 64 108 HeaderHash\nstopped 30109 60154 DataHash\n")
unfolding digits
stop_told = refl

stopped_there : walk_status (regions_in (walked (Some 30044) two)) (refused_in (Some 30044) two) ≡ status.Stopped
stopped_there = refl

-- and at the first, where not so much may be skipped
stop_first : puts_under (Some 43) ≡ puts_to Notes (codes "stopped 64 108 HeaderHash\n")
unfolding digits
stop_first = refl

-- a file of no region
nothing_told : flat_map (event_puts bare) [] ≡ []
nothing_told = refl

nothing_skipped : walk_status (regions_in []) None ≡ status.Ok
nothing_skipped = refl

-- a region between two chunks of records is told between their lines
region_between : (first second : ChunkValue)
    → flat_map (event_puts with_positions) (
    record { begin = 64; end = 110; what = Records (codes "a" ∷ codes "b" ∷ []) first }
    ∷ record { begin = 110; end = 154; what = Skipped why.HeaderHash }
    ∷ record { begin = 154; end = 196; what = Records (codes "c" ∷ []) second }
    ∷ []
    )
    ≡ puts_to Out (codes "64 a\n65 b\n") ++ puts_to Notes (codes "skipped 110 154 HeaderHash\n") ++ puts_to Out (codes "154 c\n")
unfolding digits
region_between first second = refl
