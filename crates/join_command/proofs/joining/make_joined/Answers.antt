use Rattle.command_frame.specs.Endings.{ArePast}
use Rattle.std.proofs.Common.{◌∙◌, ◌<◌, Some, refl, arith, rules, tests}
use Rattle.record_io.proofs.ManyStores.{same_bytes}
use Rattle.command_frame.proofs.AskedFiles.{asks-alone, asks-work}
use Rattle.record_join.specs.Joined.{joined_at_most}
use Rattle.command_frame.specs.FileAnswers.{most_file_bytes}
use Rattle.join_command.specs.JoinCommand.{AreTogetherInReach, join_meaning}
use Rattle.join_command.proofs.joining.make_joined.Goals as goal

pub returns-in_default-clause-files : goal.returns-in_default-clause-files
returns-in_default-clause-files g c =
    asks-alone g.S.Store.bytes g.S.Store.told g.S.Store.handed g.S.Store.name g.S.Store.faults join_meaning (ArePast AreTogetherInReach) (λ _. AreTogetherInReach) _
    c.args.files.now c.ask_sizes.new.files refl c.in_default.ensures.in_order (λ failed. refl) c.in_default.ensures.files

pub returns-then-not-are_in_reach-clause-files : goal.returns-then-not-are_in_reach-clause-files
returns-then-not-are_in_reach-clause-files g c =
    let long : most_file_bytes < joined_at_most c.ask_sizes.new.sizes = search (rules, tests) in
    asks-alone g.S.Store.bytes g.S.Store.told g.S.Store.handed g.S.Store.name g.S.Store.faults join_meaning (ArePast AreTogetherInReach) (λ _. AreTogetherInReach) _
    c.args.files.now c.ask_sizes.new.files (c.ask_sizes.new.sizes, c.in-Ok.ensures.told, λ reach. omega (arith, long, reach))
    c.in-Ok.ensures.in_order (λ failed. absurd (cc failed)) c.in-Ok.ensures.files

pub join_sized-requires : goal.join_sized-requires
join_sized-requires g c =
    let reach : AreTogetherInReach c.ask_sizes.new.sizes = search (rules, tests) in
    record { sized = record { some = search rules; are_told = c.in-Ok.ensures.told; in_reach = reach } }

pub returns-clause-joined : goal.returns-clause-joined
returns-clause-joined g c = λ all its.
    c.join_sized.ensures.joined all
    (same_bytes g.S.Store.bytes (λ file. Some (g.S.Store.handed file)) g.S.Store.name g.S.Store.faults c.args.files.now c.ask_sizes.new.files
    c.in-Ok.ensures.files.each
    ∙ its)

pub returns-clause-files : goal.returns-clause-files
returns-clause-files g c =
    let reach : AreTogetherInReach c.ask_sizes.new.sizes = search (rules, tests) in
    asks-work g.S.Store.bytes g.S.Store.told g.S.Store.handed g.S.Store.name g.S.Store.faults join_meaning (ArePast AreTogetherInReach) (λ _. AreTogetherInReach) c.join_sized.result
    c.args.files.now c.join_sized.new.files c.ask_sizes.new.files c.ask_sizes.new.sizes c.join_sized.ensures.allowed c.in-Ok.ensures.told
    reach c.join_sized.ensures.handed c.in-Ok.ensures.files c.join_sized.ensures.files
