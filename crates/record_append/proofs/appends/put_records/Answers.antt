use Rattle.std.proofs.Common.{◌≡◌, ◌∙◌, ◌^◌, ◌<◌, IfSome, ap, sym, arith, rules}
use Rattle.record_io.specs.Outside.{Lent}
use Rattle.record_writer.specs.Written.{file_under}
use Rattle.record_writer.specs.WriteAnswers.{TakesFile, tail_under}
use Rattle.record_append.specs.Devices.{bytes_before, bytes_from}
use Rattle.record_append.proofs.PutRecords.{answered_at-front, bytes_at-behind, bytes_at-front, held_more, named_loan, named_size, put_behind, told_still}
use Rattle.record_append.proofs.appends.put_records.Goals as goal

pub returns-then-place-eq0-clause-answer : goal.returns-then-place-eq0-clause-answer
returns-then-place-eq0-clause-answer g c =
    answered_at-front c.args.options.now c.args.place c.write_records.result (g.L.RecordFeed.rest c.args.feed.now) c.if-place-eq0.true
    c.write_records.ensures.answer

pub returns-then-place-eq0-clause-put : goal.returns-then-place-eq0-clause-put
returns-then-place-eq0-clause-put g c =
    let sink = c.write_records.new.made in
    let bytes = g.G.Store.bytes in
    let below : c.args.size < 2 ^ 64 = search rules in
    let loan = named_loan _ _ sink.size c.args.size sink.small below (ap (λ (l : Lent). l.name) (c.write_records.ensures.made_counts.same_lent ∙ c.new-sink.ensures.lent)) in
    let rests = g.L.RecordFeed.rest c.args.feed.now in
    let held = c.device-1.given.0 in
    let is : held ≡ sink.device.now = search (rules, loan) in
    let before : bytes_before sink.at (bytes sink.device.now) ≡ bytes c.args.device.now =
    ap (λ (l : Lent). l.front) (c.write_records.ensures.made_counts.same_lent ∙ c.new-sink.ensures.lent) in
    bytes_at-front c.args.options.now c.args.place c.if-place-eq0.true
    (λ f. IfSome rests (λ rest. TakesFile c.write_records.result (bytes c.args.device.now) (bytes held) (f rest.records)))
    (put_behind c.write_records.result rests (bytes c.args.device.now) _ _ (bytes held) sink.at
    (file_under c.args.options.now)
    c.new-sink.ensures.taken (ap (λ d. bytes_before sink.at (bytes d)) is ∙ before) (ap (λ d. bytes_from sink.at (bytes d)) (sym is))
    c.write_records.ensures.made)

pub returns-else-place-eq0-clause-put : goal.returns-else-place-eq0-clause-put
returns-else-place-eq0-clause-put g c =
    let sink = c.write_after.new.made in
    let bytes = g.G.Store.bytes in
    let below : c.args.size < 2 ^ 64 = search rules in
    let loan = named_loan _ _ sink.size c.args.size sink.small below (ap (λ (l : Lent). l.name) (c.write_after.ensures.written.made_counts.same_lent ∙ c.new-sink.ensures.lent)) in
    let rests = g.L.RecordFeed.rest c.args.feed.now in
    let held = c.device-else-place-eq0-1.given.0 in
    let is : held ≡ sink.device.now = search (rules, loan) in
    let before : bytes_before sink.at (bytes sink.device.now) ≡ bytes c.args.device.now =
    ap (λ (l : Lent). l.front) (c.write_after.ensures.written.made_counts.same_lent ∙ c.new-sink.ensures.lent) in
    bytes_at-behind c.args.options.now c.args.place (λ same. omega (arith, same, c.if-place-eq0.false))
    (λ f. IfSome rests (λ rest. TakesFile c.write_after.result (bytes c.args.device.now) (bytes held) (f rest.records)))
    (put_behind c.write_after.result rests (bytes c.args.device.now) _ _ (bytes held) sink.at
    (tail_under c.args.options.now c.args.place)
    c.new-sink.ensures.taken (ap (λ d. bytes_before sink.at (bytes d)) is ∙ before) (ap (λ d. bytes_from sink.at (bytes d)) (sym is))
    c.write_after.ensures.written.made)

pub returns-then-place-eq0-clause-behind : goal.returns-then-place-eq0-clause-behind
returns-then-place-eq0-clause-behind g c =
    let sink = c.write_records.new.made in
    let bytes = g.G.Store.bytes in
    let below : c.args.size < 2 ^ 64 = search rules in
    let loan = named_loan _ _ sink.size c.args.size sink.small below (ap (λ (l : Lent). l.name) (c.write_records.ensures.made_counts.same_lent ∙ c.new-sink.ensures.lent)) in
    let held = c.device-1.given.0 in
    let is : held ≡ sink.device.now = search (rules, loan) in
    held_more (bytes c.args.device.now) (bytes held) sink.at
    (ap (λ d. bytes_before sink.at (bytes d)) is
    ∙ ap (λ (l : Lent). l.front) (c.write_records.ensures.made_counts.same_lent ∙ c.new-sink.ensures.lent))

pub returns-else-place-eq0-clause-behind : goal.returns-else-place-eq0-clause-behind
returns-else-place-eq0-clause-behind g c =
    let sink = c.write_after.new.made in
    let bytes = g.G.Store.bytes in
    let below : c.args.size < 2 ^ 64 = search rules in
    let loan = named_loan _ _ sink.size c.args.size sink.small below (ap (λ (l : Lent). l.name) (c.write_after.ensures.written.made_counts.same_lent ∙ c.new-sink.ensures.lent)) in
    let held = c.device-else-place-eq0-1.given.0 in
    let is : held ≡ sink.device.now = search (rules, loan) in
    held_more (bytes c.args.device.now) (bytes held) sink.at
    (ap (λ d. bytes_before sink.at (bytes d)) is
    ∙ ap (λ (l : Lent). l.front) (c.write_after.ensures.written.made_counts.same_lent ∙ c.new-sink.ensures.lent))

pub returns-then-place-eq0-clause-still_told : goal.returns-then-place-eq0-clause-still_told
returns-then-place-eq0-clause-still_told g c =
    let sink = c.write_records.new.made in
    let told = g.G.Store.told in
    let held = c.device-1.given.0 in
    let below : c.args.size < 2 ^ 64 = search rules in
    let names = ap (λ (l : Lent). l.name) (c.write_records.ensures.made_counts.same_lent ∙ c.new-sink.ensures.lent) in
    let loan = named_loan _ _ sink.size c.args.size sink.small below names in
    let is : held ≡ sink.device.now = search (rules, loan) in
    told_still sink.size c.args.size (told sink.device.now) (told held) (named_size _ _ sink.size c.args.size sink.small below names) (ap told is) sink.told

pub returns-else-place-eq0-clause-still_told : goal.returns-else-place-eq0-clause-still_told
returns-else-place-eq0-clause-still_told g c =
    let sink = c.write_after.new.made in
    let told = g.G.Store.told in
    let held = c.device-else-place-eq0-1.given.0 in
    let below : c.args.size < 2 ^ 64 = search rules in
    let names = ap (λ (l : Lent). l.name) (c.write_after.ensures.written.made_counts.same_lent ∙ c.new-sink.ensures.lent) in
    let loan = named_loan _ _ sink.size c.args.size sink.small below names in
    let is : held ≡ sink.device.now = search (rules, loan) in
    told_still sink.size c.args.size (told sink.device.now) (told held) (named_size _ _ sink.size c.args.size sink.small below names) (ap told is) sink.told

pub returns-then-place-eq0-clause-device : goal.returns-then-place-eq0-clause-device
returns-then-place-eq0-clause-device g c =
    let sink = c.write_records.new.made in
    let below : c.args.size < 2 ^ 64 = search rules in
    let loan = named_loan _ _ sink.size c.args.size sink.small below (ap (λ (l : Lent). l.name) (c.write_records.ensures.made_counts.same_lent ∙ c.new-sink.ensures.lent)) in
    let is : c.device-1.given.0 ≡ sink.device.now = search (rules, loan) in
    search (rules, is)

pub returns-else-place-eq0-clause-device : goal.returns-else-place-eq0-clause-device
returns-else-place-eq0-clause-device g c =
    let sink = c.write_after.new.made in
    let below : c.args.size < 2 ^ 64 = search rules in
    let loan = named_loan _ _ sink.size c.args.size sink.small below (ap (λ (l : Lent). l.name) (c.write_after.ensures.written.made_counts.same_lent ∙ c.new-sink.ensures.lent)) in
    let is : c.device-else-place-eq0-1.given.0 ≡ sink.device.now = search (rules, loan) in
    search (rules, is)
