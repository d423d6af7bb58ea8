use Rattle.std.proofs.Common.{◌≡◌, ℕ, ◌+◌, ◌%◌, ◌<◌, ◌≤◌, length, arith}
use Rattle.block_layout.specs.NextPlaces.{usable_from}
use Rattle.record_io.proofs.Calls.{OnErr-any}
use Rattle.block_layout.proofs.Runs.{end_of-run}
use Rattle.ordered_writer.proofs.RunCalls.{TakesShort-header, TakesShort-run, TakesAndHolds-run}
use Rattle.ordered_writer.proofs.laying.Laying.put_run.Goals as goal
use Rattle.ordered_writer.proofs.laying.Laying.put_run.Goals.{After-min-count}

-- the run: behind the block header, up to the next block and the end at most, and of these bytes
record IsRun (first end n size : ℕ) : Type 0 where
  some : 0 < n
  enough : n ≤ size
  fits : first % 65536 + n ≤ 65536
  within : first + n ≤ end

run : (g : _) (c : After-min-count g) → IsRun (usable_from c.args.self.now.place) c.args.self.now.end c.min-count.result (length c.args.bytes.now)
run g c =
    let first : c.put_block_header.new.self.place ≡ usable_from c.args.self.now.place = c.in_ok-put_block_header.ensures.moved in
    let before : c.put_block_header.new.self.place < c.put_block_header.new.self.end = c.in_ok-put_block_header.ensures.before_end in
    record { some = omega arith; enough = omega arith; fits = omega arith; within = omega arith }

pub returns-in_err-put_block_header-clause-front : goal.returns-in_err-put_block_header-clause-front
returns-in_err-put_block_header-clause-front g c =
    let self = c.args.self.now in
    OnErr-any _ (TakesShort-header _ _ c.args.buffer.now self.begin self.end self.place c.args.bytes.now
    self.next_place self.to_boundary c.requires.before_end c.requires.some c.in_err-put_block_header.ensures.sink.front)

pub returns-in_err-put-clause-front : goal.returns-in_err-put-clause-front
returns-in_err-put-clause-front g c =
    let self = c.args.self.now in
    let r = run g (goal.at.returns-in_err-put-clause-front g c).After-min-count in
    OnErr-any _ (TakesShort-run _ _ _ c.args.buffer.now c.put_block_header.new.buffer self.begin self.end self.place c.min-count.result c.args.bytes.now
    self.next_place r.some r.enough r.fits r.within c.in_ok-put_block_header.ensures.sink.whole c.in_err-put.ensures.sink.front)

pub returns-clause-moved : goal.returns-clause-moved
returns-clause-moved g c =
    let self = c.args.self.now in
    let first : c.put_block_header.new.self.place ≡ usable_from self.place = c.in_ok-put_block_header.ensures.moved in
    let r = run g (goal.at.returns-clause-moved g c).After-min-count in
    omega (arith, first, end_of-run self.place c.min-count.result r.some self.next_place r.fits)

pub returns-clause-whole : goal.returns-clause-whole
returns-clause-whole g c =
    let self = c.args.self.now in
    let r = run g (goal.at.returns-clause-whole g c).After-min-count in
    rw c.in_ok-put_block_header.ensures.moved
    (TakesAndHolds-run _ _ _ c.args.buffer.now c.put_block_header.new.buffer c.put.new.self self.begin self.end self.place c.min-count.result c.args.bytes.now
    self.next_place r.enough r.fits c.in_ok-put_block_header.ensures.sink.whole c.in_ok-put.ensures.sink.whole)
