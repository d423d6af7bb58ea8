use Rattle.std.proofs.Common.{Some, None, IfSome, refl, arith, rules}
use Rattle.block_layout.proofs.Ends.{end_of_after, end_of_room}
use Rattle.chunk_reader.proofs.Loads.{header_within}
use Rattle.damage_skip.specs.Steps.{LeadsTo}
use Rattle.damage_skip.proofs.Fills.{told_within, loaded_whole}
use Rattle.damage_skip.proofs.Leads.{agreed-none, stopped_in_chunk-leads}
use Rattle.damage_skip.proofs.Takings.{stops_at_block, stops_nowhere}
use Rattle.damage_skip.proofs.chunk_loads.load.Goals as goal
use Rattle.damage_skip.proofs.chunk_loads.load.Goals.{In-Ok}

pub read_data-requires-clause-span : goal.read_data-requires-clause-span
read_data-requires-clause-span g c = record {
  within = told_within _ c.args.size c.args.end c.requires.within.sized.is_told c.requires.within.within;
  in_reach = omega (arith, c.requires.within.within, c.requires.within.sized.in_reach);
  from_boundary = c.requires.within.from_boundary;
  is_end = c.requires.within.is_end;
}

pub read_data-requires-clause-judges : goal.read_data-requires-clause-judges
read_data-requires-clause-judges g c = record {
  fits = c.requires.within.sized;
  begun = omega arith;
  ordered = omega (arith, c.requires.within.is_end, header_within c.args.at c.args.header.data_size c.args.header.num_records, end_of_after c.args.at 40);
  within = omega (arith, c.requires.within.within);
}

-- no block header within tells of another chunk
agreed : (g : _) (c : In-Ok g) → IfSome (g.S.Store.bytes c.args.store.now) (λ file. LeadsTo file c.args.at c.args.end c.args.at c.args.end None)
agreed g c = agreed-none _ c.args.at c.args.end (Some c.args.end) c.args.at c.args.end refl c.in-Ok.ensures.accepted

pub returns-in_err-data-clause-store : goal.returns-in_err-data-clause-store
returns-in_err-data-clause-store g c = record {
  asks = search rules;
  handed = omega (
    arith,
    end_of_room c.args.at 40,
    header_within c.args.at c.args.header.data_size c.args.header.num_records,
    c.requires.within.is_end,
  );
}

pub returns-in-Ok-clause-sound : goal.returns-in-Ok-clause-sound
returns-in-Ok-clause-sound g c =
    let loaded = c.in_ok-chunk-in-Ok in
    loaded_whole _ c.args.at c.args.end c.args.header loaded.chunk loaded.right
    (rw loaded.ensures.chunk.bytes c.in-Ok.ensures.taken) (agreed g (goal.at.returns-in-Ok-clause-sound g c).In-Ok)

pub returns-in-Ok-clause-stops : goal.returns-in-Ok-clause-stops
returns-in-Ok-clause-stops g c =
    stops_nowhere _ c.args.at c.args.end _ (agreed g (goal.at.returns-in-Ok-clause-stops g c).In-Ok)

pub returns-in-Err-Refused-clause-loaded : goal.returns-in-Err-Refused-clause-loaded
returns-in-Err-Refused-clause-loaded g c =
    rw c.in-Err-Refused.field-0-is (c.in-Err-Refused.ensures.refused c.in-Err-Refused.landing (cc)).0

pub returns-in-Err-Refused-clause-sound : goal.returns-in-Err-Refused-clause-sound
returns-in-Err-Refused-clause-sound g c =
    let landing = c.in-Err-Refused.landing in
    rw c.in-Err-Refused.field-0-is
    (stopped_in_chunk-leads _ c.args.at c.args.end (Some c.args.end) landing _ refl (c.in-Err-Refused.ensures.refused landing (cc)).1)

pub returns-in-Err-Refused-clause-stops : goal.returns-in-Err-Refused-clause-stops
returns-in-Err-Refused-clause-stops g c =
    let landing = c.in-Err-Refused.landing in
    stops_at_block _ c.args.at c.args.end (Some c.args.end) landing _ refl (c.in-Err-Refused.ensures.refused landing (cc)).1
