use Rattle.std.proofs.Common.{drop, ◌++◌, ◌+◌, ◌∙◌, sym, subst}
use Rattle.cidr_blocks.specs.Places.{StandOnce, rows_at, rows_of}
use Rattle.cidr_blocks.proofs.Once.{front, next_rows}
use Rattle.cidr_blocks.proofs.tables.table_of.Goals as goal

pub add_location-requires-clause-once : goal.add_location-requires-clause-once
add_location-requires-clause-once c =
    let location = c.location-item.result in
    let locations = c.args.locations.now in
    let i = c.loop-location.location-index in
    front (c.loop-location.table ++ rows_at location.name location.blocks)
    (rows_of (drop (i + 1) locations))
    (subst StandOnce
    (sym c.loop-location.invariant ∙ next_rows c.loop-location.table locations i location
    c.loop-location-test.true c.location-item.is) c.requires.once)
