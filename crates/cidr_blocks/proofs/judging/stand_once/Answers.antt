use Rattle.std.proofs.Common.{drop, ◌+◌, ◌∙◌, sym}
use Rattle.cidr_blocks.specs.Places.{rows_at, rows_of}
use Rattle.cidr_blocks.proofs.OneByOne.{isnt, twice_among}
use Rattle.cidr_blocks.proofs.Once.{next_rows}
use Rattle.cidr_blocks.proofs.judging.stand_once.Goals as goal

pub returns-then-not-branch : goal.returns-then-not-branch
returns-then-not-branch c =
    let location = c.location-item.result in
    let locations = c.args.locations.now in
    let table = c.loop-location.table in
    let i = c.loop-location.location-index in
    isnt (twice_among table (rows_at location.name location.blocks) c.add_all.new.table
    c.in_ok-add_all.field-0 c.in_ok-add_all.ensures c.if-not-branch.true
    (rows_of (drop (i + 1) locations)) _
    (sym c.loop-location.invariant.rows ∙ next_rows table locations i location
    c.loop-location-test.true c.location-item.is))
