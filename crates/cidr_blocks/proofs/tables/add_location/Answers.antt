use Rattle.std.proofs.Common.{drop, ◌<◌, ◌+◌, ◌≡◌, get_or, length, ◌∙◌, sym, subst}
use Rattle.cidr_blocks.specs.Places.{StandOnce, rows_at}
use Rattle.cidr_blocks.proofs.Once.{fresh, next_row}
use Rattle.cidr_blocks.proofs.tables.add_location.Goals as goal

pub add_block-requires-clause-fresh : goal.add_block-requires-clause-fresh
add_block-requires-clause-fresh c =
    let name = c.args.location.now.name in
    let blocks = c.args.location.now.blocks in
    let i = c.loop-block.block-index in
    let block = c.block-item.result in
    let same = c.as_slice-block-items.ensures in
    fresh c.loop-block.table block name (rows_at name (drop (i + 1) blocks))
    (subst StandOnce
    (sym c.loop-block.invariant ∙ next_row c.loop-block.table name blocks i block
    (subst (λ bs. i < length bs) same c.loop-block-test.true)
    (subst (λ bs. block ≡ get_or bs i block) same c.block-item.is)) c.requires.once)
