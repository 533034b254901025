use Rattle.std.proofs.Common.{drop, ◌<◌, ◌+◌, ◌≡◌, get_or, length, ◌∙◌, sym, subst}
use Rattle.cidr_blocks.specs.Places.{rows_at}
use Rattle.cidr_blocks.proofs.OneByOne.{twice}
use Rattle.cidr_blocks.proofs.Once.{next_row}
use Rattle.cidr_blocks.proofs.judging.add_all.Goals as goal

pub returns-then-not-branch : goal.returns-then-not-branch
returns-then-not-branch c =
    let name = c.args.location.now.name in
    let blocks = c.args.location.now.blocks in
    let table = c.loop-block.table in
    let i = c.loop-block.block-index in
    let block = c.block-item.result in
    let same = c.as_slice-block-items.ensures in
    twice table block name c.add.new.table c.in_ok-add.field-0 c.in_ok-add.ensures
    c.if-not-branch.true (rows_at name (drop (i + 1) blocks)) _
    (sym c.loop-block.invariant.rows ∙ next_row table name blocks i block
    (subst (λ bs. i < length bs) same c.loop-block-test.true)
    (subst (λ bs. block ≡ get_or bs i block) same c.block-item.is))
