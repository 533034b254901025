use Rattle.std.proofs.Common.{◌≡◌, length, Some, refl, arith}
use Rattle.std.specs.Prelude.{slice_get}
use Rattle.std.proofs.lemmas.Option.{slice_get_read}
use Rattle.zone_table.proofs.Sizes.{cells_more, longest_more}
use Rattle.zone_table.proofs.needs.sizes_of.Goals as goal

pub loop-set-preserved : goal.loop-set-preserved
loop-set-preserved c =
    let add = c.args.add.now in
    let i = c.loop-set.set-index in
    let test = c.loop-set-test.true in
    let at : slice_get add i ≡ Some c.set-item.result =
    slice_get_read add (length add) i c.set-item.result refl (omega (arith, test)) c.set-item.is in
    let is = c.max-most.ensures in
    let len = c.set_len-len.ensures in
    let most = longest_more add i c.loop-set.most c.max-most.result c.set-item.result c.loop-set.invariant.most
    (omega (arith, is)) (omega (arith, is, len)) at in
    let cells = cells_more add i c.set-item.result at in
    let sum = c.in-Some.ensures in
    let one = c.cells_for.ensures in
    let cells_now = c.loop-set.invariant.cells in
    record { cells = omega (arith, cells, sum.1, one, len, cells_now); most = most }
