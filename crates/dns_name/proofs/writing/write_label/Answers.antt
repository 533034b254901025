use Rattle.std.proofs.Common.{arith}
use Rattle.dns_name.proofs.Placing.{placed_octet}
use Rattle.dns_name.proofs.writing.write_label.Goals as goal

pub loop-b-preserved : goal.loop-b-preserved
loop-b-preserved c =
    let i = c.loop-b.invariant in
    let w = c.write_octet-end.ensures in
    let p = placed_octet c.args.into.now c.loop-b.into c.args.label.now c.write_octet-end.new.into
    c.args.at c.loop-b.end
    c.loop-b.b-index c.write_octet-end.result c.loop-b-test.true i.behind i.so_far (omega (
      arith,
      w.within,
      i.within,
      c.requires,
    )) w.written w.end in
    record { behind = p.0; so_far = p.1; within = omega (arith, w.within, i.within) }
