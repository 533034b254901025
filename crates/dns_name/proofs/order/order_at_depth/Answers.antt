use Rattle.std.proofs.Common.{◌≡◌, ◌+◌, arith, ap, ◌∙◌, length, drop, get_or}
use Rattle.dns_name.specs.Stored.{labels_of}
use Rattle.dns_name.proofs.Depth.{nearer}
use Rattle.dns_name.proofs.Steps.{step, some_left}
use Rattle.dns_name.proofs.order.order_at_depth.Goals as goal

pub loop-at-preserved : goal.loop-at-preserved
loop-at-preserved c =
    let i = c.loop-at.invariant in
    let s = step c.args.octets.now c.loop-at.at i.rest c.loop-at-test.true in
    let t = step c.args.others.now c.loop-at.other_at i.other_rest
    (some_left c.args.others.now c.loop-at.other_at i.other_rest
    (omega (arith, i.depth, ap length s.labels))) in
    let labels =
    labels_of
    (drop (c.loop-at.at + (get_or c.args.octets.now c.loop-at.at 0 + 1)) c.args.octets.now) in
    let others =
    labels_of
    (drop (c.loop-at.other_at + (get_or c.args.others.now c.loop-at.other_at 0 + 1))
    c.args.others.now) in
    let depth : length labels ≡ length others =
    omega (arith, i.depth, ap length s.labels, ap length t.labels) in
    record {
      rest = s.rest;
      other_rest = t.rest;
      within = omega (arith, s.room);
      depth = depth;
      same = i.same
          ∙ nearer _ _ _ _ labels others c.part.result.now c.part-in-loop-at.result.now
          c.loop-at.order
          c.label_order.result c.then-order.result s.labels t.labels depth c.part.ensures
          c.part-in-loop-at.ensures
          c.label_order.ensures c.then-order.ensures;
    }
