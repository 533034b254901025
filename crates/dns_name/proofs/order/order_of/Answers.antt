use Rattle.std.proofs.Common.{◌≡◌, ◌-◌, arith, ap, sym, ◌∙◌, length, length-drop, drop, Less, Greater}
use Rattle.std.specs.Ordering.{ordering_then}
use Rattle.dns_name.specs.Order.{zone_cmp}
use Rattle.dns_name.specs.Stored.{labels_of}
use Rattle.dns_name.proofs.Depth.{shorter, longer}
use Rattle.dns_name.proofs.order.order_of.Goals as goal

pub returns-then-n-m : goal.returns-then-n-m
returns-then-n-m c =
    let labels = labels_of c.args.octets.now in
    let others = labels_of c.args.others.now in
    let k = c.count-m.result - c.count-n.result in
    let depth : length labels ≡ length (drop k others) =
    omega (arith, length-drop k others, c.count-n.ensures, c.count-m.ensures, c.if-n-m.true) in
    c.order_at_depth.ensures
    ∙ ap (λ ls. ordering_then (zone_cmp labels ls) Less) (ap labels_of c.behind.ensures
    ∙ c.skip.ensures.skipped)
    ∙ sym (shorter labels others k (omega (arith, c.if-n-m.true)) (omega (arith, c.count-m.ensures))
    depth)

pub returns-then-m-n : goal.returns-then-m-n
returns-then-m-n c =
    let labels = labels_of c.args.octets.now in
    let others = labels_of c.args.others.now in
    let k = c.count-n.result - c.count-m.result in
    let depth : length (drop k labels) ≡ length others =
    omega (arith, length-drop k labels, c.count-n.ensures, c.count-m.ensures, c.if-m-n.true) in
    c.order_at_depth-then-m-n.ensures
    ∙ ap (λ ls. ordering_then (zone_cmp ls others) Greater) (ap labels_of c.behind-then-m-n.ensures
    ∙ c.skip-then-m-n.ensures.skipped)
    ∙ sym (longer labels others k (omega (arith, c.if-m-n.true)) (omega (arith, c.count-n.ensures))
    depth)
