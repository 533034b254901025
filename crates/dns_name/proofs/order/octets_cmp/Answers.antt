use Rattle.std.proofs.Common.{◌∙◌, ap}
use Rattle.dns_name.specs.Order.{zone_cmp}
use Rattle.dns_name.specs.Stored.{labels_of}
use Rattle.dns_name.proofs.Steps.{name_wire}
use Rattle.dns_name.proofs.order.octets_cmp.Goals as goal

pub order_of-requires-clause-octets : goal.order_of-requires-clause-octets
order_of-requires-clause-octets c = let r = c.requires.octets in
    (name_wire c.args.octets.now r.0 r.1 r.2).0

pub order_of-requires-clause-others : goal.order_of-requires-clause-others
order_of-requires-clause-others c = let r = c.requires.others in
    (name_wire c.args.others.now r.0 r.1 r.2).0

pub returns : goal.returns
returns c = λ name other h k e f.
    c.order_of.ensures
    ∙ ap (λ ls. zone_cmp ls (labels_of c.args.others.now)) (name_wire c.args.octets.now name h e).1
    ∙ ap (λ ls. zone_cmp name ls) (name_wire c.args.others.now other k f).1
