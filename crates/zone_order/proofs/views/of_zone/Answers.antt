use Rattle.zone_order.specs.Orders.{set_in}
use Rattle.zone_order.proofs.Orders.{of_zone}
use Rattle.zone_order.proofs.views.of_zone.Goals as goal

pub returns : goal.returns
returns c = of_zone (set_in c.args.store.now.slots c.args.zone) c.args.order.now c.requires
