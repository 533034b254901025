use Rattle.zone_allowed.proofs.Naming.{by_name, named}
use Rattle.zone_allowed.proofs.allowed.has_name.Goals as goal

pub returns : goal.returns
returns c = (
  λ h. named c.args.zones.now.zones c.well_formed-2.ensures c.args.name.now c.in-Some-apex.apex
      c.in-Some.zone c.in-Some.ensures c.in-Some-apex.ensures (c.is_same.ensures.0 h),
  λ has. c.is_same.ensures.1
      (by_name c.args.zones.now.zones c.well_formed-2.ensures c.args.name.now
      c.in-Some-apex.apex c.in-Some.zone c.in-Some.ensures c.in-Some-apex.ensures has),
)
