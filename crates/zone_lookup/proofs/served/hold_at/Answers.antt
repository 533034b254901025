use Rattle.std.proofs.Common.{ap, ◌∙◌, Some}
use Rattle.policy_select.proofs.Members.{one_named}
use Rattle.zone_lookup.proofs.Serving.{named_at}
use Rattle.zone_lookup.proofs.served.hold_at.Goals as goal

pub unreachable-requires-then-not-load : goal.unreachable-requires-then-not-load
unreachable-requires-then-not-load c =
    let at = named_at c.args.zones.now.zones c.args.zone c.args.i c.in-Some.set c.in-Some.ensures in
    c.if-not-load.ensures.0 at.set at.names

pub returns : goal.returns
returns c =
    let zones = c.args.zones.now.zones in
    let at = named_at zones c.args.zone c.args.i c.in-Some.set c.in-Some.ensures in
    let held = c.if-not-load.ensures in (
      at.set,
      held.2
          ∙ ap Some
          (one_named zones c.in-Some.set held.0 at.set c.well_formed-2.ensures held.1 at.names),
      at.at,
    )
