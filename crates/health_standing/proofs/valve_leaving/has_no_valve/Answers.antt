use Rattle.std.proofs.Common.{◌≡◌, Some, ap, sym, ◌∙◌}
use Rattle.health_planning.proofs.Members.{one_named}
use Rattle.health_standing.proofs.Bare.{by_members, to_members}
use Rattle.health_standing.proofs.valve_leaving.has_no_valve.Goals as goal

pub returns : goal.returns
returns c named names =
    let zones = c.args.zones.now.zones in
    let seats = c.args.seats.now in
    let zone = c.args.set.zone in
    let held = c.if-not-load.ensures in
    let same = one_named zones c.args.set held.0 named c.well_formed-2.ensures held.1 names in
    let is : c.load.new.into ≡ Some named = held.2 ∙ ap Some same in
    let name_is : c.name.result ≡ named.name = rw is at c.name.ensures in
    let rtype_is : c.rtype.result ≡ named.rtype = rw is at c.rtype.ensures in
    let g = c.find_group-group.result in
    let o = c.find_group-group.ensures in
    rw (sym name_is, sym rtype_is) (
      (λ so. by_members zones c.well_formed-2.ensures seats g zone c.name.result c.rtype.result o.zone o.sets (c.tells_none.ensures.0 so)),
      (λ none. c.tells_none.ensures.1 (to_members zones c.well_formed-2.ensures seats g zone c.name.result c.rtype.result o.zone o.sets none)),
    )
