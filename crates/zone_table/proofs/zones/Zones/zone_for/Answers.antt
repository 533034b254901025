use Rattle.std.proofs.Common.{List, None, Some, refl, subst}
use Rattle.zone_list.specs.Found.{LongestOrNone}
use Rattle.zone_list.specs.Kept.{Listed, named_of, zones_in}
use Rattle.zone_finding.specs.Looking.{IsZoneForOrNone}
use Rattle.zone_table.specs.Tables.{Table}
use Rattle.zone_table.proofs.Apexes.{held_by}
use Rattle.zone_finding.proofs.Naming.{holds}
use Rattle.zone_table.proofs.zones.Zones.zone_for.Goals as goal

pub returns-then-is_known : goal.returns-then-is_known
returns-then-is_known c =
    subst (λ (t : Table). IsZoneForOrNone t.zones c.args.name.now c.longest.result) c.self.view_is
    (held_by c.self.inside.apexes (zones_in c.self.inside.store.slots c.self.inside.list.items)
    c.args.name.now c.longest.result c.self.invariant.2 (c.is_known.ensures.0 c.if-is_known.true)
    c.longest.ensures)

pub returns-in-Some : goal.returns-in-Some
returns-in-Some c =
    let found = Some (c.in-Some.id, c.in-Some.field-0-1) in
    subst (λ (t : Table). IsZoneForOrNone t.zones c.args.name.now (Some c.in-Some.id)) c.self.view_is
    (holds c.self.inside.store.slots c.self.inside.list.items c.args.name.now found
    (subst (λ (l : List Listed). LongestOrNone (named_of l) c.args.name.now found)
    c.deref.ensures.value c.in-Some.ensures) (Some c.in-Some.id) refl)

pub returns-in-None : goal.returns-in-None
returns-in-None c =
    subst (λ (t : Table). IsZoneForOrNone t.zones c.args.name.now None) c.self.view_is
    (holds c.self.inside.store.slots c.self.inside.list.items c.args.name.now None
    (subst (λ (l : List Listed). LongestOrNone (named_of l) c.args.name.now None)
    c.deref.ensures.value c.in-None.ensures) None refl)
