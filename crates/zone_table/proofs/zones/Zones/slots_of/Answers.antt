use Rattle.std.proofs.Common.{◌≤◌, ◌+◌, ◌∙◌, List, ap, length, subst, sym}
use Rattle.zone_list.specs.Kept.{Listed, zones_in}
use Rattle.zone_list.specs.Zones.{placed_in}
use Rattle.zone_finding.specs.Looking.{slots_in}
use Rattle.zone_table.specs.Tables.{Table}
use Rattle.zone_finding.proofs.GroupSlots.{within}
use Rattle.zone_table.proofs.zones.Zones.slots_of.Goals as goal

pub slots_of-requires-clause-within : goal.slots_of-requires-clause-within
slots_of-requires-clause-within c =
    let group = c.args.group in
    let slots = c.self.inside.store.slots in
    subst (λ (l : List Listed). group.start + group.length ≤ length (placed_in (zones_in slots l) group.zone))
    (sym c.deref.ensures.value)
    (subst (λ (t : Table). group.start + group.length ≤ length (placed_in t.zones group.zone))
    (sym c.self.view_is)
    (within c.args.self.now.zones group c.requires))

pub returns : goal.returns
returns c =
    c.slots_of.ensures
    ∙ ap (λ (l : List Listed). slots_in (zones_in c.self.inside.store.slots l) c.args.group)
    c.deref.ensures.value
    ∙ ap (λ (t : Table). slots_in t.zones c.args.group) c.self.view_is
