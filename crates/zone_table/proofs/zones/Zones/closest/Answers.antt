use Rattle.std.proofs.Common.{◌≡◌, ◌∙◌, [], List, ap, sym, subst}
use Rattle.zone_list.specs.RecordSetRecord.{RecordSet}
use Rattle.zone_list.specs.Existing.{Exists}
use Rattle.zone_list.specs.Slotted.{sets_of}
use Rattle.zone_list.specs.Kept.{Listed, zones_in}
use Rattle.zone_list.specs.Zones.{placed_in}
use Rattle.zone_finding.specs.Looking.{IsApex}
use Rattle.zone_table.specs.Tables.{Table}
use Rattle.zone_finding.proofs.Looked.{apex_there}
use Rattle.zone_finding.proofs.Naming.{are_zones}
use Rattle.zone_table.proofs.zones.Zones.closest.Goals as goal

pub closest_in-requires-clause-some : goal.closest_in-requires-clause-some
closest_in-requires-clause-some c =
    let slots = c.self.inside.store.slots in
    let list = c.self.inside.list.items in
    let below = c.requires.below in
    let apex : IsApex (zones_in slots list) c.args.zone below.0 =
    subst (λ (t : Table). IsApex t.zones c.args.zone below.0) (sym c.self.view_is) below.1 in
    let some : placed_in (zones_in slots list) c.args.zone ≡ [] → ⊥ =
    subst (λ (t : Table). placed_in t.zones c.args.zone ≡ [] → ⊥) (sym c.self.view_is) c.requires.some in
    let exists = apex_there (zones_in slots list) (are_zones slots list c.self.invariant.0) c.args.zone below.0
    apex some in (
      below.0,
      below.2,
      subst (λ (sets : List RecordSet). Exists sets below.0) (sym (c.in-Some.ensures.0
          ∙ ap (λ (l : List Listed). sets_of (placed_in (zones_in slots l) c.args.zone)) c.deref.ensures.value))
          exists,
    )
