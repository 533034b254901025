use Rattle.std.proofs.Common.{List, ℕ, subst, sym}
use Rattle.zone_list.specs.Found.{IsAt}
use Rattle.zone_list.specs.Kept.{Listed, named_of}
use Rattle.zone_list.specs.Zones.{IsZoneId}
use Rattle.zone_finding.specs.Looking.{IsApex}
use Rattle.zone_table.specs.Tables.{Table}
use Rattle.zone_finding.proofs.Naming.{apex_at, inside_of, one_named}
use Rattle.zone_table.proofs.zones.Zones.apex.Goals as goal

pub returns-in-Some : goal.returns-in-Some
returns-in-Some c =
    let slots = c.self.inside.store.slots in
    let list = c.self.inside.list.items in
    let i = c.in-Some.place in
    let found : IsAt (named_of list) c.args.zone i =
    subst (λ (l : List Listed). IsAt (named_of l) c.args.zone i) c.deref.ensures.value c.in-Some.ensures in
    subst (λ (name : List (List ℕ)). IsApex c.args.self.now.zones c.args.zone name) (sym c.apex.ensures)
    (subst (λ (t : Table). IsApex t.zones c.args.zone c.index.result.now.apex) c.self.view_is
    (apex_at slots list c.args.zone i found c.index.result.now (inside_of list c.args.zone i found)
    c.index.ensures))

pub returns-in-None : goal.returns-in-None
returns-in-None c =
    let list = c.self.inside.list.items in
    let none : IsZoneId (named_of list) c.args.zone → ⊥ =
    subst (λ (l : List Listed). IsZoneId (named_of l) c.args.zone → ⊥) c.deref.ensures.value
    c.in-None.ensures in
    subst (λ (t : Table). IsZoneId t.zones c.args.zone → ⊥) c.self.view_is
    (λ is. none (one_named c.self.inside.store.slots list c.args.zone is))
