use Rattle.std.proofs.Common.{List, subst}
use Rattle.std.specs.Prelude.{IsTrue, ◌↔◌}
use Rattle.zone_list.specs.FoundOfSetSearch.{IsBelowAt}
use Rattle.zone_list.specs.Kept.{Listed, zones_in}
use Rattle.zone_list.specs.Slotted.{sets_of}
use Rattle.zone_list.specs.Zones.{placed_in}
use Rattle.zone_table.specs.Tables.{Table}
use Rattle.zone_table.proofs.zones.Zones.is_below.Goals as goal

pub returns : goal.returns
returns c =
    let s = c.self.inside in
    let told = c.is_below.result in
    let zone = c.args.zone in
    let name = c.args.name.now in
    let i = c.args.i in
    subst (λ (t : Table). IsTrue told ↔ IsBelowAt (sets_of (placed_in t.zones zone)) name i)
    c.self.view_is
    (subst (λ (l : List Listed). IsTrue told
    ↔ IsBelowAt (sets_of (placed_in (zones_in s.store.slots l) zone)) name i)
    c.deref.ensures.value c.is_below.ensures)
