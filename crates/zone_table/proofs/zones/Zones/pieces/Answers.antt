use Rattle.std.proofs.Common.{List, subst, sym}
use Rattle.zone_list.specs.Kept.{Listed, zones_in}
use Rattle.zone_finding.specs.Looking.{RefersTo}
use Rattle.zone_table.specs.Tables.{Table}
use Rattle.zone_table.proofs.zones.Zones.pieces.Goals as goal

pub pieces-requires-clause-named : goal.pieces-requires-clause-named
pieces-requires-clause-named c =
    let it = c.requires in (
      it.0,
      subst (λ (l : List Listed). RefersTo (zones_in c.self.inside.store.slots l) c.args.set it.0)
          (sym c.deref.ensures.value)
          (subst (λ (t : Table). RefersTo t.zones c.args.set it.0) (sym c.self.view_is) it.1),
    )

pub returns : goal.returns
returns c named here =
    c.pieces.ensures named
    (subst (λ (l : List Listed). RefersTo (zones_in c.self.inside.store.slots l) c.args.set named)
    (sym c.deref.ensures.value)
    (subst (λ (t : Table). RefersTo t.zones c.args.set named) (sym c.self.view_is) here))
