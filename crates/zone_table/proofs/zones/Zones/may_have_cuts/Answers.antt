use Rattle.std.proofs.Common.{List, ℕ, subst, sym, arith}
use Rattle.zone_list.specs.Kept.{Listed, zones_in}
use Rattle.zone_finding.specs.Counted.{AreCounted}
use Rattle.zone_finding.specs.Looking.{IsApex, ServersAreAt}
use Rattle.zone_table.specs.Tables.{Table}
use Rattle.zone_table.proofs.zones.Zones.may_have_cuts.Goals as goal

pub may_have_cuts-requires-clause-counted : goal.may_have_cuts-requires-clause-counted
may_have_cuts-requires-clause-counted c =
    let s = c.self.inside in
    (s.octets, subst (λ (l : List Listed). AreCounted s.store l s.octets) (sym c.deref.ensures.value) c.self.invariant.1)

pub may_have_cuts-requires-clause-few : goal.may_have_cuts-requires-clause-few
may_have_cuts-requires-clause-few c =
    let count = c.slots.ensures.count in
    let most = c.slots.ensures.few in
    omega (arith, count, most)

pub returns : goal.returns
returns c = λ no.
    let s = c.self.inside in
    subst (λ (t : Table). (apex : List (List ℕ)) → IsApex t.zones c.args.zone apex
    → ServersAreAt t.zones c.args.zone apex) c.self.view_is
    (subst (λ (l : List Listed). (apex : List (List ℕ)) → IsApex (zones_in s.store.slots l) c.args.zone apex
    → ServersAreAt (zones_in s.store.slots l) c.args.zone apex)
    c.deref.ensures.value (c.may_have_cuts.ensures no))
