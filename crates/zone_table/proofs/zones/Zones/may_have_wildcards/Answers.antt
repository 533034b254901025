use Rattle.std.proofs.Common.{List, subst, sym, arith}
use Rattle.zone_list.specs.Kept.{Listed, zones_in}
use Rattle.zone_finding.specs.Counted.{AreCounted}
use Rattle.zone_finding.specs.Looking.{HasNoStar}
use Rattle.zone_table.specs.Tables.{Table}
use Rattle.zone_table.proofs.zones.Zones.may_have_wildcards.Goals as goal

pub may_have_wildcards-requires-clause-counted : goal.may_have_wildcards-requires-clause-counted
may_have_wildcards-requires-clause-counted c =
    let s = c.self.inside in
    (s.octets, subst (λ (l : List Listed). AreCounted s.store l s.octets) (sym c.deref.ensures.value) c.self.invariant.1)

pub may_have_wildcards-requires-clause-few : goal.may_have_wildcards-requires-clause-few
may_have_wildcards-requires-clause-few c =
    let count = c.slots.ensures.count in
    let most = c.slots.ensures.few in
    omega (arith, count, most)

pub returns : goal.returns
returns c = λ no.
    let s = c.self.inside in
    subst (λ (t : Table). HasNoStar t.zones c.args.zone) c.self.view_is
    (subst (λ (l : List Listed). HasNoStar (zones_in s.store.slots l) c.args.zone)
    c.deref.ensures.value (c.may_have_wildcards.ensures no))
