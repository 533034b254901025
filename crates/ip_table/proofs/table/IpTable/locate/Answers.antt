use Rattle.std.proofs.Common.{◌∙◌, List, Some, None, sym, ap, subst, arith, max}
use Rattle.ip_table.specs.Location.{Locates}
use Rattle.ip_table.specs.Prefixes.{Prefix}
use Rattle.ip_table.specs.Rows.{AreRows}
use Rattle.ip_table.specs.Trees.{SumsUp}
use Rattle.ip_table.proofs.Located.{located_none, located_some, are_rows}
use Rattle.ip_table.proofs.table.IpTable.locate.Goals as goal

pub index-requires : goal.index-requires
index-requires g c =
    omega (
      arith,
      (c.sum_up-walked.ensures.sums.sound.found c.in-Some.row c.in-Some.is).0,
      c.deref.ensures.len,
    )

pub returns-in-None-clause-located : goal.returns-in-None-clause-located
returns-in-None-clause-located g c =
    let ps = c.self.inside.prefixes.items in
    let sums =
    subst (λ (p : List Prefix). SumsUp p c.args.address c.sum_up-walked.result)
    c.deref.ensures.value c.sum_up-walked.ensures.sums in
    subst (λ rows. Locates rows c.args.address None c.sum_up-walked.result.past) c.self.view_is
    (located_none ps c.self.inside.values.items c.self.invariant.values c.args.address
    c.sum_up-walked.result sums c.in-None.is)

pub returns-in-None-clause-rows : goal.returns-in-None-clause-rows
returns-in-None-clause-rows g c =
    subst (λ rows. AreRows rows) c.self.view_is
    (are_rows c.self.inside.prefixes.items c.self.inside.values.items c.self.inside.v4.items
    c.self.inside.v6.items c.self.invariant)

pub returns-in-Some-clause-located : goal.returns-in-Some-clause-located
returns-in-Some-clause-located g c =
    let ps = c.self.inside.prefixes.items in
    let sums =
    subst (λ (p : List Prefix). SumsUp p c.args.address c.sum_up-walked.result)
    c.deref.ensures.value c.sum_up-walked.ensures.sums in
    subst (λ rows. Locates rows c.args.address (Some c.index.result.now) c.max.result)
    c.self.view_is
    (located_some ps c.self.inside.values.items c.self.invariant.values c.args.address
    c.sum_up-walked.result sums c.in-Some.row c.index.result.now
    c.max.result c.in-Some.is
    (sym c.index.ensures) (c.max.ensures
    ∙ ap (max c.sum_up-walked.result.past) (sums.sound.found c.in-Some.row c.in-Some.is).2))

pub returns-in-Some-clause-rows : goal.returns-in-Some-clause-rows
returns-in-Some-clause-rows g c =
    subst (λ rows. AreRows rows) c.self.view_is
    (are_rows c.self.inside.prefixes.items c.self.inside.values.items c.self.inside.v4.items
    c.self.inside.v6.items c.self.invariant)
