use Rattle.std.proofs.Common.{◌≡◌, ◌∙◌, [], refl, sym}
use Rattle.std.proofs.lemmas.Bool.{false≢true}
use Rattle.record_set.specs.declared.sets.SetKey.{SetKey}
use Rattle.zone_table.proofs.Among.{among_at}
use Rattle.zone_table.proofs.Members.{filled}
use Rattle.zone_table.specs.Sets.{group}
use Rattle.alias_links.specs.After.{changed_in}
use Rattle.alias_links.proofs.Changing.{is_change}
use Rattle.alias_links.proofs.Looping.{none_at_all, one_more}
use Rattle.alias_links.proofs.groups.empties_group.Goals as goal

pub is_emptied-requires-clause-change : goal.is_emptied-requires-clause-change
is_emptied-requires-clause-change c =
    is_change c.args.zones.now.zones c.args.zone c.args.remove.now c.args.add.now c.requires

pub returns-then-is_emptied : goal.returns-then-is_emptied
returns-then-is_emptied c =
    let keys = c.args.remove.now in
    let own = filled keys c.loop-i.i c.loop-i-test.true in (
      λ e. (
        own.0,
        among_at keys c.loop-i.i own.0 own.1,
        (c.is_emptied.ensures own.0 own.1).0 c.if-is_emptied.true,
      ),
      λ has. refl,
    )

pub loop-i-preserved : goal.loop-i-preserved
loop-i-preserved c =
    let keys = c.args.remove.now in
    let own = filled keys c.loop-i.i c.loop-i-test.true in
    let after = changed_in c.args.zones.now.zones c.args.zone keys c.args.add.now in
    one_more (λ (k : SetKey). group after k.name k.rtype ≡ []) keys c.loop-i.i own.0 own.1
    (λ none. false≢true (sym c.if-is_emptied.false ∙ (c.is_emptied.ensures own.0 own.1).1 none))
    c.loop-i.invariant

pub returns : goal.returns
returns c =
    let keys = c.args.remove.now in
    let after = changed_in c.args.zones.now.zones c.args.zone keys c.args.add.now in (
      λ e. absurd (false≢true e),
      λ has. absurd (none_at_all (λ (k : SetKey). group after k.name k.rtype ≡ []) keys c.loop-i.i
          c.loop-i-test.false c.loop-i.invariant has.0 has.1 has.2),
    )
