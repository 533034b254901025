use Rattle.std.proofs.Common.{◌∙◌, ap, sym, subst}
use Rattle.std.proofs.lemmas.Bool.{false≢true}
use Rattle.record_set.specs.Reasons.{IsAlias}
use Rattle.record_set.specs.declared.sets.Body.{Body}
use Rattle.zone_table.specs.Sets.{group, target_group_of}
use Rattle.alias_links.specs.After.{changed_in}
use Rattle.alias_links.proofs.Looping.{empty_so}
use Rattle.alias_links.proofs.missing.missing_one.Goals as goal

pub returns : goal.returns
returns c =
    let after =
    changed_in c.args.zones.now.zones c.args.zone c.args.remove.now c.args.add.now in
    let set = c.args.set.now in
    let empty = empty_so (group after c.in-Alias.target set.rtype)
    (λ some. false≢true (sym c.if-is_filled.false ∙ c.is_filled.ensures.1 some)) in (
      (
        subst (λ (b : Body). IsAlias b) (sym c.in-Alias.is) tt,
        ap (λ (b : Body). target_group_of after set.rtype b) c.in-Alias.is ∙ empty,
      ),
      c.key.ensures,
    )
