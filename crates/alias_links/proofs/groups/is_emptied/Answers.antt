use Rattle.std.proofs.Common.{◌≡◌, ◌∙◌, [], List, ap, refl, sym, subst}
use Rattle.std.proofs.lemmas.Bool.{false≢true}
use Rattle.std.proofs.lemmas.Option.{slice_get_read}
use Rattle.rdata_layout.specs.declared.types.RType.{RType}
use Rattle.record_set.specs.declared.sets.SetKey.{SetKey}
use Rattle.zone_table.proofs.Lists.{some_one}
use Rattle.zone_table.specs.Sets.{group}
use Rattle.alias_links.specs.After.{changed_in}
use Rattle.alias_links.proofs.Looping.{empty_so}
use Rattle.alias_links.proofs.groups.is_emptied.Goals as goal

pub returns-then-goes_on : goal.returns-then-goes_on
returns-then-goes_on c key at =
    let after = changed_in c.args.zones.now.zones c.args.zone c.args.remove.now c.args.add.now in
    let on = c.goes_on.ensures c.if-goes_on.true in
    let before = on.1 in
    let same : on.2 ≡ key = some_one on.2 key (sym on.5 ∙ at) in
    let named : before.name ≡ key.name = on.6 ∙ ap (λ (k : SetKey). k.name) same in
    let typed : before.rtype ≡ key.rtype = on.7 ∙ ap (λ (k : SetKey). k.rtype) same in (
      λ e. absurd (false≢true e),
      λ none.
          absurd (c.requires.before on.0 before on.3 on.4
          (ap (λ (n : List (List _)). group after n before.rtype) named
          ∙ (ap (λ (t : RType). group after key.name t) typed ∙ none))),
    )

pub returns-then-is_filled : goal.returns-then-is_filled
returns-then-is_filled c key at =
    let keys = c.args.remove.now in
    let after = changed_in c.args.zones.now.zones c.args.zone keys c.args.add.now in
    let own = c.index-remove-i in
    let here = slice_get_read keys _ c.args.i own.result refl c.requires.within own.is in
    let same : key ≡ own.result = some_one key own.result (sym at ∙ here) in (
      λ e. absurd (false≢true e),
      λ none.
          absurd (c.is_filled.ensures.0 c.if-is_filled.true
          (subst (λ (k : SetKey). group after k.name k.rtype ≡ []) same none)),
    )

pub returns : goal.returns
returns c key at =
    let keys = c.args.remove.now in
    let after = changed_in c.args.zones.now.zones c.args.zone keys c.args.add.now in
    let own = c.index-remove-i in
    let here = slice_get_read keys _ c.args.i own.result refl c.requires.within own.is in
    let same : own.result ≡ key = some_one own.result key (sym here ∙ at) in (
      λ e.
          subst (λ (k : SetKey). group after k.name k.rtype ≡ []) same
          (empty_so (group after own.result.name own.result.rtype)
          (λ some. false≢true (sym c.if-is_filled.false ∙ c.is_filled.ensures.1 some))),
      λ none. refl,
    )
