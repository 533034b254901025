use Rattle.std.proofs.Common.{◌≡◌, ◌⊎◌, ℕ, ◌+◌, ◌<◌, List, [], take, drop, ap, ◌∙◌, sym, refl, subst, inl, inr, arith}
use Rattle.std.proofs.lemmas.Bool.{false≢true}
use Rattle.record_set.specs.Reasons.{IsAlias}
use Rattle.record_set.specs.declared.sets.Body.{Body}
use Rattle.record_set.specs.declared.sets.RecordSet.{RecordSet}
use Rattle.zone_table.specs.Sets.{IsAmong, group, target_group, target_group_of}
use Rattle.alias_links.specs.After.{sets_in}
use Rattle.alias_links.specs.Laws.{EndsWalks, HasAlias}
use Rattle.alias_links.proofs.Grouped.{filled_at, member_at}
use Rattle.alias_links.proofs.ending.ends_walks.Goals as goal

pub returns-then-has_alias_in : goal.returns-then-has_alias_in
returns-then-has_alias_in c =
    let set = c.args.set.now in
    let sets = sets_in c.args.zones.now.zones c.args.zone in
    let same = ap (λ (b : Body). target_group_of sets set.rtype b) c.in-Alias.is in (
      λ e. absurd (false≢true e),
      λ ends. absurd ((ends (subst (λ (b : Body). IsAlias b) (sym c.in-Alias.is) tt)).last
          (subst (λ (g : List RecordSet). HasAlias g) (sym same) (c.has_alias_in.ensures.0 c.if-has_alias_in.true))),
    )

pub returns-then-adds_alias_to : goal.returns-then-adds_alias_to
returns-then-adds_alias_to c =
    let set = c.args.set.now in
    let same = ap (λ (b : Body). target_group_of c.args.add.now set.rtype b) c.in-Alias.is in (
      λ e. absurd (false≢true e),
      λ ends. absurd ((ends (subst (λ (b : Body). IsAlias b) (sym c.in-Alias.is) tt)).stays_last
          (subst (λ (g : List RecordSet). HasAlias g) (sym same) (c.adds_alias_to.ensures.0 c.if-adds_alias_to.true))),
    )

pub returns-then-group-eq0 : goal.returns-then-group-eq0
returns-then-group-eq0 c =
    let set = c.args.set.now in
    let sets = sets_in c.args.zones.now.zones c.args.zone in
    let g = c.group.result in (
      λ e alias. record {
        last = λ has. false≢true (sym c.if-has_alias_in.false ∙ c.has_alias_in.ensures.1
            (subst (λ (x : List RecordSet). HasAlias x) (ap (λ (b : Body). target_group_of sets set.rtype b) c.in-Alias.is) has));
        stays_last = λ has. false≢true (sym c.if-adds_alias_to.false ∙ c.adds_alias_to.ensures.1
            (subst (λ (x : List RecordSet). HasAlias x)
            (ap (λ (b : Body). target_group_of c.args.add.now set.rtype b) c.in-Alias.is) has));
        beside = inl (sym c.group.ensures.sets.members
            ∙ ap (λ (n : ℕ). take n (drop g.start sets)) c.if-group-eq0.true);
      },
      λ ends. refl,
    )

pub returns : goal.returns
returns c =
    let set = c.args.set.now in
    let sets = sets_in c.args.zones.now.zones c.args.zone in
    let g = c.group.result in
    let is = c.group.ensures.sets in
    let some = c.if-group-eq0.false in
    let one = filled_at sets set.name set.rtype g.start g.length is 0 (omega (arith, some)) in
    let member = member_at sets set.name set.rtype g.start g.length is 0 one.0 (omega (arith, some)) one.1 in (
      λ e alias. record {
        last = λ has. false≢true (sym c.if-has_alias_in.false ∙ c.has_alias_in.ensures.1
            (subst (λ (x : List RecordSet). HasAlias x) (ap (λ (b : Body). target_group_of sets set.rtype b) c.in-Alias.is) has));
        stays_last = λ has. false≢true (sym c.if-adds_alias_to.false ∙ c.adds_alias_to.ensures.1
            (subst (λ (x : List RecordSet). HasAlias x)
            (ap (λ (b : Body). target_group_of c.args.add.now set.rtype b) c.in-Alias.is) has));
        beside = inr (c.has_alias_in-2.ensures.0 e);
      },
      λ ends. c.has_alias_in-2.ensures.1
          (elim ((ends (subst (λ (b : Body). IsAlias b) (sym c.in-Alias.is) tt)).beside) [
            | inl empty ↦ absurd (subst (λ (x : List RecordSet). IsAmong x one.0) empty member)
            | inr has ↦ has
          ]),
    )
