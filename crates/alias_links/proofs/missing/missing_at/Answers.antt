use Rattle.std.proofs.Common.{◌≡◌, ◌∙◌, Some, sym, subst}
use Rattle.std.proofs.lemmas.Bool.{false≢true}
use Rattle.record_set.specs.declared.sets.SetKey.{SetKey}
use Rattle.zone_table.specs.Telling.{target_of}
use Rattle.zone_table.specs.Changes.{IsKeyOf}
use Rattle.zone_table.specs.Sets.{group}
use Rattle.alias_links.specs.After.{changed_in}
use Rattle.alias_links.proofs.Held.{has_target, is_target, key_held, none_without}
use Rattle.alias_links.proofs.Looping.{empty_so}
use Rattle.alias_links.proofs.missing.missing_at.Goals as goal

pub returns-in_default : goal.returns-in_default
returns-in_default c =
    λ set at does. none_without set (sym (c.target_at.ensures set at) ∙ c.in_default.is) does.1.0

pub returns-then-is_filled : goal.returns-then-is_filled
returns-then-is_filled c =
    λ set at does. (let after =
    changed_in c.args.zones.now.zones c.args.zone c.args.remove.now c.args.add.now in
    let is : target_of set ≡ Some c.in-Some.target = sym (c.target_at.ensures set at)
    ∙ c.in-Some.is in
    c.is_filled.ensures.0 c.if-is_filled.true
    (sym (is_target after set c.in-Some.target is) ∙ does.1.1))

pub returns-then-is_key_of : goal.returns-then-is_key_of
returns-then-is_key_of c =
    λ set at does. does.0
    (subst (λ (k : SetKey). IsKeyOf c.args.remove.now k)
    (key_held c.hold_at.new.scratch c.key-key.result c.key-key.ensures set
    (c.hold_at.ensures.held ∙ at))
    (c.is_key_of.ensures.0 c.if-is_key_of.true))

pub returns : goal.returns
returns c =
    λ set at. (let after =
    changed_in c.args.zones.now.zones c.args.zone c.args.remove.now c.args.add.now in
    let target = c.in-Some.target in
    let is : target_of set ≡ Some target = sym (c.target_at.ensures set at) ∙ c.in-Some.is in
    let key = key_held c.hold_at.new.scratch c.key-key.result c.key-key.ensures set
    (c.hold_at.ensures.held ∙ at) in
    let empty = empty_so (group after target.0 target.1)
    (λ some. false≢true (sym c.if-is_filled.false ∙ c.is_filled.ensures.1 some)) in (
      (
        λ named. false≢true (sym c.if-is_key_of.false
            ∙ c.is_key_of.ensures.1 (subst (λ (k : SetKey). IsKeyOf c.args.remove.now k) (sym key) named)),
        (has_target after set target is, is_target after set target is ∙ empty),
      ),
      key,
    ))
