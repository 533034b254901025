use Rattle.std.proofs.Common.{◌∙◌, sym, subst}
use Rattle.record_set.specs.declared.sets.SetKey.{SetKey}
use Rattle.zone_table.specs.Changes.{IsKeyOf}
use Rattle.alias_links.proofs.Held.{key_held, no_target, not_some}
use Rattle.alias_links.proofs.Kept.{set_if_stays, stays_not, values_go}
use Rattle.alias_links.proofs.aliases.kept_at.Goals as goal

pub returns-then-is_none : goal.returns-then-is_none
returns-then-is_none c =
    λ set at. values_go c.args.remove.now set
    (no_target set (sym (c.target_at.ensures set at) ∙ not_some c.target_at.result c.if-is_none.ensures))

pub returns-then-is_key_of : goal.returns-then-is_key_of
returns-then-is_key_of c =
    λ set at. (let key = key_held c.hold_at.new.scratch c.key-key.result c.key-key.ensures set
    (c.hold_at.ensures.held ∙ at) in
    stays_not c.args.remove.now set
    (subst (λ (k : SetKey). IsKeyOf c.args.remove.now k) key
    (c.is_key_of.ensures.0 c.if-is_key_of.true)))

pub returns : goal.returns
returns c =
    λ set at. (let held = c.hold_at.ensures.held ∙ at in
    let key = key_held c.hold_at.new.scratch c.key-key.result c.key-key.ensures set held in
    set_if_stays c.args.remove.now set c.key-key.result key c.is_key_of.result
    c.is_key_of.ensures c.if-is_key_of.false c.alias_in.result (c.alias_in.ensures set held key))
