use Rattle.std.proofs.Common.{sym, subst}
use Rattle.policy_select.specs.declared.selection.Selected.{Selected}
use Rattle.policy_select.specs.Selecting.{AreOfGroup, HoldsFirst, HoldsFront}
use Rattle.policy_select.proofs.Targets.{front_selected, loaded_selected}
use Rattle.policy_select.proofs.descent.load_first.Goals as goal

pub returns-then-is_front_held : goal.returns-then-is_front_held
returns-then-is_front_held c =
    let zones = c.args.zones.now.zones in
    let held = c.args.scratch.now in
    let is = c.in-Sets.is in
    subst (λ (s : Selected). HoldsFirst zones s held) (sym is)
    (front_selected zones c.in-Sets.group c.in-Sets.picked held
    (subst (λ (s : Selected). AreOfGroup zones s) is c.requires.there)
    (subst (λ (s : Selected). HoldsFront zones s held) is
    (c.requires.front (c.is_front_held.ensures.held c.if-is_front_held.true)))
    (c.is_front_held.ensures.front c.if-is_front_held.true))

pub returns : goal.returns
returns c =
    let zones = c.args.zones.now.zones in
    let held = c.load_member.new.scratch in
    let is = c.in-Sets.is in
    let loaded = c.load_member.ensures in
    subst (λ (s : Selected). HoldsFirst zones s held) (sym is)
    (loaded_selected zones c.in-Sets.group c.in-Sets.picked held loaded.some.0
    (subst (λ (s : Selected). AreOfGroup zones s) is c.requires.there) loaded.loaded loaded.some.1)
