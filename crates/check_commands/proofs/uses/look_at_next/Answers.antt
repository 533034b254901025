use Rattle.std.proofs.Common.{◌∙◌, ap, map, refl, subst, sym, ℕ, List}
use Rattle.std.specs.Prelude.{is_some}
use Rattle.config_zones.specs.Zones.{placed_in}
use Rattle.check_commands.specs.Uses.{LooksAt, slot_in}
use Rattle.check_commands.proofs.Followed.{all_slots, next_looked, next_none, of_slots}
use Rattle.check_commands.proofs.Looked.{none_checked}
use Rattle.check_commands.proofs.uses.look_at_next.Goals as goal

pub returns-then-count-eq0 : goal.returns-then-count-eq0
returns-then-count-eq0 c = λ last next uses.
    let zones = c.args.zones.now.zones in
    let zone = c.args.zone in
    next_none zones c.slots_apart.ensures last zone next c.args.named.now c.args.named.now uses
    (λ p check here is. none_checked (placed_in zones zone) p
    (sym c.checked-count.ensures ∙ c.if-count-eq0.true) here (ap is_some is)) refl

pub returns : goal.returns
returns c = λ last next uses.
    let zones = c.args.zones.now.zones in
    let zone = c.args.zone in
    let slots = map slot_in (placed_in zones zone) in
    next_looked zones c.slots_apart.ensures last zone next c.args.named.now c.look_at_zone.new.named uses
    slots
    (subst (λ (l : List ℕ). LooksAt zones zone slots l c.look_at_zone.new.named) c.reserve.ensures.same
    (c.look_at_zone.ensures c.if-not-look_at_zone.false))
    (all_slots (placed_in zones zone)) (of_slots (placed_in zones zone))
