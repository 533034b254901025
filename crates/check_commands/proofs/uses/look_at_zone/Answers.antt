use Rattle.std.proofs.Common.{arith, map, subst, ℕ}
use Rattle.config_zones.specs.Zones.{placed_in}
use Rattle.zone_model.specs.Slotted.{Slotted}
use Rattle.check_commands.specs.Counts.{told_at}
use Rattle.check_commands.specs.Uses.{TellsCheck, slot_in}
use Rattle.check_commands.proofs.Followed.{bound, looks_all, looks_more, looks_none, slot_at}
use Rattle.check_commands.proofs.uses.look_at_zone.Goals as goal

pub loop-i-init : goal.loop-i-init
loop-i-init c =
    let zones = c.args.zones.now.zones in
    looks_none zones c.args.zone (map slot_in (placed_in zones c.args.zone)) c.args.named.now

pub loop-i-preserved : goal.loop-i-preserved
loop-i-preserved c =
    let zones = c.args.zones.now.zones in
    let placed = placed_in zones c.args.zone in
    let set = c.in-Some.set in
    let is = c.in-Some.ensures in
    let p : Slotted = record { slot = set.slot; set = is.1.0 } in
    looks_more zones c.args.zone (map slot_in placed) c.args.named.now c.loop-i.i
    c.loop-i.named c.look_at.new.named set.slot (slot_at placed c.loop-i.i p is.1.1) c.loop-i.invariant
    (subst (λ (z : ℕ). TellsCheck zones (record { zone = z; slot = set.slot }) (told_at c.look_at.new.named set.slot))
    is.0 (c.look_at.ensures.told c.if-not-look_at.false)) c.look_at.ensures.others

pub returns : goal.returns
returns c = λ whole.
    let zones = c.args.zones.now.zones in
    let placed = placed_in zones c.args.zone in
    let past = c.loop-i-test.false in
    let end = c.count-i-end.ensures in
    looks_all zones c.args.zone (map slot_in placed) c.args.named.now
    c.loop-i.i c.loop-i.named
    (bound slot_in placed c.loop-i.i (omega (arith, past, end))) c.loop-i.invariant
