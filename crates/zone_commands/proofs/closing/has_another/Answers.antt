use Rattle.std.proofs.Common.{◌≡◌, ◌∙◌, sym, arith}
use Rattle.config_zones.specs.NewZones.{is_another}
use Rattle.config_zones.proofs.Rest.{as_many, held_so, none_left, not_this, this_one}
use Rattle.record_set.specs.declared.sets.RecordSet.{RecordSet}
use Rattle.config_zones.specs.Zones.{placed_in}
use Rattle.zone_model.specs.Slotted.{sets_of}
use Rattle.zone_commands.proofs.closing.has_another.Goals as goal

pub returns-then-is_another : goal.returns-then-is_another
returns-then-is_another c =
    let one = c.hold_at.ensures.spelled in
    let is = held_so (λ (s : RecordSet). c.is_another.result ≡ is_another c.args.apex.now s)
    c.hold_at.new.scratch one.0 one.1 c.is_another.ensures in
    this_one (is_another c.args.apex.now) (sets_of (placed_in c.args.zones.now.zones c.args.zone))
    c.loop-i.i c.loop-i.invariant one.0 (sym c.hold_at.ensures.held ∙ one.1)
    (sym is ∙ c.if-is_another.true)

pub loop-i-preserved : goal.loop-i-preserved
loop-i-preserved c =
    let one = c.hold_at.ensures.spelled in
    let is = held_so (λ (s : RecordSet). c.is_another.result ≡ is_another c.args.apex.now s)
    c.hold_at.new.scratch one.0 one.1 c.is_another.ensures in
    not_this (is_another c.args.apex.now) (sets_of (placed_in c.args.zones.now.zones c.args.zone))
    c.loop-i.i c.loop-i.invariant one.0 (sym c.hold_at.ensures.held ∙ one.1)
    (sym is ∙ c.if-is_another.false)

pub returns : goal.returns
returns c =
    let size = as_many (placed_in c.args.zones.now.zones c.args.zone) in
    let count = c.count-i-end.ensures in
    let all = c.loop-i-test.false in
    none_left (is_another c.args.apex.now) (sets_of (placed_in c.args.zones.now.zones c.args.zone))
    c.loop-i.i c.loop-i.invariant (omega (arith, size, count, all))
