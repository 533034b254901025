use Rattle.std.proofs.Common.{◌≡◌, ◌++◌, ◌∙◌, sym, arith}
use Rattle.config_zones.proofs.Rest.{as_many, held_so}
use Rattle.record_set.specs.declared.sets.RecordSet.{RecordSet}
use Rattle.config_zones.specs.Octets.{set_octets}
use Rattle.config_zones.specs.Zones.{placed_in}
use Rattle.zone_model.specs.Slotted.{sets_of}
use Rattle.snapshot_writing.proofs.Gathered.{all_appended, one_more}
use Rattle.snapshot_writing.proofs.zones.append_each_set.Goals as goal

pub loop-i-preserved : goal.loop-i-preserved
loop-i-preserved c =
    let one = c.hold_at.ensures.spelled in
    let is = held_so
    (λ (s : RecordSet). c.append_held.new.into.items ≡ c.loop-i.into.items ++ set_octets s)
    c.hold_at.new.scratch one.0 one.1 c.in_ok-append_held.ensures in
    one_more c.args.into.now.items (sets_of (placed_in c.args.zones.now.zones c.args.zone))
    c.loop-i.i c.loop-i.into.items c.loop-i.invariant one.0
    (sym c.hold_at.ensures.held ∙ one.1) c.append_held.new.into.items is

pub returns : goal.returns
returns c =
    let size = as_many (placed_in c.args.zones.now.zones c.args.zone) in
    let count = c.count-i-end.ensures in
    let all = c.loop-i-test.false in
    all_appended c.args.into.now.items
    (sets_of (placed_in c.args.zones.now.zones c.args.zone)) c.loop-i.i c.loop-i.into.items
    c.loop-i.invariant (omega (arith, size, count, all))
