use Rattle.std.proofs.Common.{◌≡◌, ◌++◌, ◌∷◌, [], ◌∙◌, sym, arith}
use Rattle.config_zones.proofs.Rest.{as_many, held_so}
use Rattle.record_set.specs.declared.sets.RecordSet.{RecordSet}
use Rattle.config_zones.specs.Zones.{placed_in}
use Rattle.zone_model.specs.Slotted.{sets_of}
use Rattle.collection_commands.specs.Named.{named_in}
use Rattle.collection_commands.proofs.Named.{all_gathered, one_more}
use Rattle.collection_commands.proofs.naming.add_all.Goals as goal

pub loop-i-preserved : goal.loop-i-preserved
loop-i-preserved c =
    let one = c.hold_at.ensures.spelled in
    let is = held_so
    (λ (s : RecordSet). c.add_held.new.used.items
    ≡ c.loop-i.used.items ++ named_in (s ∷ []))
    c.hold_at.new.scratch one.0 one.1 c.in_ok-add_held.ensures in
    one_more c.args.used.now.items (sets_of (placed_in c.args.zones.now.zones c.args.zone))
    c.loop-i.i c.loop-i.used.items c.loop-i.invariant one.0 (sym c.hold_at.ensures.held ∙ one.1)
    c.add_held.new.used.items is

pub returns : goal.returns
returns c =
    let size = as_many (placed_in c.args.zones.now.zones c.args.zone) in
    let count = c.count-i-end.ensures in
    let all = c.loop-i-test.false in
    all_gathered c.args.used.now.items
    (sets_of (placed_in c.args.zones.now.zones c.args.zone)) c.loop-i.i c.loop-i.used.items
    c.loop-i.invariant (omega (arith, size, count, all))
