use Rattle.std.proofs.Common.{◌∙◌, ap, arith, length, sym}
use Rattle.std.specs.List.{filter}
use Rattle.drill_run.proofs.Healthy.{all_counted, as_long, counted_at, set_there, sets_kept}
use Rattle.engine_model.specs.Engine.{is_healthy}
use Rattle.record_set.specs.Sets.{key_of}
use Rattle.record_set.specs.declared.sets.RecordSet.{RecordSet}
use Rattle.zone_table.specs.Zones.{placed_in}
use Rattle.zone_model.specs.Slotted.{sets_of}
use Rattle.zone_table.specs.Tables.{Table}
use Rattle.drill_run.proofs.health.count_healthy.Goals as goal

pub loop-i-init : goal.loop-i-init
loop-i-init c = record { few = omega arith; counted = λ engine stands. omega arith }

pub one_at-count-requires : goal.one_at-count-requires
one_at-count-requires c =
    let same = ap (λ (t : Table). length (placed_in t.zones 1)) c.zones.ensures in
    omega (arith, c.loop-i-test.true, c.count-i-end.ensures, same)

pub loop-i-preserved : goal.loop-i-preserved
loop-i-preserved c = record {
  few = omega (arith, c.loop-i.invariant.few, c.one_at-count.ensures.within);
  counted = λ engine stands.
      let placed = placed_in c.args.store.now.kept.config.table.zones 1 in
      let same = ap (λ (t : Table). length (placed_in t.zones 1)) c.zones.ensures in
      let x = set_there placed c.loop-i.i
      (omega (arith, c.loop-i-test.true, c.count-i-end.ensures, same)) in
      counted_at (λ (set : RecordSet). is_healthy engine.config engine.reports 1 (key_of set))
      (sets_of placed) c.loop-i.count c.loop-i.i x.0 x.1 c.one_at-count.result
      (c.one_at-count.ensures.is engine x.0 stands x.1) (c.loop-i.invariant.counted engine stands);
}

pub returns : goal.returns
returns c = λ engine stands.
    let placed = placed_in c.args.store.now.kept.config.table.zones 1 in
    let same = ap (λ (t : Table). length (placed_in t.zones 1)) c.zones.ensures in
    let size = as_long placed in
    all_counted (λ (set : RecordSet). is_healthy engine.config engine.reports 1 (key_of set))
    (sets_of placed) c.loop-i.count c.loop-i.i
    (omega (arith, c.loop-i-test.false, c.count-i-end.ensures, same, size))
    (c.loop-i.invariant.counted engine stands)
    ∙ ap (λ sets. length (filter (λ (set : RecordSet). is_healthy engine.config engine.reports 1
    (key_of set)) sets)) (sym (sets_kept c.args.store.now.kept engine.config stands.config 1))
