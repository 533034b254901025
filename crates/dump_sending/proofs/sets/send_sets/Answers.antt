use Rattle.std.proofs.Common.{◌+◌, ◌++◌, drop, arith}
use Rattle.config_zones.proofs.Rest.{as_many, set_at}
use Rattle.dump_sending.proofs.Lines.{all_lines, next_line}
use Rattle.dump_sending.specs.Dumps.{sets_text}
use Rattle.dump_writing.specs.DumpOfReplyModel.{set_line}
use Rattle.config_zones.specs.Zones.{placed_in}
use Rattle.zone_model.specs.Slotted.{sets_of}
use Rattle.dump_sending.proofs.sets.send_sets.Goals as goal

pub returns-in-Failed-clause-passes : goal.returns-in-Failed-clause-passes
returns-in-Failed-clause-passes g c = λ held rest text passed.
    let zone = c.args.zone in
    let placed = placed_in c.args.zones.now.zones zone in
    let i = c.loop-i.i in
    let lt = c.loop-i-test.true in
    let x = set_at placed i (omega (arith, lt, c.count-i-end.ensures)) in
    c.in-Failed.ensures.passes x.0 x.1 held (sets_text zone (drop (i + 1) (sets_of placed)) ++ rest) text
    (next_line (set_line zone) held _ _ (sets_of placed) i rest text
    (c.loop-i.invariant.passes held rest text passed) x.0 x.1)

pub loop-i-preserved : goal.loop-i-preserved
loop-i-preserved g c = record {
  capacity = omega (arith, c.in-Whole.ensures.capacity, c.loop-i.invariant.capacity);
  counts = omega (arith, c.in-Whole.ensures.counts, c.loop-i.invariant.counts);
  passes = λ held rest text passed.
      let zone = c.args.zone in
      let placed = placed_in c.args.zones.now.zones zone in
      let i = c.loop-i.i in
      let lt = c.loop-i-test.true in
      let x = set_at placed i (omega (arith, lt, c.count-i-end.ensures)) in
      c.in-Whole.ensures.passes x.0 x.1 held (sets_text zone (drop (i + 1) (sets_of placed)) ++ rest) text
      (next_line (set_line zone) held _ _ (sets_of placed) i rest text
      (c.loop-i.invariant.passes held rest text passed) x.0 x.1);
}

pub returns-clause-passes : goal.returns-clause-passes
returns-clause-passes g c = λ held rest text passed.
    let zone = c.args.zone in
    let placed = placed_in c.args.zones.now.zones zone in
    let size = as_many placed in
    let past = c.loop-i-test.false in
    all_lines (set_line zone) held _ _ (sets_of placed) c.loop-i.i rest text
    (c.loop-i.invariant.passes held rest text passed)
    (omega (arith, size, past, c.count-i-end.ensures))
