use Rattle.std.proofs.Common.{arith, refl}
use Rattle.geo_latency.specs.declared.tables.TableLine.TheVariants.{Added, Skipped, Bad}
use Rattle.table_lines.proofs.Octets.{line_added, line_refused}
use Rattle.table_lines.proofs.waiting.take_first.Goals as goal

pub returns-in-Added : goal.returns-in-Added
returns-in-Added c = (
  omega arith,
  omega (arith, c.in-Some.ensures.inside),
  line_added c.args.tables.now c.add_line.new.self c.args.waiting.now c.front.result.now
      c.in-Some.place Added c.in-Some.ensures.place c.front.ensures c.in-Added.ensures refl,
)

pub returns-in-Skipped : goal.returns-in-Skipped
returns-in-Skipped c = (
  omega arith,
  omega (arith, c.in-Some.ensures.inside),
  line_added c.args.tables.now c.add_line.new.self c.args.waiting.now c.front.result.now
      c.in-Some.place Skipped c.in-Some.ensures.place c.front.ensures c.in-Skipped.ensures refl,
)

pub returns-in-Bad : goal.returns-in-Bad
returns-in-Bad c =
    line_refused c.args.tables.now c.add_line.new.self c.args.waiting.now c.front.result.now
    c.in-Some.place Bad c.in-Some.ensures.place c.front.ensures c.in-Bad.ensures refl
