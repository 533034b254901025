use Rattle.std.proofs.Common.{arith, subst, ◌∙◌, refl, ◌+◌, ◌-◌, length-take-le}
use Rattle.table_lines.specs.Turns.{TakesLast}
use Rattle.table_lines.proofs.Standing.{ended, goes_on, is_bad, at_limit}
use Rattle.table_lines.proofs.reading.add_all.Goals as goal

pub returns-then-n-eq0-clause-adds : goal.returns-then-n-eq0-clause-adds
returns-then-n-eq0-clause-adds g c = λ input h.
    let i = c.loop-budget.invariant in
    ended c.args.most c.args.tables.now input (g.S.Source.left c.loop-budget.source)
    (c.args.most - c.loop-budget.budget) c.loop-budget.tables c.loop-budget.number _ (i.stands input h)
    (g.S.Source.left c.read_behind.new.source) c.in-Bytes.n c.loop-budget.len c.loop-budget.buffer
    c.read_behind.new.buffer refl (omega (arith, i.budget_is, c.in-Bytes.ensures.grows.0))
    c.in-Bytes.ensures.takes c.add_last.result c.add_last.new.tables c.if-n-eq0.true
    (omega (arith, i.budget_is, c.loop-budget-test.true)) i.is_open.0
    (subst (λ w. TakesLast c.loop-budget.tables w c.loop-budget.number c.add_last.result c.add_last.new.tables)
    (c.front.ensures ∙ c.in-Bytes.ensures.front) c.add_last.ensures)

pub loop-budget-preserved : goal.loop-budget-preserved
loop-budget-preserved g c =
    let i = c.loop-budget.invariant in
    let t = c.in-Waits.ensures.takes in
    let grows = c.in-Bytes.ensures.grows in
    let size = c.in-Bytes.ensures.size in
    record {
      room = omega (arith, i.room, size, c.in-Waits.ensures.size);
      short = omega (arith, t.2, t.3.1, length-take-le c.in-Waits.rest c.add_waiting.new.buffer t.2);
      numbers = omega (
        arith,
        i.numbers,
        grows.0,
        grows.1,
        size,
        t.1,
        length-take-le (c.loop-budget.len + c.in-Bytes.n) c.read_behind.new.buffer (omega (arith, size, grows.1)),
      );
      budget_is = omega (arith, i.budget_is);
      is_open = t.3;
      counts = omega (arith, i.counts, c.in-Bytes.ensures.counts);
      stands = λ input h. goes_on c.args.most c.args.tables.now input (g.S.Source.left c.loop-budget.source)
          (c.args.most - c.loop-budget.budget) c.loop-budget.tables c.loop-budget.number _ (i.stands input h)
          (g.S.Source.left c.read_behind.new.source) c.in-Bytes.n c.loop-budget.len c.loop-budget.buffer
          c.read_behind.new.buffer refl (omega (arith, i.budget_is, grows.0)) c.in-Bytes.ensures.takes
          c.add_waiting.new.tables c.in-Waits.next _ _ (omega (arith, i.budget_is, grows.0)) t.4;
    }

pub returns-in-Bad-clause-adds : goal.returns-in-Bad-clause-adds
returns-in-Bad-clause-adds g c = λ input h.
    let i = c.loop-budget.invariant in
    is_bad c.args.most c.args.tables.now input (g.S.Source.left c.loop-budget.source)
    (c.args.most - c.loop-budget.budget) c.loop-budget.tables c.loop-budget.number _ (i.stands input h)
    (g.S.Source.left c.read_behind.new.source) c.in-Bytes.n c.loop-budget.len c.loop-budget.buffer
    c.read_behind.new.buffer refl (omega (arith, i.budget_is, c.in-Bytes.ensures.grows.0))
    c.in-Bytes.ensures.takes c.in-Bad.number c.in-Bad.ensures.takes

pub returns-clause-adds : goal.returns-clause-adds
returns-clause-adds g c = λ input h.
    let i = c.loop-budget.invariant in
    at_limit c.args.most c.args.tables.now input (g.S.Source.left c.loop-budget.source)
    (c.args.most - c.loop-budget.budget) c.loop-budget.tables c.loop-budget.number _ (i.stands input h)
    (omega (arith, c.loop-budget-test.false)) i.is_open
