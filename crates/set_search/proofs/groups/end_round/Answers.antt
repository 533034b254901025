use Rattle.std.proofs.Common.{◌+◌, ◌-◌, arith}
use Rattle.set_search.proofs.Beside.{ends_before, ends_later}
use Rattle.set_search.proofs.Lookups.{filled}
use Rattle.set_search.proofs.groups.end_round.Goals as goal

pub loop-last-init : goal.loop-last-init
loop-last-init g c = record { from = omega arith; ends = c.requires.ends }

pub returns-then-not-is_of : goal.returns-then-not-is_of
returns-then-not-is_of g c =
    let sets = g.S.SetList.sets c.args.sets.now in
    let last = c.loop-last.last in
    let next = last + (last - c.args.start + 1) in
    let inside = c.loop-last.invariant.ends.bracket.within in
    let more = c.if-step-high.false in
    let y = filled sets next (omega (arith, inside, more)) in
    ends_before c.args.name.now c.args.rtype sets c.requires.rising last
    c.loop-last.invariant.ends.member next y.0 (omega arith) y.1
    (λ is. let t = (c.is_of.ensures y.0 y.1).1 is in let f = c.if-not-is_of.true in grind (arith, t, f))

pub loop-last-preserved : goal.loop-last-preserved
loop-last-preserved g c =
    let sets = g.S.SetList.sets c.args.sets.now in
    let last = c.loop-last.last in
    let next = last + (last - c.args.start + 1) in
    let inside = c.loop-last.invariant.ends.bracket.within in
    let more = c.if-step-high.false in
    let y = filled sets next (omega (arith, inside, more)) in
    record {
      from = (let from = c.loop-last.invariant.from in omega (arith, from));
      ends =
          ends_later c.args.name.now c.args.rtype sets c.requires.rising last c.args.high next
          (omega (arith, more)) c.loop-last.invariant.ends
          (y.0, y.1, (c.is_of.ensures y.0 y.1).0 c.if-not-is_of.false);
    }
