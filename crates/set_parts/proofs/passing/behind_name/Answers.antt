use Rattle.std.proofs.Common.{rules, arith, sym, ap, length, length-drop, ◌∙◌}
use Rattle.set_reading.proofs.Digits.{octet_is}
use Rattle.set_parts.proofs.Labels.{passed, ended, some_left}
use Rattle.set_parts.proofs.passing.behind_name.Goals as goal

pub returns-then-size-eq0-clause-behind : goal.returns-then-size-eq0-clause-behind
returns-then-size-eq0-clause-behind c labels rest is e =
    let at = c.loop-size.invariant.behind labels rest is e in
    ended c.in-Ok.size c.loop-size.left.now c.in-Ok.others.now rest c.in-Ok.ensures at.0 at.1 at.2
    c.if-size-eq0.true

pub loop-size-preserved : goal.loop-size-preserved
loop-size-preserved c = record {
  fits = omega (
    arith,
    c.loop-size.invariant.fits,
    ap length c.past-left.ensures,
    length-drop c.in-Ok.size c.in-Ok.others.now,
    ap length (octet_is c.loop-size.left.now (c.in-Ok.size, c.in-Ok.others.now) c.in-Ok.ensures),
  );
  behind = λ labels rest is e.
      let at = c.loop-size.invariant.behind labels rest is e in
      let p = passed c.in-Ok.size c.loop-size.left.now c.in-Ok.others.now rest c.in-Ok.ensures at.0 at.1 at.2
      c.if-size-eq0.false in
      (p.0, p.1, c.past-left.ensures ∙ p.2);
}
