use Rattle.std.proofs.Common.{arith, ◌∙◌}
use Rattle.health_standing.proofs.founding.seat_first.Goals as goal

pub returns-clause-seated : goal.returns-clause-seated
returns-clause-seated c =
    let g = c.grow_seats.ensures in
    let s = c.seat_those.ensures.seated in
    let o = c.put_own.ensures.seated in
    record {
      own = (let up = o.set in omega (arith, up));
      check = o.check;
      none = o.group;
      sets = λ other apart.
          let t = o.others other apart in
          let u = s.sets other in
          let v = g.all other in
          (t.0.0 ∙ (u.0 ∙ v.0.0), t.0.1 ∙ (u.1 ∙ v.0.1));
      group = λ p here apart. (o.others p.slot apart).1 ∙ s.group p here;
      others = λ other apart none. (o.others other apart).1 ∙ (s.others other none ∙ (g.all other).1);
    }
