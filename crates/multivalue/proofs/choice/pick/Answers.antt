use Rattle.std.proofs.Common.{◌≡◌, ◌-◌, take, drop, replicate, subst, arith, length-set, ◌∙◌}
use Rattle.multivalue.specs.Choice.{cyclic_from}
use Rattle.multivalue.proofs.Cyclic.{picked_more, picked_all, zeros_more}
use Rattle.multivalue.proofs.choice.pick.Goals as goal

pub loop-j-preserved : goal.loop-j-preserved
loop-j-preserved c =
    let so_far = c.loop-j.invariant in
    record {
      room = length-set c.loop-j.places c.loop-j.j _ ∙ so_far.room;
      front = picked_more c.args.from c.args.considered.now c.requires.within c.loop-j.places
          c.loop-j.j _
          (omega arith) (omega (arith, so_far.room)) c.from.ensures so_far.front;
      behind = zeros_more c.loop-j.places c.loop-j.j _ so_far.behind;
    }

pub returns : goal.returns
returns c =
    let xs = c.args.considered.now in
    let e : c.loop-j.j ≡ c.min-count.result = omega arith in
    picked_all c.args.from xs c.requires.within c.loop-j.places c.min-count.result
    (omega (arith, c.min-count.ensures))
    (subst (λ n. take n c.loop-j.places ≡ take n (cyclic_from c.args.from xs)) e
    c.loop-j.invariant.front)
    (subst (λ n. drop n c.loop-j.places ≡ replicate (8 - n) 0) e c.loop-j.invariant.behind)
