use Rattle.std.proofs.Common.{arith, ◌∙◌}
use Rattle.health_valves.proofs.Members.{in_none}
use Rattle.health_valves.proofs.valves.Valves.pass.Goals as goal

pub loop-preserved : goal.loop-preserved
loop-preserved g c =
    let i = c.loop.invariant in
    let p = c.pass_one.ensures in
    let was = i.cost in
    let now = p.cost in
    record {
      fits = λ net own f. p.fits net own (i.fits net own f);
      mends = λ net own f ends m. p.mends net own (i.fits net own f) ends (i.mends net own f ends m);
      within = p.within;
      first = p.first;
      marked = p.marked;
      room = λ n m h. p.room n m (i.room n m h);
      size = p.size ∙ i.size;
      links = p.links ∙ i.links;
      cost = omega arith;
    }

pub returns-clause-fits : goal.returns-clause-fits
returns-clause-fits g c net own f = c.pass_one.ensures.fits net own (c.loop.invariant.fits net own f)

pub returns-clause-mends : goal.returns-clause-mends
returns-clause-mends g c net own f ends m n b =
    let i = c.loop.invariant in
    let p = c.pass_one.ensures in
    let none = p.end c.loop-test.false in
    p.mends net own (i.fits net own f) ends (i.mends net own f ends m) n b (λ k. in_none n (rw none at k))

pub returns-clause-room : goal.returns-clause-room
returns-clause-room g c n m h = c.pass_one.ensures.room n m (c.loop.invariant.room n m h)
