use Rattle.std.proofs.Common.{[], ◌∷◌, ◌++◌, ap, arith, length, length-append, refl, ◌∙◌}
use Rattle.health_planning.proofs.Told.{all_trans, bare_seat, seats_more}
use Rattle.health_planning.proofs.building.grow_seats.Goals as goal

pub loop-i-init : goal.loop-i-init
loop-i-init c =
    let from = c.len-i.ensures in
    let long = c.args.seats.now.ok.0 in
    record {
      within = λ few. omega arith;
      len = omega arith;
      size = omega arith;
      all = λ slot. ((refl, refl), refl);
      room = refl;
    }

pub loop-i-preserved : goal.loop-i-preserved
loop-i-preserved c =
    let i = c.loop-i.invariant in
    let more = c.push_reserved.ensures.items in
    let longer = ap length more ∙ length-append c.loop-i.seats.items (bare_seat ∷ []) in
    let one = c.push_reserved.ensures.len in
    let len = i.len in
    let size = i.size in
    record {
      within = λ few. omega (arith, c.loop-i-test.true);
      len = omega arith;
      size = omega arith;
      all = λ slot. rw more
          (all_trans c.args.seats.now.items c.loop-i.seats.items (c.loop-i.seats.items ++ bare_seat ∷ []) slot (i.all slot)
          (seats_more c.loop-i.seats.items slot));
      room = c.push_reserved.ensures.capacity ∙ i.room;
    }

pub returns-clause-least : goal.returns-clause-least
returns-clause-least c =
    let size = c.loop-i.invariant.size in
    let end = c.loop-i-test.false in
    omega arith

pub returns-clause-few : goal.returns-clause-few
returns-clause-few c few =
    let size = c.loop-i.invariant.size in
    let end = c.loop-i-test.false in
    let within = c.loop-i.invariant.within few in
    omega arith
