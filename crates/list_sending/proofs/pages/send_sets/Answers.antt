use Rattle.std.proofs.Common.{◌+◌, ◌++◌, drop, take, arith}
use Rattle.std.specs.Prelude.{true}
use Rattle.std.proofs.lemmas.List.{length-map}
use Rattle.set_sending.specs.PiecesOfListWriting.{set_pieces, sets_pieces}
use Rattle.config_zones.specs.Zones.{placed_in}
use Rattle.list_sending.specs.Pages.{sets_in}
use Rattle.list_sending.proofs.Next.{next_set, set_at}
use Rattle.set_sending.proofs.Passed.{first_next}
use Rattle.list_sending.proofs.pages.send_sets.Goals as goal

pub returns-in-Failed-clause-passes : goal.returns-in-Failed-clause-passes
returns-in-Failed-clause-passes g c = λ held rest text passed.
    let place = c.loop-place.place in
    let sets = sets_in c.args.zones.now.zones c.args.zone in
    let page = take c.args.end sets in
    let count = length-map (placed_in c.args.zones.now.zones c.args.zone) (λ p. p.set) in
    let x = set_at sets c.args.end place c.loop-place-test.true (omega (arith, count, c.requires.within)) in
    c.in-Failed.ensures.passes x.0 x.1 held
    (sets_pieces true c.args.zone (drop (place + 1) page) ++ rest) text
    (first_next held _ _ _ (set_pieces c.loop-place.later c.args.zone x.0)
    (sets_pieces true c.args.zone (drop (place + 1) page)) rest text
    (next_set c.loop-place.later c.args.zone page place x.0 x.2)
    (c.loop-place.invariant.passes held rest text passed))

pub loop-place-preserved : goal.loop-place-preserved
loop-place-preserved g c = record {
  capacity = omega (arith, c.in-Whole.ensures.capacity, c.loop-place.invariant.capacity);
  counts = omega (arith, c.in-Whole.ensures.counts, c.loop-place.invariant.counts);
  passes = λ held rest text passed.
      let place = c.loop-place.place in
      let sets = sets_in c.args.zones.now.zones c.args.zone in
      let page = take c.args.end sets in
      let count = length-map (placed_in c.args.zones.now.zones c.args.zone) (λ p. p.set) in
      let x = set_at sets c.args.end place c.loop-place-test.true (omega (arith, count, c.requires.within)) in
      c.in-Whole.ensures.passes x.0 x.1 held
      (sets_pieces true c.args.zone (drop (place + 1) page) ++ rest) text
      (first_next held _ _ _ (set_pieces c.loop-place.later c.args.zone x.0)
      (sets_pieces true c.args.zone (drop (place + 1) page)) rest text
      (next_set c.loop-place.later c.args.zone page place x.0 x.2)
      (c.loop-place.invariant.passes held rest text passed));
}
