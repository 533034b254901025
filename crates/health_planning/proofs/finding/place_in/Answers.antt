use Rattle.std.proofs.Common.{◌≡◌, arith, ◌∙◌, Some, ap}
use Rattle.std.specs.Prelude.{slice_get}
use Rattle.std.proofs.lemmas.Option.{slice_get-get_or, slice_get_within, get_or_from_slice_get}
use Rattle.std.proofs.Common.{below_more}
use Rattle.health_planning.proofs.Places.{placed_at}
use Rattle.health_planning.proofs.finding.place_in.Goals as goal

pub returns-then-other-id : goal.returns-then-other-id
returns-then-other-id c =
    let at : slice_get c.args.ids.now c.loop-place.place ≡ Some c.args.id = slice_get-get_or c.args.ids.now c.loop-place.place 0 c.loop-place-test.true ∙
    ap Some c.if-other-id.true in
    (at, placed_at c.args.ids.now c.args.id c.loop-place.place c.loop-place.invariant at)

pub loop-place-preserved : goal.loop-place-preserved
loop-place-preserved c = below_more _ _ c.loop-place.invariant
    (λ is. c.if-other-id.false (get_or_from_slice_get c.args.ids.now c.loop-place.place c.args.id 0 is))

pub returns : goal.returns
returns c place is =
    let within = slice_get_within c.args.ids.now place c.args.id is in
    let end = c.loop-place-test.false in
    c.loop-place.invariant place (omega arith) is
