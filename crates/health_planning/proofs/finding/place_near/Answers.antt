use Rattle.health_planning.proofs.Places.{only_place}
use Rattle.health_planning.proofs.finding.place_near.Goals as goal

pub returns-then-is_at : goal.returns-then-is_at
returns-then-is_at c =
    let here = c.is_at.ensures c.if-is_at.true in
    (here, only_place c.args.ids.now c.requires c.place_guessed-guess.result c.args.id here)

pub returns-then-is_at-2 : goal.returns-then-is_at-2
returns-then-is_at-2 c =
    let here = c.is_at-2.ensures c.if-is_at-2.true in
    (here, only_place c.args.ids.now c.requires c.partition_point-place.result c.args.id here)
