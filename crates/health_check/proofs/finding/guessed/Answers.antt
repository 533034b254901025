use Rattle.std.proofs.Common.{◌-◌, get_or, ap, ◌∙◌}
use Rattle.health_check.proofs.Places.{Held, found_there}
use Rattle.health_check.proofs.finding.guessed.Goals as goal

pub returns : goal.returns
returns c =
    let list = c.args.list.now in
    let first = (get_or list 0 c.index-list-0-2.result).0 in
    found_there list c.requires (c.args.id - first) c.args.id c.index-list-place.result
    c.if-place-list.false c.index-list-place.is
    (ap (λ (h : Held). h.0) c.index-list-place.is ∙ c.if-list-place.false)
