use Rattle.std.proofs.Common.{ap, sym, ◌∙◌}
use Rattle.std.proofs.lemmas.Bool.Decides.{Decides-eqb}
use Rattle.health_planning.specs.Wired.{own_part}
use Rattle.health_standing.proofs.founding.is_own_beside.Goals as goal

pub returns : goal.returns
returns c =
    let its = c.find_seat-seat.ensures in
    let d = Decides-eqb c.own_valve.result c.find_seat-seat.result.set in
    let kept = c.own_valve.ensures ∙ ap own_part its.set in (
      λ on. (
        c.if-other-slot.false,
        (sym its.set ∙ sym (d.0 on) ∙ kept, sym its.group ∙ c.if-seat-ne0.false),
      ),
      λ own. d.1 (kept ∙ sym own.1.0 ∙ sym its.set),
    )
