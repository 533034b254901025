use Rattle.set_sending.proofs.Passed.{cut, written}
use Rattle.set_sending.proofs.passing.make_room.Goals as goal

pub returns-in-Whole-clause-passes : goal.returns-in-Whole-clause-passes
returns-in-Whole-clause-passes g c = λ held rest text passed.
    written held rest text _ _ _ _ c.deref.ensures.value passed _ c.clear.ensures.items
    c.in-Whole.ensures.writes

pub returns-in-Failed-clause-passes : goal.returns-in-Failed-clause-passes
returns-in-Failed-clause-passes g c = λ held rest text passed.
    cut held rest text _ _ _ _ c.deref.ensures.value passed c.in-Failed.ensures.writes
