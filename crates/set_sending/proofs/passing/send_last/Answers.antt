use Rattle.set_sending.proofs.Passed.{ended}
use Rattle.set_sending.proofs.passing.send_last.Goals as goal

pub returns-clause-writes : goal.returns-clause-writes
returns-clause-writes g c = λ held whole passed.
    ended held whole _ _ _ _ _ c.deref.ensures.value passed c.write_whole.ensures.writes
