use Rattle.std.proofs.Common.{sym}
use Rattle.set_scratch.proofs.Named.{begins}
use Rattle.set_scratch.proofs.parts.name_in_front.Goals as goal

pub returns-in-Some : goal.returns-in-Some
returns-in-Some c = λ labels rest is e.
    sym (c.in-Some.ensures.only labels _ (begins c.args.octets.now labels rest is e)).0

pub returns-in-None : goal.returns-in-None
returns-in-None c = λ labels rest is e.
    absurd (c.in-None.ensures.none labels _ (begins c.args.octets.now labels rest is e))
