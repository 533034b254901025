use Rattle.std.proofs.Common.{refl, ap, arith}
use Rattle.zone_journal.specs.Standing.{State}
use Rattle.zone_journal.proofs.journal.ZoneJournal.piece.Goals as goal

pub returns-then-place-eq0-clause-left : goal.returns-then-place-eq0-clause-left
returns-then-place-eq0-clause-left g c = λ x y tx ty since is. c.close_old.ensures.left y ty since

pub returns-then-place-eq0-clause-any_moment : goal.returns-then-place-eq0-clause-any_moment
returns-then-place-eq0-clause-any_moment g c =
    λ x y tx ty since is. c.close_old.ensures.any_moment y ty since

pub left-requires-clause-from : goal.left-requires-clause-from
left-requires-clause-from g c =
    omega (
      arith,
      (c.requires.stands.plan c.args.plan refl).from,
      c.gate.ensures,
      ap (λ (v : State). v.at) c.self.view_is,
    )

pub returns-then-left-gt2-clause-left : goal.returns-then-left-gt2-clause-left
returns-then-left-gt2-clause-left g c = λ x y tx ty since is. c.copy_next.ensures.left y ty since

pub returns-then-left-gt2-clause-any_moment : goal.returns-then-left-gt2-clause-any_moment
returns-then-left-gt2-clause-any_moment g c =
    λ x y tx ty since is. c.copy_next.ensures.any_moment y ty since
