use Rattle.std.proofs.Common.{[], arith, refl}
use Rattle.check_model.specs.Commands.{is_too_deep}
use Rattle.check_model.proofs.Walks.{shallow_of}
use Rattle.check_model.proofs.laws.no_checks_are_sound.Goals as goal

pub returns : goal.returns
unfolding is_too_deep
returns c = record {
  few = omega arith;
  from = omega arith;
  to = omega arith;
  ids = tt;
  rising = tt;
  children = tt;
  shallow = shallow_of [] refl;
  bounded = tt;
}
