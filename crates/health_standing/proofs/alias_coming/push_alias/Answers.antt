use Rattle.std.proofs.Common.{◌++◌, ◌∷◌, [], ℕ, Option, sym}
use Rattle.std.specs.Option.{option_to_list}
use mathlib.Core.Path.{subst}
use Rattle.health_valves.specs.Valves.{ValvesStandFor, fed_condition, with_one_more, with_own}
use Rattle.health_standing.proofs.alias_coming.push_alias.Goals as goal

pub returns-in-Some-clause-fits : goal.returns-in-Some-clause-fits
returns-in-Some-clause-fits c net own fits =
    subst (λ (o : Option ℕ). ValvesStandFor (with_one_more (fed_condition (option_to_list o ++ c.args.feeders.group ∷ [])) net) (with_own net.size 0 own) c.push_fed.new.self)
    (sym c.in-Some.is) (c.push_fed.ensures.fits net own fits)

pub returns-in-None-clause-fits : goal.returns-in-None-clause-fits
returns-in-None-clause-fits c net own fits =
    subst (λ (o : Option ℕ). ValvesStandFor (with_one_more (fed_condition (option_to_list o ++ c.args.feeders.group ∷ [])) net) (with_own net.size 0 own) c.push_fed-in-None.new.self)
    (sym c.in-None.is) (c.push_fed-in-None.ensures.fits net own fits)
