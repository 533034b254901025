use Rattle.std.proofs.Common.{[], ◌∙◌, List, ℕ, Some, ap}
use Rattle.set_parts.specs.RTypeRecord.{RType}
use Rattle.set_scratch.specs.Spelling.{from_policy}
use Rattle.set_scratch.specs.Spelling.{from_type}
use Rattle.set_scratch.proofs.Found.{named}
use Rattle.set_scratch.proofs.Told.{alone, no_target, some_target}
use Rattle.set_scratch.proofs.telling.target_in.Goals as goal

pub returns-in-Some : goal.returns-in-Some
returns-in-Some c = λ set spells.
    let body = c.body_of.ensures set [] spells.is (alone c.args.octets.now set spells) in
    let typed = c.behind_name.ensures.behind set.name (from_type set) spells.is.name (spells.same ∙ named set) in
    let rtype = c.type_in.ensures set.rtype (from_policy set) typed in
    ap (λ (t : RType). Some (c.in-Some.alias.0, t)) rtype
    ∙ some_target set.rtype set.body c.in-Some.alias
    (c.in-Some.ensures set.body _ spells.is.body body)

pub returns-in-None : goal.returns-in-None
returns-in-None c = λ set spells.
    no_target set.rtype set.body
    (c.in-None.ensures set.body _ spells.is.body
    (c.body_of.ensures set [] spells.is (alone c.args.octets.now set spells)))
