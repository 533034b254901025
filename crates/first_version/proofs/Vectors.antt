-- Checks 1 of an endpoint and 2 over it: the first version has no check over 2.
use Rattle.std.proofs.Common.{◌≡◌, false, [], ◌∷◌, None, Some, refl}
use Rattle.check_model.specs.Checks.{Checks}
use Rattle.check_model.specs.Commands.{is_too_deep, refusal_of}
use Rattle.check_model.specs.declared.checks.Check.TheVariants.{Endpoint, Calculated}
use Rattle.check_model.specs.declared.checks.CheckCommand.TheVariants.{Create, Update}
use Rattle.check_model.specs.declared.refusals.CheckRefusal.TheVariants.{ChildTooDeep, NoSuchHealthCheck}
use Rattle.first_version.specs.Rules.{first_refusal_of}

abbrev two : Checks
two = record {
  next = 3;
  list = (1, Endpoint 3 false false) ∷ (2, Calculated 1 false false (1 ∷ [])) ∷ [];
}

over_an_endpoint : first_refusal_of two (Create (Calculated 1 false false (1 ∷ []))) ≡ None
over_an_endpoint = refl

over_a_calculated_check :
    first_refusal_of two (Create (Calculated 1 false false (2 ∷ []))) ≡ Some ChildTooDeep
over_a_calculated_check = refl

missing_first :
    first_refusal_of two (Create (Calculated 1 false false (2 ∷ 9 ∷ [])))
    ≡ Some (NoSuchHealthCheck 9)
missing_first = refl

over_itself : first_refusal_of two (Update 2 None None None (Some (2 ∷ []))) ≡ Some ChildTooDeep
over_itself = refl

accepted_today : refusal_of two (Create (Calculated 1 false false (2 ∷ []))) ≡ None
unfolding is_too_deep
accepted_today = refl
