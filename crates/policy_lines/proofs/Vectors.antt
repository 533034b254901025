-- Policies and places at values from outside.
use Rattle.std.proofs.Common.{◌≡◌, true, false, [], ◌∷◌, Some, None, Ok, refl}
use Rattle.std.specs.Prelude.{codes}
use Rattle.routing.specs.declared.policies.Place.TheVariants as place
use Rattle.routing.specs.declared.policies.Routing.TheVariants as routing
use Rattle.line_reading.specs.Reading.{bad}
use Rattle.line_faults.specs.declared.member.Member.TheVariants as m
use Rattle.line_faults.specs.declared.fault.LineReason.TheVariants.{Both, Missing, Alone}
use Rattle.policy_lines.specs.Places.{country_of_text, place_of}
use Rattle.policy_lines.specs.declared.places.Country.TheVariants as country
use Rattle.policy_lines.specs.Policies.{routing_of}
use Rattle.policy_lines.specs.declared.policies.Policies.{Policies}

abbrev none : Policies
none = record {
  ident = None;
  weight = None;
  role = None;
  place = None;
  region = None;
  several = false;
  location = None;
}

pub simple : routing_of none ≡ Ok routing.Simple
unfolding routing_of
simple = refl

-- the second in the order of the table, and before the identifier that is missing
pub both : routing_of (record none { region = Some (codes "eu-west-1"); weight = Some 3 })
    ≡ bad Both m.Region
unfolding routing_of
both = refl

pub no_identifier : routing_of (record none { several = true }) ≡ bad Missing m.SetIdentifier
unfolding routing_of
no_identifier = refl

pub alone : routing_of (record none { ident = Some (codes "a") }) ≡ bad Alone m.SetIdentifier
unfolding routing_of
alone = refl

pub block : routing_of (record none { ident = Some (codes "a"); location = Some (7, codes "*") })
    ≡ Ok (routing.Cidr (codes "a") 7 (codes "*"))
unfolding routing_of
block = refl

pub australia : country_of_text (codes "AU") ≡ Some (country.Code (0x41 ∷ 0x55 ∷ []))
australia = refl

pub lower_country : country_of_text (codes "au") ≡ None
lower_country = refl

-- a country's part, and one without a country
pub queensland : place_of None (Some (country.Code (codes "AU"))) (Some (codes "QLD"))
    ≡ Ok (place.Subdivision (codes "AU") (codes "QLD"))
unfolding place_of
queensland = refl

pub nowhere : place_of None None (Some (codes "QLD")) ≡ bad Missing m.CountryCode
unfolding place_of
nowhere = refl
