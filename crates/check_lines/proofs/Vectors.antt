-- Parts of lines on health checks at values from outside (API Reference, HealthCheckConfig).
use Rattle.std.proofs.Common.{◌≡◌, true, false, [], ◌∷◌, Some, None, Ok, refl}
use Rattle.std.specs.Prelude.{codes}
use Rattle.line_reading.specs.Reading.{bad, unsupported}
use Rattle.line_faults.specs.declared.member.Member.TheVariants as m
use Rattle.line_faults.specs.declared.fault.LineReason.TheVariants.{Both, Missing, OutOfRange}
use Rattle.check_lines.specs.Checks.{kind_of, endpoint, calculated}
use Rattle.check_lines.specs.declared.types.Kind.TheVariants as kind
use Rattle.check_lines.specs.declared.creating.NewCheck.TheVariants as new

pub text_match : kind_of m.«Type» (codes "HTTPS_STR_MATCH") ≡ Ok kind.Endpoint
text_match = refl

pub of_others : kind_of m.«Type» (codes "CALCULATED") ≡ Ok kind.Calculated
of_others = refl

pub of_a_metric : kind_of m.«Type» (codes "CLOUDWATCH_METRIC") ≡ unsupported m.«Type»
of_a_metric = refl

pub udp : kind_of m.«Type» (codes "UDP") ≡ bad OutOfRange m.«Type»
udp = refl

pub three_failures : endpoint None false false None None ≡ Ok (new.Endpoint 3 false false)
unfolding endpoint
three_failures = refl

-- of two members too many the first is told
pub both : endpoint None false false (Some 1) (Some []) ≡ bad Both m.HealthThreshold
unfolding endpoint
both = refl

pub no_children : calculated None true false (Some 0) None ≡ Ok (new.Calculated 0 true false [])
unfolding calculated
no_children = refl

pub no_threshold : calculated None false false None (Some (1 ∷ [])) ≡ bad Missing m.HealthThreshold
unfolding calculated
no_threshold = refl
