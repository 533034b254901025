-- The lines on health checks (API Reference, HealthCheckConfig and UpdateHealthCheck).
use Rattle.std.specs.Prelude.{ℕ, List, [], ◌∷◌, codes, Bool, false, ◌||◌, is_some, if◌then◌else◌}
use Rattle.std.specs.Prelude.{Option, unwrap_or, Result, Ok}
use Rattle.std.specs.Str.{bytes_eq}
use Rattle.serde_json.specs.Data.{Data}
use Rattle.line_reading.specs.Reading.{◌>>=◌, object, required, optional, or_bad, bad, unsupported}
use Rattle.line_reading.specs.Reading.{each}
use Rattle.line_reading.specs.Kinds.{text, flag, number, list, check_id}
use Rattle.line_faults.specs.declared.member.Member.{Member}
use Rattle.line_faults.specs.declared.member.Member.TheVariants as m
use Rattle.line_faults.specs.declared.fault.LineFault.{LineFault}
use Rattle.line_faults.specs.declared.fault.LineReason.TheVariants.{OutOfRange, Both, Missing}
use Rattle.check_lines.specs.declared.types.Kind.{Kind}
use Rattle.check_lines.specs.declared.types.Kind.TheVariants as kind
use Rattle.check_lines.specs.declared.creating.NewCheck.{NewCheck}
use Rattle.check_lines.specs.declared.creating.NewCheck.TheVariants as new
use Rattle.check_lines.specs.declared.updating.CheckUpdate.{CheckUpdate}
use Rattle.check_lines.specs.declared.observing.Observation.{Observation}

-- the type of a check: of an endpoint, or of other checks
abbrev pub is_endpoint_type : List ℕ → Bool
is_endpoint_type s =
    bytes_eq s (codes "HTTP") || bytes_eq s (codes "HTTPS") || bytes_eq s (codes "HTTP_STR_MATCH")
    || bytes_eq s (codes "HTTPS_STR_MATCH") || bytes_eq s (codes "TCP")

-- types that Route 53 has and r53 does not
abbrev pub is_unsupported_type : List ℕ → Bool
is_unsupported_type s =
    bytes_eq s (codes "CLOUDWATCH_METRIC") || bytes_eq s (codes "RECOVERY_CONTROL")

abbrev pub kind_of : Member → List ℕ → Result Kind LineFault
kind_of h s =
    if is_endpoint_type s then Ok kind.Endpoint
    else if bytes_eq s (codes "CALCULATED") then Ok kind.Calculated
    else if is_unsupported_type s then unsupported h
    else bad OutOfRange h

unfoldable pub check_type : Member → Data → Result Kind LineFault
check_type h d = text h d >>= kind_of h

-- a list of at most 255 ids
unfoldable pub children : Member → Data → Result (List ℕ) LineFault
children h d = list 0 255 h d >>= each (λ _. check_id h) 0

-- The joint rules, and the check. A failure threshold that is absent is 3, and children that are
-- absent are none.
unfoldable pub endpoint : (failures : Option ℕ) (inverted disabled : Bool) (healthy : Option ℕ)
    (ids : Option (List ℕ)) → Result NewCheck LineFault
endpoint failures inverted disabled healthy ids =
    if is_some healthy then bad Both m.HealthThreshold
    else if is_some ids then bad Both m.ChildHealthChecks
    else Ok (new.Endpoint (unwrap_or failures 3) inverted disabled)

unfoldable pub calculated : (failures : Option ℕ) (inverted disabled : Bool) (healthy : Option ℕ)
    (ids : Option (List ℕ)) → Result NewCheck LineFault
calculated failures inverted disabled healthy ids =
    if is_some failures then bad Both m.FailureThreshold
    else or_bad healthy Missing m.HealthThreshold
    >>= λ threshold. Ok (new.Calculated threshold inverted disabled (unwrap_or ids []))

abbrev pub check_of : Kind → (failures : Option ℕ) (inverted disabled : Bool) (healthy : Option ℕ)
    (ids : Option (List ℕ)) → Result NewCheck LineFault
check_of kind.Endpoint = endpoint
check_of kind.Calculated = calculated

unfoldable pub health_check_config : Member → Data → Result NewCheck LineFault
health_check_config h o = do
  _ ← object h (m.AlarmIdentifier ∷ m.InsufficientDataHealthStatus ∷ m.RoutingControlArn ∷ [])
      (m.«Type» ∷ m.FailureThreshold ∷ m.Inverted ∷ m.Disabled ∷ m.HealthThreshold
      ∷ m.ChildHealthChecks ∷ m.IpAddress ∷ m.Port ∷ m.ResourcePath
      ∷ m.FullyQualifiedDomainName ∷ m.SearchString ∷ m.RequestInterval ∷ m.MeasureLatency
      ∷ m.EnableSni ∷ m.Regions ∷ []) o
  type ← required m.«Type» check_type o
  failures ← optional m.FailureThreshold (number 1 10) o
  inverted ← optional m.Inverted flag o
  disabled ← optional m.Disabled flag o
  healthy ← optional m.HealthThreshold (number 0 256) o
  ids ← optional m.ChildHealthChecks children o
  check_of type failures (unwrap_or inverted false) (unwrap_or disabled false) healthy ids

unfoldable pub create_health_check : Data → Result NewCheck LineFault
create_health_check o = do
  _ ← object m.CreateHealthCheck [] (m.CallerReference ∷ m.HealthCheckConfig ∷ []) o
  required m.HealthCheckConfig health_check_config o

unfoldable pub update_health_check : Data → Result CheckUpdate LineFault
update_health_check o = do
  _ ← object m.UpdateHealthCheck
      (m.AlarmIdentifier ∷ m.FailureThreshold ∷ m.HealthCheckVersion
      ∷ m.InsufficientDataHealthStatus ∷ m.ResetElements ∷ [])
      (m.HealthCheckId ∷ m.Inverted ∷ m.Disabled ∷ m.HealthThreshold ∷ m.ChildHealthChecks
      ∷ m.IpAddress ∷ m.Port ∷ m.ResourcePath ∷ m.FullyQualifiedDomainName ∷ m.SearchString
      ∷ m.EnableSni ∷ m.Regions ∷ []) o
  check ← required m.HealthCheckId check_id o
  inverted ← optional m.Inverted flag o
  disabled ← optional m.Disabled flag o
  healthy ← optional m.HealthThreshold (number 0 256) o
  ids ← optional m.ChildHealthChecks children o
  Ok (record {
    id = check;
    inverted = inverted;
    disabled = disabled;
    threshold = healthy;
    children = ids;
  })

-- the id of the check that a line names alone
abbrev pub check_named : Member → Data → Result ℕ LineFault
check_named line o = do
  _ ← object line [] (m.HealthCheckId ∷ []) o
  required m.HealthCheckId check_id o

unfoldable pub delete_health_check : Data → Result ℕ LineFault
delete_health_check o = check_named m.DeleteHealthCheck o

unfoldable pub get_health_check_status : Data → Result ℕ LineFault
get_health_check_status o = check_named m.GetHealthCheckStatus o

unfoldable pub observe : Data → Result Observation LineFault
observe o = do
  _ ← object m.Observe [] (m.HealthCheckId ∷ m.Checker ∷ m.Pass ∷ []) o
  check ← required m.HealthCheckId check_id o
  checker ← required m.Checker (number 0 255) o
  passes ← required m.Pass flag o
  Ok (record { id = check; checker = checker; pass = passes })
