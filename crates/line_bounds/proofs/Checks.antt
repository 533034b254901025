-- A command on checks that a line gives is within its bounds.
use Rattle.std.proofs.Common.{◌≡◌, ℕ, ◌≤◌, List, [], length, Bool, true, false, Option, None, Some, Ok, arith, refl, subst, sym}
use Rattle.std.specs.Prelude.{IfSome, ⊤, codes, unwrap_or}
use Rattle.std.specs.Str.{bytes_eq}
use Rattle.batch_json.specs.Lines.{new_check}
use Rattle.check_lines.specs.Checks.{calculated, check_of, check_type, children, create_health_check, endpoint, health_check_config, is_endpoint_type}
use Rattle.check_lines.specs.Checks.{is_unsupported_type, kind_of, update_health_check}
use Rattle.check_lines.specs.declared.creating.NewCheck.{NewCheck}
use Rattle.check_lines.specs.declared.updating.CheckUpdate.{CheckUpdate}
use Rattle.check_model.specs.Checks.{IsBounded}
use Rattle.check_model.specs.Commands.{IsThreshold}
use Rattle.serde_json.specs.Data.{Data}
use Rattle.line_faults.specs.declared.member.Member.{Member}
use Rattle.line_faults.specs.declared.member.Member.TheVariants as m
use Rattle.line_reading.specs.Kinds.{check_id, flag, list, number, text}
use Rattle.line_reading.specs.Reading.{◌>>=◌, optional, required}
use Rattle.line_bounds.proofs.Steps.{after_object, each_has, list_within, number_within, optional_has, required_has, same_ok, steps}

abbrev IsFailures : ℕ → Type 0
IsFailures n = (1 ≤ n) × (n ≤ 10)

abbrev AreFew : List ℕ → Type 0
AreFew ids = length ids ≤ 255

abbrev pub IsBoundedNew : NewCheck → Type 0
IsBoundedNew check = IsBounded (new_check check)

few : (h : Member) (d : Data) (ids : List ℕ) → children h d ≡ Ok ids → AreFew ids
unfolding children
few h d ids e =
    let s = steps (list 0 255 h d) _ ids e in
    let all = each_has (λ (id : ℕ). ⊤) (λ _. check_id h) (λ k d id r. tt) 0 s.value ids s.gives in
    omega (arith, all.1, list_within 0 255 h d s.value s.is)

few_or_none : (ids : Option (List ℕ)) → IfSome ids AreFew → AreFew (unwrap_or ids [])
few_or_none None are = omega arith
few_or_none (Some ids) are = are

failures_or_3 : (failures : Option ℕ) → IfSome failures IsFailures
    → IsFailures (unwrap_or failures 3)
failures_or_3 None are = (omega arith, omega arith)
failures_or_3 (Some n) are = are

endpoint_is : (failures : Option ℕ) (inverted disabled : Bool) (healthy : Option ℕ)
    (ids : Option (List ℕ)) (check : NewCheck) → IfSome failures IsFailures
    → endpoint failures inverted disabled healthy ids ≡ Ok check → IsBoundedNew check
unfolding endpoint
endpoint_is failures inverted disabled (Some n) ids check f e = absurd cc
endpoint_is failures inverted disabled None (Some ids) check f e = absurd cc
endpoint_is failures inverted disabled None None check f e =
    subst IsBoundedNew (same_ok _ check e) (failures_or_3 failures f)

calculated_is : (failures : Option ℕ) (inverted disabled : Bool) (healthy : Option ℕ)
    (ids : Option (List ℕ)) (check : NewCheck) → IfSome healthy (λ n. n ≤ 256) → IfSome ids AreFew
    → calculated failures inverted disabled healthy ids ≡ Ok check → IsBoundedNew check
unfolding calculated
calculated_is (Some n) inverted disabled healthy ids check h i e = absurd cc
calculated_is None inverted disabled None ids check h i e = absurd cc
calculated_is None inverted disabled (Some n) ids check h i e =
    subst IsBoundedNew (same_ok _ check e) (h, few_or_none ids i)

threshold_within : (h : Member) (d : Data) (n : ℕ) → number 0 256 h d ≡ Ok n → n ≤ 256
threshold_within h d n r = (number_within 0 256 h d n r).1

-- the text of a type, by the kind of check that it is
by_text : (h : Member) (s : List ℕ) (failures : Option ℕ) (inverted disabled : Bool)
    (healthy : Option ℕ) (ids : Option (List ℕ)) (check : NewCheck) → IfSome failures IsFailures
    → IfSome healthy (λ n. n ≤ 256) → IfSome ids AreFew
    → (kind_of h s >>= λ kind. check_of kind failures inverted disabled healthy ids) ≡ Ok check
    → IsBoundedNew check
by_text h s failures inverted disabled healthy ids check f l i e =
    go (is_endpoint_type s) (bytes_eq s (codes "CALCULATED")) (is_unsupported_type s) refl refl refl
  where
    go : (an_endpoint others unsupported : Bool) → is_endpoint_type s ≡ an_endpoint
        → bytes_eq s (codes "CALCULATED") ≡ others → is_unsupported_type s ≡ unsupported
        → IsBoundedNew check
    go true others unsupported x y z =
        endpoint_is failures inverted disabled healthy ids check f (rw x at e)
    go false true unsupported x y z =
        calculated_is failures inverted disabled healthy ids check l i (rw (x, y) at e)
    go false false true x y z = let k = rw (x, y, z) at e in absurd cc
    go false false false x y z = let k = rw (x, y, z) at e in absurd cc

type_is : (h : Member) (d : Data) (kind : _) → check_type h d ≡ Ok kind
    → (s : List ℕ) × (kind_of h s ≡ Ok kind)
unfolding check_type
type_is h d kind e = let s = steps (text h d) _ kind e in (s.value, s.gives)

config_is : (h : Member) (o : Data) (check : NewCheck) → health_check_config h o ≡ Ok check
    → IsBoundedNew check
unfolding health_check_config
config_is h o check e =
    let a = after_object _ _ _ _ _ check e in
    let b = steps (required m.«Type» check_type o) _ check a in
    let c = steps (optional m.FailureThreshold (number 1 10) o) _ check b.gives in
    let d = steps (optional m.Inverted flag o) _ check c.gives in
    let f = steps (optional m.Disabled flag o) _ check d.gives in
    let g = steps (optional m.HealthThreshold (number 0 256) o) _ check f.gives in
    let k = steps (optional m.ChildHealthChecks children o) _ check g.gives in
    let s = required_has (λ kind. (s : List ℕ) × (kind_of m.«Type» s ≡ Ok kind)) m.«Type» check_type
    o b.value (type_is m.«Type») b.is in
    by_text m.«Type» s.0 c.value (unwrap_or d.value false) (unwrap_or f.value false) g.value k.value
    check
    (optional_has IsFailures m.FailureThreshold (number 1 10) o c.value
    (number_within 1 10 m.FailureThreshold) c.is)
    (optional_has (λ n. n ≤ 256) m.HealthThreshold (number 0 256) o g.value
    (threshold_within m.HealthThreshold) g.is)
    (optional_has AreFew m.ChildHealthChecks children o k.value (few m.ChildHealthChecks) k.is)
    (subst (λ r. (r >>= λ kind. check_of kind c.value (unwrap_or d.value false)
    (unwrap_or f.value false) g.value k.value) ≡ Ok check) (sym s.1) k.gives)

pub check_is : (d : Data) (check : NewCheck) → create_health_check d ≡ Ok check
    → IsBoundedNew check
unfolding create_health_check
check_is d check e =
    let a = after_object _ _ _ _ _ check e in
    required_has IsBoundedNew m.HealthCheckConfig health_check_config d check
    (config_is m.HealthCheckConfig) a

threshold_is : (threshold : Option ℕ) → IfSome threshold (λ n. n ≤ 256) → IsThreshold threshold
threshold_is None is = tt
threshold_is (Some n) is = is

pub update_is : (o : Data) (update : CheckUpdate) → update_health_check o ≡ Ok update
    → IsThreshold update.threshold
unfolding update_health_check
update_is o update e =
    let a = after_object _ _ _ _ _ update e in
    let b = steps (required m.HealthCheckId check_id o) _ update a in
    let c = steps (optional m.Inverted flag o) _ update b.gives in
    let d = steps (optional m.Disabled flag o) _ update c.gives in
    let f = steps (optional m.HealthThreshold (number 0 256) o) _ update d.gives in
    let g = steps (optional m.ChildHealthChecks children o) _ update f.gives in
    let same = same_ok _ update g.gives in
    subst (λ (u : CheckUpdate). IsThreshold u.threshold) same
    (threshold_is f.value (optional_has (λ n. n ≤ 256) m.HealthThreshold (number 0 256) o f.value
    (threshold_within m.HealthThreshold) f.is))
