-- What a command on health checks makes of them, or its first refusal (Route 53 API Reference,
-- CreateHealthCheck, UpdateHealthCheck and DeleteHealthCheck). That a record set names a check
-- which is deleted is looked at where the sets are.
use Rattle.std.specs.Prelude.{ℕ, zero, suc, ◌+◌, ◌≤◌, Bool, true, false, not, ◌&&◌, ◌||◌, nat_le, nat_eq, if◌then◌else◌, List, [], ◌∷◌, ◌++◌, length, map, Option, None, Some, is_some, unwrap_or, Result, Ok, Err, ⊤}
use Rattle.std.specs.List.{filter, list_any}
use Rattle.check_model.specs.declared.checks.Check.{Check}
use Rattle.check_model.specs.declared.checks.Check.TheVariants.{Endpoint, Calculated}
use Rattle.check_model.specs.declared.checks.CheckCommand.{CheckCommand}
use Rattle.check_model.specs.declared.checks.CheckCommand.TheVariants.{Create, Update, Delete}
use Rattle.check_model.specs.declared.refusals.CheckRefusal.{CheckRefusal}
use Rattle.check_model.specs.declared.refusals.CheckRefusal.TheVariants.{ChildRepeated, ChildTooDeep, WrongMember, NoSuchHealthCheck, HealthCheckInUse, TooManyHealthChecks, IdsEnded}
use Rattle.check_model.specs.Checks.{Checks, IsBounded, check_with, children_of}

-- ---- rules in their order

-- a refusal, where a rule holds
abbrev pub refuse_if : Bool → CheckRefusal → Option CheckRefusal
refuse_if holds refusal = if holds then Some refusal else None

-- the first of several
abbrev pub first_of : List (Option CheckRefusal) → Option CheckRefusal
first_of [] = None
first_of (None ∷ rules) = first_of rules
first_of (Some refusal ∷ rules) = Some refusal

-- ---- children

-- a number stands twice
abbrev pub has_repeated : List ℕ → Bool
has_repeated [] = false
has_repeated (child ∷ children) = list_any (nat_eq child) children || has_repeated children

-- a check has the number
abbrev pub is_there : List (ℕ × Check) → ℕ → Bool
is_there list id = is_some (check_with list id)

-- the first of these numbers that no check has
abbrev pub first_missing : List (ℕ × Check) → (children : List ℕ) → Option ℕ
first_missing list [] = None
first_missing list (child ∷ children) =
    if is_there list child then first_missing list children else Some child

-- that child is missing, where there is one
abbrev pub missing : Option ℕ → Option CheckRefusal
missing None = None
missing (Some child) = Some (NoSuchHealthCheck child)

abbrev pub is_calculated : Check → Bool
is_calculated (Endpoint threshold inverted disabled) = false
is_calculated (Calculated threshold inverted disabled children) = true

abbrev pub is_calculated_there : Option Check → Bool
is_calculated_there None = false
is_calculated_there (Some check) = is_calculated check

-- the children of a check, where it is there
abbrev pub children_there : Option Check → List ℕ
children_there None = []
children_there (Some check) = children_of check

-- A walk of checks starts at the check of the number, from one to its child so many times.
abbrev pub starts_walk : (steps : ℕ) → List (ℕ × Check) → (id : ℕ) → Bool
starts_walk zero list id = is_calculated_there (check_with list id)
starts_walk (suc steps) list id =
    list_any (starts_walk steps list) (children_there (check_with list id))

abbrev pub has_walk : (steps : ℕ) → List (ℕ × Check) → Bool
has_walk steps list = list_any (λ (held : ℕ × Check). starts_walk steps list held.0) list

-- A walk of five checks stands, which has four steps (own).
unfoldable pub is_too_deep : List (ℕ × Check) → Bool
is_too_deep list = has_walk 4 list

-- What is asked of children, of the checks that are there, and of those after the command.
abbrev pub children_rules : (list after : List (ℕ × Check)) → (children : List ℕ)
    → List (Option CheckRefusal)
children_rules list after children =
    refuse_if (has_repeated children) ChildRepeated
    ∷ missing (first_missing list children)
    ∷ refuse_if (is_too_deep after) ChildTooDeep
    ∷ []

-- ---- a new check

-- with a new check, which gets the next number
abbrev pub created : Checks → Check → Checks
created checks check = record {
  next = checks.next + 1;
  list = checks.list ++ (checks.next, check) ∷ [];
}

-- the first refusal of a new check
abbrev pub create_refusal : Checks → Check → Option CheckRefusal
create_refusal checks check = first_of (
    children_rules checks.list (created checks check).list (children_of check)
    ++ refuse_if (nat_le 200 (length checks.list)) TooManyHealthChecks
    ∷ refuse_if (nat_eq checks.next 4294967295) IdsEnded
    ∷ [])

-- ---- changes of a check

-- what changes are given; None leaves what is there
pub record Given : Type 0 where
  pub inverted : Option Bool
  pub disabled : Option Bool
  pub threshold : Option ℕ
  pub children : Option (List ℕ)

-- a check with what is given, the rest as it was
abbrev pub updated_check : Given → Check → Check
updated_check given (Endpoint threshold inverted disabled) =
    Endpoint threshold (unwrap_or given.inverted inverted) (unwrap_or given.disabled disabled)
updated_check given (Calculated threshold inverted disabled children) =
    Calculated (unwrap_or given.threshold threshold) (unwrap_or given.inverted inverted)
    (unwrap_or given.disabled disabled) (unwrap_or given.children children)

-- that, where the check has the number
abbrev pub updated_at : (id : ℕ) → Given → ℕ × Check → ℕ × Check
updated_at id given held =
    (held.0, if nat_eq held.0 id then updated_check given held.1 else held.1)

abbrev pub updated : Checks → (id : ℕ) → Given → Checks
updated checks id given = record checks { list = map (updated_at id given) checks.list }

-- a check of an endpoint has neither a number of healthy children nor children
abbrev pub is_wrong_member : Given → Check → Bool
is_wrong_member given check =
    not (is_calculated check) && (is_some given.threshold || is_some given.children)

-- what is asked of the children, where some are given
abbrev pub given_rules : (list after : List (ℕ × Check)) → Option (List ℕ)
    → List (Option CheckRefusal)
given_rules list after None = []
given_rules list after (Some children) = children_rules list after children

-- the first refusal of changes of a check that is there
abbrev pub update_refusal : Checks → (id : ℕ) → Given → Check → Option CheckRefusal
update_refusal checks id given check = first_of (
    refuse_if (is_wrong_member given check) WrongMember
    ∷ given_rules checks.list (updated checks id given).list given.children)

-- ---- the end of a check

-- the checks without the one of a number
abbrev pub without : (id : ℕ) → List (ℕ × Check) → List (ℕ × Check)
without id list = filter (λ held. not (nat_eq held.0 id)) list

abbrev pub deleted : Checks → (id : ℕ) → Checks
deleted checks id = record checks { list = without id checks.list }

-- a calculated check names this one
abbrev pub is_named : (id : ℕ) → List (ℕ × Check) → Bool
is_named id list = list_any (λ (held : ℕ × Check). list_any (nat_eq id) (children_of held.1)) list

-- the first refusal of the end of a check that is there
abbrev pub delete_refusal : Checks → (id : ℕ) → Option CheckRefusal
delete_refusal checks id = first_of (refuse_if (is_named id checks.list) (HealthCheckInUse id) ∷ [])

-- ---- commands

-- what a command asks of the check of a number, which has to be there
abbrev pub of_there : (id : ℕ) → Option Check → (Check → Option CheckRefusal)
    → Option CheckRefusal
of_there id None ask = Some (NoSuchHealthCheck id)
of_there id (Some check) ask = ask check

-- the changes that an update gives
abbrev pub given_by : (inverted disabled : Option Bool) → (threshold : Option ℕ)
    → (children : Option (List ℕ)) → Given
given_by inverted disabled threshold children = record {
  inverted = inverted;
  disabled = disabled;
  threshold = threshold;
  children = children;
}

-- The first refusal of a command.
abbrev pub refusal_of : Checks → CheckCommand → Option CheckRefusal
refusal_of checks (Create check) = create_refusal checks check
refusal_of checks (Update id inverted disabled threshold children) =
    of_there id (check_with checks.list id)
    (update_refusal checks id (given_by inverted disabled threshold children))
refusal_of checks (Delete id) =
    of_there id (check_with checks.list id) (λ check. delete_refusal checks id)

-- The checks after a command that isn't refused.
abbrev pub checks_after : Checks → CheckCommand → Checks
checks_after checks (Create check) = created checks check
checks_after checks (Update id inverted disabled threshold children) =
    updated checks id (given_by inverted disabled threshold children)
checks_after checks (Delete id) = deleted checks id

-- The number of the check that a command makes, changes or deletes.
abbrev pub number_of : Checks → CheckCommand → ℕ
number_of checks (Create check) = checks.next
number_of checks (Update id inverted disabled threshold children) = id
number_of checks (Delete id) = id

-- what is answered, unless something is refused
abbrev pub unless : {X : Type 0} → Option CheckRefusal → X → Result X CheckRefusal
unless None answer = Ok answer
unless (Some refusal) answer = Err refusal

-- The checks after a command and the number of its check, or the command's first refusal.
abbrev pub outcome : Checks → CheckCommand → Result (Checks × ℕ) CheckRefusal
outcome checks command =
    unless (refusal_of checks command) (checks_after checks command, number_of checks command)

-- A check that is made is within its bounds; a number of healthy children is at most 256.
abbrev pub IsThreshold : Option ℕ → Type 0
IsThreshold None = ⊤
IsThreshold (Some threshold) = threshold ≤ 256

abbrev pub IsBoundedCommand : CheckCommand → Type 0
IsBoundedCommand (Create check) = IsBounded check
IsBoundedCommand (Update id inverted disabled threshold children) = IsThreshold threshold
IsBoundedCommand (Delete id) = ⊤
