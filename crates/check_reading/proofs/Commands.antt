-- The readers of commands on health checks, each by the rules for readers that are built from
-- readers.
use Rattle.std.proofs.Common.{◌≡◌, ℕ, ◌≤◌, Bool, true, false, List, ◌∷◌, ◌++◌, length, arith, refl}
use Rattle.std.proofs.Common.{Option, None}
use Rattle.std.specs.Prelude.{⊤}
use Rattle.octets.specs.Numbers.{two_octets, four_octets}
use Rattle.check_octets.specs.Readers.{has_kind}
use Rattle.check_octets.specs.Rules.{IsReadAs, flag_octet, list_octets, WhereSome}
use Rattle.check_octets.proofs.Base.{flag_read}
use Rattle.check_octets.proofs.Composed.{in_turn_read}
use Rattle.check_octets.proofs.OfKind.{kinds_read}
use Rattle.check_octets.proofs.Rules.{alike, seen_read}
use Rattle.check_model.specs.declared.checks.Check.{Check}
use Rattle.check_model.specs.declared.checks.Check.TheVariants.{Endpoint, Calculated}
use Rattle.check_model.specs.declared.checks.CheckCommand.{CheckCommand}
use Rattle.check_model.specs.declared.checks.CheckCommand.TheVariants.{Create, Update, Delete}
use Rattle.check_model.specs.Commands.{IsThreshold}
use Rattle.check_octets.specs.Octets.{disabled_octets, check_octets, field_octets}
use Rattle.check_octets.specs.Octets.{IsSpelledOrLeft, IsListable, IsSpelledCheck}
use Rattle.check_reading.specs.Laws.{IsOfKind, CheckCommandsAreRead}
use Rattle.check_reading.specs.Reading.{endpoint, endpoint_at, calculated, calculated_at}
use Rattle.check_reading.specs.Reading.{check_kinds, check_at, create_at, updated, update_at}
use Rattle.check_reading.specs.Reading.{delete_at}
use Rattle.check_reading.proofs.Parts.{number_read, failures_read, threshold_read, children_read}
use Rattle.check_reading.proofs.Parts.{inverting_read, thresholds_read, given_children_read}
use Rattle.check_reading.proofs.Parts.{disabled_read, disabling_read}

-- ---- checks

-- the kind of a check, and its fields
abbrev check_kind : Check → ℕ
check_kind (Endpoint threshold inverted disabled) = 1
check_kind (Calculated threshold inverted disabled children) = 2

abbrev check_fields : (version : ℕ) → Check → List ℕ
check_fields version (Endpoint threshold inverted disabled) =
    threshold ∷ flag_octet inverted ∷ disabled_octets version disabled
check_fields version (Calculated threshold inverted disabled children) =
    two_octets threshold ++ (flag_octet inverted ∷ disabled_octets version disabled)
    ++ list_octets four_octets children

abbrev IsCheckOf : (version kind : ℕ) → Check → Type 0
IsCheckOf version kind check = IsSpelledCheck version check × (check_kind check ≡ kind)

endpoint_read : (version : ℕ)
    → IsReadAs (IsCheckOf version 1) (check_fields version) (endpoint_at version)
unfolding endpoint_at
endpoint_read version =
    seen_read endpoint
    (in_turn_read (in_turn_read failures_read flag_read) (disabled_read version))
    (λ p h. ((record { bounded = h.0.0; told = h.1 }, refl), refl)) from
  where
    from : (check : Check) → IsCheckOf version 1 check
        → (p : (ℕ × Bool) × Bool) × ((((1 ≤ p.0.0) × (p.0.0 ≤ 10)) × ⊤) × IsSpelledOrLeft version false p.1)
        × (endpoint p ≡ check)
    from (Endpoint threshold inverted disabled) h =
        (((threshold, inverted), disabled), ((h.0.bounded, tt), h.0.told), refl)
    from (Calculated threshold inverted disabled children) h = absurd (omega (arith, h.1))

calculated_read : (version : ℕ)
    → IsReadAs (IsCheckOf version 2) (check_fields version) (calculated_at version)
unfolding calculated_at
calculated_read version =
    seen_read calculated
    (in_turn_read (in_turn_read (in_turn_read threshold_read flag_read) (disabled_read version))
    children_read)
    (λ p h. ((record { bounded = (h.0.0.0, h.1); told = h.0.1 }, refl), refl)) from
  where
    from : (check : Check) → IsCheckOf version 2 check
        → (p : ((ℕ × Bool) × Bool) × List ℕ)
        × ((((p.0.0.0 ≤ 256) × ⊤) × IsSpelledOrLeft version false p.0.1) × (length p.1 ≤ 255))
        × (calculated p ≡ check)
    from (Endpoint threshold inverted disabled) h = absurd (omega (arith, h.1))
    from (Calculated threshold inverted disabled children) h = (
      (((threshold, inverted), disabled), children),
      (((h.0.bounded.0, tt), h.0.told), h.0.bounded.1),
      refl,
    )

has_line : (version : ℕ) (check : Check) → has_kind (check_kinds version) (check_kind check) ≡ true
has_line version (Endpoint threshold inverted disabled) = refl
has_line version (Calculated threshold inverted disabled children) = refl

spelled : (version : ℕ) (check : Check)
    → check_kind check ∷ check_fields version check ≡ check_octets version check
spelled version (Endpoint threshold inverted disabled) = refl
spelled version (Calculated threshold inverted disabled children) = refl

pub check_read : (version : ℕ)
    → IsReadAs (IsSpelledCheck version) (check_octets version) (check_at version)
unfolding check_at
check_read version =
    alike
    (kinds_read check_kind (IsSpelledCheck version) (check_fields version) (check_kinds version)
    (endpoint_read version, (calculated_read version, tt)) (λ check h. has_line version check))
    (λ check h. (h, spelled version check)) (λ check h. h)

-- ---- commands

create_read : (version : ℕ)
    → IsReadAs (IsOfKind version 4) (field_octets version) (create_at version)
unfolding create_at
create_read version = seen_read Create (check_read version) (λ check h. ((h, refl), refl)) from
  where
    from : (command : CheckCommand) → IsOfKind version 4 command
        → (check : Check) × IsSpelledCheck version check × (Create check ≡ command)
    from (Create check) h = (check, h.0, refl)
    from (Update id inverted disabled threshold children) h = absurd (omega (arith, h.1))
    from (Delete id) h = absurd (omega (arith, h.1))

update_read : (version : ℕ)
    → IsReadAs (IsOfKind version 5) (field_octets version) (update_at version)
unfolding update_at
update_read version =
    seen_read updated
    (in_turn_read (in_turn_read (in_turn_read (in_turn_read number_read inverting_read)
    (disabling_read version)) thresholds_read) given_children_read)
    (λ p h. (
      (record { threshold_is = h.0.1; listable = h.1; told = h.0.0.1 }, refl),
      refl,
    )) from
  where
    from : (command : CheckCommand) → IsOfKind version 5 command
        → (p : (((ℕ × Option Bool) × Option Bool) × Option ℕ) × Option (List ℕ))
        × ((((⊤ × ⊤) × IsSpelledOrLeft version None p.0.0.1) × IsThreshold p.0.1) × WhereSome IsListable p.1)
        × (updated p ≡ command)
    from (Create check) h = absurd (omega (arith, h.1))
    from (Update id inverted disabled threshold children) h = (
      ((((id, inverted), disabled), threshold), children),
      ((((tt, tt), h.0.told), h.0.threshold_is), h.0.listable),
      refl,
    )
    from (Delete id) h = absurd (omega (arith, h.1))

delete_read : (version : ℕ) → IsReadAs (IsOfKind version 6) (field_octets version) delete_at
unfolding delete_at
delete_read version = seen_read Delete number_read (λ id h. ((tt, refl), refl)) from
  where
    from : (command : CheckCommand) → IsOfKind version 6 command
        → (id : ℕ) × ⊤ × (Delete id ≡ command)
    from (Create check) h = absurd (omega (arith, h.1))
    from (Update id inverted disabled threshold children) h = absurd (omega (arith, h.1))
    from (Delete id) h = (id, tt, refl)

pub commands_read : CheckCommandsAreRead
commands_read = record { created = create_read; updated = update_read; deleted = delete_read }
