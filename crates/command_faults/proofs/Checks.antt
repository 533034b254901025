-- Where commands on health checks stop.
use Rattle.std.proofs.Common.{◌≡◌, ℕ, ◌≤◌, Bool, true, false, List, [], ◌∷◌, ◌++◌, length, arith, ap, ◌∙◌, sym, refl, append-nil, Option, None, Some}
use Rattle.std.specs.Prelude.{⊤}
use Rattle.std.specs.List.{AllByRecursion}
use Rattle.std.proofs.lemmas.Bool.{leb-true, le-leb}
use Rattle.octets.specs.Numbers.{two_octets, four_octets}
use Rattle.octet_reading.specs.Readers.{Reader, in_turn, has_kind, list_at, optional_at}
use Rattle.octet_reading.specs.Reading.{four_at, flag_at}
use Rattle.octet_reading.specs.Rules.{IsReadAs, WhereSome, flag_octet, list_octets, optional_octets}
use Rattle.octet_reading.proofs.Base.{two_read, flag_read}
use Rattle.octet_reading.proofs.Composed.{tested_read}
use Rattle.octet_reading.proofs.OfKind.{kinds_read}
use Rattle.octet_reading.proofs.Rules.{alike}
use Rattle.check_model.specs.declared.checks.Check.{Check}
use Rattle.check_model.specs.declared.checks.Check.TheVariants.{Endpoint, Calculated}
use Rattle.check_model.specs.declared.checks.CheckCommand.{CheckCommand}
use Rattle.check_model.specs.declared.checks.CheckCommand.TheVariants.{Create, Update, Delete}
use Rattle.check_model.specs.Commands.{IsThreshold}
use Rattle.check_octets.specs.Octets as checks
use Rattle.check_octets.specs.Octets.{spells_disabled, flag_octets, disabled_octets, check_octets, field_octets, IsSpelledOrLeft, IsListable, IsSpelledCheck}
use Rattle.check_reading.specs.Fields.{is_failures, failures_at, is_threshold, threshold_at, spelled_at, disabled_at, disabling_at, is_few, few_at, children_at}
use Rattle.check_reading.specs.Laws.{IsOfKind}
use Rattle.check_reading.specs.Reading.{endpoint, endpoint_at, calculated, calculated_at, check_kinds, check_at, create_at, updated, update_at, delete_at}
use Rattle.check_reading.proofs.Parts.{number_read, failures_read, threshold_read, children_read, told_read}
use Rattle.fault_places.specs.Fields.{Field, spelling}
use Rattle.fault_places.specs.Fields.Ending.{Sized}
use Rattle.fault_places.specs.Sets.{sized}
use Rattle.fault_places.proofs.Composed.{nothing_faults, kinds_faults}
use Rattle.fault_places.proofs.Leaves.{four_faults, flag_faults, tested_octet}
use Rattle.fault_places.proofs.Steps.{Faults, one_field, alike_faults, then_faults}
use Rattle.command_faults.specs.Commands.{flag_fields, two_fields, four_fields, list_fields, optional_fields, where_spelled, check_fields, health_fields}
use Rattle.command_faults.proofs.Parts.{Part, one_part, in_turn_part, seen_part, alike_part, list_part, so_many_part, optional_part, tested_two}

-- ---- numbers and flags

pub number_part : Part (λ n. ⊤) four_octets four_fields four_at
number_part = one_part (λ n. sized (four_octets n)) (λ n. refl) number_read four_faults 0 tt

flag_part : Part (λ flag. ⊤) flag_octets flag_fields flag_at
flag_part = one_part (λ flag. sized (flag_octets flag)) (λ flag. refl) flag_read flag_faults false tt

failures_part : Part (λ n. (1 ≤ n) × (n ≤ 10)) (λ n. n ∷ []) (λ n. sized (n ∷ []) ∷ []) failures_at
unfolding failures_at
failures_part = one_part (λ n. sized (n ∷ [])) (λ n. refl) failures_read
    (tested_octet is_failures 1 (omega arith, omega arith) failures_read) 1
    (omega arith, omega arith)

threshold_part : Part (λ n. n ≤ 256) two_octets two_fields threshold_at
unfolding threshold_at
threshold_part = one_part (λ n. sized (two_octets n)) (λ n. refl) threshold_read
    (tested_two is_threshold 0 (omega arith) threshold_read) 0 (omega arith)

few_read : IsReadAs (λ n. n ≤ 255) two_octets few_at
unfolding few_at
few_read = alike (tested_read is_few two_read)
    (λ n h. (leb-true n 255 h.1, refl)) (λ n h. (omega (arith, h), le-leb n 255 h))

few_faults : Faults (λ n. n ≤ 255) (one_field two_octets Sized) few_at
unfolding few_at
few_faults = tested_two is_few 0 (omega arith) few_read

-- ---- lists

each_number : (numbers : List ℕ) → AllByRecursion (λ n. ⊤) numbers
each_number [] = tt
each_number (n ∷ numbers) = (tt, each_number numbers)

children_faults : Faults (λ children. length children ≤ 255) (list_fields four_fields) children_at
unfolding children_at
children_faults = alike_faults
    (then_faults (λ (children : List ℕ). length children) few_read (λ n. append-nil (two_octets n))
    few_faults (λ n h. (so_many_part number_part n).told)
    (λ n h. let p = so_many_part number_part n in (p.some, p.is_some)))
    (λ children h. (h.0, refl)) (λ children h. (h, each_number children))

children_part : Part (λ children. length children ≤ 255) (list_octets four_octets)
    (list_fields four_fields) children_at
children_part = record {
  reads = children_read;
  spells = (list_part number_part).spells;
  told = children_faults;
  some = [];
  is_some = omega arith;
}

any_children : Part IsListable (list_octets four_octets) (list_fields four_fields) (list_at four_at)
any_children = alike_part (list_part number_part) (λ children h. h.count)
    (λ children h. record { count = h; each = each_number children }) (λ x. refl) (λ x. refl)

-- ---- optional parts

flag_given : (flag : Option Bool) → WhereSome (λ flag. ⊤) flag
flag_given None = tt
flag_given (Some flag) = tt

inverting_part : Part (λ flag. ⊤) (optional_octets flag_octets) (optional_fields flag_fields)
    (optional_at flag_at)
inverting_part = alike_part (optional_part flag_part) (λ flag h. tt) (λ flag h. flag_given flag)
    (λ x. refl) (λ x. refl)

threshold_is : (threshold : Option ℕ) → WhereSome (λ n. n ≤ 256) threshold → IsThreshold threshold
threshold_is None h = tt
threshold_is (Some n) h = h

threshold_from : (threshold : Option ℕ) → IsThreshold threshold → WhereSome (λ n. n ≤ 256) threshold
threshold_from None h = tt
threshold_from (Some n) h = h

thresholds_part : Part IsThreshold (optional_octets two_octets) (optional_fields two_fields)
    (optional_at threshold_at)
thresholds_part = alike_part (optional_part threshold_part) threshold_is threshold_from
    (λ x. refl) (λ x. refl)

given_children : Part (WhereSome IsListable) (optional_octets (list_octets four_octets))
    (optional_fields (list_fields four_fields)) (optional_at (list_at four_at))
given_children = optional_part any_children

-- ---- what a version tells

told_faults : {A : Type 0} {is : A → Type 0} {octets_of : A → List ℕ} {fields : A → List Field}
    {read : Reader A} (told : Bool) (left : A) → Part is octets_of fields read
    → ((x : A) → is x)
    → Faults (λ x. told ≡ false → x ≡ left) (λ x. where_spelled told (fields x))
    (spelled_at told left read)
told_faults true left a each =
    alike_faults a.told
    (λ x h. (λ e. absurd (let k : true ≡ false = e in cc), refl)) (λ x h. each x)
told_faults {A = A} {fields = fields} false left a each =
    nothing_faults (λ x. false ≡ false → x ≡ left) (λ x. where_spelled false (fields x)) left
    (λ x h. refl)

told_spells : {A : Type 0} (octets_of : A → List ℕ) (fields : A → List Field) (told : Bool)
    → ((x : A) → spelling (fields x) ≡ octets_of x) → (x : A)
    → spelling (where_spelled told (fields x)) ≡ checks.where_spelled told (octets_of x)
told_spells octets_of fields true spells x = spells x
told_spells octets_of fields false spells x = refl

told_part : {A : Type 0} {is : A → Type 0} {octets_of : A → List ℕ} {fields : A → List Field}
    {read : Reader A} (told : Bool) (left : A) → Part is octets_of fields read
    → ((x : A) → is x)
    → Part (λ x. told ≡ false → x ≡ left) (λ x. checks.where_spelled told (octets_of x))
    (λ x. where_spelled told (fields x)) (spelled_at told left read)
told_part {octets_of = octets_of} {fields = fields} told left a each = record {
  reads = told_read told left a.reads each;
  spells = told_spells octets_of fields told a.spells;
  told = told_faults told left a each;
  some = left;
  is_some = λ e. refl;
}

disabled_part : (version : ℕ) → Part (IsSpelledOrLeft version false) (disabled_octets version)
    (λ disabled. where_spelled (spells_disabled version) (flag_fields disabled)) (disabled_at version)
unfolding disabled_at
disabled_part version = told_part (spells_disabled version) false flag_part (λ flag. tt)

disabling_part : (version : ℕ) → Part (IsSpelledOrLeft version None)
    (λ disabled. checks.where_spelled (spells_disabled version) (optional_octets flag_octets disabled))
    (λ disabled. where_spelled (spells_disabled version) (optional_fields flag_fields disabled))
    (disabling_at version)
unfolding disabling_at
disabling_part version = told_part (spells_disabled version) None inverting_part (λ flag. tt)

-- ---- checks

abbrev check_kind : Check → ℕ
check_kind (Endpoint threshold inverted disabled) = 1
check_kind (Calculated threshold inverted disabled children) = 2

abbrev octets_later : (version : ℕ) → Check → List ℕ
octets_later version (Endpoint threshold inverted disabled) =
    threshold ∷ flag_octet inverted ∷ disabled_octets version disabled
octets_later version (Calculated threshold inverted disabled children) =
    two_octets threshold ++ (flag_octet inverted ∷ disabled_octets version disabled)
    ++ list_octets four_octets children

abbrev rest_of : List Field → List Field
rest_of [] = []
rest_of (f ∷ fields) = fields

abbrev later : (version : ℕ) → Check → List Field
later version check = rest_of (check_fields version check)

abbrev IsCheckOf : (version kind : ℕ) → Check → Type 0
IsCheckOf version kind check = IsSpelledCheck version check × (check_kind check ≡ kind)

later_spells : (version : ℕ) (check : Check)
    → spelling (later version check) ≡ octets_later version check
later_spells version (Endpoint threshold inverted disabled) =
    ap (λ t. threshold ∷ flag_octet inverted ∷ t) ((disabled_part version).spells disabled)
later_spells version (Calculated threshold inverted disabled children) =
    (in_turn_part (in_turn_part (in_turn_part threshold_part flag_part) (disabled_part version))
    children_part).spells (((threshold, inverted), disabled), children)

endpoint_part : (version : ℕ)
    → Part (IsCheckOf version 1) (octets_later version) (later version) (endpoint_at version)
unfolding endpoint_at
endpoint_part version =
    seen_part endpoint
    (in_turn_part (in_turn_part failures_part flag_part) (disabled_part version))
    (λ p h. ((record { bounded = h.0.0; told = h.1 }, refl), refl, refl)) from
    (later_spells version)
  where
    from : (check : Check) → IsCheckOf version 1 check
        → (p : (ℕ × Bool) × Bool) × ((((1 ≤ p.0.0) × (p.0.0 ≤ 10)) × ⊤) × IsSpelledOrLeft version false p.1)
        × (endpoint p ≡ check)
    from (Endpoint threshold inverted disabled) h =
        (((threshold, inverted), disabled), ((h.0.bounded, tt), h.0.told), refl)
    from (Calculated threshold inverted disabled children) h = absurd (omega (arith, h.1))

calculated_part : (version : ℕ)
    → Part (IsCheckOf version 2) (octets_later version) (later version) (calculated_at version)
unfolding calculated_at
calculated_part version =
    seen_part calculated
    (in_turn_part (in_turn_part (in_turn_part threshold_part flag_part) (disabled_part version))
    children_part)
    (λ p h. ((record { bounded = (h.0.0.0, h.1); told = h.0.1 }, refl), refl, refl)) from
    (later_spells version)
  where
    from : (check : Check) → IsCheckOf version 2 check
        → (p : ((ℕ × Bool) × Bool) × List ℕ)
        × ((((p.0.0.0 ≤ 256) × ⊤) × IsSpelledOrLeft version false p.0.1) × (length p.1 ≤ 255))
        × (calculated p ≡ check)
    from (Endpoint threshold inverted disabled) h = absurd (omega (arith, h.1))
    from (Calculated threshold inverted disabled children) h = (
      (((threshold, inverted), disabled), children),
      (((h.0.bounded.0, tt), h.0.told), h.0.bounded.1),
      refl,
    )

has_line : (version : ℕ) (check : Check) → has_kind (check_kinds version) (check_kind check) ≡ true
has_line version (Endpoint threshold inverted disabled) = refl
has_line version (Calculated threshold inverted disabled children) = refl

kind_octets : (version : ℕ) (check : Check)
    → check_kind check ∷ octets_later version check ≡ check_octets version check
kind_octets version (Endpoint threshold inverted disabled) = refl
kind_octets version (Calculated threshold inverted disabled children) = refl

kind_fields : (version : ℕ) (check : Check)
    → sized (check_kind check ∷ []) ∷ later version check ≡ check_fields version check
kind_fields version (Endpoint threshold inverted disabled) = refl
kind_fields version (Calculated threshold inverted disabled children) = refl

pub check_part : (version : ℕ)
    → Part (IsSpelledCheck version) (check_octets version) (check_fields version) (check_at version)
unfolding check_at
check_part version =
    let e = endpoint_part version in
    let c = calculated_part version in
    record {
      reads = alike
          (kinds_read check_kind (IsSpelledCheck version) (octets_later version)
          (check_kinds version) (e.reads, (c.reads, tt)) (λ check h. has_line version check))
          (λ check h. (h, kind_octets version check)) (λ check h. h);
      spells = λ check.
          ap spelling (sym (kind_fields version check))
          ∙ ap (λ t. check_kind check ∷ t) (later_spells version check)
          ∙ kind_octets version check;
      told = alike_faults
          (kinds_faults check_kind (IsSpelledCheck version) (later version) (check_kinds version)
          ((e.told, (e.some, e.is_some)), ((c.told, (c.some, c.is_some)), tt)) 1 refl
          (λ check h. has_line version check))
          (λ check h. (h, kind_fields version check)) (λ check h. h);
      some = e.some;
      is_some = e.is_some.0;
    }

-- ---- commands

update_inner : (version : ℕ) → Part
    (λ (p : (((ℕ × Option Bool) × Option Bool) × Option ℕ) × Option (List ℕ)).
    ((((⊤ × ⊤) × IsSpelledOrLeft version None p.0.0.1) × IsThreshold p.0.1) × WhereSome IsListable p.1))
    (λ p. field_octets version (updated p)) (λ p. health_fields version (updated p))
    (in_turn (in_turn (in_turn (in_turn four_at (optional_at flag_at)) (disabling_at version))
    (optional_at threshold_at)) (optional_at (list_at four_at)))
update_inner version =
    in_turn_part (in_turn_part (in_turn_part (in_turn_part number_part inverting_part)
    (disabling_part version)) thresholds_part) given_children

health_spells : (version : ℕ) (command : CheckCommand)
    → spelling (health_fields version command) ≡ field_octets version command
health_spells version (Create check) = (check_part version).spells check
health_spells version (Update id inverted disabled threshold children) =
    (update_inner version).spells ((((id, inverted), disabled), threshold), children)
health_spells version (Delete id) = number_part.spells id

pub create_part : (version : ℕ) → Part (IsOfKind version 4) (field_octets version)
    (health_fields version) (create_at version)
unfolding create_at
create_part version = seen_part Create (check_part version) (λ check h. ((h, refl), refl, refl)) from
    (health_spells version)
  where
    from : (command : CheckCommand) → IsOfKind version 4 command
        → (check : Check) × IsSpelledCheck version check × (Create check ≡ command)
    from (Create check) h = (check, h.0, refl)
    from (Update id inverted disabled threshold children) h = absurd (omega (arith, h.1))
    from (Delete id) h = absurd (omega (arith, h.1))

pub update_part : (version : ℕ) → Part (IsOfKind version 5) (field_octets version)
    (health_fields version) (update_at version)
unfolding update_at
update_part version =
    seen_part updated (update_inner version)
    (λ p h. (
      (record { threshold_is = h.0.1; listable = h.1; told = h.0.0.1 }, refl),
      refl,
      refl,
    )) from (health_spells version)
  where
    from : (command : CheckCommand) → IsOfKind version 5 command
        → (p : (((ℕ × Option Bool) × Option Bool) × Option ℕ) × Option (List ℕ))
        × ((((⊤ × ⊤) × IsSpelledOrLeft version None p.0.0.1) × IsThreshold p.0.1) × WhereSome IsListable p.1)
        × (updated p ≡ command)
    from (Create check) h = absurd (omega (arith, h.1))
    from (Update id inverted disabled threshold children) h = (
      ((((id, inverted), disabled), threshold), children),
      ((((tt, tt), h.0.told), h.0.threshold_is), h.0.listable),
      refl,
    )
    from (Delete id) h = absurd (omega (arith, h.1))

pub delete_part : (version : ℕ) → Part (IsOfKind version 6) (field_octets version)
    (health_fields version) delete_at
unfolding delete_at
delete_part version = seen_part Delete number_part (λ id h. ((tt, refl), refl, refl)) from
    (health_spells version)
  where
    from : (command : CheckCommand) → IsOfKind version 6 command
        → (id : ℕ) × ⊤ × (Delete id ≡ command)
    from (Create check) h = absurd (omega (arith, h.1))
    from (Update id inverted disabled threshold children) h = absurd (omega (arith, h.1))
    from (Delete id) h = (id, tt, refl)
