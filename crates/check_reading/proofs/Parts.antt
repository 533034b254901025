-- The fields of health checks, each by the rules for readers that are built from readers.
use Rattle.std.proofs.Common.{◌≡◌, ℕ, ◌≤◌, Bool, true, false, List, [], ◌∷◌, length, arith, refl}
use Rattle.std.proofs.Common.{Option, None, Some}
use Rattle.std.specs.Prelude.{⊤}
use Rattle.std.specs.List.{AllByRecursion}
use Rattle.std.proofs.lemmas.Bool.{leb-true, le-leb, and_from, and_parts}
use Rattle.octets.specs.Numbers.{two_octets, four_octets}
use Rattle.check_octets.specs.Readers.{Reader, list_at, optional_at}
use Rattle.check_octets.specs.Reading.{four_at, flag_at}
use Rattle.check_octets.specs.Rules.{IsReadAs, list_octets, optional_octets, WhereSome}
use Rattle.check_octets.proofs.Base.{read_as, octet_read, two_read, flag_read}
use Rattle.check_octets.proofs.Composed.{so_many_read, tested_read}
use Rattle.check_octets.proofs.Digits.{four_is, four_again}
use Rattle.check_octets.proofs.Optional.{list_read, optional_read}
use Rattle.check_octets.proofs.Rules.{alike, nothing_read, then_read}
use Rattle.check_octets.proofs.Within.{four_within}
use Rattle.check_model.specs.Commands.{IsThreshold}
use Rattle.check_octets.specs.Octets.{spells_disabled, where_spelled, flag_octets, disabled_octets}
use Rattle.check_octets.specs.Octets.{IsSpelledOrLeft, IsListable}
use Rattle.check_reading.specs.Fields.{is_failures, failures_at, is_threshold, threshold_at}
use Rattle.check_reading.specs.Fields.{spelled_at, disabled_at, disabling_at, is_few, few_at}
use Rattle.check_reading.specs.Fields.{children_at}

-- ---- numbers

-- a number of four octets, of whatever size
pub number_read : IsReadAs (λ n. ⊤) four_octets four_at
number_read =
    read_as (λ n rest is. four_again n rest) (λ octets x bytes e. (four_is octets x bytes e, tt))
    four_within

pub failures_read : IsReadAs (λ n. (1 ≤ n) × (n ≤ 10)) (λ n. n ∷ []) failures_at
unfolding failures_at
failures_read = alike (tested_read is_failures octet_read)
    (λ n h.
    let parts = and_parts _ _ h.1 in
    ((leb-true 1 n parts.0, leb-true n 10 parts.1), refl))
    (λ n h. (omega (arith, h.1), and_from _ _ (le-leb 1 n h.0) (le-leb n 10 h.1)))

pub threshold_read : IsReadAs (λ n. n ≤ 256) two_octets threshold_at
unfolding threshold_at
threshold_read = alike (tested_read is_threshold two_read)
    (λ n h. (leb-true n 256 h.1, refl)) (λ n h. (omega (arith, h), le-leb n 256 h))

few_read : IsReadAs (λ n. n ≤ 255) two_octets few_at
unfolding few_at
few_read = alike (tested_read is_few two_read)
    (λ n h. (leb-true n 255 h.1, refl)) (λ n h. (omega (arith, h), le-leb n 255 h))

-- ---- lists

each_number : (numbers : List ℕ) → AllByRecursion (λ n. ⊤) numbers
each_number [] = tt
each_number (n ∷ numbers) = (tt, each_number numbers)

pub children_read : IsReadAs (λ children. length children ≤ 255) (list_octets four_octets)
    children_at
unfolding children_at
children_read =
    alike (then_read (λ (children : List ℕ). length children) few_read (so_many_read number_read))
    (λ children h. (h.0, refl)) (λ children h. (h, each_number children))

pub any_children_read : IsReadAs IsListable (list_octets four_octets) (list_at four_at)
any_children_read = alike (list_read number_read) (λ children h. (h.count, refl))
    (λ children h. record { count = h; each = each_number children })

-- ---- optional parts

flag_given : (flag : Option Bool) → WhereSome (λ flag. ⊤) flag
flag_given None = tt
flag_given (Some flag) = tt

pub inverting_read : IsReadAs (λ flag. ⊤) (optional_octets flag_octets) (optional_at flag_at)
inverting_read = alike (optional_read flag_read) (λ flag h. (tt, refl)) (λ flag h. flag_given flag)

threshold_is : (threshold : Option ℕ) → WhereSome (λ n. n ≤ 256) threshold → IsThreshold threshold
threshold_is None h = tt
threshold_is (Some n) h = h

threshold_from : (threshold : Option ℕ) → IsThreshold threshold → WhereSome (λ n. n ≤ 256) threshold
threshold_from None h = tt
threshold_from (Some n) h = h

pub thresholds_read : IsReadAs IsThreshold (optional_octets two_octets) (optional_at threshold_at)
thresholds_read = alike (optional_read threshold_read)
    (λ threshold h. (threshold_is threshold h, refl)) threshold_from

pub given_children_read : IsReadAs (WhereSome IsListable)
    (optional_octets (list_octets four_octets)) (optional_at (list_at four_at))
given_children_read = optional_read any_children_read

-- ---- what a version tells

-- a field that stands there where it is told
pub told_read : {A : Type 0} {is : A → Type 0} {octets_of : A → List ℕ} {read : Reader A}
    (told : Bool) (left : A) → IsReadAs is octets_of read → ((x : A) → is x)
    → IsReadAs (λ x. told ≡ false → x ≡ left) (λ x. where_spelled told (octets_of x))
    (spelled_at told left read)
told_read true left inside each =
    alike inside (λ x h. (λ e. absurd (let k : true ≡ false = e in cc), refl)) (λ x h. each x)
told_read false left inside each =
    alike (nothing_read left) (λ x h. (λ e. h, refl)) (λ x h. h refl)

pub disabled_read : (version : ℕ)
    → IsReadAs (IsSpelledOrLeft version false) (disabled_octets version) (disabled_at version)
unfolding disabled_at
disabled_read version = told_read (spells_disabled version) false flag_read (λ flag. tt)

pub disabling_read : (version : ℕ)
    → IsReadAs (IsSpelledOrLeft version None)
    (λ disabled. where_spelled (spells_disabled version) (optional_octets flag_octets disabled))
    (disabling_at version)
unfolding disabling_at
disabling_read version = told_read (spells_disabled version) None inverting_read (λ flag. tt)
