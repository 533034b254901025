-- What is known of checks and of what their checkers saw.
use Rattle.std.proofs.Common.{◌≡◌, ◌≤◌, ◌<◌, ℕ, List, [], arith, inl, Option}
use Rattle.check_model.proofs.Members.{all_mapped}
use Rattle.check_model.specs.Checks.{Checks}
use Rattle.check_model.specs.Checks.{IsSound as AreSoundChecks}
use Rattle.check_model.specs.declared.checks.Check.{Check}
use Rattle.check_model.specs.declared.checks.Check.TheVariants.{Endpoint, Calculated}
use Rattle.checker_state.specs.Standing.{Seen}
use Rattle.health_model.specs.Statuses.{AreReports, Report}
use Rattle.health_planning.specs.Zones.{Zone}
use Rattle.health_planning.specs.Later.{EachIsLater, AreLater, IsLaterAt, Knows}
use Rattle.health_index.specs.Index.{Index, StandsFor}
use Rattle.health_planning.specs.Wired.{ids_of, place_of}
use Rattle.health_planning.proofs.Places.{id_at, of_all}
use Rattle.health_planning.proofs.Places.{found}

pub each_follows : (old new : Checks) → AreSoundChecks new → AreLater old new
    → EachIsLater old new.list
each_follows old new sound follows place id check at =
    follows.each id check (id_at new.list place id check sound.rising at)

-- reports stay reports where the next number grows
pub still_reports : (n m : ℕ) (reports : List Report) → n ≤ m → AreReports n reports
    → AreReports m reports
still_reports n m reports more are =
    all_mapped (λ (report : Report). (report.check < n) × (report.checker < 50)) (λ (report : Report). (report.check < m) × (report.checker < 50))
    (λ report b. let low = b.0 in (omega arith, b.1)) reports are

-- ---- before any report

abbrev pub no_checks : Checks
no_checks = record { next = 1; list = [] }

pub knows_nothing : (ids : List ℕ) (seen : List (Option Seen)) → ids ≡ []
    → Knows no_checks [] ids seen
knows_nothing ids seen none = record {
  its_ids = none;
  rising = tt;
  below = tt;
  its_seen = λ place id check its at is. let no : ⊥ = cc in absurd no;
  its_reports = tt;
}

pub follows_nothing : (checks : Checks) → AreSoundChecks checks → AreLater no_checks checks
follows_nothing checks sound = record {
  next = sound.from;
  each = λ id check at.
      let low = of_all (λ (held : ℕ × Check). (1 ≤ held.0) × (held.0 < checks.next)) checks.list (place_of (ids_of checks.list) id) (id, check) sound.ids
      (found checks.list id check at) in
      new id check low.0;
}
  where
    new : (id : ℕ) (check : Check) → 1 ≤ id → IsLaterAt no_checks id check
    new id (Endpoint threshold inverted disabled) low = inl low
    new id (Calculated threshold inverted disabled children) low = tt

-- ---- an index knows that for which it stands

pub knows_its : (zones : List Zone) (old : Checks) (reports : List Report) (index : Index)
    → StandsFor zones old reports index → Knows old reports index.ids index.seen
knows_its zones old reports index stands = record {
  its_ids = stands.ids;
  rising = stands.are_checks.rising;
  below = all_mapped (λ (held : ℕ × Check). (1 ≤ held.0) × (held.0 < old.next)) (λ (held : ℕ × Check). held.0 < old.next)
      (λ held b. b.1) old.list stands.are_checks.ids;
  its_seen = stands.seen;
  its_reports = stands.are_reports;
}
