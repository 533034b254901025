-- What the local equations determine, and what working out leaves.
use Rattle.std.specs.Prelude.{◌≡◌, ◌≢◌, ℕ, ◌≤◌, Bool, true, List, [], ◌∷◌, map, Contains}
use Rattle.check_model.specs.Checks.{AreDistinct, check_with}
use Rattle.check_model.specs.declared.checks.Check.{Check}
use Rattle.zone_model.specs.RTypeRecord.{RType}
use Rattle.checker_state.specs.Standing.{with_result}
use Rattle.zone_model.specs.RecordSetRecord.{RecordSet}
use Rattle.zone_model.specs.SetKeyRecord.{SetKey}
use Rattle.zone_model.specs.Sets.{key_of}
use Rattle.zone_model.specs.Zones.{IsAmong, group}
use Rattle.health_model.specs.Healthy.{Watched, healthy, healthy_sets, sets_of}
use Rattle.health_model.specs.Nodes.{CheckNode, Evaluates, GroupNode, InCone, IsConeOf, IsNode, Meets, Node, WorksOut, Reaches, feeders, local, truth}
use Rattle.health_model.specs.Sound.{IsSound}
use Rattle.health_model.specs.Statuses.{AreReports, Report, results_of}

-- An assignment that meets every local equation is the recursion's.
abbrev pub OneHealth : Type 0
OneHealth =
    (watched : Watched) (reports : List Report) → IsSound watched
    → (v : Node → Bool) → ((n : Node) → IsNode watched n → Meets watched reports v n)
    → (n : Node) → IsNode watched n → v n ≡ truth watched reports n

-- The recursion's values meet every local equation: its depth never runs out.
abbrev pub RecursionMeets : Type 0
RecursionMeets =
    (watched : Watched) (reports : List Report) → IsSound watched
    → (n : Node) → IsNode watched n → Meets watched reports (truth watched reports) n

-- A node that was made to meet its equation meets it, unless it feeds itself; every other one that
-- met its own still does, unless this one feeds it.
pub record OneNode : Type 0 where
  pub its : (watched : Watched) (reports : List Report) (n : Node) (v w : Node → Bool)
      → Evaluates watched reports n v w → (Contains (feeders watched n) n → ⊥)
      → Meets watched reports w n
  pub others : (watched : Watched) (reports : List Report) (n m : Node) (v w : Node → Bool)
      → Evaluates watched reports n v w → m ≢ n → (Contains (feeders watched m) n → ⊥)
      → Meets watched reports v m → Meets watched reports w m

-- From an assignment in which every node outside a cone meets its local equation, one pass over the
-- cone, feeders first, gives one in which every node does.
abbrev pub OnePass : Type 0
OnePass =
    (watched : Watched) (reports : List Report) (x : Node) (cone : List Node)
    → IsConeOf watched x cone
    → (v w : Node → Bool) → WorksOut watched reports cone v w
    → ((n : Node) → IsNode watched n → (InCone watched x n → ⊥) → Meets watched reports v n)
    → (n : Node) → IsNode watched n → Meets watched reports w n

-- No path of feeds has more than 38: four calculated checks over an endpoint's, a set, and 16 times
-- a group and an evaluated alias, and a group.
abbrev pub PathsEnd : Type 0
PathsEnd =
    (watched : Watched) → IsSound watched → (x n : Node) → IsNode watched n
    → (feeds : ℕ) → Reaches watched feeds x n → feeds ≤ 38

-- One more report adds its result to those of its checker, and nothing to those of other checks.
pub record OneMoreReport : Type 0 where
  pub its : (report : Report) (reports : List Report) (checker : ℕ)
      → results_of (report ∷ reports) report.check checker
      ≡ with_result report.checker report.pass (results_of reports report.check) checker
  pub others : (report : Report) (reports : List Report) (id checker : ℕ) → id ≢ report.check
      → results_of (report ∷ reports) id checker ≡ results_of reports id checker
  -- No equation changes but that of the check.
  pub equations : (watched : Watched) (report : Report) (reports : List Report) (v : Node → Bool)
      (n : Node) → n ≢ CheckNode report.check
      → local watched (report ∷ reports) v n ≡ local watched reports v n

-- A check that comes has no results: no report is of a number that no check had.
abbrev pub NewCheckHasNone : Type 0
NewCheckHasNone =
    (next : ℕ) (reports : List Report) (checker : ℕ) → AreReports next reports
    → results_of reports next checker ≡ []

-- Where one check comes, changes or goes, no equation changes but its own.
abbrev pub OneCheckChanges : Type 0
OneCheckChanges =
    (watched : Watched) (checks : List (ℕ × Check)) (id : ℕ)
    → ((other : ℕ) → other ≢ id → check_with checks other ≡ check_with watched.checks other)
    → (reports : List Report) (v : Node → Bool) (n : Node) → n ≢ CheckNode id
    → local (record watched { checks = checks }) reports v n ≡ local watched reports v n

-- Where the sets of zones change, no equation changes but of groups that have other sets.
abbrev pub OnlyGroupsChange : Type 0
OnlyGroupsChange =
    (watched : Watched) (zones : List (ℕ × List RecordSet)) (reports : List Report)
    (v : Node → Bool) (n : Node)
    → ((zone : ℕ) (name : List (List ℕ)) (rtype : RType) → n ≡ GroupNode zone name rtype
    → group (sets_of (record watched { zones = zones }) zone) name rtype
    ≡ group (sets_of watched zone) name rtype)
    → local (record watched { zones = zones }) reports v n ≡ local watched reports v n

-- The listed healthy sets are the sets of the zones that are healthy, where no two zones have one
-- number.
pub record HealthyAreListed : Type 0 where
  pub listed : (watched : Watched) (reports : List Report) (zone : ℕ) (one : RecordSet)
      → IsAmong (sets_of watched zone) one → healthy watched reports zone one ≡ true
      → IsAmong (healthy_sets watched reports) (zone, key_of one)
  pub only : (watched : Watched) (reports : List Report) (zone : ℕ) (key : SetKey)
      → AreDistinct (map (λ (held : ℕ × List RecordSet). held.0) watched.zones)
      → IsAmong (healthy_sets watched reports) (zone, key)
      → (one : RecordSet) × IsAmong (sets_of watched zone) one
      × (healthy watched reports zone one ≡ true) × (key_of one ≡ key)
