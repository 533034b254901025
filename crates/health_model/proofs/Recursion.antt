-- The recursion's depth never runs out, and values that meet the equations are the recursion's.
use Rattle.std.proofs.Common.{◌≡◌, ◌≢◌, ℕ, zero, suc, Bool, true, false, List, [], ◌∷◌, length, Option, None, Some, ap, ◌∙◌, sym, refl, subst, arith, inl, inr}
use Rattle.std.specs.List.{AllByRecursion, list_any}
use Rattle.std.proofs.lemmas.Bool.{false≢true, false_from_ne_true, or_parts}
use Rattle.check_model.specs.declared.checks.Check.{Check}
use Rattle.check_model.specs.declared.checks.Check.TheVariants.{Endpoint, Calculated}
use Rattle.check_model.specs.Checks.{AreChildren, IsId, IsWalk, check_with, children_of}
use Rattle.check_model.specs.Commands.{children_there, is_calculated_there, starts_walk}
use Rattle.check_model.proofs.Members.{all_at}
use Rattle.check_model.proofs.Walks.{stands_there, walks_told}
use Rattle.zone_model.specs.RTypeRecord.{RType}
use Rattle.zone_model.specs.Reasons.{IsAlias}
use Rattle.zone_model.specs.BodyRecord.{Body}
use Rattle.zone_model.specs.BodyRecord.TheVariants as body
use Rattle.zone_model.specs.RecordSetRecord.{RecordSet}
use Rattle.zone_model.specs.Walks as alias
use Rattle.zone_model.specs.Zones.{IsAmong, group, is_of_group, target_group_of}
use Rattle.health_model.specs.Healthy.{Watched, group_value, healthy, healthy_within, no_group, sets_of}
use Rattle.health_model.specs.Laws.{OneHealth, RecursionMeets}
use Rattle.health_model.specs.Nodes.{CheckNode, GroupNode, IsNode, Meets, Node, SetNode, truth}
use Rattle.health_model.specs.Sound.{IsSound}
use Rattle.health_model.specs.Statuses.{Report, none_healthy, passing, status, status_within}
use Rattle.health_model.proofs.Local.{set_same, there_same}
use Rattle.health_model.proofs.Members.{any_same, of_filter, of_member}

-- ---- checks

pub none_among : (p : ℕ → Bool) (xs : List ℕ) (x : ℕ) → list_any p xs ≡ false → IsAmong xs x
    → p x ≡ false
none_among p [] x none m = absurd m
none_among p (y ∷ ys) x none (inl is) =
    subst (λ (n : ℕ). p n ≡ false) is (or_parts (p y) (list_any p ys) none).0
none_among p (y ∷ ys) x none (inr m) =
    none_among p ys x (or_parts (p y) (list_any p ys) none).1 m

-- no walk of so many steps starts
pub no_start : (checks : List (ℕ × Check)) (steps : ℕ)
    → ((walk : List ℕ) → IsWalk checks walk → length walk ≢ suc steps) → (id : ℕ)
    → starts_walk steps checks id ≡ false
no_start checks steps shallow id = false_from_ne_true (starts_walk steps checks id) never
  where
    never : starts_walk steps checks id ≡ true → ⊥
    never e =
        let from = (walks_told.starts steps checks id).0 e in
        shallow (id ∷ from.0) from.1 (ap suc from.2)

module _ (checks : List (ℕ × Check)) (reports : List Report) where
  pub no_child : (found : Option Check) → is_calculated_there found ≡ false → (child : ℕ)
      → IsAmong (children_there found) child → ⊥
  no_child None e child m = m
  no_child (Some (Endpoint threshold inverted disabled)) e child m = m
  no_child (Some (Calculated threshold inverted disabled children)) e child m =
      false≢true (sym e)

  deeper : (depth id : ℕ) → starts_walk depth checks id ≡ false
      → status_within depth checks reports id ≡ status_within (suc depth) checks reports id
  deeper zero id none =
      there_same (check_with checks id) (passing reports id) none_healthy
      (status_within zero checks reports)
      (λ child m. absurd (no_child (check_with checks id) none child m))
  deeper (suc depth) id none =
      there_same (check_with checks id) (passing reports id) (status_within depth checks reports)
      (status_within (suc depth) checks reports)
      (λ child m. deeper depth child (none_among (starts_walk depth checks)
      (children_there (check_with checks id)) child none m))

  children_known : AllByRecursion (λ held. AreChildren checks (children_of held.1)) checks
      → (id : ℕ) (found : Option Check) → check_with checks id ≡ found
      → (child : ℕ) → IsAmong (children_there found) child → IsId checks child
  children_known are id None at child m = absurd m
  children_known are id (Some check) at child m =
      let its = all_at (λ held. AreChildren checks (children_of held.1)) checks (id, check) are
      (stands_there checks id check at) in
      all_at (IsId checks) (children_of check) child its.there
      (of_member (children_of check) child m)

-- ---- sets

module _ (sets : List RecordSet) where
  -- no walk of so many links leads on from the set
  abbrev pub Ends : ℕ → RecordSet → Type 0
  Ends depth one =
      (walk : List RecordSet) → alias.IsWalk sets (one ∷ walk) → length walk ≢ depth

  pub no_alias : (one : RecordSet) → IsAmong sets one → Ends zero one
      → (target : List (List ℕ)) (evaluate : Bool) → one.body ≡ body.Alias target evaluate → ⊥
  no_alias one m ends target evaluate is =
      ends [] (m, subst IsAlias (sym is) tt) refl

  pub next_ends : (depth : ℕ) (one : RecordSet) → IsAmong sets one → Ends (suc depth) one
      → (target : List (List ℕ)) (evaluate : Bool) → one.body ≡ body.Alias target evaluate
      → (next : RecordSet) → IsAmong (group sets target one.rtype) next → Ends depth next
  next_ends depth one m ends target evaluate is next in_group walk walked e =
      ends (next ∷ walk) (
        m,
        subst IsAlias (sym is) tt,
        subst (λ (b : Body). IsAmong (target_group_of sets one.rtype b) next) (sym is) in_group,
        walked,
      ) (ap suc e)

  pub in_zone : (name : List (List ℕ)) (rtype : RType) (one : RecordSet)
      → IsAmong (group sets name rtype) one → IsAmong sets one
  in_zone name rtype one m = of_filter (is_of_group name rtype) sets one m

  deeper_set : (check : ℕ → Bool) (depth : ℕ) (one : RecordSet) → IsAmong sets one
      → Ends depth one
      → healthy_within depth check sets one ≡ healthy_within (suc depth) check sets one
  deeper_set check zero one m ends =
      set_same check check no_group (group_value (healthy_within zero check sets) sets) one
      (λ id is. refl)
      (λ target evaluate is e. absurd (no_alias one m ends target evaluate is))
  deeper_set check (suc depth) one m ends =
      set_same check check (group_value (healthy_within depth check sets) sets)
      (group_value (healthy_within (suc depth) check sets) sets) one
      (λ id is. refl)
      (λ target evaluate is e.
      any_same (healthy_within depth check sets) (healthy_within (suc depth) check sets)
      (group sets target one.rtype)
      (λ next n. deeper_set check depth next (in_zone target one.rtype next n)
      (next_ends depth one m ends target evaluate is next n)))

some_in : (xs : List RecordSet) → (xs ≡ [] → ⊥) → (x : RecordSet) × IsAmong xs x
some_in [] some = absurd (some refl)
some_in (x ∷ xs) some = (x, inl refl)

-- ---- a sound configuration

module _ (watched : Watched) (reports : List Report) (sound : IsSound watched) where
  pub ends_there : (zone : ℕ) (one : RecordSet) → IsAmong (sets_of watched zone) one
      → Ends (sets_of watched zone) 16 one
  ends_there zone one m walk walked e =
      sound.aliases zone one m (walk, walked, (omega (arith, e)))

  group_there : (zone : ℕ) (one : RecordSet) → IsAmong (sets_of watched zone) one
      → (target : List (List ℕ)) (evaluate : Bool) → one.body ≡ body.Alias target evaluate
      → IsNode watched (GroupNode zone target one.rtype)
  group_there zone one m target evaluate is =
      some_in (group (sets_of watched zone) target one.rtype)
      (λ none. sound.targets zone one m (
        subst IsAlias (sym is) tt,
        subst (λ (b : Body). target_group_of (sets_of watched zone) one.rtype b ≡ []) (sym is) none,
      ))

  check_meets : (id : ℕ) → Meets watched reports (truth watched reports) (CheckNode id)
  unfolding status
  check_meets id =
      deeper watched.checks reports 4 id (no_start watched.checks 4 sound.shallow id)

  set_meets : (zone : ℕ) (one : RecordSet) → IsAmong (sets_of watched zone) one
      → Meets watched reports (truth watched reports) (SetNode zone one)
  unfolding healthy
  set_meets zone one m =
      deeper_set (sets_of watched zone) (status watched.checks reports) 16 one m
      (ends_there zone one m)

  pub meets_all : (n : Node) → IsNode watched n → Meets watched reports (truth watched reports) n
  meets_all (CheckNode id) is = check_meets id
  meets_all (SetNode zone one) is = set_meets zone one is
  meets_all (GroupNode zone name rtype) is = refl

  module _ (v : Node → Bool) (meets : (n : Node) → IsNode watched n → Meets watched reports v n)
    where
      check_by : (depth id : ℕ) → IsId watched.checks id
          → starts_walk depth watched.checks id ≡ false
          → v (CheckNode id) ≡ status_within depth watched.checks reports id
      check_by zero id is none =
          meets (CheckNode id) is
          ∙ there_same (check_with watched.checks id) (passing reports id)
          (λ child. v (CheckNode child)) none_healthy
          (λ child m. absurd (no_child watched.checks reports (check_with watched.checks id) none
          child m))
      check_by (suc depth) id is none =
          meets (CheckNode id) is
          ∙ there_same (check_with watched.checks id) (passing reports id)
          (λ child. v (CheckNode child)) (status_within depth watched.checks reports)
          (λ child m. check_by depth child
          (children_known watched.checks reports sound.children id (check_with watched.checks id) refl
          child m)
          (none_among (starts_walk depth watched.checks)
          (children_there (check_with watched.checks id)) child none m))

      check_is : (id : ℕ) → IsId watched.checks id
          → v (CheckNode id) ≡ status watched.checks reports id
      unfolding status
      check_is id is = check_by 4 id is (no_start watched.checks 4 sound.shallow id)

      set_by : (zone depth : ℕ) (one : RecordSet) → IsAmong (sets_of watched zone) one
          → Ends (sets_of watched zone) depth one
          → v (SetNode zone one)
          ≡ healthy_within depth (status watched.checks reports) (sets_of watched zone) one
      set_by zone zero one m ends =
          meets (SetNode zone one) m
          ∙ set_same (λ id. v (CheckNode id)) (status watched.checks reports)
          (λ name rtype. v (GroupNode zone name rtype)) no_group one
          (λ id is. check_is id (sound.checks zone one id m is))
          (λ target evaluate is e.
          absurd (no_alias (sets_of watched zone) one m ends target evaluate is))
      set_by zone (suc depth) one m ends =
          let sets = sets_of watched zone in
          meets (SetNode zone one) m
          ∙ set_same (λ id. v (CheckNode id)) (status watched.checks reports)
          (λ name rtype. v (GroupNode zone name rtype))
          (group_value (healthy_within depth (status watched.checks reports) sets) sets) one
          (λ id is. check_is id (sound.checks zone one id m is))
          (λ target evaluate is e.
          meets (GroupNode zone target one.rtype) (group_there zone one m target evaluate is)
          ∙ any_same (λ (next : RecordSet). v (SetNode zone next))
          (healthy_within depth (status watched.checks reports) sets)
          (group sets target one.rtype)
          (λ next n. set_by zone depth next (in_zone sets target one.rtype next n)
          (next_ends sets depth one m ends target evaluate is next n)))

      set_is : (zone : ℕ) (one : RecordSet) → IsAmong (sets_of watched zone) one
          → v (SetNode zone one) ≡ healthy watched reports zone one
      unfolding healthy
      set_is zone one m = set_by zone 16 one m (ends_there zone one m)

      pub each_is : (n : Node) → IsNode watched n → v n ≡ truth watched reports n
      each_is (CheckNode id) is = check_is id is
      each_is (SetNode zone one) is = set_is zone one is
      each_is (GroupNode zone name rtype) is =
          meets (GroupNode zone name rtype) is
          ∙ any_same (λ (one : RecordSet). v (SetNode zone one)) (healthy watched reports zone)
          (group (sets_of watched zone) name rtype)
          (λ one m. set_is zone one (in_zone (sets_of watched zone) name rtype one m))

pub one_health : OneHealth
one_health watched reports sound v meets n is = each_is watched reports sound v meets n is

pub recursion_meets : RecursionMeets
recursion_meets watched reports sound n is = meets_all watched reports sound n is
