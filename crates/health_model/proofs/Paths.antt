-- How many feeds a path has.
use Rattle.std.proofs.Common.{◌≡◌, ℕ, zero, suc, ◌+◌, ◌*◌, ◌≤◌, Bool, true, false, cond, List, [], ◌∷◌, map, Option, None, Some, sym, refl, subst, arith, inl, inr}
use Rattle.std.specs.Prelude.{Contains}
use Rattle.std.proofs.lemmas.List.Elements.{Contains-append_cases}
use Rattle.check_model.specs.Checks.{check_with}
use Rattle.check_model.specs.Commands.{children_there, starts_walk}
use Rattle.zone_model.specs.RTypeRecord.{RType}
use Rattle.zone_model.specs.BodyRecord.{Body}
use Rattle.zone_model.specs.BodyRecord.TheVariants as body
use Rattle.zone_model.specs.RecordSetRecord.{RecordSet}
use Rattle.zone_model.specs.Zones.{IsAmong, group}
use Rattle.health_model.specs.Healthy.{Watched, sets_of}
use Rattle.health_model.specs.Laws.{PathsEnd}
use Rattle.health_model.specs.Nodes.{CheckNode, GroupNode, IsNode, Node, Reaches, SetNode, its_check, its_target}
use Rattle.health_model.specs.Sound.{IsSound}
use Rattle.health_model.proofs.Members.{first_or_rest, nothing_in}
use Rattle.health_model.proofs.Recursion.{Ends, ends_there, in_zone, next_ends, no_alias, no_child, no_start, none_among}

-- ---- what feeds a node

came_from : {X Y : Type 0} (f : X → Y) (xs : List X) (y : Y) → Contains (map f xs) y
    → (x : X) × IsAmong xs x × (y ≡ f x)
came_from f [] y m = absurd (nothing_in y m)
came_from f (x ∷ xs) y m = elim (first_or_rest (f x) (map f xs) y m) [
  | inl same ↦ (x, inl refl, sym same)
  | inr rest ↦ (let more = came_from f xs y rest in (more.0, inr more.1, more.2))
]

check_named : (named : Option ℕ) (n : Node) → Contains (its_check named) n
    → (id : ℕ) × (named ≡ Some id) × (n ≡ CheckNode id)
check_named None n m = absurd (nothing_in n m)
check_named (Some id) n m = elim (first_or_rest (CheckNode id) [] n m) [
  | inl same ↦ (id, refl, sym same)
  | inr rest ↦ absurd (nothing_in n rest)
]

-- an evaluated alias, and the group that is its target
abbrev IsTarget : (zone : ℕ) → RType → Body → Node → Type 0
IsTarget zone rtype its n =
    (target : List (List ℕ)) × (evaluate : Bool) × (its ≡ body.Alias target evaluate)
    × (n ≡ GroupNode zone target rtype)

target_by : (b : Bool) (zone : ℕ) (rtype : RType) (target : List (List ℕ)) (n : Node)
    → Contains (cond b (GroupNode zone target rtype ∷ []) []) n → n ≡ GroupNode zone target rtype
target_by true zone rtype target n m =
    elim (first_or_rest (GroupNode zone target rtype) [] n m) [
      | inl same ↦ sym same
      | inr rest ↦ absurd (nothing_in n rest)
    ]
target_by false zone rtype target n m = absurd (nothing_in n m)

target_named : (zone : ℕ) (rtype : RType) (its : Body) (n : Node)
    → Contains (its_target zone rtype its) n → IsTarget zone rtype its n
target_named zone rtype (body.Values ttl values) n m = absurd (nothing_in n m)
target_named zone rtype (body.Alias target evaluate) n m =
    (target, evaluate, refl, target_by evaluate zone rtype target n m)

-- ---- paths

module _ (watched : Watched) (sound : IsSound watched) (x : Node) where
  check_path : (depth id : ℕ) → starts_walk depth watched.checks id ≡ false → (feeds : ℕ)
      → Reaches watched feeds x (CheckNode id) → feeds ≤ depth
  check_path depth id none zero path = omega arith
  check_path zero id none (suc feeds) (is, (before, fed, rest)) =
      let child = came_from CheckNode (children_there (check_with watched.checks id)) before fed in
      absurd (no_child watched.checks [] (check_with watched.checks id) none child.0 child.1)
  check_path (suc depth) id none (suc feeds) (is, (before, fed, rest)) =
      let child = came_from CheckNode (children_there (check_with watched.checks id)) before fed in
      let le = check_path depth child.0 (none_among (starts_walk depth watched.checks)
      (children_there (check_with watched.checks id)) child.0 none child.1) feeds
      (subst (Reaches watched feeds x) child.2 rest) in
      omega (arith, le)

  short_check : (id feeds : ℕ) → Reaches watched feeds x (CheckNode id) → feeds ≤ 4
  short_check id feeds path =
      check_path 4 id (no_start watched.checks 4 sound.shallow id) feeds path

  by_check : (depth : ℕ) (one : RecordSet) (before : Node)
      → Contains (its_check one.check) before → (feeds : ℕ) → Reaches watched feeds x before
      → suc feeds ≤ 5 + 2 * depth
  by_check depth one before fed feeds rest =
      let named = check_named one.check before fed in
      let le = short_check named.0 feeds (subst (Reaches watched feeds x) named.2 rest) in
      omega (arith, le)

  module _ (zone : ℕ) where
    past_group : (depth : ℕ) (one : RecordSet) → IsAmong (sets_of watched zone) one
        → Ends (sets_of watched zone) (suc depth) one
        → ((next : RecordSet) → IsAmong (sets_of watched zone) next
        → Ends (sets_of watched zone) depth next → (feeds : ℕ)
        → Reaches watched feeds x (SetNode zone next) → feeds ≤ 5 + 2 * depth)
        → (feeds : ℕ) (target : List (List ℕ)) (evaluate : Bool)
        → one.body ≡ body.Alias target evaluate
        → Reaches watched feeds x (GroupNode zone target one.rtype) → feeds ≤ 6 + 2 * depth
    past_group depth one m ends shorter zero target evaluate is path = omega arith
    past_group depth one m ends shorter (suc feeds) target evaluate is
        (node, (before, fed, rest)) =
        let sets = sets_of watched zone in
        let next = came_from (SetNode zone) (group sets target one.rtype) before fed in
        let le = shorter next.0 (in_zone sets target one.rtype next.0 next.1)
        (next_ends sets depth one m ends target evaluate is next.0 next.1) feeds
        (subst (Reaches watched feeds x) next.2 rest) in
        omega (arith, le)

    set_path : (depth : ℕ) (one : RecordSet) → IsAmong (sets_of watched zone) one
        → Ends (sets_of watched zone) depth one → (feeds : ℕ)
        → Reaches watched feeds x (SetNode zone one) → feeds ≤ 5 + 2 * depth
    set_path depth one m ends zero path = omega arith
    set_path zero one m ends (suc feeds) (is, (before, fed, rest)) =
        elim (Contains-append_cases (its_check one.check)
        (its_target zone one.rtype one.body) before fed) [
          | inl named ↦ by_check zero one before named feeds rest
          | inr target ↦ (let t = target_named zone one.rtype one.body before target in
              absurd (no_alias (sets_of watched zone) one m ends t.0 t.1 t.2))
        ]
    set_path (suc depth) one m ends (suc feeds) (is, (before, fed, rest)) =
        elim (Contains-append_cases (its_check one.check)
        (its_target zone one.rtype one.body) before fed) [
          | inl named ↦ by_check (suc depth) one before named feeds rest
          | inr target ↦ (let t = target_named zone one.rtype one.body before target in
              let le = past_group depth one m ends (set_path depth) feeds t.0 t.1 t.2
              (subst (Reaches watched feeds x) t.3 rest) in
              omega (arith, le))
        ]

    short_set : (one : RecordSet) → IsAmong (sets_of watched zone) one → (feeds : ℕ)
        → Reaches watched feeds x (SetNode zone one) → feeds ≤ 37
    short_set one m feeds path =
        let le = set_path 16 one m (ends_there watched [] sound zone one m) feeds path in
        omega (arith, le)

    short_group : (name : List (List ℕ)) (rtype : RType) (feeds : ℕ)
        → Reaches watched feeds x (GroupNode zone name rtype) → feeds ≤ 38
    short_group name rtype zero path = omega arith
    short_group name rtype (suc feeds) (is, (before, fed, rest)) =
        let sets = sets_of watched zone in
        let one = came_from (SetNode zone) (group sets name rtype) before fed in
        let le = short_set one.0 (in_zone sets name rtype one.0 one.1) feeds
        (subst (Reaches watched feeds x) one.2 rest) in
        omega (arith, le)

  short : (n : Node) → IsNode watched n → (feeds : ℕ) → Reaches watched feeds x n → feeds ≤ 38
  short (CheckNode id) is feeds path =
      let le = short_check id feeds path in omega (arith, le)
  short (SetNode zone one) is feeds path =
      let le = short_set zone one is feeds path in omega (arith, le)
  short (GroupNode zone name rtype) is feeds path = short_group zone name rtype feeds path

pub paths_end : PathsEnd
paths_end watched sound x n is feeds path = short watched sound x n is feeds path
