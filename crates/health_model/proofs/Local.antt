-- The local equation of a node hangs on its feeders alone.
use Rattle.std.proofs.Common.{◌≡◌, ℕ, Bool, true, false, cond, List, [], ◌∷◌, length, Option, None, Some, ap, ◌∙◌, sym, refl, subst}
use Rattle.std.specs.Prelude.{Contains, ◌&&◌, if◌then◌else◌}
use Rattle.std.proofs.lemmas.List.Elements.{Contains-append_left, Contains-append_right}
use Rattle.calculated_health.specs.Status.{calculated_status, swapped_if}
use Rattle.check_model.specs.declared.checks.Check.{Check}
use Rattle.check_model.specs.declared.checks.Check.TheVariants.{Endpoint, Calculated}
use Rattle.check_model.specs.Checks.{check_with, children_of}
use Rattle.check_model.specs.Commands.{children_there}
use Rattle.zone_model.specs.RTypeRecord.{RType}
use Rattle.zone_model.specs.BodyRecord.{Body}
use Rattle.zone_model.specs.BodyRecord.TheVariants as body
use Rattle.zone_model.specs.RecordSetRecord.{RecordSet}
use Rattle.zone_model.specs.Zones.{IsAmong, group}
use Rattle.health_model.specs.Healthy.{Watched, by_check, by_target, set_value, sets_of}
use Rattle.health_model.specs.Nodes.{CheckNode, GroupNode, Node, SetNode, feeders, its_check, its_target, local}
use Rattle.health_model.specs.Statuses.{Report, check_value, passing, value_there}
use Rattle.health_model.proofs.Members.{any_same, at_first, filter_same, mapped_in}

-- the value of a check hangs on its children
pub check_same : (check : Check) (passing : ℕ → ℕ) (p q : ℕ → Bool)
    → ((child : ℕ) → IsAmong (children_of check) child → p child ≡ q child)
    → check_value check passing p ≡ check_value check passing q
check_same (Endpoint threshold inverted disabled) passing p q same = refl
check_same (Calculated threshold inverted disabled children) passing p q same =
    ap (λ (l : List ℕ). if disabled then swapped_if inverted true
    else calculated_status (length l) threshold inverted) (filter_same p q children same)

pub there_same : (found : Option Check) (passing : ℕ → ℕ) (p q : ℕ → Bool)
    → ((child : ℕ) → IsAmong (children_there found) child → p child ≡ q child)
    → value_there found passing p ≡ value_there found passing q
there_same None passing p q same = refl
there_same (Some check) passing p q same = check_same check passing p q same

-- the value of a set hangs on its check and its target group
abbrev pub Groups : Type 0
Groups = List (List ℕ) → RType → Bool

by_check_same : (p q : ℕ → Bool) (named : Option ℕ)
    → ((id : ℕ) → named ≡ Some id → p id ≡ q id) → by_check p named ≡ by_check q named
by_check_same p q None same = refl
by_check_same p q (Some id) same = same id refl

evaluated_same : (b : Bool) (x y : Bool) → (b ≡ true → x ≡ y)
    → cond b x true ≡ cond b y true
evaluated_same true x y same = same refl
evaluated_same false x y same = refl

pub by_target_same : (f g : Groups) (rtype : RType) (its : Body)
    → ((target : List (List ℕ)) (evaluate : Bool) → its ≡ body.Alias target evaluate
    → evaluate ≡ true → f target rtype ≡ g target rtype)
    → by_target f rtype its ≡ by_target g rtype its
by_target_same f g rtype (body.Values ttl values) same = refl
by_target_same f g rtype (body.Alias target evaluate) same =
    evaluated_same evaluate (f target rtype) (g target rtype) (same target evaluate refl)

pub set_same : (p q : ℕ → Bool) (f g : Groups) (one : RecordSet)
    → ((id : ℕ) → one.check ≡ Some id → p id ≡ q id)
    → ((target : List (List ℕ)) (evaluate : Bool) → one.body ≡ body.Alias target evaluate
    → evaluate ≡ true → f target one.rtype ≡ g target one.rtype)
    → set_value p f one ≡ set_value q g one
set_same p q f g one checks targets =
    ap (λ (b : Bool). b && by_target f one.rtype one.body)
    (by_check_same p q one.check checks)
    ∙ ap (λ (b : Bool). by_check q one.check && b)
    (by_target_same f g one.rtype one.body targets)

-- ---- values that agree on a node's feeders

module _ (watched : Watched) (reports : List Report) (v w : Node → Bool) where
  check_in : (named : Option ℕ) (id : ℕ) → named ≡ Some id
      → Contains (its_check named) (CheckNode id)
  check_in None id e = let no : ⊥ = cc in absurd no
  check_in (Some other) id e =
      let same : other ≡ id = cc in
      subst (λ (n : ℕ). Contains (CheckNode other ∷ []) (CheckNode n)) same
      (at_first (CheckNode other) [])

  evaluated_in : (b : Bool) (n : Node) → b ≡ true → Contains (cond b (n ∷ []) []) n
  evaluated_in true n e = at_first n []
  evaluated_in false n e = let no : ⊥ = cc in absurd no

  target_in : (zone : ℕ) (rtype : RType) (its : Body) (target : List (List ℕ))
      (evaluate : Bool) → its ≡ body.Alias target evaluate → evaluate ≡ true
      → Contains (its_target zone rtype its) (GroupNode zone target rtype)
  target_in zone rtype its target evaluate is e =
      subst (λ (b : Body). Contains (its_target zone rtype b) (GroupNode zone target rtype))
      (sym is) (evaluated_in evaluate (GroupNode zone target rtype) e)

  pub local_same : (n : Node) → ((m : Node) → Contains (feeders watched n) m → v m ≡ w m)
      → local watched reports v n ≡ local watched reports w n
  local_same (CheckNode id) same =
      there_same (check_with watched.checks id) (passing reports id)
      (λ child. v (CheckNode child)) (λ child. w (CheckNode child))
      (λ child m. same (CheckNode child)
      (mapped_in CheckNode (children_there (check_with watched.checks id)) child m))
  local_same (SetNode zone one) same =
      set_same (λ id. v (CheckNode id)) (λ id. w (CheckNode id))
      (λ name rtype. v (GroupNode zone name rtype)) (λ name rtype. w (GroupNode zone name rtype))
      one
      (λ id is. same (CheckNode id) (Contains-append_left (its_check one.check)
      (its_target zone one.rtype one.body) (CheckNode id) (check_in one.check id is)))
      (λ target evaluate is e. same (GroupNode zone target one.rtype)
      (Contains-append_right (its_check one.check) (its_target zone one.rtype one.body)
      (GroupNode zone target one.rtype)
      (target_in zone one.rtype one.body target evaluate is e)))
  local_same (GroupNode zone name rtype) same =
      any_same (λ (one : RecordSet). v (SetNode zone one))
      (λ (one : RecordSet). w (SetNode zone one)) (group (sets_of watched zone) name rtype)
      (λ one m. same (SetNode zone one)
      (mapped_in (SetNode zone) (group (sets_of watched zone) name rtype) one m))
