-- Sets whose feeders come, one after another.
use Rattle.std.proofs.Common.{◌≡◌, ℕ, Bool, true, false, List, [], refl, ap, inl, inr, Some, None}
use Rattle.std.specs.Prelude.{not}
use Rattle.std.proofs.lemmas.Bool.{false≢true}
use Rattle.rdata_layout.specs.declared.types.RType.{RType}
use Rattle.record_set.specs.declared.sets.Body.{Body}
use Rattle.record_set.specs.declared.sets.Body.TheVariants as body
use Rattle.policy_select.specs.Telling.{evaluates, target_in}
use Rattle.policy_select.specs.Zones.{Zone}
use Rattle.zone_model.specs.Slotted.{Slotted}
use Rattle.health_planning.specs.Building.{HasTargetValve}
use Rattle.health_planning.specs.Wired.{AreMembers, IsFirstIn, group_seat, with_valve}
use Rattle.health_planning.specs.declared.seats.Seat.{Seat}

some_same : {X : Type 0} {x y : X} → Some x ≡ Some y → x ≡ y
some_same e = cc

-- what is known of a flag by its opposite
pub not_on : (b : Bool) {c : Bool} → not b ≡ c → b ≡ not c
not_on true e = ap not e
not_on false e = ap not e

module _ (zones : List Zone) (seats : List Seat) (zone : ℕ) (rtype : RType) where
  -- no target's health counts
  pub no_target : (its : Body) → evaluates its ≡ false
      → HasTargetValve zones seats zone rtype its []
  no_target (body.Values ttl values) off = refl
  no_target (body.Alias name evaluate) off = inl (off, refl)

  -- a set whose target's health counts has a target
  pub some_target : (its : Body) → evaluates its ≡ true → target_in rtype its ≡ None → ⊥
  some_target (body.Values ttl values) on none = false≢true on
  some_target (body.Alias name evaluate) on none = let no : ⊥ = cc in absurd no

  pub that_target : (its : Body) (name : List (List ℕ)) (its_type : RType)
      (members : List Slotted) (slot : ℕ) → evaluates its ≡ true
      → target_in rtype its ≡ Some (name, its_type)
      → AreMembers zones zone name its_type members → IsFirstIn members slot
      → HasTargetValve zones seats zone rtype its (with_valve (group_seat seats slot) [])
  that_target (body.Values ttl values) name its_type members slot on is are first =
      absurd (false≢true on)
  that_target (body.Alias target evaluate) name its_type members slot on is are first =
      let same : ◌≡◌ {A = List (List ℕ) × RType} (target, rtype) (name, its_type) = some_same is in
      let names = ap (λ (t : List (List ℕ) × RType). t.0) same in
      let types = ap (λ (t : List (List ℕ) × RType). t.1) same in
      inr (on, (members, (slot, (rw (names, types) are, first, refl))))
