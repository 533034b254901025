-- One set that nothing decides went from a group with a valve.
use Rattle.std.proofs.Common.{◌≡◌, ◌≢◌, ◌+◌, ◌-◌, ℕ, zero, suc, List, [], ◌∷◌, arith, refl, ap, sym, ◌∙◌, inl, inr, Some}
use Rattle.std.specs.Prelude.{slice_get}
use Rattle.std.proofs.lemmas.Bool.{eq-eqb, ne_eqb}
use mathlib.Core.Path.{subst}
use Rattle.check_model.specs.Checks.{Checks}
use Rattle.health_standing.proofs.Keyed.{grouped}
use Rattle.health_standing.proofs.Moving.{of_parts}
use Rattle.health_standing.proofs.Regrouped.{one_told, regrouped, rising}
use Rattle.health_standing.proofs.Slots.{in_slot, none_in, one_in, slot_in}
use Rattle.health_standing.specs.Index.{Index, IsOfOneGroup, Space, StandsFor}
use Rattle.health_standing.specs.Leaving.{IsOneOf, Moves}
use Rattle.health_standing.specs.Regrouping.{IsSeatedIn, LeavesGroup}
use Rattle.health_model.proofs.Members.{of_filter}
use Rattle.health_model.specs.Sound.{IsSound}
use Rattle.health_model.specs.Statuses.{Report}
use Rattle.health_planning.proofs.ListedOnce.{one_ref}
use Rattle.health_planning.proofs.Members.{one_named}
use Rattle.health_planning.proofs.Wiring.{member_there}
use Rattle.health_planning.specs.Changes.{ref_in}
use Rattle.health_planning.specs.SetRefRecord.{SetRef}
use Rattle.health_planning.specs.Tables.{HaveSlotsApart}
use Rattle.health_planning.specs.Wired.{AreMembers, TellGroup, group_seat, watched_of}
use Rattle.health_planning.specs.Zones.{AreZones, Zone, placed_in}
use Rattle.health_planning.specs.declared.seats.Seat.{Seat}
use Rattle.health_valves.specs.Pass.{IsIdle, MeetAll}
use Rattle.health_valves.specs.Valves.{ValvesStandFor, with_own}
use Rattle.health_valves.specs.declared.valves.Valves.{Valves}
use Rattle.rdata_layout.specs.declared.types.RType.{RType}
use Rattle.zone_model.specs.Slotted.{IsHere, Slotted}
use Rattle.zone_model.specs.Zones.{is_of_group}

pub own_here : (valve n : ℕ) (own : ℕ → ℕ) → with_own valve n own valve ≡ n
own_here valve n own = rw (eq-eqb valve valve refl) refl

pub own_there : (valve n : ℕ) (own : ℕ → ℕ) (m : ℕ) → m ≢ valve → with_own valve n own m ≡ own m
own_there valve n own m apart = rw (ne_eqb m valve apart) refl

-- one reference alone is told
pub is_one : (refs : List SetRef) (one other : SetRef) → refs ≡ one ∷ [] → IsOneOf refs other → other ≡ one
is_one refs one other are (i, at) = by i (subst (λ (l : List SetRef). slice_get l i ≡ Some other) are at)
  where
    by : (i : ℕ) → slice_get (one ∷ []) i ≡ Some other → other ≡ one
    by zero e = cc
    by (suc k) e = let no : ⊥ = cc in absurd no

pub is_none : (refs : List SetRef) (other : SetRef) → refs ≡ [] → IsOneOf refs other → ⊥
is_none refs other are (i, at) = by (subst (λ (l : List SetRef). slice_get l i ≡ Some other) are at)
  where
    by : slice_get [] i ≡ Some other → ⊥
    by e = cc

module _ (before after : List Zone) (checks : Checks) (reports : List Report) (index : Index)
    (stands : StandsFor before checks reports index) (are_after : AreZones after)
    (slots_after : HaveSlotsApart after) (sound : IsSound (watched_of after checks))
    (removed added : List SetRef) (moves : Moves before after removed added) (ref : SetRef)
    (is_removed : removed ≡ ref ∷ []) (is_added : added ≡ [])
    (g : ℕ) (leaves : LeavesGroup after index.seats index.valves ref g)
    (now : List Seat) (seated : IsSeatedIn ref.slot 0 index.seats now) where
  stays : (zone : ℕ) (p : Slotted) → IsHere (placed_in before zone) p → p.slot ≢ ref.slot
      → IsHere (placed_in after zone) p
  stays zone p here apart = elim (moves.stays zone p here) [
    | inl told ↦ absurd (apart (ap (λ (r : SetRef). r.slot) (is_one removed ref (ref_in zone p) is_removed told)))
    | inr there ↦ there
  ]

  was_here : (zone : ℕ) (p : Slotted) → IsHere (placed_in after zone) p → IsHere (placed_in before zone) p
  was_here zone p here = elim (moves.only zone p here) [
    | inl was ↦ was
    | inr new ↦ absurd (is_none added (ref_in zone p) is_added new)
  ]

  -- the set that went was there
  went : (p : Slotted) × IsHere (placed_in before ref.zone) p × (p.slot ≡ ref.slot)
  went =
      let y = stands.told.groups ref.slot g leaves.seat in
      let p = y.only ref.slot leaves.seat in
      let q : Slotted = record { slot = ref.slot; set = p.0.set } in
      moves.gone ref.zone q (0, ap (λ (l : List SetRef). slice_get l 0) is_removed ∙ ap Some (of_parts ref (ref_in ref.zone q) refl refl))

  none_after : (zone : ℕ) (q : Slotted) → IsHere (placed_in after zone) q → q.slot ≢ ref.slot
  none_after zone q here e =
      let one = one_ref before (ref_in zone q) (ref_in ref.zone went.0) q.set went.0.set stands.slots
      (was_here zone q here) went.1 (e ∙ sym went.2) in
      let z : zone ≡ ref.zone = ap (λ (r : SetRef). r.zone) one in
      leaves.gone q.set
      (subst (λ (n : ℕ). IsHere (placed_in after ref.zone) (record { slot = n; set = q.set })) e
      (subst (λ (n : ℕ). IsHere (placed_in after n) q) z here))

  abbrev its_own : ℕ → ℕ
  its_own = with_own g (stands.own g - 1) stands.own

  counted : (zone : ℕ) (name : List (List ℕ)) (rtype : RType) (members : List Slotted) (h : ℕ)
      → AreMembers before zone name rtype members → TellGroup index.seats members h → (p : Slotted)
      → IsHere members p
      → its_own h + in_slot ref.slot members
      ≡ stands.own h + in_slot ref.slot (grouped name rtype (placed_in after zone))
  counted zone name rtype members h are tell p m =
      let none = none_in ref.slot (grouped name rtype (placed_in after zone))
      (λ q mq. none_after zone q (of_filter (λ (x : Slotted). is_of_group name rtype x.set) (placed_in after zone) q mq)) in
      elim (slot_in members ref.slot) [
        | inl q ↦
            let one = one_in ref.slot members (rising before after checks reports index stands are_after slots_after sound now ref.slot g 0 seated leaves.bare stays (λ zone p here apart. was_here zone p here) (λ zone p here e. absurd (none_after zone p here e)) its_own zone name rtype members h are tell)
            (λ a b in_a in_b at_a at_b. same_set zone a b (are.here a in_a) (are.here b in_b) (at_a ∙ sym at_b)) q.0 q.1 q.2 in
            let told = sym (tell q.0 q.1) ∙ ap (group_seat index.seats) q.2 ∙ leaves.seat in
            let is : h ≡ g = omega (arith, told) in
            let some = leaves.some stands.net stands.own stands.fits in
            let its : its_own h ≡ stands.own g - 1 = ap its_own is ∙ own_here g (stands.own g - 1) stands.own in
            let was : stands.own h ≡ stands.own g = ap stands.own is in
            omega (arith, none, one, some, its, was)
        | inr apart ↦
            let zero_in = none_in ref.slot members apart in
            let other = λ (is : h ≡ g).
            let y = stands.told.groups ref.slot g leaves.seat in
            let s = y.only ref.slot leaves.seat in
            let same = one_told before stands.are_zones stands.slots index.seats g y zone name rtype members are p m (tell p m ∙ ap suc is) in
            apart s.0 (in_as y zone name rtype members are same s.0 s.1) s.2 in
            let its : its_own h ≡ stands.own h = own_there g (stands.own g - 1) stands.own h other in
            omega (arith, none, zero_in, its)
      ]
    where
      same_set : (zone : ℕ) (a b : Slotted) → IsHere (placed_in before zone) a → IsHere (placed_in before zone) b
          → a.slot ≡ b.slot → a.set ≡ b.set
      same_set zone a b in_a in_b e =
          one_named before (ref_in zone b) a.set b.set stands.are_zones
          (subst (λ (n : ℕ). IsHere (placed_in before zone) (record { slot = n; set = a.set })) e in_a) in_b

      in_as : (y : IsOfOneGroup before index.seats g) (zone : ℕ) (name : List (List ℕ)) (rtype : RType)
          (members : List Slotted) → AreMembers before zone name rtype members
          → (zone ≡ y.zone) × ((name ≡ y.name) × (rtype ≡ y.rtype)) → (s : Slotted) → IsHere y.members s
          → IsHere members s
      in_as y zone name rtype members are same s m =
          member_there before stands.are_zones y.zone y.name y.rtype y.members members s y.are m
          (subst (λ (z : ℕ). AreMembers before z y.name y.rtype members) same.0
          (subst (λ (n : List (List ℕ)). AreMembers before zone n y.rtype members) same.1.0
          (subst (λ (t : RType). AreMembers before zone name t members) same.1.1 are)))

  pub left_stands : (valves : Valves) (space : Space) → ValvesStandFor stands.net its_own valves
      → MeetAll stands.net its_own valves → IsIdle valves
      → StandsFor after checks reports (record index { seats = now; members = index.members; valves = valves; space = space })
  left_stands valves space fits meet idle =
      regrouped before after checks reports index stands are_after slots_after sound now ref.slot g 0 seated leaves.bare stays
      (λ zone p here apart. was_here zone p here) (λ zone p here e. absurd (none_after zone p here e)) its_own
      (λ n apart. own_there g (stands.own g - 1) stands.own n apart) (ref.slot, leaves.seat) counted
      (λ zone name rtype members h are tell p m q mq e.
      absurd (none_after zone q (of_filter (λ (x : Slotted). is_of_group name rtype x.set) (placed_in after zone) q mq) e))
      (λ h is. let no : ⊥ = cc in absurd no) (λ h is y. let no : ⊥ = cc in absurd no)
      index.members valves space fits meet idle
