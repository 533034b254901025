-- What an index has where an evaluated alias went, and another one leads to its target group.
use Rattle.std.proofs.Common.{◌≡◌, ◌<◌, ℕ, zero, suc, List, arith, refl, ap, sym, ◌∙◌, inl, inr}
use mathlib.Core.Path.{subst}
use Rattle.check_model.specs.Checks.{Checks}
use Rattle.health_index.proofs.CanRegroup.{names_none}
use Rattle.health_index.proofs.GroupLeft.{is_none}
use Rattle.health_index.proofs.Keyed.{grouped, grouped_sets}
use Rattle.health_index.proofs.Leading.{led_alias}
use Rattle.health_index.proofs.Moving.{moved}
use Rattle.health_index.proofs.Staying.{in_filter}
use Rattle.health_index.specs.Index.{Index, StandsFor}
use Rattle.health_index.specs.Laws.{AliasesCanLeave}
use Rattle.health_model.proofs.Members.{of_filter}
use Rattle.health_model.specs.Statuses.{Report}
use Rattle.health_planning.proofs.Wiring.{first_same, passes_it, same_names}
use Rattle.health_planning.specs.Changes.{ref_in}
use Rattle.health_planning.specs.Wired.{AreMembers, IsGroupValve, IsLedTo, group_seat, seat_of}
use Rattle.health_planning.specs.Zones.{AreZones, Zone, placed_in}
use Rattle.health_planning.specs.declared.seats.Seat.{Seat}
use Rattle.health_valves.proofs.Times.{in_times, times_in}
use Rattle.health_valves.specs.Valves.{Feeds, Net, ValvesStandFor}
use Rattle.health_valves.specs.declared.valves.Valves.{Valves}
use Rattle.rdata_layout.specs.declared.types.RType.{RType}
use Rattle.zone_model.specs.Slotted.{IsHere, Slotted}
use Rattle.zone_model.specs.Zones.{is_of_group}

-- valves that stand for two nets are fed alike in both
pub fed_in_both : (valves : Valves) (net other : Net) (own own_two : ℕ → ℕ) → ValvesStandFor net own valves
    → ValvesStandFor other own_two valves → (x y : ℕ) → y < net.size → Feeds net x y → Feeds other x y
fed_in_both valves net other own own_two first second x y within fed =
    let one = first.laid.size in
    let two = second.laid.size in
    let a = first.laid.reversed x y within in
    let b = second.laid.reversed x y (omega (arith, one, two, within)) in
    times_in x _ (subst (λ n. 0 < n) (sym a ∙ b) (in_times x _ fed))

-- one group has one valve
one_valve : (zones : List Zone) → AreZones zones → (seats : List Seat) (net : Net) (own : ℕ → ℕ) (zone : ℕ)
    (name : List (List ℕ)) (rtype : RType) (xs ys : List Slotted) (a b : ℕ)
    → AreMembers zones zone name rtype xs → IsGroupValve seats net own xs a
    → AreMembers zones zone name rtype ys → IsGroupValve seats net own ys b → a ≡ b
one_valve zones are_zones seats net own zone name rtype xs ys a b are_xs w are_ys v =
    let same = first_same zones are_zones zone name rtype xs ys w.seat.0 v.seat.0 are_xs w.seat.1.0 are_ys v.seat.1.0 in
    let seats_same = ap (group_seat seats) same in
    let first = w.seat.1.1 in
    let second = v.seat.1.1 in
    omega (arith, seats_same, first, second)

module _ (before : List Zone) (checks : Checks) (reports : List Report) (index : Index)
    (stands : StandsFor before checks reports index) (zone : ℕ) (p : Slotted) (here : IsHere (placed_in before zone) p)
    (none_leads : IsLedTo before zone p.set.name p.set.rtype → ⊥) where
  -- the set is of the group of its name and type
  own_group : AreMembers before zone p.set.name p.set.rtype (grouped p.set.name p.set.rtype (placed_in before zone))
  own_group = record {
    sets = grouped_sets p.set.name p.set.rtype (placed_in before zone);
    here = λ q m. of_filter (λ (x : Slotted). is_of_group p.set.name p.set.rtype x.set) (placed_in before zone) q m;
  }

  in_own : IsHere (grouped p.set.name p.set.rtype (placed_in before zone)) p
  in_own = in_filter (λ (x : Slotted). is_of_group p.set.name p.set.rtype x.set) (placed_in before zone) p here
      (passes_it p.set.name p.set.rtype p.set refl refl)

  pub no_group : group_seat index.seats p.slot ≡ 0
  no_group = by (group_seat index.seats p.slot) refl
    where
      by : (n : ℕ) → group_seat index.seats p.slot ≡ n → group_seat index.seats p.slot ≡ 0
      by zero e = e
      by (suc h) e =
          let x = stands.told.groups p.slot h e in
          let s = x.only p.slot e in
          let same = same_names before stands.are_zones stands.slots x.zone zone x.name p.set.name x.rtype p.set.rtype x.members
          (grouped p.set.name p.set.rtype (placed_in before zone)) s.0 p x.are s.1 own_group in_own s.2 in
          absurd (none_leads
          (subst (λ (z : ℕ). IsLedTo before z p.set.name p.set.rtype) (sym same.0)
          (subst (λ (n : List (List ℕ)). IsLedTo before x.zone n p.set.rtype) (sym same.1.0)
          (subst (λ (t : RType). IsLedTo before x.zone x.name t) (sym same.1.1) x.led))))

pub can_unlead : AliasesCanLeave
can_unlead before after checks reports index made delta ref p name stands are_after allowed edits gone here slot is none_leads (q, (q_here, q_is)) =
    let none = names_none before after stands.are_zones are_after delta ref gone made allowed edits in
    let apart = λ (e : q.slot ≡ ref.slot).
    none q.set (subst (λ (n : ℕ). IsHere (placed_in after ref.zone) (record { slot = n; set = q.set })) e q_here) in
    let moves = moved before after stands.are_zones are_after made delta allowed edits gone.zone in
    let q_was : IsHere (placed_in before ref.zone) q = elim (moves.only ref.zone q q_here) [
      | inl was ↦ was
      | inr new ↦ absurd (is_none delta.added (ref_in ref.zone q) gone.added new)
    ] in
    let mine = led_alias before checks reports index stands ref.zone p name here is in
    let its = led_alias before checks reports index stands ref.zone q name q_was q_is.0 in
    let one = one_valve before stands.are_zones index.seats stands.net stands.own ref.zone name p.set.rtype its.members mine.members
    its.group mine.group (subst (λ (t : RType). AreMembers before ref.zone name t its.members) q_is.1 its.are) its.is mine.are mine.is in
    let size = stands.fits.laid.size in
    let within = mine.within in
    let its_within = its.within in (
      mine.valve,
      record {
        gone = none;
        seat = ap (seat_of index.seats) (sym slot) ∙ mine.seat;
        none = ap (group_seat index.seats) (sym slot) ∙ no_group before checks reports index stands ref.zone p here none_leads;
        within = omega (arith, size, within);
        shared = λ net own fits x late fed.
            let other = fits.laid.size in
            let is_group = mine.only x late (fed_in_both index.valves net stands.net own stands.own fits stands.fits x mine.valve
            (omega (arith, size, other, within)) fed) in
            let feeds = subst (λ (g : ℕ). Feeds stands.net g its.valve) (one ∙ sym is_group) its.fed in (
              its.valve,
              (
                λ e. apart (stands.told.sets q.slot p.slot mine.valve (its.seat ∙ ap suc e) mine.seat ∙ slot),
                (
                  omega (arith, size, other, its_within),
                  fed_in_both index.valves stands.net net stands.own own stands.fits fits x its.valve its_within feeds,
                ),
              ),
            );
      },
    )
