-- The last evaluated alias that led to a group went: nothing feeds its valve any more, nor that of the group.
use Rattle.std.proofs.Common.{◌≡◌, ◌≢◌, ℕ, suc, true, List, [], ◌∷◌, arith, ap, sym, ◌∙◌, inl, inr}
use Rattle.std.proofs.lemmas.Bool.{cases_eq}
use mathlib.Core.Path.{subst}
use Rattle.check_model.specs.Checks.{Checks}
use Rattle.health_standing.proofs.GroupLeft.{own_there}
use Rattle.health_standing.proofs.Leading.{LeadsTo, leads_of, led_alias}
use Rattle.health_standing.proofs.ValveGone.{stays, valves_gone, went}
use Rattle.health_standing.specs.Index.{Index, IsOfOneGroup, Space, StandsFor}
use Rattle.health_standing.specs.Leaving.{Moves}
use Rattle.health_standing.specs.Unfounding.{AreSeatedWithout, LeavesLast}
use Rattle.health_model.specs.Sound.{IsSound}
use Rattle.health_model.specs.Statuses.{Report}
use Rattle.health_planning.proofs.Wiring.{first_here, member_there}
use Rattle.health_planning.specs.SetRefRecord.{SetRef}
use Rattle.health_planning.specs.Tables.{HaveSlotsApart}
use Rattle.health_planning.specs.Wired.{AreMembers, IsLedTo, seat_of, watched_of}
use Rattle.health_planning.specs.Zones.{AreZones, Zone, placed_in}
use Rattle.health_planning.specs.declared.seats.Seat.{Seat}
use Rattle.health_valves.proofs.Cuts.{ends_now, here, there}
use Rattle.health_valves.specs.Pass.{IsIdle, MeetAll}
use Rattle.health_valves.specs.Valves.{Feeds, IsSoleFeeder, Net, ValvesStandFor, unfed_condition, with_condition, with_own}
use Rattle.health_valves.specs.declared.valves.Valves.{Valves}
use Rattle.rdata_layout.specs.declared.types.RType.{RType}
use Rattle.record_set.specs.declared.sets.Body.TheVariants as body
use Rattle.zone_model.specs.Slotted.{IsHere, Slotted}

module _ (before after : List Zone) (checks : Checks) (reports : List Report) (index : Index)
    (stands : StandsFor before checks reports index) (removed added : List SetRef)
    (moves : Moves before after removed added) (ref : SetRef)
    (is_removed : removed ≡ ref ∷ []) (is_added : added ≡ [])
    (v g : ℕ) (leaves : LeavesLast after index.seats index.valves ref v g) where
  abbrev seats : List Seat
  seats = index.seats

  abbrev net : Net
  net = stands.net

  sole : IsSoleFeeder net v 200 g
  sole = leaves.sole stands.net stands.own stands.fits

  -- the set that went led to that group
  led : LeadsTo before seats net stands.own g v
  led =
      let w = went before after checks reports index stands removed added moves ref is_removed is_added v leaves.gone leaves.seat leaves.none in
      leads_of before checks reports index stands ref.zone w.0 g v w.1 (ap (seat_of seats) w.2 ∙ leaves.seat) sole.late sole.feeds

  -- an alias leads to each other group still
  led_still : (valve : ℕ) → suc valve ≢ suc g → (x : IsOfOneGroup before seats valve) → IsLedTo after x.zone x.name x.rtype
  led_still valve other x = by x.led.0 x.led.1.0 x.led.1.1.0 x.led.1.1.1
    where
      by : (p : Slotted) → IsHere (placed_in before x.zone) p → p.set.body ≡ body.Alias x.name true
          → p.set.rtype ≡ x.rtype → IsLedTo after x.zone x.name x.rtype
      by p here_was is types = elim (cases_eq p.slot ref.slot) [
        | inr apart ↦ (
          p,
          (
            stays before after checks reports index stands removed added moves ref is_removed is_added v leaves.gone leaves.seat leaves.none
                x.zone p here_was apart,
            (is, types),
          ),
        )
        | inl e ↦
            let l = led_alias before checks reports index stands x.zone p x.name here_was is in
            let its = l.seat in
            let mine = ap (seat_of seats) (sym e) ∙ its in
            let gone = leaves.seat in
            let same : l.valve ≡ v = omega (arith, mine, gone) in
            let group : g ≡ l.group = l.only g sole.late (subst (Feeds net g) (sym same) sole.feeds) in
            let members = subst (λ (t : RType). AreMembers before x.zone x.name t l.members) types l.are in
            let first = first_here l.members l.is.seat.0 l.is.seat.1.0 in
            let there = member_there before stands.are_zones x.zone x.name x.rtype l.members x.members first.0 members first.1 x.are in
            absurd (other (sym (x.each first.0 there) ∙ l.is.each first.0 first.1 ∙ ap suc (sym group)))
      ]

  -- ---- two valves that nothing feeds

  abbrev once : Net
  once = with_condition v unfed_condition stands.net

  abbrev once_own : ℕ → ℕ
  once_own = with_own v 0 stands.own

  abbrev twice : Net
  twice = with_condition g unfed_condition once

  abbrev twice_own : ℕ → ℕ
  twice_own = with_own g 0 once_own

  there_still : (n : ℕ) → n ≢ v → suc n ≢ suc g → twice.condition n ≡ stands.net.condition n
  there_still n apart other = there once once_own g n (λ e. other (ap suc e)) ∙ there stands.net stands.own v n apart

  own_still : (n : ℕ) → n ≢ v → suc n ≢ suc g → twice_own n ≡ stands.own n
  own_still n apart other = own_there g 0 once_own n (λ e. other (ap suc e)) ∙ own_there v 0 stands.own n apart

  here_now : twice.condition v ≡ unfed_condition
  here_now = elim (cases_eq v g) [
    | inl e ↦ ap twice.condition e ∙ here once once_own g
    | inr apart ↦ there once once_own g v apart ∙ here stands.net stands.own v
  ]

  is_it : (n : ℕ) → suc n ≡ suc g → n ≡ g
  is_it n e = omega (arith, e)

  pub unfounded : AreZones after → HaveSlotsApart after → IsSound (watched_of after checks) → (now : List Seat)
      → AreSeatedWithout ref.slot (suc g) seats now → (valves : Valves) (space : Space)
      → ValvesStandFor twice twice_own valves → MeetAll twice twice_own valves → IsIdle valves
      → StandsFor after checks reports (record index { seats = now; members = index.members; valves = valves; space = space })
  unfounded are_after slots_after sound now moved valves space fits meet idle =
      valves_gone before after checks reports index stands removed added moves ref is_removed is_added v leaves.gone leaves.seat leaves.none
      are_after slots_after sound now (suc g) moved twice.condition twice_own there_still own_still here_now
      (λ n e. let late = sole.late in let same = is_it n e in
      (omega (arith, late, same), ap twice.condition (is_it n e) ∙ here once once_own g))
      (λ n e. (led.is.seat.0, led.is.seat.1.1 ∙ sym e))
      (λ n y e within fed. sole.alone y within (subst (λ (m : ℕ). Feeds stands.net m y) (is_it n e) fed))
      led_still valves space fits (ends_now once once_own g (ends_now stands.net stands.own v stands.ends)) meet idle
