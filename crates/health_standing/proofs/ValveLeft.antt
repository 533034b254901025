-- A set with a valve of its own went, from a group without one: nothing feeds that valve any more.
use Rattle.std.proofs.Common.{◌≡◌, ◌≢◌, ℕ, true, List, [], ◌∷◌, arith, ap, sym, ◌∙◌, inl, inr}
use Rattle.std.proofs.lemmas.Bool.{cases_eq}
use mathlib.Core.Path.{subst}
use Rattle.check_model.specs.Checks.{Checks}
use Rattle.health_standing.proofs.GroupLeft.{own_there}
use Rattle.health_standing.proofs.Leading.{fed_alias, led_alias, one_group}
use Rattle.health_standing.proofs.ValveGone.{stays, valves_gone}
use Rattle.health_standing.specs.Index.{Index, IsOfOneGroup, Space, StandsFor}
use Rattle.health_standing.specs.Leaving.{Moves}
use Rattle.health_standing.specs.Regrouping.{IsSeatedIn}
use Rattle.health_standing.specs.Unfounding.{AreSeatedWithout}
use Rattle.health_standing.specs.Unleading.{LeavesValve}
use Rattle.health_model.specs.Sound.{IsSound}
use Rattle.health_model.specs.Statuses.{Report}
use Rattle.health_planning.specs.SetRefRecord.{SetRef}
use Rattle.health_planning.specs.Tables.{HaveSlotsApart}
use Rattle.health_planning.specs.Wired.{IsLedTo, seat_of, watched_of}
use Rattle.health_planning.specs.Zones.{AreZones, Zone, placed_in}
use Rattle.health_planning.specs.declared.seats.Seat.{Seat}
use Rattle.health_valves.proofs.Cuts.{ends_now, here, there}
use Rattle.health_valves.specs.Pass.{IsIdle, MeetAll}
use Rattle.health_valves.specs.Valves.{Feeds, ValvesStandFor, unfed_condition, with_condition, with_own}
use Rattle.health_valves.specs.declared.valves.Valves.{Valves}
use Rattle.record_set.specs.declared.sets.Body.TheVariants as body
use Rattle.zone_model.specs.Slotted.{IsHere, Slotted}

module _ (before after : List Zone) (checks : Checks) (reports : List Report) (index : Index)
    (stands : StandsFor before checks reports index) (are_after : AreZones after)
    (slots_after : HaveSlotsApart after) (sound : IsSound (watched_of after checks))
    (removed added : List SetRef) (moves : Moves before after removed added) (ref : SetRef)
    (is_removed : removed ≡ ref ∷ []) (is_added : added ≡ [])
    (v : ℕ) (leaves : LeavesValve after index.seats index.valves ref v)
    (now : List Seat) (moved : IsSeatedIn ref.slot 0 index.seats now) where
  abbrev seats : List Seat
  seats = index.seats

  still : (zone : ℕ) (p : Slotted) → IsHere (placed_in before zone) p → p.slot ≢ ref.slot
      → IsHere (placed_in after zone) p
  still = stays before after checks reports index stands removed added moves ref is_removed is_added v leaves.gone leaves.seat leaves.none

  -- no seat tells less of a group
  seated : AreSeatedWithout ref.slot 0 seats now
  seated = record {
    set = moved.set;
    none = moved.group_is;
    others = λ s apart. (moved.others s apart).0;
    gone = λ s apart none. (moved.others s apart).1 ∙ none;
    groups = λ s apart some. (moved.others s apart).1;
  }

  -- ---- an alias leads to each group still

  led_still : (valve : ℕ) (x : IsOfOneGroup before seats valve) → IsLedTo after x.zone x.name x.rtype
  led_still valve x = by x.led.0 x.led.1.0 x.led.1.1.0 x.led.1.1.1
    where
      by : (p : Slotted) → IsHere (placed_in before x.zone) p → p.set.body ≡ body.Alias x.name true
          → p.set.rtype ≡ x.rtype → IsLedTo after x.zone x.name x.rtype
      by p here_was is types = elim (cases_eq p.slot ref.slot) [
        | inr apart ↦ (p, (still x.zone p here_was apart, (is, types)))
        | inl e ↦
            let led = led_alias before checks reports index stands x.zone p x.name here_was is in
            let its = led.seat in
            let mine = ap (seat_of seats) (sym e) ∙ its in
            let gone = leaves.seat in
            let same : led.valve ≡ v = omega (arith, mine, gone) in
            let y = leaves.shared stands.net stands.own stands.fits led.group led.is.behind (subst (Feeds stands.net led.group) same led.fed) in
            let other = fed_alias before checks reports index stands led.group y.0 led.is.seat.0 led.is.seat.1.1 led.is.behind y.1.1.0 y.1.1.1 in
            let q = other.p in
            let apart = λ (k : q.slot ≡ ref.slot).
            let one = ap (seat_of seats) (sym k) ∙ other.seat in
            y.1.0 (omega (arith, one, gone)) in
            let names = one_group before checks reports index stands led.group x.zone other.zone x.name other.name p.set.rtype q.set.rtype
            led.members other.members led.are led.is other.are other.is in (
              q,
              (
                subst (λ (z : ℕ). IsHere (placed_in after z) q) names.0 (still other.zone q other.here apart),
                (other.alias ∙ ap (λ (n : List (List ℕ)). body.Alias n true) names.1.0, names.1.1 ∙ types),
              ),
            )
      ]

  pub unled : (valves : Valves) (space : Space)
      → ValvesStandFor (with_condition v unfed_condition stands.net) (with_own v 0 stands.own) valves
      → MeetAll (with_condition v unfed_condition stands.net) (with_own v 0 stands.own) valves → IsIdle valves
      → StandsFor after checks reports (record index { seats = now; members = index.members; valves = valves; space = space })
  unled valves space fits meet idle =
      valves_gone before after checks reports index stands removed added moves ref is_removed is_added v leaves.gone leaves.seat leaves.none
      are_after slots_after sound now 0 seated (with_condition v unfed_condition stands.net).condition (with_own v 0 stands.own)
      (λ n apart stay. there stands.net stands.own v n apart) (λ n apart stay. own_there v 0 stands.own n apart)
      (here stands.net stands.own v)
      (λ n e. let no : ⊥ = cc in absurd no) (λ n e. let no : ⊥ = cc in absurd no) (λ n y e. let no : ⊥ = cc in absurd no)
      (λ valve stay x. led_still valve x) valves space fits (ends_now stands.net stands.own v stands.ends) meet idle
