-- Seats by which valves are planned anew: each set is seated by the check that alone decides it, or nothing.
use Rattle.std.proofs.Common.{◌≡◌, ◌≢◌, ◌⊎◌, ℕ, suc, Bool, true, false, List, refl, ap, sym, ◌∙◌, inl, inr, Some}
use Rattle.std.specs.Prelude.{slice_get}
use Rattle.std.proofs.lemmas.Bool.{false≢true}
use mathlib.Core.Path.{subst}
use Rattle.check_model.specs.Checks.{Checks}
use Rattle.check_model.specs.declared.checks.Check.{Check}
use Rattle.health_index.proofs.Alone.{HasOwn, HasTold, early_in, own_or_told}
use Rattle.health_index.proofs.Moving.{of_parts, slot_or_not}
use Rattle.health_index.specs.Following.{HaveTheirValves}
use Rattle.health_index.specs.Index.{Index, StandsFor}
use Rattle.health_index.specs.Leaving.{Moves}
use Rattle.health_model.specs.Sound.{IsSound}
use Rattle.health_model.specs.Statuses.{Report}
use Rattle.health_planning.proofs.Built.{checks_there}
use Rattle.health_planning.proofs.ListedOnce.{one_ref}
use Rattle.health_planning.proofs.Told.{tells_on}
use Rattle.health_planning.specs.Building.{AllTell, AreAsked, AreSeatedAnew, IsBuilt, HoldsSet, TellSlot, TellsCheck, TellsOn}
use Rattle.health_planning.specs.Changes.{ref_in}
use Rattle.health_planning.specs.SetRefRecord.{SetRef}
use Rattle.health_planning.specs.Tables.{HaveSlotsApart}
use Rattle.health_planning.specs.Wired.{ids_of, seat_of, set_seat, valve_with, watched_of}
use Rattle.health_planning.specs.Zones.{Zone, placed_in}
use Rattle.health_planning.specs.declared.seats.Seat.{Seat}
use Rattle.health_valves.specs.declared.blueprint.Feeding.{Feeding}
use Rattle.health_valves.specs.declared.blueprint.Trigger.{Trigger}
use Rattle.zone_model.specs.Slotted.{IsHere, Slotted}

-- ---- after planning

module _ (zones : List Zone) (list : List (ℕ × Check)) (numbers : List ℕ) (refs : List SetRef)
    (seated seats : List Seat) (triggers : List Trigger) (links : List Feeding)
    (apart : HaveSlotsApart zones)
    (built : IsBuilt zones list numbers refs seats triggers links)
    (rest : (slot : ℕ) → TellSlot refs slot ⊎ TellsOn seated seats slot) where
  pub tell_all : (ids : List ℕ) → ((zone : ℕ) (p : Slotted) → IsHere (placed_in zones zone) p
      → TellsCheck ids numbers seated p) → AllTell zones ids numbers refs seats
  tell_all ids tells zone p here = elim (rest p.slot) [
    | inl told ↦
        let g = built.sets told.0 told.1.0 told.1.1.0 in
        let one = one_ref zones told.1.0 (ref_in zone p) g.named p.set apart g.names here told.1.1.1 in
        inl (told.0, told.1.1.0 ∙ ap Some one)
    | inr on ↦ inr (tells_on ids numbers seated seats p on (tells zone p here))
  ]

  pub taken_all : ((slot : ℕ) → set_seat seated slot ≢ 0 → HoldsSet zones slot) → (slot : ℕ)
      → set_seat seats slot ≢ 0 → HoldsSet zones slot
  taken_all taken slot some = elim (rest slot) [
    | inl told ↦
        let g = built.sets told.0 told.1.0 told.1.1.0 in
        (told.1.0, (g.named, (g.names, told.1.1.1)))
    | inr on ↦ taken slot (λ none. some (on.0 ∙ none))
  ]

-- ---- an index that stood for something

module _ (before after : List Zone) (old new : Checks) (reports : List Report) (index : Index)
    (stands : StandsFor before old reports index) (sound : IsSound (watched_of after new))
    (gone came : List SetRef) (moves : Moves before after gone came) (numbers : List ℕ)
    (seats : List Seat) (whole : Bool)
    (kept : whole ≡ false → HaveTheirValves index.ids index.numbers (ids_of new.list) numbers)
    (anew : AreSeatedAnew after (ids_of new.list) numbers whole index.refs gone came index.seats seats) where
  seat_was : (zone : ℕ) (p : Slotted) → IsHere (placed_in before zone) p
      → HasOwn before (ids_of old.list) index.numbers index.seats stands.net stands.own zone p
      ⊎ HasTold (ids_of old.list) index.numbers index.seats p
  seat_was zone p here =
      own_or_told before (ids_of old.list) index.numbers index.seats stands.net stands.own
      (early_in before old index.numbers stands.numbers stands.sound) zone p here (stands.wired.its_sets zone p here)

  pub asked : AreAsked after whole index.refs came
  asked zone p here on = elim (moves.only zone p here) [
    | inl was ↦ elim (seat_was zone p was) [
      | inl own ↦ inr (inl (stands.listed zone own.valve p was own.seat))
      | inr told ↦ absurd (false≢true (sym told.off ∙ on))
    ]
    | inr new_one ↦ inr (inr new_one)
  ]

  -- a set that was seated by a check that keeps its valve
  renumbered : whole ≡ false → (zone : ℕ) (p : Slotted) → IsHere (placed_in before zone) p
      → IsHere (placed_in after zone) p → TellsCheck (ids_of old.list) index.numbers index.seats p
      → TellsCheck (ids_of new.list) numbers index.seats p
  renumbered off zone p was here tells = record {
    plain = tells.plain;
    alone = λ id alone.
        let a = tells.alone id alone in
        let place = checks_there before old stands.sound (record { zone = zone; slot = p.slot }) p.set id was alone.1 in
        let place_now = checks_there after new sound (record { zone = zone; slot = p.slot }) p.set id here alone.1 in
        let same = kept off place.0 place_now.0 id (ap (λ (l : List ℕ). slice_get l place.0) stands.ids ∙ place.1) place_now.1 in
        let ids_same = ap (λ (l : List ℕ). valve_with l index.numbers id) stands.ids in
        (a.0, a.1 ∙ ap suc (sym (same ∙ ids_same)));
  }

  -- one that was there, and whose seat told no valve of its own
  kept_here : whole ≡ false → (zone : ℕ) (p : Slotted) → IsHere (placed_in before zone) p
      → IsHere (placed_in after zone) p → seat_of index.seats p.slot ≡ 0
      → TellsCheck (ids_of old.list) index.numbers index.seats p
      → TellsCheck (ids_of new.list) numbers seats p
  kept_here off zone p was here none tells = elim (slot_or_not gone p.slot) [
    | inl told ↦
        let ref = told.1.0 in
        let q : Slotted = record { slot = ref.slot; set = p.set } in
        let x = moves.gone ref.zone q (told.0, told.1.1.0 ∙ ap Some (of_parts ref (ref_in ref.zone q) refl refl)) in
        let one = one_ref before (ref_in zone p) (ref_in ref.zone x.0) p.set x.0.set stands.slots was x.1 (sym told.1.1.1 ∙ sym x.2) in
        let zone_is : zone ≡ ref.zone = ap (λ (r : SetRef). r.zone) one in
        anew.told ref p (inr (inl (told.0, told.1.1.0))) (subst (λ (z : ℕ). IsHere (placed_in after z) p) zone_is here) (sym told.1.1.1)
    | inr apart ↦ anew.stays off zone p here none apart (renumbered off zone p was here tells)
  ]

  tells_part : whole ≡ false → (zone : ℕ) (p : Slotted) → IsHere (placed_in after zone) p
      → TellsCheck (ids_of new.list) numbers seats p
  tells_part off zone p here = elim (moves.only zone p here) [
    | inl was ↦ elim (seat_was zone p was) [
      | inl own ↦ anew.told (ref_in zone p) p (inl (stands.listed zone own.valve p was own.seat)) here refl
      | inr told ↦ kept_here off zone p was here told.none told.tells
    ]
    | inr new_one ↦ anew.told (ref_in zone p) p (inr (inr new_one)) here refl
  ]

  pub tells : (zone : ℕ) (p : Slotted) → IsHere (placed_in after zone) p
      → TellsCheck (ids_of new.list) numbers seats p
  tells = by whole refl
    where
      by : (b : Bool) → whole ≡ b → (zone : ℕ) (p : Slotted) → IsHere (placed_in after zone) p
          → TellsCheck (ids_of new.list) numbers seats p
      by true on = anew.all on
      by false off = tells_part off

  pub taken : (slot : ℕ) → set_seat seats slot ≢ 0 → HoldsSet after slot
  taken slot some = elim (anew.here slot some) [
    | inl there ↦ there
    | inr rest ↦
        let was = stands.told.here slot (λ none. some (rest.1.1.0 ∙ none)) in
        let ref = was.0 in
        let p : Slotted = record { slot = ref.slot; set = was.1.0 } in
        elim (moves.stays ref.zone p was.1.1.0) [
          | inl told ↦ absurd (rest.1.0 (told.0, (ref_in ref.zone p, (told.1, was.1.1.1))))
          | inr there ↦ (ref, (was.1.0, (there, was.1.1.1)))
        ]
  ]

-- ---- the same of other names for the lists

pub anew_for : (zones : List Zone) (list : List (ℕ × Check)) (ids numbers numbers_now : List ℕ) (whole : Bool)
    (refs refs_now gone came : List SetRef) (before after : List Seat) → ids ≡ ids_of list
    → numbers ≡ numbers_now → refs ≡ refs_now
    → AreSeatedAnew zones ids numbers whole refs gone came before after
    → AreSeatedAnew zones (ids_of list) numbers_now whole refs_now gone came before after
anew_for zones list ids numbers numbers_now whole refs refs_now gone came before after ids_are numbers_are refs_are is =
    subst (λ (l : List ℕ). AreSeatedAnew zones l numbers_now whole refs_now gone came before after) ids_are
    (subst (λ (l : List ℕ). AreSeatedAnew zones ids l whole refs_now gone came before after) numbers_are
    (subst (λ (l : List SetRef). AreSeatedAnew zones ids numbers whole l gone came before after) refs_are is))

pub kept_for : (ids ids_now numbers : List ℕ) (list list_now : List (ℕ × Check)) (numbers_now : List ℕ)
    → ids ≡ ids_now → list ≡ list_now → HaveTheirValves ids numbers (ids_of list) numbers_now
    → HaveTheirValves ids_now numbers (ids_of list_now) numbers_now
kept_for ids ids_now numbers list list_now numbers_now ids_are list_is kept =
    subst (λ (l : List ℕ). HaveTheirValves l numbers (ids_of list_now) numbers_now) ids_are
    (subst (λ (l : List (ℕ × Check)). HaveTheirValves ids numbers (ids_of l) numbers_now) list_is kept)

-- where all sets are seated, each seat that tells something is that of a set
pub taken_whole : (zones : List Zone) (ids numbers : List ℕ) (whole : Bool) (refs gone came : List SetRef)
    (before after : List Seat) → AreSeatedAnew zones ids numbers whole refs gone came before after
    → whole ≡ true → (slot : ℕ) → set_seat after slot ≢ 0 → HoldsSet zones slot
taken_whole zones ids numbers whole refs gone came before after anew on slot some = elim (anew.here slot some) [
  | inl there ↦ there
  | inr rest ↦ absurd (false≢true (sym rest.0 ∙ on))
]
