-- Sets that are listed one after another, each with a valve of its own.
use Rattle.std.proofs.Common.{◌≡◌, ◌≢◌, ◌<◌, ◌≤◌, ◌+◌, ℕ, zero, suc, Bool, true, false, cond, List, [], ◌∷◌, ◌++◌, length, length-append, set, get_or, get_or-set_same, get_or-set_other, arith, refl, ap, sym, ◌∙◌, inl, inr, Some}
use Rattle.std.specs.Prelude.{◌==◌, slice_get}
use Rattle.std.proofs.lemmas.Bool.{cases_eq, false≢true, ne_eqb, lt-leb}
use Rattle.std.proofs.lemmas.Option.{get_or_from_slice_get, slice_get_read}
use mathlib.Core.Path.{subst}
use Rattle.health_planning.proofs.Lists.{in_more}
use Rattle.health_valves.specs.declared.blueprint.Trigger.{Trigger}
use Rattle.record_set.specs.declared.sets.RecordSet.{RecordSet}
use Rattle.policy_select.specs.Changes.{ref_in}
use Rattle.policy_select.specs.Zones.{Zone, IsOne, placed_in}
use Rattle.policy_select.specs.SetRefRecord.{SetRef}
use Rattle.zone_model.proofs.Among.{among_at}
use Rattle.zone_model.specs.Slotted.{IsHere, Slotted}
use Rattle.policy_select.specs.Looking.{IsSetAt, RefersTo}
use Rattle.policy_select.specs.Tables.{HaveSlotsApart, HaveSlotsBelow}
use Rattle.health_planning.specs.Building.{HaveOwnValves, HasSetValve, IsListed, set_trigger}
use Rattle.health_planning.specs.Wired.{check_seat, group_seat, is_watched, only_check, seat_of, own_part, set_seat}
use Rattle.health_planning.specs.declared.seats.Seat.{Seat}

-- an element stays where one more comes
pub still_at : {X : Type 0} (xs : List X) (x y : X) (n : ℕ) → slice_get xs n ≡ Some y
    → slice_get (xs ++ x ∷ []) n ≡ Some y
still_at [] x y n e = let no : ⊥ = cc in absurd no
still_at (z ∷ xs) x y zero e = e
still_at (z ∷ xs) x y (suc n) e = still_at xs x y n e

pub last_at : {X : Type 0} (xs : List X) (x : X) (n : ℕ) → n ≡ length xs
    → slice_get (xs ++ x ∷ []) n ≡ Some x
last_at [] x zero e = refl
last_at [] x (suc n) e = absurd (omega arith)
last_at (z ∷ xs) x zero e = absurd (omega arith)
last_at (z ∷ xs) x (suc n) e = last_at xs x n (omega arith)

-- the zone of a set that stands in the zone of a number
pub its_zone : (zones : List Zone) (id : ℕ) (p : Slotted) → IsHere (placed_in zones id) p
    → (zone : Zone) × (IsOne zones zone × (zone.id ≡ id) × IsHere zone.placed p)
its_zone [] id p here = absurd here
its_zone (zone ∷ zones) id p here = by (zone.id == id) refl here (its_zone zones id p)
  where
    by : (b : Bool) → (zone.id == id) ≡ b
        → IsHere (cond b zone.placed (placed_in zones id)) p
        → (IsHere (placed_in zones id) p
        → (other : Zone) × (IsOne zones other × (other.id ≡ id) × IsHere other.placed p))
        → (other : Zone) × (IsOne (zone ∷ zones) other × (other.id ≡ id) × IsHere other.placed p)
    by true e is rest = (zone, (inl refl, same e, is))
      where
        same : (zone.id == id) ≡ true → zone.id ≡ id
        same t = elim (cases_eq zone.id id) [
          | inl is ↦ is
          | inr apart ↦ absurd (false≢true (sym (ne_eqb zone.id id apart) ∙ t))
        ]
    by false e is rest = let r = rest is in (r.0, (inr r.1.0, r.1.1, r.1.2))

-- references with one slot are one
pub one_ref : (zones : List Zone) (one other : SetRef) (a b : RecordSet) → HaveSlotsApart zones
    → RefersTo zones one a → RefersTo zones other b → one.slot ≡ other.slot → one ≡ other
one_ref zones one other a b apart first second same =
    let z = its_zone zones one.zone (record { slot = one.slot; set = a }) first in
    let y = its_zone zones other.zone (record { slot = other.slot; set = b }) second in
    let ids = apart z.0 y.0 (record { slot = one.slot; set = a }) (record { slot = other.slot; set = b }) z.1.0 y.1.0 z.1.2 y.1.2 same in
    of_parts one other (sym z.1.1 ∙ ids ∙ y.1.1) same
  where
    of_parts : (one other : SetRef) → one.zone ≡ other.zone → one.slot ≡ other.slot → one ≡ other
    of_parts one other a b = ap (λ (p : ℕ × ℕ). record { zone = p.0; slot = p.1 }) (pair a b)
      where
        pair : {i j m n : ℕ} → i ≡ j → m ≡ n → ◌≡◌ {A = ℕ × ℕ} (i, m) (j, n)
        pair e f = cc

pub seat_here : (seats : List Seat) (slot : ℕ) (s : Seat) → slot < length seats
    → set_seat (set seats slot s) slot ≡ s.set
seat_here seats slot s within = ap (λ (x : Seat). x.set) (get_or-set_same seats slot s _ within)

pub check_here : (seats : List Seat) (slot : ℕ) (s : Seat) → slot < length seats
    → check_seat (set seats slot s) slot ≡ s.check
check_here seats slot s within = ap (λ (x : Seat). x.check) (get_or-set_same seats slot s _ within)

pub check_beside : (seats : List Seat) (slot other : ℕ) (s : Seat) → other ≢ slot
    → check_seat (set seats slot s) other ≡ check_seat seats other
check_beside seats slot other s apart = ap (λ (x : Seat). x.check) (get_or-set_other seats slot other s _ apart)

pub seat_beside : (seats : List Seat) (slot other : ℕ) (s : Seat) → other ≢ slot
    → set_seat (set seats slot s) other ≡ set_seat seats other
seat_beside seats slot other s apart = ap (λ (x : Seat). x.set) (get_or-set_other seats slot other s _ apart)

-- a valve behind those of checks is a set's own
pub own_is : (seat : ℕ) → 200 < seat → own_part seat ≡ seat
own_is seat late = rw (lt-leb seat 200 late) refl

module _ (zones : List Zone) (first : ℕ) (before : List Seat) (refs : List SetRef)
    (seats : List Seat) (triggers : List Trigger) (ref : SetRef) (named : RecordSet) (valve : ℕ)
    (are : HaveOwnValves zones first before refs seats triggers) (names : RefersTo zones ref named)
    (watched : is_watched named ≡ true) (within : ref.slot < length seats)
    (empty : seat_of seats ref.slot ≡ 0) (is_valve : valve ≡ length triggers) where
  abbrev now : List Seat
  now = set seats ref.slot (record { set = valve + 1; group = 0; check = only_check named })

  -- a set that was listed has another slot
  old_valve : (k : ℕ) (other : SetRef) → slice_get refs k ≡ Some other
      → HasSetValve zones now (triggers ++ set_trigger named ∷ []) other (first + k)
  old_valve k other at =
      let g = are.valves k other at in
      let apart : other.slot ≢ ref.slot = λ same. let e : seat_of seats ref.slot ≡ suc (first + k) = ap (seat_of seats) (sym same) ∙ g.seat in let none =
      empty in omega arith in
      record {
        named = g.named;
        names = g.names;
        watched = g.watched;
        seat = ap own_part (seat_beside seats ref.slot other.slot _ apart) ∙ g.seat;
        told = check_beside seats ref.slot other.slot _ apart ∙ g.told;
        trigger = still_at triggers (set_trigger named) (set_trigger g.named) (first + k) g.trigger;
      }

  new_valve : (other : SetRef) (k : ℕ) → k ≡ length refs → other ≡ ref
      → HasSetValve zones now (triggers ++ set_trigger named ∷ []) other (first + k)
  new_valve other k at is =
      let size = are.size in
      let behind = are.behind in
      let late : 200 < valve + 1 = omega arith in
      rw is (record {
        named = named;
        names = names;
        watched = watched;
        seat = ap own_part (seat_here seats ref.slot _ within) ∙ own_is (valve + 1) late ∙ omega arith;
        told = check_here seats ref.slot _ within;
        trigger = last_at triggers (set_trigger named) (first + k) (omega arith);
      })

  pub listed_more : HaveOwnValves zones first before (refs ++ ref ∷ []) now (triggers ++ set_trigger named ∷ [])
  listed_more =
      let size = are.size in
      let longer = length-append triggers (set_trigger named ∷ []) in
      let more = length-append refs (ref ∷ []) in
      let behind = are.behind in
      let late : 200 < valve + 1 = omega arith in
      record {
        behind = are.behind;
        size = omega arith;
        valves = λ k other at. elim (in_more refs ref other k at) [
          | inl old ↦ old_valve k other old
          | inr new ↦ new_valve other k new.0 new.1
        ];
        only = λ slot g is. elim (cases_eq slot ref.slot) [
          | inl same ↦
              let here = ap own_part (seat_here seats ref.slot (record { set = valve + 1; group = 0; check = only_check named }) within) ∙ own_is (valve + 1) late in
              let now_is : seat_of now ref.slot ≡ suc g = ap (seat_of now) (sym same) ∙ is in
              let n : g ≡ first + length refs = omega arith in
              (length refs, (ref, n, last_at refs ref (length refs) refl, sym same))
          | inr apart ↦
              let old = are.only slot g (sym (ap own_part (seat_beside seats ref.slot slot _ apart)) ∙ is) in
              (old.0, (old.1.0, old.1.1, still_at refs ref old.1.0 old.0 old.1.2, old.1.3))
        ];
        others = λ slot. elim (cases_eq slot ref.slot) [
          | inl same ↦ inl (length refs, (ref, (last_at refs ref (length refs) refl, sym same)))
          | inr apart ↦ elim (are.others slot) [
            | inl told ↦ inl (told.0, (told.1.0, (still_at refs ref told.1.0 told.0 told.1.1.0, told.1.1.1)))
            | inr same ↦ inr (
              seat_beside seats ref.slot slot _ apart ∙ same.0,
              check_beside seats ref.slot slot _ apart ∙ same.1,
            )
          ]
        ];
        no_group = λ slot. elim (cases_eq slot ref.slot) [
          | inl same ↦ ap (group_seat now) same ∙ ap (λ (x : Seat). x.group)
              (get_or-set_same seats ref.slot (record { set = valve + 1; group = 0; check = only_check named }) (record { set = 0; group = 0; check = 0 })
              within)
          | inr apart ↦ ap (λ (x : Seat). x.group) (get_or-set_other seats ref.slot slot (record { set = valve + 1; group = 0; check = only_check named })
              (record { set = 0; group = 0; check = 0 }) apart) ∙ are.no_group slot
        ];
      }

-- a set whose slot has a valve is listed
pub listed_already : (zones : List Zone) (first : ℕ) (before : List Seat) (refs : List SetRef) (seats : List Seat)
    (triggers : List Trigger) (ref : SetRef) (named : RecordSet)
    → HaveOwnValves zones first before refs seats triggers → HaveSlotsApart zones → RefersTo zones ref named
    → (seat_of seats ref.slot ≢ 0) → IsListed refs ref
listed_already zones first before refs seats triggers ref named are apart names some =
    by (seat_of seats ref.slot) refl
  where
    by : (n : ℕ) → seat_of seats ref.slot ≡ n → IsListed refs ref
    by zero e = absurd (some e)
    by (suc valve) e =
        let o = are.only ref.slot valve e in
        let g = are.valves o.0 o.1.0 o.1.2 in
        let same = one_ref zones o.1.0 ref g.named named apart g.names names o.1.3 in
        (o.0, o.1.2 ∙ ap Some same)

-- the seat that was read
pub seat_is : (seats : List Seat) (slot : ℕ) (s : Seat) → slot < length seats
    → s ≡ get_or seats slot s → s.set ≡ set_seat seats slot
seat_is seats slot s within is =
    ap (λ (x : Seat). x.set) (sym (get_or_from_slice_get seats slot s _
    (slice_get_read seats (length seats) slot s refl within is)))

-- what is told of the set at a place
pub record IsTold (zones : List Zone) (zone i : ℕ) (ref : SetRef) : Type 0 where
  pub set : RecordSet
  pub names : RefersTo zones ref set
  pub its : (p : Slotted) → slice_get (placed_in zones zone) i ≡ Some p
      → (p.set ≡ set) × (ref_in zone p ≡ ref)

some_same : {X : Type 0} {x y : X} → Some x ≡ Some y → x ≡ y
some_same e = cc

pub told_at : (zones : List Zone) (zone i : ℕ) (ref : SetRef) → IsSetAt zones zone i (Some ref)
    → IsTold zones zone i ref
told_at zones zone i ref (its_zone, (set, at)) = record {
  set = set;
  names = subst (λ (z : ℕ). IsHere (placed_in zones z) (record { slot = ref.slot; set = set })) (sym its_zone)
      (among_at (placed_in zones zone) i (record { slot = ref.slot; set = set }) at);
  its = λ p is.
      let same : p ≡ record { slot = ref.slot; set = set } = some_same (sym is ∙ at) in
      (ap (λ (q : Slotted). q.set) same, ap (ref_in zone) same ∙ ap (λ (z : ℕ). record { zone = z; slot = ref.slot }) (sym its_zone));
}

pub slot_below : (zones : List Zone) (slots : ℕ) (ref : SetRef) (set : RecordSet)
    → HaveSlotsBelow zones slots → RefersTo zones ref set → ref.slot < slots
slot_below zones slots ref set below names =
    let z = its_zone zones ref.zone (record { slot = ref.slot; set = set }) names in
    below z.0 (record { slot = ref.slot; set = set }) z.1.0 z.1.2

-- a zone that has a set is one of those up to the last
pub up_to : (zones : List Zone) (id zone : ℕ) (p : Slotted)
    → ((z : Zone) → IsOne zones z → z.id ≤ zone) → IsHere (placed_in zones id) p → id ≤ zone
up_to zones id zone p all here =
    let z = its_zone zones id p here in
    let b = all z.0 z.1.0 in
    let e = z.1.1 in
    omega arith

pub group_is : (seats : List Seat) (slot : ℕ) (s : Seat) → slot < length seats
    → s ≡ get_or seats slot s → s.group ≡ group_seat seats slot
group_is seats slot s within is =
    ap (λ (x : Seat). x.group) (sym (get_or_from_slice_get seats slot s _
    (slice_get_read seats (length seats) slot s refl within is)))
