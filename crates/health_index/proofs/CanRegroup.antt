-- What an index has where one set came into a target group, or went from one.
use Rattle.std.proofs.Common.{◌≡◌, ◌≢◌, ◌≤◌, ◌<◌, ◌^◌, ℕ, zero, suc, Bool, true, false, List, [], ◌∷◌, length, arith, refl, ap, sym, ◌∙◌, inl, inr, Some}
use Rattle.std.specs.List.{AllByRecursion, filter}
use Rattle.std.specs.Prelude.{cond, slice_get}
use Rattle.std.proofs.lemmas.Bool.{cases_eq, false≢true}
use Rattle.std.proofs.lemmas.List.{length-map}
use Rattle.std.proofs.Math.Seq.{take-length}
use mathlib.Core.Path.{subst}
use Rattle.check_model.specs.Checks.{Checks}
use Rattle.health_index.proofs.ByOne.{at_first}
use Rattle.health_index.proofs.GroupLeft.{is_none, is_one}
use Rattle.health_index.proofs.Moving.{got_of_all, moved, none_there}
use Rattle.health_index.proofs.Regrouped.{watched_on}
use Rattle.health_index.specs.Index.{Index, StandsFor}
use Rattle.health_index.specs.Laws.{SetsCanJoin, SetsCanLeave}
use Rattle.health_index.specs.Leaving.{Moves}
use Rattle.health_index.specs.Regrouping.{HasCome, HasGone, JoinsGroup, TellNoOther}
use Rattle.health_model.specs.Statuses.{Report}
use Rattle.health_planning.proofs.Few.{few_placed, few_plain, own_among}
use Rattle.health_planning.proofs.ListedOnce.{one_ref, slot_below}
use Rattle.health_planning.proofs.MembersOfZoneList.{filled, in_all, set_in}
use Rattle.health_planning.proofs.Wiring.{first_here, in_members, of_group}
use Rattle.health_planning.specs.Changes.{Changes, ref_in}
use Rattle.health_planning.specs.DeltaRecord.{Delta}
use Rattle.health_planning.specs.Edits.{Edits, IsAllowed}
use Rattle.health_planning.specs.Looking.{RefersTo}
use Rattle.health_planning.specs.SetRefRecord.{SetRef}
use Rattle.health_planning.specs.Tables.{HaveSlotsApart, HaveSlotsBelow}
use Rattle.health_planning.specs.Telling.{evaluates}
use Rattle.health_planning.specs.Wired.{AreMembers, IsGroupValve, IsLedTo, IsTarget, group_seat, is_watched, own_part, plain, plain_among, seat_of, set_seat}
use Rattle.health_planning.specs.ZoneEditRecord.{ZoneEdit}
use Rattle.health_planning.specs.ZoneEditRecord.TheVariants as edit
use Rattle.health_planning.specs.Zones.{AreZones, Zone, placed_in}
use Rattle.health_planning.specs.declared.seats.Seat.{Seat}
use Rattle.health_valves.specs.Valves.{Net, ValvesStandFor, size_of}
use Rattle.rdata_layout.specs.declared.types.RType.{RType}
use Rattle.record_set.specs.Sets.{key_of}
use Rattle.record_set.specs.declared.sets.Body.{Body}
use Rattle.record_set.specs.declared.sets.Body.TheVariants as body
use Rattle.record_set.specs.declared.sets.RecordSet.{RecordSet}
use Rattle.record_set.specs.declared.sets.SetKey.{SetKey}
use Rattle.zone_model.specs.Placing.{IsThere}
use Rattle.zone_model.specs.Slotted.{HaveOwnSlots, IsHere, Slotted, sets_of}
use Rattle.zone_model.specs.Zones.{IsAmong, is_of_group}

-- ---- the group to which an evaluated alias leads

pub record HasLed (zones : List Zone) (seats : List Seat) (net : Net) (own : ℕ → ℕ) (zone : ℕ)
    (name : List (List ℕ)) (rtype : RType) : Type 0 where
  pub members : List Slotted
  pub are : AreMembers zones zone name rtype members
  pub valve : ℕ
  pub is : IsGroupValve seats net own members valve

module _ (zones : List Zone) (checks : Checks) (reports : List Report) (index : Index)
    (stands : StandsFor zones checks reports index) where
  of_target : (zone : ℕ) (name : List (List ℕ)) (rtype : RType) (its : Body) (target : List ℕ)
      → its ≡ body.Alias name true → IsTarget zones index.seats stands.net stands.own zone rtype its target
      → HasLed zones index.seats stands.net stands.own zone name rtype
  of_target zone name rtype its target same is =
      by (subst (λ (b : Body). IsTarget zones index.seats stands.net stands.own zone rtype b target) same is)
    where
      by : IsTarget zones index.seats stands.net stands.own zone rtype (body.Alias name true) target
          → HasLed zones index.seats stands.net stands.own zone name rtype
      by (inl off_by) = absurd (false≢true (sym off_by.0))
      by (inr (on, (valve, is, (members, are, w)))) =
          record { members = members; are = are; valve = valve; is = w }

  pub led_group : (zone : ℕ) (name : List (List ℕ)) (rtype : RType) → IsLedTo zones zone name rtype
      → HasLed zones index.seats stands.net stands.own zone name rtype
  led_group zone name rtype (p, (here, is)) =
      let on = ap evaluates is.0 in
      elim ((stands.wired.its_sets zone p here).valved (watched_on p.set on)) [
        | inl alone ↦ absurd (false≢true (sym alone.1.0.0 ∙ on))
        | inr v ↦
            of_target zone name rtype p.set.body v.2.target is.0
            (subst (λ (t : RType). IsTarget zones index.seats stands.net stands.own zone t p.set.body v.2.target) is.1 v.2.its_target)
      ]

  -- what is counted from outside is kept, so that it is one number
  one_own : (net : Net) (own : ℕ → ℕ) → ValvesStandFor net own index.valves → (valve : ℕ)
      → valve < stands.net.size → own valve ≡ stands.own valve
  one_own net own fits valve within =
      let first = fits.laid.size in
      let second = stands.fits.laid.size in
      sym (fits.owned.each valve (omega (arith, first, second, within))) ∙ stands.fits.owned.each valve within

  pub rows_there : (valve : ℕ) → valve < stands.net.size → valve < size_of index.valves
  rows_there valve within = let size = stands.fits.laid.size in omega (arith, size, within)

plain_some : (seats : List Seat) (members : List Slotted) (p : Slotted) → IsHere members p
    → seat_of seats p.slot ≡ 0 → 1 ≤ plain_among seats members
plain_some seats [] p m none = absurd m
plain_some seats (q ∷ members) p (inl same) none =
    let one : plain (seat_of seats q.slot) ≡ 1 = ap (λ (x : Slotted). plain (seat_of seats x.slot)) same ∙ ap plain none in
    omega (arith, one)
plain_some seats (q ∷ members) p (inr later) none =
    let rest = plain_some seats members p later none in omega (arith, rest)

-- ---- the set that went

module _ (before after : List Zone) (are_before : AreZones before) (are_after : AreZones after)
    (delta : Delta) (ref : SetRef) (gone : HasGone delta ref) where
  by_change : (zone : ℕ) (remove : List SetKey) (add : List RecordSet) → delta.zone ≡ zone
      → Changes zone (placed_in before zone) remove add delta.removed delta.added (placed_in after zone)
      → (named : RecordSet) → RefersTo after ref named → ⊥
  by_change zone remove add is changes named names =
      let removed = gone.removed in
      let many = changes.as_many_removed in
      let one = ap length removed in
      let key = filled remove 0 (omega (arith, many, one)) in
      let p = changes.goes 0 key.0 key.1 in
      let ref_is : ref_in zone p.0 ≡ ref = some_same (sym p.3 ∙ at_first delta.removed ref removed) in
      let zone_is : zone ≡ ref.zone = ap (λ (r : SetRef). r.zone) ref_is in
      let slot_is : p.0.slot ≡ ref.slot = ap (λ (r : SetRef). r.slot) ref_is in
      let q : Slotted = record { slot = ref.slot; set = named } in
      let here : IsHere (placed_in after zone) q = subst (λ (z : ℕ). IsHere (placed_in after z) q) (sym zone_is) names in
      elim (changes.only q here) [
        | inl old ↦
            let keys = (changes.slots p.0 q p.1 here).1 slot_is in
            old.1 (subst (IsAmong remove) (sym p.2 ∙ keys) (first_in remove key.0 key.1))
        | inr new ↦ is_none delta.added (ref_in zone q) gone.added (new.0, new.2)
      ]
    where
      some_same : {X : Type 0} {x y : X} → Some x ≡ Some y → x ≡ y
      some_same e = cc

      first_in : (xs : List SetKey) (x : SetKey) → slice_get xs 0 ≡ Some x → IsAmong xs x
      first_in [] x at = let no : ⊥ = cc in absurd no
      first_in (y ∷ xs) x at = inl (some_same at)

  pub names_none : (made : ZoneEdit) → IsAllowed before made → Edits before made after delta
      → (named : RecordSet) → RefersTo after ref named → ⊥
  names_none (edit.Begin zone name sets) allowed edits named names =
      let many = edits.its.1.as_many_removed in
      let one = ap length gone.removed in
      absurd (omega (arith, many, one))
  names_none (edit.End zone) allowed edits named names =
      let at = at_first delta.removed ref gone.removed in
      let g = got_of_all zone (placed_in before zone) 0 ref (subst (λ (l : List SetRef). slice_get l 0 ≡ Some ref) edits.its.1 at) in
      let zone_is : zone ≡ ref.zone = ap (λ (r : SetRef). r.zone) g.2 in
      subst (λ (l : List Slotted). IsHere l (record { slot = ref.slot; set = named }))
      (ap (placed_in after) (sym zone_is) ∙ none_there after zone edits.its.0) names
  names_none (edit.Change zone remove add) allowed edits named names =
      by_change zone remove add edits.zone edits.its.1 named names
  names_none (edit.Collections now) allowed edits named names = absurd (gone.zone edits.zone)

pub can_leave : SetsCanLeave
can_leave before after checks reports index made delta ref p stands are_after allowed edits gone here slot off led =
    let g = led_group before checks reports index stands ref.zone p.set.name p.set.rtype led in
    let w = g.is in
    let m = in_members before stands.are_zones ref.zone p.set.name p.set.rtype g.members p g.are here refl refl in
    let bare = (stands.wired.its_sets ref.zone p here).plain off in
    let some = plain_some index.seats g.members p m (ap own_part bare) in
    let its = w.its_own in (
      g.valve,
      record {
        gone = names_none before after stands.are_zones are_after delta ref gone made allowed edits;
        bare = ap (set_seat index.seats) (sym slot) ∙ bare;
        seat = ap (group_seat index.seats) (sym slot) ∙ w.each p m;
        within = rows_there before checks reports index stands g.valve w.within;
        some = λ net own fits.
            let one = one_own before checks reports index stands net own fits g.valve w.within in
            omega (arith, one, its, some);
      },
    )

-- ---- the set that came

length_most : {X : Type 0} (f : X → Bool) (xs : List X) → length (filter f xs) ≤ length xs
length_most f [] = omega arith
length_most f (x ∷ xs) = by (f x) (length_most f xs)
  where
    by : (b : Bool) → length (filter f xs) ≤ length xs → length (cond b (x ∷ filter f xs) (filter f xs)) ≤ suc (length xs)
    by true few = omega (arith, few)
    by false few = omega (arith, few)

module _ (before after : List Zone) (checks : Checks) (reports : List Report) (index : Index)
    (stands : StandsFor before checks reports index) (are_after : AreZones after)
    (slots_after : HaveSlotsApart after) (delta : Delta) (ref : SetRef) (come : HasCome delta ref)
    (set : RecordSet) (names : RefersTo after ref set) (made : ZoneEdit) (allowed : IsAllowed before made)
    (edits : Edits before made after delta) where
  pub moves : Moves before after delta.removed delta.added
  moves = moved before after stands.are_zones are_after made delta allowed edits come.zone

  pub still_here : (zone : ℕ) (p : Slotted) → IsHere (placed_in before zone) p → IsHere (placed_in after zone) p
  still_here zone p here = elim (moves.stays zone p here) [
    | inl told ↦ absurd (is_none delta.removed (ref_in zone p) come.removed told)
    | inr there ↦ there
  ]

  -- no set of the zone stood in the slot
  free_by : (zone : ℕ) (remove : List SetKey) (add : List RecordSet)
      → Changes zone (placed_in before zone) remove add delta.removed delta.added (placed_in after zone)
      → AllByRecursion (λ x. IsThere (sets_of (placed_in before zone)) (key_of x) → IsAmong remove (key_of x)) add
      → (p : Slotted) → IsHere (placed_in before ref.zone) p → p.slot ≡ ref.slot → ⊥
  free_by zone remove add changes new p here slot =
      let many = changes.as_many_added in
      let one = ap length come.added in
      let x = filled add 0 (omega (arith, many, one)) in
      let c = changes.comes 0 x.0 x.1 in
      let ref_is : record { zone = zone; slot = c.0 } ≡ ref = some_same (sym c.1 ∙ at_first delta.added ref come.added) in
      let zone_is : zone ≡ ref.zone = ap (λ (r : SetRef). r.zone) ref_is in
      let slot_is : c.0 ≡ ref.slot = ap (λ (r : SetRef). r.slot) ref_is in
      let was : IsHere (placed_in before zone) p = subst (λ (z : ℕ). IsHere (placed_in before z) p) (sym zone_is) here in
      let keys = (changes.slots p (record { slot = c.0; set = x.0 }) was c.2).1 (slot ∙ sym slot_is) in
      let key = in_all (λ (y : RecordSet). IsThere (sets_of (placed_in before zone)) (key_of y) → IsAmong remove (key_of y)) add x.0 new (first_among add x.0 x.1)
      (p.set, record { there = set_in (placed_in before zone) p was; same_key = keys }) in
      none_among remove (key_of x.0) (changes.as_many_removed) (ap length come.removed) key
    where
      some_same : {X : Type 0} {x y : X} → Some x ≡ Some y → x ≡ y
      some_same e = cc

      first_among : (xs : List RecordSet) (x : RecordSet) → slice_get xs 0 ≡ Some x → IsAmong xs x
      first_among [] x at = let no : ⊥ = cc in absurd no
      first_among (y ∷ xs) x at = inl (some_same at)

      none_among : (keys : List SetKey) (key : SetKey) → length delta.removed ≡ length keys → length delta.removed ≡ 0
          → IsAmong keys key → ⊥
      none_among [] key many none m = m
      none_among (k ∷ keys) key many none m = omega (arith, many, none)

  free_in : (made : ZoneEdit) → IsAllowed before made → Edits before made after delta → (p : Slotted)
      → IsHere (placed_in before ref.zone) p → p.slot ≡ ref.slot → ⊥
  free_in (edit.Begin zone name sets) allowed edits p here slot =
      let c = edits.its.1 in
      let many = c.as_many_added in
      let one = ap length come.added in
      let x = filled sets 0 (omega (arith, many, one)) in
      let d = c.comes 0 x.0 x.1 in
      let zone_is : zone ≡ ref.zone = ap (λ (r : SetRef). r.zone) (same_ref (sym d.1 ∙ at_first delta.added ref come.added)) in
      subst (λ (l : List Slotted). IsHere l p) (ap (placed_in before) (sym zone_is) ∙ none_there before zone allowed.0) here
    where
      same_ref : {x y : SetRef} → Some x ≡ Some y → x ≡ y
      same_ref e = cc
  free_in (edit.End zone) allowed edits p here slot =
      let none = ap length edits.its.2 in
      let one = ap length come.added in
      omega (arith, none, one)
  free_in (edit.Change zone remove add) allowed edits p here slot =
      let z = allowed.0 in
      free_by zone remove add edits.its.1 (allowed.1 z.0.apex (z.0, z.1, z.2, refl)).new p here slot
  free_in (edit.Collections now) allowed edits p here slot = absurd (come.zone edits.zone)

  -- nor did one of another zone
  free_slot : (zone : ℕ) (p : Slotted) → IsHere (placed_in before zone) p → p.slot ≢ ref.slot
  free_slot zone p here slot =
      let there = still_here zone p here in
      let one = one_ref after (ref_in zone p) ref p.set set slots_after there names slot in
      let zone_is : zone ≡ ref.zone = ap (λ (r : SetRef). r.zone) one in
      free_in made allowed edits p (subst (λ (z : ℕ). IsHere (placed_in before z) p) zone_is here) slot

  pub bare_seat : set_seat index.seats ref.slot ≡ 0
  bare_seat = elim (cases_eq (set_seat index.seats ref.slot) 0) [
    | inl none ↦ none
    | inr some ↦
        let h = stands.told.here ref.slot some in
        absurd (free_slot h.0.zone (record { slot = h.0.slot; set = h.1.0 }) h.1.1.0 h.1.1.1)
  ]

  pub no_group : group_seat index.seats ref.slot ≡ 0
  no_group = by (group_seat index.seats ref.slot) refl
    where
      by : (n : ℕ) → group_seat index.seats ref.slot ≡ n → group_seat index.seats ref.slot ≡ 0
      by zero e = e
      by (suc h) e =
          let y = stands.told.groups ref.slot h e in
          let q = y.only ref.slot e in
          absurd (free_slot y.zone q.0 (y.are.here q.0 q.1) q.2)

  pub was_here : (zone : ℕ) (p : Slotted) → IsHere (placed_in after zone) p → p.slot ≢ ref.slot → IsHere (placed_in before zone) p
  was_here zone p here apart = elim (moves.only zone p here) [
    | inl was ↦ was
    | inr new ↦ absurd (apart (ap (λ (r : SetRef). r.slot) (is_one delta.added ref (ref_in zone p) come.added new)))
  ]

  few_members : HaveSlotsBelow before (2 ^ 29) → (members : List Slotted) (zone : ℕ) (name : List (List ℕ))
      (rtype : RType) → AreMembers before zone name rtype members → length members ≤ 2 ^ 29
  few_members below members zone name rtype are =
      let placed = placed_in before zone in
      let all = take-length placed in
      let own : HaveOwnSlots placed = subst HaveOwnSlots all (own_among before zone 0 (length placed) stands.are_zones.each) in
      let few = few_placed placed (2 ^ 29) own (λ p here. slot_below before (2 ^ 29) (ref_in zone p) p.set below here) in
      let first = ap length are.sets in
      let second = length_most (is_of_group name rtype) (sets_of placed) in
      let third = length-map members (λ (p : Slotted). p.set) in
      let fourth = length-map placed (λ (p : Slotted). p.set) in
      omega (arith, few, first, second, third, fourth)

  pub can_join_here : HaveSlotsBelow before (2 ^ 29) → is_watched set ≡ false → IsLedTo before ref.zone set.name set.rtype
      → (valve : ℕ) × (JoinsGroup after index.seats index.valves ref valve
      × TellNoOther after index.seats ref.zone set.name set.rtype valve)
  can_join_here below off led =
      let g = led_group before checks reports index stands ref.zone set.name set.rtype led in
      let w = g.is in
      let q = first_here g.members w.seat.0 w.seat.1.0 in
      let here = g.are.here q.0 q.1 in
      let n = of_group (sets_of (placed_in before ref.zone)) set.name set.rtype q.0.set
      (subst (λ (l : List RecordSet). IsAmong l q.0.set) g.are.sets (set_in g.members q.0 q.1)) in
      let its = w.its_own in
      let plains = few_plain index.seats g.members in
      let few = few_members below g.members ref.zone set.name set.rtype g.are in (
        g.valve,
        (
          record {
            set = set;
            names = names;
            off = off;
            bare = bare_seat;
            none = no_group;
            group = record {
              member = q.0;
              here = still_here ref.zone q.0 here;
              name_is = n.0;
              rtype_is = n.1;
              tells = w.each q.0 q.1;
            };
            within = rows_there before checks reports index stands g.valve w.within;
            few = λ net own fits.
                let one = one_own before checks reports index stands net own fits g.valve w.within in
                omega (arith, one, its, plains, few);
          },
          λ p p_here name_is rtype_is. elim (cases_eq p.slot ref.slot) [
            | inl slot ↦ inl (ap (group_seat index.seats) slot ∙ no_group)
            | inr apart ↦
                inr (w.each p (in_members before stands.are_zones ref.zone set.name set.rtype g.members p g.are
                (was_here ref.zone p p_here apart) name_is rtype_is))
          ],
        ),
      )

pub can_join : SetsCanJoin
can_join before after checks reports index made delta ref set stands are_after slots_after allowed edits below come names off led =
    can_join_here before after checks reports index stands are_after slots_after delta ref come set names made allowed edits below off led
