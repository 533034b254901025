-- One more group gets a valve.
use Rattle.std.proofs.Common.{◌≡◌, ◌≢◌, ◌<◌, ◌≤◌, ◌+◌, ◌^◌, ◌⊎◌, add-one, ℕ, zero, suc, Bool, true, false, List, [], ◌∷◌, ◌++◌, append-nil, length, length-append, set, get_or-set_same, get_or-set_other, arith, refl, ap, sym, ◌∙◌, inl, inr}
use Rattle.std.specs.Prelude.{◌==◌, slice_index_or}
use Rattle.std.specs.List.{AllByRecursion}
use Rattle.std.proofs.lemmas.Bool.{cases_eq, cases_lt, eq-eqb, ne_eqb}
use Rattle.std.proofs.lemmas.Option.{slice_get_within}
use mathlib.Core.Path.{subst}
use Rattle.health_valves.specs.Blueprint.{feeders_in}
use Rattle.health_valves.specs.declared.blueprint.Feeding.{Feeding}
use Rattle.health_valves.specs.declared.blueprint.Trigger.{Trigger}
use Rattle.rdata_layout.specs.declared.types.RType.{RType}
use Rattle.policy_select.specs.Zones.{Zone}
use Rattle.zone_model.specs.Slotted.{IsHere, Slotted}
use Rattle.health_planning.specs.Building.{AreBelow, AreGrouped, AreSeated, AreWithin, HasGroupValve, HasTarget, SameSets, group_trigger, links_to}
use Rattle.health_planning.specs.Wired.{AreMembers, HasSlot, IsLedTo, TellGroup, valves_of, group_seat, check_seat, own_part, plain, plain_among, seat_of, set_seat, with_valve}
use Rattle.health_planning.specs.declared.seats.Seat.{Seat}
use Rattle.health_planning.proofs.ListedOnce.{last_at, still_at}

-- ---- feeders of links

pub feeders_more : (xs ys : List Feeding) (y : ℕ)
    → feeders_in (xs ++ ys) y ≡ feeders_in xs y ++ feeders_in ys y
feeders_more [] ys y = refl
feeders_more (x ∷ xs) ys y = step (x.fed == y) refl (feeders_more xs ys y)
  where
    step : (b : Bool) → (x.fed == y) ≡ b
        → feeders_in (xs ++ ys) y ≡ feeders_in xs y ++ feeders_in ys y
        → feeders_in (x ∷ (xs ++ ys)) y ≡ feeders_in (x ∷ xs) y ++ feeders_in ys y
    step true e r = rw e (ap (λ (l : List ℕ). x.feeder ∷ l) r)
    step false e r = rw e r

pub feeders_to : (valve : ℕ) (feeders : List ℕ) → feeders_in (links_to valve feeders) valve ≡ feeders
feeders_to valve [] = refl
feeders_to valve (x ∷ feeders) =
    rw (eq-eqb valve valve refl) (ap (λ (l : List ℕ). x ∷ l) (feeders_to valve feeders))

pub feeders_beside : (valve other : ℕ) (feeders : List ℕ) → valve ≢ other
    → feeders_in (links_to valve feeders) other ≡ []
feeders_beside valve other [] apart = refl
feeders_beside valve other (x ∷ feeders) apart =
    rw (ne_eqb valve other apart) (feeders_beside valve other feeders apart)

-- nothing feeds a valve that isn't there
pub none_feeds : (links : List Feeding) (n y : ℕ) → AreWithin links n → n ≤ y → feeders_in links y ≡ []
none_feeds [] n y within past = refl
none_feeds (x ∷ links) n y within past =
    rw (ne_eqb x.fed y (λ e. let b = within.0.1 in omega arith)) (none_feeds links n y within.1 past)

pub still_within : (links : List Feeding) (n m : ℕ) → n ≤ m → AreWithin links n → AreWithin links m
still_within [] n m more within = tt
still_within (x ∷ links) n m more within =
    let a = within.0.0 in
    let b = within.0.1 in
    ((omega arith, omega arith), still_within links n m more within.1)

pub within_more : (xs ys : List Feeding) (n : ℕ) → AreWithin xs n → AreWithin ys n → AreWithin (xs ++ ys) n
within_more [] ys n a b = b
within_more (x ∷ xs) ys n a b = (a.0, within_more xs ys n a.1 b)

pub to_within : (valve n : ℕ) (feeders : List ℕ) → valve < n → AllByRecursion (λ x. x < n) feeders
    → AreWithin (links_to valve feeders) n
to_within valve n [] below all = tt
to_within valve n (x ∷ feeders) below all = ((all.0, below), to_within valve n feeders below all.1)

pub valves_below : (seats : List Seat) (n : ℕ) → AreBelow seats n → (members : List Slotted)
    → AllByRecursion (λ x. x < n) (valves_of seats members)
valves_below seats n below [] = tt
valves_below seats n below (p ∷ members) =
    step (seat_of seats p.slot) refl (valves_of seats members) (valves_below seats n below members)
  where
    step : (seat : ℕ) → seat_of seats p.slot ≡ seat → (rest : List ℕ)
        → AllByRecursion (λ x. x < n) rest → AllByRecursion (λ x. x < n) (with_valve seat rest)
    step zero e rest all = all
    step (suc valve) e rest all = (below p.slot valve e, all)

-- ---- what hangs on the valves of sets alone

pub valves_same : (before after : List Seat) → SameSets before after → (members : List Slotted)
    → valves_of after members ≡ valves_of before members
valves_same before after same [] = refl
valves_same before after same (p ∷ members) =
    ap (λ (n : ℕ). with_valve (own_part n) (valves_of after members)) (same.valves p.slot)
    ∙ ap (with_valve (seat_of before p.slot)) (valves_same before after same members)

pub plain_same : (before after : List Seat) → SameSets before after → (members : List Slotted)
    → plain_among after members ≡ plain_among before members
plain_same before after same [] = refl
plain_same before after same (p ∷ members) =
    let r = plain_same before after same members in
    let e = ap (λ (n : ℕ). plain (own_part n)) (same.valves p.slot) in
    omega arith

-- ---- one more seat

module _ (seats : List Seat) (slot valve : ℕ) (within : slot < length seats) where
  abbrev no_one : Seat
  no_one = record { set = 0; group = 0; check = 0 }

  abbrev pub its_seat : Seat
  its_seat = record { set = set_seat seats slot; group = valve; check = check_seat seats slot }

  abbrev pub seated : List Seat
  seated = set seats slot its_seat

  -- a field of a seat is as it was where that of the new one is
  as_it_was : (field : Seat → ℕ) → field its_seat ≡ field (slice_index_or seats slot no_one)
      → (other : ℕ) → field (slice_index_or seated other no_one) ≡ field (slice_index_or seats other no_one)
  as_it_was field same_there other = elim (cases_eq other slot) [
    | inl same ↦
        ap (λ (n : ℕ). field (slice_index_or seated n no_one)) same
        ∙ ap field (get_or-set_same seats slot its_seat no_one within)
        ∙ same_there ∙ ap (λ (n : ℕ). field (slice_index_or seats n no_one)) (sym same)
    | inr apart ↦ ap field (get_or-set_other seats slot other its_seat no_one apart)
  ]

  pub same_sets : SameSets seats seated
  same_sets = record {
    valves = as_it_was (λ (x : Seat). x.set) refl;
    checks = as_it_was (λ (x : Seat). x.check) refl;
  }

  pub seat_now : group_seat seated slot ≡ valve
  seat_now = ap (λ (x : Seat). x.group) (get_or-set_same seats slot its_seat no_one within)

  pub group_beside : (other : ℕ) → other ≢ slot → group_seat seated other ≡ group_seat seats other
  group_beside other apart = ap (λ (x : Seat). x.group) (get_or-set_other seats slot other its_seat no_one apart)

-- ---- one more group

pub slot_or_not : (members : List Slotted) (slot : ℕ)
    → HasSlot members slot ⊎ (HasSlot members slot → ⊥)
slot_or_not [] slot = inr (λ m. m.1)
slot_or_not (p ∷ members) slot = elim (cases_eq p.slot slot) [
  | inl same ↦ inl (p, inl refl, same)
  | inr apart ↦ elim (slot_or_not members slot) [
    | inl m ↦ inl (m.0, inr m.1, m.2)
    | inr none ↦ inr (λ m. elim m.1 [
      | inl e ↦ apart (ap (λ (q : Slotted). q.slot) e ∙ m.2)
      | inr rest ↦ none (m.0, rest, m.2)
    ])
  ]
]

module _ (seats : List Seat) (triggers : List Trigger) (links : List Feeding) (valve : ℕ)
    (members : List Slotted) (below : AreBelow seats (length triggers))
    (links_within : AreWithin links (length triggers)) (is_valve : valve ≡ length triggers) where
  abbrev pub triggers_now : List Trigger
  triggers_now = triggers ++ group_trigger (plain_among seats members) ∷ []

  abbrev pub links_now : List Feeding
  links_now = links ++ links_to valve (valves_of seats members)

  pub within_now : AreWithin links_now (length triggers_now)
  within_now =
      let longer = length-append triggers (group_trigger (plain_among seats members) ∷ []) in
      within_more links (links_to valve (valves_of seats members)) (length triggers_now)
      (still_within links (length triggers) (length triggers_now) (omega arith) links_within)
      (to_within valve (length triggers_now) (valves_of seats members) (omega arith)
      (all_still (valves_of seats members) (length triggers) (length triggers_now) (omega arith) (valves_below seats (length triggers) below members)))
    where
      all_still : (xs : List ℕ) (n m : ℕ) → n ≤ m → AllByRecursion (λ x. x < n) xs → AllByRecursion (λ x. x < m) xs
      all_still [] n m more all = tt
      all_still (x ∷ xs) n m more all = let a = all.0 in (omega arith, all_still xs n m more all.1)

  pub feeders_now : (other : ℕ) → other < length triggers
      → feeders_in links_now other ≡ feeders_in links other
  feeders_now other early =
      feeders_more links (links_to valve (valves_of seats members)) other
      ∙ ap (λ (l : List ℕ). feeders_in links other ++ l) (feeders_beside valve other (valves_of seats members) (λ e. omega arith))
      ∙ append-nil (feeders_in links other)

  module _ (zones : List Zone) (zone : ℕ) (name : List (List ℕ)) (rtype : RType)
      (are : AreMembers zones zone name rtype members)
      (bare : (p : Slotted) → IsHere members p → group_seat seats p.slot ≡ 0)
      (one : Slotted) (in_one : IsHere members one) (few : plain_among seats members ≤ 2 ^ 31)
      (seats_now : List Seat) (sits : AreSeated members (valve + 1) seats seats_now) where
    -- a set that was seated is seated as it was
    pub stays : (other found : ℕ) → group_seat seats other ≡ suc found
        → group_seat seats_now other ≡ suc found
    stays other found is =
        sits.others other (λ m.
        let none = bare m.0 m.1 in
        let e = ap (group_seat seats) m.2 in
        omega arith)
        ∙ is

    tells : TellGroup seats_now members valve
    tells p m = sits.each p m ∙ add-one valve

    old_group : (other found : ℕ) → HasGroupValve zones seats triggers links other found
        → HasGroupValve zones seats_now triggers_now links_now other found
    old_group other found h =
        let b = slice_get_within triggers found (group_trigger (plain_among seats h.members)) h.trigger in
        let apart : valve ≢ found = λ e. omega arith in
        record {
          zone = h.zone;
          name = h.name;
          rtype = h.rtype;
          members = h.members;
          are = h.are;
          led = h.led;
          here = h.here;
          each = λ p m. stays p.slot found (h.each p m);
          only = λ slot is. elim (slot_or_not members slot) [
            | inl m ↦
                let its : group_seat seats_now slot ≡ suc valve = ap (group_seat seats_now) (sym m.2) ∙ tells m.0 m.1 in
                absurd (omega arith)
            | inr none ↦ h.only slot (sym (sits.others slot none) ∙ is)
          ];
          trigger = rw (plain_same seats seats_now sits.sets h.members) (still_at triggers (group_trigger (plain_among seats members))
              (group_trigger (plain_among seats h.members)) found h.trigger);
          few = rw (plain_same seats seats_now sits.sets h.members) h.few;
          fed = feeders_more links (links_to valve (valves_of seats members)) found
              ∙ ap (λ (l : List ℕ). feeders_in links found ++ l) (feeders_beside valve found (valves_of seats members) apart)
              ∙ append-nil (feeders_in links found) ∙ h.fed ∙ sym (valves_same seats seats_now sits.sets h.members);
        }

    pub new_fed : feeders_in links_now valve ≡ valves_of seats_now members
    new_fed =
        feeders_more links (links_to valve (valves_of seats members)) valve
        ∙ ap (λ (l : List ℕ). l ++ feeders_in (links_to valve (valves_of seats members)) valve) (none_feeds links (length triggers) valve links_within (omega arith))
        ∙ feeders_to valve (valves_of seats members) ∙ sym (valves_same seats seats_now sits.sets members)

    -- no seat told the new valve
    none_told : (from other : ℕ) → AreGrouped zones from seats triggers links
        → group_seat seats other ≡ suc valve → ⊥
    none_told from other grouped is =
        let g = (grouped.valves other valve is).1 in
        let b = slice_get_within triggers valve (group_trigger (plain_among seats g.members)) g.trigger in
        omega arith

    new_group : (from slot : ℕ) → IsLedTo zones zone name rtype
        → AreGrouped zones from seats triggers links → HasSlot members slot
        → HasGroupValve zones seats_now triggers_now links_now slot valve
    new_group from slot led grouped here = record {
      zone = zone;
      name = name;
      rtype = rtype;
      members = members;
      are = are;
      led = led;
      here = here;
      each = tells;
      only = λ other is. elim (slot_or_not members other) [
        | inl m ↦ m
        | inr none ↦ absurd (none_told from other grouped (sym (sits.others other none) ∙ is))
      ];
      trigger = rw (plain_same seats seats_now sits.sets members) (last_at triggers (group_trigger (plain_among seats members)) valve is_valve);
      few = rw (plain_same seats seats_now sits.sets members) few;
      fed = new_fed;
    }

    pub grouped_more : (from : ℕ) → from ≤ length triggers → IsLedTo zones zone name rtype
        → AreGrouped zones from seats triggers links
        → AreGrouped zones from seats_now triggers_now links_now
    grouped_more from least led grouped = record {
      valves = λ other found is. elim (slot_or_not members other) [
        | inl m ↦
            let its : group_seat seats_now other ≡ suc valve = ap (group_seat seats_now) (sym m.2) ∙ tells m.0 m.1 in
            let found_is : valve ≡ found = omega arith in
            (omega arith, subst (HasGroupValve zones seats_now triggers_now links_now other) found_is (new_group from other led grouped m))
        | inr none ↦
            let g = grouped.valves other found (sym (sits.others other none) ∙ is) in
            (g.0, old_group other found g.1)
      ];
      all = λ found past b.
          let longer = length-append triggers (group_trigger (plain_among seats members) ∷ []) in
          elim (cases_lt found (length triggers)) [
            | inl old ↦ (let o = grouped.all found past old in (o.0, stays o.0 found o.1))
            | inr new ↦ (one.slot, let now = tells one in_one in omega arith)
          ];
    }

-- no group has a valve yet
pub none_grouped : (zones : List Zone) (seats : List Seat) (triggers : List Trigger) (links : List Feeding)
    → ((slot : ℕ) → group_seat seats slot ≡ 0)
    → AreGrouped zones (length triggers) seats triggers links
none_grouped zones seats triggers links none = record {
  valves = λ slot valve is. let e = none slot in absurd (omega arith);
  all = λ valve past b. absurd (omega arith);
}

-- a target that has a valve keeps it
pub target_on : (zones : List Zone) (before after : List Seat) (zone : ℕ) (name : List (List ℕ))
    (rtype : RType)
    → ((slot valve : ℕ) → group_seat before slot ≡ suc valve → group_seat after slot ≡ suc valve)
    → HasTarget zones before zone name rtype → HasTarget zones after zone name rtype
target_on zones before after zone name rtype on t = record {
  members = t.members;
  are = t.are;
  slot = t.slot;
  first = t.first;
  valve = t.valve;
  seat = on t.slot t.valve t.seat;
}
