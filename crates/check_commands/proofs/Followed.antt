-- What is known of sets that name checks, once the slots of some are looked at again.
use Rattle.std.proofs.Common.{◌≡◌, ◌≢◌, ◌<◌, ◌≤◌, ◌+◌, ℕ, zero, suc, Bool, true, false, cond, List, [], ◌∷◌, length, map, ap, sym, ◌∙◌, refl, subst, arith, inl, inr, Option, None, Some}
use Rattle.std.specs.Prelude.{◌⊎◌, option_map, slice_get, unwrap_or}
use Rattle.std.proofs.lemmas.Bool.{cases_eq, cases_lt}
use Rattle.std.proofs.lemmas.List.{length-map}
use Rattle.std.proofs.lemmas.Option.{slice_get-map, slice_get_within}
use Rattle.config_zones.specs.DeltaRecord.{Delta}
use Rattle.config_zones.specs.Edits.{Edits, IsAllowed, zone_of}
use Rattle.config_zones.specs.Found.{IsNextZone}
use Rattle.config_zones.specs.Tables.{HaveSlotsApart}
use Rattle.config_zones.specs.ZoneEditRecord.{ZoneEdit}
use Rattle.config_zones.specs.Zones.{AreZones, IsOne, Zone, placed_in}
use Rattle.zone_model.proofs.Among.{place_of}
use Rattle.zone_model.specs.Slotted.{IsHere, Slotted}
use Rattle.check_commands.specs.Counts.{told_at}
use Rattle.check_commands.specs.Uses.{AreUses, AreUsesTo, IsOneOf, KnowsUses, LooksAt, TellsCheck, slot_in}
use Rattle.check_commands.proofs.Looked.{its_zone, none_at_start, up_to}
use Rattle.check_commands.proofs.Moves.{Moves, elsewhere, moves, slots}

-- a slot is of one zone
pub apart_here : (zones : List Zone) → HaveSlotsApart zones → (one other : ℕ) (p q : Slotted)
    → IsHere (placed_in zones one) p → IsHere (placed_in zones other) q → p.slot ≡ q.slot
    → one ≡ other
apart_here zones apart one other p q here there same =
    let y = its_zone zones one p here in
    let z = its_zone zones other q there in
    sym y.2 ∙ (apart y.0 z.0 p q y.1 z.1 y.3 z.3 same ∙ z.2)

-- ---- one slot after another

-- the same of the first slots
abbrev pub LooksTo : List Zone → (zone : ℕ) → (slots : List ℕ) → (i : ℕ) → (before after : List ℕ)
    → Type 0
LooksTo zones zone slots i before after = (slot : ℕ)
    → (((k : ℕ) × (k < i) × (slice_get slots k ≡ Some slot))
    × TellsCheck zones (record { zone = zone; slot = slot }) (told_at after slot))
    ⊎ (((k : ℕ) → k < i → slice_get slots k ≡ Some slot → ⊥)
    × (told_at after slot ≡ told_at before slot))

some_same : {X : Type 0} {x y : X} → Some x ≡ Some y → x ≡ y
some_same e = cc

module _ (zones : List Zone) (zone : ℕ) (slots : List ℕ) (before : List ℕ) where
  pub looks_none : LooksTo zones zone slots 0 before before
  looks_none slot = inr (λ k less at. absurd (omega (arith, less)), refl)

  pub looks_more : (i : ℕ) (so_far now : List ℕ) (next : ℕ) → slice_get slots i ≡ Some next
      → LooksTo zones zone slots i before so_far
      → TellsCheck zones (record { zone = zone; slot = next }) (told_at now next)
      → ((other : ℕ) → other ≢ next → told_at now other ≡ told_at so_far other)
      → LooksTo zones zone slots (i + 1) before now
  looks_more i so_far now next at looks told others slot = elim (cases_eq slot next) [
    | inl is ↦ inl (
      (i, omega arith, at ∙ ap Some (sym is)),
      subst (λ (n : ℕ). TellsCheck zones (record { zone = zone; slot = n }) (told_at now n)) (sym is)
          told,
    )
    | inr apart ↦ elim (looks slot) [
      | inl done ↦ (let less = done.0.1 in inl (
        (done.0.0, omega (arith, less), done.0.2),
        subst (λ (n : ℕ). TellsCheck zones (record { zone = zone; slot = slot }) n)
            (sym (others slot apart)) done.1,
      ))
      | inr left ↦ inr (
        λ k less is. elim (cases_lt k i) [
          | inl early ↦ left.0 k early is
          | inr late ↦
              let last : k ≡ i = omega (arith, less, late) in
              apart (some_same (sym is ∙ (ap (slice_get slots) last ∙ at)))
        ],
        others slot apart ∙ left.1,
      )
    ]
  ]

  pub looks_all : (i : ℕ) (after : List ℕ)
      → ((k slot : ℕ) → slice_get slots k ≡ Some slot → k < i)
      → LooksTo zones zone slots i before after → LooksAt zones zone slots before after
  looks_all i after all looks slot = elim (looks slot) [
    | inl done ↦ inl ((done.0.0, done.0.2), done.1)
    | inr left ↦ inr (λ one. left.0 one.0 (all one.0 slot one.1) one.1, left.1)
  ]

-- ---- an edit

module _ (before after : List Zone) (are : AreZones before) (apart : HaveSlotsApart before)
    (are_after : AreZones after) (apart_after : HaveSlotsApart after) (delta : Delta)
    (made : ZoneEdit) (allowed : IsAllowed before made) (edits : Edits before made after delta) where
  abbrev zone : ℕ
  zone = zone_of made

  abbrev went : List ℕ
  went = slots delta.removed

  abbrev came : List ℕ
  came = slots delta.added

  its : Moves (placed_in before zone) (placed_in after zone) went came
  its = moves before after are delta made allowed edits

  other_zone : (id : ℕ) → id ≢ zone → (p : Slotted) → IsHere (placed_in after id) p
      → IsHere (placed_in before id) p
  other_zone id other p here = (elsewhere before after are delta made edits are_after id other p).1 here

  -- a set that stands in a slot that is told is of the zone
  of_zone : (id : ℕ) (p : Slotted) → IsHere (placed_in after id) p
      → IsOneOf went p.slot ⊎ IsOneOf came p.slot → id ≡ zone
  of_zone id p here (inr new) =
      let q = its.come p.slot new in
      apart_here after apart_after id zone p q.0 here q.1 (sym q.2)
  of_zone id p here (inl old) = elim (cases_eq id zone) [
    | inl is ↦ is
    | inr other ↦
        let q = its.gone p.slot old in
        apart_here before apart id zone p q.0 (other_zone id other p here) q.1 (sym q.2)
  ]

  -- of a slot that isn't told the set was there, and is
  was_here : (id : ℕ) (p : Slotted) → IsHere (placed_in after id) p → (IsOneOf came p.slot → ⊥)
      → IsHere (placed_in before id) p
  was_here id p here old = elim (cases_eq id zone) [
    | inl is ↦
        elim (its.from p (subst (λ (n : ℕ). IsHere (placed_in after n) p) is here)) [
          | inl was ↦ subst (λ (n : ℕ). IsHere (placed_in before n) p) (sym is) was
          | inr new ↦ absurd (old new)
        ]
    | inr other ↦ other_zone id other p here
  ]

  is_here : (id : ℕ) (p : Slotted) → IsHere (placed_in before id) p → (IsOneOf went p.slot → ⊥)
      → IsHere (placed_in after id) p
  is_here id p here stays = elim (cases_eq id zone) [
    | inl is ↦
        elim (its.to p (subst (λ (n : ℕ). IsHere (placed_in before n) p) is here)) [
          | inl now ↦ subst (λ (n : ℕ). IsHere (placed_in after n) p) (sym is) now
          | inr gone ↦ absurd (stays gone)
        ]
    | inr other ↦ (elsewhere before after are delta made edits are_after id other p).0 here
  ]

  module _ (old mid new : List ℕ) (first : LooksAt after delta.zone went old mid)
      (second : LooksAt after delta.zone came mid new) where
    -- a slot that was looked at, or another
    abbrev Looked : ℕ → Type 0
    Looked slot =
        ((IsOneOf went slot ⊎ IsOneOf came slot)
        × TellsCheck after (record { zone = zone; slot = slot }) (told_at new slot))
        ⊎ ((IsOneOf went slot → ⊥) × (IsOneOf came slot → ⊥) × (told_at new slot ≡ told_at old slot))

    in_its : (slot n : ℕ) → TellsCheck after (record { zone = delta.zone; slot = slot }) n
        → TellsCheck after (record { zone = zone; slot = slot }) n
    in_its slot n told =
        subst (λ (z : ℕ). TellsCheck after (record { zone = z; slot = slot }) n) edits.zone told

    looked : (slot : ℕ) → Looked slot
    looked slot = elim (second slot) [
      | inl done ↦ inl (inr done.0, in_its slot (told_at new slot) done.1)
      | inr left ↦ elim (first slot) [
        | inl done ↦ inl (
          inl done.0,
          subst (λ (n : ℕ). TellsCheck after (record { zone = zone; slot = slot }) n) (sym left.1)
              (in_its slot (told_at mid slot) done.1),
        )
        | inr early ↦ inr (early.0, left.0, left.1 ∙ early.1)
      ]
    ]

    pub noted : AreUses old before → AreUses new after
    noted uses = record {
      each = λ ref named check names is. elim (looked ref.slot) [
        | inl done ↦
            let p : Slotted = record { slot = ref.slot; set = named } in
            let same = of_zone ref.zone p names done.0 in
            done.1.its named check (subst (λ (n : ℕ). IsHere (placed_in after n) p) same names) is
        | inr left ↦
            let p : Slotted = record { slot = ref.slot; set = named } in
            left.2 ∙ uses.each ref named check (was_here ref.zone p names left.1) is
      ];
      only = λ slot check told some. elim (looked slot) [
        | inl done ↦
            let named = done.1.only (λ none. some (sym told ∙ none)) in
            (zone, named.0, named.1, named.2 ∙ ap Some told)
        | inr left ↦
            let named = uses.only slot check (sym left.2 ∙ told) some in
            let p : Slotted = record { slot = slot; set = named.1 } in
            (named.0, named.1, is_here named.0 p named.2 left.0, named.3)
      ];
    }

pub still_lost : (lost : Bool) (old new : List ℕ) → (zones now : List Zone)
    → (AreUses old zones → AreUses new now)
    → KnowsUses (cond lost None (Some old)) zones → KnowsUses (cond lost None (Some new)) now
still_lost true old new zones now so knows = tt
still_lost false old new zones now so knows = so knows

-- ---- zones one after another

module _ (zones : List Zone) (apart : HaveSlotsApart zones) (last zone : ℕ)
    (next : IsNextZone zones last zone) (old new : List ℕ) (uses : AreUsesTo last old zones) where
  -- a zone that isn't behind the next one is that, or stands before it
  is_before : (id : ℕ) (p : Slotted) → IsHere (placed_in zones id) p → id ≤ zone → id ≢ zone
      → id ≤ last
  is_before id p here to other = elim (cases_lt last id) [
    | inl past ↦
        let z = its_zone zones id p here in
        let is = z.2 in
        let least = next.least z.0 z.1 (omega (arith, past, is)) in
        absurd (other (omega (arith, to, least, is)))
    | inr le ↦ le
  ]

  pub next_looked : (slots : List ℕ) → LooksAt zones zone slots old new
      → ((p : Slotted) → IsHere (placed_in zones zone) p → IsOneOf slots p.slot)
      → ((slot : ℕ) → IsOneOf slots slot → (p : Slotted) × IsHere (placed_in zones zone) p
      × (p.slot ≡ slot))
      → AreUsesTo zone new zones
  next_looked slots looks all of = record {
    each = λ ref named check to names is.
        let p : Slotted = record { slot = ref.slot; set = named } in
        elim (looks ref.slot) [
          | inl done ↦
              let q = of ref.slot done.0 in
              let same = apart_here zones apart ref.zone zone p q.0 names q.1 (sym q.2) in
              done.1.its named check (subst (λ (n : ℕ). IsHere (placed_in zones n) p) same names) is
          | inr left ↦
              let other : ref.zone ≢ zone = λ e.
              left.0 (all p (subst (λ (n : ℕ). IsHere (placed_in zones n) p) e names)) in
              left.1 ∙ uses.each ref named check (is_before ref.zone p names to other) names is
        ];
    only = λ slot check told some. elim (looks slot) [
      | inl done ↦
          let named = done.1.only (λ none. some (sym told ∙ none)) in
          (zone, named.0, named.1, named.2 ∙ ap Some told)
      | inr left ↦ uses.only slot check (sym left.1 ∙ told) some
    ];
  }

  -- of a zone of which no set names a check
  pub next_none : ((p : Slotted) (check : ℕ) → IsHere (placed_in zones zone) p
      → p.set.check ≡ Some check → ⊥) → old ≡ new → AreUsesTo zone new zones
  next_none none same = record {
    each = λ ref named check to names is.
        let p : Slotted = record { slot = ref.slot; set = named } in
        let other : ref.zone ≢ zone = λ e.
        none p check (subst (λ (n : ℕ). IsHere (placed_in zones n) p) e names) is in
        ap (λ (l : List ℕ). told_at l ref.slot) (sym same)
        ∙ uses.each ref named check (is_before ref.zone p names to other) names is;
    only = λ slot check told some.
        uses.only slot check (ap (λ (l : List ℕ). told_at l slot) same ∙ told) some;
  }

-- ---- what a set names

pub number_told : (check : Option ℕ) → unwrap_or check 0 ≢ 0 → check ≡ Some (unwrap_or check 0)
number_told None some = absurd (some refl)
number_told (Some n) some = refl

-- ---- sets of zones

module _ (zones : List Zone) (are : AreZones zones) where
  pub at_start : AreUsesTo 0 [] zones
  at_start = record {
    each = λ ref named check to names is.
        let numbered = none_at_start zones ref.zone (record { slot = ref.slot; set = named }) are names in
        absurd (omega (arith, numbered, to));
    only = λ slot check told some. absurd (some (sym told));
  }

  pub at_end : (last : ℕ) (list : List ℕ) → ((z : Zone) → IsOne zones z → z.id ≤ last)
      → AreUsesTo last list zones → AreUses list zones
  at_end last list all uses = record {
    each = λ ref named check names is.
        uses.each ref named check
        (up_to zones ref.zone last (record { slot = ref.slot; set = named }) all names) names is;
    only = uses.only;
  }

pub slot_at : (placed : List Slotted) (i : ℕ) (p : Slotted) → slice_get placed i ≡ Some p
    → slice_get (map slot_in placed) i ≡ Some p.slot
slot_at placed i p at = slice_get-map slot_in placed i ∙ ap (option_map slot_in) at

pub all_slots : (placed : List Slotted) (p : Slotted) → IsHere placed p
    → IsOneOf (map slot_in placed) p.slot
all_slots placed p here = let k = place_of placed p here in (k.0, slot_at placed k.0 p k.1)

slots_of : (placed : List Slotted) (slot i : ℕ) → slice_get (map slot_in placed) i ≡ Some slot
    → (p : Slotted) × IsHere placed p × (p.slot ≡ slot)
slots_of [] slot i at = absurd (grind (arith, at))
slots_of (p ∷ placed) slot zero at = (p, inl refl, some_same at)
slots_of (p ∷ placed) slot (suc i) at =
    let rest = slots_of placed slot i at in (rest.0, inr rest.1, rest.2)

pub of_slots : (placed : List Slotted) (slot : ℕ) → IsOneOf (map slot_in placed) slot
    → (p : Slotted) × IsHere placed p × (p.slot ≡ slot)
of_slots placed slot one = slots_of placed slot one.0 one.1

-- as many slots as are looked at
pub bound : {X : Type 0} (f : X → ℕ) (xs : List X) (n : ℕ) → length xs ≤ n → (k slot : ℕ)
    → slice_get (map f xs) k ≡ Some slot → k < n
bound f xs n le k slot at =
    let within = slice_get_within (map f xs) k slot at in
    let many = length-map xs f in
    omega (arith, within, many, le)
