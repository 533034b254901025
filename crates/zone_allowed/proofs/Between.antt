-- A key is there where a set stands between those before it and those behind it.
use Rattle.std.proofs.Common.{◌≡◌, ◌≢◌, ℕ, zero, suc, ◌≤◌, Bool, true, false, cond, List, [], ◌∷◌}
use Rattle.std.proofs.Common.{Option, None, Some, length, refl, subst, sym, ap, ◌∙◌, inl, inr, arith}
use Rattle.std.specs.Prelude.{◌⊎◌, ◌==◌, ◌↔◌, IsTrue, not, option_map, slice_get}
use Rattle.std.specs.Ordering.{is_gt, is_lt}
use Rattle.std.specs.declared.cmp.Ordering.{Ordering}
use Rattle.std.specs.declared.cmp.Ordering.TheVariants.{Less, Equal, Greater}
use Rattle.std.specs.List.{AllByRecursion}
use Rattle.std.proofs.lemmas.Cmp.{tied_itself}
use Rattle.std.proofs.lemmas.Bool.{cases_eq}
use Rattle.std.proofs.lemmas.Option.{slice_get-map, slice_get_within}
use Rattle.zone_table.specs.SetsOfRecordSet.{key_of}
use Rattle.zone_table.specs.RecordSetRecord.{RecordSet}
use Rattle.zone_table.specs.SetKeyRecord.{SetKey}
use Rattle.zone_table.proofs.Lookups.{below_or_not, filled, key_between, past_itself}
use Rattle.zone_table.specs.Bounds.{is_before}
use Rattle.zone_table.specs.Found.{IsCount}
use Rattle.zone_table.specs.BoundRecord.{Bound}
use Rattle.zone_table.specs.BoundRecord.TheVariants as bound
use Rattle.zone_table.proofs.Members.{in_all}
use Rattle.zone_table.specs.Zones.{AreZones, StandsAlone, Zone, placed_in}
use Rattle.zone_table.specs.SetRefRecord.{SetRef}
use Rattle.zone_table.proofs.Among.{among_at, place_of}
use Rattle.zone_table.proofs.Ordered.{keys_total}
use Rattle.zone_table.specs.Keys.{key_cmp}
use Rattle.zone_table.specs.Slotted.{HaveOwnSlots, Slotted, sets_of}
use Rattle.zone_table.specs.Placing.{IsThere}
use Rattle.zone_table.specs.Looking.{IsNextSet}

-- ---- slots

own_in : (zones : List Zone) → AllByRecursion StandsAlone zones → (id : ℕ)
    → HaveOwnSlots (placed_in zones id)
own_in [] each id = tt
own_in (zone ∷ zones) each id = by (zone.id == id) (own_in zones each.1 id)
  where
    by : (b : Bool) → HaveOwnSlots (placed_in zones id)
        → HaveOwnSlots (cond b zone.placed (placed_in zones id))
    by true rest = each.0.sets.own
    by false rest = rest

one_place : (placed : List Slotted) → HaveOwnSlots placed → (i j : ℕ) (p q : Slotted)
    → slice_get placed i ≡ Some p → slice_get placed j ≡ Some q → p.slot ≡ q.slot → i ≡ j
one_place [] own i j p q at_p at_q same = absurd (grind (arith, at_p))
one_place (x ∷ placed) own zero zero p q at_p at_q same = refl
one_place (x ∷ placed) own zero (suc j) p q at_p at_q same =
    let e : x ≡ p = grind (arith, at_p) in
    absurd (in_all (λ (y : Slotted). x.slot ≢ y.slot) placed q own.0 (among_at placed j q at_q)
    (ap (λ (y : Slotted). y.slot) e ∙ same))
one_place (x ∷ placed) own (suc i) zero p q at_p at_q same =
    let e : x ≡ q = grind (arith, at_q) in
    absurd (in_all (λ (y : Slotted). x.slot ≢ y.slot) placed p own.0 (among_at placed i p at_p)
    (ap (λ (y : Slotted). y.slot) e ∙ sym same))
one_place (x ∷ placed) own (suc i) (suc j) p q at_p at_q same =
    ap suc (one_place placed own.1 i j p q at_p at_q same)

-- ---- bounds

-- what is told of a bound: its place, and the slot there
pub record IsTold (placed : List Slotted) (zone : ℕ) (to : Bound) (found : Option SetRef) : Type 0 where
  pub at : ℕ
  pub count : IsCount (sets_of placed) to at
  pub told : (found ≡ None × (at ≡ length placed))
      ⊎ ((p : Slotted) × (slice_get placed at ≡ Some p)
      × (found ≡ Some (record { zone = zone; slot = p.slot })))

told : (zones : List Zone) (zone : ℕ) (to : Bound) (found : Option SetRef)
    → IsNextSet zones zone to found → IsTold (placed_in zones zone) zone to found
told zones zone to None count = record {
  at = length (placed_in zones zone);
  count = count;
  told = inl (refl, refl);
}
told zones zone to (Some ref) (its_zone, (at, count, (set, there))) = record {
  at = at;
  count = count;
  told = inr (
    record { slot = ref.slot; set = set },
    there,
    ap (λ z. Some (record { zone = z; slot = ref.slot })) its_zone,
  );
}

abbrev its_slot : Option SetRef → ℕ
its_slot None = 0
its_slot (Some ref) = ref.slot

not_before_itself : (key : SetKey) (set : RecordSet) → key_of set ≡ key
    → is_before (bound.From key) set ≡ true → ⊥
not_before_itself key set same before =
    let tied = subst (λ k. key_cmp (key_of set) k ≡ Equal) same
    (tied_itself keys_total (key_of set)) in
    grind (arith, ap is_lt tied, before)

before_past : (key : SetKey) (set : RecordSet) → is_before (bound.From key) set ≡ true
    → is_before (bound.Past key) set ≡ true
before_past key set = by (key_cmp (key_of set) key)
  where
    by : (o : Ordering) → is_lt o ≡ true → not (is_gt o) ≡ true
    by Less e = refl
    by Equal e = absurd (grind (arith, e))
    by Greater e = absurd (grind (arith, e))

module _ (placed : List Slotted) (own : HaveOwnSlots placed) (zone : ℕ) (key : SetKey)
    (from past : Option SetRef) (start : IsTold placed zone (bound.From key) from)
    (end : IsTold placed zone (bound.Past key) past) where
  abbrev sets : List RecordSet
  sets = sets_of placed

  set_at : (i : ℕ) (p : Slotted) → slice_get placed i ≡ Some p → slice_get sets i ≡ Some p.set
  set_at i p at = slice_get-map (λ (q : Slotted). q.set) placed i
      ∙ ap (option_map (λ (q : Slotted). q.set)) at

  one : from ≡ past → start.at ≡ end.at
  one same = elim start.told [
    | inl none ↦ elim end.told [
      | inl none_too ↦ none.1 ∙ sym none_too.1
      | inr some ↦ absurd (grind (arith, none.0, some.2, same))
    ]
    | inr some ↦ elim end.told [
      | inl none ↦ absurd (grind (arith, none.0, some.2, same))
      | inr other ↦
          let slots : some.0.slot ≡ other.0.slot =
          ap its_slot (sym some.2 ∙ (same ∙ other.2)) in
          one_place placed own start.at end.at some.0 other.0 some.1 other.1 slots
    ]
  ]

  pub none_between : from ≡ past → IsThere sets key → ⊥
  none_between same (kept, keeps) =
      let at = place_of sets kept keeps.there in
      let place : start.at ≡ end.at = one same in
      elim (below_or_not at.0 start.at) [
        | inl before ↦ not_before_itself key kept keeps.same_key
            (start.count.before at.0 kept before at.1)
        | inr behind ↦
            let up = end.count.behind at.0 kept (omega (arith, behind, place)) at.1 in
            let down = past_itself key kept keeps.same_key in
            grind (arith, up, down)
      ]

  in_order : start.at ≤ end.at
  in_order = elim (below_or_not end.at start.at) [
    | inl lt ↦
        let inside = start.count.within in
        let x = filled sets end.at (omega (arith, lt, inside)) in
        let up = before_past key x.0 (start.count.before end.at x.0 lt x.1) in
        let down = end.count.behind end.at x.0 (omega arith) x.1 in
        absurd (grind (arith, up, down))
    | inr le ↦ le
  ]

  same_place : start.at ≡ end.at → from ≡ past
  same_place place = elim start.told [
    | inl none ↦ elim end.told [
      | inl none_too ↦ none.0 ∙ sym none_too.0
      | inr some ↦
          let here : slice_get placed start.at ≡ Some some.0 =
          subst (λ n. slice_get placed n ≡ Some some.0) (sym place) some.1 in
          absurd (beyond placed start.at some.0 none.1 here)
    ]
    | inr some ↦ elim end.told [
      | inl none ↦
          let here : slice_get placed end.at ≡ Some some.0 =
          subst (λ n. slice_get placed n ≡ Some some.0) place some.1 in
          absurd (beyond placed end.at some.0 none.1 here)
      | inr other ↦
          let here : slice_get placed end.at ≡ Some some.0 =
          subst (λ n. slice_get placed n ≡ Some some.0) place some.1 in
          let same : some.0 ≡ other.0 = grind (arith, here, other.1) in
          some.2
          ∙ (ap (λ (p : Slotted). Some (record { zone = zone; slot = p.slot })) same ∙ sym other.2)
    ]
  ]
    where
      beyond : (ps : List Slotted) (i : ℕ) (p : Slotted) → i ≡ length ps → slice_get ps i ≡ Some p → ⊥
      beyond ps i p last at = let w = slice_get_within ps i p at in omega (arith, last, w)

  pub some_between : from ≢ past → IsThere sets key
  some_between apart = elim (cases_eq start.at end.at) [
    | inl same ↦ absurd (apart (same_place same))
    | inr differ ↦
        let le = in_order in
        let inside = end.count.within in
        let x = filled sets start.at (omega (arith, le, differ, inside)) in
        let low = start.count.behind start.at x.0 (omega arith) x.1 in
        let high = end.count.before start.at x.0 (omega (arith, le, differ)) x.1 in
        (x.0, record { there = among_at sets start.at x.0 x.1; same_key = key_between key x.0 low high })
  ]

pub between : (zones : List Zone) → AreZones zones → (zone : ℕ) (key : SetKey)
    (from past : Option SetRef) → IsNextSet zones zone (bound.From key) from
    → IsNextSet zones zone (bound.Past key) past
    → ((from ≡ past) → IsThere (sets_of (placed_in zones zone)) key → ⊥)
    × ((from ≢ past) → IsThere (sets_of (placed_in zones zone)) key)
between zones are zone key from past is_from is_past =
    let own = own_in zones are.each zone in
    let start = told zones zone (bound.From key) from is_from in
    let end = told zones zone (bound.Past key) past is_past in (
      none_between (placed_in zones zone) own zone key from past start end,
      some_between (placed_in zones zone) own zone key from past start end,
    )

-- and so a test of what is told tests whether the key is there
pub told_between : (b : Bool) {from past : Option SetRef} {There : Type 0}
    → (IsTrue b ↔ (from ≡ past)) → ((from ≡ past) → There → ⊥) → ((from ≢ past) → There)
    → (IsTrue (not b) ↔ There)
told_between true same none some =
    (λ h. absurd (grind (arith, h)), λ there. absurd (none (same.0 refl) there))
told_between false same none some =
    (λ h. some (λ e. absurd (let t = same.1 e in grind (arith, t))), λ there. refl)
