-- Which sets went from zones, and which came, by the references that are told.
use Rattle.std.proofs.Common.{◌≡◌, ◌≢◌, ◌<◌, ◌↔◌, ◌⊎◌, ℕ, zero, suc, List, [], ◌∷◌, map, arith, refl, ap, sym, ◌∙◌, inl, inr, Some}
use Rattle.std.specs.List.{AllByRecursion}
use Rattle.std.specs.Prelude.{slice_get}
use Rattle.std.proofs.lemmas.Bool.{cases_eq, ne_eqb}
use Rattle.std.proofs.lemmas.Option.{slice_get_within}
use mathlib.Core.Path.{subst}
use Rattle.health_planning.proofs.Members.{one_named}
use Rattle.record_set.specs.Sets.{key_of}
use Rattle.record_set.specs.declared.sets.RecordSet.{RecordSet}
use Rattle.record_set.specs.declared.sets.SetKey.{SetKey}
use Rattle.health_planning.proofs.ListingOfZoneList.{its_placed}
use Rattle.health_planning.proofs.MembersOfZoneList.{filled, one_of_key}
use Rattle.health_planning.specs.Building.{TellSlot}
use Rattle.health_planning.specs.Changes.{Changes, ref_in}
use Rattle.health_planning.specs.Zones.{AreListed, AreZones, IsOne, IsZoneId, StandsAlone, Zone, placed_in}
use Rattle.health_planning.specs.SetRefRecord.{SetRef}
use Rattle.zone_model.proofs.Among.{place_of}
use Rattle.zone_model.specs.Slotted.{IsHere, Slotted}
use Rattle.health_planning.specs.Edits.{Edits, IsAllowed}
use Rattle.health_planning.specs.ZoneEditRecord.{ZoneEdit}
use Rattle.health_planning.specs.ZoneEditRecord.TheVariants as edit
use Rattle.health_planning.specs.DeltaRecord.{Delta}
use Rattle.health_planning.proofs.Wiring.{rising_in}
use Rattle.check_model.specs.Checks.{Checks}
use Rattle.health_standing.specs.Leaving.{AreLeft, IsOneOf, Moves}

some_same : {X : Type 0} {x y : X} → Some x ≡ Some y → x ≡ y
some_same e = cc

-- ---- zones that are there, and others

zone_or_not : (zones : List Zone) (id : ℕ)
    → IsZoneId zones id
    ⊎ ((placed_in zones id ≡ []) × ((z : Zone) → IsOne zones z → z.id ≢ id))
zone_or_not [] id = inr (refl, λ z there. absurd there)
zone_or_not (zone ∷ zones) id = elim (cases_eq zone.id id) [
  | inl same ↦ inl (zone, inl refl, same)
  | inr apart ↦ elim (zone_or_not zones id) [
    | inl found ↦ inl (found.0, inr found.1, found.2)
    | inr none ↦ inr (
      rw (ne_eqb zone.id id apart) none.0,
      λ z there same. elim there [
        | inl e ↦ apart (ap (λ (x : Zone). x.id) e ∙ same)
        | inr rest ↦ none.1 z rest same
      ],
    )
  ]
]

pub none_there : (zones : List Zone) (id : ℕ) → (IsZoneId zones id → ⊥) → placed_in zones id ≡ []
none_there zones id none = elim (zone_or_not zones id) [
  | inl z ↦ absurd (none z)
  | inr both ↦ both.0
]

same_elsewhere : (before after : List Zone) → AreListed before → AreListed after → (id : ℕ)
    → ((other : Zone) → other.id ≡ id → IsOne before other ↔ IsOne after other)
    → placed_in after id ≡ placed_in before id
same_elsewhere before after listed listed_too id others = elim (zone_or_not before id) [
  | inl z ↦
      let there = (others z.0 z.2).0 z.1 in
      subst (λ (n : ℕ). placed_in after n ≡ placed_in before n) z.2
      (its_placed after listed_too z.0 there ∙ sym (its_placed before listed z.0 z.1))
  | inr none ↦ elim (zone_or_not after id) [
    | inl z ↦ absurd (none.1 z.0 ((others z.0 z.2).1 z.1) z.2)
    | inr both ↦ both.0 ∙ sym none.0
  ]
]

-- ---- references

pub of_parts : (one two : SetRef) → one.zone ≡ two.zone → one.slot ≡ two.slot → one ≡ two
of_parts one two a b = ap (λ (p : ℕ × ℕ). record { zone = p.0; slot = p.1 }) (pair a b)
  where
    pair : {i j m n : ℕ} → i ≡ j → m ≡ n → ◌≡◌ {A = ℕ × ℕ} (i, m) (j, n)
    pair e f = cc

ref_or_not : (one two : SetRef) → (one ≡ two) ⊎ (one ≢ two)
ref_or_not one two = elim (cases_eq one.zone two.zone) [
  | inl zones ↦ elim (cases_eq one.slot two.slot) [
    | inl slots ↦ inl (of_parts one two zones slots)
    | inr apart ↦ inr (λ e. apart (ap (λ (r : SetRef). r.slot) e))
  ]
  | inr apart ↦ inr (λ e. apart (ap (λ (r : SetRef). r.zone) e))
]

told_or_not : (refs : List SetRef) (ref : SetRef)
    → IsOneOf refs ref ⊎ ((i : ℕ) → slice_get refs i ≡ Some ref → ⊥)
told_or_not [] ref = inr (λ i at. let no : ⊥ = cc in no)
told_or_not (other ∷ refs) ref = elim (ref_or_not other ref) [
  | inl same ↦ inl (0, ap Some same)
  | inr apart ↦ elim (told_or_not refs ref) [
    | inl found ↦ inl (suc found.0, found.1)
    | inr none ↦ inr (λ i at. behind i at apart none)
  ]
]
  where
    behind : (i : ℕ) → slice_get (other ∷ refs) i ≡ Some ref → other ≢ ref
        → ((k : ℕ) → slice_get refs k ≡ Some ref → ⊥) → ⊥
    behind zero at apart none = apart (some_same at)
    behind (suc k) at apart none = none k at

pub got_of_all : (zone : ℕ) (placed : List Slotted) (i : ℕ) (ref : SetRef)
    → slice_get (map (ref_in zone) placed) i ≡ Some ref
    → (p : Slotted) × IsHere placed p × (ref_in zone p ≡ ref)
got_of_all zone [] i ref at = let no : ⊥ = cc in absurd no
got_of_all zone (q ∷ placed) zero ref at = (q, inl refl, some_same at)
got_of_all zone (q ∷ placed) (suc i) ref at =
    let r = got_of_all zone placed i ref at in (r.0, inr r.1, r.2)

told_of_all : (zone : ℕ) (placed : List Slotted) (i : ℕ) (p : Slotted) → slice_get placed i ≡ Some p
    → slice_get (map (ref_in zone) placed) i ≡ Some (ref_in zone p)
told_of_all zone [] i p at = let no : ⊥ = cc in absurd no
told_of_all zone (q ∷ placed) zero p at = ap (λ (x : Slotted). Some (ref_in zone x)) (some_same at)
told_of_all zone (q ∷ placed) (suc i) p at = told_of_all zone placed i p at

-- one of some references is to the slot, or none is
pub slot_or_not : (refs : List SetRef) (slot : ℕ) → TellSlot refs slot ⊎ (TellSlot refs slot → ⊥)
slot_or_not [] slot = inr (λ told. let no : ⊥ = nothing told.0 told.1.0 told.1.1.0 in no)
  where
    nothing : (k : ℕ) (ref : SetRef) → slice_get [] k ≡ Some ref → ⊥
    nothing k ref at = cc
slot_or_not (other ∷ refs) slot = elim (cases_eq other.slot slot) [
  | inl same ↦ inl (0, (other, (refl, same)))
  | inr apart ↦ elim (slot_or_not refs slot) [
    | inl told ↦ inl (suc told.0, told.1)
    | inr none ↦ inr (λ told. by told.0 told.1.0 told.1.1.0 told.1.1.1 apart none)
  ]
]
  where
    some_same : {X : Type 0} {x y : X} → Some x ≡ Some y → x ≡ y
    some_same e = cc

    by : (k : ℕ) (ref : SetRef) → slice_get (other ∷ refs) k ≡ Some ref → ref.slot ≡ slot
        → other.slot ≢ slot → (TellSlot refs slot → ⊥) → ⊥
    by zero ref at is apart none = apart (ap (λ (r : SetRef). r.slot) (some_same at) ∙ is)
    by (suc k) ref at is apart none = none (k, (ref, (at, is)))

-- ---- edits

module _ (before after : List Zone) (are_before : AreZones before) (are_after : AreZones after)
    (removed added : List SetRef) (zone : ℕ)
    (others : (other : Zone) → other.id ≢ zone → IsOne before other ↔ IsOne after other) where
  elsewhere : (id : ℕ) → id ≢ zone → placed_in after id ≡ placed_in before id
  elsewhere id apart =
      same_elsewhere before after are_before.listed are_after.listed id
      (λ other is. others other (λ e. apart (sym is ∙ e)))

  -- what holds in the zone holds in all
  by_zone : ((p : Slotted) → IsHere (placed_in before zone) p
      → IsOneOf removed (ref_in zone p) ⊎ IsHere (placed_in after zone) p)
      → ((p : Slotted) → IsHere (placed_in after zone) p
      → IsHere (placed_in before zone) p ⊎ IsOneOf added (ref_in zone p))
      → ((id : ℕ) (q : Slotted) → IsOneOf removed (ref_in id q)
      → (p : Slotted) × IsHere (placed_in before id) p × (p.slot ≡ q.slot))
      → ((p q : Slotted) → IsHere (placed_in before zone) p → IsHere (placed_in after zone) q
      → p.slot ≡ q.slot → key_of p.set ≡ key_of q.set)
      → Moves before after removed added
  by_zone stays only gone keys = record {
    stays = λ id p here. elim (cases_eq id zone) [
      | inl is ↦
          subst (λ (z : ℕ). IsOneOf removed (ref_in z p) ⊎ IsHere (placed_in after z) p) (sym is)
          (stays p (subst (λ (z : ℕ). IsHere (placed_in before z) p) is here))
      | inr apart ↦ inr (subst (λ (l : List Slotted). IsHere l p) (sym (elsewhere id apart)) here)
    ];
    only = λ id p here. elim (cases_eq id zone) [
      | inl is ↦
          subst (λ (z : ℕ). IsHere (placed_in before z) p ⊎ IsOneOf added (ref_in z p)) (sym is)
          (only p (subst (λ (z : ℕ). IsHere (placed_in after z) p) is here))
      | inr apart ↦ inl (subst (λ (l : List Slotted). IsHere l p) (elsewhere id apart) here)
    ];
    gone = gone;
    keys = λ id p q here there slots. elim (cases_eq id zone) [
      | inl is ↦
          keys p q (subst (λ (z : ℕ). IsHere (placed_in before z) p) is here)
          (subst (λ (z : ℕ). IsHere (placed_in after z) q) is there) slots
      | inr apart ↦
          let as_was = subst (λ (l : List Slotted). IsHere l q) (elsewhere id apart) there in
          ap key_of (one_named before (ref_in id p) p.set q.set are_before here
          (subst (λ (n : ℕ). IsHere (placed_in before id) (record { slot = n; set = q.set })) (sym slots) as_was))
    ];
  }

  -- a reference that is told in a zone is of it
  in_zone : (id : ℕ) (p q : Slotted) → ref_in zone p ≡ ref_in id q → IsHere (placed_in before zone) p
      → (x : Slotted) × IsHere (placed_in before id) x × (x.slot ≡ q.slot)
  in_zone id p q e here = (
    p,
    subst (λ (z : ℕ). IsHere (placed_in before z) p) (ap (λ (r : SetRef). r.zone) e) here,
    ap (λ (r : SetRef). r.slot) e,
  )

  changed : (remove : List SetKey) (add : List RecordSet)
      → Changes zone (placed_in before zone) remove add removed added (placed_in after zone)
      → Moves before after removed added
  changed remove add changes = by_zone
      (λ p here. elim (told_or_not removed (ref_in zone p)) [
        | inl told ↦ inl told
        | inr none ↦ inr (changes.stays p here (λ m.
            let k = place_of remove (key_of p.set) m in
            let g = changes.goes k.0 (key_of p.set) k.1 in
            let one = one_of_key (placed_in before zone) (rising_in before are_before.each zone) g.0 p g.1 here g.2 in
            none k.0 (g.3 ∙ ap (λ (q : Slotted). Some (ref_in zone q)) one)))
      ])
      (λ p here. elim (changes.only p here) [
        | inl old ↦ inl old.0
        | inr new ↦ inr (new.0, new.2)
      ])
      (λ id q told.
      let b = slice_get_within removed told.0 (ref_in id q) told.1 in
      let many = changes.as_many_removed in
      let key = filled remove told.0 (omega arith) in
      let g = changes.goes told.0 key.0 key.1 in
      in_zone id g.0 q (some_same (sym g.3 ∙ told.1)) g.1)
      (λ p q here there slots. (changes.slots p q here there).1 slots)

  closed : (IsZoneId after zone → ⊥) → removed ≡ map (ref_in zone) (placed_in before zone)
      → Moves before after removed added
  closed gone all = by_zone
      (λ p here.
      let k = place_of (placed_in before zone) p here in
      inl (k.0, rw all (told_of_all zone (placed_in before zone) k.0 p k.1)))
      (λ p here. absurd (subst (λ (l : List Slotted). IsHere l p) (none_there after zone gone) here))
      (λ id q told.
      let g = got_of_all zone (placed_in before zone) told.0 (ref_in id q) (rw all at told.1) in
      in_zone id g.0 q g.2 g.1)
      (λ p q here there slots. absurd (subst (λ (l : List Slotted). IsHere l q) (none_there after zone gone) there))

-- Where the zones stay no set goes or comes.
same_moves : (zones : List Zone) → AreZones zones → (added : List SetRef) → Moves zones zones [] added
same_moves zones are added = record {
  stays = λ zone p here. inr here;
  only = λ zone p here. inl here;
  gone = λ zone q told. let no : ⊥ = cc in absurd no;
  keys = λ zone p q here there slots.
      ap key_of (one_named zones (ref_in zone p) p.set q.set are here
      (subst (λ (n : ℕ). IsHere (placed_in zones zone) (record { slot = n; set = q.set })) (sym slots) there));
}

pub moved : (before after : List Zone) → AreZones before → AreZones after → (made : ZoneEdit)
    (delta : Delta) → IsAllowed before made → Edits before made after delta → delta.zone ≢ 0
    → Moves before after delta.removed delta.added
moved before after are_before are_after (edit.Begin zone name sets) delta allowed edits some =
    changed before after are_before are_after delta.removed delta.added zone edits.others [] sets
    (subst (λ (l : List Slotted). Changes zone l [] sets delta.removed delta.added (placed_in after zone))
    (sym (none_there before zone allowed.0)) edits.its.1)
moved before after are_before are_after (edit.End zone) delta allowed edits some =
    closed before after are_before are_after delta.removed delta.added zone edits.others
    edits.its.0 edits.its.1
moved before after are_before are_after (edit.Change zone remove add) delta allowed edits some =
    changed before after are_before are_after delta.removed delta.added zone edits.others remove add
    edits.its.1
moved before after are_before are_after (edit.Collections now) delta allowed edits some =
    absurd (some edits.zone)

-- ---- commands that tell of no zone

numbered : (zones : List Zone) → AllByRecursion StandsAlone zones → (zone : Zone) → IsOne zones zone
    → 0 < zone.id
numbered [] each zone there = absurd there
numbered (other ∷ zones) each zone (inl e) = subst (λ (z : Zone). 0 < z.id) e each.0.numbered
numbered (other ∷ zones) each zone (inr rest) = numbered zones each.1 zone rest

same_zones : (before after : List Zone) → AreZones before → (made : ZoneEdit) (delta : Delta)
    → IsAllowed before made → Edits before made after delta → delta.zone ≡ 0 → after ≡ before
same_zones before after are (edit.Begin zone name sets) delta allowed edits none =
    let is = edits.zone in
    let least = allowed.3 in
    absurd (omega arith)
same_zones before after are (edit.End zone) delta allowed edits none =
    let is = edits.zone in
    let least = numbered before are.each allowed.0 allowed.1 in
    let its = allowed.2 in
    absurd (omega arith)
same_zones before after are (edit.Change zone remove add) delta allowed edits none =
    let is = edits.zone in
    let least = numbered before are.each allowed.0.0 allowed.0.1 in
    let its = allowed.0.2 in
    absurd (omega arith)
same_zones before after are (edit.Collections now) delta allowed edits none = edits.its.0

pub zones_stay : (before : List Zone) (old : Checks) (after : List Zone) (new : Checks) (delta : Delta)
    → AreZones before → AreLeft before old after new delta → delta.zone ≡ 0 → after ≡ before
zones_stay before old after new delta are (inl (made, (allowed, edits, kept))) none =
    same_zones before after are made delta allowed edits none
zones_stay before old after new delta are (inr (stayed, follows, told)) none = stayed

-- Each command moves the sets that it tells: those that went, where it tells of a zone, and those that came.
pub all_moved : (before : List Zone) (old : Checks) (after : List Zone) (new : Checks) (delta : Delta)
    → AreZones before → AreZones after → AreLeft before old after new delta → (gone : List SetRef)
    → (delta.zone ≡ 0 → gone ≡ []) → (delta.zone ≢ 0 → gone ≡ delta.removed)
    → Moves before after gone delta.added
all_moved before old after new delta are_before are_after left gone none told = elim (cases_eq delta.zone 0) [
  | inl is ↦
      subst (λ (z : List Zone). Moves before z gone delta.added) (sym (zones_stay before old after new delta are_before left is))
      (subst (λ (l : List SetRef). Moves before before l delta.added) (sym (none is)) (same_moves before are_before delta.added))
  | inr some ↦
      subst (λ (l : List SetRef). Moves before after l delta.added) (sym (told some)) (by left some)
]
  where
    by : AreLeft before old after new delta → delta.zone ≢ 0 → Moves before after delta.removed delta.added
    by (inl (made, (allowed, edits, kept))) some =
        moved before after are_before are_after made delta allowed edits some
    by (inr (stayed, follows, is)) some = absurd (some is)
