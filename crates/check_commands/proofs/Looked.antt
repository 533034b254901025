-- Sets that references name, and those of all zones.
use Rattle.std.proofs.Common.{◌≡◌, ◌≢◌, ◌≤◌, ◌<◌, ℕ, Bool, true, false, cond, List, [], ◌∷◌, refl, ap, sym, ◌∙◌, subst, arith, inl, inr, Option, None, Some}
use Rattle.std.specs.Prelude.{◌==◌, ◌||◌, ◌↔◌, IsTrue, is_some}
use Rattle.std.specs.List.{list_any}
use Rattle.std.proofs.lemmas.Bool.{cases_eq, eq-eqb, false≢true, ne_eqb}
use Rattle.std.proofs.lemmas.List.Folds.{list_any-append}
use Rattle.std.proofs.lemmas.List.Sums.{sum_by-cons}
use Rattle.config_edits.specs.Sums.{checked_in, checked_of, one_of}
use Rattle.config_zones.specs.Edited.{hosted_in}
use Rattle.config_zones.specs.Configs.{all_sets}
use Rattle.config_zones.specs.Looking.{RefersTo}
use Rattle.config_zones.specs.Others.{is_check_named, is_number}
use Rattle.config_zones.specs.SetRefRecord.{SetRef}
use Rattle.config_zones.specs.Zones.{AreZones, IsOne, StandsAlone, Zone, placed_in}
use Rattle.config_zones.proofs.Holding.{kept_in}
use Rattle.config_zones.proofs.Listing.{its_placed}
use Rattle.config_zones.proofs.MembersOfZoneList.{in_all}
use Rattle.record_set.specs.declared.sets.RecordSet.{RecordSet}
use Rattle.zone_model.specs.Slotted.{HaveOwnSlots, IsHere, Slotted, sets_of}
use Rattle.zone_model.specs.Zones.{IsAmong}
use Rattle.check_commands.specs.Counts.{IsTold}
use Rattle.check_commands.specs.Uses.{AreUses, IsNamedAt, KnowsUses, TellsUse}
use Rattle.check_commands.proofs.Walked.{names as names_check}

-- ---- one set a reference

-- in slots of their own there is one set in a slot
one_slot : (placed : List Slotted) → HaveOwnSlots placed → (p q : Slotted) → IsAmong placed p
    → IsAmong placed q → p.slot ≡ q.slot → p ≡ q
one_slot [] own p q first second same = absurd first
one_slot (x ∷ placed) own p q (inl d) (inl e) same = sym d ∙ e
one_slot (x ∷ placed) own p q (inl d) (inr second) same =
    absurd (in_all (λ (y : Slotted). x.slot ≢ y.slot) placed q own.0 second
    (ap (λ (y : Slotted). y.slot) d ∙ same))
one_slot (x ∷ placed) own p q (inr first) (inl e) same =
    absurd (in_all (λ (y : Slotted). x.slot ≢ y.slot) placed p own.0 first
    (ap (λ (y : Slotted). y.slot) e ∙ sym same))
one_slot (x ∷ placed) own p q (inr first) (inr second) same =
    one_slot placed own.1 p q first second same

-- a reference names one set
pub one_named : (zones : List Zone) (ref : SetRef) (set other : RecordSet) → AreZones zones
    → RefersTo zones ref set → RefersTo zones ref other → set ≡ other
one_named zones ref set other are first second =
    ap (λ (p : Slotted). p.set)
    (one_slot (placed_in zones ref.zone) (kept_in zones are.each ref.zone).own
    (record { slot = ref.slot; set = set })
    (record { slot = ref.slot; set = other }) first second refl)

-- the zone of a set that stands in the zone of a number
pub its_zone : (zones : List Zone) (id : ℕ) (p : Slotted) → IsHere (placed_in zones id) p
    → (zone : Zone) × IsOne zones zone × (zone.id ≡ id) × IsHere zone.placed p
its_zone [] id p here = absurd here
its_zone (zone ∷ zones) id p here = by (zone.id == id) refl here (its_zone zones id p)
  where
    by : (b : Bool) → (zone.id == id) ≡ b
        → IsHere (cond b zone.placed (placed_in zones id)) p
        → (IsHere (placed_in zones id) p
        → (other : Zone) × IsOne zones other × (other.id ≡ id) × IsHere other.placed p)
        → (other : Zone) × IsOne (zone ∷ zones) other × (other.id ≡ id) × IsHere other.placed p
    by true e is rest = (zone, inl refl, same e, is)
      where
        same : (zone.id == id) ≡ true → zone.id ≡ id
        same t = elim (cases_eq zone.id id) [
          | inl is ↦ is
          | inr apart ↦ absurd (false≢true (sym (ne_eqb zone.id id apart) ∙ t))
        ]
    by false e is rest = let r = rest is in (r.0, inr r.1, r.2, r.3)

-- ---- all sets

either_true : (a b : Bool) → b ≡ true → (a || b) ≡ true
either_true true b e = refl
either_true false b e = e

module _ (f : RecordSet → Bool) where
  in_sets : (placed : List Slotted) (p : Slotted) → IsAmong placed p → f p.set ≡ true
      → list_any f (sets_of placed) ≡ true
  in_sets [] p there passes = absurd there
  in_sets (q ∷ placed) p (inl e) passes =
      ap (λ b. b || list_any f (sets_of placed)) (ap (λ (x : Slotted). f x.set) e ∙ passes)
  in_sets (q ∷ placed) p (inr there) passes =
      either_true (f q.set) (list_any f (sets_of placed)) (in_sets placed p there passes)

  pub in_zones : (zones : List Zone) (id : ℕ) (p : Slotted) → IsHere (placed_in zones id) p
      → f p.set ≡ true → list_any f (all_sets (hosted_in zones)) ≡ true
  in_zones [] id p here passes = absurd here
  in_zones (zone ∷ zones) id p here passes =
      list_any-append f (sets_of zone.placed) (all_sets (hosted_in zones))
      ∙ by (zone.id == id) (λ later. in_zones zones id p later passes) here
    where
      by : (b : Bool) → (IsHere (placed_in zones id) p
          → list_any f (all_sets (hosted_in zones)) ≡ true)
          → IsHere (cond b zone.placed (placed_in zones id)) p
          → (list_any f (sets_of zone.placed) || list_any f (all_sets (hosted_in zones))) ≡ true
      by true rest here =
          ap (λ b. b || list_any f (all_sets (hosted_in zones)))
          (in_sets zone.placed p here passes)
      by false rest here =
          either_true (list_any f (sets_of zone.placed)) (list_any f (all_sets (hosted_in zones)))
          (rest here)

  not_in_sets : (placed : List Slotted) → ((p : Slotted) → IsAmong placed p → f p.set ≡ false)
      → list_any f (sets_of placed) ≡ false
  not_in_sets [] none = refl
  not_in_sets (q ∷ placed) none =
      ap (λ b. b || list_any f (sets_of placed)) (none q (inl refl))
      ∙ not_in_sets placed (λ p there. none p (inr there))

  not_in_zones : (zones : List Zone) → ((zone : Zone) (p : Slotted) → IsOne zones zone
      → IsHere zone.placed p → f p.set ≡ false) → list_any f (all_sets (hosted_in zones)) ≡ false
  not_in_zones [] none = refl
  not_in_zones (zone ∷ zones) none =
      list_any-append f (sets_of zone.placed) (all_sets (hosted_in zones))
      ∙ (ap (λ b. b || list_any f (all_sets (hosted_in zones)))
      (not_in_sets zone.placed (λ p here. none zone p (inl refl) here))
      ∙ not_in_zones zones (λ other p there here. none other p (inr there) here))

-- a list of which none is counted has none
pub none_checked : (placed : List Slotted) (p : Slotted) → checked_of placed ≡ 0
    → IsHere placed p → is_some p.set.check ≡ true → ⊥
none_checked [] p zero here on = here
none_checked (q ∷ placed) p zero (inl e) on =
    let sum = sum_by-cons checked_in q placed in
    let one : checked_in q ≡ 1 =
    ap (λ (x : Slotted). one_of (is_some x.set.check)) e ∙ ap one_of on in
    omega (arith, sum, zero, one)
none_checked (q ∷ placed) p zero (inr there) on =
    let sum = sum_by-cons checked_in q placed in
    none_checked placed p (omega (arith, sum, zero)) there on

-- ---- a check

pub named_here : (zones : List Zone) (slot check : ℕ) → IsNamedAt zones slot check
    → is_check_named check (all_sets (hosted_in zones)) ≡ true
named_here zones slot check (zone, named, here, is) =
    in_zones (names_check check) zones zone (record { slot = slot; set = named }) here
    (ap (is_number check) is ∙ eq-eqb check check refl)

pub named_nowhere : (zones : List Zone) (list : List ℕ) (check : ℕ) → AreZones zones
    → AreUses list zones → (IsTold list check → ⊥)
    → is_check_named check (all_sets (hosted_in zones)) ≡ false
named_nowhere zones list check are uses none =
    not_in_zones (names_check check) zones (λ zone p there here.
    by zone p
    (subst (λ (l : List Slotted). IsHere l p) (sym (its_placed zones are.listed zone there)) here)
    p.set.check refl)
  where
    by : (zone : Zone) (p : Slotted) → IsHere (placed_in zones zone.id) p
        → (its : Option ℕ) → p.set.check ≡ its → is_number check p.set.check ≡ false
    by zone p here None is = ap (is_number check) is
    by zone p here (Some other) is = elim (cases_eq other check) [
      | inl same ↦
          let ref : SetRef = record { zone = zone.id; slot = p.slot } in
          absurd (none (p.slot, uses.each ref p.set other here is ∙ same))
      | inr apart ↦ ap (is_number check) is ∙ ne_eqb other check apart
    ]

pub used_or_not : (zones : List Zone) (known : Option (List ℕ)) (check : ℕ) → AreZones zones
    → KnowsUses known zones → (used : Bool) → TellsUse known check (Some used)
    → used ≡ is_check_named check (all_sets (hosted_in zones))
used_or_not zones known check are knows used (list, is, some, both) =
    by used both
  where
    uses : AreUses list zones
    uses = subst (λ (k : Option (List ℕ)). KnowsUses k zones) is knows

    by : (used : Bool) → IsTrue used ↔ IsTold list check
        → used ≡ is_check_named check (all_sets (hosted_in zones))
    by true both =
        let told = both.0 refl in
        sym (named_here zones told.0 check (uses.only told.0 check told.1 some))
    by false both =
        sym (named_nowhere zones list check are uses (λ told. false≢true (both.1 told)))

-- ---- zones one after another

-- no zone has number 0
pub none_at_start : (zones : List Zone) (id : ℕ) (p : Slotted) → AreZones zones
    → IsHere (placed_in zones id) p → 0 < id
none_at_start zones id p are here =
    let z = its_zone zones id p here in
    let numbered = (in_all StandsAlone zones z.0 are.each z.1).numbered in
    let is = z.2 in
    omega arith

-- a zone that has a set is one of those up to the last
pub up_to : (zones : List Zone) (id zone : ℕ) (p : Slotted)
    → ((z : Zone) → IsOne zones z → z.id ≤ zone) → IsHere (placed_in zones id) p → id ≤ zone
up_to zones id zone p all here =
    let z = its_zone zones id p here in
    let b = all z.0 z.1 in
    let e = z.2 in
    omega arith
