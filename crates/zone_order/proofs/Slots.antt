-- The sets of a zone, where one slot of the store changes.
use Rattle.std.proofs.Common.{◌≡◌, ◌≢◌, ℕ, List, Option, None, Some, cond, ap, ◌∙◌, sym, refl, inl, inr}
use Rattle.std.specs.Prelude.{slice_get, option_map}
use Rattle.std.specs.List.{AllByRecursion}
use Rattle.std.proofs.lemmas.Option.{slice_get-map}
use Rattle.std.proofs.lemmas.Bool.{eq-eqb}
use Rattle.std.proofs.lemmas.Bool.Decides.{eqb_tells}
use Rattle.set_store.specs.RecordSetRecord.{RecordSet}
use Rattle.set_store.specs.Stored.{IsKept, IsVacant, Kept}
use Rattle.set_store.proofs.Lists.{same_or_not}
use Rattle.set_store.specs.Slotted.{Slotted, sets_of}
use Rattle.zone_order.specs.Orders.{HasSet, of_zone, OthersStay, slotted_of, set_in}
use Rattle.zone_order.proofs.Orders.{Updates, at_place}

-- a set of the zone
pub its_own : (slots : List (Option Kept)) (zone k : ℕ) (set : RecordSet)
    → IsKept slots k (record { zone = zone; set = set }) → set_in slots zone k ≡ Some set
its_own slots zone k set is = ap (of_zone zone) is ∙ ap (λ b. cond b (Some set) None) (eq-eqb zone zone refl)

-- a set of another zone
pub anothers : (slots : List (Option Kept)) (zone k : ℕ) (kept : Kept) → IsKept slots k kept
    → kept.zone ≢ zone
    → set_in slots zone k ≡ None
anothers slots zone k kept is apart = elim (eqb_tells kept.zone zone) [
  | inl e ↦ absurd (apart e.1)
  | inr e ↦ (ap (of_zone zone) is ∙ ap (λ b. cond b (Some kept.set) None) e.0)
]

pub nones : (slots : List (Option Kept)) (zone k : ℕ) → IsVacant slots k → set_in slots zone k ≡ None
nones slots zone k is = ap (of_zone zone) is

-- what a slot of the zone holds
pub its_kept : (slots : List (Option Kept)) (zone k : ℕ) (set : RecordSet) → set_in slots zone k ≡ Some set
    → IsKept slots k (record { zone = zone; set = set })
its_kept slots zone k set is = by (slice_get slots k) is
  where
    by : (o : Option (Option Kept)) → of_zone zone o ≡ Some set
        → o ≡ Some (Some (record { zone = zone; set = set }))
    by None e = absurd cc
    by (Some None) e = absurd cc
    by (Some (Some kept)) e = elim (eqb_tells kept.zone zone) [
      | inl t ↦
          (let same : kept.set ≡ set = some_same kept.set set (sym (ap (λ b. cond b
          (Some kept.set) None) t.0) ∙ e) in
          ap (λ (z : ℕ). Some (Some (record { zone = z; set = kept.set }))) t.1
          ∙ ap (λ (s : RecordSet). Some (Some (record { zone = zone; set = s }))) same)
      | inr t ↦ absurd (none_same set (sym (ap (λ b. cond b (Some kept.set) None) t.0) ∙ e))
    ]
      where
        some_same : (x y : RecordSet) → Some x ≡ Some y → x ≡ y
        some_same x y e = cc

        none_same : (x : RecordSet) → None ≡ Some x → ⊥
        none_same x e = cc

module _ (slots now : List (Option Kept)) (zone k : ℕ)
    (others : (other : ℕ) → other ≢ k → slice_get now other ≡ slice_get slots other) where
  -- the sets of the zone, but for the one slot
  pub updated : (v : Option RecordSet) → set_in now zone k ≡ v
      → Updates (set_in slots zone) (set_in now zone) k v
  updated v is = record { changed = is; others = λ j ne. ap (of_zone zone) (others j ne) }

  -- and those of all other zones
  pub stay : ((other : ℕ) → other ≢ zone → set_in slots other k ≡ None)
      → ((other : ℕ) → other ≢ zone → set_in now other k ≡ None) → OthersStay zone slots now
  stay was is other slot ne = elim (same_or_not slot k) [
    | inl e ↦ (ap (set_in now other) e ∙ is other ne ∙ sym (was other ne) ∙ ap (set_in slots other) (sym e))
    | inr apart ↦ (ap (of_zone other) (others slot apart))
  ]

pub one_at : (o : Option RecordSet) (x y : RecordSet) → o ≡ Some x → o ≡ Some y → x ≡ y
one_at o x y e f = cc

-- what a place of the order holds
pub kept_at : (slots : List (Option Kept)) (zone : ℕ) (order : List ℕ)
    → AllByRecursion (λ k. HasSet (set_in slots zone) k) order
    → (i k : ℕ) → slice_get order i ≡ Some k
    → (set : RecordSet) × IsKept slots k (record { zone = zone; set = set })
    × (slice_get (sets_of (slotted_of slots zone order)) i ≡ Some set)
kept_at slots zone order present i k at =
    let is = at_place (set_in slots zone) order present i k at in (
      is.0,
      its_kept slots zone k is.0 is.1,
      slice_get-map (λ (p : Slotted). p.set) (slotted_of slots zone order) i
          ∙ ap (λ (o : Option Slotted). option_map (λ (p : Slotted). p.set) o) is.2,
    )

told_set : (o : Option Slotted) (k : ℕ) (set : RecordSet) (was : Slotted)
    → o ≡ Some (record { slot = k; set = set }) → o ≡ Some was → set ≡ was.set
told_set o k set was e f = let same : record { slot = k; set = set } ≡ was = cc in
    ap (λ (p : Slotted). p.set) same

-- what is kept in the slot at a place is the set there
pub kept_there : (slots : List (Option Kept)) (zone : ℕ) (order : List ℕ)
    → AllByRecursion (λ k. HasSet (set_in slots zone) k) order → (i k : ℕ) → slice_get order i ≡ Some k
    → (was : Slotted) → slice_get (slotted_of slots zone order) i ≡ Some was
    → IsKept slots k (record { zone = zone; set = was.set })
kept_there slots zone order present i k at was is =
    let found = at_place (set_in slots zone) order present i k at in
    its_kept slots zone k was.set
    (found.1 ∙ ap (λ (s : RecordSet). Some s) (told_set _ k found.0 was found.2 is))
