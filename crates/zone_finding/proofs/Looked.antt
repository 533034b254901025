-- A set found by its reference.
use Rattle.std.proofs.Common.{◌≡◌, ◌+◌, ◌<◌, ℕ, zero, suc, get_or, arith, List, [], ◌∷◌, ◌++◌, length, take, ap, ◌∙◌, sym, refl, Bool, true, false, Option, None, Some, cond, subst, arith, inl, inr}
use Rattle.std.specs.Prelude.{◌==◌, ◌↔◌, IsTrue, slice_get, unwrap_or}
use Rattle.std.specs.List.{AllByRecursion}
use Rattle.std.proofs.lemmas.Bool.{eq-eqb, eqb-true}
use Rattle.std.proofs.lemmas.List.{map-append}
use Rattle.zone_list.specs.RecordSetRecord.{RecordSet}
use Rattle.zone_list.specs.Index.{no_set}
use Rattle.zone_list.specs.Stored.{IsKept, Kept, zone_told}
use Rattle.zone_list.specs.Slotted.{IsHere, Slotted, sets_of}
use Rattle.zone_list.specs.FoundOfSetSearch.{IsBelowAt, TypeOrNone}
use Rattle.zone_list.specs.Suffix.{EndsWith}
use Rattle.zone_list.specs.Sets.{IsAmong}
use Rattle.zone_list.specs.Existing.{Exists}
use Rattle.zone_list.proofs.ListsOfZoneModel.{take_more}
use Rattle.zone_list.specs.Orders.{HasSet, IsOrder, of_zone, slotted_at, slotted_by, slotted_of, set_in}
use Rattle.zone_list.proofs.Orders.{at_place, there}
use Rattle.zone_list.proofs.Slots.{its_kept}
use Rattle.zone_list.specs.Kept.{AreIntact, Listed, zones_in}
use Rattle.zone_list.specs.Zones.{AreZones, placed_in, StandsAlone, Zone}
use Rattle.zone_list.proofs.Listing.{its_placed}
use Rattle.zone_list.proofs.Members.{apex_exists, filled, in_all}
use Rattle.zone_list.specs.declared.refs.SetRef.{SetRef}
use Rattle.zone_list.specs.RTypeRecord.{RType}
use Rattle.zone_list.specs.Telling.{target_of}
use Rattle.zone_finding.specs.Looking.{IsApex, RefersTo, Targets}
use Rattle.zone_finding.proofs.Naming.{its_sets, stands_here}

-- the set of a slot, where it is among those of an order
pub placed_set : (slot : ℕ) (set : RecordSet) (get : ℕ → Option RecordSet) (order : List ℕ) → AllByRecursion (λ j. HasSet get j) order
    → IsHere (slotted_by get order) (record { slot = slot; set = set }) → get slot ≡ Some set
placed_set slot set get [] present at = absurd at
placed_set slot set get (j ∷ order) present (inl e) =
    let same : j ≡ slot = ap (λ (p : Slotted). p.slot) e in
    let its : unwrap_or (get j) no_set ≡ set = ap (λ (p : Slotted). p.set) e in
    let has : get j ≡ Some present.0.0 = present.0.1 in
    let one : present.0.0 ≡ set = ap (λ (o : Option RecordSet). unwrap_or o no_set) (sym has) ∙ its in
    ap get (sym same) ∙ (has ∙ ap (λ (s : RecordSet). Some s) one)
placed_set slot set get (j ∷ order) present (inr at) = placed_set slot set get order present.1 at

module _ (slots : List (Option Kept)) (list : List Listed) (kept : AreIntact slots list) (zone slot : ℕ) where
  -- a set that is told of a zone is kept in its slot
  pub told_kept : zone_told (slice_get slots slot) ≡ Some zone
      → (set : RecordSet) × (slice_get slots slot ≡ Some (Some (record { zone = zone; set = set })))
  told_kept e = by (slice_get slots slot) e
    where
      some_same : (n m : ℕ) → Some n ≡ Some m → n ≡ m
      some_same n m f = cc

      by : (o : Option (Option Kept)) → zone_told o ≡ Some zone
          → (set : RecordSet) × (o ≡ Some (Some (record { zone = zone; set = set })))
      by None f = absurd cc
      by (Some None) f = absurd cc
      by (Some (Some k)) f =
          (k.set, ap (λ (z : ℕ). Some (Some (record { zone = z; set = k.set }))) (some_same k.zone zone f))

  -- and is the one that the reference names
  pub told_here : (set : RecordSet) → slice_get slots slot ≡ Some (Some (record { zone = zone; set = set }))
      → IsHere (placed_in (zones_in slots list) zone) (record { slot = slot; set = set })
  told_here set is =
      let at : set_in slots zone slot ≡ Some set =
      ap (of_zone zone) is ∙ ap (λ b. cond b (Some set) None) (eq-eqb zone zone refl) in
      let k = kept.owned zone slot set at in
      let stands = stands_here slots list kept k.0 k.1 in
      let here : set_in slots k.0.id slot ≡ Some set = ap (λ n. set_in slots n slot) k.2 ∙ at in
      subst (λ n. IsHere (placed_in (zones_in slots list) n) (record { slot = slot; set = set })) k.2
      (subst (λ ps. IsHere ps (record { slot = slot; set = set }))
      (sym (its_sets slots list kept k.0 k.1))
      (there (set_in slots k.0.id) k.0.order slot set here (stands.order.only slot set here)))

  -- the set that a reference names is kept in its slot
  pub here_kept : (set : RecordSet)
      → IsHere (placed_in (zones_in slots list) zone) (record { slot = slot; set = set })
      → IsKept slots slot (record { zone = zone; set = set })
  here_kept set here =
      let k = kept_here list here in
      let stands = stands_here slots list kept k.0 k.1 in
      let at : set_in slots k.0.id slot ≡ Some set =
      placed_set slot set (set_in slots k.0.id) k.0.order stands.order.present k.3 in
      its_kept slots k.0.id slot set at
      ∙ ap (λ (n : ℕ). Some (Some (record { zone = n; set = set }))) k.2
    where
      kept_here : (ks : List Listed) → IsHere (placed_in (zones_in slots ks) zone) (record { slot = slot; set = set })
          → (k : Listed) × IsAmong ks k × (k.id ≡ zone)
          × IsHere (slotted_of slots k.id k.order) (record { slot = slot; set = set })
      kept_here [] at = absurd at
      kept_here (k ∷ ks) at = by (k.id == zone) refl (kept_here ks) at
        where
          by : (b : Bool) → (k.id == zone) ≡ b
              → (IsHere (placed_in (zones_in slots ks) zone) (record { slot = slot; set = set })
              → (j : Listed) × IsAmong ks j × (j.id ≡ zone)
              × IsHere (slotted_of slots j.id j.order) (record { slot = slot; set = set }))
              → IsHere (cond b (slotted_of slots k.id k.order) (placed_in (zones_in slots ks) zone))
              (record { slot = slot; set = set })
              → (j : Listed) × IsAmong (k ∷ ks) j × (j.id ≡ zone)
              × IsHere (slotted_of slots j.id j.order) (record { slot = slot; set = set })
          by true e rest there = (k, inl refl, eqb-true k.id zone e, there)
          by false e rest there = let j = rest there in (j.0, inr j.1, j.2, j.3)

  -- what is told of none, or of another zone, is not named
  pub not_named : (zone_told (slice_get slots slot) ≡ Some zone → ⊥) → (set : RecordSet)
      → IsHere (placed_in (zones_in slots list) zone) (record { slot = slot; set = set }) → ⊥
  not_named other set here = other (ap zone_told (here_kept set here))

one_kept : (o : Option (Option Kept)) (x y : Kept) → o ≡ Some (Some x) → o ≡ Some (Some y) → x ≡ y
one_kept o x y e f = cc

-- the target of the set that a reference names
pub its_target : (slots : List (Option Kept)) (list : List Listed) → AreIntact slots list → (ref : SetRef)
    → (named : RecordSet) → RefersTo (zones_in slots list) ref named
    → IsKept slots ref.slot (record { zone = ref.zone; set = named })
    → (told : Option (List (List ℕ) × RType)) → told ≡ target_of named → Targets (zones_in slots list) ref told
its_target slots list kept ref named here at (Some target) is = (named, here, sym is)
its_target slots list kept ref named here at None is = λ other there.
    let also = here_kept slots list kept ref.zone ref.slot other there in
    let same : other ≡ named = ap (λ (k : Kept). k.set) (one_kept (slice_get slots ref.slot)
    (record { zone = ref.zone; set = other }) (record { zone = ref.zone; set = named }) also at) in
    ap target_of same ∙ sym is

-- one more copy
pub copies_more : (slots : List (Option Kept)) (zone : ℕ) (order : List ℕ) → IsOrder slots zone order
    → (i k : ℕ) → slice_get order i ≡ Some k → (copies now : List RecordSet) (set : RecordSet)
    → ((kept : Kept) → IsKept slots k kept → set ≡ kept.set)
    → copies ≡ sets_of (slotted_of slots zone (take i order)) → now ≡ copies ++ set ∷ []
    → now ≡ sets_of (slotted_of slots zone (take (i + 1) order))
copies_more slots zone order is i k at copies now set read so_far more =
    let here = at_place (set_in slots zone) order is.present i k at in
    let kept = its_kept slots zone k here.0 here.1 in
    let one : set ≡ here.0 = read (record { zone = zone; set = here.0 }) kept in
    let its : (slotted_at (set_in slots zone) k).set ≡ here.0 =
    ap (λ (o : Option RecordSet). unwrap_or o no_set) here.1 in
    let rest : sets_of (slotted_of slots zone (take (i + 1) order))
    ≡ sets_of (slotted_of slots zone (take i order)) ++ (slotted_at (set_in slots zone) k).set ∷ [] =
    ap sets_of (ap (λ ks. slotted_of slots zone ks) (take_more order i k at)
    ∙ map-append (slotted_at (set_in slots zone)) (take i order) (k ∷ []))
    ∙ map-append (λ (p : Slotted). p.set) (slotted_of slots zone (take i order))
    (slotted_at (set_in slots zone) k ∷ []) in
    more ∙ (ap (λ xs. xs ++ set ∷ []) so_far
    ∙ (ap (λ s. sets_of (slotted_of slots zone (take i order)) ++ s ∷ []) (one ∙ sym its) ∙ sym rest))

-- where a zone has a set its apex exists
pub apex_there : (zones : List Zone) → AreZones zones → (zone : ℕ) (apex : List (List ℕ))
    → IsApex zones zone apex → (placed_in zones zone ≡ [] → ⊥)
    → Exists (sets_of (placed_in zones zone)) apex
apex_there zones are zone apex (z, there, its_id, its_apex) some =
    let placed : placed_in zones zone ≡ z.placed = ap (placed_in zones) (sym its_id)
    ∙ its_placed zones are.listed z there in
    subst (λ ps. Exists (sets_of ps) apex) (sym placed)
    (subst (λ a. Exists (sets_of z.placed) a) its_apex
    (apex_exists z (λ none. some (placed ∙ none)) (in_all StandsAlone zones z are.each there).each))

-- a number at a place
pub number_at : (xs : List ℕ) (i : ℕ) → i < length xs → slice_get xs i ≡ Some (get_or xs i 0)
number_at [] i lt = absurd (omega (arith, lt))
number_at (x ∷ xs) zero lt = refl
number_at (x ∷ xs) (suc i) lt = number_at xs i (omega (arith, lt))

-- there is a set at a place of which a type is told, and it has the name
pub named_here : (sets : List RecordSet) (i : ℕ) (name : List (List ℕ)) (number : ℕ) → i < length sets
    → ((set : RecordSet) → slice_get sets i ≡ Some set → TypeOrNone name set (Some number))
    → (set : RecordSet) × (slice_get sets i ≡ Some set) × (set.name ≡ name)
named_here sets i name number within told =
    let it = filled sets i within in (it.0, it.1, (told it.0 it.1).0)

-- what is told of the set at a place, whether it has the name or one below it, is told of the place
pub below_here : (sets : List RecordSet) (i : ℕ) (name : List (List ℕ)) (below : Bool) → i < length sets
    → ((set : RecordSet) → slice_get sets i ≡ Some set → IsTrue below ↔ EndsWith set.name name)
    → IsTrue below ↔ IsBelowAt sets name i
below_here sets i name below within told = (
  λ so. (let it = filled sets i within in (it.0, it.1, (told it.0 it.1).0 so)),
  λ at. (told at.0 at.1).1 at.2,
)
