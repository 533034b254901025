-- The slots of the sets of a group.
use Rattle.std.proofs.Common.{◌≡◌, ℕ, zero, suc, ◌+◌, ◌≤◌, List, [], ◌∷◌, length, take, drop, map, ap, ◌∙◌, sym, refl, arith, Option}
use Rattle.std.specs.List.{drop-map, take-map}
use Rattle.std.proofs.lemmas.List.{length-map}
use Rattle.zone_list.specs.RecordSetRecord.{RecordSet}
use Rattle.zone_list.specs.Stored.{Kept}
use Rattle.zone_list.specs.Orders.{slotted_at, slotted_by, slotted_of, set_in}
use Rattle.zone_list.specs.Slotted.{Slotted}
use Rattle.zone_list.specs.Zones.{Zone, placed_in}
use Rattle.zone_finding.specs.Looking.{IsGroupNow, slots_in}
use Rattle.zone_finding.specs.declared.refs.Group.{Group}

abbrev slot_of : Slotted → ℕ
slot_of p = p.slot

-- the slots of placed sets are those by which they were placed
own_slots : (get : ℕ → Option RecordSet) (order : List ℕ) → map slot_of (slotted_by get order) ≡ order
own_slots get [] = refl
own_slots get (k ∷ order) = ap (λ ks. k ∷ ks) (own_slots get order)

pub in_order : (slots : List (Option Kept)) (zones : List Zone) (group : Group) (order : List ℕ)
    → placed_in zones group.zone ≡ slotted_of slots group.zone order
    → take group.length (drop group.start order) ≡ slots_in zones group
in_order slots zones group order placed =
    let all = slotted_of slots group.zone order in
    ap (λ ks. take group.length (drop group.start ks))
    (sym (own_slots (set_in slots group.zone) order) ∙ ap (map slot_of) (sym placed))
    ∙ ap (take group.length) (drop-map slot_of group.start (placed_in zones group.zone))
    ∙ take-map slot_of group.length (drop group.start (placed_in zones group.zone))

none_behind : {X : Type 0} (xs : List X) (n : ℕ) → xs ≡ [] → drop n xs ≡ []
none_behind [] zero e = refl
none_behind [] (suc n) e = refl
none_behind (x ∷ xs) n e = absurd (grind (arith, e))

none_before : {X : Type 0} (xs : List X) (n : ℕ) → xs ≡ [] → take n xs ≡ []
none_before [] zero e = refl
none_before [] (suc n) e = refl
none_before (x ∷ xs) n e = absurd (grind (arith, e))

-- none of them, where a zone has no sets
pub of_none : (zones : List Zone) (group : Group) → placed_in zones group.zone ≡ []
    → [] ≡ slots_in zones group
of_none zones group none =
    let all = placed_in zones group.zone in
    sym (ap (λ (ps : List Slotted). map slot_of ps)
    (none_before (drop group.start all) group.length (none_behind all group.start none)))

-- a group stands within the sets of its zone
pub within : (zones : List Zone) (group : Group) → IsGroupNow zones group
    → group.start + group.length ≤ length (placed_in zones group.zone)
within zones group (name, rtype, is) =
    let fits = is.sets.within in
    let many = length-map (placed_in zones group.zone) (λ (p : Slotted). p.set) in
    omega (arith, fits, many)

-- the same of the slots
pub within_order : (slots : List (Option Kept)) (zones : List Zone) (group : Group) (order : List ℕ)
    → placed_in zones group.zone ≡ slotted_of slots group.zone order
    → group.start + group.length ≤ length (placed_in zones group.zone)
    → group.start + group.length ≤ length order
within_order slots zones group order placed fits =
    let same = ap (λ (ps : List Slotted). length ps) placed in
    let many = length-map order (slotted_at (set_in slots group.zone)) in
    omega (arith, fits, same, many)
