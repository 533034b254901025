-- Names with the label `*`, told by how many sets have a name with its octet.
use Rattle.std.proofs.Common.{◌≡◌, ◌≤◌, ◌<◌, ◌%◌, ◌^◌, ◌==◌, ℕ, List, [], ◌∷◌, ◌++◌, length, refl, ap, ◌∙◌, sym, Bool, true, false, subst, arith, inl, inr}
use Rattle.std.specs.Prelude.{◌||◌}
use Rattle.std.specs.List.{flat_map}
use Rattle.std.proofs.lemmas.Bool.{false≢true}
use Rattle.std.proofs.lemmas.List.{append_assoc}
use Rattle.std.proofs.lemmas.List.Folds.{list_any-append}
use Rattle.std.proofs.lemmas.List.Sums.{sum_by-cons}
use Rattle.zone_list.specs.Labels.{frame, wire}
use Rattle.zone_list.specs.RecordSetRecord.{RecordSet}
use Rattle.zone_list.specs.Sums.{one_of, starred_in, starred_of}
use Rattle.zone_list.specs.Stars.{has_star, is_starred}
use Rattle.zone_list.specs.Slotted.{Slotted, sets_of}
use Rattle.zone_list.specs.Sets.{IsAmong}
use Rattle.zone_list.specs.Stored.{Slots}
use Rattle.zone_list.specs.Kept.{AreIntact, Listed, zones_in}
use Rattle.zone_list.specs.Zones.{placed_in}
use Rattle.zone_finding.specs.Counted.{AreCounted}
use Rattle.zone_finding.specs.Looking.{HasNoStar}
use Rattle.zone_finding.proofs.Totals.{few_in}

one_at_most : (b : Bool) → one_of b ≤ 1
one_at_most false = omega arith
one_at_most true = omega arith

few_starred : (placed : List Slotted) → starred_of placed ≤ length placed
few_starred [] = omega arith
few_starred (p ∷ placed) =
    let one = one_at_most (is_starred p.set) in
    let rest = few_starred placed in
    let sum = sum_by-cons starred_in p placed in
    omega (arith, one, rest, sum)

or_right : (x y : Bool) → y ≡ true → (x || y) ≡ true
or_right true y e = refl
or_right false y e = e

-- the octets of a name with the label have its octet
star_in : (first rest : List (List ℕ)) → has_star (wire (first ++ (0x2A ∷ []) ∷ rest)) ≡ true
star_in [] rest = refl
star_in (label ∷ first) rest =
    let behind = flat_map frame (first ++ (0x2A ∷ []) ∷ rest) in
    ap has_star (append_assoc (frame label) behind (0 ∷ []))
    ∙ (list_any-append (λ b. b == 0x2A) (frame label) (behind ++ 0 ∷ [])
    ∙ or_right (has_star (frame label)) (has_star (behind ++ 0 ∷ [])) (star_in first rest))

no_one : (b : Bool) → one_of b ≡ 0 → b ≡ false
no_one false e = refl
no_one true e = absurd (omega (arith, e))

none_starred : (placed : List Slotted) → starred_of placed ≡ 0 → (set : RecordSet)
    → IsAmong (sets_of placed) set → is_starred set ≡ false
none_starred [] none set there = absurd there
none_starred (p ∷ placed) none set (inl e) =
    let sum = sum_by-cons starred_in p placed in
    let one : starred_in p ≡ 0 = omega (arith, sum, none) in
    subst (λ (s : RecordSet). is_starred s ≡ false) e (no_one (is_starred p.set) one)
none_starred (p ∷ placed) none set (inr there) =
    let sum = sum_by-cons starred_in p placed in
    none_starred placed (omega (arith, sum, none)) set there

module _ (store : Slots) (list : List Listed) (octets : ℕ) (kept : AreIntact store.slots list)
    (counted : AreCounted store list octets) (few : length store.slots < 2 ^ 32) where
  -- what a zone counts tells that no set of it has such a name
  pub none_in : (id n : ℕ) → n ≡ starred_of (placed_in (zones_in store.slots list) id) % 2 ^ 64
      → n ≡ 0 → HasNoStar (zones_in store.slots list) id
  none_in id n is none = λ set there first rest same.
      let placed : List Slotted = placed_in (zones_in store.slots list) id in
      let many : length placed < 2 ^ 32 = few_in store list octets kept counted few id in
      let some = few_starred placed in
      let zero : starred_of placed ≡ 0 = omega (arith, is, none, many, some) in
      false≢true (sym (none_starred placed zero set there)
      ∙ (ap (λ (n : List (List ℕ)). has_star (wire n)) same ∙ star_in first rest))
