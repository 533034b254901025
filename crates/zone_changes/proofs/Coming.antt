-- A set that is found by its key, and gives way or goes.
use Rattle.std.proofs.Common.{◌≡◌, ℕ, List, [], ◌++◌, Option, Some, set, ap, ◌∙◌, sym}
use Rattle.std.specs.Prelude.{slice_get, option_map}
use Rattle.std.specs.List.{AllByRecursion}
use Rattle.std.proofs.lemmas.Option.{slice_get-map}
use Rattle.zone_order.specs.RecordSetRecord.{RecordSet}
use Rattle.zone_order.specs.SetKeyRecord.{SetKey}
use Rattle.zone_order.specs.Sets.{key_of}
use Rattle.zone_order.specs.Laws.{OneSpelling}
use Rattle.zone_order.specs.Found.{FindsAt}
use Rattle.zone_order.specs.Stored.{Spells}
use Rattle.zone_order.specs.Slotted.{IsRemoved, IsTakenAt, Slotted, sets_of}
use Rattle.zone_order.specs.Orders.{HasSet, slotted_by}
use Rattle.zone_order.proofs.Orders.{at_place}
use Rattle.zone_changes.specs.Coming.{IsReplaced}

-- octets are those of one set
pub one_spelled : OneSpelling → (octets : List ℕ) (one other : RecordSet) → Spells octets one
    → Spells octets other → one ≡ other
one_spelled law octets one other is also =
    (law one other [] [] is.is also.is is.has_spelling also.has_spelling
    (ap (λ xs. xs ++ []) (sym is.same ∙ also.same))).0

same_set : (o : Option RecordSet) (x y : RecordSet) → o ≡ Some x → o ≡ Some y → x ≡ y
same_set o x y e f = cc

-- the set in a slot of the order, told by its place
pub set_there : (get : ℕ → Option RecordSet) (order : List ℕ) → AllByRecursion (λ k. HasSet get k) order
    → (i k : ℕ) (was : RecordSet) → slice_get order i ≡ Some k
    → slice_get (sets_of (slotted_by get order)) i ≡ Some was
    → slice_get (slotted_by get order) i ≡ Some (record { slot = k; set = was })
set_there get order present i k was at is =
    let found = at_place get order present i k at in
    let same : found.0 ≡ was = same_set (slice_get (sets_of (slotted_by get order)) i) found.0 was
    (slice_get-map (λ (p : Slotted). p.set) (slotted_by get order) i
    ∙ ap (λ (o : Option Slotted). option_map (λ (p : Slotted). p.set) o) found.2) is in
    found.2 ∙ ap (λ (s : RecordSet). Some (record { slot = k; set = s })) same

pub gives_way : (get : ℕ → Option RecordSet) (order : List ℕ) → AllByRecursion (λ k. HasSet get k) order
    → (i k : ℕ) (it : RecordSet) (after : List Slotted) → slice_get order i ≡ Some k
    → FindsAt (sets_of (slotted_by get order)) (key_of it) i
    → after ≡ set (slotted_by get order) i (record { slot = k; set = it })
    → IsReplaced (slotted_by get order) (record { slot = k; set = it }) after
gives_way get order present i k it after at found is = record {
  at = i;
  was = found.kept;
  there = set_there get order present i k found.kept at found.there;
  same_key = found.same_key;
  replaced = is;
}

same_placed : (o : Option Slotted) (x y : Slotted) → o ≡ Some x → o ≡ Some y → x ≡ y
same_placed o x y e f = cc

pub goes_by_key : (before : List Slotted) (key : SetKey) (i slot : ℕ) (after : List Slotted)
    → FindsAt (sets_of before) key i
    → IsTakenAt before i slot after → IsRemoved before key slot after
goes_by_key before key i slot after found taken = record {
  at = i;
  taken = taken;
  same_key =
      ap key_of (same_set (slice_get (sets_of before) i) taken.set found.kept
      (slice_get-map (λ (p : Slotted). p.set) before i
      ∙ ap (λ (o : Option Slotted). option_map (λ (p : Slotted). p.set) o) taken.there) found.there)
      ∙ found.same_key;
}
