-- Keys that rise, and keys of which none is named twice.
use Rattle.std.proofs.Common.{◌≡◌, ◌≢◌, List, [], ◌∷◌, Less, Equal, Some, refl, subst, sym}
use Rattle.std.proofs.Common.{arith}
use Rattle.std.specs.Prelude.{◌↔◌, slice_get}
use Rattle.std.specs.List.{AllByRecursion}
use Rattle.std.proofs.lemmas.Cmp.{tied_itself}
use Rattle.zone_table.specs.SetsOfRecordSet.{key_of}
use Rattle.zone_table.specs.RecordSetRecord.{RecordSet}
use Rattle.zone_table.specs.SetKeyRecord.{SetKey}
use Rattle.zone_table.specs.Changes.{AreThere, DifferByKey}
use Rattle.zone_table.proofs.Ordered.{keys_total}
use Rattle.zone_table.specs.Keys.{key_cmp}
use Rattle.zone_table.specs.Placing.{IsThere}
use Rattle.zone_table.specs.Sets.{IsRising}
use Rattle.zone_allowed.specs.Apart.{AreApart}

-- a key before the first of rising ones is before all
before_all : (key : SetKey) (others : List RecordSet) → IsRising others
    → ((other : RecordSet) → slice_get others 0 ≡ Some other → key_cmp key (key_of other) ≡ Less)
    → AllByRecursion (λ later. key_cmp key (key_of later) ≡ Less) others
before_all key [] rising first = tt
before_all key (next ∷ others) rising first = (lower, go others rising.0)
  where
    lower : key_cmp key (key_of next) ≡ Less
    lower = first next refl

    go : (rest : List RecordSet)
        → AllByRecursion (λ later. key_cmp (key_of next) (key_of later) ≡ Less) rest
        → AllByRecursion (λ later. key_cmp key (key_of later) ≡ Less) rest
    go [] all = tt
    go (later ∷ rest) all =
        (keys_total.trans key (key_of next) (key_of later) lower all.0, go rest all.1)

pub rising_with : (set : RecordSet) (others : List RecordSet) → IsRising others
    → ((other : RecordSet) → slice_get others 0 ≡ Some other
    → key_cmp (key_of set) (key_of other) ≡ Less)
    → IsRising (set ∷ others)
rising_with set others rising first = (before_all (key_of set) others rising first, rising)

pub rising_in : (sets others : List RecordSet) (set : RecordSet) → sets ≡ set ∷ others
    → IsRising others
    → ((other : RecordSet) → slice_get others 0 ≡ Some other
    → key_cmp (key_of set) (key_of other) ≡ Less)
    → IsRising sets
rising_in sets others set parts rising first =
    subst IsRising (sym parts) (rising_with set others rising first)

lower_differs : (key other : SetKey) → key_cmp key other ≡ Less → key ≢ other
lower_differs key other lower same =
    let tied = subst (λ k. key_cmp key k ≡ Equal) same (tied_itself keys_total key) in
    grind (arith, lower, tied)

-- rising keys differ
pub rising_differ : (sets : List RecordSet) → IsRising sets → DifferByKey sets
rising_differ [] rising = tt
rising_differ (set ∷ sets) rising = (go sets rising.0, rising_differ sets rising.1)
  where
    go : (rest : List RecordSet)
        → AllByRecursion (λ later. key_cmp (key_of set) (key_of later) ≡ Less) rest
        → AllByRecursion (λ other. key_of set ≢ key_of other) rest
    go [] all = tt
    go (later ∷ rest) all = (lower_differs (key_of set) (key_of later) all.0, go rest all.1)

-- keys are there, and none is named twice
pub there_apart : (sets : List RecordSet) (keys : List SetKey)
    → AreThere sets keys ↔ (AllByRecursion (IsThere sets) keys × AreApart keys)
there_apart sets [] = (λ there. (tt, tt), λ both. tt)
there_apart sets (key ∷ keys) = (
  λ there.
      let rest = (there_apart sets keys).0 there.2 in
      ((there.0, rest.0), (there.1, rest.1)),
  λ both. (both.0.0, both.1.0, (there_apart sets keys).1 (both.0.1, both.1.1)),
)
