-- The first refusal of sets, and of several rules.
use Rattle.std.proofs.Common.{◌≡◌, ℕ, zero, suc, ◌+◌, ◌<◌, ◌≤◌, List, [], ◌∷◌, length, drop, map, ap, ◌∙◌}
use Rattle.std.proofs.Common.{sym, refl, arith, inl, inr, Option, None, Some}
use Rattle.std.specs.Prelude.{slice_get}
use Rattle.zone_model.specs.Differences.{AreMissing}
use Rattle.config_zones.specs.Batches.{first_among}
use Rattle.config_zones.specs.Telling.{first_of}
use Rattle.config_zones.specs.RefusalRecord.{Refusal}
use Rattle.record_set.specs.declared.sets.RecordSet.{RecordSet}
use Rattle.config_zones.proofs.MembersOfZoneList.{left_at, nothing_left}
use Rattle.zone_model.specs.Zones.{IsAmong}

-- ---- several rules

-- what is looked at in three groups of rules
pub in_groups : (a b c d e f s : Option Refusal)
    → first_of (first_of (a ∷ b ∷ c ∷ d ∷ e ∷ f ∷ []) ∷ s ∷ [])
    ≡ first_of (first_of (a ∷ b ∷ c ∷ []) ∷ first_of (d ∷ e ∷ []) ∷ first_of (f ∷ s ∷ []) ∷ [])
in_groups (Some x) b c d e f s = refl
in_groups None (Some x) c d e f s = refl
in_groups None None (Some x) d e f s = refl
in_groups None None None (Some x) e f s = refl
in_groups None None None None (Some x) f s = refl
in_groups None None None None None (Some x) s = refl
in_groups None None None None None None (Some x) = refl
in_groups None None None None None None None = refl

-- ---- sets in their order

module _ (refuses : RecordSet → Option Refusal) where
  after_first : (told : Option Refusal) (x y : List (Option Refusal))
      → first_of x ≡ first_of y → first_of (told ∷ x) ≡ first_of (told ∷ y)
  after_first None x y e = e
  after_first (Some why) x y e = refl

  -- where all sets that were there before are let through, those that are new decide
  pub new_decide : (after before found : List RecordSet) → AreMissing after before found
      → ((set : RecordSet) → IsAmong before set → refuses set ≡ None)
      → first_among refuses after ≡ first_among refuses found
  new_decide [] before found missing none = ap (first_among refuses) (sym missing)
  new_decide (set ∷ after) before found (inl (old, rest)) none =
      ap (λ (told : Option Refusal). first_of (told ∷ map refuses after)) (none set old)
      ∙ new_decide after before found rest none
  new_decide (set ∷ after) before found (inr (new, (rest, is, missing))) none =
      after_first (refuses set) (map refuses after) (map refuses rest)
      (new_decide after before rest missing none)
      ∙ ap (first_among refuses) (sym is)

  -- the first that is refused decides
  pub first_decides : (sets : List RecordSet) (i : ℕ) (set : RecordSet) (why : Refusal)
      → slice_get sets i ≡ Some set → refuses set ≡ Some why
      → ((j : ℕ) (other : RecordSet) → j < i → slice_get sets j ≡ Some other
      → refuses other ≡ None)
      → first_among refuses sets ≡ Some why
  first_decides [] i set why at is none = absurd (grind (arith, at))
  first_decides (x ∷ sets) zero set why at is none =
      let same : x ≡ set = grind (arith, at) in
      ap (λ (told : Option Refusal). first_of (told ∷ map refuses sets)) (ap refuses same ∙ is)
  first_decides (x ∷ sets) (suc i) set why at is none =
      ap (λ (told : Option Refusal). first_of (told ∷ map refuses sets))
      (none 0 x (omega arith) refl)
      ∙ first_decides sets i set why at is
      (λ j other lt there. none (suc j) other (omega (arith, lt)) there)

  -- ---- one set after another

  -- the first refusal of what is left is that of all
  abbrev pub IsAsInAll : List RecordSet → (i : ℕ) → Type 0
  IsAsInAll sets i = first_among refuses (drop i sets) ≡ first_among refuses sets

  module _ (sets : List RecordSet) (i : ℕ) (before : IsAsInAll sets i) where
    first_left : (set : RecordSet) → slice_get sets i ≡ Some set → (told : Option Refusal)
        → refuses set ≡ told
        → first_among refuses (drop i sets)
        ≡ first_of (told ∷ map refuses (drop (i + 1) sets))
    first_left set at told e =
        ap (first_among refuses) (left_at sets i set at)
        ∙ ap (λ (t : Option Refusal). first_of (t ∷ map refuses (drop (i + 1) sets))) e

    pub this_one : (set : RecordSet) → slice_get sets i ≡ Some set → (why : Refusal)
        → Some why ≡ refuses set → Some why ≡ first_among refuses sets
    this_one set at why e = sym (first_left set at (Some why) (sym e)) ∙ before

    pub not_this : (set : RecordSet) → slice_get sets i ≡ Some set → None ≡ refuses set
        → IsAsInAll sets (i + 1)
    not_this set at e = sym (first_left set at None (sym e)) ∙ before

    pub none_left : length sets ≤ i → None ≡ first_among refuses sets
    none_left le = sym (ap (first_among refuses) (nothing_left sets i le)) ∙ before
