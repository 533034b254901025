-- Marks of the sets of a group.
use Rattle.std.proofs.Common.{◌≡◌, ℕ, ◌+◌, ◌<◌, List, [], Bool, Option, Some, subst, arith, inl, inr}
use Rattle.std.specs.Prelude.{◌⊎◌, slice_get}
use Rattle.routing.specs.declared.policies.Routing.{Routing}
use Rattle.batch_model.specs.RecordSetRecord.{RecordSet}
use Rattle.batch_model.specs.Rules.{AreRivals, OwnPlace, BreaksAt}
use Rattle.zone_rules.specs.Marks.{hash_of, IsMarked, AreMarked}
use Rattle.zone_rules.specs.Groups.{IsStart}
use Rattle.zone_rules.proofs.Runs.{at_one, moved, up_to}

-- where a group begins, none of its sets has made a mark yet
pub none_to_mark : (sets : List RecordSet) (marks : List Bool) (start i : ℕ) → start ≡ i
    → AreMarked sets marks start i
none_to_mark sets marks start i e j x p from below at_j place =
    absurd (omega (arith, e, from, below))

-- the next set's group is the one whose sets have made their marks, or begins with that set
pub marked_on : (sets : List RecordSet) (marks : List Bool) (start next i : ℕ)
    → (next ≡ start) ⊎ (next ≡ i) → AreMarked sets marks start i → AreMarked sets marks next i
marked_on sets marks start next i (inl same) h =
    λ j x p from below at_j place. h j x p (omega (arith, same, from)) below at_j place
marked_on sets marks start next i (inr same) h = none_to_mark sets marks next i same

-- one set more has made its mark
pub marked_next : (sets : List RecordSet) (before after : List Bool) (start i : ℕ) (y : RecordSet)
    → slice_get sets i ≡ Some y
    → ((mark : Option ℕ) → IsMarked before mark → IsMarked after mark)
    → ((other : Routing) → AreRivals y.routing other → IsMarked after (hash_of other))
    → AreMarked sets before start i → AreMarked sets after start (i + 1)
marked_next sets before after start i y at_i kept marked h j x p from below at_j place =
    by (up_to j i (omega (arith, below)))
  where
    by : (j < i) ⊎ (j ≡ i) → IsMarked after (hash_of p)
    by (inl less) = kept (hash_of p) (h j x p from less at_j place)
    by (inr same) =
        marked p (subst (λ (s : RecordSet). AreRivals s.routing p)
        (at_one sets i x y (moved sets j i x same at_j) at_i) place)

-- a set whose mark was not made has the place of no set before it in its group
pub unmarked : (sets : List RecordSet) (marks : List Bool) (start i : ℕ) (y : RecordSet)
    → slice_get sets i ≡ Some y → IsStart sets start i → AreMarked sets marks start i
    → (IsMarked marks (hash_of y.routing) → ⊥) → BreaksAt OwnPlace sets [] i → ⊥
unmarked sets marks start i y at_i s marked no_mark (set, at_set, h) =
    let earlier = h.earlier in
    let from = (s.same h.at h.other set (omega (arith, earlier)) h.there at_set).1 h.one_group in
    let mark = marked h.at h.other set.routing from earlier h.there h.one_place in
    no_mark (subst (λ (r : RecordSet). IsMarked marks (hash_of r.routing))
    (at_one sets i set y at_set at_i) mark)
