-- Marks of where walks start, round by round.
use Rattle.std.proofs.Common.{◌≡◌, ℕ, ◌+◌, ◌<◌, List, [], ◌∷◌, ◌++◌, length, sym, subst, ◌∙◌, Bool}
use Rattle.std.proofs.Common.{true, Option, None, Some, arith, inl, inr}
use Rattle.std.specs.Prelude.{◌⊎◌, ◌↔◌, slice_get, is_none}
use Rattle.std.proofs.lemmas.Option.{slice_get_within}
use Rattle.set_search.specs.Reasons.{IsAlias}
use Rattle.set_search.specs.RecordSetRecord.{RecordSet}
use Rattle.set_search.specs.Walks.{StartsWalk, IsTooDeep}
use Rattle.set_search.specs.Zones.{IsAmong, target_group}
use Rattle.alias_tree.specs.declared.targets.Target.{Target}
use Rattle.alias_tree.specs.Firsts.{IsFirstPlace}
use Rattle.alias_tree.specs.Marks.{IsMarked, IsMarkedWithin, AreLedOn, IsFirstMark}
use Rattle.alias_tree.specs.Starts.{AreStarts}
use Rattle.alias_tree.specs.Targets.{IsTargetOf, AreTargets, AreWithin}
use Rattle.alias_tree.proofs.Lists.{filled, among_at, at_end, among_these, place_of_these}
use Rattle.alias_tree.proofs.Walking.{walks_begin, walks_go_on, alias_of_some, shorter_walk}

module _ (sets : List RecordSet) where
  -- the first mark is at the first set at which a walk starts
  pub first_start : (marks : List Bool) → AreStarts sets 17 marks → (first : Option ℕ)
      → IsFirstMark marks first → IsFirstPlace (IsTooDeep sets) sets first
  first_start marks starts None none = λ i lt h. none i ((starts.each i h.0 h.1).1 h.2)
  first_start marks starts (Some i) is =
      let size = starts.one_each in
      let inside = slice_get_within marks i true is.0 in
      let set = filled sets i (omega (arith, size, inside)) in (
        (set.0, set.1, (starts.each i set.0 set.1).0 is.0),
        λ j lt h. is.1 j lt ((starts.each j h.0 h.1).1 h.2),
      )

  -- where no walk of so many links starts, no longer one does
  pub none_longer : (marks : List Bool) (n more : ℕ) → n < more → AreStarts sets (n + 1) marks
      → ((i : ℕ) → IsMarked marks i → ⊥) → AreStarts sets more marks
  none_longer marks n more lt starts none = record {
    one_each = starts.one_each;
    each = λ i set at. (
      λ m. absurd (none i m),
      λ w. absurd (none i ((starts.each i set at).1 (shorter_walk sets set n more lt w))),
    );
  }

  -- walks of one link start at the aliases
  pub first_round : (marks : List Bool) → length marks ≡ length sets
      → ((i : ℕ) (set : RecordSet) → i < length marks → slice_get sets i ≡ Some set
      → IsMarked marks i ↔ IsAlias set.body)
      → AreStarts sets 1 marks
  first_round marks size each = record {
    one_each = size;
    each = λ i set at.
        let below = slice_get_within sets i set at in
        let here = each i set (omega (arith, size, below)) at in
        let begin = walks_begin sets set in
        (λ m. begin.1 (among_at sets i set at, here.0 m), λ w. here.1 (begin.0 w).1);
  }

  -- the target groups of the first sets, and that of one more
  pub one_more : (targets : List Target) (set : RecordSet) (target : Target)
      → ((i : ℕ) (x : RecordSet) (t : Target) → slice_get sets i ≡ Some x → slice_get targets i ≡ Some t
      → IsTargetOf sets x t)
      → slice_get sets (length targets) ≡ Some set → IsTargetOf sets set target
      → (i : ℕ) (x : RecordSet) (t : Target) → slice_get sets i ≡ Some x
      → slice_get (targets ++ target ∷ []) i ≡ Some t → IsTargetOf sets x t
  one_more targets set target each at_set is_target i x t at_x at_t = by (at_end targets target i t at_t)
    where
      by : (slice_get targets i ≡ Some t) ⊎ ((i ≡ length targets) × (target ≡ t)) → IsTargetOf sets x t
      by (inl there) = each i x t at_x there
      by (inr last) =
          let here : slice_get sets (length targets) ≡ Some x =
          subst (λ k. slice_get sets k ≡ Some x) last.0 at_x in
          let same : set ≡ x = grind (arith, here, at_set) in
          subst (λ s. IsTargetOf sets s t) same (subst (λ u. IsTargetOf sets set u) last.1 is_target)

  module _ (targets : List Target) (aimed : AreTargets sets targets) where
    pub inside : AreWithin targets (length sets)
    inside i target at =
        let size = aimed.one_each in
        let below = slice_get_within targets i target at in
        let set = filled sets i (omega (arith, size, below)) in
        (aimed.each i set.0 target set.1 at).within

    module _ (n : ℕ) (positive : 0 < n) (marks next : List Bool) (starts : AreStarts sets n marks)
        (led : AreLedOn targets marks next) where
      there : (set : RecordSet) (target : Target) → IsTargetOf sets set target → IsAmong sets set
          → IsMarkedWithin marks target → StartsWalk sets set (n + 1)
      there set target is_target among m =
          let size = starts.one_each in
          let below = slice_get_within marks m.0 true m.3 in
          let other = filled sets m.0 (omega (arith, size, below)) in
          let member : IsAmong (target_group sets set) other.0 =
          subst (λ l. IsAmong l other.0) is_target.members
          (among_these sets target.start target.count m.0 other.0 m.1 m.2 other.1) in
          (walks_go_on sets set n positive).1 (
            among,
            alias_of_some sets set other.0 member,
            other.0,
            member,
            (starts.each m.0 other.0 other.1).0 m.3,
          )

      back : (set : RecordSet) (target : Target) → IsTargetOf sets set target
          → StartsWalk sets set (n + 1) → IsMarkedWithin marks target
      back set target is_target w =
          let h = (walks_go_on sets set n positive).0 w in
          let place =
          place_of_these sets target.start target.count h.2
          (subst (λ l. IsAmong l h.2) (sym is_target.members) h.3) in
          (place.0, place.1, place.2, (starts.each place.0 h.2 place.3).1 h.4)

      pub next_round : AreStarts sets (n + 1) next
      next_round = record {
        one_each = led.one_each ∙ aimed.one_each;
        each = λ i set at.
            let size = aimed.one_each in
            let below = slice_get_within sets i set at in
            let target = filled targets i (omega (arith, size, below)) in
            let is_target = aimed.each i set target.0 at target.1 in
            let led_here = led.each i target.0 target.1 in (
              λ m. there set target.0 is_target (among_at sets i set at) (led_here.0 m),
              λ w. led_here.1 (back set target.0 is_target w),
            );
      }

-- where there is no first mark there is none
pub none_marked : (marks : List Bool) (first : Option ℕ) → IsFirstMark marks first → is_none first ≡ true
    → (i : ℕ) → IsMarked marks i → ⊥
none_marked marks None none e = none
none_marked marks (Some i) is e = absurd (grind (arith, e))
