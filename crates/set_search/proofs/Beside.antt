-- A set of a group, and one beside it that isn't of it.
use Rattle.std.proofs.Common.{◌≡◌, ℕ, ◌+◌, ◌-◌, ◌<◌, ◌≤◌, List, length, ap, ◌∙◌, sym, refl, true, false, Some, ◌⊎◌, inl, inr, Less, Equal, Greater, subst, arith}
use Rattle.std.specs.Prelude.{slice_get, not, ◌≢◌, ◌==◌}
use Rattle.std.specs.Bool.{Decides}
use Rattle.std.specs.declared.cmp.Ordering.{Ordering}
use Rattle.std.specs.Ordering.{is_gt, is_lt, is_eq}
use Rattle.std.proofs.lemmas.Bool.{cases_lt}
use Rattle.std.proofs.lemmas.Bool.Decides.{Decides-eqb, Decides-and}
use Rattle.std.proofs.lemmas.Option.{slice_get_within}
use Rattle.zone_model.specs.OrderOfDnsName.{same_labels}
use Rattle.zone_model.specs.OrderLaws.{same_labels-Decides}
use Rattle.zone_model.specs.Types.{number_of}
use Rattle.zone_model.specs.RTypeRecord.{RType}
use Rattle.zone_model.specs.RecordSetRecord.{RecordSet}
use Rattle.zone_model.specs.Zones.{IsRising, is_of_group}
use Rattle.zone_model.proofs.Ordered.{one_number}
use Rattle.set_search.specs.declared.bounds.Bound.{Bound}
use Rattle.set_search.specs.declared.bounds.Bound.TheVariants as bound
use Rattle.set_search.specs.Bounds.{is_before, group_cmp}
use Rattle.set_search.specs.Found.{EndsBetween, IsBracket, IsCount, IsPastName, IsSetOfGroupAt, IsOf}
use Rattle.set_search.proofs.Lookups.{all_before, filled, low_up, high_down}
use Rattle.set_search.proofs.Together.{before_start, below_not_above, first_key, of_group}

-- the test of a group
of_test : (name : List (List ℕ)) (rtype : RType) (x : RecordSet)
    → Decides (is_of_group name rtype x) (IsOf name rtype x)
of_test name rtype x =
    let all =
    Decides-and (same_labels name x.name) (number_of rtype == number_of x.rtype)
    (same_labels-Decides name x.name) (Decides-eqb (number_of rtype) (number_of x.rtype)) in (
      (λ e. let b = all.0 e in (sym b.0, sym (one_number rtype x.rtype b.1))),
      λ g. all.1 (sym g.0, ap number_of (sym g.1)),
    )

equal : (o : Ordering) → is_eq o ≡ true → o ≡ Equal
equal Less e = absurd (grind (arith, e))
equal Equal e = refl
equal Greater e = absurd (grind (arith, e))

-- all of a list stands between its ends
pub whole : (sets : List RecordSet) (b : Bound) → IsBracket sets b 0 (length sets)
whole sets b = record {
  order = omega arith;
  within = omega arith;
  before = λ k x lt at. absurd (omega (arith, lt));
  behind =
      λ k x le at. absurd (let within = slice_get_within sets k x at in omega (arith, le, within));
}

module _ (name : List (List ℕ)) (rtype : RType) where
  tied : (x : RecordSet) → IsOf name rtype x → group_cmp x name rtype ≡ Equal
  tied x is = equal (group_cmp x name rtype)
      (sym (of_group name rtype x) ∙ (of_test name rtype x).1 is)

  untied : (x : RecordSet) → (IsOf name rtype x → ⊥) → group_cmp x name rtype ≢ Equal
  untied x none e = none ((of_test name rtype x).0 (of_group name rtype x ∙ ap is_eq e))

  starts : (x : RecordSet) → IsOf name rtype x
      → is_before (bound.From (first_key name rtype)) x ≡ false
  starts x is = before_start name rtype x ∙ ap is_lt (tied x is)

  ends : (x : RecordSet) → IsOf name rtype x → is_before (bound.PastGroup name rtype) x ≡ true
  ends x is = ap (λ o. not (is_gt o)) (tied x is)

  module _ (sets : List RecordSet) (rising : IsRising sets) (place : ℕ)
      (member : IsSetOfGroupAt sets name rtype place) where
    within : place < length sets
    within = slice_get_within sets place member.0 member.1

    not_from : IsBracket sets (bound.From (first_key name rtype)) 0 place
    not_from =
        high_down sets (bound.From (first_key name rtype)) rising 0 (length sets) place member.0
        (whole sets (bound.From (first_key name rtype))) (omega arith) within member.1
        (starts member.0 member.2)

    pub from_first : place ≡ 0 → IsCount sets (bound.From (first_key name rtype)) 0
    from_first e =
        subst (λ n. IsBracket sets (bound.From (first_key name rtype)) 0 n) e not_from

    -- one in front of a member that is none stands before the group
    front : (y : RecordSet) → 0 < place → slice_get sets (place - 1) ≡ Some y
        → (IsOf name rtype y → ⊥) → is_before (bound.From (first_key name rtype)) y ≡ true
    front y some at none = by (group_cmp y name rtype) refl
      where
        by : (o : Ordering) → group_cmp y name rtype ≡ o
            → is_before (bound.From (first_key name rtype)) y ≡ true
        by Less e = before_start name rtype y ∙ ap is_lt e
        by Equal e = absurd (untied y none e)
        by Greater e =
            let up : is_before (bound.PastGroup name rtype) y ≡ true =
            all_before sets (bound.PastGroup name rtype) rising (place - 1) place y member.0
            (omega arith) at member.1 (ends member.0 member.2) in
            absurd (grind (arith, up, e))

    pub from_here : (y : RecordSet) → 0 < place → slice_get sets (place - 1) ≡ Some y
        → (IsOf name rtype y → ⊥) → IsCount sets (bound.From (first_key name rtype)) place
    from_here y some at none =
        let e : place - 1 + 1 ≡ place = omega (arith, some) in
        subst (λ n. IsBracket sets (bound.From (first_key name rtype)) n place) e
        (low_up sets (bound.From (first_key name rtype)) rising 0 place (place - 1) y not_from
        (omega arith) (omega (arith, some)) at (front y some at none))

    up_to : (high : ℕ) → place + 1 ≤ high → IsBracket sets (bound.PastGroup name rtype) 0 high
        → IsBracket sets (bound.PastGroup name rtype) (place + 1) high
    up_to high below bracket =
        low_up sets (bound.PastGroup name rtype) rising 0 high place member.0 bracket (omega arith)
        (omega (arith, below)) member.1 (ends member.0 member.2)

    -- the group ends somewhere behind a member
    pub ends_somewhere : EndsBetween sets name rtype place (length sets)
    ends_somewhere = record {
      member = member;
      bracket = up_to (length sets) (let w = within in omega (arith, w))
          (whole sets (bound.PastGroup name rtype));
    }

    -- one behind a member that is none stands behind the group
    back : (high : ℕ) (y : RecordSet) → place < high → slice_get sets high ≡ Some y
        → (IsOf name rtype y → ⊥) → is_before (bound.PastGroup name rtype) y ≡ false
    back high y above at none = by (group_cmp y name rtype) refl
      where
        by : (o : Ordering) → group_cmp y name rtype ≡ o
            → is_before (bound.PastGroup name rtype) y ≡ false
        by Less e =
            let low : is_before (bound.From (first_key name rtype)) member.0 ≡ true =
            all_before sets (bound.From (first_key name rtype)) rising place high member.0 y
            (omega (arith, above)) member.1 at (before_start name rtype y ∙ ap is_lt e) in
            absurd (let not_low = starts member.0 member.2 in grind (arith, low, not_low))
        by Equal e = absurd (untied y none e)
        by Greater e = ap (λ o. not (is_gt o)) e

    pub ends_before : (high : ℕ) (y : RecordSet) → place < high → slice_get sets high ≡ Some y
        → (IsOf name rtype y → ⊥) → EndsBetween sets name rtype place high
    ends_before high y above at none =
        let w = slice_get_within sets high y at in
        record {
          member = member;
          bracket = up_to high (omega (arith, above))
              (high_down sets (bound.PastGroup name rtype) rising 0 (length sets) high y
              (whole sets (bound.PastGroup name rtype)) (omega arith) w at (back high y above at none));
        }

    -- a place behind all of the name
    pub ends_past : (high : ℕ) → IsPastName sets place high
        → EndsBetween sets name rtype place high
    ends_past high past = by (cases_lt high (length sets))
      where
        by : (high < length sets) ⊎ (length sets ≤ high) → EndsBetween sets name rtype place high
        by (inl inside) =
            let y = filled sets high inside in
            ends_before high y.0 past.above y.1
            (λ is. past.apart inside member.0 y.0 member.1 y.1 (member.2.0 ∙ sym is.0))
        by (inr outside) =
            let e : length sets ≡ high = (let w = past.within in omega (arith, outside, w)) in
            subst (λ n. EndsBetween sets name rtype place n) e ends_somewhere

    -- nothing stands behind a member
    pub ends_last : length sets ≤ place + 1 → IsCount sets (bound.PastGroup name rtype) (place + 1)
    ends_last last =
        let e : length sets ≡ place + 1 = (let w = within in omega (arith, last, w)) in
        subst (λ n. IsBracket sets (bound.PastGroup name rtype) (place + 1) n) e
        ends_somewhere.bracket

  -- a later member
  pub ends_later : (sets : List RecordSet) → IsRising sets → (last high later : ℕ)
      → later < high → EndsBetween sets name rtype last high → IsSetOfGroupAt sets name rtype later
      → EndsBetween sets name rtype later high
  ends_later sets rising last high later below ends member = record {
    member = member;
    bracket =
        let up = up_to sets rising later member (length sets)
        (let w = slice_get_within sets later member.0 member.1 in omega (arith, w))
        (whole sets (bound.PastGroup name rtype)) in
        record {
          order = omega (arith, below);
          within = ends.bracket.within;
          before = up.before;
          behind = ends.bracket.behind;
        };
  }

  module _ (sets : List RecordSet) (rising : IsRising sets) (start : ℕ)
      (from : IsCount sets (bound.From (first_key name rtype)) start) where
    -- what stands before a group stands before its end
    to_start : IsBracket sets (bound.PastGroup name rtype) start (length sets)
    to_start = record {
      order = from.within;
      within = omega arith;
      before = λ k x lt at. below_not_above (group_cmp x name rtype)
          (sym (before_start name rtype x) ∙ from.before k x lt at);
      behind = λ k x le at. absurd (let inside = slice_get_within sets k x at in omega
          (arith, le, inside));
    }

    pub none_left : length sets ≤ start → IsCount sets (bound.PastGroup name rtype) start
    none_left last =
        let e : length sets ≡ start = (let w = from.within in omega (arith, last, w)) in
        subst (λ n. IsBracket sets (bound.PastGroup name rtype) start n) e to_start

    -- one at the start that isn't of the group stands behind it
    behind_all : (y : RecordSet) → slice_get sets start ≡ Some y → (IsOf name rtype y → ⊥)
        → is_before (bound.PastGroup name rtype) y ≡ false
    behind_all y at none = by (group_cmp y name rtype) refl
      where
        by : (o : Ordering) → group_cmp y name rtype ≡ o
            → is_before (bound.PastGroup name rtype) y ≡ false
        by Less e =
            let low : is_before (bound.From (first_key name rtype)) y ≡ true =
            before_start name rtype y ∙ ap is_lt e in
            absurd (let not_low = from.behind start y (omega arith) at in grind (arith, low, not_low))
        by Equal e = absurd (untied y none e)
        by Greater e = ap (λ o. not (is_gt o)) e

    pub none_here : (y : RecordSet) → slice_get sets start ≡ Some y → (IsOf name rtype y → ⊥)
        → IsCount sets (bound.PastGroup name rtype) start
    none_here y at none =
        high_down sets (bound.PastGroup name rtype) rising start (length sets) start y to_start
        (omega arith) (slice_get_within sets start y at) at (behind_all y at none)
