-- A set of a name, whose type tells on which side of it the sets of another type stand.
use Rattle.std.proofs.Common.{◌≡◌, ℕ, ◌+◌, ◌-◌, ◌<◌, ◌≤◌, List, length, ap, ◌∙◌, sym, refl, true, false, Some, Less, Equal, Greater, subst, arith}
use Rattle.std.specs.Prelude.{slice_get, ◌≢◌}
use Rattle.std.specs.declared.cmp.Ordering.{Ordering}
use Rattle.std.specs.Ordering.{is_lt, nat_cmp, ordering_reverse, ordering_then}
use Rattle.std.specs.Cmp.{nat_cmp_is}
use Rattle.std.proofs.lemmas.Cmp.{tied_itself}
use Rattle.std.proofs.lemmas.Option.{slice_get_within}
use Rattle.zone_model.specs.OrderOfDnsName.{zone_cmp}
use Rattle.zone_model.specs.OrderLaws.{zone_cmp_total}
use Rattle.zone_model.specs.Types.{number_of}
use Rattle.zone_model.specs.RTypeRecord.{RType}
use Rattle.zone_model.specs.RecordSetRecord.{RecordSet}
use Rattle.zone_model.specs.Sets.{key_of}
use Rattle.zone_model.specs.Keys.{ident_cmp}
use Rattle.zone_model.specs.Zones.{IsRising}
use Rattle.zone_model.proofs.Ordered.{names_tie, one_number}
use Rattle.zone_model.proofs.Places.{rising_at}
use Rattle.set_search.specs.declared.bounds.Bound.TheVariants as bound
use Rattle.set_search.specs.Bounds.{is_before}
use Rattle.set_search.specs.Found.{IsBracket, IsCount, IsGroupAt, IsOf, IsTypedAt}
use Rattle.set_search.proofs.Beside.{whole, none_here, none_left}
use Rattle.set_search.proofs.Lookups.{low_up, high_down}
use Rattle.set_search.proofs.Together.{before_start, first_key, group_at}

-- a key that comes before another has no name behind the other's
name_not_above : (o p q : Ordering) → ordering_then (ordering_then o p) q ≡ Less → (o ≡ Greater) → ⊥
name_not_above Less p q e f = grind (arith, f)
name_not_above Equal p q e f = grind (arith, f)
name_not_above Greater p q e f = grind (arith, e)

-- two sets in zone order with other names are in the order of their names
names_rise : (x y : RecordSet) (o : Ordering) → zone_cmp x.name y.name ≡ o
    → ordering_then (ordering_then o (nat_cmp (number_of x.rtype) (number_of y.rtype)))
    (ident_cmp (key_of x).ident (key_of y).ident) ≡ Less → x.name ≢ y.name → o ≡ Less
names_rise x y Less e lower apart = refl
names_rise x y Equal e lower apart = absurd (apart (names_tie x.name y.name e))
names_rise x y Greater e lower apart = absurd (name_not_above Greater (nat_cmp (number_of x.rtype) (number_of y.rtype))
    (ident_cmp (key_of x).ident (key_of y).ident) lower refl)

rise : (x y : RecordSet)
    → ordering_then (ordering_then (zone_cmp x.name y.name) (nat_cmp (number_of x.rtype)
    (number_of y.rtype))) (ident_cmp (key_of x).ident (key_of y).ident) ≡ Less
    → x.name ≢ y.name → zone_cmp x.name y.name ≡ Less
rise x y lower apart = names_rise x y (zone_cmp x.name y.name) refl lower apart

module _ (name : List (List ℕ)) (rtype : RType) where
  by_type : (x : RecordSet) (o : Ordering) → x.name ≡ name
      → o ≡ nat_cmp (number_of x.rtype) (number_of rtype)
      → is_before (bound.From (first_key name rtype)) x ≡ is_lt o
  by_type x o same is =
      let tie : zone_cmp x.name name ≡ Equal =
      subst (λ (n : List (List ℕ)). zone_cmp x.name n ≡ Equal) same (tied_itself zone_cmp_total x.name) in
      before_start name rtype x
      ∙ (ap (λ (p : Ordering). is_lt (ordering_then p (nat_cmp (number_of x.rtype)
      (number_of rtype)))) tie ∙ ap is_lt (sym is))

  lower_before : (x : RecordSet) → x.name ≡ name → number_of x.rtype < number_of rtype
      → is_before (bound.From (first_key name rtype)) x ≡ true
  lower_before x same lt = by_type x Less same (nat_cmp_is _ _ Less lt)

  higher_not_before : (x : RecordSet) → x.name ≡ name → number_of rtype < number_of x.rtype
      → is_before (bound.From (first_key name rtype)) x ≡ false
  higher_not_before x same lt = by_type x Greater same (nat_cmp_is _ _ Greater lt)

  same_not_before : (x : RecordSet) → x.name ≡ name → number_of x.rtype ≡ number_of rtype
      → is_before (bound.From (first_key name rtype)) x ≡ false
  same_not_before x same e = by_type x Equal same (nat_cmp_is _ _ Equal e)

  other_behind : (x : RecordSet) → zone_cmp name x.name ≡ Less
      → is_before (bound.From (first_key name rtype)) x ≡ false
  other_behind x up =
      let down : zone_cmp x.name name ≡ Greater =
      zone_cmp_total.antisymm x.name name ∙ ap ordering_reverse up in
      before_start name rtype x
      ∙ ap (λ (p : Ordering). is_lt (ordering_then p (nat_cmp (number_of x.rtype)
      (number_of rtype)))) down

  other_before : (x : RecordSet) → zone_cmp x.name name ≡ Less
      → is_before (bound.From (first_key name rtype)) x ≡ true
  other_before x low =
      before_start name rtype x
      ∙ ap (λ (p : Ordering). is_lt (ordering_then p (nat_cmp (number_of x.rtype)
      (number_of rtype)))) low

  module _ (sets : List RecordSet) (rising : IsRising sets) (place number : ℕ)
      (typed : IsTypedAt sets name place number) where
    inside : place < length sets
    inside = slice_get_within sets place typed.0 typed.1

    -- where its type is lower, the group is behind it
    pub past_lower : number < number_of rtype
        → IsBracket sets (bound.From (first_key name rtype)) (place + 1) (length sets)
    past_lower lt =
        let lower : number_of typed.0.rtype < number_of rtype = let e = typed.3 in omega (arith, lt, e) in
        low_up sets (bound.From (first_key name rtype)) rising 0 (length sets) place typed.0
        (whole sets (bound.From (first_key name rtype))) (omega arith) inside typed.1
        (lower_before typed.0 typed.2 lower)

    -- where it is higher, the group is in front of it
    pub up_to_higher : number_of rtype < number
        → IsBracket sets (bound.From (first_key name rtype)) 0 place
    up_to_higher lt =
        let higher : number_of rtype < number_of typed.0.rtype = let e = typed.3 in omega (arith, lt, e) in
        high_down sets (bound.From (first_key name rtype)) rising 0 (length sets) place typed.0
        (whole sets (bound.From (first_key name rtype))) (omega arith) inside typed.1
        (higher_not_before typed.0 typed.2 higher)

    -- where nothing is in front of it that stands before the group, the group begins there
    pub starts_first : place ≡ 0 → number_of rtype < number
        → IsCount sets (bound.From (first_key name rtype)) 0
    starts_first e lt =
        subst (λ n. IsBracket sets (bound.From (first_key name rtype)) 0 n) e (up_to_higher lt)

    pub starts_here : number_of rtype < number → (y : RecordSet) → 0 < place
        → slice_get sets (place - 1) ≡ Some y → y.name ≢ name
        → IsCount sets (bound.From (first_key name rtype)) place
    starts_here lt y some at apart =
        let e : place - 1 + 1 ≡ place = omega (arith, some) in
        let lower = rising_at sets (place - 1) place y typed.0 rising (omega (arith, some)) at typed.1 in
        let names : zone_cmp y.name name ≡ Less =
        subst (λ (n : List (List ℕ)). zone_cmp y.name n ≡ Less) typed.2
        (rise y typed.0 lower (λ same. apart (same ∙ typed.2))) in
        subst (λ n. IsBracket sets (bound.From (first_key name rtype)) n place) e
        (low_up sets (bound.From (first_key name rtype)) rising 0 place (place - 1) y
        (up_to_higher lt) (omega arith) (omega (arith, some)) at (other_before y names))

    -- a set of another name behind it isn't of a group that is behind it
    behind_it : (y : RecordSet) → slice_get sets (place + 1) ≡ Some y → y.name ≢ name
        → is_before (bound.From (first_key name rtype)) y ≡ false
    behind_it y at apart =
        let lower = rising_at sets place (place + 1) typed.0 y rising (omega arith) typed.1 at in
        let names : zone_cmp name y.name ≡ Less =
        subst (λ (n : List (List ℕ)). zone_cmp n y.name ≡ Less) typed.2
        (rise typed.0 y lower (λ same. apart (sym same ∙ typed.2))) in
        other_behind y names

    ends_there : number < number_of rtype → (y : RecordSet) → slice_get sets (place + 1) ≡ Some y
        → is_before (bound.From (first_key name rtype)) y ≡ false
        → IsCount sets (bound.From (first_key name rtype)) (place + 1)
    ends_there lt y at not_before =
        high_down sets (bound.From (first_key name rtype)) rising (place + 1) (length sets) (place + 1) y
        (past_lower lt) (omega arith) (slice_get_within sets (place + 1) y at) at not_before

    empty_at : (n : ℕ) → IsCount sets (bound.From (first_key name rtype)) n
        → IsCount sets (bound.PastGroup name rtype) n → IsGroupAt sets name rtype n 0
    empty_at n from to =
        subst (λ k. IsGroupAt sets name rtype n k) (let e : n - n ≡ 0 = omega arith in e)
        (group_at name rtype sets n n from to)

    pub none_at_end : number < number_of rtype → length sets ≤ place + 1
        → IsGroupAt sets name rtype (place + 1) 0
    none_at_end lt last =
        let e : length sets ≡ place + 1 = let i = inside in omega (arith, last, i) in
        let from = subst (λ n. IsBracket sets (bound.From (first_key name rtype)) (place + 1) n) e
        (past_lower lt) in
        empty_at (place + 1) from (none_left name rtype sets rising (place + 1) from last)

    pub none_by_name : number < number_of rtype → (y : RecordSet)
        → slice_get sets (place + 1) ≡ Some y → y.name ≢ name
        → IsGroupAt sets name rtype (place + 1) 0
    none_by_name lt y at apart =
        let from = ends_there lt y at (behind_it y at apart) in
        empty_at (place + 1) from
        (none_here name rtype sets rising (place + 1) from y at (λ is. apart is.0))

    pub none_by_type : number < number_of rtype → (y : RecordSet)
        → slice_get sets (place + 1) ≡ Some y → y.name ≡ name → number_of rtype < number_of y.rtype
        → IsGroupAt sets name rtype (place + 1) 0
    none_by_type lt y at same higher =
        let from = ends_there lt y at (higher_not_before y same higher) in
        empty_at (place + 1) from
        (none_here name rtype sets rising (place + 1) from y at
        (λ is. (let e = ap number_of is.1 in omega (arith, e, higher))))

    -- it is the first of the group, where all in front of it stand before
    pub starts_at : number ≡ number_of rtype
        → IsBracket sets (bound.From (first_key name rtype)) place (length sets)
        → IsCount sets (bound.From (first_key name rtype)) place
    starts_at e from =
        high_down sets (bound.From (first_key name rtype)) rising place (length sets) place typed.0
        from (omega arith) inside typed.1
        (same_not_before typed.0 typed.2 (let f = typed.3 in omega (arith, e, f)))

    pub of_both : number ≡ number_of rtype → IsOf name rtype typed.0
    of_both e = (typed.2, one_number typed.0.rtype rtype (let f = typed.3 in omega (arith, e, f)))
