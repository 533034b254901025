-- Where each alias that comes ends walks, a walk among the sets after the change is one alias that came, or there was as long a one.
use Rattle.std.proofs.Common.{◌≡◌, ◌⊎◌, ℕ, ◌+◌, List, [], ◌∷◌, length, ap, ◌∙◌, sym, refl, subst, inl, inr, arith}
use Rattle.rdata_layout.specs.declared.types.RType.{RType}
use Rattle.record_set.specs.Reasons.{IsAlias}
use Rattle.record_set.specs.declared.sets.Body.{Body}
use Rattle.record_set.specs.declared.sets.Body.TheVariants as body
use Rattle.record_set.specs.declared.sets.RecordSet.{RecordSet}
use Rattle.record_set.specs.declared.sets.SetKey.{SetKey}
use Rattle.zone_table.specs.Walks.{HasNoTarget, IsTooDeep, IsWalk}
use Rattle.zone_table.specs.Sets.{IsAmong, group, is_of_group, target_group, target_group_of}
use Rattle.alias_links.specs.After.{changed}
use Rattle.alias_links.specs.Laws.{AliasesCome, AllEndWalks, AllLead, EmptiesGroup, HasAlias, IsChange, NoneHas}
use Rattle.alias_links.proofs.Changing.{in_filter, of_changed, of_filter}
use Rattle.alias_links.proofs.Walking.{of_group, still_led}

-- ---- members of target groups

-- a member is among the sets
target_among : (sets : List RecordSet) (rtype : RType) (what : Body) (next : RecordSet)
    → IsAmong (target_group_of sets rtype what) next → IsAmong sets next
target_among sets rtype (body.Values ttl values) next there = absurd there
target_among sets rtype (body.Alias target evaluate) next there =
    (of_filter (is_of_group target rtype) sets next there).0

-- a member of it among other sets is one of those, too
target_moves : (sets others : List RecordSet) (rtype : RType) (what : Body) (next : RecordSet)
    → IsAmong (target_group_of sets rtype what) next → IsAmong others next
    → IsAmong (target_group_of others rtype what) next
target_moves sets others rtype (body.Values ttl values) next there among = absurd there
target_moves sets others rtype (body.Alias target evaluate) next there among =
    in_filter (is_of_group target rtype) others next among (of_filter (is_of_group target rtype) sets next there).1

-- the target group is the group of each of its members
target_is_group : (sets others : List RecordSet) (rtype : RType) (what : Body) (next : RecordSet)
    → IsAmong (target_group_of sets rtype what) next
    → target_group_of others rtype what ≡ group others next.name next.rtype
target_is_group sets others rtype (body.Values ttl values) next there = absurd there
target_is_group sets others rtype (body.Alias target evaluate) next there =
    let is = of_group target rtype next (of_filter (is_of_group target rtype) sets next there).1 in
    subst (λ (n : List (List ℕ)). group others target rtype ≡ group others n next.rtype) is.0
    (subst (λ (t : RType). group others target rtype ≡ group others target t) is.1 refl)

-- the first set of a walk is an alias
first_alias : (sets : List RecordSet) (set : RecordSet) (walk : List RecordSet) → IsWalk sets (set ∷ walk)
    → IsAlias set.body
first_alias sets set [] is = is.1
first_alias sets set (next ∷ walk) is = is.1

-- ---- walks after the change

module _ (sets : List RecordSet) (remove : List SetKey) (add : List RecordSet)
    (change : IsChange sets remove add) (ends : AllEndWalks sets add)
    (led : NoneHas (HasNoTarget sets) sets) where
  abbrev after : List RecordSet
  after = changed sets remove add

  -- as long a walk from the set, which was there
  abbrev WasAsLong : RecordSet → List RecordSet → Type 0
  WasAsLong set walk = (others : List RecordSet) × IsAmong sets set × IsWalk sets (set ∷ others)
      × (length others ≡ length walk)

  -- an alias that came leads to none that does
  ends_here : (set next : RecordSet) → IsAmong add set → IsAlias set.body
      → IsAmong (target_group after set) next → IsAlias next.body → ⊥
  ends_here set next new alias there leads =
      let its = ends set new alias in
      elim (of_changed sets remove add next (target_among after set.rtype set.body next there)) [
        | inl came ↦ its.stays_last (next, target_moves after add set.rtype set.body next there came, leads)
        | inr old ↦ its.last (next, target_moves after sets set.rtype set.body next there old.0, leads)
      ]

  -- to the group of an alias that came an alias that was there led by a walk of two links, or not at all
  two_links : (set next : RecordSet) → IsAmong sets set → IsAlias set.body
      → IsAmong (target_group after set) next → IsAmong add next → IsAlias next.body
      → WasAsLong set (next ∷ [])
  two_links set next old alias there new leads =
      let same = target_is_group after sets set.rtype set.body next there in
      elim ((ends next new leads).beside) [
        | inl empty ↦ absurd (led set old (alias, same ∙ empty))
        | inr other ↦
            (let member = subst (λ (g : List RecordSet). IsAmong g other.0) (sym same) other.1 in (
              other.0 ∷ [],
              old,
              (old, alias, member, (target_among sets set.rtype set.body other.0 member, other.2)),
              refl,
            ))
      ]

  one_more : (set next : RecordSet) (walk : List RecordSet) → IsAmong sets set → IsAlias set.body
      → IsAmong (target_group after set) next → WasAsLong next walk → WasAsLong set (next ∷ walk)
  one_more set next walk old alias there was =
      let longer = was.3 in (
        next ∷ was.0,
        old,
        (old, alias, target_moves after sets set.rtype set.body next there was.1, was.2),
        omega (arith, longer),
      )

  was_as_long : (set : RecordSet) (walk : List RecordSet) → IsWalk after (set ∷ walk)
      → (IsAmong add set × (walk ≡ [])) ⊎ WasAsLong set walk
  was_as_long set [] is = elim (of_changed sets remove add set is.0) [
    | inl new ↦ inl (new, refl)
    | inr old ↦ inr ([], old.0, (old.0, is.1), refl)
  ]
  was_as_long set (next ∷ walk) is = elim (of_changed sets remove add set is.0) [
    | inl new ↦ absurd (ends_here set next new is.1 is.2 (first_alias after next walk is.3))
    | inr old ↦
        elim (was_as_long next walk is.3) [
          | inl came ↦ inr (subst (λ (w : List RecordSet). WasAsLong set (next ∷ w)) (sym came.1)
              (two_links set next old.0 is.1 is.2 came.0 (first_alias after next walk is.3)))
          | inr was ↦ inr (one_more set next walk old.0 is.1 is.2 was)
        ]
  ]

  walks : NoneHas (IsTooDeep sets) sets → NoneHas (IsTooDeep after) after
  walks shallow set there (walk, is, long) = elim (was_as_long set walk is) [
    | inl came ↦
        (let none = ap (λ (w : List RecordSet). length w) came.1 in
        absurd (omega (arith, none, long)))
    | inr was ↦
        (let same = was.3 in
        shallow set was.1 (was.0, was.2, omega (arith, same, long)))
  ]

module _ (sets : List RecordSet) (remove : List SetKey) (add : List RecordSet)
    (change : IsChange sets remove add) (filled : EmptiesGroup remove (changed sets remove add) → ⊥)
    (lead : AllLead add (changed sets remove add)) (led : NoneHas (HasNoTarget sets) sets) where
  targets : NoneHas (HasNoTarget (changed sets remove add)) (changed sets remove add)
  targets set there lost = elim (of_changed sets remove add set there) [
    | inl new ↦ lead set new lost
    | inr old ↦ still_led sets remove add change filled set old.0 led lost
  ]

pub come : AliasesCome
come = record { walks = walks; targets = targets }
