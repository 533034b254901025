-- Walks go from alias to alias: sets that aren't aliases take no part in them.
use Rattle.std.proofs.Common.{◌≡◌, ℕ, Bool, true, false, List, [], ◌∷◌, refl, subst}
use Rattle.std.proofs.Common.{inl, inr, arith}
use Rattle.std.specs.Prelude.{◌==◌}
use Rattle.std.proofs.lemmas.Bool.{and_parts}
use Rattle.std.proofs.lemmas.Bool.Decides.{Decides-eqb}
use Rattle.dns_name.specs.Order.{same_labels}
use Rattle.dns_name.specs.OrderLaws.{same_labels-Decides}
use Rattle.rdata_layout.specs.Types.{number_of}
use Rattle.rdata_layout.specs.declared.types.RType.{RType}
use Rattle.record_set.specs.Reasons.{IsAlias}
use Rattle.record_set.specs.Sets.{key_of}
use Rattle.record_set.specs.declared.sets.Body.{Body}
use Rattle.record_set.specs.declared.sets.Body.TheVariants as body
use Rattle.record_set.specs.declared.sets.RecordSet.{RecordSet}
use Rattle.record_set.specs.declared.sets.SetKey.{SetKey}
use Rattle.zone_table.specs.Changes.{IsKeyOf}
use Rattle.zone_table.proofs.Ordered.{one_number}
use Rattle.zone_table.specs.Walks.{HasNoTarget, IsTooDeep, IsWalk, StartsWalk}
use Rattle.zone_table.specs.Sets.{IsAmong, group, is_of_group, target_group_of}
use Rattle.alias_links.specs.After.{changed}
use Rattle.alias_links.specs.Aliases.{aliases_of, is_alias_set, is_key_of}
use Rattle.alias_links.specs.Laws.{AliasesStay, EmptiesGroup, HasAlias, IsChange, NoneHas}
use Rattle.alias_links.proofs.Aliased.{alias_test, key_test}
use Rattle.alias_links.proofs.Changing.{has_some, in_filter, is_empty, kept_in, of_changed}
use Rattle.alias_links.proofs.Changing.{of_filter}

-- ---- from one list to another that has its aliases

module _ (sets others : List RecordSet)
    (each : (set : RecordSet) → IsAmong sets set → IsAlias set.body → IsAmong others set) where
  target_in : (rtype : RType) (what : Body) (next : RecordSet) → IsAlias next.body
      → IsAmong (target_group_of sets rtype what) next
      → IsAmong (target_group_of others rtype what) next
  target_in rtype (body.Values ttl values) next alias there = absurd there
  target_in rtype (body.Alias target evaluate) next alias there =
      let is = of_filter (is_of_group target rtype) sets next there in
      in_filter (is_of_group target rtype) others next (each next is.0 alias) is.1

  pub head_alias : (set : RecordSet) (walk : List RecordSet) → IsWalk sets (set ∷ walk)
      → IsAmong sets set × IsAlias set.body
  head_alias set [] is = is
  head_alias set (next ∷ walk) is = (is.0, is.1)

  walk_in : (set : RecordSet) (walk : List RecordSet) → IsWalk sets (set ∷ walk)
      → IsWalk others (set ∷ walk)
  walk_in set [] is = (each set is.0 is.1, is.1)
  walk_in set (next ∷ walk) is =
      let later = head_alias next walk is.3 in (
        each set is.0 is.1,
        is.1,
        target_in set.rtype set.body next later.1 is.2,
        walk_in next walk is.3,
      )

  pub starts_in : (set : RecordSet) (n : ℕ) → StartsWalk sets set n → StartsWalk others set n
  starts_in set n starts = (starts.0, walk_in set starts.0 starts.1, starts.2)

  pub starts_at : (set : RecordSet) (n : ℕ) → StartsWalk sets set n
      → IsAmong sets set × IsAlias set.body
  starts_at set n starts = head_alias set starts.0 starts.1

-- ---- the aliases alone

module _ (sets : List RecordSet) where
  to_aliases : (set : RecordSet) → IsAmong sets set → IsAlias set.body
      → IsAmong (aliases_of sets) set
  to_aliases set there alias =
      in_filter is_alias_set sets set there ((alias_test set.body).1 alias)

  of_aliases : (set : RecordSet) → IsAmong (aliases_of sets) set → IsAlias set.body
      → IsAmong sets set
  of_aliases set there alias = (of_filter is_alias_set sets set there).0

  pub deep_to : (set : RecordSet) → IsTooDeep sets set
      → IsAmong (aliases_of sets) set × IsTooDeep (aliases_of sets) set
  deep_to set deep =
      let at = starts_at sets (aliases_of sets) to_aliases set 17 deep in
      (to_aliases set at.0 at.1, starts_in sets (aliases_of sets) to_aliases set 17 deep)

  pub deep_from : (set : RecordSet) → IsTooDeep (aliases_of sets) set → IsTooDeep sets set
  deep_from set deep = starts_in (aliases_of sets) sets of_aliases set 17 deep

  pub alias_among : (set : RecordSet) → IsAmong (aliases_of sets) set → IsAmong sets set
  alias_among set there = (of_filter is_alias_set sets set there).0

-- a set of a group names it by its key
pub of_group : (name : List (List ℕ)) (rtype : RType) (set : RecordSet)
    → is_of_group name rtype set ≡ true → (name ≡ set.name) × (rtype ≡ set.rtype)
of_group name rtype set e =
    let parts = and_parts (same_labels name set.name) (number_of rtype == number_of set.rtype) e in (
      (same_labels-Decides name set.name).0 parts.0,
      one_number rtype set.rtype ((Decides-eqb (number_of rtype) (number_of set.rtype)).0 parts.1),
    )

-- ---- where no group is emptied

module _ (sets : List RecordSet) (remove : List SetKey) (add : List RecordSet)
    (change : IsChange sets remove add) (filled : EmptiesGroup remove (changed sets remove add) → ⊥) where
  abbrev now : List RecordSet
  now = changed sets remove add

  -- a group that has no set now had none
  had_none : (name : List (List ℕ)) (rtype : RType) → group now name rtype ≡ []
      → group sets name rtype ≡ []
  had_none name rtype empty = is_empty (group sets name rtype) no
    where
      by : (member : RecordSet) → IsAmong sets member → is_of_group name rtype member ≡ true
          → (b : Bool) → is_key_of remove (key_of member) ≡ b → ⊥
      by member there of true named =
          let is = of_group name rtype member of in
          let none_left : group now member.name member.rtype ≡ [] =
          subst (λ (n : List (List ℕ)). group now n member.rtype ≡ []) is.0
          (subst (λ (t : RType). group now name t ≡ []) is.1 empty) in
          filled (key_of member, (key_test remove (key_of member)).0 named, none_left)
      by member there of false other =
          has_some (group now name rtype) member
          (in_filter (is_of_group name rtype) now member
          (kept_in sets remove add change member there
          (λ named. (let e = (key_test remove (key_of member)).1 named in
          grind (arith, e, other)))) of) empty

      no : (member : RecordSet) → IsAmong (group sets name rtype) member → ⊥
      no member there =
          let is = of_filter (is_of_group name rtype) sets member there in
          by member is.0 is.1 (is_key_of remove (key_of member)) refl

  -- so an alias that was there leads to a set, as it did
  pub still_led : (set : RecordSet) → IsAmong sets set → NoneHas (HasNoTarget sets) sets
      → HasNoTarget now set → ⊥
  still_led set there led (alias, empty) = led set there (alias, by set.body alias empty)
    where
      by : (what : Body) → IsAlias what → target_group_of now set.rtype what ≡ []
          → target_group_of sets set.rtype what ≡ []
      by (body.Values ttl values) is e = refl
      by (body.Alias target evaluate) is e = had_none target set.rtype e

-- ---- where no alias is added

module _ (sets : List RecordSet) (remove : List SetKey) (add : List RecordSet)
    (change : IsChange sets remove add) (none : HasAlias add → ⊥) where
  abbrev after : List RecordSet
  after = changed sets remove add

  was_there : (set : RecordSet) → IsAmong after set → IsAlias set.body
      → IsAmong sets set × (IsKeyOf remove (key_of set) → ⊥)
  was_there set there alias = elim (of_changed sets remove add set there) [
    | inl new ↦ absurd (none (set, new, alias))
    | inr old ↦ old
  ]

  walks : NoneHas (IsTooDeep sets) sets → NoneHas (IsTooDeep after) after
  walks shallow set there deep =
      let each = λ (x : RecordSet) (among : IsAmong after x) (alias : IsAlias x.body).
      (was_there x among alias).0 in
      let at = starts_at after sets each set 17 deep in
      shallow set (each set at.0 at.1) (starts_in after sets each set 17 deep)

  targets : (EmptiesGroup remove after → ⊥) → NoneHas (HasNoTarget sets) sets
      → NoneHas (HasNoTarget after) after
  targets filled led set there lost =
      still_led sets remove add change filled set (was_there set there lost.0).0 led lost

pub stay : AliasesStay
stay = record { walks = walks; targets = targets }
