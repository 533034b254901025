-- What is refused for where aliases lead, and sets that lead astray.
use Rattle.std.proofs.Common.{◌≡◌, Bool, true, false, List, [], ◌∷◌, ap, ◌∙◌, sym, refl}
use Rattle.std.proofs.Common.{Option, None, Some, arith}
use Rattle.std.specs.Prelude.{◌&&◌, option_map}
use Rattle.std.proofs.lemmas.Bool.{false≢true}
use Rattle.std.proofs.lemmas.Option.{slice_get_within}
use Rattle.alias_links.specs.After.{IsFirstKey, IsFirstSet}
use Rattle.alias_links.specs.Laws.{NoneHas}
use Rattle.config_zones.proofs.Told.{none_of_all}
use Rattle.config_zones.specs.Batches.{depth_refusal, first_among, is_alias, is_empty, is_too_deep}
use Rattle.config_zones.specs.Batches.{leads_on, target_refusal}
use Rattle.config_zones.specs.Telling.{refuse_if}
use Rattle.config_zones.specs.Told.{RefusalsAreTold}
use Rattle.config_zones.specs.RefusalRecord.{Refusal}
use Rattle.config_zones.specs.RefusalRecord.TheVariants.{AliasTargetMissing}
use Rattle.config_zones.specs.RefusalRecord.TheVariants.{AliasTooDeep}
use Rattle.record_set.specs.Reasons.{IsAlias}
use Rattle.record_set.specs.Sets.{key_of}
use Rattle.record_set.specs.declared.sets.Body.{Body}
use Rattle.record_set.specs.declared.sets.Body.TheVariants as body
use Rattle.record_set.specs.declared.sets.RecordSet.{RecordSet}
use Rattle.record_set.specs.declared.sets.SetKey.{SetKey}
use Rattle.zone_model.proofs.Among.{among_at, place_of}
use Rattle.zone_model.specs.Walks.{HasNoTarget, IsTooDeep}
use Rattle.zone_model.specs.Zones.{IsAmong, target_group}
use Rattle.batch_commands.proofs.Firsts.{first_decides}

-- ---- one set

of_alias : (b : Body) → IsAlias b → is_alias b ≡ true
of_alias (body.Values ttl values) is = absurd is
of_alias (body.Alias target evaluate) is = refl

alias_of : (b : Body) → is_alias b ≡ true → IsAlias b
alias_of (body.Values ttl values) e = absurd (false≢true e)
alias_of (body.Alias target evaluate) e = tt

of_empty : (sets : List RecordSet) → is_empty sets ≡ true → sets ≡ []
of_empty [] e = refl
of_empty (set ∷ sets) e = absurd (false≢true e)

too_deep_is : (zone : List RecordSet) (set : RecordSet)
    → is_too_deep zone set ≡ leads_on 16 zone set
unfolding is_too_deep
too_deep_is zone set = refl

module _ (zone : List RecordSet) where
  refused_target : (set : RecordSet) → HasNoTarget zone set
      → target_refusal zone set ≡ Some (AliasTargetMissing (key_of set))
  refused_target set (alias, empty) =
      ap (λ b. refuse_if (b && is_empty (target_group zone set)) (AliasTargetMissing (key_of set)))
      (of_alias set.body alias)
      ∙ ap (λ (sets : List RecordSet). refuse_if (is_empty sets) (AliasTargetMissing (key_of set))) empty

  led : (set : RecordSet) → (HasNoTarget zone set → ⊥) → target_refusal zone set ≡ None
  led set has = by (is_alias set.body) (is_empty (target_group zone set)) refl refl
    where
      by : (alias empty : Bool) → is_alias set.body ≡ alias
          → is_empty (target_group zone set) ≡ empty
          → refuse_if (is_alias set.body && is_empty (target_group zone set))
          (AliasTargetMissing (key_of set)) ≡ None
      by false empty a e =
          ap (λ b. refuse_if (b && is_empty (target_group zone set)) (AliasTargetMissing (key_of set))) a
      by true false a e =
          ap (λ b. refuse_if (b && is_empty (target_group zone set)) (AliasTargetMissing (key_of set))) a
          ∙ ap (λ b. refuse_if b (AliasTargetMissing (key_of set))) e
      by true true a e = absurd (has (alias_of set.body a, of_empty (target_group zone set) e))

  refused_depth : RefusalsAreTold → (set : RecordSet) → IsAmong zone set → IsTooDeep zone set
      → depth_refusal zone set ≡ Some (AliasTooDeep (key_of set))
  refused_depth told set there deep =
      ap (λ b. refuse_if b (AliasTooDeep (key_of set)))
      (too_deep_is zone set ∙ (told.walks 16 zone set there).1 deep)

  shallow : RefusalsAreTold → (set : RecordSet) → IsAmong zone set → (IsTooDeep zone set → ⊥)
      → depth_refusal zone set ≡ None
  shallow told set there has = by (is_too_deep zone set) refl
    where
      by : (b : Bool) → is_too_deep zone set ≡ b
          → refuse_if (is_too_deep zone set) (AliasTooDeep (key_of set)) ≡ None
      by false e = ap (λ b. refuse_if b (AliasTooDeep (key_of set))) e
      by true e =
          absurd (has ((told.walks 16 zone set there).0 (sym (too_deep_is zone set) ∙ e)))

-- ---- the first set

module _ (Has : RecordSet → Type 0) (refuses : RecordSet → Option Refusal)
    (sets : List RecordSet) (why : SetKey → Refusal)
    (refused : (set : RecordSet) → IsAmong sets set → Has set
    → refuses set ≡ Some (why (key_of set)))
    (let_through : (set : RecordSet) → IsAmong sets set → (Has set → ⊥)
    → refuses set ≡ None) where
  pub first_is : (key : SetKey) → IsFirstSet Has sets key
      → first_among refuses sets ≡ Some (why key)
  first_is key first =
      let at = first.first.0 in
      first_decides refuses sets first.place at.0 (why key) at.1
      (refused at.0 (among_at sets first.place at.0 at.1) at.2
      ∙ ap (λ (k : SetKey). Some (why k)) its_key)
      (λ j other lt there. let_through other (among_at sets j other there)
      (λ has. first.first.1 j lt (other, there, has)))
    where
      its_key : key_of first.first.0.0 ≡ key
      its_key =
          let one : first.first.0.0 ≡ first.set =
          (let a = first.first.0.1 in let b = first.there in grind (arith, a, b)) in
          ap key_of one ∙ first.same_key

  pub none_is : NoneHas Has sets → first_among refuses sets ≡ None
  none_is none =
      none_of_all refuses sets (λ set there. let_through set there (λ has. none set there has))

  pub none_found : IsFirstKey Has sets None → first_among refuses sets ≡ None
  none_found none =
      none_is (λ set there has. (let place = place_of sets set there in
      none place.0 (slice_get_within sets place.0 set place.1) (set, place.1, has)))

-- ---- both refusals

module _ (after : List RecordSet) where
  pub target_at : (key : SetKey) → IsFirstKey (HasNoTarget after) after (Some key)
      → first_among (target_refusal after) after ≡ Some (AliasTargetMissing key)
  target_at =
      first_is (HasNoTarget after) (target_refusal after) after AliasTargetMissing
      (λ set there. refused_target after set) (λ set there. led after set)

  pub no_target_at : IsFirstKey (HasNoTarget after) after None
      → first_among (target_refusal after) after ≡ None
  no_target_at =
      none_found (HasNoTarget after) (target_refusal after) after AliasTargetMissing
      (λ set there. refused_target after set) (λ set there. led after set)

  pub all_led : NoneHas (HasNoTarget after) after
      → first_among (target_refusal after) after ≡ None
  all_led =
      none_is (HasNoTarget after) (target_refusal after) after AliasTargetMissing
      (λ set there. refused_target after set) (λ set there. led after set)

  pub depth_at : RefusalsAreTold → (key : SetKey)
      → IsFirstKey (IsTooDeep after) after (Some key)
      → first_among (depth_refusal after) after ≡ Some (AliasTooDeep key)
  depth_at told =
      first_is (IsTooDeep after) (depth_refusal after) after AliasTooDeep
      (refused_depth after told) (shallow after told)

  pub no_depth_at : RefusalsAreTold → IsFirstKey (IsTooDeep after) after None
      → first_among (depth_refusal after) after ≡ None
  no_depth_at told =
      none_found (IsTooDeep after) (depth_refusal after) after AliasTooDeep
      (refused_depth after told) (shallow after told)

  pub all_shallow : RefusalsAreTold → NoneHas (IsTooDeep after) after
      → first_among (depth_refusal after) after ≡ None
  all_shallow told =
      none_is (IsTooDeep after) (depth_refusal after) after AliasTooDeep
      (refused_depth after told) (shallow after told)

  -- the refusal of the first, if there is one, is that of all
  pub depth_told : RefusalsAreTold → (key : Option SetKey)
      → IsFirstKey (IsTooDeep after) after key
      → option_map AliasTooDeep key ≡ first_among (depth_refusal after) after
  depth_told told None first = sym (no_depth_at told first)
  depth_told told (Some key) first = sym (depth_at told key first)
