-- The aliases after a change are those that stay, with those that are added among them.
use Rattle.std.proofs.Common.{◌≡◌, ◌≢◌, Bool, true, false, List, [], ◌∷◌, ap, ◌∙◌, sym, refl, subst}
use Rattle.std.proofs.Common.{inl, inr, arith, cond, Less}
use Rattle.std.specs.Prelude.{not, ◌||◌, ◌↔◌}
use Rattle.std.specs.List.{AllByRecursion, filter}
use Rattle.std.specs.Ordering.{is_eq}
use Rattle.std.specs.declared.cmp.Ordering.{Ordering}
use Rattle.std.specs.declared.cmp.Ordering.TheVariants.{Equal, Greater}
use Rattle.std.proofs.lemmas.Bool.{and_parts, false≢true}
use Rattle.std.proofs.lemmas.Cmp.{tied_itself}
use Rattle.record_set.specs.Reasons.{IsAlias}
use Rattle.record_set.specs.Sets.{key_of}
use Rattle.record_set.specs.declared.sets.Body.{Body}
use Rattle.record_set.specs.declared.sets.Body.TheVariants as body
use Rattle.record_set.specs.declared.sets.RecordSet.{RecordSet}
use Rattle.record_set.specs.declared.sets.SetKey.{SetKey}
use Rattle.zone_table.specs.Telling.{is_alias}
use Rattle.zone_table.proofs.Equation.{with_all_rises}
use Rattle.zone_table.proofs.Members.{all_in, in_all, same_sets}
use Rattle.zone_table.specs.Changes.{DifferByKey, IsKeyOf, with_all}
use Rattle.zone_table.proofs.Ordered.{keys_tie, keys_total}
use Rattle.zone_table.specs.Keys.{key_cmp}
use Rattle.zone_table.specs.Placing.{IsThere}
use Rattle.zone_table.specs.Sets.{IsAmong, IsRising}
use Rattle.alias_links.specs.After.{changed}
use Rattle.alias_links.specs.Aliases.{aliases_of, is_alias_set, is_key_of, kept_of, stays}
use Rattle.alias_links.specs.Laws.{IsChange}
use Rattle.alias_links.proofs.Changing.{added_in, changed_rises, in_filter, kept_in, of_changed}
use Rattle.alias_links.proofs.Changing.{of_filter}

-- ---- tests

is_tie : (o : Ordering) → is_eq o ≡ true → o ≡ Equal
is_tie Less e = absurd (grind (arith, e))
is_tie Equal e = refl
is_tie Greater e = absurd (grind (arith, e))

-- whether a key is one of these, as a test
pub key_test : (keys : List SetKey) (key : SetKey) → (is_key_of keys key ≡ true) ↔ IsKeyOf keys key
key_test [] key = (λ e. false≢true e, λ there. absurd there)
key_test (first ∷ keys) key = by (is_eq (key_cmp first key)) refl (key_test keys key)
  where
    by : (b : Bool) → is_eq (key_cmp first key) ≡ b → (is_key_of keys key ≡ true) ↔ IsKeyOf keys key
        → ((b || is_key_of keys key) ≡ true) ↔ IsKeyOf (first ∷ keys) key
    by true e rest =
        (λ h. inl (keys_tie first key (is_tie (key_cmp first key) e)), λ there. refl)
    by false e rest = (
      λ h. inr (rest.0 h),
      λ there. elim there [
        | inl same ↦
            (let tie : key_cmp first key ≡ Equal =
            subst (λ (k : SetKey). key_cmp first k ≡ Equal) same (tied_itself keys_total first) in
            absurd (false≢true (sym e ∙ ap is_eq tie)))
        | inr later ↦ rest.1 later
      ],
    )

pub alias_test : (what : Body) → (is_alias what ≡ true) ↔ IsAlias what
alias_test (body.Values ttl values) = (λ e. false≢true e, λ is. absurd is)
alias_test (body.Alias target evaluate) = (λ e. tt, λ is. refl)

pub stays_if : (remove : List SetKey) (set : RecordSet) → is_alias_set set ≡ true
    → (IsKeyOf remove (key_of set) → ⊥) → stays remove set ≡ true
stays_if remove set alias other = by (is_key_of remove (key_of set)) refl
  where
    by : (b : Bool) → is_key_of remove (key_of set) ≡ b → stays remove set ≡ true
    by true e = absurd (other ((key_test remove (key_of set)).0 e))
    by false e = (let n : not (is_key_of remove (key_of set)) ≡ true = ap not e in
        grind (arith, alias, n))

pub stays_so : (remove : List SetKey) (set : RecordSet) → stays remove set ≡ true
    → (is_alias_set set ≡ true) × (IsKeyOf remove (key_of set) → ⊥)
stays_so remove set e =
    let parts = and_parts (is_alias_set set) (not (is_key_of remove (key_of set))) e in (
      parts.0,
      λ there. (let named = (key_test remove (key_of set)).1 there in
          let gone : not (is_key_of remove (key_of set)) ≡ false = ap not named in
          false≢true (sym gone ∙ parts.1)),
    )

-- ---- lists of those that pass

filter_all : {X : Type 0} (P : X → Type 0) (f : X → Bool) (xs : List X) → AllByRecursion P xs
    → AllByRecursion P (filter f xs)
filter_all P f [] all = tt
filter_all P f (x ∷ xs) all = by (f x) (filter_all P f xs all.1)
  where
    by : (b : Bool) → AllByRecursion P (filter f xs)
        → AllByRecursion P (cond b (x ∷ filter f xs) (filter f xs))
    by true rest = (all.0, rest)
    by false rest = rest

pub filter_rises : (f : RecordSet → Bool) (sets : List RecordSet) → IsRising sets
    → IsRising (filter f sets)
filter_rises f [] rising = tt
filter_rises f (set ∷ sets) rising = by (f set) (filter_rises f sets rising.1)
  where
    by : (b : Bool) → IsRising (filter f sets)
        → IsRising (cond b (set ∷ filter f sets) (filter f sets))
    by true rest = (
      filter_all (λ (later : RecordSet). key_cmp (key_of set) (key_of later) ≡ Less) f sets rising.0,
      rest,
    )
    by false rest = rest

filter_differs : (f : RecordSet → Bool) (sets : List RecordSet) → DifferByKey sets
    → DifferByKey (filter f sets)
filter_differs f [] differ = tt
filter_differs f (set ∷ sets) differ = by (f set) (filter_differs f sets differ.1)
  where
    by : (b : Bool) → DifferByKey (filter f sets)
        → DifferByKey (cond b (set ∷ filter f sets) (filter f sets))
    by true rest = (
      filter_all (λ (other : RecordSet). key_of set ≢ key_of other) f sets differ.0,
      rest,
    )
    by false rest = rest

-- ---- the aliases after a change

module _ (sets : List RecordSet) (remove : List SetKey) (add : List RecordSet)
    (change : IsChange sets remove add) where
  abbrev kept : List RecordSet
  kept = kept_of remove sets

  abbrev new : List RecordSet
  new = aliases_of add

  -- no alias that is added has the key of one that stays
  smaller : IsChange kept [] new
  smaller = record {
    differ = filter_differs is_alias_set add change.differ;
    new = all_in (λ (set : RecordSet). IsThere kept (key_of set) → IsKeyOf [] (key_of set)) new none;
  }
    where
      none : (set : RecordSet) → IsAmong new set → IsThere kept (key_of set)
          → IsKeyOf [] (key_of set)
      none set among (old, keeps) =
          let is = of_filter is_alias_set add set among in
          let was = of_filter (stays remove) sets old keeps.there in
          let named = in_all (λ (s : RecordSet). IsThere sets (key_of s)
          → IsKeyOf remove (key_of s)) add set change.new is.0
          (old, record { there = was.0; same_key = keeps.same_key }) in
          (stays_so remove old was.1).1
          (subst (λ (k : SetKey). IsKeyOf remove k) (sym keeps.same_key) named)

  to_both : (set : RecordSet) → IsAmong (aliases_of (changed sets remove add)) set
      → IsAmong (changed kept [] new) set
  to_both set there =
      let is = of_filter is_alias_set (changed sets remove add) set there in
      elim (of_changed sets remove add set is.0) [
        | inl added ↦
            added_in kept [] new smaller set (in_filter is_alias_set add set added is.1)
        | inr old ↦
            kept_in kept [] new smaller set
            (in_filter (stays remove) sets set old.0 (stays_if remove set is.1 old.1)) (λ named. named)
      ]

  from_both : (set : RecordSet) → IsAmong (changed kept [] new) set
      → IsAmong (aliases_of (changed sets remove add)) set
  from_both set there = elim (of_changed kept [] new set there) [
    | inl added ↦
        (let is = of_filter is_alias_set add set added in
        in_filter is_alias_set (changed sets remove add) set
        (added_in sets remove add change set is.0) is.1)
    | inr old ↦
        (let is = of_filter (stays remove) sets set old.0 in
        let parts = stays_so remove set is.1 in
        in_filter is_alias_set (changed sets remove add) set
        (kept_in sets remove add change set is.0 parts.1) parts.0)
  ]

  pub aliases_are : IsRising sets → with_all new kept ≡ aliases_of (changed sets remove add)
  aliases_are rising =
      sym (same_sets (aliases_of (changed sets remove add)) (changed kept [] new)
      (filter_rises is_alias_set (changed sets remove add) (changed_rises sets remove add rising))
      (with_all_rises new kept (filter_rises (stays remove) sets rising)) to_both from_both)
