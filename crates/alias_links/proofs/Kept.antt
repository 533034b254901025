-- Aliases that are copied and placed one by one.
use Rattle.std.proofs.Common.{◌≡◌, ℕ, zero, suc, ◌+◌, ◌≤◌, Bool, true, false, List, [], ◌∷◌, ◌++◌, length}
use Rattle.std.proofs.Common.{Option, None, Some, take, drop, ap, ◌∙◌, sym, refl, subst, cond, arith, inl, inr}
use Rattle.std.specs.Prelude.{Err, IfOk, IsTrue, Ok, Result, slice_get, slice_set, ◌↔◌}
use Rattle.octets.specs.declared.memory.OutOfMemory.{OutOfMemory}
use Rattle.std.specs.List.{filter}
use Rattle.std.proofs.lemmas.Bool.{false≢true}
use Rattle.std.proofs.lemmas.Option.{slice_get_within}
use Rattle.record_set.specs.Sets.{key_of}
use Rattle.record_set.specs.declared.sets.Body.{Body}
use Rattle.record_set.specs.declared.sets.Body.TheVariants as body
use Rattle.record_set.specs.declared.sets.RecordSet.{RecordSet}
use Rattle.record_set.specs.declared.sets.SetKey.{SetKey}
use Rattle.routing.specs.declared.policies.Routing.{Routing}
use Rattle.zone_table.specs.Bodies.{alias_of}
use Rattle.zone_table.specs.Telling.{is_alias}
use Rattle.zone_table.specs.Found.{FindsAt}
use Rattle.zone_table.proofs.Coming.{set_parts}
use Rattle.zone_table.proofs.Members.{left_at, nothing_left}
use Rattle.zone_table.specs.Changes.{IsKeyOf, with_all}
use Rattle.zone_table.proofs.Among.{place_of}
use Rattle.zone_table.proofs.Lists.{take_more}
use Rattle.zone_table.specs.Placing.{comes_before, placed}
use Rattle.zone_table.specs.Walks.{HasNoTarget, IsTooDeep}
use Rattle.zone_table.specs.Sets.{IsRising}
use Rattle.alias_tree.specs.Firsts.{IsFirstPlace}
use Rattle.alias_links.specs.After.{IsFirstKey, changed}
use Rattle.alias_links.specs.Aliases.{SetIf, aliases_of, is_alias_set, kept_of, stays}
use Rattle.alias_links.specs.Laws.{IsChange}
use Rattle.alias_links.specs.Leasts.{IsLeast, IsLesser, LeastOrNone, StaysWithout, TellsIf}
use Rattle.alias_links.proofs.Aliased.{filter_rises, stays_if, stays_so}
use Rattle.alias_links.proofs.Changing.{added_in, changed_rises, in_back, in_front, kept_in}
use Rattle.alias_links.proofs.Changing.{of_both, of_changed}
use Rattle.alias_links.proofs.Firsts.{first_key, first_of_least, least_of_both, least_of_first}
use Rattle.alias_links.proofs.Firsts.{not_above_itself}
use Rattle.alias_links.proofs.Walking.{alias_among, deep_from, deep_to}

-- ---- tests that fail

pub stays_not : (remove : List SetKey) (set : RecordSet) → IsKeyOf remove (key_of set)
    → stays remove set ≡ false
stays_not remove set named = by (stays remove set) refl
  where
    by : (b : Bool) → stays remove set ≡ b → b ≡ false
    by true e = absurd ((stays_so remove set e).1 named)
    by false e = refl

pub values_go : (remove : List SetKey) (set : RecordSet) → is_alias_set set ≡ false
    → stays remove set ≡ false
values_go remove set not = by (stays remove set) refl
  where
    by : (b : Bool) → stays remove set ≡ b → b ≡ false
    by true e = absurd (false≢true (sym not ∙ (stays_so remove set e).0))
    by false e = refl

-- ---- a set by its parts

pub no_alias : (set : RecordSet) → alias_of set.body ≡ None → is_alias_set set ≡ false
no_alias set = by set.body
  where
    by : (what : Body) → alias_of what ≡ None
        → is_alias what ≡ false
    by (body.Values ttl values) e = refl
    by (body.Alias target evaluate) e = absurd (grind (arith, e))

pub an_alias : (set : RecordSet) (alias : List (List ℕ) × Bool) → alias_of set.body ≡ Some alias
    → (body.Alias alias.0 alias.1 ≡ set.body) × (is_alias_set set ≡ true)
an_alias set alias = by set.body
  where
    by : (what : Body) → alias_of what ≡ Some alias
        → (body.Alias alias.0 alias.1 ≡ what)
        × (is_alias what ≡ true)
    by (body.Values ttl values) e = absurd (grind (arith, e))
    by (body.Alias target evaluate) e = (
      let same : alias ≡ (target, evaluate) = grind (arith, e) in
          ap (λ (a : List (List ℕ) × Bool). body.Alias a.0 a.1) same,
      refl,
    )

pub whole : (set : RecordSet) (key : SetKey) (routing : Routing) (what : Body) (check : Option ℕ)
    → key ≡ key_of set → routing ≡ set.routing → what ≡ set.body → check ≡ set.check
    → record { name = key.name; rtype = key.rtype; routing = routing; body = what; check = check }
    ≡ set
whole set key routing what check k r b h =
    ap (λ (x : SetKey). record { name = x.name; rtype = x.rtype; routing = routing; body = what; check = check }) k
    ∙ (ap (λ (x : Routing). record { name = set.name; rtype = set.rtype; routing = x; body = what; check = check }) r
    ∙ (ap (λ (x : Body). record { name = set.name; rtype = set.rtype; routing = set.routing; body = x; check = check }) b
    ∙ ap (λ (x : Option ℕ). record { name = set.name; rtype = set.rtype; routing = set.routing; body = set.body; check = x }) h))

-- ---- lists one longer

filter_joined : {X : Type 0} (f : X → Bool) (xs ys : List X)
    → filter f (xs ++ ys) ≡ filter f xs ++ filter f ys
filter_joined f [] ys = refl
filter_joined f (x ∷ xs) ys = by (f x) (filter_joined f xs ys)
  where
    by : (b : Bool) → filter f (xs ++ ys) ≡ filter f xs ++ filter f ys
        → cond b (x ∷ filter f (xs ++ ys)) (filter f (xs ++ ys))
        ≡ cond b (x ∷ filter f xs) (filter f xs) ++ filter f ys
    by true rest = ap (λ zs. x ∷ zs) rest
    by false rest = rest

-- what is kept of one set more
pub kept_more : (remove : List SetKey) (sets : List RecordSet) (n : ℕ) (set : RecordSet)
    → slice_get sets n ≡ Some set
    → kept_of remove (take n sets) ++ kept_of remove (set ∷ []) ≡ kept_of remove (take (n + 1) sets)
kept_more remove sets n set e =
    sym (ap (λ xs. filter (stays remove) xs) (take_more sets n set e)
    ∙ filter_joined (stays remove) (take n sets) (set ∷ []))

-- the aliases of one set, and then those of others, placed among some
pub placed_one : (set : RecordSet) (add sets : List RecordSet)
    → with_all (aliases_of (set ∷ add)) sets
    ≡ with_all (aliases_of add) (with_all (aliases_of (set ∷ [])) sets)
placed_one set add sets = by (is_alias_set set)
  where
    by : (b : Bool) → with_all (cond b (set ∷ aliases_of add) (aliases_of add)) sets
        ≡ with_all (aliases_of add) (with_all (cond b (set ∷ []) []) sets)
    by true = refl
    by false = refl

-- the aliases of what is left, once those of one set more are placed
pub placed_more : (add : List RecordSet) (i : ℕ) (set : RecordSet) (old new : List RecordSet)
    → slice_get add i ≡ Some set → new ≡ with_all (aliases_of (set ∷ [])) old
    → with_all (aliases_of (drop (i + 1) add)) new ≡ with_all (aliases_of (drop i add)) old
placed_more add i set old new at e =
    ap (λ (l : List RecordSet). with_all (aliases_of (drop (i + 1) add)) l) e
    ∙ (sym (placed_one set (drop (i + 1) add) old)
    ∙ ap (λ (l : List RecordSet). with_all (aliases_of l) old) (sym (left_at add i set at)))

pub all_placed : (add : List RecordSet) (i : ℕ) (sets : List RecordSet) → length add ≤ i
    → sets ≡ with_all (aliases_of (drop i add)) sets
all_placed add i sets le =
    ap (λ (l : List RecordSet). with_all (aliases_of l) sets) (sym (nothing_left add i le))

-- a set in the place of the one with its key
pub in_place : (sets : List RecordSet) (n : ℕ) (given : RecordSet) → FindsAt sets (key_of given) n
    → slice_set sets n given ≡ placed given sets
in_place sets n given found =
    let within = slice_get_within sets n found.kept found.there in
    let next : suc n ≡ n + 1 = omega arith in
    set_parts sets n given within
    ∙ (ap (λ (k : ℕ). take n sets ++ given ∷ drop k sets) next
    ∙ (ap (λ (xs : List RecordSet). xs ++ given ∷ drop (n + 1) sets) (sym found.front)
    ∙ ap (λ (xs : List RecordSet). filter (comes_before (key_of given)) sets ++ given ∷ xs)
    (sym found.back)))

-- ---- the least of one set, and of one more

one_least : (Has : RecordSet → Type 0) (set : RecordSet) (found : Option SetKey)
    → TellsIf (Has set) set found → LeastOrNone Has (set ∷ []) found
one_least Has set None not =
    λ other there has. elim there [
      | inl e ↦ not (subst Has (sym e) has)
      | inr none ↦ none
    ]
one_least Has set (Some key) does = record {
  set = set;
  there = inl refl;
  has = does.0;
  same_key = sym does.1;
  least = λ other there has. elim there [
    | inl e ↦ not_above_itself key (key_of other) (does.1 ∙ ap key_of e)
    | inr none ↦ absurd none
  ];
}

-- the least of so many sets, and of one more
pub least_more : (Has : RecordSet → Type 0) (sets : List RecordSet) (n : ℕ) (set : RecordSet)
    (least found now : Option SetKey) → slice_get sets n ≡ Some set
    → LeastOrNone Has (take n sets) least → TellsIf (Has set) set found
    → IsLesser least found now → LeastOrNone Has (take (n + 1) sets) now
least_more Has sets n set least found now at first second lesser =
    subst (λ (xs : List RecordSet). LeastOrNone Has xs now) (sym (take_more sets n set at))
    (least_of_both Has Has Has (take n sets ++ set ∷ []) (take n sets) (set ∷ [])
    (λ s there has. (in_front (take n sets) (set ∷ []) s there, has))
    (λ s there has. (in_back (take n sets) (set ∷ []) s there, has))
    (λ s there has. elim (of_both (take n sets) (set ∷ []) s there) [
      | inl front ↦ inl (front, has)
      | inr back ↦ inr (back, has)
    ]) least found now first (one_least Has set found second) lesser)

pub all_taken : {X : Type 0} (xs : List X) (n : ℕ) → length xs ≤ n → take n xs ≡ xs
all_taken [] zero le = refl
all_taken [] (suc n) le = refl
all_taken (x ∷ xs) zero le = absurd (omega (arith, le))
all_taken (x ∷ xs) (suc n) le = ap (λ zs. x ∷ zs) (all_taken xs n (omega (arith, le)))

-- ---- the first alias without a target

module _ (sets : List RecordSet) (remove : List SetKey) (add : List RecordSet)
    (change : IsChange sets remove add) where
  abbrev after : List RecordSet
  after = changed sets remove add

  pub missing : IsRising sets → (kept added now : Option SetKey)
      → LeastOrNone (StaysWithout remove after) sets kept
      → LeastOrNone (HasNoTarget after) add added → IsLesser kept added now
      → IsFirstKey (HasNoTarget after) after now
  missing rising kept added now first second lesser =
      first_key (HasNoTarget after) after (changed_rises sets remove add rising) now
      (least_of_both (HasNoTarget after) (StaysWithout remove after) (HasNoTarget after) after sets add
      (λ s there does. (kept_in sets remove add change s there does.0, does.1))
      (λ s there has. (added_in sets remove add change s there, has))
      (λ s there has. elim (of_changed sets remove add s there) [
        | inl new ↦ inr (new, has)
        | inr old ↦ inl (old.0, (old.1, has))
      ]) kept added now first second lesser)

-- ---- the first walk that is too long

module _ (sets : List RecordSet) (rising : IsRising sets) where
  abbrev aliases : List RecordSet
  aliases = aliases_of sets

  aliases_rise : IsRising aliases
  aliases_rise = filter_rises is_alias_set sets rising

  deep_least : (key : SetKey) → IsLeast (IsTooDeep aliases) aliases key
      → IsLeast (IsTooDeep sets) sets key
  deep_least key least = record {
    set = least.set;
    there = alias_among sets least.set least.there;
    has = deep_from sets least.set least.has;
    same_key = least.same_key;
    least = λ other there deep.
        let is = deep_to sets other deep in least.least other is.0 is.1;
  }

  deep_none : IsFirstPlace (IsTooDeep aliases) aliases None
      → IsFirstKey (IsTooDeep sets) sets None
  deep_none none =
      first_key (IsTooDeep sets) sets rising None
      (λ set there deep.
      (let is = deep_to sets set deep in
      let at = place_of aliases set is.0 in
      let within = slice_get_within aliases at.0 set at.1 in
      none at.0 within (set, at.1, is.1)))

  -- what is told of the aliases alone is told of all sets
  pub deep_key : (key : Option SetKey) → IsFirstKey (IsTooDeep aliases) aliases key
      → IsFirstKey (IsTooDeep sets) sets key
  deep_key None none = deep_none none
  deep_key (Some key) first =
      first_of_least (IsTooDeep sets) sets rising key
      (deep_least key
      (subst (λ (k : SetKey). IsLeast (IsTooDeep aliases) aliases k) first.same_key
      (least_of_first (IsTooDeep aliases) aliases aliases_rise first.place first.set first.there
      first.first)))

-- ---- a set that is copied where it is an alias, and isn't removed

pub set_if_stays : (remove : List SetKey) (set : RecordSet) (key : SetKey) → key ≡ key_of set
    → (named : Bool) → (IsTrue named ↔ IsKeyOf remove key) → named ≡ false
    → (copy : Option RecordSet) → SetIf (is_alias_set set) set copy → SetIf (stays remove set) set copy
set_if_stays remove set key same named told not None is = values_go remove set is
set_if_stays remove set key same named told not (Some copy) is = (
  is.0,
  stays_if remove set is.1
      (λ there. false≢true (sym not ∙ told.1 (subst (λ (k : SetKey). IsKeyOf remove k) (sym same) there))),
)

-- and so of what a call answers where it has memory
pub deep_told : (sets list : List RecordSet) → IsRising sets → list ≡ aliases_of sets
    → (told : Result (Option SetKey) OutOfMemory)
    → IfOk told (λ key. IsFirstKey (IsTooDeep list) list key)
    → IfOk told (λ key. IsFirstKey (IsTooDeep sets) sets key)
deep_told sets list rising e (Ok key) first =
    deep_key sets rising key
    (subst (λ (l : List RecordSet). IsFirstKey (IsTooDeep l) l key) e first)
deep_told sets list rising e (Err why) first = tt
