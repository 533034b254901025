-- What the changes of a batch leave of the sets of a zone.
use Rattle.std.proofs.Common.{◌≡◌, ◌≢◌, ℕ, Bool, true, false, cond, List, [], ◌∷◌, ◌++◌, inl, inr}
use Rattle.std.proofs.Common.{ap, ◌∙◌, sym, refl, subst, arith, Less, Equal, Greater}
use Rattle.std.specs.List.{AllByRecursion, filter}
use Rattle.std.specs.Ordering.{is_gt, is_lt}
use Rattle.std.specs.declared.cmp.Ordering.{Ordering}
use Rattle.command_octets.specs.Batches.{Leaves}
use Rattle.command_octets.specs.Changing.{IsProtected, Makes}
use Rattle.command_octets.specs.ActionRecord.{Action}
use Rattle.command_octets.specs.ActionRecord.TheVariants as action
use Rattle.command_octets.specs.ChangeRecord.{Change}
use Rattle.command_octets.specs.Laws.{ZonesStay}
use Rattle.set_reading.specs.Reasons.{IsOfZone}
use Rattle.set_reading.specs.SetsOfRecordSet.{key_of}
use Rattle.set_reading.specs.RecordSetRecord.{RecordSet}
use Rattle.set_reading.specs.SetKeyRecord.{SetKey}
use Rattle.command_octets.specs.Keys.{key_cmp}
use Rattle.command_octets.specs.Placing.{IsThere, comes_before, comes_behind, placed, without}
use Rattle.command_octets.specs.Zones.{IsAmong, IsZone}
use Rattle.command_octets.proofs.Ordered.{keys_tie}

-- ---- lists in two parts

module _ {X : Type 0} where
  pub all_appended : (P : X → Type 0) (xs ys : List X) → AllByRecursion P xs → AllByRecursion P ys
      → AllByRecursion P (xs ++ ys)
  all_appended P [] ys all also = also
  all_appended P (x ∷ xs) ys all also = (all.0, all_appended P xs ys all.1 also)

  kept_all : (P : X → Type 0) (b : Bool) (x : X) (xs : List X) → P x → AllByRecursion P xs
      → AllByRecursion P (cond b (x ∷ xs) xs)
  kept_all P true x xs p all = (p, all)
  kept_all P false x xs p all = all

  pub all_filtered : (P : X → Type 0) (p : X → Bool) (xs : List X) → AllByRecursion P xs
      → AllByRecursion P (filter p xs)
  all_filtered P p [] all = all
  all_filtered P p (x ∷ xs) all =
      kept_all P (p x) x (filter p xs) all.0 (all_filtered P p xs all.1)

  pub in_front : (xs ys : List X) (x : X) → IsAmong xs x → IsAmong (xs ++ ys) x
  in_front [] ys x there = absurd there
  in_front (y ∷ xs) ys x (inl e) = inl e
  in_front (y ∷ xs) ys x (inr there) = inr (in_front xs ys x there)

  pub in_back : (xs ys : List X) (x : X) → IsAmong ys x → IsAmong (xs ++ ys) x
  in_back [] ys x there = there
  in_back (y ∷ xs) ys x there = inr (in_back xs ys x there)

  passed_first : (b : Bool) (x : X) (xs : List X) → b ≡ true → IsAmong (cond b (x ∷ xs) xs) x
  passed_first true x xs e = inl refl
  passed_first false x xs e = absurd (grind (arith, e))

  passed_more : (b : Bool) (y : X) (xs : List X) (x : X) → IsAmong xs x
      → IsAmong (cond b (y ∷ xs) xs) x
  passed_more true y xs x there = inr there
  passed_more false y xs x there = there

  pub passes : (p : X → Bool) (xs : List X) (x : X) → IsAmong xs x → p x ≡ true
      → IsAmong (filter p xs) x
  passes p [] x there e = absurd there
  passes p (y ∷ xs) x (inl same) e =
      subst (λ z. IsAmong (cond (p y) (y ∷ filter p xs) (filter p xs)) z) same
      (passed_first (p y) y (filter p xs) (subst (λ z. p z ≡ true) (sym same) e))
  passes p (y ∷ xs) x (inr there) e =
      passed_more (p y) y (filter p xs) x (passes p xs x there e)

-- ---- one change

module _ (P : RecordSet → Type 0) (given : RecordSet) (sets : List RecordSet) where
  all_placed : AllByRecursion P sets → P given → AllByRecursion P (placed given sets)
  all_placed all p =
      all_appended P (filter (comes_before (key_of given)) sets)
      (given ∷ filter (comes_behind (key_of given)) sets)
      (all_filtered P (comes_before (key_of given)) sets all)
      (p, all_filtered P (comes_behind (key_of given)) sets all)

  all_without : AllByRecursion P sets → AllByRecursion P (without (key_of given) sets)
  all_without all =
      all_appended P (filter (comes_before (key_of given)) sets)
      (filter (comes_behind (key_of given)) sets)
      (all_filtered P (comes_before (key_of given)) sets all)
      (all_filtered P (comes_behind (key_of given)) sets all)

  all_made : (which : Action) (apex : List (List ℕ)) (after : List RecordSet)
      → AllByRecursion P sets → P given → Makes which given sets apex after
      → AllByRecursion P after
  all_made action.Create apex after all p h =
      subst (λ s. AllByRecursion P s) (sym h.1) (all_placed all p)
  all_made action.Delete apex after all p h =
      subst (λ s. AllByRecursion P s) (sym h.2) (all_without all)
  all_made action.Upsert apex after all p h =
      subst (λ s. AllByRecursion P s) (sym h) (all_placed all p)

module _ (given : RecordSet) (sets : List RecordSet) (key : SetKey) (kept : RecordSet)
    (there : IsAmong sets kept) (same_key : key_of kept ≡ key) where
  abbrev front : List RecordSet
  front = filter (comes_before (key_of given)) sets

  abbrev back : List RecordSet
  back = filter (comes_behind (key_of given)) sets

  stays_placed : IsThere (placed given sets) key
  stays_placed = by (key_cmp (key_of kept) (key_of given)) refl
    where
      by : (o : Ordering) → key_cmp (key_of kept) (key_of given) ≡ o
          → IsThere (placed given sets) key
      by Less e = (
        kept,
        record {
          there = in_front front (given ∷ back) kept
              (passes (comes_before (key_of given)) sets kept there (ap is_lt e));
          same_key = same_key;
        },
      )
      by Greater e = (
        kept,
        record {
          there = in_back front (given ∷ back) kept
              (inr (passes (comes_behind (key_of given)) sets kept there (ap is_gt e)));
          same_key = same_key;
        },
      )
      by Equal e = (
        given,
        record {
          there = in_back front (given ∷ back) given (inl refl);
          same_key = sym (keys_tie (key_of kept) (key_of given) e) ∙ same_key;
        },
      )

  stays_without : (key ≢ key_of given) → IsThere (without (key_of given) sets) key
  stays_without other = by (key_cmp (key_of kept) (key_of given)) refl
    where
      by : (o : Ordering) → key_cmp (key_of kept) (key_of given) ≡ o
          → IsThere (without (key_of given) sets) key
      by Less e = (
        kept,
        record {
          there = in_front front back kept
              (passes (comes_before (key_of given)) sets kept there (ap is_lt e));
          same_key = same_key;
        },
      )
      by Greater e = (
        kept,
        record {
          there = in_back front back kept
              (passes (comes_behind (key_of given)) sets kept there (ap is_gt e));
          same_key = same_key;
        },
      )
      by Equal e = absurd (other (sym same_key ∙ keys_tie (key_of kept) (key_of given) e))

-- a key of the apex that says how the zone is served
pub record IsOfApex (apex : List (List ℕ)) (key : SetKey) : Type 0 where
  pub name : key.name ≡ apex
  pub rtype : IsOfZone key.rtype

stays_made : (which : Action) (given : RecordSet) (sets : List RecordSet) (apex : List (List ℕ))
    (after : List RecordSet) (key : SetKey) → IsOfApex apex key → IsThere sets key
    → Makes which given sets apex after → IsThere after key
stays_made action.Create given sets apex after key of_apex there h =
    subst (λ s. IsThere s key) (sym h.1)
    (stays_placed given sets key there.0 there.1.there there.1.same_key)
stays_made action.Delete given sets apex after key of_apex there h =
    subst (λ s. IsThere s key) (sym h.2)
    (stays_without given sets key there.0 there.1.there there.1.same_key
    (λ e. h.1 (protected e)))
  where
    protected : key ≡ key_of given → IsProtected given apex
    protected e = (
      ap (λ (k : SetKey). k.name) (sym e) ∙ of_apex.name,
      subst IsOfZone (ap (λ (k : SetKey). k.rtype) e) of_apex.rtype,
    )
stays_made action.Upsert given sets apex after key of_apex there h =
    subst (λ s. IsThere s key) (sym h)
    (stays_placed given sets key there.0 there.1.there there.1.same_key)

-- ---- all changes

module _ (apex : List (List ℕ)) where
  pub all_left : (P : RecordSet → Type 0) (changes : List Change) (sets after : List RecordSet)
      → AllByRecursion P sets → AllByRecursion (λ (change : Change). P change.set) changes
      → Leaves sets apex changes after → AllByRecursion P after
  all_left P [] sets after all each e = subst (λ s. AllByRecursion P s) (sym e) all
  all_left P (change ∷ changes) sets after all each (middle, gives, leaves) =
      all_left P changes middle after
      (all_made P change.set sets change.action apex middle all each.0 gives.1) each.1 leaves

  pub zone_left : ZonesStay → (changes : List Change) (sets after : List RecordSet)
      → IsZone sets apex → Leaves sets apex changes after → IsZone after apex
  zone_left law [] sets after zone e = subst (λ s. IsZone s apex) (sym e) zone
  zone_left law (change ∷ changes) sets after zone (middle, gives, leaves) =
      zone_left law changes middle after (law sets apex change middle zone gives) leaves

  pub stays : (changes : List Change) (sets after : List RecordSet) (key : SetKey)
      → IsOfApex apex key → IsThere sets key → Leaves sets apex changes after → IsThere after key
  stays [] sets after key of_apex there e = subst (λ s. IsThere s key) (sym e) there
  stays (change ∷ changes) sets after key of_apex there (middle, gives, leaves) =
      stays changes middle after key of_apex
      (stays_made change.action change.set sets apex middle key of_apex there gives.1) leaves
