-- Vacant slots come behind all others.
use Rattle.std.proofs.Common.{◌≡◌, ◌≤◌, ◌+◌, ◌-◌, ℕ, zero, suc, List, [], ◌∷◌, ◌++◌, Option, None, length, max, refl, sym, ap, subst, arith, Result, Ok, Err}
use Rattle.std.specs.Prelude.{MatchResult, OnOk, slice_get}
use Rattle.std.proofs.Math.Nat.{le-max_left, le-max_right}
use Rattle.std.proofs.lemmas.List.{length-append}
use Rattle.set_store.specs.Stored.{Kept, nothing}
use Rattle.zone_order.specs.Orders.{IsOrder, IsOrderBy, of_zone, set_in}

none_in : (zone more k : ℕ) → of_zone zone (slice_get (nothing more) k) ≡ None
none_in zone zero k = refl
none_in zone (suc more) zero = refl
none_in zone (suc more) (suc k) = none_in zone more k

pub vacant_behind : (slots : List (Option Kept)) (more zone k : ℕ)
    → set_in (slots ++ nothing more) zone k ≡ set_in slots zone k
vacant_behind [] more zone k = none_in zone more k
vacant_behind (kept ∷ slots) more zone zero = refl
vacant_behind (kept ∷ slots) more zone (suc k) = vacant_behind slots more zone k

pub ordered_still : (slots now : List (Option Kept)) (zone : ℕ) (order : List ℕ)
    → ((k : ℕ) → set_in now zone k ≡ set_in slots zone k) → IsOrder slots zone order → IsOrder now zone order
ordered_still slots now zone order same is =
    let all : set_in now zone ≡ set_in slots zone = λ i k. same k i in
    subst (λ get. IsOrderBy get order) (sym all) is

as_many_free : (n : ℕ) → length (nothing n) ≡ n
as_many_free zero = refl
as_many_free (suc n) = ap suc (as_many_free n)

-- as many slots more as are free now and were not
pub more_slots : (slots now : List (Option Kept)) (free free_now : ℕ) → now ≡ slots ++ nothing (free_now - free)
    → free ≤ free_now → length now + free ≡ length slots + free_now
more_slots slots now free free_now is grown =
    let e = ap length is in
    let a = length-append slots (nothing (free_now - free)) in
    let n = as_many_free (free_now - free) in
    omega (arith, e, a, n, grown)

module _ {X E : Type 0} (was now want : ℕ) where
  -- there is no less room
  pub no_less : (r : Result X E) → MatchResult r (λ _. now ≡ max was want) (λ _. now ≡ was) → was ≤ now
  no_less (Ok x) is = let h = le-max_left was want in omega (arith, is, h)
  no_less (Err e) is = omega (arith, is)

  -- and as much as is wanted
  pub enough : (r : Result X E) → MatchResult r (λ _. now ≡ max was want) (λ _. now ≡ was) → OnOk r (want ≤ now)
  enough (Ok x) is = let h = le-max_right was want in omega (arith, is, h)
  enough (Err e) is = tt

  pub no_fewer : (r : Result X E) → MatchResult r (λ _. now ≡ max was want) (λ _. was ≤ now) → was ≤ now
  no_fewer (Ok x) is = let h = le-max_left was want in omega (arith, is, h)
  no_fewer (Err e) is = is

  pub as_wanted : (r : Result X E) → MatchResult r (λ _. now ≡ max was want) (λ _. was ≤ now) → OnOk r (want ≤ now)
  as_wanted (Ok x) is = let h = le-max_right was want in omega (arith, is, h)
  as_wanted (Err e) is = tt

pub both : {X E : Type 0} (P Q : Type 0) (r : Result X E) → OnOk r P → OnOk r Q → OnOk r (P × Q)
both P Q (Ok x) p q = (p, q)
both P Q (Err e) p q = tt
