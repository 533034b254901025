-- The soonest set is the chosen one.
use Rattle.std.proofs.Common.{◌≡◌, ◌≢◌, ◌<◌, ℕ, zero, suc, Bool, true, false, not, Option, None, Some, List, [], ◌∷◌}
use Rattle.std.proofs.Common.{length, map, get_or, arith, refl, sym, ap, ◌∙◌, subst, inl, inr}
use Rattle.std.specs.Prelude.{IfSome}
use Rattle.std.specs.Option.{unwrap_or}
use Rattle.std.specs.Ordering.{is_lt, nat_cmp, ordering_then}
use Rattle.std.specs.declared.cmp.Ordering.TheVariants.{Greater, Less}
use Rattle.std.specs.Cmp.{IsStrictWeakOrder, nat_cmp_is}
use Rattle.std.specs.Cmp.Lexicographic.{slice_cmp}
use Rattle.std.proofs.lemmas.Bool.{cases_eq}
use Rattle.std.proofs.lemmas.Cmp.{nat_list_cmp_total}
use Rattle.std.proofs.lemmas.List.{length-map}
use Rattle.std.proofs.lemmas.List.MinMax.{ranks_by}
use Rattle.considered_sets.specs.Considered.{some_healthy}
use Rattle.geo_latency.specs.First.{is_considered}
use Rattle.geo_latency.specs.Regions.{chosen, is_before, slowness}
use Rattle.geo_latency.proofs.Head.{first_is_chosen}
use Rattle.answer_model.specs.Choice.{each}
use Rattle.answer_model.specs.Policies.{region_of}
use Rattle.zone_table.specs.RecordSetRecord.{RecordSet}
use Rattle.policy_select.specs.Soonest.{IsSoonest, slow_each}

-- what stands at a place of a list of what each says
at_map : (f : List ℕ → ℕ) (xs : List (List ℕ)) (k : ℕ) → k < length xs
    → get_or (map f xs) k 0 ≡ f (get_or xs k [])
at_map f [] k within = absurd (omega (arith, within))
at_map f (x ∷ xs) zero within = refl
at_map f (x ∷ xs) (suc k) within = at_map f xs k (omega (arith, within))

lower_first : (a b : ℕ) (x y : List ℕ) → a < b → is_lt (slice_cmp nat_cmp (a ∷ x) (b ∷ y)) ≡ true
lower_first a b x y less =
    subst (λ o. is_lt (ordering_then o (slice_cmp nat_cmp x y)) ≡ true) (nat_cmp_is a b Less less) refl

higher_last : (a b : ℕ) (x y : List ℕ) → a < b → is_lt (slice_cmp nat_cmp (b ∷ y) (a ∷ x)) ≡ false
higher_last a b x y less =
    subst (λ o. is_lt (ordering_then o (slice_cmp nat_cmp y x)) ≡ false) (nat_cmp_is b a Greater less)
    refl

module _ (client : Option (List (List ℕ × ℕ))) where
  order : IsStrictWeakOrder (is_before client)
  order = ranks_by nat_list_cmp_total (λ region. slowness client region ∷ region)

  itself : (a : List ℕ) → is_before client a a ≡ false
  itself a = go (is_before client a a) refl where
    go : (v : Bool) → is_before client a a ≡ v → is_before client a a ≡ false
    go true e = order.one_way a a e
    go false e = e

  pub soonest_is_chosen : (regions : List (List ℕ)) (slow : List ℕ) (healthy : List Bool) (k : ℕ)
      → slow ≡ map (slowness client) regions → length regions ≡ length healthy
      → IsSoonest slow healthy k → k ≡ chosen regions healthy client
  soonest_is_chosen regions slow healthy k said long is =
      first_is_chosen client regions healthy (some_healthy healthy) refl (length healthy) refl
      (record { set = k; slowness = get_or slow k 0 })
      (record {
        within = omega (arith, within, long);
        slow = told k within;
        considered = is.considered;
        least = λ j lt ok. elim (cases_eq j k) [
          | inl e ↦ subst
              (λ n. is_before client (get_or regions n []) (get_or regions k []) ≡ false) (sym e)
              (itself (get_or regions k []))
          | inr ne ↦ behind j (omega (arith, lt, long)) ne ok
        ];
        sooner = λ j lt ok. ahead j (omega (arith, lt, within)) (λ e. absurd (omega (arith, lt, e))) ok;
      })
    where
      size : length slow ≡ length regions
      size = ap length said ∙ length-map regions (slowness client)

      within : k < length regions
      within = let w = is.within in omega (arith, w, size)

      told : (j : ℕ) → j < length regions
          → get_or slow j 0 ≡ slowness client (get_or regions j [])
      told j lt = ap (λ l. get_or l j 0) said ∙ at_map (slowness client) regions j lt

      less : (j : ℕ) → j < length regions → j ≢ k
          → is_considered healthy (not (some_healthy healthy)) j ≡ true
          → slowness client (get_or regions k []) < slowness client (get_or regions j [])
      less j lt other ok =
          let it = is.others j (omega (arith, lt, size)) other ok in
          let a = told k within in
          let b = told j lt in
          omega (arith, it, a, b)

      ahead : (j : ℕ) → j < length regions → j ≢ k
          → is_considered healthy (not (some_healthy healthy)) j ≡ true
          → is_before client (get_or regions k []) (get_or regions j []) ≡ true
      ahead j lt other ok =
          lower_first (slowness client (get_or regions k [])) (slowness client (get_or regions j []))
          (get_or regions k []) (get_or regions j []) (less j lt other ok)

      behind : (j : ℕ) → j < length regions → j ≢ k
          → is_considered healthy (not (some_healthy healthy)) j ≡ true
          → is_before client (get_or regions j []) (get_or regions k []) ≡ false
      behind j lt other ok =
          higher_last (slowness client (get_or regions k [])) (slowness client (get_or regions j []))
          (get_or regions k []) (get_or regions j []) (less j lt other ok)

-- how slow regions are, which are told as those of sets
pub slow_is : (client : Option (List (List ℕ × ℕ))) (first : List ℕ) (sets : List RecordSet)
    → slow_each client first sets ≡ map (slowness client) (each region_of first sets)
slow_is client first [] = refl
slow_is client first (set ∷ sets) =
    ap (λ l. slowness client (unwrap_or (region_of set.routing) first) ∷ l)
    (slow_is client first sets)

-- what was found soonest is the chosen one
pub found_is_chosen : (client : Option (List (List ℕ × ℕ))) (regions : List (List ℕ))
    (slow noted : List ℕ) (flags healthy : List Bool) (found : Option ℕ)
    → noted ≡ slow → slow ≡ map (slowness client) regions → healthy ≡ flags
    → length regions ≡ length flags
    → IfSome found (λ place. IsSoonest noted healthy place)
    → IfSome found (λ place. place ≡ chosen regions flags client)
found_is_chosen client regions slow noted flags healthy None same said flagged long is = tt
found_is_chosen client regions slow noted flags healthy (Some place) same said flagged long is =
    soonest_is_chosen client regions noted flags place (same ∙ said) long
    (subst (λ hs. IsSoonest noted hs place) flagged is)
