-- The set that comes first, one set further.
use Rattle.std.proofs.Common.{◌≡◌, ◌<◌, ◌+◌, ℕ, Bool, true, false, Option, Some, None, List, [], ◌∷◌, get_or, arith, refl, sym, ◌∙◌, inl, inr, subst}
use Rattle.std.specs.Ordering.{is_lt, nat_cmp}
use Rattle.std.specs.Cmp.{IsStrictWeakOrder}
use Rattle.std.specs.Cmp.Lexicographic.{slice_cmp}
use Rattle.std.proofs.lemmas.Bool.{cases_eq}
use Rattle.std.proofs.lemmas.Cmp.{nat_list_cmp_total}
use Rattle.std.proofs.lemmas.List.MinMax.{ranks_by}
use Rattle.geo_latency.specs.First.{ComesFirst, IsFirst, is_considered}
use Rattle.geo_latency.specs.Regions.{is_before, slowness}
use Rattle.geo_latency.specs.declared.regions.First.{First}

true_is_false : {P : Type 0} (b : Bool) → b ≡ true → b ≡ false → P
true_is_false b t f = absurd (let no : true ≡ false = sym t ∙ f in let never : ⊥ = cc in never)

module _ (client : Option (List (List ℕ × ℕ))) where
  order : IsStrictWeakOrder (is_before client)
  order = ranks_by nat_list_cmp_total (λ region. slowness client region ∷ region)

  -- a region doesn't come before itself
  itself : (a : List ℕ) → is_before client a a ≡ false
  itself a = go (is_before client a a) refl where
    go : (v : Bool) → is_before client a a ≡ v → is_before client a a ≡ false
    go true e = order.one_way a a e
    go false e = e

  -- none comes before what comes before the first
  under : (i j b : List ℕ) → is_before client i b ≡ true → is_before client j b ≡ false
      → is_before client j i ≡ false
  under i j b before not_before = order.chain j b i not_before (order.one_way i b before)

  -- what comes before the first comes before each that doesn't
  ahead : (i j b : List ℕ) → is_before client i b ≡ true → is_before client j b ≡ false
      → is_before client i j ≡ true
  ahead i j b before not_before = go (is_before client i j) refl where
    go : (v : Bool) → is_before client i j ≡ v → is_before client i j ≡ true
    go true e = e
    go false e = true_is_false (is_before client i b) before (order.chain i j b e not_before)

  module _ (regions : List (List ℕ)) (healthy : List Bool) (all : Bool) (i : ℕ) where
    -- what holds of the sets below i and of i itself holds of each below the next
    below : (P : ℕ → Type 0) → ((j : ℕ) → j < i → P j) → P i → (j : ℕ) → j < i + 1 → P j
    below P lower this j lt =
        elim (cases_eq j i) [ inl e ↦ subst P (sym e) this | inr ne ↦ lower j (omega arith) ]

    -- the region of a set comes before that of another
    abbrev sooner_than : ℕ → ℕ → Bool
    sooner_than set other = is_before client (get_or regions set []) (get_or regions other [])

    abbrev asks : ℕ → Bool
    asks set = is_considered healthy all set

    -- a set that isn't considered changes nothing
    pub passed : (first : Option First) → is_considered healthy all i ≡ false
        → IsFirst client regions healthy all i first
        → IsFirst client regions healthy all (i + 1) first
    passed None out none = below (λ k. asks k ≡ false) none out
    passed (Some first) out is = record {
      within = omega (arith, is.within);
      slow = is.slow;
      considered = is.considered;
      least = below (λ k. asks k ≡ true → sooner_than k first.set ≡ false) is.least
          (λ ok. true_is_false (asks i) ok out);
      sooner = is.sooner;
    }

    module _ (slow : ℕ) (is_slow : slow ≡ slowness client (get_or regions i []))
        (ok_here : is_considered healthy all i ≡ true) where
      -- the first that is considered
      pub only : IsFirst client regions healthy all i None
          → ComesFirst client regions healthy all (i + 1) (record { set = i; slowness = slow })
      only none = record {
        within = omega arith;
        slow = is_slow;
        considered = ok_here;
        least = below (λ k. asks k ≡ true → sooner_than k i ≡ false)
            (λ j lt ok. true_is_false (asks j) ok (none j lt)) (λ ok. itself (get_or regions i []));
        sooner = λ j lt ok. true_is_false (asks j) ok (none j lt);
      }

      module _ (first : First) (is : ComesFirst client regions healthy all i first) where
        -- it comes before the first
        pub taken : is_before client (get_or regions i []) (get_or regions first.set []) ≡ true
            → ComesFirst client regions healthy all (i + 1) (record { set = i; slowness = slow })
        taken before = record {
          within = omega arith;
          slow = is_slow;
          considered = ok_here;
          least = below (λ k. asks k ≡ true → sooner_than k i ≡ false)
              (λ j lt ok. under (get_or regions i []) (get_or regions j [])
              (get_or regions first.set []) before (is.least j lt ok))
              (λ ok. itself (get_or regions i []));
          sooner = λ j lt ok. ahead (get_or regions i []) (get_or regions j [])
              (get_or regions first.set []) before (is.least j lt ok);
        }

        -- it doesn't
        pub left : is_before client (get_or regions i []) (get_or regions first.set []) ≡ false
            → ComesFirst client regions healthy all (i + 1) first
        left behind = record {
          within = omega (arith, is.within);
          slow = is.slow;
          considered = is.considered;
          least = below (λ k. asks k ≡ true
              → sooner_than k first.set ≡ false) is.least (λ ok. behind);
          sooner = is.sooner;
        }

  -- the comparison as it is worked out
  pub worked_out : (a b x y : List ℕ) (m n : ℕ) (v : Bool) → m ≡ slowness client x → x ≡ a
      → n ≡ slowness client b → y ≡ b
      → v ≡ is_lt (slice_cmp nat_cmp (m ∷ x) (n ∷ y)) → is_before client a b ≡ v
  worked_out a b x y m n v slow_a is_a slow_b is_b e =
      rw (sym is_a, sym slow_b, sym slow_a, sym is_b) (sym e)
