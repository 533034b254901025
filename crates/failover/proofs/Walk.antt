-- The sets of a role, and the first of all.
use Rattle.std.proofs.Common.{◌≡◌, ℕ, Bool, true, false, List, [], ◌∷◌, ◌++◌, map, get_or, drop, slice_get, Some, None, refl, sym, ap, ◌∙◌, append_assoc}
use Rattle.std.proofs.lemmas.List.Elements.{filter-append}
use Rattle.std.specs.Prelude.{slice_index}
use Rattle.considered_sets.specs.Considered.{places_from}
use Rattle.considered_sets.specs.Healthy.{healthy_of, asked}
use Rattle.considered_sets.proofs.InTurn.{all_asked}
use Rattle.failover.specs.Choice.{in_order, is_role, sets_of, chosen}
use Rattle.routing.specs.declared.policies.Role.{Role}
use Rattle.routing.specs.declared.policies.Role.TheVariants.{Primary, Secondary}

-- those that are left from a set on
abbrev pub rest : Role → Bool → List Role → List Bool → ℕ → List ℕ
rest role all roles healthy i =
    asked all healthy (places_from i (map (is_role role) (drop i roles)))

first_here : (xs ys : List ℕ) (set : ℕ) → Some set ≡ slice_get xs 0 → set ≡ slice_index (xs ++ ys) 0
first_here [] ys set e = absurd (let no : ⊥ = cc in no)
first_here (x ∷ xs) ys set e = cc

none_here : (xs ys : List ℕ) → None ≡ slice_get xs 0 → slice_index (xs ++ ys) 0 ≡ slice_index ys 0
none_here [] ys e = refl
none_here (x ∷ xs) ys e = absurd (let no : ⊥ = cc in no)

module _ (roles : List Role) (healthy : List Bool) where
  -- what is asked in turn
  in_turn : chosen roles healthy
      ≡ slice_index (healthy_of healthy (sets_of Primary roles)
      ++ (healthy_of healthy (sets_of Secondary roles) ++ in_order roles)) 0
  in_turn =
      rw (filter-append (λ set. get_or healthy set false) (sets_of Primary roles)
      (sets_of Secondary roles))
      (ap (λ l. slice_index l 0)
      (append_assoc (healthy_of healthy (sets_of Primary roles))
      (healthy_of healthy (sets_of Secondary roles)) (in_order roles)))

  pub healthy_primary : (set : ℕ)
      → Some set ≡ slice_get (asked false healthy (sets_of Primary roles)) 0
      → set ≡ chosen roles healthy
  healthy_primary set e = first_here _ _ set e ∙ sym in_turn

  module _ (no_primary : None ≡ slice_get (asked false healthy (sets_of Primary roles)) 0) where
    second : chosen roles healthy
        ≡ slice_index (healthy_of healthy (sets_of Secondary roles) ++ in_order roles) 0
    second = in_turn ∙ none_here (healthy_of healthy (sets_of Primary roles)) _ no_primary

    pub healthy_secondary : (set : ℕ)
        → Some set ≡ slice_get (asked false healthy (sets_of Secondary roles)) 0
        → set ≡ chosen roles healthy
    healthy_secondary set e = first_here _ _ set e ∙ sym second

    module _ (no_secondary : None ≡ slice_get (asked false healthy (sets_of Secondary roles)) 0)
      where
        third : chosen roles healthy ≡ slice_index (in_order roles) 0
        third = second ∙ none_here (healthy_of healthy (sets_of Secondary roles)) _ no_secondary

        pub any_primary : (set : ℕ)
            → Some set ≡ slice_get (asked true healthy (sets_of Primary roles)) 0
            → set ≡ chosen roles healthy
        any_primary set e =
            first_here _ _ set (e
            ∙ ap (λ l. slice_get l 0) (all_asked healthy (sets_of Primary roles))) ∙ sym third

        pub the_secondary : None ≡ slice_get (asked true healthy (sets_of Primary roles)) 0
            → 0 ≡ chosen roles healthy
        the_secondary e =
            first_secondary roles (e
            ∙ ap (λ l. slice_get l 0) (all_asked healthy (sets_of Primary roles))) ∙ sym third where
              first_secondary : (roles : List Role) → None ≡ slice_get (sets_of Primary roles) 0
                  → 0 ≡ slice_index (in_order roles) 0
              first_secondary [] e = refl
              first_secondary (Primary ∷ roles) e = refl
              first_secondary (Secondary ∷ roles) e =
                  sym (none_here (sets_of Primary (Secondary ∷ roles)) _ e)
