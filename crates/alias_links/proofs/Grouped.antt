-- The members of a group by their places.
use Rattle.std.proofs.Common.{◌≡◌, ℕ, zero, suc, ◌+◌, ◌<◌, List, [], ◌∷◌, take, drop, Some}
use Rattle.std.proofs.Common.{ap, ◌∙◌, sym, refl, subst, arith}
use Rattle.std.specs.Prelude.{slice_get}
use Rattle.rdata_layout.specs.declared.types.RType.{RType}
use Rattle.record_set.specs.declared.sets.RecordSet.{RecordSet}
use Rattle.zone_table.specs.Found.{IsGroupAt}
use Rattle.zone_table.proofs.Members.{filled}
use Rattle.zone_table.proofs.Among.{among_at, place_of}
use Rattle.zone_table.specs.Sets.{IsAmong, group}

module _ {X : Type 0} where
  got_of_take : (xs : List X) (n i : ℕ) → i < n → slice_get (take n xs) i ≡ slice_get xs i
  got_of_take xs zero i within = absurd (omega (arith, within))
  got_of_take [] (suc n) i within = refl
  got_of_take (x ∷ xs) (suc n) zero within = refl
  got_of_take (x ∷ xs) (suc n) (suc i) within = got_of_take xs n i (omega (arith, within))

  got_of_drop : (xs : List X) (s i : ℕ) → slice_get (drop s xs) i ≡ slice_get xs (s + i)
  got_of_drop xs zero i =
      let none : i ≡ zero + i = omega arith in
      ap (λ (k : ℕ). slice_get xs k) none
  got_of_drop [] (suc s) i = refl
  got_of_drop (x ∷ xs) (suc s) i =
      let one : suc (s + i) ≡ suc s + i = omega arith in
      got_of_drop xs s i ∙ ap (λ (k : ℕ). slice_get (x ∷ xs) k) one

  -- what stands among the first n stands below place n
  below_take : (xs : List X) (n i : ℕ) (x : X) → slice_get (take n xs) i ≡ Some x → i < n
  below_take xs zero i x e = absurd (grind (arith, e))
  below_take [] (suc n) i x e = absurd (grind (arith, e))
  below_take (y ∷ xs) (suc n) zero x e = omega arith
  below_take (y ∷ xs) (suc n) (suc i) x e =
      let rest = below_take xs n i x e in omega (arith, rest)

module _ (sets : List RecordSet) (name : List (List ℕ)) (rtype : RType) (start n : ℕ)
    (is : IsGroupAt sets name rtype start n) where
  -- a set at one of its places is of the group
  pub member_at : (i : ℕ) (set : RecordSet) → i < n → slice_get sets (start + i) ≡ Some set
      → IsAmong (group sets name rtype) set
  member_at i set lt at =
      let e = got_of_take (drop start sets) n i lt ∙ got_of_drop sets start i ∙ at in
      subst (λ (xs : List RecordSet). IsAmong xs set) is.members
      (among_at (take n (drop start sets)) i set e)

  -- and a set of the group stands at one of its places
  pub place_in : (set : RecordSet) → IsAmong (group sets name rtype) set
      → (i : ℕ) × (i < n) × (slice_get sets (start + i) ≡ Some set)
  place_in set there =
      let whole = subst (λ (xs : List RecordSet). IsAmong xs set) (sym is.members) there in
      let at = place_of (take n (drop start sets)) set whole in
      let lt = below_take (drop start sets) n at.0 set at.1 in (
        at.0,
        lt,
        sym (got_of_drop sets start at.0)
            ∙ (sym (got_of_take (drop start sets) n at.0 lt) ∙ at.1),
      )

  -- a set stands at each of its places
  pub filled_at : (i : ℕ) → i < n → (set : RecordSet) × (slice_get sets (start + i) ≡ Some set)
  filled_at i lt =
      let within = is.within in filled sets (start + i) (omega (arith, lt, within))
