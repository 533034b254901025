-- The answer to a command is the same in whichever way it is listed what collections hold and what sets
-- name.
use Rattle.std.proofs.Common.{◌≡◌, ◌<◌, ℕ, Bool, true, false, cond, List, [], ◌∷◌, Option, None, Some, Ok, ap, ◌∙◌, sym, refl, subst, inl, inr, arith}
use Rattle.std.proofs.lemmas.Bool.{cases_lt, eq-eqb, eqb-true}
use Rattle.std.specs.List.{AllByRecursion}
use Rattle.std.specs.Prelude.{◌||◌, nat_eq}
use Rattle.cidr_changes.specs.declared.changes.CidrChange.{CidrChange}
use Rattle.cidr_changes.specs.declared.faults.CidrFault.TheVariants.{CidrCollectionInUse}
use Rattle.cidr_changes.specs.CollectionRecord.{Collection}
use Rattle.cidr_changes.specs.Changed.{changed_collection}
use Rattle.cidr_changes.specs.Listing.{HoldSame, OneListing, SameMembers}
use Rattle.cidr_changes.specs.Places.{IsCollection}
use Rattle.cidr_changes.specs.Laws.{OnlyNamedCount}
use Rattle.cidr_changes.specs.Refusals.{first_of, refuse_if, unless}
use Rattle.cidr_changes.proofs.Named.{same_any}
use Rattle.cidr_commands.specs.declared.command.CidrCommand.{CidrCommand}
use Rattle.cidr_commands.specs.declared.command.CidrCommand.TheVariants.{Create, Change, Delete}
use Rattle.cidr_commands.specs.Commands.{outcome, any_has_block, delete_refusal, deleted, is_used, of_there, put_back}
use Rattle.cidr_commands.specs.Kept.{HoldAlike, HoldSameAt, OnlyMembersCount}
use Rattle.cidr_commands.specs.Stored.{IdsRise, IsSound, Stored, collection_with}
use Rattle.cidr_commands.proofs.Ids.{Held}

module _ (stored : Stored) (id : ℕ) (used other : List (ℕ × List ℕ)) (same : SameMembers used other)
  where
    of_change : OnlyNamedCount → (changes : List CidrChange) (found : Option Collection)
        → of_there id found (λ c. put_back stored id (changed_collection c changes id used))
        ≡ of_there id found (λ c. put_back stored id (changed_collection c changes id other))
    of_change law changes None = refl
    of_change law changes (Some c) = ap (put_back stored id) (law c changes id used other same)

    same_used : is_used id used ≡ is_used id other
    same_used = same_any (λ (named : ℕ × List ℕ). nat_eq named.0 id) used other same

    of_end : (found : Option Collection)
        → of_there id found (λ c. unless (delete_refusal id used c) (Ok (deleted stored id)))
        ≡ of_there id found (λ c. unless (delete_refusal id other c) (Ok (deleted stored id)))
    of_end None = refl
    of_end (Some c) =
        ap (λ in_use. unless (first_of (refuse_if (any_has_block c.locations || in_use) CidrCollectionInUse
        ∷ [])) (Ok (deleted stored id))) same_used

told_alike : OnlyNamedCount → (stored : Stored) (command : CidrCommand) (used other : List (ℕ × List ℕ))
    → SameMembers used other → outcome stored command used ≡ outcome stored command other
told_alike law stored (Create name) used other same = refl
told_alike law stored (Change id changes) used other same =
    of_change stored id used other same law changes (collection_with id stored.list)
told_alike law stored (Delete id) used other same =
    of_end stored id used other same (collection_with id stored.list)

-- lists by rising numbers
none_by : (b : Bool) (id : ℕ) (held : Held) (list : List Held) → nat_eq id held.0 ≡ b → id < held.0
    → collection_with id list ≡ None → cond b (Some held.1) (collection_with id list) ≡ None
none_by true id held list e low rest =
    let same : id ≡ held.0 = eqb-true id held.0 e in absurd (omega (arith, same, low))
none_by false id held list e low rest = rest

none_at : (id : ℕ) (list : List Held) → AllByRecursion (λ other. id < other.0) list
    → collection_with id list ≡ None
none_at id [] above = refl
none_at id (held ∷ list) above =
    none_by (nat_eq id held.0) id held list refl above.0 (none_at id list above.1)

some_at : (id : ℕ) (held : Held) (list : List Held) → id ≡ held.0
    → collection_with id (held ∷ list) ≡ Some held.1
some_at id held list same = rw (eq-eqb id held.0 same) refl

further_above : (id : ℕ) (held : Held) (list : List Held) → id < held.0
    → AllByRecursion (λ other. held.0 < other.0) list
    → AllByRecursion (λ other. id < other.0) (held ∷ list)
further_above id held list low above = (low, go list above)
  where
    go : (list : List Held) → AllByRecursion (λ other. held.0 < other.0) list
        → AllByRecursion (λ other. id < other.0) list
    go [] all = tt
    go (other ∷ list) all = (let h = all.0 in omega (arith, low, h), go list all.1)

module _ (law : OneListing) (h k : Held) (xs ys : List Held)
    (above_h : AllByRecursion (λ other. h.0 < other.0) xs)
    (above_k : AllByRecursion (λ other. k.0 < other.0) ys)
    (is_h : IsCollection h.1) (is_k : IsCollection k.1)
    (at : (id : ℕ) → HoldSameAt (collection_with id (h ∷ xs)) (collection_with id (k ∷ ys))) where
  not_less : h.0 < k.0 → ⊥
  not_less low =
      subst (HoldSameAt (Some h.1)) (none_at h.0 (k ∷ ys) (further_above h.0 k ys low above_k))
      (subst (λ o. HoldSameAt o (collection_with h.0 (k ∷ ys))) (some_at h.0 h xs refl) (at h.0))

  not_greater : k.0 < h.0 → ⊥
  not_greater low =
      subst (λ o. HoldSameAt o (Some k.1))
      (none_at k.0 (h ∷ xs) (further_above k.0 h xs low above_h))
      (subst (HoldSameAt (collection_with k.0 (h ∷ xs))) (some_at k.0 k ys refl) (at k.0))

  one_id : h.0 ≡ k.0
  one_id = elim (cases_lt h.0 k.0) [
    | inl low ↦ absurd (not_less low)
    | inr most ↦ elim (cases_lt k.0 h.0) [
      | inl low ↦ absurd (not_greater low)
      | inr least ↦ omega (arith, most, least)
    ]
  ]

  same_there : HoldSame h.1 k.1
  same_there =
      subst (HoldSameAt (Some h.1)) (some_at h.0 k ys one_id)
      (subst (λ o. HoldSameAt o (collection_with h.0 (k ∷ ys))) (some_at h.0 h xs refl) (at h.0))

  one_held : h ≡ k
  one_held =
      ap (λ n. (n, h.1)) one_id
      ∙ ap (λ (c : Collection). (k.0, c)) (law h.1 k.1 is_h is_k same_there)

  rest_by : (b : Bool) (id : ℕ) → nat_eq id h.0 ≡ b
      → HoldSameAt (cond b (Some h.1) (collection_with id xs)) (cond b (Some k.1) (collection_with id ys))
      → HoldSameAt (collection_with id xs) (collection_with id ys)
  rest_by true id e held =
      let same : id ≡ h.0 = eqb-true id h.0 e in
      let no_x : collection_with id xs ≡ None =
      subst (λ n. collection_with n xs ≡ None) (sym same) (none_at h.0 xs above_h) in
      let no_y : collection_with id ys ≡ None =
      subst (λ n. collection_with n ys ≡ None) (sym (same ∙ one_id)) (none_at k.0 ys above_k) in
      subst (λ o. HoldSameAt o (collection_with id ys)) (sym no_x)
      (subst (HoldSameAt None) (sym no_y) tt)
  rest_by false id e held = held

  rest : (id : ℕ) → HoldSameAt (collection_with id xs) (collection_with id ys)
  rest id =
      rest_by (nat_eq id h.0) id refl
      (subst (λ n. HoldSameAt (collection_with id (h ∷ xs))
      (cond (nat_eq id n) (Some k.1) (collection_with id ys))) (sym one_id) (at id))

lists_same : OneListing → (xs ys : List Held) → IdsRise xs → IdsRise ys
    → AllByRecursion (λ held. IsCollection held.1) xs
    → AllByRecursion (λ held. IsCollection held.1) ys
    → ((id : ℕ) → HoldSameAt (collection_with id xs) (collection_with id ys)) → xs ≡ ys
lists_same law [] [] rise rises are_x are_y at = refl
lists_same law [] (k ∷ ys) rise rises are_x are_y at =
    absurd (subst (HoldSameAt None) (some_at k.0 k ys refl) (at k.0))
lists_same law (h ∷ xs) [] rise rises are_x are_y at =
    absurd (subst (λ o. HoldSameAt o None) (some_at h.0 h xs refl) (at h.0))
lists_same law (h ∷ xs) (k ∷ ys) rise rises are_x are_y at =
    let more = lists_same law xs ys rise.1 rises.1 are_x.1 are_y.1
    (rest law h k xs ys rise.0 rises.0 are_x.0 are_y.0 at) in
    ap (λ l. h ∷ l) more
    ∙ ap (λ (x : Held). x ∷ ys) (one_held law h k xs ys rise.0 rises.0 are_x.0 are_y.0 at)

abbrev the_stored : ℕ → List Held → Stored
the_stored next list = record { next = next; list = list }

one_stored : OneListing → (x y : Stored) → IsSound x → IsSound y → HoldAlike x y → x ≡ y
one_stored law x y sound_x sound_y alike =
    ap (λ n. the_stored n x.list) alike.next
    ∙ ap (the_stored y.next)
    (lists_same law x.list y.list sound_x.rising sound_y.rising sound_x.each sound_y.each alike.at)

pub only_members : OneListing → OnlyNamedCount → OnlyMembersCount
only_members listing law stored other command used named sound_x sound_y alike same =
    told_alike law stored command used named same
    ∙ ap (λ (s : Stored). outcome s command named)
    (one_stored listing stored other sound_x sound_y alike)
