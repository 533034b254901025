-- Groups of few sets.
use Rattle.std.proofs.Common.{◌≡◌, ◌≤◌, ◌<◌, ◌+◌, ◌⊎◌, ℕ, Bool, true, false, List, [], ◌∷◌, ◌++◌}
use Rattle.std.proofs.Common.{Some}
use Rattle.std.proofs.Common.{length, take, refl, sym, ap, ◌∙◌, subst, inl, inr, arith}
use Rattle.std.specs.Prelude.{cond, slice_get, ◌&&◌, ◌==◌}
use Rattle.std.specs.List.{filter}
use Rattle.std.proofs.lemmas.Bool.Decides.{Decides-and, Decides-eqb}
use Rattle.dns_name.specs.Order.{same_labels}
use Rattle.dns_name.specs.OrderLaws.{same_labels-Decides}
use Rattle.rdata_layout.specs.Types.{number_of}
use Rattle.rdata_layout.specs.declared.types.RType.{RType}
use Rattle.zone_table.specs.RecordSetRecord.{RecordSet}
use Rattle.zone_table.proofs.Among.{place_of}
use Rattle.zone_table.proofs.Lists.{take_more}
use Rattle.std.proofs.lemmas.Bool.{cases_lt}
use Rattle.std.proofs.lemmas.Option.{slice_get_within}
use Rattle.std.proofs.lemmas.List.{length-append}
use Rattle.std.proofs.lemmas.List.Elements.{filter-append}
use Rattle.zone_table.specs.Sets.{IsAmong, group, is_of_group}
use Rattle.policy_select.specs.Groups.{FewByEachSet, FewInGroups}

-- a set of a name and a type: its own group is that one
same_group : (name : List (List ℕ)) (rtype : RType) (set : RecordSet) → is_of_group name rtype set
    ≡ true
    → (sets : List RecordSet) → group sets name rtype ≡ group sets set.name set.rtype
same_group name rtype set h sets =
    let both = (Decides-and _ _ (same_labels-Decides name set.name)
    (Decides-eqb (number_of rtype) (number_of set.rtype))).0 h in
    ap (λ (n : List (List ℕ)). group sets n rtype) both.0
    ∙ ap (λ (k : ℕ). filter
    (λ (s : RecordSet). same_labels set.name s.name && k == number_of s.rtype) sets)
    both.1

-- a group is empty, or has a set
some_or_none : (name : List (List ℕ)) (rtype : RType) (sets : List RecordSet)
    → (length (group sets name rtype) ≡ 0)
    ⊎ ((set : RecordSet) × IsAmong sets set × (is_of_group name rtype set ≡ true))
some_or_none name rtype [] = inl refl
some_or_none name rtype (x
    ∷ sets) = by (is_of_group name rtype x) refl (some_or_none name rtype sets)
  where
    by : (b : Bool) → is_of_group name rtype x ≡ b
        → ((length (group sets name rtype) ≡ 0)
        ⊎ ((set : RecordSet) × IsAmong sets set × (is_of_group name rtype set ≡ true)))
        → (length (cond b (x ∷ group sets name rtype) (group sets name rtype)) ≡ 0)
        ⊎ ((set : RecordSet) × IsAmong (x ∷ sets) set × (is_of_group name rtype set ≡ true))
    by true e rest = inr (x, inl refl, e)
    by false e (inl none) = inl none
    by false e (inr some) = inr (some.0, inr some.1, some.2)

pub few_by_each_set : FewByEachSet
few_by_each_set sets each name rtype = elim (some_or_none name rtype sets) [
  | inl none ↦ omega (arith, none)
  | inr some ↦ subst (λ (g : List RecordSet). length g ≤ 100)
      (sym (same_group name rtype some.0 some.2 sets))
      (each some.0 some.1)
]

-- ---- counting

counts_one : (b : Bool) (x : RecordSet) → length (cond b (x ∷ []) []) ≡ cond b 1 0
counts_one true x = refl
counts_one false x = refl

-- one set more is looked at
pub counted_more : (name : List (List ℕ)) (rtype : RType) (sets : List RecordSet) (i count : ℕ)
    (set : RecordSet) (one : ℕ)
    → slice_get sets i ≡ Some set → count ≡ length (group (take i sets) name rtype)
    → one ≡ cond (is_of_group name rtype set) 1 0
    → count + one ≡ length (group (take (i + 1) sets) name rtype)
counted_more name rtype sets i count set one there so_far is =
    let test = is_of_group name rtype in
    let front = take i sets in
    let whole : length (filter test (take (i + 1) sets))
    ≡ length (filter test front ++ filter test (set ∷ [])) =
    ap (λ (xs : List RecordSet). length (filter test xs)) (take_more sets i set there)
    ∙ ap (λ (xs : List RecordSet). length xs) (filter-append test front (set ∷ [])) in
    let parts = length-append (filter test front) (filter test (set ∷ [])) in
    let last = counts_one (test set) set in
    omega (arith, whole, parts, last, so_far, is)

-- ---- every group

-- the groups of the first sets have few
abbrev pub FewAtFirst : (sets : List RecordSet) → (n : ℕ) → Type 0
FewAtFirst sets n = (k : ℕ) (set : RecordSet) → k < n → slice_get sets k ≡ Some set
    → length (group sets set.name set.rtype) ≤ 100

-- one more has
pub few_more : (sets : List RecordSet) (n count : ℕ) (set : RecordSet) → slice_get sets n ≡ Some set
    → count ≡ length (group sets set.name set.rtype) → count ≤ 100 → FewAtFirst sets n
    → FewAtFirst sets (n + 1)
few_more sets n count set there counted few before k other within at =
    elim (cases_lt k n) [
      | inl less ↦ before k other less at
      | inr last ↦
          let same : n ≡ k = omega (arith, last, within) in
          let sets_same : Some set ≡ Some other =
          sym there ∙ ap (slice_get sets) same ∙ at in
          let one : set ≡ other = cc in
          subst (λ (s : RecordSet). length (group sets s.name s.rtype) ≤ 100) one
          (omega (arith, counted, few))
    ]

-- all have
pub few_of_all : FewByEachSet → (sets : List RecordSet) (n : ℕ) → length sets ≤ n
    → FewAtFirst sets n
    → FewInGroups sets
few_of_all law sets n all few = law sets each
  where
    each : (set : RecordSet) → IsAmong sets set → length (group sets set.name set.rtype) ≤ 100
    each set there =
        let at = place_of sets set there in
        let within = slice_get_within sets at.0 set at.1 in
        few at.0 set (omega (arith, all, within)) at.1
