-- Lists that are looked at from one element to the next, and rows that are added one by one.
use Rattle.std.proofs.Common.{◌≡◌, ◌≢◌, ◌≤◌, ◌<◌, ◌+◌, ◌-◌, ℕ, zero, suc, Bool, true, false, IsTrue, ◌↔◌, List, [], ◌∷◌, ◌++◌, length, get_or, Ordering, Less, ap, ◌∙◌, sym, refl, subst, arith}
use Rattle.std.specs.Prelude.{not, ◌==◌}
use Rattle.std.specs.Cmp.{IsTotalOrder}
use Rattle.std.specs.Cmp.Lexicographic.{nat_list_cmp_total}
use Rattle.std.specs.List.{AllByRecursion}
use Rattle.std.specs.List.Sorted.{IsStrictlySortedBy}
use Rattle.std.specs.Ordering.{ordering_index}
use Rattle.std.proofs.lemmas.Bool.{false≢true}
use Rattle.std.proofs.lemmas.List.{get_or_default, length-map}
use Rattle.std.proofs.lemmas.Map.Keys.{Less-from_sorted, sorted_from_all_adjacent}
use Rattle.ip_table.specs.Prefixes.{Prefix}
use Rattle.ip_table.specs.Rows.{HasRow}
use Rattle.cidr_blocks.specs.declared.places.CidrLocation.{CidrLocation}
use Rattle.cidr_blocks.specs.Judged.{Adds, AddsAll}
use Rattle.cidr_blocks.specs.Places.{StandOnce, name_cmp, names_of}
use Rattle.cidr_blocks.proofs.Once.{Row, fresh, front}

pub isnt : {P : Type 0} → (P → ⊥) → IsTrue false ↔ P
isnt never = (λ t. absurd (false≢true t), λ p. absurd (never p))

pub is : {P : Type 0} → P → IsTrue true ↔ P
is p = (λ t. p, λ q. refl)

module _ {K : Type 0} (R : K → K → Ordering) where
  pub falls : (ks : List K) (i : ℕ) (p q : K) (o : Ordering) (unlike : Bool) → 1 ≤ i
      → i < length ks → p ≡ get_or ks (i - 1) p → q ≡ get_or ks i q → o ≡ R p q
      → unlike ≡ not (ordering_index o == 0) → unlike ≡ true → IsStrictlySortedBy R ks → ⊥
  falls ks i p q o unlike from lt at_p at_q is_o told so sorted =
      let below = Less-from_sorted R ks (i - 1) i p sorted (omega (arith, from)) lt in
      let less : R p q ≡ Less =
      ap (λ x. R x q) at_p
      ∙ ap (R (get_or ks (i - 1) p)) (at_q ∙ get_or_default ks i q p lt) ∙ below in
      false≢true (sym (told ∙ ap (λ o. not (ordering_index o == 0)) (is_o ∙ less)) ∙ so)

  none_sorted : IsStrictlySortedBy R []
  unfolding IsStrictlySortedBy
  none_sorted = tt

  pub rises : IsTotalOrder R → (ks : List K) (i : ℕ) → length ks ≤ i
      → ((k : ℕ) (d : K) → k + 1 < i → R (get_or ks k d) (get_or ks (k + 1) d) ≡ Less)
      → IsStrictlySortedBy R ks
  rises total [] i over each = none_sorted
  rises total (x ∷ ks) i over each =
      sorted_from_all_adjacent total (x ∷ ks) x
      (λ k lt. each k x (omega (arith, lt, over)))

name_at : (ls : List CidrLocation) (k : ℕ) (l : CidrLocation)
    → get_or (names_of ls) k l.name ≡ (get_or ls k l).name
name_at [] k l = refl
name_at (x ∷ ls) zero l = refl
name_at (x ∷ ls) (suc k) l = name_at ls k l

module _ (ls : List CidrLocation) (i : ℕ) where
  own_name : (k : ℕ) (l : CidrLocation) → k < length ls
      → (get_or ls k l).name ≡ get_or (names_of ls) k (get_or ls k l).name
  own_name k l lt =
      sym (name_at ls k l)
      ∙ get_or_default (names_of ls) k l.name (get_or ls k l).name
      (let e = length-map ls (λ (l : CidrLocation). l.name) in omega (arith, e, lt))

  pub names_fall : (p q : CidrLocation) (o : Ordering) (unlike : Bool) → 1 ≤ i → i < length ls
      → o ≡ name_cmp (get_or ls (i - 1) p).name (get_or ls i q).name
      → unlike ≡ not (ordering_index o == 0) → unlike ≡ true
      → IsStrictlySortedBy name_cmp (names_of ls) → ⊥
  names_fall p q o unlike from lt =
      falls name_cmp (names_of ls) i (get_or ls (i - 1) p).name (get_or ls i q).name o unlike from
      (let e = length-map ls (λ (l : CidrLocation). l.name) in omega (arith, e, lt))
      (own_name (i - 1) p (omega (arith, lt))) (own_name i q lt)

  pub names_rise : length ls ≤ i
      → ((k : ℕ) (l : CidrLocation) → k + 1 < i
      → name_cmp (get_or ls k l).name (get_or ls (k + 1) l).name ≡ Less)
      → IsStrictlySortedBy name_cmp (names_of ls)
  names_rise over each =
      rises name_cmp nat_list_cmp_total (names_of ls) i
      (let e = length-map ls (λ (l : CidrLocation). l.name) in omega (arith, e, over))
      (λ k d lt. let l : CidrLocation = record { name = d; blocks = [] } in
      ap (λ n. name_cmp n (get_or (names_of ls) (k + 1) d)) (name_at ls k l)
      ∙ ap (name_cmp (get_or ls k l).name) (name_at ls (k + 1) l) ∙ each k l lt)

-- a new block behind rows
behind_all : (p : Prefix) (rows : List Row) (new : Row) → AllByRecursion (λ (r : Row). r.0 ≢ p) rows
    → new.0 ≢ p → AllByRecursion (λ (r : Row). r.0 ≢ p) (rows ++ new ∷ [])
behind_all p [] new all other = (other, tt)
behind_all p (row ∷ rows) new all other = (all.0, behind_all p rows new all.1 other)

pub once_more : (rows : List Row) (p : Prefix) (name : List ℕ) → StandOnce rows
    → (HasRow rows p → ⊥) → StandOnce (rows ++ (p, name) ∷ [])
once_more [] p name once none = (tt, tt)
once_more (row ∷ rows) p name once none = (
  behind_all row.0 rows (p, name) once.0
      (λ e. none (row.1, (zero, omega arith, ap (λ q. (q, row.1)) (sym e)))),
  once_more rows p name once.1
      (λ h. none (h.0, (suc h.1.0, (let lt = h.1.1 in omega (arith, lt)), h.1.2))),
)

-- a block that isn't new
pub twice : (table : List Row) (p : Prefix) (name : List ℕ) (after : List Row) (added : Bool)
    → Adds table p name after added → added ≡ false → (rest whole : List Row)
    → whole ≡ table ++ (p, name) ∷ rest → StandOnce whole → ⊥
twice table p name after true adds none rest whole same once = false≢true (sym none)
twice table p name after false adds none rest whole same once =
    fresh table p name rest (subst StandOnce same once) adds

-- rows of which some aren't new
pub twice_among : (table more after : List Row) (added : Bool) → AddsAll table more after added
    → added ≡ false → (rest whole : List Row) → whole ≡ table ++ more ++ rest → StandOnce whole → ⊥
twice_among table more after true adds none rest whole same once = false≢true (sym none)
twice_among table more after false adds none rest whole same once =
    adds (front (table ++ more) rest (subst StandOnce same once))
