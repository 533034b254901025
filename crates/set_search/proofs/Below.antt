-- Names below a name stand together in zone order.
use Rattle.std.proofs.Common.{◌≡◌, ℕ, suc, ◌+◌, ◌-◌, ◌<◌, ◌≤◌, List, [], ◌∷◌, ◌++◌, length, ap, ◌∙◌, sym, refl, false, Some, Less, Equal, Greater, subst, arith, inl, inr}
use Rattle.std.specs.Prelude.{◌⊎◌, ◌≢◌, ◌↔◌, slice_get, reverse, nat_eq}
use Rattle.std.specs.declared.cmp.Ordering.{Ordering}
use Rattle.std.specs.Ordering.{is_gt, is_eq, nat_cmp, ordering_then, ordering_reverse}
use Rattle.std.specs.Cmp.Lexicographic.{slice_cmp, pointwise, texts_ties}
use Rattle.std.proofs.lemmas.Bool.Decides.{Decides-eqb}
use Rattle.std.proofs.lemmas.Cmp.{nat_list_cmp_total}
use Rattle.std.proofs.lemmas.List.{reverse-reverse, reverse-append, append_assoc, length-append}
use Rattle.std.proofs.lemmas.Option.{slice_get_within}
use Rattle.std.proofs.lemmas.Slice.Eq.{slice_eq-Decides}
use Rattle.zone_model.specs.OrderOfDnsName.{zone_cmp}
use Rattle.zone_model.specs.OrderLaws.{zone_cmp_total}
use Rattle.zone_model.specs.Suffix.{EndsWith}
use Rattle.zone_model.specs.RecordSetRecord.{RecordSet}
use Rattle.zone_model.specs.Existing.{Exists, IsAncestor, IsClosest}
use Rattle.zone_model.specs.Zones.{IsRising}
use Rattle.zone_model.proofs.Among.{among_at, place_of}
use Rattle.zone_model.proofs.Places.{ordered_at}
use Rattle.set_search.specs.Found.{IsBelowAt, IsFirstNamed}
use Rattle.set_search.proofs.Lookups.{below_or_not, filled, up_or_tied}

-- labels from the root on
abbrev Path : Type 0
Path = List (List ℕ)

abbrev path_cmp : Path → Path → Ordering
path_cmp = slice_cmp (slice_cmp nat_cmp)

labels_tie : (label other : List ℕ) → slice_cmp nat_cmp label other ≡ Equal → label ≡ other
labels_tie label other e =
    (slice_eq-Decides Decides-eqb label other (pointwise nat_eq label other) refl).0
    (texts_ties label other ∙ ap is_eq e)

turned : (label other : List ℕ) (o : Ordering) → slice_cmp nat_cmp label other ≡ o
    → slice_cmp nat_cmp other label ≡ ordering_reverse o
turned label other o e = nat_list_cmp_total.antisymm other label ∙ ap ordering_reverse e

-- what lies between a path and one that begins with it begins with it
between : (path more middle : Path) → is_gt (path_cmp path middle) ≡ false
    → is_gt (path_cmp middle (path ++ more)) ≡ false
    → (rest : Path) × (middle ≡ path ++ rest)
between [] more middle low high = (middle, refl)
between (label ∷ path) more [] low high = absurd (grind (arith, low))
between (label ∷ path) more (other ∷ middle) low high =
    by (slice_cmp nat_cmp label other) refl (between path more middle)
  where
    by : (o : Ordering) → slice_cmp nat_cmp label other ≡ o
        → (is_gt (path_cmp path middle) ≡ false → is_gt (path_cmp middle (path ++ more)) ≡ false
        → (rest : Path) × (middle ≡ path ++ rest))
        → (rest : Path) × (other ∷ middle ≡ label ∷ (path ++ rest))
    by Less e further =
        let up : slice_cmp nat_cmp other label ≡ Greater = turned label other Less e in
        let h : is_gt (ordering_then Greater (path_cmp middle (path ++ more))) ≡ false =
        subst (λ o. is_gt (ordering_then o (path_cmp middle (path ++ more))) ≡ false) up high in
        absurd (grind (arith, h))
    by Equal e further =
        let back : slice_cmp nat_cmp other label ≡ Equal = turned label other Equal e in
        let h : is_gt (path_cmp middle (path ++ more)) ≡ false =
        subst (λ o. is_gt (ordering_then o (path_cmp middle (path ++ more)))
        ≡ false) back high in
        let l : is_gt (path_cmp path middle) ≡ false =
        subst (λ o. is_gt (ordering_then o (path_cmp path middle)) ≡ false) e low in
        let rest = further l h in (
          rest.0,
          ap (λ x. x ∷ middle) (sym (labels_tie label other e))
              ∙ ap (λ xs. label ∷ xs) rest.1,
        )
    by Greater e further =
        let l : is_gt (ordering_then Greater (path_cmp path middle)) ≡ false =
        subst (λ o. is_gt (ordering_then o (path_cmp path middle)) ≡ false) e low in
        absurd (grind (arith, l))

-- a path isn't behind one that begins with it
front_first : (path more : Path) → is_gt (path_cmp path (path ++ more)) ≡ false
front_first [] [] = refl
front_first [] (label ∷ more) = refl
front_first (label ∷ path) more =
    subst (λ o. is_gt (ordering_then o (path_cmp path (path ++ more)))
    ≡ false) (sym (tied label)) (front_first path more)
  where
    tied : (label : List ℕ) → slice_cmp nat_cmp label label ≡ Equal
    tied label = itself (slice_cmp nat_cmp label label) refl
      where
        itself : (o : Ordering) → slice_cmp nat_cmp label label ≡ o
            → slice_cmp nat_cmp label label ≡ Equal
        itself Less e = absurd (let t = turned label label Less e in grind (arith, e, t))
        itself Equal e = e
        itself Greater e = absurd (let t = turned label label Greater e in grind (arith, e, t))

-- a name isn't behind those below it
pub not_behind : (name below : Path) → EndsWith below name → is_gt (zone_cmp name below) ≡ false
not_behind name below (first, e) =
    subst (λ n. is_gt (zone_cmp name n) ≡ false) (sym e)
    (subst (λ p. is_gt (path_cmp (reverse name) p) ≡ false) (sym (reverse-append first name))
    (front_first (reverse name) (reverse first)))

-- what lies between a name and one below it is below it
pub below_between : (name middle below : Path) → EndsWith below name
    → is_gt (zone_cmp name middle) ≡ false → is_gt (zone_cmp middle below) ≡ false
    → EndsWith middle name
below_between name middle below (first, e) low high =
    let h : is_gt (path_cmp (reverse middle) (reverse name ++ reverse first)) ≡ false =
    subst (λ p. is_gt (path_cmp (reverse middle) p) ≡ false) (ap reverse e
    ∙ reverse-append first name) high in
    let rest = between (reverse name) (reverse first) (reverse middle) low h in (
      reverse rest.0,
      sym (reverse-reverse middle)
          ∙ (ap reverse rest.1
          ∙ (reverse-append (reverse name) rest.0
          ∙ ap (λ xs. reverse rest.0 ++ xs) (reverse-reverse name))),
    )

not_less : (o : Ordering) → o ≢ Less → is_gt (ordering_reverse o) ≡ false
not_less Less n = absurd (n refl)
not_less Equal n = refl
not_less Greater n = refl

not_up : (o : Ordering) → is_gt (ordering_reverse o) ≡ false → o ≢ Less
not_up Less e = λ h. absurd (grind (arith, e))
not_up Equal e = λ h. absurd (grind (arith, h))
not_up Greater e = λ h. absurd (grind (arith, h))

-- of two sets in order the names are
names_rise : (sets : List RecordSet) (j k : ℕ) (x y : RecordSet) → IsRising sets → j ≤ k
    → slice_get sets j ≡ Some x → slice_get sets k ≡ Some y
    → is_gt (zone_cmp x.name y.name) ≡ false
names_rise sets j k x y rising le at_j at_k =
    name_part (zone_cmp x.name y.name) _ (ordered_at sets j k x y rising le at_j at_k)
  where
    name_part : (o p : Ordering) → is_gt (ordering_then o p) ≡ false → is_gt o ≡ false
    name_part Less p e = refl
    name_part Equal p e = refl
    name_part Greater p e = e

module _ (sets : List RecordSet) (name : Path) (n : ℕ) (rising : IsRising sets)
    (first : IsFirstNamed sets name n) where
  -- a set of the name or below it stands from place n on
  not_before : (k : ℕ) (x : RecordSet) → slice_get sets k ≡ Some x → EndsWith x.name name → n ≤ k
  not_before k x at below = by (below_or_not k n)
    where
      by : (k < n) ⊎ (n ≤ k) → n ≤ k
      by (inl lt) =
          let up : is_gt (zone_cmp name x.name) ≡ false = not_behind name x.name below in
          let turned_up : is_gt (ordering_reverse (zone_cmp x.name name)) ≡ false =
          subst (λ o. is_gt o ≡ false) (zone_cmp_total.antisymm name x.name) up in
          absurd (not_up (zone_cmp x.name name) turned_up (first.before k x lt at))
      by (inr le) = le

  -- the first one tells whether the name exists
  pub first_tells : (x : RecordSet) → slice_get sets n ≡ Some x → EndsWith x.name name
      ↔ Exists sets name
  first_tells x at = (λ below. (x, among_at sets n x at, below), back)
    where
      back : Exists sets name → EndsWith x.name name
      back (other, there, below) =
          let place = place_of sets other there in
          let low : is_gt (zone_cmp name x.name) ≡ false =
          subst (λ o. is_gt o ≡ false) (sym (zone_cmp_total.antisymm name x.name))
          (not_less (zone_cmp x.name name) (first.behind n x (omega arith) at)) in
          below_between name x.name other.name below low
          (names_rise sets n place.0 x other rising (not_before place.0 other place.1 below) at
          place.1)

  pub none_exists : length sets ≤ n → Exists sets name → ⊥
  none_exists past (other, there, below) =
      let place = place_of sets other there in
      let inside = slice_get_within sets place.0 other place.1 in
      let from = not_before place.0 other place.1 below in
      omega (arith, past, inside, from)

-- The sets beside the place of a name tell which names above it exist.
module _ (sets : List RecordSet) (name below : Path) (n : ℕ) (rising : IsRising sets)
    (first : IsFirstNamed sets below n) (ends : EndsWith below name) where
  pub beside : Exists sets name
      → ((0 < n) × IsBelowAt sets name (n - 1)) ⊎ IsBelowAt sets name n
  beside (other, there, is) =
      let place = place_of sets other there in
      by place.0 place.1 (below_or_not place.0 n)
    where
      by : (k : ℕ) → slice_get sets k ≡ Some other → (k < n) ⊎ (n ≤ k)
          → ((0 < n) × IsBelowAt sets name (n - 1)) ⊎ IsBelowAt sets name n
      by k at (inl lt) =
          let inside = first.within in
          let y = filled sets (n - 1) (omega (arith, lt, inside)) in
          inl (
            omega (arith, lt),
            (
              y.0,
              y.1,
              below_between name y.0.name below ends
                  (up_or_tied zone_cmp_total name other.name y.0.name (not_behind name other.name is)
                  (names_rise sets k (n - 1) other y.0 rising (omega (arith, lt)) at y.1))
                  (ap is_gt (first.before (n - 1) y.0 (omega (arith, lt)) y.1)),
            ),
          )
      by k at (inr le) =
          let inside = slice_get_within sets k other at in
          let y = filled sets n (omega (arith, le, inside)) in
          let low : is_gt (zone_cmp below y.0.name) ≡ false =
          subst (λ o. is_gt o ≡ false) (sym (zone_cmp_total.antisymm below y.0.name))
          (not_less (zone_cmp y.0.name below) (first.behind n y.0 (omega arith) y.1)) in
          inr (
            y.0,
            y.1,
            below_between name y.0.name other.name is
                (up_or_tied zone_cmp_total name below y.0.name (not_behind name below ends) low)
                (names_rise sets n k y.0 other rising le y.1 at),
          )

-- a set at or below a name shows that it exists
pub exists_at : (sets : List RecordSet) (name : Path) (k : ℕ) → IsBelowAt sets name k
    → Exists sets name
exists_at sets name k (y, at, is) = (y, among_at sets k y at, is)

-- a name ends with itself
pub ends_itself : (name : Path) → EndsWith name name
ends_itself name = ([], refl)

pub no_longer : (name other : Path) → EndsWith name other → length other ≤ length name
no_longer name other (first, e) =
    let n : length name ≡ length first + length other = ap length e ∙ length-append first other in
    omega (arith, n)

-- an ancestor of a name is its parent or an ancestor of that
pub parent_or_above : (label : List ℕ) (parent other : Path) → IsAncestor (label ∷ parent) other
    → EndsWith parent other
parent_or_above label parent other (([], e), apart) = absurd (apart e)
parent_or_above label parent other ((first ∷ rest, e), apart) =
    (rest, (let p : parent ≡ rest ++ other = cc in p))

-- a parent is an ancestor of what it is the parent of
pub parent_is_above : (label : List ℕ) (parent : Path) → IsAncestor (label ∷ parent) parent
parent_is_above label parent = (
  (label ∷ [], refl),
  λ e. (let n : suc (length parent) ≡ length parent = ap length e in omega (arith, n)),
)

pub ends_further : (name middle other : Path) → EndsWith name middle → EndsWith middle other
    → EndsWith name other
ends_further name middle other (first, e) (second, f) =
    (first ++ second, e ∙ (ap (λ m. first ++ m) f ∙ sym (append_assoc first second other)))

-- All existing ancestors of the name are above the one that is looked at.
pub record AreAbove (sets : List RecordSet) (name at : Path) : Type 0 where
  pub suffix : EndsWith name at
  pub ancestors : (other : Path) → IsAncestor name other → Exists sets other → IsAncestor at other

pub above_itself : (sets : List RecordSet) (name : Path) → AreAbove sets name name
above_itself sets name =
    record { suffix = ends_itself name; ancestors = λ other ancestor exists. ancestor }

module _ (sets : List RecordSet) (name at : Path) (label : List ℕ) (parent : Path) (is : at
    ≡ label ∷ parent) (above : AreAbove sets name at) where
  of_parent : (other : Path) → IsAncestor name other → Exists sets other → EndsWith parent other
  of_parent other ancestor exists =
      parent_or_above label parent other
      (subst (λ a. IsAncestor a other) is (above.ancestors other ancestor exists))

  pub name_above : EndsWith name parent
  name_above =
      ends_further name at parent above.suffix
      (subst (λ a. EndsWith a parent) (sym is) (label ∷ [], refl))

  parent_apart : name ≢ parent
  parent_apart e =
      let n = no_longer name at above.suffix in
      let m : length at ≡ suc (length parent) = ap length is in
      let k : length name ≡ length parent = ap length e in
      omega (arith, n, m, k)

  pub found_closest : Exists sets parent → IsClosest sets name parent
  found_closest exists = record {
    ancestor = (name_above, parent_apart);
    exists = exists;
    longest = λ other ancestor there. no_longer parent other (of_parent other ancestor there);
  }

  pub further_up : (Exists sets parent → ⊥) → AreAbove sets name parent
  further_up none = record {
    suffix = name_above;
    ancestors =
        λ other ancestor exists. (
          of_parent other ancestor exists,
          λ e. none (subst (λ p. Exists sets p) (sym e) exists),
        );
  }

-- the root has no ancestor
pub root_ends : (sets : List RecordSet) (name at : Path) → AreAbove sets name at → at ≡ []
    → (other : Path) → IsAncestor name other → Exists sets other → ⊥
root_ends sets name at above e other ancestor exists =
    let a : IsAncestor [] other =
    subst (λ p. IsAncestor p other) e (above.ancestors other ancestor exists) in
    empty_apart other a
  where
    empty_apart : (other : Path) → IsAncestor [] other → ⊥
    empty_apart [] (ends, apart) = apart refl
    empty_apart (label ∷ other) (([], e), apart) = grind (arith, e)
    empty_apart (label ∷ other) ((x ∷ first, e), apart) = grind (arith, e)
