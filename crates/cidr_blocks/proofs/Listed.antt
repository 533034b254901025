-- Collections that hold the same are one: what they list rises.
use Rattle.std.proofs.Common.{◌≡◌, ◌⊎◌, ◌<◌, ℕ, List, [], ◌∷◌, length, Ordering, Less, Equal, Greater, inl, inr, ap, ◌∙◌, sym, refl, subst, arith}
use Rattle.std.specs.Prelude.{Contains}
use Rattle.std.specs.Cmp.{IsTotalOrder, tied_itself}
use Rattle.std.specs.Cmp.Lexicographic.{nat_list_cmp_total}
use Rattle.std.specs.List.{AllByRecursion}
use Rattle.std.specs.List.Sorted.{IsStrictlySortedBy}
use Rattle.std.specs.Ordering.{ordering_reverse}
use Rattle.std.proofs.lemmas.List.Elements.{Contains-append_cases, Contains-append_left, Contains-append_right}
use Rattle.std.proofs.lemmas.Map.Lookups.{exact_bytes}
use Rattle.ip_table.specs.Prefixes.{Prefix}
use Rattle.cidr_blocks.specs.declared.places.CidrLocation.{CidrLocation}
use Rattle.cidr_blocks.specs.declared.places.Collection.{Collection}
use Rattle.cidr_blocks.specs.Listing.{OneListing, SameMembers}
use Rattle.cidr_blocks.specs.Order.{block_cmp_total}
use Rattle.cidr_blocks.specs.Places.{IsCidrLocation, block_cmp, name_cmp, names_of, rows_at, rows_of}
use Rattle.cidr_blocks.proofs.Elements.{at_each, first, later, none, which}
use Rattle.cidr_blocks.proofs.Once.{Row}
use Rattle.cidr_blocks.proofs.Ties.{one}

-- lists that rise are one where they have the same elements
module _ {K : Type 0} (R : K → K → Ordering) (total : IsTotalOrder R)
    (exact : (a b : K) → R a b ≡ Equal → a ≡ b) where
  pub not_itself : (a b : K) → a ≡ b → R a b ≡ Less → ⊥
  not_itself a b same less =
      let e : R a a ≡ Equal = tied_itself total a in
      let f : R a a ≡ Less = subst (λ x. R a x ≡ Less) (sym same) less in
      let no : ⊥ = cc in no

  pub turned : (a b : K) → R a b ≡ Less → R b a ≡ Less → ⊥
  turned a b less other =
      let e : R b a ≡ Greater = total.antisymm b a ∙ ap ordering_reverse less in
      let no : ⊥ = cc in no

  -- the first of a list that rises is at most each of its elements
  not_below : (a y : K) (ys : List K) → R a y ≡ Less → AllByRecursion (λ z. R y z ≡ Less) ys
      → (y ≡ a) ⊎ Contains ys a → ⊥
  not_below a y ys less above (inl same) = not_itself a y (sym same) less
  not_below a y ys less above (inr c) =
      turned a y less (at_each (λ z. R y z ≡ Less) ys a above c)

  rest_in : (x y z : K) (ys : List K) → x ≡ y → R x z ≡ Less → (y ≡ z) ⊎ Contains ys z
      → Contains ys z
  rest_in x y z ys same less (inl e) = absurd (not_itself x z (same ∙ e) less)
  rest_in x y z ys same less (inr c) = c

  module _ (x y : K) (xs ys : List K) (above_x : AllByRecursion (λ z. R x z ≡ Less) xs)
      (above_y : AllByRecursion (λ z. R y z ≡ Less) ys)
      (same : SameMembers (x ∷ xs) (y ∷ ys)) where
    heads_by : (o : Ordering) → R x y ≡ o → x ≡ y
    heads_by Less e =
        absurd (not_below x y ys e above_y (which y x ys ((same x).0 (first x xs))))
    heads_by Equal e = exact x y e
    heads_by Greater e =
        absurd (not_below y x xs (total.antisymm y x ∙ ap ordering_reverse e) above_x
        (which x y xs ((same y).1 (first y ys))))

    pub heads : x ≡ y
    heads = heads_by (R x y) refl

    pub tails : SameMembers xs ys
    tails z = (
      λ c. rest_in x y z ys heads (at_each (λ w. R x w ≡ Less) xs z above_x c)
          (which y z ys ((same z).0 (later x z xs c))),
      λ c. rest_in y x z xs (sym heads) (at_each (λ w. R y w ≡ Less) ys z above_y c)
          (which x z xs ((same z).1 (later y z ys c))),
    )

  pub sorted_same : (xs ys : List K) → IsStrictlySortedBy R xs → IsStrictlySortedBy R ys
      → SameMembers xs ys → xs ≡ ys
  unfolding IsStrictlySortedBy
  sorted_same [] [] rise rises same = refl
  sorted_same [] (y ∷ ys) rise rises same = absurd (none y ((same y).1 (first y ys)))
  sorted_same (x ∷ xs) [] rise rises same = absurd (none x ((same x).0 (first x xs)))
  sorted_same (x ∷ xs) (y ∷ ys) rise rises same =
      let rest = sorted_same xs ys rise.1 rises.1 (tails x y xs ys rise.0 rises.0 same) in
      ap (λ l. x ∷ l) rest ∙ ap (λ z. z ∷ ys) (heads x y xs ys rise.0 rises.0 same)

-- rows of one location
pub at_name : (name : List ℕ) (blocks : List Prefix) (row : Row) → Contains (rows_at name blocks) row
    → (row.1 ≡ name) × Contains blocks row.0
at_name name [] row c = absurd (none row c)
at_name name (b ∷ blocks) row c =
    go (at_name name blocks row) (which (b, name) row (rows_at name blocks) c)
  where
    go : (Contains (rows_at name blocks) row → (row.1 ≡ name) × Contains blocks row.0)
        → ((b, name) ≡ row) ⊎ Contains (rows_at name blocks) row
        → (row.1 ≡ name) × Contains (b ∷ blocks) row.0
    go rest (inl e) = (
      sym (ap (λ (r : Row). r.1) e),
      subst (Contains (b ∷ blocks)) (ap (λ (r : Row). r.0) e) (first b blocks),
    )
    go rest (inr d) = ((rest d).0, later b row.0 blocks (rest d).1)

pub in_name : (name : List ℕ) (blocks : List Prefix) (b : Prefix) → Contains blocks b
    → Contains (rows_at name blocks) (b, name)
in_name name [] b c = absurd (none b c)
in_name name (x ∷ blocks) b c = go (in_name name blocks b) (which x b blocks c)
  where
    go : (Contains blocks b → Contains (rows_at name blocks) (b, name))
        → (x ≡ b) ⊎ Contains blocks b → Contains (rows_at name (x ∷ blocks)) (b, name)
    go rest (inl e) =
        subst (λ p. Contains (rows_at name (x ∷ blocks)) (p, name)) e
        (first (x, name) (rows_at name blocks))
    go rest (inr d) = later (x, name) (b, name) (rows_at name blocks) (rest d)

-- rows of locations have their names
named : (P : List ℕ → Type 0) (ls : List CidrLocation) (row : Row)
    → AllByRecursion P (names_of ls) → Contains (rows_of ls) row → P row.1
named P [] row all c = absurd (none row c)
named P (l ∷ ls) row all c =
    go (named P ls row all.1) (Contains-append_cases (rows_at l.name l.blocks) (rows_of ls) row c)
  where
    go : (Contains (rows_of ls) row → P row.1)
        → Contains (rows_at l.name l.blocks) row ⊎ Contains (rows_of ls) row → P row.1
    go rest (inl d) = subst P (sym (at_name l.name l.blocks row d).0) all.0
    go rest (inr d) = rest d

each : {X : Type 0} (P Q : X → Type 0) → ((x : X) → P x → Q x) → (xs : List X)
    → AllByRecursion P xs → AllByRecursion Q xs
each P Q f [] all = tt
each P Q f (x ∷ xs) all = (f x all.0, each P Q f xs all.1)

some_block : (blocks : List Prefix) → 0 < length blocks → (b : Prefix) × Contains blocks b
some_block [] some = absurd (omega (arith, some))
some_block (b ∷ blocks) some = (b, first b blocks)

abbrev Above : List ℕ → List CidrLocation → Type 0
Above name ls = AllByRecursion (λ other. name_cmp name other ≡ Less) (names_of ls)

-- no row below all locations
none_below : (name : List ℕ) (ls : List CidrLocation) (b : Prefix) → Above name ls
    → Contains (rows_of ls) (b, name) → ⊥
none_below name ls b above c =
    not_itself name_cmp nat_list_cmp_total exact_bytes name name refl
    (named (λ other. name_cmp name other ≡ Less) ls (b, name) above c)

module _ (m : CidrLocation) (ms : List CidrLocation) (above : Above m.name ms) where
  own_by : (b : Prefix)
      → Contains (rows_at m.name m.blocks) (b, m.name) ⊎ Contains (rows_of ms) (b, m.name)
      → Contains m.blocks b
  own_by b (inl c) = (at_name m.name m.blocks (b, m.name) c).1
  own_by b (inr c) = absurd (none_below m.name ms b above c)

  pub own : (b : Prefix) → Contains (rows_of (m ∷ ms)) (b, m.name) → Contains m.blocks b
  own b c =
      own_by b (Contains-append_cases (rows_at m.name m.blocks) (rows_of ms) (b, m.name) c)

  further_by : (row : Row) → name_cmp m.name row.1 ≡ Less
      → Contains (rows_at m.name m.blocks) row ⊎ Contains (rows_of ms) row
      → Contains (rows_of ms) row
  further_by row less (inl c) =
      absurd (not_itself name_cmp nat_list_cmp_total exact_bytes m.name row.1
      (sym (at_name m.name m.blocks row c).0) less)
  further_by row less (inr c) = c

  pub further : (row : Row) → name_cmp m.name row.1 ≡ Less → Contains (rows_of (m ∷ ms)) row
      → Contains (rows_of ms) row
  further row less c =
      further_by row less (Contains-append_cases (rows_at m.name m.blocks) (rows_of ms) row c)

  -- a name below these has no row
  pub low : (l : CidrLocation) → IsCidrLocation l → name_cmp l.name m.name ≡ Less
      → ((b : Prefix) → Contains l.blocks b → Contains (rows_of (m ∷ ms)) (b, l.name)) → ⊥
  low l is less holds =
      let block = some_block l.blocks is.some in
      none_below l.name (m ∷ ms) block.0 (
        less,
        each (λ other. name_cmp m.name other ≡ Less) (λ other. name_cmp l.name other ≡ Less)
            (λ other h. nat_list_cmp_total.trans l.name m.name other less h) (names_of ms) above,
      ) (holds block.0 block.1)

held : (l : CidrLocation) (ls : List CidrLocation) (b : Prefix) → Contains l.blocks b
    → Contains (rows_of (l ∷ ls)) (b, l.name)
held l ls b c =
    Contains-append_left (rows_at l.name l.blocks) (rows_of ls) (b, l.name)
    (in_name l.name l.blocks b c)

behind : (l : CidrLocation) (ls : List CidrLocation) (row : Row) → Contains (rows_of ls) row
    → Contains (rows_of (l ∷ ls)) row
behind l ls row c = Contains-append_right (rows_at l.name l.blocks) (rows_of ls) row c

abbrev location : (name : List ℕ) → List Prefix → CidrLocation
location name blocks = record { name = name; blocks = blocks }

module _ (l m : CidrLocation) (ls ms : List CidrLocation) (is_l : IsCidrLocation l)
    (is_m : IsCidrLocation m) (above_l : Above l.name ls) (above_m : Above m.name ms)
    (same : SameMembers (rows_of (l ∷ ls)) (rows_of (m ∷ ms))) where
  names_by : (o : Ordering) → name_cmp l.name m.name ≡ o → l.name ≡ m.name
  names_by Less e =
      absurd (low m ms above_m l is_l e (λ b c. (same (b, l.name)).0 (held l ls b c)))
  names_by Equal e = exact_bytes l.name m.name e
  names_by Greater e =
      absurd (low l ls above_l m is_m
      (nat_list_cmp_total.antisymm m.name l.name ∙ ap ordering_reverse e)
      (λ b c. (same (b, m.name)).1 (held m ms b c)))

  one_name : l.name ≡ m.name
  one_name = names_by (name_cmp l.name m.name) refl

  same_blocks : SameMembers l.blocks m.blocks
  same_blocks b = (
    λ c. own m ms above_m b (subst (λ n. Contains (rows_of (m ∷ ms)) (b, n)) one_name
        ((same (b, l.name)).0 (held l ls b c))),
    λ c. own l ls above_l b (subst (λ n. Contains (rows_of (l ∷ ls)) (b, n)) (sym one_name)
        ((same (b, m.name)).1 (held m ms b c))),
  )

  pub one_location : l ≡ m
  one_location =
      ap (λ n. location n l.blocks) one_name
      ∙ ap (location m.name)
      (sorted_same block_cmp block_cmp_total one l.blocks m.blocks is_l.rising is_m.rising same_blocks)

  pub same_rest : SameMembers (rows_of ls) (rows_of ms)
  same_rest row = (
    λ c. further m ms above_m row
        (subst (λ n. name_cmp n row.1 ≡ Less) one_name
        (named (λ n. name_cmp l.name n ≡ Less) ls row above_l c))
        ((same row).0 (behind l ls row c)),
    λ c. further l ls above_l row
        (subst (λ n. name_cmp n row.1 ≡ Less) (sym one_name)
        (named (λ n. name_cmp m.name n ≡ Less) ms row above_m c))
        ((same row).1 (behind m ms row c)),
  )

-- locations of which none is left hold no row
no_rows : (l : CidrLocation) (ls : List CidrLocation) → IsCidrLocation l
    → ((row : Row) → Contains (rows_of (l ∷ ls)) row → ⊥) → ⊥
no_rows l ls is never =
    let block = some_block l.blocks is.some in
    never (block.0, l.name) (held l ls block.0 block.1)

locations_same : (ls ms : List CidrLocation) → AllByRecursion IsCidrLocation ls
    → AllByRecursion IsCidrLocation ms → IsStrictlySortedBy name_cmp (names_of ls)
    → IsStrictlySortedBy name_cmp (names_of ms) → SameMembers (rows_of ls) (rows_of ms) → ls ≡ ms
unfolding IsStrictlySortedBy
locations_same [] [] are_l are_m rise rises same = refl
locations_same [] (m ∷ ms) are_l are_m rise rises same =
    absurd (no_rows m ms are_m.0 (λ row c. none row ((same row).1 c)))
locations_same (l ∷ ls) [] are_l are_m rise rises same =
    absurd (no_rows l ls are_l.0 (λ row c. none row ((same row).0 c)))
locations_same (l ∷ ls) (m ∷ ms) are_l are_m rise rises same =
    let rest = locations_same ls ms are_l.1 are_m.1 rise.1 rises.1
    (same_rest l m ls ms are_l.0 are_m.0 rise.0 rises.0 same) in
    ap (λ k. l ∷ k) rest
    ∙ ap (λ k. k ∷ ms) (one_location l m ls ms are_l.0 are_m.0 rise.0 rises.0 same)

abbrev the_collection : (name : List ℕ) → List CidrLocation → Collection
the_collection name locations = record { name = name; locations = locations }

pub one_listing : OneListing
one_listing c d is_c is_d holds =
    ap (λ n. the_collection n c.locations) holds.name
    ∙ ap (the_collection d.name)
    (locations_same c.locations d.locations is_c.each is_d.each is_c.rising is_d.rising holds.blocks)
