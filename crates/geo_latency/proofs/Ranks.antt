-- Lists in the order of ranks, and the first of them that isn't empty.
use Rattle.std.proofs.Common.{◌≡◌, ◌+◌, ◌-◌, ◌<◌, ◌≤◌, ℕ, zero, suc, Bool, true, false, Option, Some, None, List, [], ◌∷◌, ◌++◌, length, drop, drop-cons, get_or, slice_get, arith, refl, sym, ap, ◌∙◌, if◌then◌else◌, append_assoc}
use Rattle.std.specs.List.{filter}
use Rattle.std.proofs.lemmas.List.{append-nil}
use Rattle.std.proofs.lemmas.List.Elements.{filter-append}
use Rattle.geo_latency.specs.Nearest.{IsFirstRank, order_of, put, rank_of, ranks, sets_from, size_of, with_set}
use Rattle.considered_sets.specs.Healthy.{healthy_of}
use Rattle.geo_latency.specs.Places.{is_for, chosen, in_order}
use Rattle.geo_latency.specs.declared.location.Location.{Location}
use Rattle.geo_latency.specs.declared.places.Size.{Size}
use Rattle.geo_latency.specs.declared.places.Size.TheVariants as size
use Rattle.routing.specs.declared.policies.Place.{Place}
use Rattle.routing.specs.declared.policies.Place.TheVariants as place

-- the first so many lists are empty
abbrev Empty : ℕ → List (List ℕ) → Type 0
Empty zero lists = Unit {0}
Empty (suc n) [] = Unit {0}
Empty (suc n) (xs ∷ rest) = (xs ≡ []) × Empty n rest

before_first : (lists : List (List ℕ)) (n rank set : ℕ) → n ≤ rank → IsFirstRank rank set lists
    → Empty n lists
before_first lists zero rank set le leads = tt
before_first [] (suc n) rank set le leads = tt
before_first (xs ∷ rest) (suc n) zero set le leads = absurd (omega arith)
before_first (xs ∷ rest) (suc n) (suc rank) set le leads =
    (leads.0, before_first rest n rank set (omega arith) (leads.1))

stays_empty : (lists : List (List ℕ)) (n k set : ℕ) → n ≤ k → Empty n lists
    → Empty n (put k set lists)
stays_empty lists zero k set le empty = tt
stays_empty [] (suc n) k set le empty = tt
stays_empty (xs ∷ rest) (suc n) zero set le empty = absurd (omega arith)
stays_empty (xs ∷ rest) (suc n) (suc k) set le empty =
    (empty.0, stays_empty rest n k set (omega arith) (empty.1))

comes_first : (lists : List (List ℕ)) (k set : ℕ) → k < length lists → Empty k lists
    → IsFirstRank k set (put k set lists)
comes_first [] k set lt empty = absurd (omega arith)
comes_first (xs ∷ rest) zero set lt empty = refl
comes_first (xs ∷ rest) (suc k) set lt empty =
    (empty.0, comes_first rest k set (omega arith) (empty.1))

goes_on : (lists : List (List ℕ)) (k new rank set : ℕ) → rank < k → IsFirstRank rank set lists
    → IsFirstRank rank set (put k new lists)
goes_on [] k new rank set lt leads = leads
goes_on (xs ∷ rest) zero new rank set lt leads = absurd (omega arith)
goes_on (xs ∷ rest) (suc k) new zero set lt leads = leads
goes_on (xs ∷ rest) (suc k) new (suc rank) set lt leads =
    (leads.0, goes_on rest k new rank set (omega arith) (leads.1))

same_length : (lists : List (List ℕ)) (k set : ℕ) → length (put k set lists) ≡ length lists
same_length [] k set = refl
same_length (xs ∷ rest) zero set = refl
same_length (xs ∷ rest) (suc k) set = ap suc (same_length rest k set)

at_most : (size : Size) → order_of size < 4
at_most size.Subdivision = omega arith
at_most size.Country = omega arith
at_most size.Continent = omega arith
at_most size.Anywhere = omega arith

module _ (lists : List (List ℕ)) (eight : length lists ≡ 8) (rank set new : ℕ)
    (leads : IsFirstRank rank set lists) (size : Size) where
  -- a healthy set that comes first
  healthy_first : order_of size ≤ rank
      → IsFirstRank (order_of size) new (with_set true (Some size) new lists)
  healthy_first le =
      comes_first (put (order_of size + 4) new lists) (order_of size) new
      (omega (arith, at_most size, same_length lists (order_of size + 4) new, eight))
      (stays_empty lists (order_of size) (order_of size + 4) new (omega arith)
      (before_first lists (order_of size) rank set le leads))

  -- one that isn't healthy
  other_first : order_of size + 4 ≤ rank
      → IsFirstRank (order_of size + 4) new (with_set false (Some size) new lists)
  other_first le =
      comes_first lists (order_of size + 4) new (omega (arith, at_most size, eight))
      (before_first lists (order_of size + 4) rank set le leads)

  -- one that comes later
  healthy_later : rank < order_of size
      → IsFirstRank rank set (with_set true (Some size) new lists)
  healthy_later lt =
      goes_on (put (order_of size + 4) new lists) (order_of size) new rank set lt
      (goes_on lists (order_of size + 4) new rank set (omega (arith, lt)) leads)

  other_later : rank < order_of size + 4
      → IsFirstRank rank set (with_set false (Some size) new lists)
  other_later lt = goes_on lists (order_of size + 4) new rank set lt leads

  -- a set that comes first, be it healthy or not
  pub comes : (healthy : Bool) → rank_of healthy size ≤ rank
      → IsFirstRank (rank_of healthy size) new (with_set healthy (Some size) new lists)
  comes true le = healthy_first le
  comes false le = other_first le

  pub stays : (healthy : Bool) → rank < rank_of healthy size
      → IsFirstRank rank set (with_set healthy (Some size) new lists)
  stays true lt = healthy_later lt
  stays false lt = other_later lt

-- one list behind another
abbrev joined : List (List ℕ) → List ℕ
joined [] = []
joined (xs ∷ rest) = xs ++ joined rest

head_is : (xs ys : List ℕ) (set : ℕ) → slice_get xs 0 ≡ Some set → slice_get (xs ++ ys) 0 ≡ Some set
head_is [] ys set e = absurd (let no : ⊥ = cc in no)
head_is (x ∷ xs) ys set e = e

none_leads : (lists : List (List ℕ)) (rank set : ℕ) → rank ≡ length lists → IsFirstRank rank set lists
    → joined lists ≡ []
none_leads [] rank set e leads = refl
none_leads (xs ∷ rest) zero set e leads = absurd (omega (arith, e))
none_leads (xs ∷ rest) (suc rank) set e leads =
    ap (λ l. l ++ joined rest) (leads.0) ∙ none_leads rest rank set (omega (arith, e)) (leads.1)

some_leads : (lists : List (List ℕ)) (rank set : ℕ) → rank < length lists → IsFirstRank rank set lists
    → slice_get (joined lists) 0 ≡ Some set
some_leads [] rank set lt leads = absurd (omega arith)
some_leads (xs ∷ rest) zero set lt leads = head_is xs (joined rest) set leads
some_leads (xs ∷ rest) (suc rank) set lt leads =
    ap (λ l. slice_get (l ++ joined rest) 0) (leads.0)
    ∙ some_leads rest rank set (omega arith) (leads.1)

module _ (healthy : List Bool) where
  abbrev is_healthy : ℕ → Bool
  is_healthy set = get_or healthy set false

  all_joined : (a b c d : List ℕ)
      → joined (healthy_of healthy a ∷ healthy_of healthy b ∷ healthy_of healthy c
      ∷ healthy_of healthy d ∷ a ∷ b ∷ c ∷ d ∷ [])
      ≡ healthy_of healthy (a ++ (b ++ (c ++ d))) ++ (a ++ (b ++ (c ++ d)))
  all_joined a b c d =
      let all = a ++ (b ++ (c ++ d)) in
      let third = filter is_healthy c ++ filter is_healthy d in
      rw (
        filter-append is_healthy a (b ++ (c ++ d)),
        filter-append is_healthy b (c ++ d),
        filter-append is_healthy c d,
        append-nil d,
        append_assoc (filter is_healthy a) (filter is_healthy b ++ third) all,
        append_assoc (filter is_healthy b) third all,
        append_assoc (filter is_healthy c) (filter is_healthy d) all,
      ) refl

  module _ (client : Option Location) (places : List Place) where
    ordered : joined (ranks client healthy 0 places)
        ≡ healthy_of healthy (in_order client places) ++ in_order client places
    ordered =
        all_joined (sets_from size.Subdivision client 0 places)
        (sets_from size.Country client 0 places) (sets_from size.Continent client 0 places)
        (sets_from size.Anywhere client 0 places)

    pub none_chosen : (rank set : ℕ) → rank ≤ 8 → 8 ≤ rank
        → IsFirstRank rank set (ranks client healthy 0 places) → None ≡ chosen places healthy client
    none_chosen rank set most least leads =
        sym (ap (λ l. slice_get l 0) (sym ordered)
        ∙ ap (λ l. slice_get l 0)
        (none_leads (ranks client healthy 0 places) rank set (omega arith) leads))

    pub one_chosen : (rank set : ℕ) → rank < 8
        → IsFirstRank rank set (ranks client healthy 0 places) → Some set ≡ chosen places healthy client
    one_chosen rank set lt leads =
        sym (ap (λ l. slice_get l 0) (sym ordered)
        ∙ some_leads (ranks client healthy 0 places) rank set (omega arith) leads)

  -- one set more in front
  module _ (i : ℕ) (h : Bool) (is : get_or healthy i false ≡ h) (a b c d : List ℕ) where
    abbrev lists : (a b c d : List ℕ) → List (List ℕ)
    lists a b c d = healthy_of healthy a ∷ healthy_of healthy b ∷ healthy_of healthy c
        ∷ healthy_of healthy d ∷ a ∷ b ∷ c ∷ d ∷ []

    abbrev sized : Bool → Size → Option Size
    sized v size = if v then Some size else None

    abbrev more : Bool → List ℕ → List ℕ
    more v xs = if v then i ∷ xs else xs

    in_first : (v : Bool) → lists (more v a) b c d
        ≡ with_set h (sized v size.Subdivision) i (lists a b c d)
    in_first v = go v h is where
      go : (v h : Bool) → get_or healthy i false ≡ h → lists (more v a) b c d
          ≡ with_set h (sized v size.Subdivision) i (lists a b c d)
      go false h is = refl
      go true true is = rw is refl
      go true false is = rw is refl

    in_second : (v : Bool) → lists a (more v b) c d
        ≡ with_set h (sized v size.Country) i (lists a b c d)
    in_second v = go v h is where
      go : (v h : Bool) → get_or healthy i false ≡ h → lists a (more v b) c d
          ≡ with_set h (sized v size.Country) i (lists a b c d)
      go false h is = refl
      go true true is = rw is refl
      go true false is = rw is refl

    in_third : (v : Bool) → lists a b (more v c) d
        ≡ with_set h (sized v size.Continent) i (lists a b c d)
    in_third v = go v h is where
      go : (v h : Bool) → get_or healthy i false ≡ h → lists a b (more v c) d
          ≡ with_set h (sized v size.Continent) i (lists a b c d)
      go false h is = refl
      go true true is = rw is refl
      go true false is = rw is refl

    in_fourth : lists a b c (more true d)
        ≡ with_set h (sized true size.Anywhere) i (lists a b c d)
    in_fourth = go h is where
      go : (h : Bool) → get_or healthy i false ≡ h → lists a b c (more true d)
          ≡ with_set h (sized true size.Anywhere) i (lists a b c d)
      go true is = rw is refl
      go false is = rw is refl

  -- the lists from a set on, of those from the next on
  pub next : (client : Option Location) (p : Place) (ps : List Place) (i : ℕ) (h : Bool)
      → get_or healthy i false ≡ h
      → ranks client healthy i (p ∷ ps)
      ≡ with_set h (size_of client p) i (ranks client healthy (i + 1) ps)
  next None (place.Subdivision country part) ps i h is = refl
  next None (place.Country country) ps i h is = refl
  next None (place.Continent continent) ps i h is = refl
  next None place.Anywhere ps i h is =
      in_fourth i h is (sets_from size.Subdivision None (i + 1) ps)
      (sets_from size.Country None (i + 1) ps) (sets_from size.Continent None (i + 1) ps)
      (sets_from size.Anywhere None (i + 1) ps)
  next (Some client) (place.Subdivision country part) ps i h is =
      in_first i h is (sets_from size.Subdivision (Some client) (i + 1) ps)
      (sets_from size.Country (Some client) (i + 1) ps)
      (sets_from size.Continent (Some client) (i + 1) ps)
      (sets_from size.Anywhere (Some client) (i + 1) ps)
      (is_for size.Subdivision (Some client) (place.Subdivision country part))
  next (Some client) (place.Country country) ps i h is =
      in_second i h is (sets_from size.Subdivision (Some client) (i + 1) ps)
      (sets_from size.Country (Some client) (i + 1) ps)
      (sets_from size.Continent (Some client) (i + 1) ps)
      (sets_from size.Anywhere (Some client) (i + 1) ps)
      (is_for size.Country (Some client) (place.Country country))
  next (Some client) (place.Continent continent) ps i h is =
      in_third i h is (sets_from size.Subdivision (Some client) (i + 1) ps)
      (sets_from size.Country (Some client) (i + 1) ps)
      (sets_from size.Continent (Some client) (i + 1) ps)
      (sets_from size.Anywhere (Some client) (i + 1) ps)
      (is_for size.Continent (Some client) (place.Continent continent))
  next (Some client) place.Anywhere ps i h is =
      in_fourth i h is (sets_from size.Subdivision (Some client) (i + 1) ps)
      (sets_from size.Country (Some client) (i + 1) ps)
      (sets_from size.Continent (Some client) (i + 1) ps)
      (sets_from size.Anywhere (Some client) (i + 1) ps)

  -- the same of the lists of a group, from the set in front of one on
  pub at_next : (client : Option Location) (places : List Place) (p : Place) (i : ℕ) → 0 < i
      → i ≤ length places → p ≡ get_or places (i - 1) p
      → ranks client healthy (i - 1) (drop (i - 1) places)
      ≡ with_set (get_or healthy (i - 1) false) (size_of client p) (i - 1)
      (ranks client healthy i (drop i places))
  at_next client places p i some le is =
      let k : ℕ = i - 1 in
      let split : drop k places ≡ p ∷ drop (suc k) places =
      drop-cons places k p (omega arith) ∙ ap (λ q. q ∷ drop (suc k) places) (sym is) in
      let one : k + 1 ≡ i = omega arith in
      let after : suc k ≡ i = omega arith in
      let h : Bool = get_or healthy k false in
      ap (ranks client healthy k) split ∙ next client p (drop (suc k) places) k h refl
      ∙ ap (λ n. with_set h (size_of client p) k (ranks client healthy n (drop (suc k) places))) one
      ∙ ap (λ n. with_set h (size_of client p) k (ranks client healthy i (drop n places))) after
