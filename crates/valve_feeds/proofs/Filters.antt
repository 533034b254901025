-- What is kept of lists by a value of each element, when an element comes or goes.
use Rattle.std.proofs.Common.{◌≡◌, ◌≢◌, ◌+◌, ℕ, zero, suc, Bool, true, false, List, [], ◌∷◌, length, map, arith, refl, sym, ap, ◌∙◌, subst, inl, inr}
use Rattle.std.specs.List.{Contains, filter}
use Rattle.std.specs.Prelude.{◌==◌, if◌then◌else◌}
use Rattle.std.proofs.lemmas.Bool.{cases_eq, eq-eqb, ne_eqb}
use Rattle.cell_lists.specs.Lists.{without, list_at}
use Rattle.cell_lists.proofs.Members.{in_head, in_tail, in_none, in_cases, without_here, without_there}
use Rattle.valve_feeds.specs.Feeds.{times}

-- the elements whose value is y
abbrev pub those : (ℕ → ℕ) → ℕ → List ℕ → List ℕ
those f y cs = filter (λ c. f c == y) cs

pub those_here : (f : ℕ → ℕ) (y c : ℕ) (cs : List ℕ) → f c ≡ y → those f y (c ∷ cs) ≡ c ∷ those f y cs
those_here f y c cs e = rw (eq-eqb (f c) y e) refl

pub those_not : (f : ℕ → ℕ) (y c : ℕ) (cs : List ℕ) → f c ≢ y → those f y (c ∷ cs) ≡ those f y cs
those_not f y c cs e = rw (ne_eqb (f c) y e) refl

pub those_same : (f g : ℕ → ℕ) (y : ℕ) (cs : List ℕ) → ((c : ℕ) → Contains cs c → g c ≡ f c) → those g y cs ≡ those f y cs
those_same f g y [] same = refl
those_same f g y (c ∷ cs) same =
    let here = same c (in_head c cs) in
    let rest = those_same f g y cs (λ d w. same d (in_tail c d cs w)) in
    elim (cases_eq (f c) y) [
      | inl e ↦ those_here g y c cs (here ∙ e) ∙ ap (λ l. c ∷ l) rest ∙ sym (those_here f y c cs e)
      | inr ne ↦ those_not g y c cs (λ e. ne (sym here ∙ e)) ∙ rest ∙ sym (those_not f y c cs ne)
    ]

pub map_same : (f g : ℕ → ℕ) (cs : List ℕ) → ((c : ℕ) → Contains cs c → g c ≡ f c) → map g cs ≡ map f cs
map_same f g [] same = refl
map_same f g (c ∷ cs) same =
    let here = same c (in_head c cs) in
    let rest = map_same f g cs (λ d w. same d (in_tail c d cs w)) in cc

-- an element goes that is of those
pub those_without : (f : ℕ → ℕ) (y c : ℕ) (cs : List ℕ) → f c ≡ y → those f y (without c cs) ≡ without c (those f y cs)
those_without f y c [] e = refl
those_without f y c (d ∷ ds) e = elim (cases_eq d c) [
  | inl same ↦
      ap (those f y) (ap (λ k. without k (d ∷ ds)) (sym same) ∙ without_here d ds)
      ∙ sym (ap (without c) (those_here f y d ds (ap f same ∙ e)) ∙ ap (λ k. without k (d ∷ those f y ds)) (sym same) ∙ without_here d (those f y ds))
  | inr apart ↦ elim (cases_eq (f d) y) [
    | inl to ↦ ap (those f y) (without_there c d ds apart) ∙ those_here f y d (without c ds) to
        ∙ ap (λ l. d ∷ l) (those_without f y c ds e)
        ∙ sym (ap (without c) (those_here f y d ds to) ∙ without_there c d (those f y ds) apart)
    | inr not ↦ ap (those f y) (without_there c d ds apart) ∙ those_not f y d (without c ds) not
        ∙ those_without f y c ds e ∙ sym (ap (without c) (those_not f y d ds not))
  ]
]

-- an element goes that isn't
pub those_beside : (f : ℕ → ℕ) (y c : ℕ) (cs : List ℕ) → f c ≢ y → those f y (without c cs) ≡ those f y cs
those_beside f y c [] ne = refl
those_beside f y c (d ∷ ds) ne = elim (cases_eq d c) [
  | inl same ↦
      ap (those f y) (ap (λ k. without k (d ∷ ds)) (sym same) ∙ without_here d ds)
      ∙ sym (those_not f y d ds (λ e. ne (ap f (sym same) ∙ e)))
  | inr apart ↦ elim (cases_eq (f d) y) [
    | inl to ↦ ap (those f y) (without_there c d ds apart) ∙ those_here f y d (without c ds) to
        ∙ ap (λ l. d ∷ l) (those_beside f y c ds ne) ∙ sym (those_here f y d ds to)
    | inr not ↦ ap (those f y) (without_there c d ds apart) ∙ those_not f y d (without c ds) not
        ∙ those_beside f y c ds ne ∙ sym (those_not f y d ds not)
  ]
]

-- the first of those goes: of the values the first that is y
pub values_without : (f : ℕ → ℕ) (y c : ℕ) (cs rest : List ℕ) → f c ≡ y → those f y cs ≡ c ∷ rest
    → map f (without c cs) ≡ without y (map f cs)
values_without f y c [] rest to first = absurd cc
values_without f y c (d ∷ ds) rest to first = elim (cases_eq (f d) y) [
  | inl e ↦ let same : d ≡ c = (let h = sym (those_here f y d ds e) ∙ first in cc) in
      ap (map f) (ap (λ k. without k (d ∷ ds)) (sym same) ∙ without_here d ds)
      ∙ sym (ap (λ k. without k (f d ∷ map f ds)) (sym e) ∙ without_here (f d) (map f ds))
  | inr ne ↦ let apart : d ≢ c = (λ e. ne (ap f e ∙ to)) in
      ap (map f) (without_there c d ds apart)
      ∙ ap (λ l. f d ∷ l) (values_without f y c ds rest to (sym (those_not f y d ds ne) ∙ first))
      ∙ sym (without_there y (f d) (map f ds) ne)
]

pub in_those : (f : ℕ → ℕ) (y c : ℕ) (cs : List ℕ) → Contains cs c → f c ≡ y → Contains (those f y cs) c
in_those f y c [] w e = absurd (in_none c w)
in_those f y c (d ∷ ds) w e = elim (in_cases d c ds w) [
  | inl same ↦ subst (λ l. Contains l c) (sym (those_here f y d ds (ap f same ∙ e))) (0, omega arith, same)
  | inr i ↦ (let r = in_those f y c ds i e in elim (cases_eq (f d) y) [
    | inl to ↦ subst (λ l. Contains l c) (sym (those_here f y d ds to)) (in_tail d c (those f y ds) r)
    | inr not ↦ subst (λ l. Contains l c) (sym (those_not f y d ds not)) r
  ])
]

pub of_those : (f : ℕ → ℕ) (y c : ℕ) (cs : List ℕ) → Contains (those f y cs) c → Contains cs c × (f c ≡ y)
of_those f y c [] w = absurd (in_none c w)
of_those f y c (d ∷ ds) w = elim (cases_eq (f d) y) [
  | inl to ↦ elim (in_cases d c (those f y ds) (subst (λ l. Contains l c) (those_here f y d ds to) w)) [
    | inl same ↦ ((0, omega arith, same), ap f (sym same) ∙ to)
    | inr i ↦ (let r = of_those f y c ds i in (in_tail d c ds r.0, r.1))
  ]
  | inr not ↦ (let r = of_those f y c ds (subst (λ l. Contains l c) (those_not f y d ds not) w) in (in_tail d c ds r.0, r.1))
]

pub times_those : (f : ℕ → ℕ) (y : ℕ) (cs : List ℕ) → times y (map f cs) ≡ length (those f y cs)
times_those f y [] = refl
times_those f y (c ∷ cs) = let r = times_those f y cs in elim (cases_eq (f c) y) [
  | inl e ↦ (let l = ap length (those_here f y c cs e) in rw (eq-eqb (f c) y e) (omega arith))
  | inr ne ↦ (let l = ap length (those_not f y c cs ne) in rw (ne_eqb (f c) y ne) (omega arith))
]

-- what is in a list of values
pub in_map : (f : ℕ → ℕ) (y : ℕ) (cs : List ℕ) → Contains (map f cs) y → (c : ℕ) × Contains cs c × (f c ≡ y)
in_map f y [] w = absurd (in_none y w)
in_map f y (c ∷ cs) w = elim (in_cases (f c) y (map f cs) w) [
  | inl e ↦ (c, in_head c cs, e)
  | inr i ↦ (let r = in_map f y cs i in (r.0, in_tail c r.0 cs r.1, r.2))
]

-- ---- lists of lists

pub list_at_map : (F : List ℕ → List ℕ) → F [] ≡ [] → (ls : List (List ℕ)) (k : ℕ) → list_at (map F ls) k ≡ F (list_at ls k)
list_at_map F none [] k = sym none
list_at_map F none (l ∷ ls) zero = refl
list_at_map F none (l ∷ ls) (suc k) = list_at_map F none ls k

pub lists_same : (F G : List ℕ → List ℕ) (ls : List (List ℕ)) → ((k : ℕ) → G (list_at ls k) ≡ F (list_at ls k))
    → map G ls ≡ map F ls
lists_same F G [] same = refl
lists_same F G (l ∷ ls) same =
    let here = same 0 in
    let rest = lists_same F G ls (λ k. same (suc k)) in cc

-- ---- a number taken out

pub one_fewer : (x y : ℕ) (xs : List ℕ) → Contains xs y → times x xs ≡ times x (without y xs) + (if y == x then 1 else 0)
one_fewer x y [] w = absurd (in_none y w)
one_fewer x y (z ∷ zs) w = elim (cases_eq z y) [
  | inl same ↦ subst (λ (k : ℕ). times x (k ∷ zs) ≡ times x (without y (k ∷ zs)) + (if y == x then 1 else 0)) (sym same)
      (rw (without_here y zs) (at_front (y == x) (times x zs)))
  | inr apart ↦ elim (in_cases z y zs w) [
    | inl e ↦ absurd (apart e)
    | inr i ↦ rw (without_there y z zs apart) (behind (z == x) (times x zs) (times x (without y zs)) _ (one_fewer x y zs i))
  ]
]
  where
    at_front : (b : Bool) (n : ℕ) → (if b then n + 1 else n) ≡ n + (if b then 1 else 0)
    at_front true n = refl
    at_front false n = omega arith

    behind : (b : Bool) (n m k : ℕ) → n ≡ m + k → (if b then n + 1 else n) ≡ (if b then m + 1 else m) + k
    behind true n m k e = omega arith
    behind false n m k e = e
