-- What stands in a list, and in a list with a cell fewer.
use Rattle.std.proofs.Common.{◌≡◌, ◌≢◌, ◌<◌, ◌≤◌, ◌+◌, ℕ, zero, suc, List, [], ◌∷◌, length, get_or, arith, refl, sym, ap, ◌∙◌, subst, ◌⊎◌, inl, inr}
use Rattle.std.specs.List.{Contains}
use Rattle.std.proofs.lemmas.Bool.{cases_eq, eq-eqb, ne_eqb}
use Rattle.cell_lists.specs.Lists.{without, EachOnce}

pub in_head : {X : Type 0} (y : X) (rest : List X) → Contains (y ∷ rest) y
in_head y rest = (0, omega arith, refl)

pub in_tail : {X : Type 0} (y x : X) (rest : List X) → Contains rest x → Contains (y ∷ rest) x
in_tail y x rest w = (suc w.0, omega arith, w.2)

pub in_none : {X : Type 0} (x : X) → Contains [] x → ⊥
in_none x w = omega arith

at_place : {X : Type 0} (y x : X) (rest : List X) (k : ℕ) → k < length (y ∷ rest)
    → get_or (y ∷ rest) k x ≡ x → (y ≡ x) ⊎ Contains rest x
at_place y x rest zero h e = inl e
at_place y x rest (suc k) h e = inr (k, omega arith, e)

pub in_cases : {X : Type 0} (y x : X) (rest : List X) → Contains (y ∷ rest) x → (y ≡ x) ⊎ Contains rest x
in_cases y x rest w = at_place y x rest w.0 w.1 w.2

pub without_here : (c : ℕ) (cs : List ℕ) → without c (c ∷ cs) ≡ cs
without_here c cs = rw (eq-eqb c c refl) refl

pub without_there : (c d : ℕ) (ds : List ℕ) → d ≢ c → without c (d ∷ ds) ≡ d ∷ without c ds
without_there c d ds apart = rw (ne_eqb d c apart) refl

pub in_without : (c : ℕ) (cs : List ℕ) (x : ℕ) → Contains (without c cs) x → Contains cs x
in_without c [] x w = w
in_without c (d ∷ ds) x w = elim (cases_eq d c) [
  | inl same ↦ in_tail d x ds (subst (λ l. Contains l x) (ap (λ k. without k (d ∷ ds)) (sym same) ∙ without_here d ds) w)
  | inr apart ↦ elim (in_cases d x (without c ds) (subst (λ l. Contains l x) (without_there c d ds apart) w)) [
    | inl e ↦ (0, omega arith, e)
    | inr i ↦ in_tail d x ds (in_without c ds x i)
  ]
]

pub once_without : (c : ℕ) (cs : List ℕ) → EachOnce cs → EachOnce (without c cs)
once_without c [] once = tt
once_without c (d ∷ ds) once = elim (cases_eq d c) [
  | inl same ↦ subst EachOnce (sym (ap (λ k. without k (d ∷ ds)) (sym same) ∙ without_here d ds)) once.1
  | inr apart ↦ subst EachOnce (sym (without_there c d ds apart))
      ((λ w. once.0 (in_without c ds d w)), once_without c ds once.1)
]

-- it stands there no longer
pub not_without : (c : ℕ) (cs : List ℕ) → EachOnce cs → Contains (without c cs) c → ⊥
not_without c [] once w = in_none c w
not_without c (d ∷ ds) once w = elim (cases_eq d c) [
  | inl same ↦ once.0 (subst (Contains ds) (sym same) (subst (λ l. Contains l c) (ap (λ k. without k (d ∷ ds)) (sym same) ∙ without_here d ds) w))
  | inr apart ↦ elim (in_cases d c (without c ds) (subst (λ l. Contains l c) (without_there c d ds apart) w)) [
    | inl e ↦ apart e
    | inr i ↦ not_without c ds once.1 i
  ]
]

-- one fewer, where it stood there
pub length_without : (c : ℕ) (cs : List ℕ) → Contains cs c → length (without c cs) + 1 ≡ length cs
length_without c [] w = absurd (in_none c w)
length_without c (d ∷ ds) w = elim (cases_eq d c) [
  | inl same ↦ let e = ap length (ap (λ k. without k (d ∷ ds)) (sym same) ∙ without_here d ds) in omega arith
  | inr apart ↦ elim (in_cases d c ds w) [
    | inl e ↦ absurd (apart e)
    | inr i ↦ let e = ap length (without_there c d ds apart) in let r = length_without c ds i in omega arith
  ]
]

-- at most one fewer in any case
pub long_without : (c : ℕ) (cs : List ℕ) → length cs ≤ length (without c cs) + 1
long_without c [] = omega arith
long_without c (d ∷ ds) = elim (cases_eq d c) [
  | inl same ↦ let e = ap length (ap (λ k. without k (d ∷ ds)) (sym same) ∙ without_here d ds) in omega arith
  | inr apart ↦ let e = ap length (without_there c d ds apart) in let r = long_without c ds in omega arith
]

-- numbers below one number, each once, are no more than it
pub few_once : (n : ℕ) (cs : List ℕ) → EachOnce cs → ((c : ℕ) → Contains cs c → c < n) → length cs ≤ n
few_once zero [] once below = omega arith
few_once zero (c ∷ cs) once below = let b = below c (in_head c cs) in absurd (omega arith)
few_once (suc n) cs once below =
    let r = few_once n (without n cs) (once_without n cs once) (λ c w.
    let b = below c (in_without n cs c w) in
    let ne : c ≢ n = (λ e. not_without n cs once (subst (Contains (without n cs)) e w)) in omega arith) in
    let l = long_without n cs in omega arith
