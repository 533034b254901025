-- Kin of checks, one check after another; and that checks with the same kin have the same children.
use Rattle.std.proofs.Common.{◌≡◌, ◌+◌, ℕ, zero, suc, List, [], ◌∷◌, ◌++◌, length, take, drop, arith, refl, ap, sym, ◌∙◌, Some}
use Rattle.std.specs.Prelude.{Option, None, slice_get}
use mathlib.Core.Path.{subst}
use Rattle.std.proofs.lemmas.List.{append_assoc, append_cancel_left}
use Rattle.check_model.specs.Checks.{IsCalculated, children_of}
use Rattle.check_model.specs.declared.checks.Check.{Check}
use Rattle.check_model.specs.declared.checks.Check.TheVariants.{Endpoint, Calculated}
use Rattle.health_index.specs.Kin.{its_kin, kin_of}

some_same : {X : Type 0} {x y : X} → Some x ≡ Some y → x ≡ y
some_same e = cc

-- ---- one check more, and one fewer

one_more_at : (list : List (ℕ × Check)) (i : ℕ) (held : ℕ × Check) → slice_get list i ≡ Some held
    → kin_of (take (suc i) list) ≡ kin_of (take i list) ++ its_kin held.0 held.1
one_more_at [] i held at = let no : ⊥ = cc in absurd no
one_more_at (first ∷ list) zero held at =
    nothing_behind (its_kin first.0 first.1) ∙ ap (λ (h : ℕ × Check). its_kin h.0 h.1) (some_same at)
  where
    nothing_behind : (xs : List ℕ) → xs ++ [] ≡ xs
    nothing_behind [] = refl
    nothing_behind (x ∷ xs) = ap (λ (l : List ℕ). x ∷ l) (nothing_behind xs)
one_more_at (first ∷ list) (suc i) held at =
    ap (λ (l : List ℕ). its_kin first.0 first.1 ++ l) (one_more_at list i held at)
    ∙ sym (append_assoc (its_kin first.0 first.1) (kin_of (take i list)) (its_kin held.0 held.1))

pub one_more : (list : List (ℕ × Check)) (i : ℕ) (held : ℕ × Check) → slice_get list i ≡ Some held
    → kin_of (take (i + 1) list) ≡ kin_of (take i list) ++ its_kin held.0 held.1
one_more list i held at =
    let next : i + 1 ≡ suc i = omega arith in
    ap (λ (n : ℕ). kin_of (take n list)) next ∙ one_more_at list i held at

one_on_at : (list : List (ℕ × Check)) (i : ℕ) (held : ℕ × Check) → slice_get list i ≡ Some held
    → kin_of (drop i list) ≡ its_kin held.0 held.1 ++ kin_of (drop (suc i) list)
one_on_at [] i held at = let no : ⊥ = cc in absurd no
one_on_at (first ∷ list) zero held at =
    ap (λ (h : ℕ × Check). its_kin h.0 h.1 ++ kin_of list) (some_same at)
one_on_at (first ∷ list) (suc i) held at = one_on_at list i held at

one_on : (list : List (ℕ × Check)) (i : ℕ) (held : ℕ × Check) → slice_get list i ≡ Some held
    → kin_of (drop i list) ≡ its_kin held.0 held.1 ++ kin_of (drop (i + 1) list)
one_on list i held at =
    let next : suc i ≡ i + 1 = omega arith in
    one_on_at list i held at ∙ ap (λ (n : ℕ). its_kin held.0 held.1 ++ kin_of (drop n list)) next

-- what stands behind the kin of one check, of the rest as of all
pub rest_as_all : (kin rest behind all : List ℕ) (list : List (ℕ × Check)) (i : ℕ) (held : ℕ × Check)
    → slice_get list i ≡ Some held → rest ≡ its_kin held.0 held.1 ++ behind
    → ((kin ≡ all → rest ≡ kin_of (drop i list)) × (rest ≡ kin_of (drop i list) → kin ≡ all))
    → (kin ≡ all → behind ≡ kin_of (drop (i + 1) list)) × (behind ≡ kin_of (drop (i + 1) list) → kin ≡ all)
rest_as_all kin rest behind all list i held at is so_far = (
  λ e.
      append_cancel_left (its_kin held.0 held.1) behind (kin_of (drop (i + 1) list))
      (sym is ∙ so_far.0 e ∙ one_on list i held at),
  λ e.
      so_far.1 (is ∙ ap (λ (l : List ℕ). its_kin held.0 held.1 ++ l) e ∙ sym (one_on list i held at)),
)

-- ---- checks with the same kin

-- each calculated check, with its children
abbrev with_its : ℕ → Check → List (ℕ × List ℕ) → List (ℕ × List ℕ)
with_its id (Endpoint threshold inverted disabled) rest = rest
with_its id (Calculated threshold inverted disabled children) rest = (id, children) ∷ rest

abbrev parents : List (ℕ × Check) → List (ℕ × List ℕ)
parents [] = []
parents (held ∷ list) = with_its held.0 held.1 (parents list)

abbrev flat : List (ℕ × List ℕ) → List ℕ
flat [] = []
flat (one ∷ more) = one.0 ∷ length one.1 ∷ (one.1 ++ flat more)

flat_with : (id : ℕ) (check : Check) (rest : List (ℕ × List ℕ)) → flat (with_its id check rest) ≡ its_kin id check ++ flat rest
flat_with id (Endpoint threshold inverted disabled) rest = refl
flat_with id (Calculated threshold inverted disabled children) rest = refl

kin_flat : (list : List (ℕ × Check)) → kin_of list ≡ flat (parents list)
kin_flat [] = refl
kin_flat (held ∷ list) =
    ap (λ (l : List ℕ). its_kin held.0 held.1 ++ l) (kin_flat list) ∙ sym (flat_with held.0 held.1 (parents list))

-- fronts of one length are the same, and so is what stands behind them
fronts : (xs ys a b : List ℕ) → length xs ≡ length ys → xs ++ a ≡ ys ++ b → (xs ≡ ys) × (a ≡ b)
fronts [] [] a b long e = (refl, e)
fronts [] (y ∷ ys) a b long e = absurd (omega arith)
fronts (x ∷ xs) [] a b long e = absurd (omega arith)
fronts (x ∷ xs) (y ∷ ys) a b long e =
    let heads : x ≡ y = cc in
    let tails : xs ++ a ≡ ys ++ b = cc in
    let r = fronts xs ys a b (omega arith) tails in
    (both heads r.0, r.1)
  where
    both : {i j : ℕ} {l m : List ℕ} → i ≡ j → l ≡ m → i ∷ l ≡ j ∷ m
    both e f = cc

flat_one : (a b : List (ℕ × List ℕ)) → flat a ≡ flat b → a ≡ b
flat_one [] [] e = refl
flat_one [] (other ∷ b) e = let no : ⊥ = cc in absurd no
flat_one (one ∷ a) [] e = let no : ⊥ = cc in absurd no
flat_one (one ∷ a) (other ∷ b) e =
    let ids : one.0 ≡ other.0 = cc in
    let long : length one.1 ≡ length other.1 = cc in
    let behind : one.1 ++ flat a ≡ other.1 ++ flat b = cc in
    let r = fronts one.1 other.1 (flat a) (flat b) long behind in
    whole one other a b ids r.0 (flat_one a b r.1)
  where
    whole : (one other : ℕ × List ℕ) (a b : List (ℕ × List ℕ)) → one.0 ≡ other.0 → one.1 ≡ other.1 → a ≡ b
        → one ∷ a ≡ other ∷ b
    whole (i, l) (j, m) a b d e f = cc

-- one of them is a calculated check of the list, and each calculated check is one of them
parent_here : (list : List (ℕ × Check)) (place id : ℕ) (check : Check) → IsCalculated check
    → slice_get list place ≡ Some (id, check) → (k : ℕ) × (slice_get (parents list) k ≡ Some (id, children_of check))
parent_here [] place id check is at = let no : ⊥ = cc in absurd no
parent_here ((first, Endpoint threshold inverted disabled) ∷ list) zero id check is at =
    absurd (subst_is (some_same (ap second at)) is)
  where
    second : Option (ℕ × Check) → Option Check
    second None = None
    second (Some held) = Some held.1

    subst_is : Endpoint threshold inverted disabled ≡ check → IsCalculated check → ⊥
    subst_is e its = subst (λ (c : Check). IsCalculated c) (sym e) its
parent_here ((first, Calculated threshold inverted disabled children) ∷ list) zero id check is at =
    (0, ap (λ (h : ℕ × Check). Some (h.0, children_of h.1)) (some_same at))
parent_here ((first, Endpoint threshold inverted disabled) ∷ list) (suc place) id check is at =
    parent_here list place id check is at
parent_here ((first, Calculated threshold inverted disabled children) ∷ list) (suc place) id check is at =
    let r = parent_here list place id check is at in (suc r.0, r.1)

abbrev pub IsParent : Check → (children : List ℕ) → Type 0
IsParent check children = IsCalculated check × (children_of check ≡ children)

parent_of : (list : List (ℕ × Check)) (k id : ℕ) (children : List ℕ) → slice_get (parents list) k ≡ Some (id, children)
    → (place : ℕ) × ((check : Check) × ((slice_get list place ≡ Some (id, check)) × IsParent check children))
parent_of [] k id children at = let no : ⊥ = cc in absurd no
parent_of ((first, Endpoint threshold inverted disabled) ∷ list) k id children at =
    let r = parent_of list k id children at in (suc r.0, r.1)
parent_of ((first, Calculated threshold inverted disabled its) ∷ list) zero id children at =
    let same = some_same at in (
      0,
      (
        Calculated threshold inverted disabled its,
        (
          ap (λ (p : ℕ × List ℕ). Some (p.0, Calculated threshold inverted disabled its)) same,
          (tt, ap (λ (p : ℕ × List ℕ). p.1) same),
        ),
      ),
    )
parent_of ((first, Calculated threshold inverted disabled its) ∷ list) (suc k) id children at =
    let r = parent_of list k id children at in (suc r.0, r.1)

-- where two lists of checks have the same kin, each calculated check of one is in the other, with its children
pub same_children : (list other : List (ℕ × Check)) → kin_of list ≡ kin_of other → (place id : ℕ) (check : Check)
    → IsCalculated check → slice_get list place ≡ Some (id, check)
    → (found : ℕ) × ((its : Check) × ((slice_get other found ≡ Some (id, its)) × IsParent its (children_of check)))
same_children list other same place id check is at =
    let one = flat_one (parents list) (parents other) (sym (kin_flat list) ∙ same ∙ kin_flat other) in
    let here = parent_here list place id check is at in
    parent_of other here.0 id (children_of check) (ap (λ (l : List (ℕ × List ℕ)). slice_get l here.0) (sym one) ∙ here.1)
