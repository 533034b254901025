-- A chain of cells when a cell comes or goes.
use Rattle.std.proofs.Common.{◌≡◌, ◌≢◌, ◌<◌, ◌+◌, ◌-◌, ℕ, zero, suc, List, [], ◌∷◌, length, get_or, arith, refl, sym, ap, ◌∙◌, subst, ◌⊎◌, inl, inr}
use Rattle.std.specs.List.{Contains}
use Rattle.std.specs.Prelude.{◌==◌, if◌then◌else◌}
use Rattle.std.proofs.lemmas.Bool.{cases_eq, eq-eqb, ne_eqb}
use Rattle.cell_lists.specs.declared.links.Head.{Head}
use Rattle.cell_lists.specs.Lists.{without, EachOnce}
use Rattle.cell_lists.specs.Linked.{IsChain, IsHeadOf, along, list_from, behind_first, behind_gone}
use Rattle.cell_lists.proofs.Members.{in_head, in_tail, in_none, in_cases, without_here, without_there, length_without}

-- links that are the same along a chain
pub frame : (n b n' b' : ℕ → ℕ) (c : ℕ) (cs : List ℕ) → IsChain n b c cs
    → ((d : ℕ) → Contains (c ∷ cs) d → n' d ≡ n d) → ((d : ℕ) → Contains cs d → b' d ≡ b d)
    → IsChain n' b' c cs
frame n b n' b' c [] chain same back = same c (in_head c []) ∙ chain
frame n b n' b' c (d ∷ ds) chain same back = (
  same c (in_head c (d ∷ ds)) ∙ chain.0,
  back d (in_head d ds) ∙ chain.1,
  frame n b n' b' d ds chain.2 (λ e w. same e (in_tail c e (d ∷ ds) w)) (λ e w. back e (in_tail d e ds w)),
)

pub frame_head : (n b n' b' : ℕ → ℕ) (head : Head) (cs : List ℕ) → IsHeadOf n b head cs
    → ((d : ℕ) → Contains cs d → n' d ≡ n d) → ((d : ℕ) → Contains cs d → b' d ≡ b d)
    → IsHeadOf n' b' head cs
frame_head n b n' b' head [] is same back = is
frame_head n b n' b' head (c ∷ cs) is same back =
    (is.0, is.1, frame n b n' b' c cs is.2 same (λ d w. back d (in_tail c d cs w)))

-- what stands before a cell of a chain that isn't the first, and behind it
pub before_in : (n b : ℕ → ℕ) (c : ℕ) (cs : List ℕ) (x : ℕ) → IsChain n b c cs → Contains cs x
    → Contains (c ∷ cs) (b x)
before_in n b c [] x chain w = absurd (in_none x w)
before_in n b c (d ∷ ds) x chain w = elim (in_cases d x ds w) [
  | inl e ↦ (0, omega arith, sym chain.1 ∙ ap b e)
  | inr i ↦ in_tail c (b x) (d ∷ ds) (before_in n b d ds x chain.2 i)
]

pub next_in : (n b : ℕ → ℕ) (c : ℕ) (cs : List ℕ) (x : ℕ) → IsChain n b c cs → Contains (c ∷ cs) x
    → Contains (c ∷ cs) (n x)
next_in n b c [] x chain w = elim (in_cases c x [] w) [
  | inl e ↦ (0, omega arith, sym chain ∙ ap n e)
  | inr i ↦ absurd (in_none x i)
]
next_in n b c (d ∷ ds) x chain w = elim (in_cases c x (d ∷ ds) w) [
  | inl e ↦ in_tail c (n x) (d ∷ ds) (0, omega arith, sym chain.0 ∙ ap n e)
  | inr i ↦ in_tail c (n x) (d ∷ ds) (next_in n b d ds x chain.2 i)
]

-- so far all of it can be read
pub read_chain : (n b : ℕ → ℕ) (c : ℕ) (cs : List ℕ) → IsChain n b c cs → along n (suc (length cs)) c ≡ c ∷ cs
read_chain n b c [] chain = refl
read_chain n b c (d ∷ ds) chain =
    ap (λ l. c ∷ l) (ap (along n (suc (length ds))) chain.0 ∙ read_chain n b d ds chain.2)

pub read_head : (n b : ℕ → ℕ) (head : Head) (cs : List ℕ) → IsHeadOf n b head cs → list_from n head ≡ cs
read_head n b head [] is = ap (λ k. along n k head.first) is
read_head n b head (c ∷ cs) is =
    ap (λ k. along n k head.first) is.1 ∙ ap (along n (suc (length cs))) is.0 ∙ read_chain n b c cs is.2

-- the next one, by its place
pub next_at : (n b : ℕ → ℕ) (c : ℕ) (cs : List ℕ) (k : ℕ) → IsChain n b c cs → k < length cs
    → n (get_or (c ∷ cs) k 0) ≡ get_or (c ∷ cs) (suc k) 0
next_at n b c [] k chain below = absurd (omega arith)
next_at n b c (d ∷ ds) zero chain below = chain.0
next_at n b c (d ∷ ds) (suc k) chain below = next_at n b d ds k chain.2 (omega arith)

-- what stands behind a new first cell: that cell, or one of the list
pub behind_cases : (n b : ℕ → ℕ) (head : Head) (cs : List ℕ) (x : ℕ) → IsHeadOf n b head cs
    → (behind_first head x ≡ x) ⊎ Contains cs (behind_first head x)
behind_cases n b head [] x is = inl (rw (eq-eqb head.count 0 is) refl)
behind_cases n b head (c ∷ cs) x is =
    let count = is.1 in
    let some : head.count ≢ 0 = omega arith in
    inr (0, omega arith, rw (ne_eqb head.count 0 some) (sym is.0))

-- a cell comes to the front
pub came : (n b n' b' : ℕ → ℕ) (head : Head) (cs : List ℕ) (x : ℕ) → IsHeadOf n b head cs → EachOnce cs
    → (Contains cs x → ⊥)
    → n' x ≡ behind_first head x → ((d : ℕ) → d ≢ x → n' d ≡ n d)
    → b' (behind_first head x) ≡ x → ((d : ℕ) → d ≢ behind_first head x → b' d ≡ b d)
    → IsHeadOf n' b' (record { first = x; count = head.count + 1 }) (x ∷ cs)
came n b n' b' head [] x is once free here others back rest =
    (refl, omega arith, here ∙ ap (λ k. if k == 0 then x else head.first) is)
came n b n' b' head (c ∷ cs) x is once free here others back rest =
    let count = is.1 in
    let some : head.count ≢ 0 = omega arith in
    let behind : behind_first head x ≡ c = rw (ne_eqb head.count 0 some) is.0 in (
      refl,
      omega arith,
      (
        here ∙ behind,
        ap b' (sym behind) ∙ back,
        frame n b n' b' c cs is.2 (λ d w. others d (λ e. free (subst (Contains (c ∷ cs)) e w)))
            (λ d w. rest d (λ e. once.0 (subst (Contains cs) (e ∙ behind) w))),
      ),
    )

-- a cell that isn't the first goes
pub went : (n b n' b' : ℕ → ℕ) (c : ℕ) (cs : List ℕ) (x : ℕ) → IsChain n b c cs → EachOnce (c ∷ cs)
    → Contains cs x
    → n' (b x) ≡ behind_gone (n x) x (b x) → ((d : ℕ) → d ≢ b x → n' d ≡ n d)
    → b' (n x) ≡ b x → ((d : ℕ) → d ≢ n x → b' d ≡ b d)
    → IsChain n' b' c (without x cs)
went n b n' b' c [] x chain once w here others back rest = absurd (in_none x w)
went n b n' b' c (d ∷ ds) x chain once w here others back rest = elim (cases_eq d x) [
  | inl same ↦ subst (IsChain n' b' c) (sym (ap (λ k. without k (d ∷ ds)) (sym same) ∙ without_here d ds))
      (next_to ds (subst (λ k. IsChain n b k ds) same chain.2) (λ i. once.1.0 (subst (Contains ds) (sym same) i))
      (λ i. once.0 (in_tail d c ds i)) once.1.1 (ap b (sym same) ∙ chain.1))
  | inr apart ↦ subst (IsChain n' b' c) (sym (without_there x d ds apart))
      (elim (in_cases d x ds w) [
        | inl e ↦ absurd (apart e)
        | inr i ↦ (
          others c (λ e. once.0 (subst (Contains (d ∷ ds)) (sym e) (before_in n b d ds x chain.2 i))) ∙ chain.0,
          rest d (λ e. once.1.0 (subst (Contains ds) (sym e) (behind_in ds d x chain.2 i))) ∙ chain.1,
          went n b n' b' d ds x chain.2 once.1 i here others back rest,
        )
      ])
]
  where
    behind_in : (es : List ℕ) (e y : ℕ) → IsChain n b e es → Contains es y → Contains es (n y)
    behind_in [] e y ch i = absurd (in_none y i)
    behind_in (f ∷ fs) e y ch i = next_in n b f fs y ch.2 i

    -- it stood next to c
    next_to : (es : List ℕ) → IsChain n b x es → (Contains es x → ⊥) → (Contains es c → ⊥) → EachOnce es → b x ≡ c
        → IsChain n' b' c es
    next_to [] ch gone not_c each at =
        let p : n' c ≡ (if n x == x then b x else n x) = ap n' (sym at) ∙ here in
        p ∙ (rw (eq-eqb (n x) x ch) at)
    next_to (e ∷ es) ch gone not_c each at =
        let p : n' c ≡ (if n x == x then b x else n x) = ap n' (sym at) ∙ here in
        let other : n x ≢ x = (λ s. gone (0, omega arith, sym ch.0 ∙ s)) in
        let q : n' c ≡ n x = p ∙ rw (ne_eqb (n x) x other) refl in (
          q ∙ ch.0,
          ap b' (sym ch.0) ∙ (back ∙ at),
          frame n b n' b' e es ch.2
              (λ f i. others f (λ s. not_c (subst (Contains (e ∷ es)) (s ∙ at) i)))
              (λ f i. rest f (λ s. each.0 (subst (Contains es) (s ∙ ch.0) i))),
        )

-- a cell goes that isn't the first of its list
pub went_from : (n b n' b' : ℕ → ℕ) (head : Head) (cs : List ℕ) (x : ℕ) → IsHeadOf n b head cs → EachOnce cs
    → Contains cs x → head.first ≢ x
    → n' (b x) ≡ behind_gone (n x) x (b x) → ((d : ℕ) → d ≢ b x → n' d ≡ n d)
    → b' (n x) ≡ b x → ((d : ℕ) → d ≢ n x → b' d ≡ b d)
    → IsHeadOf n' b' (record { first = head.first; count = head.count - 1 }) (without x cs)
went_from n b n' b' head [] x is once w apart here others back rest = absurd (in_none x w)
went_from n b n' b' head (c ∷ cs) x is once w apart here others back rest =
    let ne : c ≢ x = (λ e. apart (is.0 ∙ e)) in
    elim (in_cases c x cs w) [
      | inl e ↦ absurd (ne e)
      | inr i ↦ subst (IsHeadOf n' b' (record { first = head.first; count = head.count - 1 })) (sym (without_there x c cs ne))
          (let l = length_without x cs i in
          let k = is.1 in
          (is.0, omega arith, went n b n' b' c cs x is.2 once i here others back rest))
    ]

-- the first cell goes
pub first_went : (n b : ℕ → ℕ) (head : Head) (cs : List ℕ) (x : ℕ) → IsHeadOf n b head cs
    → Contains cs x → head.first ≡ x
    → IsHeadOf n b (record { first = n x; count = head.count - 1 }) (without x cs)
first_went n b head [] x is w first = absurd (in_none x w)
first_went n b head (c ∷ cs) x is w first =
    let e : c ≡ x = sym is.0 ∙ first in
    subst (IsHeadOf n b (record { first = n x; count = head.count - 1 })) (sym (ap (λ k. without k (c ∷ cs)) (sym e) ∙ without_here c cs))
    (of cs is.1 (subst (λ k. IsChain n b k cs) e is.2))
  where
    of : (ds : List ℕ) → head.count ≡ suc (length ds) → IsChain n b x ds
        → IsHeadOf n b (record { first = n x; count = head.count - 1 }) ds
    of [] k ch = omega arith
    of (d ∷ ds) k ch = (ch.0, omega arith, ch.2)
