-- One more prefix at the end of the list.
use Rattle.std.proofs.Common.{◌≡◌, ◌≢◌, ℕ, ◌+◌, ◌*◌, ◌<◌, ◌≤◌, List, [], ◌∷◌, ◌++◌, length, refl, sym, ap, ◌∙◌, subst, inl, inr, arith, length-append}
use Rattle.std.specs.List.{zip}
use Rattle.std.proofs.lemmas.Bool.{cases_lt}
use Rattle.std.proofs.lemmas.List.{get_or_append_left, get_or_push}
use Rattle.ip_table.specs.declared.tree.Fork.{Fork}
use Rattle.ip_table.specs.Bits.{width_of, first_bits}
use Rattle.ip_table.specs.Prefixes.{Prefix, IsPrefix}
use Rattle.ip_table.specs.Trees.{prefix_at, fork_at, here, window, IsChild, IsTree, AllStand, AllPrefixes, AreApart, HasPrefix}

module _ (ps : List Prefix) (p : Prefix) (new : List Prefix) (is : new ≡ ps ++ p ∷ []) where
  pub longer : length new ≡ length ps + 1
  longer = ap length is ∙ length-append ps (p ∷ [])

  pub before : (r : ℕ) → r < length ps → prefix_at new r ≡ prefix_at ps r
  before r h = ap (λ qs. prefix_at qs r) is ∙ get_or_append_left ps (p ∷ []) _ r h

  pub last : prefix_at new (length ps) ≡ p
  last = ap (λ qs. prefix_at qs (length ps)) is ∙ get_or_push ps p _ (length ps) refl

  end : (r : ℕ) → r < length new → length ps ≤ r → length ps ≡ r
  end r h k = omega (arith, longer)

  pub last_at : (r : ℕ) → r < length new → length ps ≤ r → prefix_at new r ≡ p
  last_at r h k = subst (λ x. prefix_at new x ≡ p) (end r h k) last

  pub all_prefixes : AllPrefixes ps → IsPrefix p.address p.length → AllPrefixes new
  all_prefixes all prefix r h = elim (cases_lt r (length ps)) [
    | inl old ↦ subst (λ q. IsPrefix q.address q.length) (sym (before r old)) (all r old)
    | inr over ↦
        subst (λ k. IsPrefix (prefix_at new k).address (prefix_at new k).length) (end r h over)
        (subst (λ q. IsPrefix q.address q.length) (sym last) prefix)
  ]

  pub are_apart : AreApart ps → (HasPrefix ps p → ⊥) → AreApart new
  are_apart apart absent i j h k same =
      elim (cases_lt i (length ps)) [
        | inl x ↦ elim (cases_lt j (length ps)) [
          | inl y ↦ apart i j x y (sym (before i x) ∙ same ∙ before j y)
          | inr y ↦ absurd (absent (i, x, sym (before i x) ∙ same ∙ last_at j k y))
        ]
        | inr x ↦ elim (cases_lt j (length ps)) [
          | inl y ↦ absurd (absent (j, y, sym (before j y) ∙ sym same ∙ last_at i h x))
          | inr y ↦ sym (end i h x) ∙ end j k y
        ]
      ]

  module _ (forks : List Fork) (width : ℕ) (tree : IsTree ps forks width) where
    same_here : (i : ℕ) → i < length forks → here new forks i ≡ here ps forks i
    same_here i h = before (fork_at forks i).row (tree.each i h).row

    kids : (i bit k : ℕ) → i < length forks → IsChild ps forks i bit k → IsChild new forks i bit k
    kids i bit k h kid = record {
      within = kid.within;
      deeper = kid.deeper;
      child_depth = kid.child_depth;
      start = kid.start;
      bits = ap (λ (q : Prefix). first_bits ((fork_at forks i).depth + 1) q.address)
          (same_here k kid.within) ∙ kid.bits
          ∙ ap (λ (q : Prefix). 2 * first_bits (fork_at forks i).depth q.address + bit)
          (sym (same_here i h));
    }

    pub tree_on : IsTree new forks width
    tree_on = record {
      root = tree.root;
      begin = tree.begin;
      each = λ i h. let fork = tree.each i h in record {
        row = omega (arith, fork.row, longer);
        family = ap (λ (q : Prefix). width_of q.address) (same_here i h) ∙ fork.family;
        depth = omega (arith, fork.depth, ap (λ (q : Prefix). q.length) (same_here i h));
        long = fork.long ∙ ap (λ (q : Prefix). q.length) (sym (same_here i h));
        low = fork.low;
        flat = fork.flat;
        behind = fork.behind
            ∙ ap (λ (q : Prefix). window (fork_at forks i).start q.address) (sym (same_here i h));
        children = λ bit low some. kids i bit _ h (fork.children bit low some);
      };
      apart = tree.apart;
    }

  module _ (forks : List Fork) (width : ℕ) where
    -- all rows but the last stand as before
    pub others_on : AllStand ps forks width (length ps) → AllStand new forks width (length ps)
    others_on all r h family ne = elim (cases_lt r (length ps)) [
      | inl old ↦
          all r old (ap (λ (q : Prefix). width_of q.address) (sym (before r old)) ∙ family) ne
      | inr over ↦ absurd (ne (sym (end r h over)))
    ]

    -- a row of another family changes nothing
    pub all_stand_on : width_of p.address ≢ width → AllStand ps forks width (length ps)
        → AllStand new forks width (length new)
    all_stand_on other all r h family ne = elim (cases_lt r (length ps)) [
      | inl old ↦
          all r old (ap (λ (q : Prefix). width_of q.address) (sym (before r old))
          ∙ family) (λ e. absurd (omega arith))
      | inr over ↦
          absurd (other (ap (λ (q : Prefix). width_of q.address) (sym last)
          ∙ ap (λ k. width_of (prefix_at new k).address) (end r h over)
          ∙ family))
    ]

-- prefixes and values side by side, with one more of both
pub zip_push : {V : Type 0} → (ps : List Prefix) (vs : List V) (p : Prefix) (v : V)
    → length vs ≡ length ps
    → zip (ps ++ p ∷ []) (vs ++ v ∷ []) ≡ zip ps vs ++ (p, v) ∷ []
zip_push [] [] p v e = refl
zip_push [] (w ∷ vs) p v e = absurd (omega arith)
zip_push (q ∷ ps) [] p v e = absurd (omega arith)
zip_push (q ∷ ps) (w ∷ vs) p v e = ap (λ rows. (q, w) ∷ rows) (zip_push ps vs p v (omega arith))
