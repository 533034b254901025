-- What one more report changes.
use Rattle.std.proofs.Common.{◌≡◌, ◌≢◌, ℕ, ◌+◌, Bool, true, cond, List, [], ◌∷◌, fold, Option, None, Some, ap, ◌∙◌, refl}
use Rattle.std.specs.Prelude.{nat_eq, ◌&&◌}
use Rattle.std.specs.List.{count_by}
use Rattle.std.proofs.lemmas.Bool.{eq-eqb, ne_eqb}
use Rattle.calculated_health.specs.Status.{endpoint_status, swapped_if}
use Rattle.check_model.specs.declared.checks.Check.{Check}
use Rattle.check_model.specs.declared.checks.Check.TheVariants.{Endpoint, Calculated}
use Rattle.check_model.specs.Checks.{check_with}
use Rattle.checker_state.specs.Standing.{numbers, with_result}
use Rattle.checker_state.specs.View.{view_of}
use Rattle.health_model.specs.Healthy.{Watched}
use Rattle.health_model.specs.Laws.{OneMoreReport}
use Rattle.health_model.specs.Nodes.{CheckNode, GroupNode, Node, SetNode, local}
use Rattle.health_model.specs.Statuses.{Report, check_value, passing, results_of, value_there}

fold_same : (p q : ℕ → Bool) → ((k : ℕ) → p k ≡ q k) → (ks : List ℕ) (a : ℕ)
    → fold (λ a x. a + cond (p x) 1 0) a ks ≡ fold (λ a x. a + cond (q x) 1 0) a ks
fold_same p q same [] a = refl
fold_same p q same (k ∷ ks) a =
    ap (λ (b : Bool). fold (λ a x. a + cond (p x) 1 0) (a + cond b 1 0) ks) (same k)
    ∙ fold_same p q same ks (a + cond (q k) 1 0)

count_same : (p q : ℕ → Bool) → ((k : ℕ) → p k ≡ q k) → (ks : List ℕ)
    → count_by p ks ≡ count_by q ks
count_same p q same ks = fold_same p q same ks 0

module _ (report : Report) (reports : List Report) where
  its : (checker : ℕ) → results_of (report ∷ reports) report.check checker
      ≡ with_result report.checker report.pass (results_of reports report.check) checker
  its checker =
      ap (λ (b : Bool). cond (b && nat_eq checker report.checker)
      (report.pass ∷ results_of reports report.check checker)
      (results_of reports report.check checker)) (eq-eqb report.check report.check refl)

  module _ (id : ℕ) (other : id ≢ report.check) where
    others : (checker : ℕ)
        → results_of (report ∷ reports) id checker ≡ results_of reports id checker
    others checker =
        ap (λ (b : Bool). cond (b && nat_eq checker report.checker)
        (report.pass ∷ results_of reports id checker) (results_of reports id checker))
        (ne_eqb id report.check other)

    passing_same : (threshold : ℕ)
        → passing (report ∷ reports) id threshold ≡ passing reports id threshold
    passing_same threshold =
        count_same (λ k. view_of threshold (results_of (report ∷ reports) id k))
        (λ k. view_of threshold (results_of reports id k))
        (λ k. ap (view_of threshold) (others k)) numbers

    check_kept : (check : Check) (child : ℕ → Bool)
        → check_value check (passing (report ∷ reports) id) child
        ≡ check_value check (passing reports id) child
    check_kept (Endpoint threshold inverted disabled) child =
        ap (λ (n : ℕ). cond disabled (swapped_if inverted true) (endpoint_status n inverted))
        (passing_same threshold)
    check_kept (Calculated threshold inverted disabled children) child = refl

    value_kept : (found : Option Check) (child : ℕ → Bool)
        → value_there found (passing (report ∷ reports) id) child
        ≡ value_there found (passing reports id) child
    value_kept None child = refl
    value_kept (Some check) child = check_kept check child

  equations : (watched : Watched) (v : Node → Bool) (n : Node) → n ≢ CheckNode report.check
      → local watched (report ∷ reports) v n ≡ local watched reports v n
  equations watched v (CheckNode id) other =
      value_kept id (λ e. other (ap CheckNode e)) (check_with watched.checks id)
      (λ child. v (CheckNode child))
  equations watched v (SetNode zone one) other = refl
  equations watched v (GroupNode zone name rtype) other = refl

pub one_more_report : OneMoreReport
one_more_report = record {
  its = its;
  others = λ report reports id checker other. others report reports id other checker;
  equations = λ watched report reports v n other. equations report reports watched v n other;
}
