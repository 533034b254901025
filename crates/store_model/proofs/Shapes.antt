-- The shape of two files.
use Rattle.std.proofs.Common.{◌≡◌, ◌∙◌, ℕ, ◌+◌, List, length, ap, arith, refl, subst, sym}
use Rattle.gate_journal.proofs.Opening.{opens_to_one}
use Rattle.gate_journal.specs.Layout.{OpensTo, front}
use Rattle.store_model.specs.Laws.{OneShape}
use Rattle.store_model.specs.Opening.{IsShape}
use Rattle.zone_journal.specs.Pairs.{IsActive, active_of, other_of}
use Rattle.zone_journal.specs.declared.answers.Side.{Side}
use Rattle.zone_journal.specs.declared.answers.Side.TheVariants.{A, B}

-- where the gate stands, by the side that decides
pub shape_at : (x y : List ℕ) (side : Side) (generation at g : ℕ) (s : List ℕ) (es : List (List ℕ))
    → IsActive side (active_of side x y) (other_of side x y) → generation ≡ g
    → at ≡ length (front g s es) → OpensTo (active_of side x y) g s es
    → IsShape x y side generation (at + 1)
shape_at x y side generation at g s es now e place opens =
    subst (λ n. IsShape x y side n (at + 1)) (sym e) (record {
      snapshot = s;
      entries = es;
      decides = now;
      opens = opens;
      long = ap (λ n. n + 1) place;
    })

-- files of which each decides beside the other
both : (x y : List ℕ) → IsActive A x y → IsActive B y x → ⊥
both x y a b = omega (arith, a.1 b.0, b.1 a.0)

of_one_side : (x y : List ℕ) (side : Side) (g h n m : ℕ) → IsShape x y side g n
    → IsShape x y side h m → (g ≡ h) × (n ≡ m)
of_one_side x y side g h n m one other =
    let same = opens_to_one (active_of side x y) g h one.snapshot other.snapshot one.entries
    other.entries one.opens other.opens in (
      same.generation,
      one.long
          ∙ (λ i. length (front (same.generation i) (same.snapshot i) (same.entries i)) + 1)
          ∙ sym other.long,
    )

pub one_shape : OneShape
one_shape x y A A g h n m one other =
    let same = of_one_side x y A g h n m one other in (refl, same.0, same.1)
one_shape x y B B g h n m one other =
    let same = of_one_side x y B g h n m one other in (refl, same.0, same.1)
one_shape x y A B g h n m one other = absurd (both x y one.decides other.decides)
one_shape x y B A g h n m one other = absurd (both x y other.decides one.decides)
