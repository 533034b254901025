-- Which of two files decides.
use Rattle.std.proofs.Common.{◌≡◌, inl, inr, ℕ, List, length, sym, refl, subst, arith}
use Rattle.gate_journal.specs.Layout.{IsOpen, OpensTo, front, generation_of}
use Rattle.store_model.proofs.Readings.{opens_read, read_generation, read_open}
use Rattle.zone_journal.specs.Pairs.{IsActive, OpensBy, OpensPair, Yields, active_of, other_of}
use Rattle.zone_journal.specs.declared.answers.Side.{Side}
use Rattle.zone_journal.specs.declared.answers.Side.TheVariants.{A, B}

-- They don't both.
pub two_sides : (x y : List ℕ) → IsActive A x y → IsActive B y x → ⊥
two_sides x y of_a of_b =
    let le = of_a.1 of_b.0 in
    let lt = of_b.1 of_a.0 in
    omega (arith, le, lt)

pub one_side : (x y : List ℕ) (side other : Side)
    → IsActive side (active_of side x y) (other_of side x y)
    → IsActive other (active_of other x y) (other_of other x y) → side ≡ other
one_side x y A A one two = refl
one_side x y A B one two = absurd (two_sides x y one two)
one_side x y B A one two = absurd (two_sides x y two one)
one_side x y B B one two = refl

-- One that decides is open.
pub none_decides : (x y : List ℕ) (side : Side) → (IsOpen x → ⊥) → (IsOpen y → ⊥)
    → IsActive side (active_of side x y) (other_of side x y) → ⊥
none_decides x y A x_shut y_shut active = x_shut active.0
none_decides x y B x_shut y_shut active = y_shut active.0

pub generation_is : (file : List ℕ) (g : ℕ) (s : List ℕ) (es : List (List ℕ)) → OpensTo file g s es
    → generation_of file ≡ g
generation_is file g s es o =
    read_generation file (length (front g s es)) g s es (opens_read file g s es o)

-- The one by which they open decides.
pub opens_active : (side : Side) (active other : List ℕ) (g : ℕ) (s : List ℕ)
    (es : List (List ℕ)) → OpensBy side active other g s es → IsActive side active other
opens_active side active other g s es by = (
  read_open active (length (front g s es)) g s es (opens_read active g s es by.0),
  subst (λ n. Yields side n other) (sym (generation_is active g s es by.0)) by.1,
)

-- They open by the one that decides.
pub active_opens : (x y : List ℕ) (side : Side) (g : ℕ) (s : List ℕ) (es : List (List ℕ))
    → IsActive side (active_of side x y) (other_of side x y)
    → OpensTo (active_of side x y) g s es → OpensPair x y g s es
active_opens x y A g s es active o =
    inl (o, subst (λ n. Yields A n y) (generation_is x g s es o) active.1)
active_opens x y B g s es active o =
    inr (o, subst (λ n. Yields B n x) (generation_is y g s es o) active.1)

-- What they open to is that of the one that decides.
pub opens_by_active : (x y : List ℕ) (side : Side) (g : ℕ) (s : List ℕ) (es : List (List ℕ))
    → IsActive side (active_of side x y) (other_of side x y) → OpensPair x y g s es
    → OpensTo (active_of side x y) g s es
opens_by_active x y A g s es active (inl by) = by.0
opens_by_active x y A g s es active (inr by) =
    absurd (two_sides x y active (opens_active B y x g s es by))
opens_by_active x y B g s es active (inl by) =
    absurd (two_sides x y (opens_active A x y g s es by) active)
opens_by_active x y B g s es active (inr by) = by.0
