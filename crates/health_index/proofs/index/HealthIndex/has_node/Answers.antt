use Rattle.std.proofs.Common.{◌≡◌, ◌∙◌, ◌-◌, ◌↔◌, ℕ, IsTrue, List, arith, ap, sym, inl, inr, Some}
use Rattle.std.specs.Prelude.{slice_get}
use mathlib.Core.Path.{subst}
use Rattle.health_index.specs.Index.{HasNode, Index, Needs, TellsOfCheck}
use Rattle.health_planning.specs.declared.seats.Seat.{Seat}
use Rattle.health_valves.specs.Valves.{size_of}
use Rattle.health_index.proofs.index.HealthIndex.has_node.Goals as goal

pub returns-then-number-many : goal.returns-then-number-many
returns-then-number-many c =
    let late = c.if-number-many.true in
    let many = c.len-many.ensures in
    let w = c.self.invariant in
    let size = w.fits.laid.size in
    let place : c.args.node - c.len-many.result ≡ c.args.node - size_of c.self.inside.valves = omega arith in
    let its = subst (λ (n : ℕ). IsTrue c.tells_of_check.result ↔ TellsOfCheck c.self.inside.seats.items n) place
    (subst (λ (l : List Seat). IsTrue c.tells_of_check.result ↔ TellsOfCheck l (c.args.node - c.len-many.result)) c.deref.ensures.value c.tells_of_check.ensures) in
    subst (λ (i : Index). IsTrue c.tells_of_check.result ↔ HasNode i c.args.node) c.self.view_is (
      λ t. inr (inr (omega arith, its.0 t)),
      λ has. elim has [
        | inl low ↦ (let within = w.within low.0 c.args.node low.1 in absurd (omega arith))
        | inr rest ↦ elim rest [
          | inl high ↦ (let within = high.1.0 in absurd (omega arith))
          | inr behind ↦ its.1 behind.1
        ]
      ],
    )

pub returns-then-number-ge-MOST_CHECKS : goal.returns-then-number-ge-MOST_CHECKS
returns-then-number-ge-MOST_CHECKS c =
    let early = c.if-number-many.false in
    let late = c.if-number-ge-MOST_CHECKS.true in
    let many = c.len-many.ensures in
    let size = ap (λ (i : Index). size_of i.valves) c.self.view_is in
    let its = subst (λ (i : Index). IsTrue c.is_taken.result ↔ (Needs i.valves c.args.node 0 → ⊥)) c.self.view_is c.is_taken.ensures in (
      λ t. inr (inl (omega arith, (omega arith, its.0 t))),
      λ has. elim has [
        | inl low ↦
            let w = c.self.invariant in
            let numbered = subst (λ (i : Index). slice_get i.numbers low.0 ≡ Some c.args.node) (sym c.self.view_is) low.1 in
            let before = w.numbers.early low.0 c.args.node numbered in
            absurd (omega (arith, late, before))
        | inr (inl some) ↦ its.1 some.1.1
        | inr (inr behind) ↦ (let past = behind.0 in absurd (omega (arith, past, size, many, early)))
      ],
    )

pub returns : goal.returns
returns c =
    let early = c.if-number-ge-MOST_CHECKS.false in
    let within = c.if-number-many.false in
    let many = c.len-many.ensures in
    let size = ap (λ (i : Index). size_of i.valves) c.self.view_is in
    let numbers = c.deref-2.ensures.value ∙ ap (λ (i : Index). i.numbers) c.self.view_is in
    let its = subst (λ (l : List ℕ). IsTrue c.has_number.result ↔ ((place : ℕ) × (slice_get l place ≡ Some c.args.node))) numbers c.has_number.ensures in (
      λ t. inl (its.0 t),
      λ has. elim has [
        | inl at ↦ its.1 at
        | inr rest ↦ elim rest [
          | inl late ↦ (let past = late.0 in absurd (omega arith))
          | inr behind ↦ (let past = behind.0 in absurd (omega arith))
        ]
      ],
    )
