-- Numbers that agree with those of checks as far as some place, and no further; and that checks follow in one
-- way alone.
use Rattle.std.proofs.Common.{◌≡◌, ◌≢◌, ◌<◌, ◌+◌, ℕ, List, length, arith, refl, ap, inl, inr, Some}
use Rattle.std.specs.Prelude.{slice_get}
use Rattle.std.proofs.lemmas.Bool.{cases_lt}
use Rattle.check_model.specs.declared.checks.Check.{Check}
use Rattle.health_index.specs.Following.{AreFewer, AreMore, AreSame, HaveIdsBehind, IsWay}
use Rattle.health_index.specs.declared.following.Way.{Way}
use Rattle.health_index.specs.declared.following.Way.TheVariants as way
use Rattle.health_planning.proofs.MembersOfZoneList.{filled}
use Rattle.health_planning.specs.Wired.{StandApart}

module _ (ids : List ℕ) (list : List (ℕ × Check)) (same : ℕ)
    (end : (held : ℕ × Check) → slice_get list same ≡ Some held → slice_get ids same ≢ Some held.0)
    (early : same < length ids) where
  pub none_same : AreSame ids list → ⊥
  none_same are =
      let long = are.0 in
      let held = filled list same (omega arith) in
      end held.0 held.1 (are.1 same held.0 early held.1)

  pub no_more : AreMore ids list → ⊥
  no_more are =
      let long = are.0 in
      let held = filled list same (omega arith) in
      end held.0 held.1 (are.1 same held.0 early held.1)

  -- one that went stood no further, so that those from this place on stood one place further
  pub not_fewer : (gone : ℕ) → AreFewer ids gone list → HaveIdsBehind ids same list
  not_fewer gone are = elim (cases_lt same gone) [
    | inl before ↦
        let within = are.0 in
        let long = are.1.0 in
        let held = filled list same (omega arith) in
        absurd (end held.0 held.1 (are.1.1.0 same held.0 before held.1))
    | inr past ↦ λ place held behind at. are.1.1.1 place held (omega arith) at
  ]

-- ---- ways, each of which is one alone

one_gone : (ids : List ℕ) (list : List (ℕ × Check)) (a b : ℕ) → StandApart ids → AreFewer ids a list
    → AreFewer ids b list → a < b → ⊥
one_gone ids list a b apart first second early =
    let within = second.0 in
    let long = first.1.0 in
    let held = filled list a (omega arith) in
    let here = second.1.1.0 a held.0 early held.1 in
    let behind = first.1.1.1 a held.0 (omega arith) held.1 in
    let same = apart a (a + 1) held.0.0 here behind in
    omega arith

pub one_way : (ids : List ℕ) (list : List (ℕ × Check)) (told other : Way) → StandApart ids
    → (other ≡ way.Other → ⊥) → IsWay ids list told → IsWay ids list other → told ≡ other
one_way ids list way.Same way.Same apart known a b = refl
one_way ids list way.Same way.More apart known a b = absurd (let x = a.0 in let y = b.0 in omega arith)
one_way ids list way.Same (way.Fewer gone) apart known a b = absurd (let x = a.0 in let y = b.1.0 in omega arith)
one_way ids list way.More way.Same apart known a b = absurd (let x = a.0 in let y = b.0 in omega arith)
one_way ids list way.More way.More apart known a b = refl
one_way ids list way.More (way.Fewer gone) apart known a b = absurd (let x = a.0 in let y = b.1.0 in omega arith)
one_way ids list (way.Fewer gone) way.Same apart known a b = absurd (let x = b.0 in let y = a.1.0 in omega arith)
one_way ids list (way.Fewer gone) way.More apart known a b = absurd (let x = b.0 in let y = a.1.0 in omega arith)
one_way ids list (way.Fewer gone) (way.Fewer other) apart known a b = elim (cases_lt gone other) [
  | inl early ↦ absurd (one_gone ids list gone other apart a b early)
  | inr past ↦ elim (cases_lt other gone) [
    | inl late ↦ absurd (one_gone ids list other gone apart b a late)
    | inr least ↦ (let same : gone ≡ other = omega arith in ap way.Fewer same)
  ]
]
one_way ids list way.Other way.Same apart known a b = absurd (a.0 b)
one_way ids list way.Other way.More apart known a b = absurd (a.1.0 b)
one_way ids list way.Other (way.Fewer gone) apart known a b = absurd (a.1.1 gone b)
one_way ids list told way.Other apart known a b = absurd (known refl)
