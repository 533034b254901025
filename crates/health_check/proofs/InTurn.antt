-- What is told of checks one by one, each beside those behind it.
use Rattle.std.proofs.Common.{◌≡◌, ◌<◌, ◌+◌, ℕ, false, IsTrue, ◌↔◌, List, ◌∷◌, length, get_or, drop, sym, subst}
use Rattle.std.proofs.lemmas.Bool.{false≢true}
use Rattle.std.proofs.lemmas.List.{drop_more}
use Rattle.health_check.proofs.Places.{Held}

module _ (P : List Held → Type 0) (Q : Held → List Held → Type 0)
    (whole : (held : Held) (list : List Held) → P (held ∷ list) → Q held list × P list)
    (made : (held : Held) (list : List Held) → Q held list → P list → P (held ∷ list))
    (list : List Held) (i : ℕ) (other : Held) (lt : i < length list)
    (so_far : P list ↔ P (drop i list)) where
  there : drop i list ≡ get_or list i other ∷ drop (i + 1) list
  there = drop_more list i other lt

  apart : P list → Q (get_or list i other) (drop (i + 1) list) × P (drop (i + 1) list)
  apart p = whole (get_or list i other) (drop (i + 1) list) (subst P there (so_far.0 p))

  pub goes_on : Q (get_or list i other) (drop (i + 1) list) → P list ↔ P (drop (i + 1) list)
  goes_on q = (
    λ p. (apart p).1,
    λ p. so_far.1 (subst P (sym there) (made (get_or list i other) (drop (i + 1) list) q p)),
  )

  pub ends : (Q (get_or list i other) (drop (i + 1) list) → ⊥) → IsTrue false ↔ P list
  ends never = (λ t. absurd (false≢true t), λ p. absurd (never (apart p).0))
