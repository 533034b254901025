-- The first point that isn't met is one point.
use Rattle.std.proofs.Common.{◌≡◌, ℕ, List, Result, Ok, Err, refl, ap, sym, ◌∙◌}
use Rattle.ecs_option.specs.declared.subnet.ClientSubnet.{ClientSubnet}
use Rattle.ecs_option.specs.declared.subnet.Malformed.{Malformed}
use Rattle.ecs_option.specs.Grammar.{Point, Length, Family, Source, Scope, Address, Meets, IsFirstUnmet, Reads, place_of}

same_point : (body : List ℕ) (p q : Point) → IsFirstUnmet body p → IsFirstUnmet body q → p ≡ q
same_point body Length Length u v = refl
same_point body Length _ u v = absurd (u v.0)
same_point body Family Length u v = absurd (v u.0)
same_point body Family Family u v = refl
same_point body Family _ u v = absurd (u.1 v.1)
same_point body Source Length u v = absurd (v u.0)
same_point body Source Family u v = absurd (v.1 u.1)
same_point body Source Source u v = refl
same_point body Source _ u v = absurd (u.2 v.2)
same_point body Scope Length u v = absurd (v u.0)
same_point body Scope Family u v = absurd (v.1 u.1)
same_point body Scope Source u v = absurd (v.2 u.2)
same_point body Scope Scope u v = refl
same_point body Scope Address u v = absurd (u.3 v.3)
same_point body Address Length u v = absurd (v u.0)
same_point body Address Family u v = absurd (v.1 u.1)
same_point body Address Source u v = absurd (v.2 u.2)
same_point body Address Scope u v = absurd (v.3 u.3)
same_point body Address Address u v = refl

unmet : (body : List ℕ) (p : Point) → IsFirstUnmet body p → ¬ Meets body p
unmet body Length u = u
unmet body Family u = u.1
unmet body Source u = u.2
unmet body Scope u = u.3
unmet body Address u = u.4

at_place : (m n : Malformed) → m.0 ≡ n.0 → m ≡ n
at_place m n e = ap (λ (place : ℕ). let fault : Malformed = record { 0 = place } in fault) e

pub one_reading : (body : List ℕ) (a b : Result ClientSubnet Malformed) → Reads body a
    → Reads body b → a ≡ b
one_reading body (Ok x) (Ok y) r s = ap Ok (r.1 ∙ sym s.1)
one_reading body (Ok x) (Err n) r s = absurd (unmet body s.0 s.1 (r.0 s.0))
one_reading body (Err m) (Ok y) r s = absurd (unmet body r.0 r.1 (s.0 r.0))
one_reading body (Err m) (Err n) r s =
    ap Err (at_place m n (r.2 ∙ ap (place_of body) (same_point body r.0 s.0 r.1 s.1) ∙ sym s.2))
