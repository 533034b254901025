-- The valves of their own that the sets of a group have, and how many of these have none.
use Rattle.std.proofs.Common.{◌≡◌, ◌≤◌, ◌<◌, ◌+◌, ◌-◌, ℕ, zero, suc, List, [], ◌∷◌, length, take, get_or, arith, refl, ap, ◌∙◌, inl, inr}
use Rattle.std.specs.Prelude.{All}
use Rattle.std.proofs.lemmas.List.{length-take}
use Rattle.std.proofs.lemmas.List.Elements.{Contains-get_or}
use Rattle.health_planning.proofs.Ending.{member_valve}
use Rattle.health_planning.proofs.Told.{own_suc}
use Rattle.health_planning.specs.Wired.{own_part, plain, plain_among, seat_of, set_seat, valves_of, with_valve}
use Rattle.health_planning.specs.declared.seats.Seat.{Seat}
use Rattle.zone_model.specs.Slotted.{IsHere, Slotted}

-- each of these valves is told by a seat
pub own_below : (seats : List Seat) (members : List Slotted) (n : ℕ)
    → ((slot valve : ℕ) → set_seat seats slot ≡ suc valve → valve < n) → All (λ x. x < n) (valves_of seats members)
own_below seats members n each k d below =
    let x = get_or (valves_of seats members) k d in
    let m = member_valve seats members x (Contains-get_or (valves_of seats members) k d below) in
    each m.0.slot x (own_suc (set_seat seats m.0.slot) x m.2)

one_counted : (n : ℕ) (l : List ℕ) → plain n + length (with_valve n l) ≡ 1 + length l
one_counted zero l = refl
one_counted (suc n) l = omega arith

-- each set has a valve of its own, or is counted
pub both_counted : (seats : List Seat) (members : List Slotted)
    → plain_among seats members + length (valves_of seats members) ≡ length members
both_counted seats [] = refl
both_counted seats (p ∷ members) =
    let one = one_counted (seat_of seats p.slot) (valves_of seats members) in
    let rest = both_counted seats members in
    omega (arith, one, rest)

-- as they are written and counted
pub many_counted : (seats : List Seat) (members : List Slotted) (into : List ℕ) (many n : ℕ) → many ≤ length into
    → take many into ≡ valves_of seats members → n ≡ length members
    → (many ≡ length (valves_of seats members)) × ((many ≤ n) × (n - many ≡ plain_among seats members))
many_counted seats members into many n within is long =
    let all = length-take many into in
    let same = ap (λ (l : List ℕ). length l) is in
    let both = both_counted seats members in
    let e : many ≡ length (valves_of seats members) = omega (arith, within, all, same) in
    (e, (omega (arith, e, both, long), omega (arith, e, both, long)))

-- ---- where nothing decides any of them

pub none_own : (seats : List Seat) (members : List Slotted)
    → ((p : Slotted) → IsHere members p → set_seat seats p.slot ≡ 0) → valves_of seats members ≡ []
none_own seats [] bare = refl
none_own seats (p ∷ members) bare =
    ap (λ (n : ℕ). with_valve (own_part n) (valves_of seats members)) (bare p (inl refl))
    ∙ none_own seats members (λ q m. bare q (inr m))

pub all_plain : (seats : List Seat) (members : List Slotted)
    → ((p : Slotted) → IsHere members p → set_seat seats p.slot ≡ 0) → plain_among seats members ≡ length members
all_plain seats [] bare = refl
all_plain seats (p ∷ members) bare =
    let one = ap (λ (n : ℕ). plain (own_part n)) (bare p (inl refl)) in
    let rest = all_plain seats members (λ q m. bare q (inr m)) in
    omega (arith, one, rest)
