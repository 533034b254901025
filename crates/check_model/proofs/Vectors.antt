-- The definitions at values from outside: the rules' own examples and bounds.
use Rattle.std.proofs.Common.{◌≡◌, ℕ, ◌≤◌, true, false, [], ◌∷◌, replicate, None, Some, Ok, Err, refl, arith, subst}
use Rattle.std.specs.Prelude.{nat_le}
use Rattle.std.proofs.lemmas.Bool.{leb-true}
use Rattle.check_model.specs.declared.checks.Check.{Check}
use Rattle.check_model.specs.declared.checks.Check.TheVariants.{Endpoint, Calculated}
use Rattle.check_model.specs.declared.checks.CheckCommand.TheVariants.{Create, Update, Delete}
use Rattle.check_model.specs.declared.refusals.CheckRefusal.TheVariants.{ChildRepeated, ChildTooDeep, WrongMember, NoSuchHealthCheck, HealthCheckInUse, TooManyHealthChecks, IdsEnded}
use Rattle.check_model.proofs.Walks.{shallow_of}
use Rattle.check_model.specs.Checks.{AreChildren, IsSound, check_with, Checks, IsBounded, IsCalculated, IsCalculatedAt, IsWalk}
use Rattle.check_model.specs.Commands.{IsBoundedCommand, outcome, checks_after, is_too_deep, refusal_of}

-- of an endpoint, as it is made without members: three in a row turn a view
abbrev endpoint : Check
endpoint = Endpoint 3 false false

-- one healthy child is enough
abbrev over : ℕ → Check
over child = Calculated 1 false false (child ∷ [])

abbrev none : Checks
none = record { next = 1; list = [] }

-- the first check is h1
first : outcome none (Create endpoint)
    ≡ Ok (record { next = 2; list = (1, endpoint) ∷ [] }, 1)
unfolding is_too_deep
first = refl

-- h1 and h2 of endpoints, h3 over h1, h4 over h3, h5 over h4
abbrev chain : Checks
chain = record {
  next = 6;
  list = (1, endpoint) ∷ (2, endpoint) ∷ (3, over 1) ∷ (4, over 3) ∷ (5, over 4) ∷ [];
}

-- h6 over h5 makes a walk of four
abbrev nested : Checks
nested = record {
  next = 7;
  list = (1, endpoint) ∷ (2, endpoint) ∷ (3, over 1) ∷ (4, over 3) ∷ (5, over 4)
      ∷ (6, over 5) ∷ [];
}

four : outcome chain (Create (over 5)) ≡ Ok (nested, 6)
unfolding is_too_deep
four = refl

-- h7 over h6 would make one of five
five : outcome nested (Create (over 6)) ≡ Err ChildTooDeep
unfolding is_too_deep
five = refl

-- and beside a child that is no deeper, in either order
five_beside : refusal_of nested (Create (Calculated 1 false false (6 ∷ 2 ∷ [])))
    ≡ Some ChildTooDeep
unfolding is_too_deep
five_beside = refl

beside_five : refusal_of nested (Create (Calculated 1 false false (2 ∷ 6 ∷ [])))
    ≡ Some ChildTooDeep
unfolding is_too_deep
beside_five = refl

-- h7 over h5 stands beside h6
another_four : refusal_of nested (Create (over 5)) ≡ None
unfolding is_too_deep
another_four = refl

-- h3 over h6 would be a cycle
cycle : outcome nested (Update 3 None None None (Some (6 ∷ []))) ≡ Err ChildTooDeep
unfolding is_too_deep
cycle = refl

over_itself : outcome nested (Update 3 None None None (Some (3 ∷ []))) ≡ Err ChildTooDeep
unfolding is_too_deep
over_itself = refl

-- the walk of four goes h6, h5, h4, h3
walk_of_four : IsWalk nested.list (6 ∷ 5 ∷ 4 ∷ 3 ∷ [])
walk_of_four = (
  (over 5, refl, tt),
  (over 5, refl, (0, omega arith, refl)),
  (
    (over 4, refl, tt),
    (over 4, refl, (0, omega arith, refl)),
    (
      (over 3, refl, tt),
      (over 3, refl, (0, omega arith, refl)),
      (over 1, refl, tt),
    ),
  ),
)

-- a walk doesn't go on to an endpoint's check
no_calculated : IsCalculatedAt nested.list 1 → ⊥
no_calculated (check, at, is) = absurd (let no : check ≡ endpoint = cc in subst IsCalculated no is)

-- ---- sound

four_are_sound : IsSound nested
unfolding is_too_deep
four_are_sound = record {
  few = omega arith;
  from = omega arith;
  to = omega arith;
  ids = (
    (omega arith, omega arith),
    (
      (omega arith, omega arith),
      (
        (omega arith, omega arith),
        (
          (omega arith, omega arith),
          (
            (omega arith, omega arith),
            (
              (omega arith, omega arith),
              tt,
            ),
          ),
        ),
      ),
    ),
  );
  rising = (
    (omega arith, (omega arith, (omega arith, (omega arith, (omega arith, tt))))),
    (
      (omega arith, (omega arith, (omega arith, (omega arith, tt)))),
      (
        (
          omega arith,
          (
            omega arith,
            (omega arith, tt),
          ),
        ),
        ((omega arith, (omega arith, tt)), ((omega arith, tt), (tt, tt))),
      ),
    ),
  );
  children = (
    none_of_endpoint,
    (
      none_of_endpoint,
      (
        one 1 endpoint refl,
        (
          one 3 (over 1) refl,
          (one 4 (over 3) refl, (one 5 (over 4) refl, tt)),
        ),
      ),
    ),
  );
  shallow = shallow_of nested.list refl;
  bounded = (
    (omega arith, omega arith),
    (
      (omega arith, omega arith),
      (
        (
          omega arith,
          omega
              arith,
        ),
        (
          (omega arith, omega arith),
          (
            (omega arith, omega arith),
            (
              (omega arith, omega arith),
              tt,
            ),
          ),
        ),
      ),
    ),
  );
}
  where
    none_of_endpoint : AreChildren nested.list []
    none_of_endpoint = record { there = tt; distinct = tt }

    one : (id : ℕ) (check : Check) → check_with nested.list id ≡ Some check
        → AreChildren nested.list (id ∷ [])
    one id check at = record { there = ((check, at), tt); distinct = (tt, tt) }

-- a walk of five: h7, h6, h5, h4, h3
five_are_not : IsSound (checks_after nested (Create (over 6))) → ⊥
five_are_not sound = sound.shallow (7 ∷ 6 ∷ 5 ∷ 4 ∷ 3 ∷ []) (
  (over 6, refl, tt),
  (over 6, refl, (0, omega arith, refl)),
  (
    (over 5, refl, tt),
    (over 5, refl, (0, omega arith, refl)),
    (
      (over 4, refl, tt),
      (over 4, refl, (0, omega arith, refl)),
      (
        (over 3, refl, tt),
        (over 3, refl, (0, omega arith, refl)),
        (over 1, refl, tt),
      ),
    ),
  ),
) refl

-- ---- refusals in their order

repeated : refusal_of nested (Create (Calculated 1 false false (9 ∷ 1 ∷ 9 ∷ [])))
    ≡ Some ChildRepeated
repeated = refl

-- the first child that isn't there, in the order given
first_not_there : refusal_of nested (Create (Calculated 1 false false (6 ∷ 9 ∷ 8 ∷ [])))
    ≡ Some (NoSuchHealthCheck 9)
first_not_there = refl

-- 200 checks are the most
abbrev endpoints : ℕ → Checks
endpoints count = record { next = 4294967295; list = replicate count (1, endpoint) }

two_hundred_one : refusal_of (endpoints 200) (Create endpoint) ≡ Some TooManyHealthChecks
unfolding is_too_deep
two_hundred_one = refl

-- the last number is no check's
last_number : refusal_of (endpoints 199) (Create endpoint) ≡ Some IdsEnded
unfolding is_too_deep
last_number = refl

last_but_one : refusal_of (record { next = 4294967294; list = [] }) (Create endpoint) ≡ None
unfolding is_too_deep
last_but_one = refl

-- too deep comes before the bound of 200
deep_first : refusal_of (record nested { next = 4294967295 }) (Create (over 6))
    ≡ Some ChildTooDeep
unfolding is_too_deep
deep_first = refl

no_such : refusal_of nested (Update 8 None None (Some 1) None) ≡ Some (NoSuchHealthCheck 8)
no_such = refl

threshold_of_endpoint : refusal_of nested (Update 1 None None (Some 1) None) ≡ Some WrongMember
threshold_of_endpoint = refl

children_of_endpoint : refusal_of nested (Update 1 None None None (Some (9 ∷ 9 ∷ [])))
    ≡ Some WrongMember
children_of_endpoint = refl

repeated_update : refusal_of nested (Update 4 None None None (Some (9 ∷ 9 ∷ [])))
    ≡ Some ChildRepeated
repeated_update = refl

no_such_child : refusal_of nested (Update 3 None None None (Some (6 ∷ 9 ∷ [])))
    ≡ Some (NoSuchHealthCheck 9)
no_such_child = refl

-- a calculated check names h1; none names h6
in_use : outcome nested (Delete 1) ≡ Err (HealthCheckInUse 1)
in_use = refl

not_in_use : outcome nested (Delete 6) ≡ Ok (record chain { next = 7 }, 6)
not_in_use = refl

no_such_end : outcome nested (Delete 7) ≡ Err (NoSuchHealthCheck 7)
no_such_end = refl

-- ---- what is given is changed, the rest is left

given_alone : outcome chain (Update 4 None (Some true) None None)
    ≡ Ok (
      record {
        next = 6;
        list = (1, endpoint) ∷ (2, endpoint) ∷ (3, over 1)
            ∷ (4, Calculated 1 false true (3 ∷ [])) ∷ (5, over 4) ∷ [];
      },
      4,
    )
given_alone = refl

given_all : checks_after chain (Update 5 (Some true) (Some true) (Some 256) (Some []))
    ≡ record {
      next = 6;
      list = (1, endpoint) ∷ (2, endpoint) ∷ (3, over 1) ∷ (4, over 3)
          ∷ (5, Calculated 256 true true []) ∷ [];
    }
given_all = refl

inverted_endpoint : checks_after chain (Update 2 (Some true) None None None)
    ≡ record {
      next = 6;
      list = (1, endpoint) ∷ (2, Endpoint 3 true false) ∷ (3, over 1) ∷ (4, over 3)
          ∷ (5, over 4) ∷ [];
    }
inverted_endpoint = refl

-- ---- bounds

one_failure : IsBounded (Endpoint 1 false false)
one_failure = (omega arith, omega arith)

ten_failures : IsBounded (Endpoint 10 false false)
ten_failures = (omega arith, omega arith)

no_failure : IsBounded (Endpoint 0 false false) → ⊥
no_failure (low, high) = omega (arith, low)

eleven_failures : IsBounded (Endpoint 11 false false) → ⊥
eleven_failures (low, high) = omega (arith, high)

-- a threshold of 256 is above each number of children
most : IsBounded (Calculated 256 false false (replicate 255 1))
most = (omega arith, le-leb_back 255 255 refl)
  where
    le-leb_back : (a b : ℕ) → nat_le a b ≡ true → a ≤ b
    le-leb_back a b e = leb-true a b e

threshold_257 : IsBounded (Calculated 257 false false []) → ⊥
threshold_257 (low, high) = omega (arith, low)

threshold_257_given : IsBoundedCommand (Update 3 None None (Some 257) None) → ⊥
threshold_257_given le = omega (arith, le)

threshold_256_given : IsBoundedCommand (Update 3 None None (Some 256) None)
threshold_256_given = omega arith
