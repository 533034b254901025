-- Numbers by hand: the most octets of a file, a piece of a compaction, the last generation, and the
-- checkers.
use Rattle.std.proofs.Common.{◌≡◌, ℕ, true, false, [], ◌∷◌, None, Some, refl, arith, inl, inr}
use Rattle.check_model.specs.declared.checks.Check.TheVariants.{Calculated, Endpoint}
use Rattle.config_model.specs.Configs.{Config, empty}
use Rattle.engine_model.specs.Compacting.{IsLastGeneration, after_piece, left_of}
use Rattle.engine_model.specs.Engine.{Engine, Fits, IsFull, Journal, Plan, ReportSteps}
use Rattle.engine_model.specs.declared.answers.Reported.TheVariants as reported
use Rattle.zone_journal.specs.declared.answers.Side.TheVariants.{A}

-- ---- a file has 268,435,456 octets at most

abbrev alone : (length : ℕ) → Journal
alone length = record { side = A; generation = 1; length = length; plan = None }

abbrev beside : (length planned : ℕ) → Journal
beside length planned = record {
  side = A;
  generation = 1;
  length = length;
  plan = Some (record { length = planned; next = 1 });
}

of_that_plan : (length planned : ℕ) (plan : Plan) → (beside length planned).plan ≡ Some plan
    → plan.length ≡ planned
of_that_plan length planned plan e = grind (arith, e)

-- an entry of six octets, which takes eleven
pub fits_to_the_last : Fits 6 (alone 268435445)
fits_to_the_last = record {
  active = omega arith;
  planned = λ plan e. absurd (grind (arith, e));
}

pub full_behind_it : IsFull 6 (alone 268435446) 268435446
full_behind_it = inl (refl, omega arith)

pub both_to_the_last : Fits 6 (beside 268435445 268435445)
both_to_the_last = record {
  active = omega arith;
  planned = λ plan e. (let is = of_that_plan 268435445 268435445 plan e in omega (arith, is));
}

pub the_other_is_full : IsFull 6 (beside 34 268435446) 268435446
the_other_is_full = inr (omega arith, (record { length = 268435446; next = 1 }, refl, refl, omega arith))

-- both are full: the length that is told is that of the file that decides
pub its_own_first : (full : ℕ) → IsFull 6 (beside 268435446 268435447) full → full ≡ 268435446
its_own_first full (inl is) = is.0
its_own_first full (inr is) = absurd (let room = is.0 in omega (arith, room))

-- ---- a piece writes 65,536 octets at most

abbrev long : Journal
long = record {
  side = A;
  generation = 1;
  length = 34;
  plan = Some (record { length = 65600; next = 1 });
}

pub a_whole_piece : (after_piece long (record { length = 65600; next = 1 })).plan
    ≡ Some (record { length = 65600; next = 65537 })
a_whole_piece = refl

pub what_is_left : left_of (record { length = 65600; next = 65537 }) ≡ 64
what_is_left = refl

-- three octets are left, of which two are gates
pub one_octet : (after_piece long (record { length = 65600; next = 65598 })).plan
    ≡ Some (record { length = 65600; next = 65599 })
one_octet = refl

-- ---- the last generation is 2^64 - 1

abbrev last : Journal
last = record { side = A; generation = 18446744073709551615; length = 34; plan = None }

pub none_behind_it : IsLastGeneration last
none_behind_it = (refl, refl)

-- one that is in progress goes on
pub it_goes_on :
    IsLastGeneration (record last { plan = Some (record { length = 34; next = 1 }) }) → ⊥
it_goes_on is = (let e = is.0 in grind (arith, e))

pub one_more : IsLastGeneration (record last { generation = 18446744073709551614 }) → ⊥
one_more is = (let e = is.1 in omega (arith, e))

-- ---- checkers 0 to 49

-- h1 of an endpoint, disabled, and h2 over it
abbrev checked : Config
checked = record empty {
  checks = record {
    next = 3;
    list = (1, Endpoint 3 false true) ∷ (2, Calculated 1 false false (1 ∷ [])) ∷ [];
  };
}

abbrev store : Engine
store = record { config = checked; reports = []; journal = alone 34 }

-- a disabled check takes reports
pub the_last_checker : ReportSteps store 1 49 true reported.Taken (record store {
  reports = record { check = 1; checker = 49; pass = true } ∷ [];
})
the_last_checker = ((3, (false, true, refl)), omega arith, refl)

pub no_checker : ReportSteps store 1 50 true reported.BadChecker store
no_checker = ((3, (false, true, refl)), omega arith, refl)

pub no_endpoint : ReportSteps store 2 0 true reported.NoSuchHealthCheck store
no_endpoint = (λ is. (let e = is.1.2 in grind (arith, e)), refl)
