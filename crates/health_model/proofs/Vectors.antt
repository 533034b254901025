-- The definitions at values from outside: the rules' own examples.
use Rattle.std.proofs.Common.{◌≡◌, ℕ, zero, suc, Bool, true, false, List, [], ◌∷◌, Option, None, Some, ap, sym, refl, arith, inl, inr}
use Rattle.std.proofs.lemmas.Option.{none-some}
use Rattle.std.specs.Prelude.{codes}
use Rattle.checker_state.specs.Standing.{numbers}
use Rattle.check_model.specs.declared.checks.Check.{Check}
use Rattle.check_model.specs.declared.checks.Check.TheVariants.{Endpoint, Calculated}
use Rattle.zone_model.specs.RTypeRecord.TheVariants as rtype
use Rattle.zone_model.specs.BodyRecord.{Body}
use Rattle.zone_model.specs.BodyRecord.TheVariants as body
use Rattle.zone_model.specs.RecordSetRecord.{RecordSet}
use Rattle.zone_model.specs.Sets.{key_of}
use Rattle.routing.specs.declared.policies.Routing.TheVariants as routing
use Rattle.health_model.specs.Healthy.{Watched, healthy, healthy_sets}
use Rattle.health_model.specs.Nodes.{CheckNode, GroupNode, IsNode, Reaches, SetNode, feeders, truth}
use Rattle.health_model.specs.Statuses.{Report, passing, status, status_told}

-- ---- endpoints

-- so many checkers, from 0 on, report one more result of h1
abbrev each_of : ℕ → Bool → List Report → List Report
each_of zero pass reports = reports
each_of (suc n) pass reports =
    record { check = 1; checker = n; pass = pass } ∷ each_of n pass reports

abbrev one : Check → List (ℕ × Check)
one check = (1, check) ∷ []

-- h1 with a threshold of 3: fail, fail, pass, fail, fail from the checkers 0 to 39
abbrev broken : List Report
broken =
    each_of 40 false (each_of 40 false (each_of 40 true
    (each_of 40 false (each_of 40 false []))))

all_pass : passing broken 1 3 ≡ 50
unfolding numbers
all_pass = refl

-- one more fail each
ten_pass : passing (each_of 40 false broken) 1 3 ≡ 10
unfolding numbers
ten_pass = refl

still_healthy : status (one (Endpoint 3 false false)) (each_of 40 false broken) 1 ≡ true
unfolding numbers status
still_healthy = refl

-- three fails from checker 40
abbrev of_forty : List Report → List Report
of_forty reports = record { check = 1; checker = 40; pass = false } ∷ reports

nine_pass : passing (of_forty (of_forty (of_forty (each_of 40 false broken)))) 1 3 ≡ 9
unfolding numbers
nine_pass = refl

unhealthy : status (one (Endpoint 3 false false))
    (of_forty (of_forty (of_forty (each_of 40 false broken)))) 1 ≡ false
unfolding numbers status
unhealthy = refl

inverted : status (one (Endpoint 3 true false))
    (of_forty (of_forty (of_forty (each_of 40 false broken)))) 1 ≡ true
unfolding numbers status
inverted = refl

-- what is told of h1, and of a check that isn't there
told : status_told (one (Endpoint 3 false false)) (each_of 40 false broken) 1 ≡ Some (true, 10)
unfolding numbers status
told = refl

told_inverted : status_told (one (Endpoint 3 true false))
    (of_forty (of_forty (of_forty (each_of 40 false broken)))) 1 ≡ Some (true, 9)
unfolding numbers status
told_inverted = refl

told_disabled : status_told (one (Endpoint 3 false true))
    (of_forty (of_forty (of_forty (each_of 40 false broken)))) 1 ≡ Some (true, 9)
unfolding numbers status
told_disabled = refl

told_nothing : status_told (one (Endpoint 3 false false)) [] 9 ≡ None
told_nothing = refl

-- without reports each checker of each check sees a pass
fresh : (id threshold : ℕ) → passing [] id threshold ≡ 50
unfolding numbers
fresh id threshold = refl

-- 41 fails at a threshold of 1
abbrev down : List Report
down = each_of 41 false []

h1_down : status (one (Endpoint 1 false false)) down 1 ≡ false
unfolding numbers status
h1_down = refl

-- reports of another check don't count, nor those of a checker that isn't there
h2_up : status ((1, Endpoint 1 false false) ∷ (2, Endpoint 1 false false) ∷ []) down 2 ≡ true
unfolding numbers status
h2_up = refl

no_fiftieth : passing (record { check = 1; checker = 50; pass = false } ∷ []) 1 1 ≡ 50
unfolding numbers
no_fiftieth = refl

-- a disabled check is healthy, and unhealthy where it is inverted
disabled : status (one (Endpoint 1 false true)) down 1 ≡ true
unfolding numbers status
disabled = refl

disabled_inverted : status (one (Endpoint 1 true true)) down 1 ≡ false
unfolding numbers status
disabled_inverted = refl

not_there : status (one (Endpoint 1 false false)) [] 2 ≡ false
unfolding numbers status
not_there = refl

-- ---- calculated checks

abbrev over : (threshold child : ℕ) → Check
over threshold child = Calculated threshold false false (child ∷ [])

-- a threshold of 0 is met whether h1 is down or not, one of 2 never
zero_down : status ((1, Endpoint 1 false false) ∷ (2, over 0 1) ∷ []) down 2 ≡ true
unfolding numbers status
zero_down = refl

one_down : status ((1, Endpoint 1 false false) ∷ (2, over 1 1) ∷ []) down 2 ≡ false
unfolding numbers status
one_down = refl

one_up : status ((1, Endpoint 1 false false) ∷ (2, over 1 1) ∷ []) [] 2 ≡ true
unfolding numbers status
one_up = refl

two_up : status ((1, Endpoint 1 false false) ∷ (2, over 2 1) ∷ []) [] 2 ≡ false
unfolding numbers status
two_up = refl

told_children : status_told ((1, Endpoint 1 false false) ∷ (2, Endpoint 1 false false)
    ∷ (3, Calculated 1 false true (1 ∷ 2 ∷ [])) ∷ []) down 3 ≡ Some (true, 1)
unfolding numbers status
told_children = refl

no_children : status (one (Calculated 0 false false [])) [] 1 ≡ true
unfolding numbers status
no_children = refl

-- h3 over h1, h4 over h3, h5 over h4, h6 over h5, and h7 over h6, which no command leaves
abbrev nested : Check → List (ℕ × Check)
nested h4 =
    (1, Endpoint 1 false false) ∷ (3, over 1 1) ∷ (4, h4) ∷ (5, over 1 4) ∷ (6, over 1 5)
    ∷ (7, over 1 6) ∷ []

h6_down : status (nested (over 1 3)) down 6 ≡ false
unfolding numbers status
h6_down = refl

-- h4 disabled
h6_past_disabled : status (nested (Calculated 1 false true (3 ∷ []))) down 6 ≡ true
unfolding numbers status
h6_past_disabled = refl

-- h4 inverted too
h6_past_inverted : status (nested (Calculated 1 true true (3 ∷ []))) down 6 ≡ false
unfolding numbers status
h6_past_inverted = refl

-- four in a row are looked through, and a fifth isn't
h6_up : status (nested (over 1 3)) [] 6 ≡ true
unfolding numbers status
h6_up = refl

h7_too_deep : status (nested (over 1 3)) [] 7 ≡ false
unfolding numbers status
h7_too_deep = refl

-- ---- sets

abbrev name : ℕ → List (List ℕ)
name i = (i ∷ []) ∷ codes "example" ∷ []

abbrev values : Body
values = body.Values 300 []

abbrev a_set : (name : List (List ℕ)) → (ident : List ℕ) → Body → Option ℕ → RecordSet
a_set its ident its_body check = record {
  name = its;
  rtype = rtype.A;
  routing = routing.Weighted ident 1;
  body = its_body;
  check = check;
}

-- h1, and h2 which is inverted
abbrev two_checks : List (ℕ × Check)
two_checks = (1, Endpoint 1 false false) ∷ (2, Endpoint 1 true false) ∷ []

-- a group of one healthy and one unhealthy set, and an alias to it
abbrev healthy_one : RecordSet
healthy_one = a_set (name 1) (codes "a") values None

abbrev unhealthy_one : RecordSet
unhealthy_one = a_set (name 1) (codes "b") values (Some 1)

abbrev x_with : Option ℕ → Bool → RecordSet
x_with check evaluate = a_set (name 2) (codes "x") (body.Alias (name 1) evaluate) check

abbrev zone_of : List RecordSet → Watched
zone_of sets = record { zones = (7, sets) ∷ []; checks = two_checks }

some_healthy : healthy (zone_of (healthy_one ∷ unhealthy_one ∷ x_with None true ∷ [])) down 7
    (x_with None true) ≡ true
unfolding numbers status healthy
some_healthy = refl

-- with a check of its own that is unhealthy
own_unhealthy : healthy (zone_of (healthy_one ∷ unhealthy_one ∷ x_with (Some 1) true ∷ [])) down 7
    (x_with (Some 1) true) ≡ false
unfolding numbers status healthy
own_unhealthy = refl

-- all sets of the target group unhealthy: an evaluated alias is, one that isn't evaluated isn't
evaluated : healthy (zone_of (unhealthy_one ∷ x_with None true ∷ [])) down 7 (x_with None true)
    ≡ false
unfolding numbers status healthy
evaluated = refl

not_evaluated : healthy (zone_of (unhealthy_one ∷ x_with None false ∷ [])) down 7
    (x_with None false) ≡ true
unfolding numbers status healthy
not_evaluated = refl

-- the check of an alias counts also where its target isn't evaluated
checked_alias : healthy (zone_of (healthy_one ∷ x_with (Some 1) false ∷ [])) down 7
    (x_with (Some 1) false) ≡ false
unfolding numbers status healthy
checked_alias = refl

-- the target group is one of the alias's own zone
other_zone : healthy (record {
  zones = (6, healthy_one ∷ []) ∷ (7, x_with None true ∷ []) ∷ [];
  checks = two_checks;
}) [] 7 (x_with None true) ≡ false
unfolding numbers status healthy
other_zone = refl

all_healthy_sets : healthy_sets (record {
  zones = (6, healthy_one ∷ []) ∷ (7, unhealthy_one ∷ x_with (Some 2) false ∷ []) ∷ [];
  checks = two_checks;
}) down ≡ (6, key_of healthy_one) ∷ []
unfolding numbers status healthy
all_healthy_sets = refl

-- ci is an evaluated alias to c(i-1), and c0 is none
abbrev link : ℕ → RecordSet
link i = a_set (name (suc i)) (codes "c") (body.Alias (name i) true) None

abbrev chain : ℕ → Option ℕ → List RecordSet
chain zero check = a_set (name zero) (codes "c") values check ∷ []
chain (suc i) check = link i ∷ chain i check

-- c16 to c0
sixteen : healthy (zone_of (chain 16 None)) [] 7 (link 15) ≡ true
unfolding numbers status healthy
sixteen = refl

sixteen_down : healthy (zone_of (chain 16 (Some 1))) down 7 (link 15) ≡ false
unfolding numbers status healthy
sixteen_down = refl

-- c17 would be one too many, which no command leaves
seventeen : healthy (zone_of (chain 17 None)) [] 7 (link 16) ≡ false
unfolding numbers status healthy
seventeen = refl

-- ---- nodes

set_feeders : feeders (zone_of (healthy_one ∷ unhealthy_one ∷ x_with (Some 1) true ∷ []))
    (SetNode 7 (x_with (Some 1) true))
    ≡ CheckNode 1 ∷ GroupNode 7 (name 1) rtype.A ∷ []
set_feeders = refl

no_target_feeds : feeders (zone_of (healthy_one ∷ x_with (Some 1) false ∷ []))
    (SetNode 7 (x_with (Some 1) false)) ≡ CheckNode 1 ∷ []
no_target_feeds = refl

group_feeders : feeders (zone_of (healthy_one ∷ unhealthy_one ∷ x_with None true ∷ []))
    (GroupNode 7 (name 1) rtype.A) ≡ SetNode 7 healthy_one ∷ SetNode 7 unhealthy_one ∷ []
group_feeders = refl

check_feeders : feeders (record { zones = []; checks = nested (over 1 3) }) (CheckNode 4)
    ≡ CheckNode 3 ∷ []
check_feeders = refl

group_is_healthy : truth (zone_of (healthy_one ∷ unhealthy_one ∷ [])) down
    (GroupNode 7 (name 1) rtype.A) ≡ true
unfolding numbers status healthy
group_is_healthy = refl

-- from h1 to a set that names it, and on to the set's group
abbrev one_zone : Watched
one_zone = zone_of (unhealthy_one ∷ [])

reached : Reaches one_zone 2 (CheckNode 1) (GroupNode 7 (name 1) rtype.A)
reached = (
  (unhealthy_one, inl refl),
  (
    SetNode 7 unhealthy_one,
    (0, omega arith, refl),
    (inl refl, (CheckNode 1, (0, omega arith, refl), refl)),
  ),
)

-- a set that no zone has is no node, and neither is a group without sets
no_node : IsNode one_zone (SetNode 7 healthy_one) → ⊥
no_node (inl is) =
    let differ : Some 1 ≡ None = ap (λ (one : RecordSet). one.check) is in
    none-some 1 (sym differ)
no_node (inr m) = m

no_group_node : IsNode one_zone (GroupNode 7 (name 2) rtype.A) → ⊥
no_group_node (one, m) = m
