-- The definitions at values from outside: the rules' own examples.
use Rattle.std.proofs.Common.{◌≡◌, true, false, refl}
use Rattle.calculated_health.specs.Status.{checkers, endpoint_status, calculated_status}

-- fifty checkers, all of which see a pass at first
fifty : checkers ≡ 50
fifty = refl

new_one : endpoint_status 50 false ≡ true
new_one = refl

new_inverted : endpoint_status 50 true ≡ false
new_inverted = refl

-- nine of fifty are 18 per cent and not more
nine : endpoint_status 9 false ≡ false
nine = refl

ten : endpoint_status 10 false ≡ true
ten = refl

nine_inverted : endpoint_status 9 true ≡ true
nine_inverted = refl

none : endpoint_status 0 false ≡ false
none = refl

-- one child: a threshold of 0 is met whether it is healthy or not, one of 2 never
zero_of_none : calculated_status 0 0 false ≡ true
zero_of_none = refl

zero_of_one : calculated_status 1 0 false ≡ true
zero_of_one = refl

one_of_one : calculated_status 1 1 false ≡ true
one_of_one = refl

one_of_none : calculated_status 0 1 false ≡ false
one_of_none = refl

two_of_one : calculated_status 1 2 false ≡ false
two_of_one = refl

two_of_one_inverted : calculated_status 1 2 true ≡ true
two_of_one_inverted = refl

-- 255 children, the most that there can be, and a threshold of 256
never : calculated_status 255 256 false ≡ false
never = refl

all : calculated_status 255 255 false ≡ true
all = refl
