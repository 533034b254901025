-- What is left of octets, and what stands from a fault on, is no more than the octets.
use Rattle.std.proofs.Common.{ℕ, zero, suc, ◌-◌, ◌≤◌, Bool, true, false, List, [], ◌∷◌, length, drop, arith, cond, length-drop, Result, Ok, Err}
use Rattle.octet_reading.specs.declared.names.NameRead.{NameRead}
use Rattle.octet_reading.specs.declared.names.NameRead.TheVariants.{Whole, Short, Broken}
use Rattle.octet_reading.specs.Names.{name_read, named, name_at}
use Rattle.octet_reading.specs.Reading.{◌>>=◌, octet_at, two_at, four_at, flag_at}

abbrev pub IsWithin : {A : Type 0} → ℕ → Result (A × List ℕ) ℕ → Type 0
IsWithin size (Ok x) = length x.1 ≤ size
IsWithin size (Err left) = left ≤ size

pub record Within {A : Type 0} (size : ℕ) (read : Result (A × List ℕ) ℕ) : Type 0 where
  pub holds : IsWithin size read

pub ok_within : {A : Type 0} {size : ℕ} {x : A × List ℕ} → length x.1 ≤ size → Within size (Ok x)
ok_within le = record { holds = le }

pub err_within : {A : Type 0} {size left : ℕ} → left ≤ size → Within {A = A} size (Err left)
err_within le = record { holds = le }

wider : {A : Type 0} (few size : ℕ) (read : Result (A × List ℕ) ℕ) → few ≤ size → IsWithin few read
    → IsWithin size read
wider few size (Ok x) le w = omega (arith, le, w)
wider few size (Err left) le w = omega (arith, le, w)

pub widen : {A : Type 0} {few size : ℕ} {read : Result (A × List ℕ) ℕ} → few ≤ size
    → Within few read → Within size read
widen {few = few} {size = size} {read = read} le w =
    record { holds = wider few size read le w.holds }

-- a step, and one behind it
step_within : {A B : Type 0} (size : ℕ) (read : Result (A × List ℕ) ℕ) (f : A × List ℕ
    → Result (B × List ℕ) ℕ) → IsWithin size read
    → ((x : A × List ℕ) → length x.1 ≤ size → Within size (f x)) → Within size (read >>= f)
step_within size (Ok x) f w h = h x w
step_within size (Err left) f w h = record { holds = w }

pub then_within : {A B : Type 0} {size : ℕ} {read : Result (A × List ℕ) ℕ} {f : A × List ℕ
    → Result (B × List ℕ) ℕ} → Within size read
    → ((x : A × List ℕ) → length x.1 ≤ size → Within size (f x)) → Within size (read >>= f)
then_within {size = size} {read = read} {f = f} w h = step_within size read f w.holds h

pub cond_within : {A : Type 0} (b : Bool) {size : ℕ} (x y : Result (A × List ℕ) ℕ) → Within size x
    → Within size y → Within size (cond b x y)
cond_within true x y v w = v
cond_within false x y v w = w

pub drop_within : (n : ℕ) (octets : List ℕ) → length (drop n octets) ≤ length octets
drop_within n octets = omega (arith, length-drop n octets)

pub octet_within : (octets : List ℕ) → Within (length octets) (octet_at octets)
octet_within [] = record { holds = omega arith }
octet_within (n ∷ rest) = record { holds = omega arith }

pub two_within : (octets : List ℕ) → Within (length octets) (two_at octets)
two_within [] = record { holds = omega arith }
two_within (a ∷ []) = record { holds = omega arith }
two_within (a ∷ b ∷ rest) = record { holds = omega arith }

pub four_within : (octets : List ℕ) → Within (length octets) (four_at octets)
four_within [] = record { holds = omega arith }
four_within (a ∷ []) = record { holds = omega arith }
four_within (a ∷ b ∷ []) = record { holds = omega arith }
four_within (a ∷ b ∷ c ∷ []) = record { holds = omega arith }
four_within (a ∷ b ∷ c ∷ d ∷ rest) = record { holds = omega arith }

pub flag_within : (octets : List ℕ) → Within (length octets) (flag_at octets)
flag_within [] = record { holds = omega arith }
flag_within (zero ∷ rest) = record { holds = omega arith }
flag_within (suc zero ∷ rest) = record { holds = omega arith }
flag_within (suc (suc n) ∷ rest) = record { holds = omega arith }

named_within : (octets : List ℕ) (front : NameRead) → IsWithin (length octets) (named octets front)
named_within octets (Whole left) = drop_within (length octets - left) octets
named_within octets Short = omega arith
named_within octets Broken = omega arith

pub name_within : (octets : List ℕ) → Within (length octets) (name_at octets)
unfolding name_at
name_within octets = record { holds = named_within octets (name_read octets) }
