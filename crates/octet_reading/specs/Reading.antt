-- Reading octets from left to right, with the first fault that is met. A fault is the number of
-- octets that stand from its place on: 0 where octets are missing, and all octets that are left
-- where the field that they begin with is faulty.
use Rattle.std.specs.Prelude.{◌≡◌, ℕ, zero, suc, ◌+◌, ◌*◌, List, [], ◌∷◌, length, Bool, true}
use Rattle.std.specs.Prelude.{false, Result, Ok, Err, ⊤}
use Rattle.octet_reading.specs.declared.stop.Fault.{Fault}
use Rattle.octet_reading.specs.declared.stop.Stop.{Stop}
use Rattle.octet_reading.specs.declared.stop.Stop.TheVariants as stop

-- one field after another
infixl 10 ◌>>=◌
abbrev pub ◌>>=◌ : {A B : Type 0} → Result A ℕ → (A → Result B ℕ) → Result B ℕ
(Ok x) >>= f = f x
(Err left) >>= f = Err left

-- What a function that takes no memory returned, seen by view, is what reading gives.
abbrev pub Gives : {X Y : Type 0} → (X → Y) → Result X Fault → Result Y ℕ → Type 0
Gives view (Ok x) read = read ≡ Ok (view x)
Gives view (Err fault) read = read ≡ Err fault.0

-- The same of a function that takes memory: it may also stop since there was none.
abbrev pub Stops : {Y : Type 0} → Stop → Result Y ℕ → Type 0
Stops (stop.Bad left) read = read ≡ Err left
Stops stop.OutOfMemory read = ⊤

abbrev pub GivesOrStops : {X Y : Type 0} → (X → Y) → Result X Stop → Result Y ℕ → Type 0
GivesOrStops view (Ok x) read = read ≡ Ok (view x)
GivesOrStops view (Err e) read = Stops e read

-- A field is a value and the octets behind it. Numbers have their highest octet first.
abbrev pub octet_at : List ℕ → Result (ℕ × List ℕ) ℕ
octet_at [] = Err 0
octet_at (n ∷ rest) = Ok (n, rest)

abbrev pub two_at : List ℕ → Result (ℕ × List ℕ) ℕ
two_at (a ∷ b ∷ rest) = Ok (a * 256 + b, rest)
two_at (a ∷ []) = Err 0
two_at [] = Err 0

abbrev pub four_at : List ℕ → Result (ℕ × List ℕ) ℕ
four_at (a ∷ b ∷ c ∷ d ∷ rest) = Ok (a * 16777216 + b * 65536 + c * 256 + d, rest)
four_at (a ∷ b ∷ c ∷ []) = Err 0
four_at (a ∷ b ∷ []) = Err 0
four_at (a ∷ []) = Err 0
four_at [] = Err 0

-- a flag of one octet, 0 or 1
abbrev pub flag_at : List ℕ → Result (Bool × List ℕ) ℕ
flag_at [] = Err 0
flag_at (zero ∷ rest) = Ok (false, rest)
flag_at (suc zero ∷ rest) = Ok (true, rest)
flag_at (suc (suc n) ∷ rest) = Err (length rest + 1)
