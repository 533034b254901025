-- Octets that are fields, one behind another, and how reading stops at one of them.
use Rattle.std.specs.Prelude.{◌≡◌, ℕ, ◌+◌, ◌*◌, ◌<◌, ◌≤◌, ◌⊎◌, List, [], ◌∷◌, ◌++◌, length, ⊤}
use Rattle.std.specs.List.{flat_map}

-- How the end of a field is known.
pub data Ending : Type 0 where
  -- what stands before it says how many octets it has
  Sized : Ending
  -- its own octets say it, from left to right: a name, a text behind its length, the letters of a
  -- country
  Open : Ending
  -- it begins with the number of its other octets, in two octets: a value
  Counted : Ending

pub record Field : Type 0 where
  pub ending : Ending
  pub octets : List ℕ

-- fields, one behind another
abbrev pub spelling : List Field → List ℕ
spelling fields = flat_map (λ (field : Field). field.octets) fields

-- One of the fields stands behind these octets: they are the fields before it.
pub record StandsBehind (before : List ℕ) (field : Field) (fields : List Field) : Type 0 where
  pub front : List Field
  pub others : List Field
  pub parts : fields ≡ front ++ field ∷ others
  pub are_before : before ≡ spelling front

-- Fewer octets than the number in two octets that they begin with; or not even that number.
abbrev pub IsCutOff : List ℕ → Type 0
IsCutOff [] = ⊤
IsCutOff (a ∷ []) = ⊤
IsCutOff (a ∷ b ∷ rest) = length rest < a * 256 + b

-- Octets are missing, where a field as this one should stand: there are too few for one; or they
-- go on to this very field.
abbrev pub IsMissing : Ending → (field here : List ℕ) → Type 0
IsMissing Sized field here = length here < length field
IsMissing Open field here = (more : List ℕ) × (0 < length more) × (here ++ more ≡ field)
IsMissing Counted field here = IsCutOff here

-- There are enough to see that no field stands there.
abbrev pub IsThere : Ending → (field here : List ℕ) → Type 0
IsThere Sized field here = length field ≤ length here
IsThere Open field here = ⊤
IsThere Counted field here = IsCutOff here → ⊥

-- what stands in a field before the place at which its fault is told
abbrev pub led_by : Ending → ℕ
led_by Sized = 0
led_by Open = 0
led_by Counted = 2

-- Nothing of this kind goes on with what stands here.
pub record NoneFits {A : Type 0} (is : A → Type 0) (fields_of : A → List Field)
    (before here : List ℕ) : Type 0 where
  -- no field that could stand behind those before it agrees with what stands there, and with more
  pub field : (x : A) (field : Field) (more rest : List ℕ) → is x
      → StandsBehind before field (fields_of x)
      → here ++ more ≡ field.octets ++ rest → ⊥
  -- and none at all begins with these octets, and more
  pub whole : (x : A) (more rest : List ℕ) → is x
      → (before ++ here) ++ more ≡ spelling (fields_of x) ++ rest → ⊥

-- Why reading stops: octets are missing, and that is told behind the last; or what stands there is
-- no field, and that is told at its first octet, for a value at the first behind the number.
abbrev pub Stops : Ending → (field here : List ℕ) (left : ℕ) (none : Type 0) → Type 0
Stops ending field here left none =
    ((left ≡ 0) × IsMissing ending field here)
    ⊎ ((left + led_by ending ≡ length here) × IsThere ending field here × none)

-- Reading octets of this kind stops, and so many octets stand from the fault on: the octets are
-- whole fields, one behind another, that go on to something of the kind; and then what stands here,
-- where it has the next field, and where reading stops.
pub record StopsIn {A : Type 0} (is : A → Type 0) (fields_of : A → List Field) (octets : List ℕ)
    (left : ℕ) : Type 0 where
  pub before : List ℕ
  pub here : List ℕ
  pub value : A
  pub good : is value
  pub field : Field
  pub stands : StandsBehind before field (fields_of value)
  pub parts : octets ≡ before ++ here
  pub why : Stops field.ending field.octets here left (NoneFits is fields_of before here)
