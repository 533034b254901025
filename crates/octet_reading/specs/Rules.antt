-- What a reader reads, and how that follows for readers that are built from readers.
use Rattle.std.specs.Prelude.{◌≡◌, ℕ, ◌<◌, ◌≤◌, ◌^◌, List, [], ◌∷◌, ◌++◌, length, Bool, true}
use Rattle.std.specs.Prelude.{false, Option, None, Some, Result, Ok, Err, ⊤}
use Rattle.std.specs.List.{AllByRecursion, flat_map}
use Rattle.octets.specs.Numbers.{two_octets, four_octets}
use Rattle.rdata_layout.specs.Labels.{wire}
use Rattle.rdata_layout.specs.Names.{AreOctets, IsName}
use Rattle.octet_reading.specs.Names.{name_at}
use Rattle.octet_reading.specs.Readers.{Reader}
use Rattle.octet_reading.specs.Reading.{octet_at, two_at, four_at, flag_at}

-- A field that is read as it is written, and as nothing else: what it may be, its octets, and how
-- it is read.
pub record IsReadAs {A : Type 0} (is : A → Type 0) (octets_of : A → List ℕ) (read : Reader A)
    : Type 0 where
  -- what is written is read again, whatever follows it
  pub again : (x : A) (rest : List ℕ) → is x → read (octets_of x ++ rest) ≡ Ok (x, rest)
  -- what is read stands there
  pub stands : (octets : List ℕ) (x : A) (rest : List ℕ) → AreOctets octets
      → read octets ≡ Ok (x, rest)
      → (octets ≡ octets_of x ++ rest) × is x
  -- what is left, and what stands from a fault on, is no more than there was
  pub left : (octets : List ℕ) (x : A) (rest : List ℕ) → read octets ≡ Ok (x, rest)
      → length rest ≤ length octets
  pub fault : (octets : List ℕ) (left : ℕ) → read octets ≡ Err left → left ≤ length octets

-- What reading tells: the value that octets begin with; or a place among them, or behind the
-- last, where they begin with none.
abbrev pub Tells : {A : Type 0} → (is : A → Type 0) (octets_of : A → List ℕ) (octets : List ℕ)
    → Result (A × List ℕ) ℕ → Type 0
Tells is octets_of octets (Ok x) = (octets ≡ octets_of x.0 ++ x.1) × is x.0
Tells {A = A} is octets_of octets (Err left) =
    (left ≤ length octets) × ((x : A) (rest : List ℕ) → is x → octets ≡ octets_of x ++ rest → ⊥)

-- The same of octets that are read as a whole.
abbrev pub TellsWhole : {A : Type 0} → (is : A → Type 0) (octets_of : A → List ℕ) (octets : List ℕ)
    → Result A ℕ → Type 0
TellsWhole is octets_of octets (Ok x) = (octets ≡ octets_of x) × is x
TellsWhole {A = A} is octets_of octets (Err place) =
    (place ≤ length octets) × ((x : A) → is x → octets ≡ octets_of x → ⊥)

-- One value has one spelling, and no spelling begins another: octets begin with the spelling of
-- one value at most.
abbrev pub OneSpelling : {A : Type 0} → (is : A → Type 0) (octets_of : A → List ℕ) → Type 0
OneSpelling {A = A} is octets_of =
    (x y : A) (rest others : List ℕ) → is x → is y → octets_of x ++ rest ≡ octets_of y ++ others
    → (x ≡ y) × (rest ≡ others)

abbrev pub flag_octet : Bool → ℕ
flag_octet false = 0
flag_octet true = 1

-- a list: how many there are, and these
abbrev pub list_octets : {A : Type 0} → (A → List ℕ) → List A → List ℕ
list_octets octets_of xs = two_octets (length xs) ++ flat_map octets_of xs

pub record AreListable {A : Type 0} (is : A → Type 0) (xs : List A) : Type 0 where
  pub count : length xs < 2 ^ 16
  pub each : AllByRecursion is xs

-- a flag, and the field where it is 1
abbrev pub optional_octets : {A : Type 0} → (A → List ℕ) → Option A → List ℕ
optional_octets octets_of None = 0 ∷ []
optional_octets octets_of (Some x) = 1 ∷ octets_of x

abbrev pub WhereSome : {A : Type 0} → (A → Type 0) → Option A → Type 0
WhereSome is None = ⊤
WhereSome is (Some x) = is x

-- a text of 1 to so many bytes, each of them plain, and its octets
pub record IsTextOf (is_plain : ℕ → Bool) (most : ℕ) (text : List ℕ) : Type 0 where
  pub filled : 0 < length text
  pub short : length text ≤ most
  pub plain : AllByRecursion (λ b. is_plain b ≡ true) text

abbrev pub text_octets : List ℕ → List ℕ
text_octets text = length text ∷ text

-- the fields that readers are built from
pub record BaseFieldsAreRead : Type 0 where
  pub octets : IsReadAs (λ n. n < 2 ^ 8) (λ n. n ∷ []) octet_at
  pub twos : IsReadAs (λ n. n < 2 ^ 16) two_octets two_at
  pub fours : IsReadAs (λ n. n < 2 ^ 32) four_octets four_at
  pub flags : IsReadAs (λ flag. ⊤) (λ flag. flag_octet flag ∷ []) flag_at
  pub names : IsReadAs IsName wire name_at
