-- The values of members, by their kinds.
use Rattle.std.specs.Prelude.{◌≡◌, ℕ, ◌+◌, ◌*◌, ◌-◌, List, [], ◌∷◌, take, drop, codes, Bool, ◌&&◌}
use Rattle.std.specs.Prelude.{◌==◌, nat_le, nat_lt, if◌then◌else◌, Option, Result, Ok, Err}
use Rattle.std.specs.Prelude.{option_and_then}
use Rattle.std.specs.Str.{bytes_eq}
use Rattle.std.specs.Borrow.{Bor}
use Rattle.serde_json.specs.Data.{Data, Items}
use Rattle.serde_json.specs.Find.{as_number, as_u64, as_bool, as_str, as_array}
use Rattle.serde_json.specs.Events.{items_len}
use Rattle.dns_name.specs.Text.{name_of_text}
use Rattle.dns_name.specs.declared.fault.NameFault.{NameFault}
use Rattle.line_reading.specs.Reading.{◌>>=◌, or_bad, bad}
use Rattle.line_faults.specs.declared.member.Member.{Member}
use Rattle.line_faults.specs.declared.fault.LineReason.TheVariants.{WrongKind, OutOfRange, BadName}
use Rattle.line_faults.specs.declared.fault.LineFault.{LineFault}

-- a text
abbrev pub text : Member → Data → Result (List ℕ) LineFault
text m d = or_bad (as_str d) WrongKind m

-- a name
abbrev pub or_bad_name : {A : Type 0} → Member → Result A NameFault → Result A LineFault
or_bad_name m (Ok x) = Ok x
or_bad_name m (Err e) = bad BadName m

unfoldable pub name : Member → Data → Result (List (List ℕ)) LineFault
name m d = text m d >>= λ s. or_bad_name m (name_of_text s)

-- true or false
unfoldable pub flag : Member → Data → Result Bool LineFault
flag m d = or_bad (as_bool d) WrongKind m

-- a number that is written with digits alone, below 2^64 and in the range
unfoldable pub number : (low high : ℕ) → Member → Data → Result ℕ LineFault
number low high m d = do
  n ← or_bad (option_and_then as_u64 (as_number d)) WrongKind m
  if nat_le low n && nat_le n high then Ok n else bad OutOfRange m

-- one of a list of words, by what it stands for
unfoldable pub one_of_texts : {A : Type 0} → (List ℕ → Option A) → Member → Data → Result A LineFault
one_of_texts meant m d = text m d >>= λ s. or_bad (meant s) OutOfRange m

-- the number that digits spell behind those that were read before them: 1 to 4,294,967,294
-- without leading zeros, or 0
abbrev pub number_of_digits : ℕ → List ℕ → ℕ
number_of_digits n [] = n
number_of_digits n (d ∷ ds) =
    if nat_le 48 d && nat_le d 57 && nat_lt 0 (n * 10 + (d - 48))
    && nat_le (n * 10 + (d - 48)) 4294967294 then number_of_digits (n * 10 + (d - 48)) ds else 0

-- the number of an id, a letter and a number; other texts are number 0
abbrev pub id_of : ℕ → List ℕ → ℕ
id_of letter [] = 0
id_of letter (c ∷ digits) = if c == letter then number_of_digits 0 digits else 0

-- the id of a check
unfoldable pub check_id : Member → Data → Result ℕ LineFault
check_id m d = text m d >>= λ s. Ok (id_of 104 s)

-- the id of a collection
unfoldable pub collection_id : Member → Data → Result ℕ LineFault
collection_id m d = text m d >>= λ s. Ok (id_of 99 s)

-- the id of a zone, which may stand behind a prefix
abbrev pub prefix : List ℕ
prefix = codes "/hostedzone/"

abbrev pub without_prefix : List ℕ → List ℕ
without_prefix s = if bytes_eq (take 12 s) prefix then drop 12 s else s

unfoldable pub zone_id : Member → Data → Result ℕ LineFault
zone_id m d = text m d >>= λ s. Ok (id_of 90 (without_prefix s))

-- a list, of so many items
unfoldable pub list : (low high : ℕ) → Member → Data → Result Items LineFault
list low high m d = do
  items ← or_bad (as_array d) WrongKind m
  if nat_le low (items_len items) && nat_le (items_len items) high then Ok items
      else bad OutOfRange m

-- what a function returns of a word is what the word means
abbrev pub MeansWord : {A : Type 0} → (Bor (List ℕ) → Option A → Type 0) → (List ℕ → Option A)
    → Type 0
MeansWord {A} gives meant = (s : Bor (List ℕ)) (r : Option A) → gives s r → r ≡ meant s.now
