-- The texts of names (RFC 1035, 5.1; FORMATS, Texts of names).
use Rattle.std.specs.Prelude.{ℕ, zero, suc, ◌+◌, List, [], ◌∷◌, ◌++◌, length, Bool, ◌&&◌, ◌==◌}
use Rattle.std.specs.Prelude.{nat_le, nat_lt, if◌then◌else◌, Result, Ok, Err}
use Rattle.std.specs.Str.{bytes_eq}
use Rattle.std.specs.Result.{result_map_both}
use Rattle.octets.specs.Octal.{has_octal, octal_of}
use Rattle.dns_name.specs.Labels.{wire, lowered}
use Rattle.dns_name.specs.declared.fault.NameFault.{NameFault}
use Rattle.dns_name.specs.declared.fault.NameFault.TheVariants.{BadEscape, LabelTooLong}
use Rattle.dns_name.specs.declared.fault.NameFault.TheVariants.{NameTooLong, EmptyLabel}
use Rattle.dns_name.specs.declared.fault.NameFault.TheVariants.{BadByte}

-- `.` and the backslash
abbrev pub dot : ℕ
dot = 0x2E

abbrev pub backslash : ℕ
backslash = 0x5C

-- printable ASCII without the space
abbrev pub is_graphic : ℕ → Bool
is_graphic b = nat_le 0x21 b && nat_le b 0x7E

-- How far a text is read: behind whole labels and a part of the next, where so many bytes of an
-- escape are still to be passed over; or stopped at the first fault.
pub data Progress : Type 0 where
  Reading : (passing : ℕ) (done : List (List ℕ)) (label : List ℕ) → Progress
  Stopped : NameFault → Progress

-- a character of this value, and so many bytes of it behind the first
abbrev pub add_character : (done : List (List ℕ)) (label : List ℕ) (at value more : ℕ) → Progress
add_character done label at value more =
    if nat_le 63 (length label) then Stopped (LabelTooLong at)
    else if nat_lt 255 (length (wire (done ++ (label ++ value ∷ []) ∷ [])))
    then Stopped (NameTooLong at)
    else Reading more done (label ++ value ∷ [])

-- the dot behind a label
abbrev pub end_label : (done : List (List ℕ)) (label : List ℕ) (at : ℕ) → Progress
end_label done [] at = Stopped (EmptyLabel at)
end_label done (b ∷ label) at = Reading 0 (done ++ (b ∷ label) ∷ []) []

-- the byte at a place, with what stands behind it
abbrev pub take_byte : (done : List (List ℕ)) (label : List ℕ) (at b : ℕ) (rest : List ℕ) → Progress
take_byte done label at b rest =
    if b == dot then end_label done label at
    else if b == backslash
    then (if has_octal rest then add_character done label at (octal_of rest) 3 else Stopped (BadEscape at))
    else if is_graphic b then add_character done label at b 0
    else Stopped (BadByte at)

abbrev pub after_byte : Progress → (at b : ℕ) (rest : List ℕ) → Progress
after_byte (Reading zero done label) at b rest = take_byte done label at b rest
after_byte (Reading (suc passing) done label) at b rest = Reading passing done label
after_byte (Stopped fault) at b rest = Stopped fault

-- from a place on
abbrev pub read_from : Progress → (at : ℕ) → List ℕ → Progress
read_from progress at [] = progress
read_from progress at (b ∷ rest) = read_from (after_byte progress at b rest) (at + 1) rest

-- at the end of a text: the label so far is the last, and behind a dot there is none more
abbrev pub ended : (done : List (List ℕ)) (label : List ℕ) (at : ℕ)
    → Result (List (List ℕ)) NameFault
ended [] [] at = Err (EmptyLabel at)
ended (first ∷ done) [] at = Ok (first ∷ done)
ended done (b ∷ label) at = Ok (done ++ (b ∷ label) ∷ [])

abbrev pub at_the_end : Progress → (at : ℕ) → Result (List (List ℕ)) NameFault
at_the_end (Reading passing done label) at = ended done label at
at_the_end (Stopped fault) at = Err fault

-- the text of the root, a dot alone
abbrev pub root_text : List ℕ
root_text = dot ∷ []

-- the labels of a text as it spells them, or its first fault
abbrev pub labels_of_text : List ℕ → Result (List (List ℕ)) NameFault
labels_of_text text =
    if bytes_eq text root_text then Ok []
    else at_the_end (read_from (Reading 0 [] []) 0 text) (length text)

-- the same with the labels in lower case
abbrev pub name_of_text : List ℕ → Result (List (List ℕ)) NameFault
name_of_text text = result_map_both lowered (λ fault. fault) (labels_of_text text)
