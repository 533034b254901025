-- The octets of a field's text, where it spells a field of that kind (FORMATS, Texts of values).
use Rattle.std.specs.Prelude.{ℕ, List, [], ◌∷◌, length, ◌&&◌, nat_lt, nat_le, if◌then◌else◌, Option, None, Some, option_map, Result, Ok, Err}
use Rattle.std.specs.List.{list_all}
use Rattle.octets.specs.Numbers.{two_octets, four_octets}
use Rattle.rdata_layout.specs.Labels.{wire}
use Rattle.rdata_layout.specs.Text.{name_of_text}
use Rattle.rdata_layout.specs.NameFaultRecord.{NameFault}
use Rattle.rdata_layout.specs.Fields.{is_letter_or_digit}
use Rattle.rdata_layout.specs.declared.fields.Field.{Field}
use Rattle.rdata_layout.specs.declared.fields.Field.TheVariants as field
use Rattle.value_text.specs.Numbers.{number}
use Rattle.address_text.specs.AddressOfText.{ipv4_of, ipv6_of}

-- the octets of the name that was read
abbrev pub name_octets : Result (List (List ℕ)) NameFault → Option (List ℕ)
name_octets (Ok labels) = Some (wire labels)
name_octets (Err fault) = None

-- 1 to 15 letters and digits, behind their number (RFC 8659, 4.1)
abbrev pub tag_octets : List ℕ → Option (List ℕ)
tag_octets text =
    if nat_lt 0 (length text) && nat_le (length text) 15 && list_all is_letter_or_digit text
    then Some (length text ∷ text) else None

abbrev pub octets_of_text : Field → List ℕ → Option (List ℕ)
octets_of_text field.Ipv4 text = ipv4_of text
octets_of_text field.Ipv6 text = ipv6_of text
octets_of_text field.Name text = name_octets (name_of_text text)
octets_of_text field.Number8 text = option_map (λ n. n ∷ []) (number 255 text)
octets_of_text field.Number16 text = option_map two_octets (number 65535 text)
octets_of_text field.Number32 text = option_map four_octets (number 4294967295 text)
octets_of_text field.Tag text = tag_octets text
