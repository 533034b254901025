-- A test of layouts: whether octets are a value of a type, told from their front on.
use Rattle.std.specs.Prelude.{ℕ, zero, suc, ◌-◌, List, [], ◌∷◌, length, take, drop, Bool, true}
use Rattle.std.specs.Prelude.{false, ◌&&◌, nat_le, nat_lt, ◌==◌}
use Rattle.std.specs.Prelude.{Option, None, Some, if◌then◌else◌}
use Rattle.std.specs.List.{list_all}
use Rattle.rdata_layout.specs.declared.types.RType.{RType}
use Rattle.rdata_layout.specs.declared.fields.Field.{Field}
use Rattle.rdata_layout.specs.declared.fields.Field.TheVariants as field
use Rattle.rdata_layout.specs.declared.fields.Tail.{Tail}
use Rattle.rdata_layout.specs.declared.fields.Tail.TheVariants as tail
use Rattle.rdata_layout.specs.Fields.{is_letter_or_digit}
use Rattle.rdata_layout.specs.Layout.{fields_of, tail_of, most_octets}
use Rattle.octet_reading.specs.declared.names.NameRead.{NameRead}
use Rattle.octet_reading.specs.declared.names.NameRead.TheVariants.{Whole, Short, Broken}
use Rattle.octet_reading.specs.Names.{name_read}

-- what stands behind so many octets, where they are there
abbrev pub behind_octets : ℕ → List ℕ → Option (List ℕ)
behind_octets n octets = if nat_lt (length octets) n then None else Some (drop n octets)

-- what stands behind a name
abbrev pub behind_name : List ℕ → NameRead → Option (List ℕ)
behind_name octets (Whole left) = Some (drop (length octets - left) octets)
behind_name octets Short = None
behind_name octets Broken = None

-- what stands behind a tag: its length, and 1 to 15 letters and digits
abbrev pub behind_tag : List ℕ → Option (List ℕ)
behind_tag [] = None
behind_tag (n ∷ octets) =
    if nat_le 1 n && nat_le n 15 && nat_le n (length octets)
    && list_all is_letter_or_digit (take n octets) then Some (drop n octets) else None

-- what stands behind the field that octets begin with
abbrev pub behind_field : Field → List ℕ → Option (List ℕ)
behind_field field.Ipv4 octets = behind_octets 4 octets
behind_field field.Ipv6 octets = behind_octets 16 octets
behind_field field.Name octets = behind_name octets (name_read octets)
behind_field field.Number8 octets = behind_octets 1 octets
behind_field field.Number16 octets = behind_octets 2 octets
behind_field field.Number32 octets = behind_octets 4 octets
behind_field field.Tag octets = behind_tag octets

-- strings, where `need` octets of the first are still to come
abbrev pub are_strings : ℕ → List ℕ → Bool
are_strings zero [] = true
are_strings (suc need) [] = false
are_strings zero (n ∷ octets) = are_strings n octets
are_strings (suc need) (b ∷ octets) = are_strings need octets

abbrev pub is_tail : Tail → List ℕ → Bool
is_tail tail.Nothing octets = length octets == 0
is_tail tail.Strings octets = nat_lt 0 (length octets) && are_strings 0 octets
is_tail tail.Value octets = nat_le (length octets) 255

abbrev pub holds_of : Option (List ℕ) → (List ℕ → Bool) → Bool
holds_of None test = false
holds_of (Some rest) test = test rest

-- these fields one after another, and then the tail
abbrev pub are_fields : List Field → Tail → List ℕ → Bool
are_fields [] end octets = is_tail end octets
are_fields (first ∷ fields) end octets =
    holds_of (behind_field first octets) (are_fields fields end)

unfoldable pub is_layout : RType → List ℕ → Bool
is_layout type octets =
    nat_le (length octets) most_octets && are_fields (fields_of type) (tail_of type) octets
