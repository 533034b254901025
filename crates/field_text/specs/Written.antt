-- The written texts of fields: one text for each field (FORMATS, Texts of values).
use Rattle.std.specs.Prelude.{ℕ, List, slice_index, drop}
use Rattle.std.specs.Fmt.{decimal}
use Rattle.std.specs.Net.Text.{ipv4_text}
use Rattle.octets.specs.Numbers.{number_at, long_at}
use Rattle.rdata_layout.specs.Stored.{labels_of}
use Rattle.rdata_layout.specs.Written.{text_of}
use Rattle.rdata_layout.specs.declared.fields.Field.{Field}
use Rattle.rdata_layout.specs.declared.fields.Field.TheVariants as field
use Rattle.address_text.specs.Spelling.{colon_hex}

-- the text that is written of a field's octets
abbrev pub text_of_field : Field → (octets : List ℕ) → List ℕ
-- dotted decimal
text_of_field field.Ipv4 octets = ipv4_text octets
-- groups in lower case, with the longest run of zeros as `::` (RFC 5952, 4)
text_of_field field.Ipv6 octets = colon_hex octets
-- the name with a dot at its end
text_of_field field.Name octets = text_of (labels_of octets)
-- decimal digits without leading zeros
text_of_field field.Number8 octets = decimal (slice_index octets 0)
text_of_field field.Number16 octets = decimal (number_at octets 0)
text_of_field field.Number32 octets = decimal (long_at octets 0)
-- the tag without its length
text_of_field field.Tag octets = drop 1 octets
