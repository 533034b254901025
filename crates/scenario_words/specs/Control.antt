-- The control line of a packet, and the packet in the line that answers it.
use Rattle.std.specs.Prelude.{◌≡◌, ℕ, List, [], ◌∷◌, ◌++◌, Option, None, Some, Ok, codes, decimal}
use Rattle.std.specs.List.{flat_map}
use Rattle.address_text.specs.declared.address.IpAddress.{IpAddress}
use Rattle.address_text.specs.declared.address.IpAddress.TheVariants.{V4, V6}
use Rattle.std.specs.Net.Text.{ipv4_text}
use Rattle.address_text.specs.Spelling.{colon_hex}
use Rattle.hex.specs.Hex.{decode_of, encode_lower}

abbrev pub address_text : IpAddress → List ℕ
address_text (V4 octets) = ipv4_text octets
address_text (V6 octets) = colon_hex octets

abbrev pub behind_comma : (number : ℕ) → List ℕ
behind_comma number = codes "," ++ decimal number

-- numbers with commas between
abbrev pub numbers_text : List ℕ → List ℕ
numbers_text [] = []
numbers_text (first ∷ more) = decimal first ++ flat_map behind_comma more

abbrev pub query_line : (packet : List ℕ) → IpAddress → (words : List ℕ) → List ℕ
query_line packet from words = codes "{\"Query\":{\"Packet\":\"" ++ encode_lower packet
    ++ codes "\",\"Address\":\"" ++ address_text from
    ++ codes "\",\"Words\":[" ++ numbers_text words ++ codes "]}}"

-- The line tells this packet, or that there is none.
abbrev pub TellsReply : (line : List ℕ) → Option (List ℕ) → Type 0
TellsReply line None = line ≡ codes "{\"Ok\":\"Query\",\"Reply\":null}"
TellsReply line (Some packet) = (digits : List ℕ)
    × (line ≡ codes "{\"Ok\":\"Query\",\"Reply\":\"" ++ digits ++ codes "\"}")
    × (decode_of digits ≡ Ok packet)
