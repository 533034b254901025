-- The lines that ask, serve and compact: Query, Bind, Serve and Compact (own).
use Rattle.std.specs.Prelude.{ℕ, ◌-◌, ◌^◌, List, [], ◌∷◌, length, nat_le, if◌then◌else◌, unwrap_or, Result, Ok, Err}
use Rattle.prefix_text.specs.IpAddressRecord.{IpAddress}
use Rattle.prefix_text.specs.Prefixes.{address_of_text}
use Rattle.hex.specs.Hex.{decode_of}
use Rattle.hex.specs.declared.error.FromHexError.{FromHexError}
use Rattle.serde_json.specs.Data.{Data}
use Rattle.line_reading.specs.Reading.{◌>>=◌, object, required, optional, or_bad, bad, each}
use Rattle.line_reading.specs.Kinds.{text, number, list}
use Rattle.line_faults.specs.declared.member.Member.{Member}
use Rattle.line_faults.specs.declared.member.Member.TheVariants as m
use Rattle.line_faults.specs.declared.fault.LineFault.{LineFault}
use Rattle.line_faults.specs.declared.fault.LineReason.TheVariants.{BadAddress, BadHex}
use Rattle.query_lines.specs.declared.queries.QueryLine.{QueryLine}
use Rattle.query_lines.specs.declared.serving.Ports.{Ports}

-- the most hexadecimal digits of a packet, which has at most 65,535 octets
abbrev pub most_digits : ℕ
most_digits = 131070

abbrev pub or_bad_hex : {A : Type 0} → Member → Result A FromHexError → Result A LineFault
or_bad_hex h (Ok x) = Ok x
or_bad_hex h (Err e) = bad BadHex h

-- digits of either case, an even number of them
abbrev pub octets_of : Member → List ℕ → Result (List ℕ) LineFault
octets_of h s = if nat_le (length s) most_digits then or_bad_hex h (decode_of s) else bad BadHex h

unfoldable pub packet : Member → Data → Result (List ℕ) LineFault
packet h d = text h d >>= octets_of h

-- an address of either version
unfoldable pub address : Member → Data → Result IpAddress LineFault
address h d = text h d >>= λ s. or_bad (address_of_text s) BadAddress h

-- exactly eight numbers below 2^64
unfoldable pub words : Member → Data → Result (List ℕ) LineFault
words h d = list 8 8 h d >>= each (λ _. number 0 (2 ^ 64 - 1) h) 0

abbrev pub eight_zeros : List ℕ
eight_zeros = 0 ∷ 0 ∷ 0 ∷ 0 ∷ 0 ∷ 0 ∷ 0 ∷ 0 ∷ []

unfoldable pub query : Data → Result QueryLine LineFault
query o = do
  _ ← object m.Query [] (m.Packet ∷ m.Address ∷ m.Words ∷ []) o
  octets ← required m.Packet packet o
  peer ← required m.Address address o
  eight ← optional m.Words words o
  Ok (record { packet = octets; address = peer; words = unwrap_or eight eight_zeros })

unfoldable pub bind : Data → Result Ports LineFault
bind o = do
  _ ← object m.Bind [] (m.QueryPort ∷ m.ReportPort ∷ []) o
  queries ← required m.QueryPort (number 0 65535) o
  reports ← required m.ReportPort (number 0 65535) o
  Ok (record { queries = queries; reports = reports })

unfoldable pub serve : Data → Result ℕ LineFault
serve o = do
  _ ← object m.Serve [] (m.Turns ∷ []) o
  required m.Turns (number 1 1000000) o

unfoldable pub compact : Data → Result ℕ LineFault
compact o = do
  _ ← object m.Compact [] (m.Pieces ∷ []) o
  required m.Pieces (number 1 1000000) o
