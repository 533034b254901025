-- The packet of a query.
use Rattle.std.specs.Prelude.{ℕ, ◌+◌, ◌/◌, List, [], ◌∷◌, ◌++◌, length, take, Bool, true, false}
use Rattle.std.specs.Prelude.{Option, None, Some}
use Rattle.address_text.specs.declared.address.IpAddress.{IpAddress}
use Rattle.address_text.specs.declared.address.IpAddress.TheVariants.{V4, V6}
use Rattle.dns_name.specs.Labels.{wire}
use Rattle.ip_table.specs.Prefixes.{Prefix}
use Rattle.octets.specs.Numbers.{two_octets}
use Rattle.scenario_words.specs.declared.asking.Opt.{Opt}
use Rattle.scenario_words.specs.declared.asking.Query.{Query}

-- id 1234, RD, one question and so many additional records (RFC 1035, 4.1.1)
abbrev pub header : (additional : ℕ) → List ℕ
header additional =
    0x12 ∷ 0x34 ∷ 1 ∷ 0 ∷ 0 ∷ 1 ∷ 0 ∷ 0 ∷ 0 ∷ 0 ∷ 0 ∷ additional ∷ []

-- the name, the type and class IN (RFC 1035, 4.1.2)
abbrev pub question : (name : List (List ℕ)) → (qtype : ℕ) → List ℕ
question name qtype = wire name ++ two_octets qtype ++ 0 ∷ 1 ∷ []

-- how many octets hold so many bits
abbrev pub octets_for : (bits : ℕ) → ℕ
octets_for bits = (bits + 7) / 8

-- the client subnet option of a family: the bits that count, none for the scope, and the octets that
-- hold them (RFC 7871, 6)
abbrev pub subnet_option : (family bits : ℕ) → (octets : List ℕ) → List ℕ
subnet_option family bits octets =
    0 ∷ 8 ∷ 0 ∷ (4 + octets_for bits) ∷ 0 ∷ family ∷ bits ∷ 0 ∷ take (octets_for bits) octets

abbrev pub subnet_of : IpAddress → (bits : ℕ) → List ℕ
subnet_of (V4 octets) bits = subnet_option 1 bits octets
subnet_of (V6 octets) bits = subnet_option 2 bits octets

abbrev pub options : Option Prefix → List ℕ
options None = []
options (Some prefix) = subnet_of prefix.address prefix.length

-- the flag DO (RFC 6891, 6.1.4)
abbrev pub flags : (dnssec : Bool) → ℕ
flags true = 0x80
flags false = 0

-- the OPT record: its name is the root's, the size stands in the place of a class, the version and the
-- flags in that of a TTL (RFC 6891, 6.1.2 and 6.1.3)
abbrev pub opt_record : Opt → List ℕ
opt_record opt = 0 ∷ 0 ∷ 41 ∷ two_octets opt.size
    ++ 0 ∷ opt.version ∷ flags opt.dnssec ∷ 0 ∷ 0 ∷ length (options opt.subnet)
    ∷ options opt.subnet

abbrev pub packet_with : (name : List (List ℕ)) → (qtype : ℕ) → Option Opt → List ℕ
packet_with name qtype None = header 0 ++ question name qtype
packet_with name qtype (Some opt) = header 1 ++ question name qtype ++ opt_record opt

abbrev pub packet : Query → List ℕ
packet query = packet_with query.name query.qtype query.opt
