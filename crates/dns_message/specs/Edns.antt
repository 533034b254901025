-- Extension mechanisms: the OPT record and its options (RFC 6891, 6.1), the client subnet among them (RFC 7871, 6).
use Rattle.std.specs.Prelude.{◌≡◌, ℕ, ◌+◌, ◌/◌, ◌%◌, ◌<◌, ◌≤◌, ◌==◌, List, [], ◌∷◌, length, take, drop, Bool, Option, None, Some, Ok, Err, ⊤, if◌then◌else◌}
use Rattle.std.specs.List.{filter}
use Rattle.octets.specs.Numbers.{number_at}
use Rattle.ecs_option.specs.Grammar.{Reads}
use Rattle.ecs_option.specs.declared.subnet.ClientSubnet.{ClientSubnet}
use Rattle.ecs_option.specs.declared.subnet.Malformed.{Malformed}
use Rattle.dns_message.specs.Records.{AnyRecord}
use Rattle.dns_message.specs.declared.query.Edns.{Edns}

-- An option (6.1.2): OPTION-CODE and OPTION-DATA.
pub record EdnsOption : Type 0 where
  pub code : ℕ
  pub body : List ℕ

-- the option at the front, and how many octets it has: a code, the length of the data, and those
abbrev pub option_at : List ℕ → EdnsOption
option_at octets = record { code = number_at octets 0; body = take (number_at octets 2) (drop 4 octets) }

abbrev pub option_size : List ℕ → ℕ
option_size octets = 4 + number_at octets 2

-- The octets are these options, one after another, with nothing behind them.
abbrev pub AreOptions : List ℕ → List EdnsOption → Type 0
AreOptions octets [] = octets ≡ []
AreOptions octets (first ∷ options) =
    (option_size octets ≤ length octets) × (first ≡ option_at octets)
    × AreOptions (drop (option_size octets) octets) options

-- the data of the first option with this code
abbrev pub first_body : (code : ℕ) → List EdnsOption → Option (List ℕ)
first_body code [] = None
first_body code (first ∷ options) = if first.code == code then Some first.body else first_body code options

-- the OPT records (TYPE 41) of some
abbrev pub opts_of : List AnyRecord → List AnyRecord
opts_of records = filter (λ r. r.rtype == 41) records

-- An OPT record as it has to be: its owner is the root, written as its zero octet, and its data are options (6.1.2).
pub record IsProperOpt (r : AnyRecord) : Type 0 where
  pub owner : r.owner ≡ 0 ∷ []
  pub options : List EdnsOption
  pub filled : AreOptions r.rdata options

-- One OPT record at most, as it has to be (6.1.1).
abbrev pub AreProperOpts : List AnyRecord → Type 0
AreProperOpts [] = ⊤
AreProperOpts (r ∷ []) = IsProperOpt r
AreProperOpts (r ∷ s ∷ opts) = ⊥

-- VERSION and DO, of the four octets that are an OPT record's TTL (6.1.3)
abbrev pub version_of : AnyRecord → ℕ
version_of r = r.ttl / 65536 % 256

abbrev pub dnssec_ok_of : AnyRecord → Bool
dnssec_ok_of r = r.ttl / 32768 % 2 == 1

-- The client subnet of the first option with code 8, where it is well-formed.
abbrev pub TellsSubnet : (body : Option (List ℕ)) → Option ClientSubnet → Type 0
TellsSubnet None subnet = subnet ≡ None
TellsSubnet (Some body) None = (fault : Malformed) × Reads body (Err fault)
TellsSubnet (Some body) (Some subnet) = Reads body (Ok subnet)

-- what an OPT record tells: the size of replies that the client takes, DO, and the client subnet
pub record IsEdns (r : AnyRecord) (edns : Edns) : Type 0 where
  pub size : edns.size ≡ r.class
  pub dnssec_ok : edns.dnssec_ok ≡ dnssec_ok_of r
  pub options : List EdnsOption
  pub filled : AreOptions r.rdata options
  pub subnet : TellsSubnet (first_body 8 options) edns.subnet

-- What the OPT record among these tells; nothing where there is none.
abbrev pub TellsEdns : (opts : List AnyRecord) → Option Edns → Type 0
TellsEdns [] edns = edns ≡ None
TellsEdns (r ∷ opts) None = ⊥
TellsEdns (r ∷ opts) (Some edns) = IsEdns r edns

-- A newer version than 0 is asked for.
abbrev pub HasNewVersion : (opts : List AnyRecord) → Type 0
HasNewVersion [] = ⊥
HasNewVersion (r ∷ opts) = 0 < version_of r

-- The first option with code 8 is malformed.
pub record IsMalformedOpt (r : AnyRecord) : Type 0 where
  pub options : List EdnsOption
  pub filled : AreOptions r.rdata options
  pub body : List ℕ
  pub first : first_body 8 options ≡ Some body
  pub fault : Malformed
  pub malformed : Reads body (Err fault)

abbrev pub HasMalformedSubnet : (opts : List AnyRecord) → Type 0
HasMalformedSubnet [] = ⊥
HasMalformedSubnet (r ∷ opts) = IsMalformedOpt r
