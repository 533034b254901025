-- What is known of the OPT record while the records are walked, and of the client subnet while its options are.
use Rattle.std.specs.Prelude.{◌≡◌, ℕ, ◌+◌, ◌/◌, ◌%◌, ◌==◌, ◌≤◌, List, [], ◌∷◌, ◌++◌, length, take, drop, Option, None, Some, Ok, Err, ⊤}
use Rattle.octets.specs.Numbers.{number_at, long_at}
use Rattle.ecs_option.specs.Grammar.{Reads}
use Rattle.ecs_option.specs.Writing.{IsSubnet}
use Rattle.ecs_option.specs.declared.subnet.ClientSubnet.{ClientSubnet}
use Rattle.ecs_option.specs.declared.subnet.Malformed.{Malformed}
use Rattle.dns_message.specs.Edns.{AreOptions, AreProperOpts, EdnsOption, first_body, option_at, option_size, opts_of}
use Rattle.dns_message.specs.Records.{AnyRecord, BeginsWithRecord, BeginsWithRecords, IsOwner, record_of}
use Rattle.dns_message.specs.declared.query.Edns.{Edns}
use Rattle.dns_message.specs.declared.records.Place.{Place}
use Rattle.dns_message.specs.declared.walked.Walked.{Walked}
use Rattle.dns_message.specs.declared.walked.Walked.TheVariants as walked

-- no owner stands at the front
abbrev pub BeginsWithoutOwner : List ℕ → Type 0
BeginsWithoutOwner octets = (n : ℕ) → n ≤ length octets → IsOwner (take n octets) → ⊥

-- no whole record stands at the front
abbrev pub BeginsWithoutRecord : List ℕ → Type 0
BeginsWithoutRecord octets = (r : AnyRecord) (size : ℕ) → BeginsWithRecord octets r size → ⊥

-- A whole record stands at the front, with its fields behind its owner.
pub record HasPlace (octets : List ℕ) (place : Place) : Type 0 where
  pub owner : IsOwner (take place.owner_len octets)
  pub sized : place.size ≡ place.owner_len + 10 + number_at octets (place.owner_len + 8)
  pub whole : place.size ≤ length octets

-- what the first option with code 8 tells
pub data SubnetRead : Type 0 where
  Absent Faulty : SubnetRead
  Told : ClientSubnet → SubnetRead

-- the same, by its data
abbrev pub HasSubnet : (body : Option (List ℕ)) → SubnetRead → Type 0
HasSubnet None Absent = ⊤
HasSubnet None Faulty = ⊥
HasSubnet None (Told told) = ⊥
HasSubnet (Some body) Absent = ⊥
HasSubnet (Some body) Faulty = (fault : Malformed) × Reads body (Err fault)
HasSubnet (Some body) (Told told) = Reads body (Ok told) × IsSubnet told

-- a whole option stands at a place
pub record IsOptionAt (octets : List ℕ) (at : ℕ) : Type 0 where
  pub within : at ≤ length octets
  pub whole : option_size (drop at octets) ≤ length (drop at octets)

-- The first option with code 8 has these data, by its place.
abbrev pub HasFirst : (octets : List ℕ) → (body : Option (List ℕ)) → Walked → Type 0
HasFirst octets body walked.Broken = ⊥
HasFirst octets body walked.Plain = body ≡ None
HasFirst octets body (walked.At at) = IsOptionAt octets at × (body ≡ Some (option_at (drop at octets)).body)

-- what walking options comes to
abbrev pub HasOptions : (octets : List ℕ) → Walked → Type 0
HasOptions octets walked.Broken = (options : List EdnsOption) → AreOptions octets options → ⊥
HasOptions octets walked.Plain =
    (options : List EdnsOption) × AreOptions octets options × (first_body 8 options ≡ None)
HasOptions octets (walked.At at) =
    (options : List EdnsOption) × AreOptions octets options
    × (IsOptionAt octets at × (first_body 8 options ≡ Some (option_at (drop at octets)).body))

-- what an OPT record has
pub record Opt : Type 0 where
  pub class : ℕ
  pub ttl : ℕ
  pub subnet : SubnetRead

-- what an OPT record has that is as it has to be
pub record IsOptOf (r : AnyRecord) (opt : Opt) : Type 0 where
  pub owner : r.owner ≡ 0 ∷ []
  pub class : opt.class ≡ r.class
  pub ttl : opt.ttl ≡ r.ttl
  pub options : List EdnsOption
  pub filled : AreOptions r.rdata options
  pub subnet : HasSubnet (first_body 8 options) opt.subnet

-- A whole record of the root stands at a place, whose owner is one octet.
pub record IsRootAt (octets : List ℕ) (at : ℕ) (r : AnyRecord) : Type 0 where
  pub within : at ≤ length octets
  pub whole : 11 + number_at (drop at octets) 9 ≤ length (drop at octets)
  pub root : take 1 (drop at octets) ≡ 0 ∷ []
  pub is : r ≡ record_of (drop at octets) 1

-- What is known from these OPT records, which others may follow.
abbrev pub HasFound : (octets : List ℕ) → (opts : List AnyRecord) → Walked → Type 0
HasFound octets opts walked.Broken = (others : List AnyRecord) → AreProperOpts (opts ++ others) → ⊥
HasFound octets opts walked.Plain = opts ≡ []
HasFound octets opts (walked.At at) = (r : AnyRecord) × (opts ≡ r ∷ []) × IsRootAt octets at r

-- so many records stand at the front
pub record HasRecords (octets : List ℕ) (count : ℕ) (records : List AnyRecord) : Type 0 where
  pub count_is : length records ≡ count
  pub there : BeginsWithRecords octets records

-- what walking so many records comes to
abbrev pub WalksTo : (octets : List ℕ) (count : ℕ) → Walked → Type 0
WalksTo octets count walked.Broken =
    (records : List AnyRecord) → HasRecords octets count records → AreProperOpts (opts_of records) → ⊥
WalksTo octets count walked.Plain =
    (records : List AnyRecord) × HasRecords octets count records × (opts_of records ≡ [])
WalksTo octets count (walked.At at) =
    (records : List AnyRecord) × HasRecords octets count records
    × ((r : AnyRecord) × (opts_of records ≡ r ∷ []) × IsRootAt octets at r)

-- so many records with one OPT record among them, which has this
abbrev pub WalksWith : (octets : List ℕ) (count : ℕ) → Opt → Type 0
WalksWith octets count opt =
    (records : List AnyRecord) × HasRecords octets count records
    × ((r : AnyRecord) × (opts_of records ≡ r ∷ []) × IsOptOf r opt)

-- what it tells of the client's network
abbrev pub told_of : SubnetRead → Option ClientSubnet
told_of Absent = None
told_of Faulty = None
told_of (Told told) = Some told

-- what it tells
abbrev pub edns_of : Opt → Edns
edns_of opt = record {
  size = opt.class;
  dnssec_ok = opt.ttl / 32768 % 2 == 1;
  subnet = told_of opt.subnet;
}

-- what an OPT record of one octet's owner has at the front, with this subnet
abbrev pub opt_with : List ℕ → SubnetRead → Opt
opt_with octets subnet = record { class = number_at octets 3; ttl = long_at octets 5; subnet = subnet }
