-- Fields and faults of snapshots, from outside (FORMATS, Octets of snapshots).
use Rattle.std.proofs.Common.{◌≡◌, ℕ, zero, suc, ◌+◌, ◌*◌, ◌<◌, ◌≤◌, ◌^◌, List, [], ◌∷◌, ◌++◌, length, take, arith, ap, sym, refl, append-nil, length-append, true, false, inl, inr, None, Err}
use Rattle.std.specs.Prelude.{map, nat_lt, replicate}
use Rattle.std.specs.List.{flat_map, list_all, AllByRecursion}
use Rattle.std.proofs.lemmas.Bool.{and_parts, ltb-true}
use Rattle.std.proofs.lemmas.List.{length-replicate}
use Rattle.octet_reading.specs.Names.{name_at}
use Rattle.rdata_layout.specs.Names.{AreOctets}
use Rattle.block_octets.specs.IpAddressRecord.TheVariants.{V4}
use Rattle.check_model.specs.declared.checks.Check.TheVariants.{Endpoint}
use Rattle.config_model.specs.RTypeRecord.TheVariants as rtype
use Rattle.config_model.specs.BodyRecord.TheVariants as body
use Rattle.set_fields.specs.RoutingRecord.TheVariants as routing
use Rattle.set_fields.specs.Octets.{value_octets}
use Rattle.set_reading.specs.Datum.{Datum}
use Rattle.set_reading.specs.Names.{IsName}
use Rattle.set_reading.specs.Octets.{set_octets}
use Rattle.set_reading.specs.RecordSetRecord.{RecordSet}
use Rattle.set_reading.specs.Values.{IsInLayout}
use Rattle.snapshot_octets.specs.Configs.{Config, empty}
use Rattle.snapshot_octets.specs.Reading.{read, versioned_at, version_at, config_at, later_at, zone_at}
use Rattle.fault_places.specs.Fields.{Field}
use Rattle.fault_places.specs.Fields.Ending.{Sized, Open, Counted}
use Rattle.fault_places.specs.Sets.{sized}
use Rattle.snapshot_faults.specs.Laws.{SnapshotStopsAt, HasFaultAt}
use Rattle.snapshot_faults.specs.Snapshots.{fields_of}
use Rattle.snapshot_faults.proofs.Told.{snapshot_faults_as_told}

-- ---- fields

-- a new server: version 2, the next zone and the next check are 1, no checks, no zones
pub fields_of_nothing : map (λ (field : Field). field.octets) (fields_of (2, empty))
    ≡ (2 ∷ []) ∷ (0 ∷ 0 ∷ 0 ∷ 1 ∷ []) ∷ (0 ∷ 0 ∷ 0 ∷ 1 ∷ []) ∷ (0 ∷ 0 ∷ []) ∷ (0 ∷ 0 ∷ []) ∷ []
fields_of_nothing = refl

-- in version 3 with c1 named `a` and the block 192.0.2.0/24 under the location `b`, beside h1, a
-- check of an endpoint, which is disabled
abbrev third : Config
third = record {
  zones = [];
  next_zone = 1;
  checks = record { next = 2; list = (1, Endpoint 3 false true) ∷ [] };
  collections = record {
    next = 2;
    list = (
      1,
      record {
        name = 0x61 ∷ [];
        locations = record {
          name = 0x62 ∷ [];
          blocks = record { address = V4 (192 ∷ 0 ∷ 2 ∷ 0 ∷ []); length = 24 } ∷ [];
        } ∷ [];
      },
    ) ∷ [];
  };
}

pub fields_of_third : map (λ (field : Field). field.octets) (fields_of (3, third))
    ≡ (3 ∷ []) ∷ (0 ∷ 0 ∷ 0 ∷ 1 ∷ []) ∷ (0 ∷ 0 ∷ 0 ∷ 2 ∷ []) ∷ (0 ∷ 0 ∷ 0 ∷ 2 ∷ [])
    ∷ (0 ∷ 1 ∷ []) ∷ (0 ∷ 0 ∷ 0 ∷ 1 ∷ []) ∷ (1 ∷ []) ∷ (3 ∷ []) ∷ (0 ∷ []) ∷ (1 ∷ [])
    ∷ (0 ∷ 1 ∷ []) ∷ (0 ∷ 0 ∷ 0 ∷ 1 ∷ []) ∷ (1 ∷ 0x61 ∷ []) ∷ (0 ∷ 1 ∷ []) ∷ (1 ∷ 0x62 ∷ [])
    ∷ (0 ∷ 1 ∷ []) ∷ (4 ∷ []) ∷ (192 ∷ 0 ∷ 2 ∷ 0 ∷ []) ∷ (24 ∷ [])
    ∷ (0 ∷ 0 ∷ []) ∷ []
fields_of_third = refl

-- zone 7, `a`, with one set: `a` A, TTL 60, 192.0.2.1
abbrev of_zone : Config
of_zone = record empty {
  next_zone = 8;
  zones = record {
    id = 7;
    apex = (0x61 ∷ []) ∷ [];
    sets = record {
      name = (0x61 ∷ []) ∷ [];
      rtype = rtype.A;
      routing = routing.Simple;
      body = body.Values 60 (record { rtype = rtype.A; wire = 192 ∷ 0 ∷ 2 ∷ 1 ∷ [] } ∷ []);
      check = None;
    } ∷ [];
  } ∷ [];
}

pub fields_of_zone : map (λ (field : Field). field.octets) (fields_of (1, of_zone))
    ≡ (1 ∷ []) ∷ (0 ∷ 0 ∷ 0 ∷ 8 ∷ []) ∷ (0 ∷ 0 ∷ 0 ∷ 1 ∷ []) ∷ (0 ∷ 0 ∷ []) ∷ (0 ∷ 1 ∷ [])
    ∷ (0 ∷ 0 ∷ 0 ∷ 7 ∷ []) ∷ (1 ∷ 0x61 ∷ 0 ∷ []) ∷ (0 ∷ 0 ∷ 0 ∷ 1 ∷ [])
    ∷ (1 ∷ 0x61 ∷ 0 ∷ []) ∷ (0 ∷ 1 ∷ []) ∷ (0 ∷ []) ∷ (0 ∷ []) ∷ (0 ∷ 0 ∷ 0 ∷ 60 ∷ [])
    ∷ (0 ∷ 1 ∷ []) ∷ (0 ∷ 4 ∷ 192 ∷ 0 ∷ 2 ∷ 1 ∷ []) ∷ (0 ∷ []) ∷ []
fields_of_zone = refl

pub endings_of_zone : map (λ (field : Field). field.ending) (fields_of (1, of_zone))
    ≡ Sized ∷ Sized ∷ Sized ∷ Sized ∷ Sized ∷ Sized ∷ Open ∷ Sized ∷ Open ∷ Sized ∷ Sized ∷ Sized
    ∷ Sized ∷ Sized ∷ Counted ∷ Sized ∷ []
endings_of_zone = refl

-- ---- faults

-- a new server's, in version 2
abbrev nothing : List ℕ
nothing = 2 ∷ 0 ∷ 0 ∷ 0 ∷ 1 ∷ 0 ∷ 0 ∷ 0 ∷ 1 ∷ 0 ∷ 0 ∷ 0 ∷ 0 ∷ []

octets_are : (octets : List ℕ) → list_all (λ b. nat_lt b 256) octets ≡ true → AreOctets octets
octets_are [] e = tt
octets_are (b ∷ octets) e =
    let parts = and_parts (nat_lt b 256) (list_all (λ b. nat_lt b 256) octets) e in
    (ltb-true b 256 parts.0, octets_are octets parts.1)

fault_at : (octets : List ℕ) (place : ℕ) → list_all (λ b. nat_lt b 256) octets ≡ true
    → read octets ≡ Err place → HasFaultAt octets place
fault_at octets place are e = (snapshot_faults_as_told octets place (octets_are octets are)).0 e

taken_are : (n : ℕ) (octets : List ℕ) → AreOctets octets → AreOctets (take n octets)
taken_are zero octets are = tt
taken_are (suc n) [] are = tt
taken_are (suc n) (b ∷ octets) are = (are.0, taken_are n octets are.1)

cut_at : (numbers : List ℕ) → map (λ n. read (take n nothing)) numbers ≡ map Err numbers
    → AllByRecursion (λ n. HasFaultAt (take n nothing) n) numbers
cut_at [] e = tt
cut_at (n ∷ numbers) e =
    let first : read (take n nothing) ≡ Err n = cc in
    let others : map (λ n. read (take n nothing)) numbers ≡ map Err numbers = cc in
    let are = taken_are n nothing (octets_are nothing refl) in
    ((snapshot_faults_as_told (take n nothing) n are).0 first, cut_at numbers others)

-- wherever it is cut off, octets are missing behind the last
pub cut_off : AllByRecursion (λ n. HasFaultAt (take n nothing) n)
    (0 ∷ 1 ∷ 2 ∷ 3 ∷ 4 ∷ 5 ∷ 6 ∷ 7 ∷ 8 ∷ 9 ∷ 10 ∷ 11 ∷ 12 ∷ [])
unfolding read versioned_at version_at config_at
cut_off = cut_at (0 ∷ 1 ∷ 2 ∷ 3 ∷ 4 ∷ 5 ∷ 6 ∷ 7 ∷ 8 ∷ 9 ∷ 10 ∷ 11 ∷ 12 ∷ []) refl

-- the number that the next zone gets, cut off, by the definition alone
pub stops_at : SnapshotStopsAt (2 ∷ 0 ∷ 0 ∷ []) 3
stops_at = record {
  left = 0;
  behind = refl;
  stops = record {
    before = 2 ∷ [];
    here = 0 ∷ 0 ∷ [];
    value = (2, empty);
    good = record {
      known = inr (inl refl);
      next = refl;
      checks = record { count = omega arith; each = tt };
      collections = refl;
      zones = record { count = omega arith; each = tt };
    };
    field = sized (0 ∷ 0 ∷ 0 ∷ 1 ∷ []);
    stands = record {
      front = sized (2 ∷ []) ∷ [];
      others = sized (0 ∷ 0 ∷ 0 ∷ 1 ∷ []) ∷ sized (0 ∷ 0 ∷ []) ∷ sized (0 ∷ 0 ∷ []) ∷ [];
      parts = refl;
      are_before = refl;
    };
    parts = refl;
    why = inl (refl, omega arith);
  };
}

-- version 4
pub no_version : HasFaultAt (4 ∷ 0 ∷ 0 ∷ 0 ∷ 1 ∷ []) 0
unfolding read versioned_at version_at
no_version = fault_at (4 ∷ 0 ∷ 0 ∷ 0 ∷ 1 ∷ []) 0 refl refl

-- version 3, where the next collection gets number 1
pub no_collection : HasFaultAt
    (3 ∷ 0 ∷ 0 ∷ 0 ∷ 1 ∷ 0 ∷ 0 ∷ 0 ∷ 1 ∷ 0 ∷ 0 ∷ 0 ∷ 1 ∷ 0 ∷ 0 ∷ 0 ∷ 0 ∷ 0 ∷ 0 ∷ []) 9
unfolding read versioned_at version_at config_at later_at
no_collection = fault_at
    (3 ∷ 0 ∷ 0 ∷ 0 ∷ 1 ∷ 0 ∷ 0 ∷ 0 ∷ 1 ∷ 0 ∷ 0 ∷ 0 ∷ 1 ∷ 0 ∷ 0 ∷ 0 ∷ 0 ∷ 0 ∷ 0 ∷ []) 9 refl refl

-- an octet behind a whole one
pub surplus : HasFaultAt (2 ∷ 0 ∷ 0 ∷ 0 ∷ 1 ∷ 0 ∷ 0 ∷ 0 ∷ 1 ∷ 0 ∷ 0 ∷ 0 ∷ 0 ∷ 7 ∷ []) 13
unfolding read versioned_at version_at config_at
surplus = fault_at (2 ∷ 0 ∷ 0 ∷ 0 ∷ 1 ∷ 0 ∷ 0 ∷ 0 ∷ 1 ∷ 0 ∷ 0 ∷ 0 ∷ 0 ∷ 7 ∷ []) 13 refl refl

-- zone 7, with the name `a`, of which the root's length is missing
pub cut_name : HasFaultAt
    (2 ∷ 0 ∷ 0 ∷ 0 ∷ 8 ∷ 0 ∷ 0 ∷ 0 ∷ 1 ∷ 0 ∷ 0 ∷ 0 ∷ 1 ∷ 0 ∷ 0 ∷ 0 ∷ 7 ∷ 1 ∷ 0x61 ∷ []) 19
unfolding read versioned_at version_at config_at zone_at name_at
cut_name = fault_at
    (2 ∷ 0 ∷ 0 ∷ 0 ∷ 8 ∷ 0 ∷ 0 ∷ 0 ∷ 1 ∷ 0 ∷ 0 ∷ 0 ∷ 1 ∷ 0 ∷ 0 ∷ 0 ∷ 7 ∷ 1 ∷ 0x61 ∷ []) 19
    refl refl

-- zone 7, with a name that has a capital letter
pub no_name : HasFaultAt
    (2 ∷ 0 ∷ 0 ∷ 0 ∷ 8 ∷ 0 ∷ 0 ∷ 0 ∷ 1 ∷ 0 ∷ 0 ∷ 0 ∷ 1 ∷ 0 ∷ 0 ∷ 0 ∷ 7 ∷ 1 ∷ 0x41 ∷ 0 ∷ []) 17
unfolding read versioned_at version_at config_at zone_at name_at
no_name = fault_at
    (2 ∷ 0 ∷ 0 ∷ 0 ∷ 8 ∷ 0 ∷ 0 ∷ 0 ∷ 1 ∷ 0 ∷ 0 ∷ 0 ∷ 1 ∷ 0 ∷ 0 ∷ 0 ∷ 7 ∷ 1 ∷ 0x41 ∷ 0 ∷ []) 17
    refl refl

-- ---- a set that is too long

-- `a` A with n times 192.0.2.1: too long from 10,921 values on
abbrev address : Datum
address = record { rtype = rtype.A; wire = 192 ∷ 0 ∷ 2 ∷ 1 ∷ [] }

abbrev with_values : ℕ → RecordSet
with_values n = record {
  name = (0x61 ∷ []) ∷ [];
  rtype = rtype.A;
  routing = routing.Simple;
  body = body.Values 60 (replicate n address);
  check = None;
}

-- in zone 7, `a`, the only one and without other sets
abbrev front : List ℕ
front = 2 ∷ 0 ∷ 0 ∷ 0 ∷ 8 ∷ 0 ∷ 0 ∷ 0 ∷ 1 ∷ 0 ∷ 0 ∷ 0 ∷ 1
    ∷ 0 ∷ 0 ∷ 0 ∷ 7 ∷ 1 ∷ 0x61 ∷ 0 ∷ 0 ∷ 0 ∷ 0 ∷ 1 ∷ []

values_size : (n : ℕ) → length (flat_map value_octets (replicate n address)) ≡ 6 * n
values_size zero = refl
values_size (suc n) = omega (arith, values_size n)

all_of : (P : Datum → Type 0) (n : ℕ) → P address → AllByRecursion P (replicate n address)
all_of P zero h = tt
all_of P (suc n) h = (h, all_of P n h)

a_name : IsName ((0x61 ∷ []) ∷ [])
a_name = record {
  raw = record { each = (record { filled = omega arith; short = omega arith }, tt); fits = omega arith };
  lower = (refl, tt);
  octets = ((omega arith, tt), tt);
}

address_is : IsInLayout address
address_is = record {
  short = omega arith;
  fields = (192 ∷ 0 ∷ 2 ∷ 1 ∷ [], [], refl, refl, refl);
}

set_size : (n : ℕ) → length (set_octets (with_values n)) ≡ 14 + 6 * n
set_size n =
    omega (
      arith,
      values_size n,
      length-append (flat_map value_octets (replicate n address)) (0 ∷ []),
    )

pub long_set : (n : ℕ) → 10921 ≤ n → n < 2 ^ 16
    → HasFaultAt (front ++ set_octets (with_values n)) 24
long_set n many few = inr (inl (record {
  version = 2;
  config = record empty { next_zone = 8 };
  zones = 1;
  zone = record { id = 7; apex = (0x61 ∷ []) ∷ []; sets = [] };
  sets = 1;
  set = with_values n;
  rest = [];
  has = record {
    known = inr (inl refl);
    next = refl;
    checks = record { count = omega arith; each = tt };
    collections = refl;
    zones = record { count = omega arith; each = tt };
  };
  few = omega arith;
  fewer = omega arith;
  is_zone = record { name = a_name; sets = tt };
  fewer_sets = omega arith;
  is = record {
    is = record { name = a_name; routing = tt; body = all_of IsInLayout n address_is };
    routing = tt;
    body = (omega arith, omega (arith, few, length-replicate n address));
    of_type = all_of (λ value. value.rtype ≡ rtype.A) n refl;
  };
  long = omega (arith, many, set_size n);
  parts = ap (λ t. front ++ t) (sym (append-nil (set_octets (with_values n))));
  behind = refl;
}))
