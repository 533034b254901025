-- A snapshot is read as its parts are read one behind another.
use Rattle.std.proofs.Common.{◌≡◌, ℕ, Bool, true, false, List, [], length, refl, cond, eqb}
use Rattle.std.proofs.Common.{Result, Ok, Err}
use Rattle.octet_reading.specs.Readers.{Reader, alone, in_turn, list_at, by_place, so_many}
use Rattle.octet_reading.specs.Reading.{◌>>=◌, four_at, two_at}
use Rattle.check_model.specs.declared.checks.Check.{Check}
use Rattle.check_reading.specs.Fields.{spelled_at}
use Rattle.cidr_blocks.specs.declared.places.Collection.{Collection}
use Rattle.snapshot_octets.specs.Configs.{Config}
use Rattle.snapshot_octets.specs.Octets.{spells_collections}
use Rattle.snapshot_octets.specs.Reading.{config_at, configured, numbered_check_at}
use Rattle.snapshot_octets.specs.Reading.{numbered_collection_at, later_at, read, unversioned}
use Rattle.snapshot_octets.specs.Reading.{version_at}
use Rattle.snapshot_octets.specs.Reading.{zone_at}
use Rattle.snapshot_octets.specs.Reading as snapshots
use Rattle.snapshot_reading.specs.Parts.{Begun, begun, begun_at, checks_at, collections_at}
use Rattle.snapshot_reading.specs.Parts.{front_at, next_collection_at, with_zones}
use Rattle.snapshot_octets.specs.Hosted.{HostedZone}

-- the configuration of these zones, and what stands behind them, where so many follow
abbrev pub with_these : Begun → List HostedZone × List ℕ → Result (Config × List ℕ) ℕ
with_these front z = Ok (with_zones front z.0, z.1)

abbrev pub zones_behind : Begun × List ℕ → Result (Config × List ℕ) ℕ
zones_behind b = so_many zone_at b.0.zones b.1 >>= with_these b.0

-- what stands in front of the number of the zones
abbrev Fields : Type 0
Fields = (((ℕ × ℕ) × ℕ) × List (ℕ × Check)) × List (ℕ × Collection)

fields_at : (version : ℕ) → Reader Fields
fields_at version =
    in_turn (in_turn (in_turn (in_turn four_at four_at)
    (spelled_at (spells_collections version) 1 later_at)) (list_at (numbered_check_at version)))
    (spelled_at (spells_collections version) [] (list_at numbered_collection_at))

-- a value beside another, or seen through a function
abbrev beside : {A B : Type 0} → A → B × List ℕ → Result ((A × B) × List ℕ) ℕ
beside x y = Ok ((x, y.0), y.1)

abbrev viewed : {A B : Type 0} → (A → B) → A × List ℕ → Result (B × List ℕ) ℕ
viewed view x = Ok (view x.0, x.1)

-- so many zones, and a list of them
abbrev zones_at : ℕ × List ℕ → Result (List HostedZone × List ℕ) ℕ
zones_at count = so_many zone_at count.0 count.1

abbrev list_behind : Fields × List ℕ → Result ((Fields × List HostedZone) × List ℕ) ℕ
list_behind x = list_at zone_at x.1 >>= beside x.0

abbrev count_behind : Fields × List ℕ → Result ((Fields × ℕ) × List ℕ) ℕ
count_behind x = two_at x.1 >>= beside x.0

module _ (total version : ℕ) where
  abbrev once : Result (Config × List ℕ) ℕ → Result Config ℕ
  once r = unversioned (by_place total ((r >>= beside version) >>= alone))

  abbrev in_steps : Result (Begun × List ℕ) ℕ → Result Config ℕ
  in_steps r =
      by_place total
      ((((r >>= beside version) >>= viewed (λ (p : ℕ × Begun). p.1)) >>= zones_behind) >>= alone)

  at_end : (config : Config) (ended : Bool) (left : ℕ)
      → unversioned (by_place total (cond ended (Ok (version, config)) (Err left)))
      ≡ by_place total (cond ended (Ok config) (Err left))
  at_end config true left = refl
  at_end config false left = refl

  after_zones : (fields : Fields) (count : ℕ) (r : Result (List HostedZone × List ℕ) ℕ)
      → once ((r >>= beside fields) >>= viewed configured)
      ≡ by_place total ((r >>= with_these (begun (fields, count))) >>= alone)
  after_zones fields count (Ok z) =
      at_end (configured (fields, z.0)) (eqb (length z.1) 0) (length z.1)
  after_zones fields count (Err left) = refl

  after_count : (fields : Fields) (r : Result (ℕ × List ℕ) ℕ)
      → once (((r >>= zones_at) >>= beside fields) >>= viewed configured)
      ≡ in_steps ((r >>= beside fields) >>= viewed begun)
  after_count fields (Ok c) = after_zones fields c.0 (so_many zone_at c.0 c.1)
  after_count fields (Err left) = refl

  after_fields : (r : Result (Fields × List ℕ) ℕ)
      → once ((r >>= list_behind) >>= viewed configured)
      ≡ in_steps ((r >>= count_behind) >>= viewed begun)
  after_fields (Ok x) = after_count x.0 (two_at x.1)
  after_fields (Err left) = refl

  after_version : (octets : List ℕ)
      → once (config_at version octets) ≡ in_steps (begun_at version octets)
  unfolding config_at begun_at next_collection_at checks_at collections_at fields_at
  after_version octets = after_fields (fields_at version octets)

abbrev config_behind : ℕ × List ℕ → Result ((ℕ × Config) × List ℕ) ℕ
config_behind v = config_at v.0 v.1 >>= beside v.0

abbrev begun_behind : ℕ × List ℕ → Result ((ℕ × Begun) × List ℕ) ℕ
begun_behind v = begun_at v.0 v.1 >>= beside v.0

after_any : (total : ℕ) (r : Result (ℕ × List ℕ) ℕ)
    → unversioned (by_place total ((r >>= config_behind) >>= alone))
    ≡ by_place total
    ((((r >>= begun_behind) >>= viewed (λ (p : ℕ × Begun). p.1)) >>= zones_behind) >>= alone)
after_any total (Ok v) = after_version total v.0 v.1
after_any total (Err left) = refl

pub in_parts : (octets : List ℕ)
    → read octets ≡ by_place (length octets) ((front_at octets >>= zones_behind) >>= alone)
unfolding read snapshots.versioned_at front_at
in_parts octets = after_any (length octets) (version_at octets)
