-- Snapshots by hand (FORMATS, Octets of snapshots).
use Rattle.std.proofs.Common.{◌≡◌, refl, true, false, [], ◌∷◌, None, Err}
use Rattle.address_text.specs.declared.address.IpAddress.TheVariants.{V4}
use Rattle.check_model.specs.declared.checks.Check.TheVariants.{Calculated, Endpoint}
use Rattle.config_model.specs.Configs.{empty}
use Rattle.config_model.specs.RTypeRecord.TheVariants as rtype
use Rattle.config_model.specs.BodyRecord.TheVariants as body
use Rattle.routing.specs.declared.policies.Routing.TheVariants as routing
use Rattle.snapshot_octets.specs.Octets.{snapshot, snapshot_octets}
use Rattle.snapshot_octets.specs.Reading.{config_at, versioned_at, later_at, read, version_at}

-- a new server: version 2, the next zone and the next check are 1, no checks, no zones
pub of_nothing : snapshot empty
    ≡ 2 ∷ 0 ∷ 0 ∷ 0 ∷ 1 ∷ 0 ∷ 0 ∷ 0 ∷ 1 ∷ 0 ∷ 0 ∷ 0 ∷ 0 ∷ []
of_nothing = refl

-- An earlier server's, with h1, a check of an endpoint with threshold 3. Its next check is 2.
pub of_first_version : snapshot_octets 1 (record empty {
  checks = record { next = 2; list = (1, Endpoint 3 false false) ∷ [] };
})
    ≡ 1 ∷ 0 ∷ 0 ∷ 0 ∷ 1 ∷ 0 ∷ 0 ∷ 0 ∷ 2
    ∷ 0 ∷ 1 ∷ 0 ∷ 0 ∷ 0 ∷ 1 ∷ 1 ∷ 3 ∷ 0 ∷ 0 ∷ 0 ∷ []
of_first_version = refl

-- h1 disabled, h2 over it, inverted, threshold 1
pub of_second_version : snapshot (record empty {
  checks = record {
    next = 3;
    list = (1, Endpoint 3 false true) ∷ (2, Calculated 1 true false (1 ∷ [])) ∷ [];
  };
})
    ≡ 2 ∷ 0 ∷ 0 ∷ 0 ∷ 1 ∷ 0 ∷ 0 ∷ 0 ∷ 3
    ∷ 0 ∷ 2
    ∷ 0 ∷ 0 ∷ 0 ∷ 1 ∷ 1 ∷ 3 ∷ 0 ∷ 1
    ∷ 0 ∷ 0 ∷ 0 ∷ 2 ∷ 2 ∷ 0 ∷ 1 ∷ 1 ∷ 0 ∷ 0 ∷ 1 ∷ 0 ∷ 0 ∷ 0 ∷ 1
    ∷ 0 ∷ 0 ∷ []
of_second_version = refl

-- c1 named `a`, with the block 192.0.2.0/24 under the location `b`
pub of_third_version : snapshot (record empty {
  collections = record {
    next = 2;
    list = (
      1,
      record {
        name = 0x61 ∷ [];
        locations = record {
          name = 0x62 ∷ [];
          blocks = record { address = V4 (192 ∷ 0 ∷ 2 ∷ 0 ∷ []); length = 24 } ∷ [];
        } ∷ [];
      },
    ) ∷ [];
  };
})
    ≡ 3 ∷ 0 ∷ 0 ∷ 0 ∷ 1 ∷ 0 ∷ 0 ∷ 0 ∷ 1 ∷ 0 ∷ 0 ∷ 0 ∷ 2
    ∷ 0 ∷ 0
    ∷ 0 ∷ 1 ∷ 0 ∷ 0 ∷ 0 ∷ 1 ∷ 1 ∷ 0x61 ∷ 0 ∷ 1 ∷ 1 ∷ 0x62
    ∷ 0 ∷ 1 ∷ 4 ∷ 192 ∷ 0 ∷ 2 ∷ 0 ∷ 24
    ∷ 0 ∷ 0 ∷ []
of_third_version = refl

-- There was a collection, and there is none now: its number isn't given again.
pub of_no_collection_left : snapshot (record empty { collections = record { next = 2; list = [] } })
    ≡ 3 ∷ 0 ∷ 0 ∷ 0 ∷ 1 ∷ 0 ∷ 0 ∷ 0 ∷ 1 ∷ 0 ∷ 0 ∷ 0 ∷ 2 ∷ 0 ∷ 0 ∷ 0 ∷ 0 ∷ 0 ∷ 0 ∷ []
of_no_collection_left = refl

-- zone 7, `a`, with one set: `a` A, TTL 60, 192.0.2.1
pub of_a_zone : snapshot (record empty {
  next_zone = 8;
  zones = record {
    id = 7;
    apex = (0x61 ∷ []) ∷ [];
    sets = record {
      name = (0x61 ∷ []) ∷ [];
      rtype = rtype.A;
      routing = routing.Simple;
      body = body.Values 60 (record { rtype = rtype.A; wire = 192 ∷ 0 ∷ 2 ∷ 1 ∷ [] } ∷ []);
      check = None;
    } ∷ [];
  } ∷ [];
})
    ≡ 2 ∷ 0 ∷ 0 ∷ 0 ∷ 8 ∷ 0 ∷ 0 ∷ 0 ∷ 1 ∷ 0 ∷ 0
    ∷ 0 ∷ 1 ∷ 0 ∷ 0 ∷ 0 ∷ 7 ∷ 1 ∷ 0x61 ∷ 0 ∷ 0 ∷ 0 ∷ 0 ∷ 1
    ∷ 1 ∷ 0x61 ∷ 0 ∷ 0 ∷ 1 ∷ 0 ∷ 0 ∷ 0 ∷ 0 ∷ 0 ∷ 60 ∷ 0 ∷ 1 ∷ 0 ∷ 4 ∷ 192 ∷ 0 ∷ 2 ∷ 1 ∷ 0
    ∷ []
of_a_zone = refl

-- h1 disabled, beside c1 named `a` with the block 192.0.2.0/24 under the location `b`
pub of_both : snapshot (record empty {
  checks = record { next = 2; list = (1, Endpoint 3 false true) ∷ [] };
  collections = record {
    next = 2;
    list = (
      1,
      record {
        name = 0x61 ∷ [];
        locations = record {
          name = 0x62 ∷ [];
          blocks = record { address = V4 (192 ∷ 0 ∷ 2 ∷ 0 ∷ []); length = 24 } ∷ [];
        } ∷ [];
      },
    ) ∷ [];
  };
})
    ≡ 3 ∷ 0 ∷ 0 ∷ 0 ∷ 1 ∷ 0 ∷ 0 ∷ 0 ∷ 2 ∷ 0 ∷ 0 ∷ 0 ∷ 2
    ∷ 0 ∷ 1 ∷ 0 ∷ 0 ∷ 0 ∷ 1 ∷ 1 ∷ 3 ∷ 0 ∷ 1
    ∷ 0 ∷ 1 ∷ 0 ∷ 0 ∷ 0 ∷ 1 ∷ 1 ∷ 0x61 ∷ 0 ∷ 1 ∷ 1 ∷ 0x62
    ∷ 0 ∷ 1 ∷ 4 ∷ 192 ∷ 0 ∷ 2 ∷ 0 ∷ 24
    ∷ 0 ∷ 0 ∷ []
of_both = refl

-- version 4
pub no_version : read (4 ∷ 0 ∷ 0 ∷ 0 ∷ 1 ∷ 0 ∷ 0 ∷ 0 ∷ 1 ∷ 0 ∷ 0 ∷ 0 ∷ 0 ∷ []) ≡ Err 0
unfolding read versioned_at version_at
no_version = refl

-- version 3 where there never was a collection
pub no_collections :
    read (3 ∷ 0 ∷ 0 ∷ 0 ∷ 1 ∷ 0 ∷ 0 ∷ 0 ∷ 1 ∷ 0 ∷ 0 ∷ 0 ∷ 1 ∷ 0 ∷ 0 ∷ 0 ∷ 0 ∷ 0 ∷ 0 ∷ [])
    ≡ Err 9
unfolding read versioned_at version_at config_at later_at
no_collections = refl

-- an octet behind it
pub one_behind : read (2 ∷ 0 ∷ 0 ∷ 0 ∷ 1 ∷ 0 ∷ 0 ∷ 0 ∷ 1 ∷ 0 ∷ 0 ∷ 0 ∷ 0 ∷ 0 ∷ []) ≡ Err 13
unfolding read versioned_at version_at config_at
one_behind = refl
