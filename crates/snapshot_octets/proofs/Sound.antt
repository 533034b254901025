-- A sound configuration has a snapshot in the version that is written.
use Rattle.std.proofs.Common.{◌≡◌, ℕ, ◌<◌, ◌≤◌, ◌^◌, inl, inr, Bool, true, false, List, [], ◌∷◌, ◌+◌, length, arith, ap, ◌∙◌, refl, subst}
use Rattle.std.proofs.lemmas.Bool.{ltb-false, ltb-true}
use Rattle.std.proofs.lemmas.List.{length-append, length-map}
use Rattle.std.specs.Prelude.{nat_lt, if◌then◌else◌}
use Rattle.std.specs.List.{AllByRecursion}
use Rattle.dns_name.specs.Names.{IsName}
use Rattle.config_model.specs.RulesOfOctetReading.{AreListable}
use Rattle.check_model.specs.Checks.{Checks}
use Rattle.check_model.specs.Checks as checks
use Rattle.check_model.specs.declared.checks.Check.{Check}
use Rattle.config_model.specs.OctetsOfCheckOctets.{disabled_of, spells_disabled}
use Rattle.config_model.specs.Places.{IsBlock, IsCidrLocation, IsCollection, rows_at, rows_of}
use Rattle.config_model.specs.CidrLocationRecord.{CidrLocation}
use Rattle.config_model.specs.CollectionRecord.{Collection}
use Rattle.config_model.specs.Configs.{Config}
use Rattle.config_model.specs.Sound.{IsSoundZone, Sound}
use Rattle.config_model.specs.RecordSetRecord.{RecordSet}
use Rattle.config_model.specs.SetKeyRecord.{SetKey}
use Rattle.config_model.specs.OctetsOfSetOctets as sets
use Rattle.config_model.specs.SetsOfSetReading.{IsSet}
use Rattle.snapshot_octets.specs.Laws.{SoundHaveSnapshots}
use Rattle.snapshot_octets.specs.Octets.{HasSnapshot, IsHeldCheck, IsHeldCollection, IsPrefixed}
use Rattle.snapshot_octets.specs.Octets.{IsSpelledCollection, IsSpelledLocation}
use Rattle.snapshot_octets.specs.Octets.{IsSpelledSet, IsSpelledZone}
use Rattle.snapshot_octets.specs.Octets.{version_of}
use Rattle.config_model.specs.Hosted.{HostedZone}
use Rattle.config_model.specs.Zones.{IsAmong}

each : {A : Type 0} (is other : A → Type 0) → ((x : A) → is x → other x)
    → (xs : List A) → AllByRecursion is xs → AllByRecursion other xs
each is other into [] all = tt
each is other into (x ∷ xs) all = (into x all.0, each is other into xs all.1)

among : {A : Type 0} (is : A → Type 0) (xs : List A) (x : A) → AllByRecursion is xs → IsAmong xs x
    → is x
among is [] x all at = absurd at
among is (y ∷ xs) x all (inl e) = subst is e all.0
among is (y ∷ xs) x all (inr at) = among is xs x all.1 at

-- ---- checks

-- what isn't told where a version is later than the first
told_later : (version : ℕ) (check : Check) → 1 < version
    → spells_disabled version ≡ false → disabled_of check ≡ false
told_later version check later e = absurd (omega (arith, later, ltb-false 1 version e))

held_checks : (version : ℕ) → 1 < version → (list : List (ℕ × Check))
    → AllByRecursion (λ held. checks.IsBounded held.1) list → AllByRecursion (IsHeldCheck version) list
held_checks version later list =
    each (λ held. checks.IsBounded held.1) (IsHeldCheck version)
    (λ held bounded. record { bounded = bounded; told = told_later version held.1 later }) list

-- ---- collections

pub rows_are : (location : CidrLocation) (locations : List CidrLocation)
    → length (rows_of (location ∷ locations)) ≡ length location.blocks + length (rows_of locations)
rows_are location locations =
    length-append (rows_at location.name location.blocks) (rows_of locations)
    ∙ ap (λ n. n + length (rows_of locations)) (length-map location.blocks (λ block. (block, location.name)))

-- Each location has a block, and there are at most 1,000 of these.
few_locations : (locations : List CidrLocation) → AllByRecursion IsCidrLocation locations
    → length locations ≤ length (rows_of locations)
few_locations [] are = omega arith
few_locations (location ∷ locations) are =
    omega (arith, are.0.some, few_locations locations are.1, rows_are location locations)

location_is : (location : CidrLocation) → IsCidrLocation location → length location.blocks < 2 ^ 16
    → IsSpelledLocation location
location_is location is few = record {
  name = is.name;
  blocks = record {
    count = few;
    each = each IsBlock IsPrefixed (λ block is_block. is_block.prefix_is) location.blocks is.are_blocks;
  };
}

locations_are : (locations : List CidrLocation) → AllByRecursion IsCidrLocation locations
    → length (rows_of locations) < 2 ^ 16 → AllByRecursion IsSpelledLocation locations
locations_are [] are few = tt
locations_are (location ∷ locations) are few =
    let rows = rows_are location locations in (
      location_is location are.0 (omega (arith, rows, few)),
      locations_are locations are.1 (omega (arith, rows, few)),
    )

collection_is : (collection : Collection) → IsCollection collection → IsSpelledCollection collection
collection_is collection is = record {
  name = is.name;
  locations = record {
    count = omega (arith, few_locations collection.locations is.each, is.few);
    each = locations_are collection.locations is.each (omega (arith, is.few));
  };
}

held_collections : (list : List (ℕ × Collection))
    → AllByRecursion (λ (held : ℕ × Collection). IsCollection held.1) list → AllByRecursion IsHeldCollection list
held_collections list =
    each (λ (held : ℕ × Collection). IsCollection held.1) IsHeldCollection (λ held is. collection_is held.1 is) list

-- where no number was ever given there is no collection
none_held : (next : ℕ) (list : List (ℕ × Collection)) → next ≤ 1
    → AllByRecursion (λ (held : ℕ × Collection). (1 ≤ held.0) × (held.0 < next)) list → list ≡ []
none_held next [] least ids = refl
none_held next (held ∷ list) least ids = absurd (omega (arith, least, ids.0.0, ids.0.1))

-- ---- zones

set_is : (list : List RecordSet) → AllByRecursion IsSet list
    → AllByRecursion sets.HasSpelling list → AllByRecursion IsSpelledSet list
set_is [] are spelled = tt
set_is (set ∷ list) are spelled = ((are.0, spelled.0), set_is list are.1 spelled.1)

zone_is : (list : List (ℕ × Check)) (others : List (ℕ × Collection)) (zone : HostedZone)
    → IsSoundZone list others zone → IsSpelledZone zone
zone_is list others zone is = record {
  name = subst IsName (ap (λ (key : SetKey). key.name) is.ns.1.same_key)
      (among IsSet zone.sets is.ns.0 is.parts is.ns.1.there).name;
  sets = set_is zone.sets is.parts is.spelled;
}

-- ---- the versions

module _ (config : Config) (sound : Sound config) where
  checks_have : (version : ℕ) → 1 < version
      → AreListable (IsHeldCheck version) config.checks.list
  checks_have version later = record {
    count = omega (arith, sound.checks.few);
    each = held_checks version later config.checks.list sound.checks.bounded;
  }

  zones_have : AreListable IsSpelledZone config.zones
  zones_have = record {
    count = omega (arith, sound.few);
    each = each (IsSoundZone config.checks.list config.collections.list) IsSpelledZone
        (zone_is config.checks.list config.collections.list) config.zones sound.each;
  }

  has_by : (told : Bool) → nat_lt 1 config.collections.next ≡ told
      → HasSnapshot (if told then 3 else 2) config
  has_by true e = record {
    known = inr (inr refl);
    next = ltb-true 1 config.collections.next e;
    checks = checks_have 3 (omega arith);
    collections = record {
      count = omega (arith, sound.collections.few);
      each = held_collections config.collections.list sound.collections.each;
    };
    zones = zones_have;
  }
  has_by false e =
      let least = ltb-false 1 config.collections.next e in
      record {
        known = inr (inl refl);
        next = omega (arith, least, sound.collections.from);
        checks = checks_have 2 (omega arith);
        collections =
            none_held config.collections.next config.collections.list (omega (arith, least))
            sound.collections.ids;
        zones = zones_have;
      }

pub sound_have_snapshots : SoundHaveSnapshots
sound_have_snapshots config sound = record {
  version = version_of config;
  has = has_by config sound (nat_lt 1 config.collections.next) refl;
  spelled = refl;
}
