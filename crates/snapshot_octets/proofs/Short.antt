-- How many octets the snapshot of a sound configuration has.
use Rattle.std.proofs.Common.{ℕ, ◌+◌, ◌*◌, ◌≤◌, Bool, true, false, List, [], ◌∷◌, ◌++◌, length, arith}
use Rattle.std.specs.List.{AllByRecursion, flat_map, sum_by}
use Rattle.std.proofs.Math.Nat.{suc-mul}
use Rattle.std.proofs.lemmas.List.{length-append}
use Rattle.std.proofs.lemmas.List.Concat.{length-flat_map}
use Rattle.std.proofs.lemmas.List.Sums.{sum_by-cons}
use Rattle.octets.specs.Numbers.{four_octets}
use Rattle.dns_name.specs.Labels.{wire}
use Rattle.config_model.specs.RulesOfOctetReading.{list_octets, text_octets}
use Rattle.address_text.specs.declared.address.IpAddress.{IpAddress}
use Rattle.address_text.specs.declared.address.IpAddress.TheVariants.{V4, V6}
use Rattle.config_model.specs.Octets.{block_octets, family_of}
use Rattle.check_model.specs.Checks.{IsBounded}
use Rattle.check_model.specs.declared.checks.Check.{Check}
use Rattle.check_model.specs.declared.checks.Check.TheVariants.{Calculated, Endpoint}
use Rattle.config_model.specs.OctetsOfCheckOctets.{check_octets, disabled_octets, flag_octets, spells_disabled}
use Rattle.config_model.specs.OctetsOfCheckOctets.{where_spelled}
use Rattle.config_model.specs.Places.{IsBlock, IsCidrLocation, IsCollection, octets_of, rows_of}
use Rattle.config_model.specs.CidrLocationRecord.{CidrLocation}
use Rattle.config_model.specs.CollectionRecord.{Collection}
use Rattle.config_model.specs.Configs as configs
use Rattle.config_model.specs.Configs.{Config}
use Rattle.config_model.specs.Sound.{Sound}
use Rattle.config_model.specs.Told.{RefusalsAreTold}
use Rattle.config_model.specs.Prefixes.{IsPrefix, Prefix}
use Rattle.config_model.specs.OctetsOfSetOctets.{set_octets}
use Rattle.snapshot_octets.specs.Laws.{SoundAreShort}
use Rattle.snapshot_octets.specs.Octets.{IsSpelledZone, collection_octets, counted_octets}
use Rattle.snapshot_octets.specs.Octets.{numbered_check_octets, held_collection_octets}
use Rattle.snapshot_octets.specs.Octets.{location_octets, snapshot_octets, spells_collections}
use Rattle.snapshot_octets.specs.Octets.{version_of, zone_octets}
use Rattle.snapshot_octets.proofs.Sound.{rows_are, sound_have_snapshots}
use Rattle.config_model.specs.Hosted.{HostedZone}

-- ---- lists

-- where each element has so many octets at most
short_list : {A : Type 0} (octets_of : A → List ℕ) (most : ℕ) (xs : List A)
    → AllByRecursion (λ x. length (octets_of x) ≤ most) xs
    → length (flat_map octets_of xs) ≤ length xs * most
short_list octets_of most [] short = omega arith
short_list octets_of most (x ∷ xs) short =
    omega (
      arith,
      length-append (octets_of x) (flat_map octets_of xs),
      suc-mul (length xs) most,
      short.0,
      short_list octets_of most xs short.1,
    )

-- what is told has its octets, and else there are none
told_is : (told : Bool) (octets : List ℕ) → length (where_spelled told octets) ≤ length octets
told_is true octets = omega arith
told_is false octets = omega arith

-- ---- checks

short_children : (children : List ℕ)
    → AllByRecursion (λ child. length (four_octets child) ≤ 4) children
short_children [] = tt
short_children (child ∷ children) = (omega arith, short_children children)

check_is : (version : ℕ) (check : Check) → IsBounded check
    → length (check_octets version check) ≤ 1027
check_is version (Endpoint threshold inverted disabled) bounded =
    omega (arith, told_is (spells_disabled version) (flag_octets disabled))
check_is version (Calculated threshold inverted disabled children) bounded =
    omega (
      arith,
      length-append (disabled_octets version disabled) (list_octets four_octets children),
      told_is (spells_disabled version) (flag_octets disabled),
      bounded.1,
      short_list four_octets 4 children (short_children children),
    )

short_checks : (version : ℕ) (list : List (ℕ × Check))
    → AllByRecursion (λ (held : ℕ × Check). IsBounded held.1) list
    → AllByRecursion (λ held. length (numbered_check_octets version held) ≤ 1031) list
short_checks version [] bounded = tt
short_checks version (held ∷ list) bounded =
    let is = check_is version held.1 bounded.0 in
    (omega (arith, is), short_checks version list bounded.1)

-- ---- collections

address_is : (address : IpAddress) (bits : ℕ) → IsPrefix address bits
    → length (family_of address ∷ (octets_of address ++ bits ∷ [])) ≤ 18
address_is (V4 octets) bits is = omega (arith, length-append octets (bits ∷ []), is.octets.long)
address_is (V6 octets) bits is = omega (arith, length-append octets (bits ∷ []), is.octets.long)

short_blocks : (blocks : List Prefix) → AllByRecursion IsBlock blocks
    → AllByRecursion (λ block. length (block_octets block) ≤ 18) blocks
short_blocks [] are = tt
short_blocks (block ∷ blocks) are =
    (address_is block.address block.length are.0.prefix_is, short_blocks blocks are.1)

location_is : (location : CidrLocation) → IsCidrLocation location
    → length (location_octets location) ≤ 19 + length location.blocks * 18
location_is location is =
    let name = text_octets location.name in
    let blocks = list_octets block_octets location.blocks in
    let short = short_list block_octets 18 location.blocks
    (short_blocks location.blocks is.are_blocks) in
    omega (arith, length-append name blocks, is.name.short, short)

-- Each location has a block.
locations_are : (locations : List CidrLocation) → AllByRecursion IsCidrLocation locations
    → length (flat_map location_octets locations) ≤ length (rows_of locations) * 37
locations_are [] are = omega arith
locations_are (location ∷ locations) are =
    omega (
      arith,
      length-append (location_octets location) (flat_map location_octets locations),
      rows_are location locations,
      location_is location are.0,
      are.0.some,
      locations_are locations are.1,
    )

collection_is : (collection : Collection) → IsCollection collection
    → length (collection_octets collection) ≤ 37067
collection_is collection is =
    let name = text_octets collection.name in
    let locations = list_octets location_octets collection.locations in
    omega (
      arith,
      length-append name locations,
      is.name.short,
      is.few,
      locations_are collection.locations is.each,
    )

short_collections : (list : List (ℕ × Collection))
    → AllByRecursion (λ (held : ℕ × Collection). IsCollection held.1) list
    → AllByRecursion (λ held. length (held_collection_octets held) ≤ 37071) list
short_collections [] are = tt
short_collections (held ∷ list) are =
    let is = collection_is held.1 are.0 in
    (omega (arith, is), short_collections list are.1)

-- ---- zones

zone_is : (zone : HostedZone) → IsSpelledZone zone
    → length (zone_octets zone) ≤ 263 + configs.octets_of zone
zone_is zone is =
    let number = four_octets zone.id in
    let sets = counted_octets set_octets zone.sets in
    omega (
      arith,
      length-append (number ++ wire zone.apex) sets,
      length-append number (wire zone.apex),
      length-flat_map set_octets zone.sets,
      is.name.raw.fits,
    )

zones_are : (zones : List HostedZone) → AllByRecursion IsSpelledZone zones
    → length (flat_map zone_octets zones) ≤ length zones * 263 + sum_by configs.octets_of zones
zones_are [] are = omega arith
zones_are (zone ∷ zones) are =
    omega (
      arith,
      length-append (zone_octets zone) (flat_map zone_octets zones),
      sum_by-cons configs.octets_of zone zones,
      zone_is zone are.0,
      zones_are zones are.1,
    )

-- ---- all of it

module _ (refusals : RefusalsAreTold) (config : Config) (sound : Sound config) where
  checks_are : (version : ℕ)
      → length (list_octets (numbered_check_octets version) config.checks.list) ≤ 206202
  checks_are version =
      omega (
        arith,
        sound.checks.few,
        short_list (numbered_check_octets version) 1031 config.checks.list
            (short_checks version config.checks.list sound.checks.bounded),
      )

  collections_are : length (list_octets held_collection_octets config.collections.list) ≤ 3707102
  collections_are =
      omega (
        arith,
        sound.collections.few,
        short_list held_collection_octets 37071 config.collections.list
            (short_collections config.collections.list sound.collections.each),
      )

  all_zones : length (list_octets zone_octets config.zones) ≤ 67240366
  all_zones =
      omega (
        arith,
        sound.few,
        ((refusals.store config.zones).0 sound.not_full).octets,
        zones_are config.zones (sound_have_snapshots config sound).has.zones.each,
      )

  short_in : (version : ℕ) → length (snapshot_octets version config) ≤ 71153683
  short_in version =
      let told = spells_collections version in
      let numbers = four_octets config.next_zone ++ four_octets config.checks.next in
      let next = where_spelled told (four_octets config.collections.next) in
      let checks = list_octets (numbered_check_octets version) config.checks.list in
      let held = list_octets held_collection_octets config.collections.list in
      let zones = list_octets zone_octets config.zones in
      omega (
        arith,
        length-append (((numbers ++ next) ++ checks) ++ where_spelled told held) zones,
        length-append ((numbers ++ next) ++ checks) (where_spelled told held),
        length-append (numbers ++ next) checks,
        length-append numbers next,
        told_is told (four_octets config.collections.next),
        told_is told held,
        checks_are version,
        collections_are,
        all_zones,
      )

pub sound_are_short : RefusalsAreTold → SoundAreShort
sound_are_short refusals config sound =
    let short = short_in refusals config sound (version_of config) in
    omega (arith, short)
