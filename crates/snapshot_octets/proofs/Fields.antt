-- The readers of a snapshot's fields, each by the rules for readers that are built from readers.
use Rattle.std.proofs.Common.{◌≡◌, ℕ, ◌<◌, ◌≤◌, ◌^◌, inl, inr, Bool, true, false, List, [], ◌∷◌, ◌++◌, length, arith, sym, refl, subst, eqb}
use Rattle.std.proofs.lemmas.Bool.{leb-true, le-leb}
use Rattle.std.specs.List.{AllByRecursion}
use Rattle.octets.specs.Numbers.{four_octets}
use Rattle.config_model.specs.Readers.{Reader}
use Rattle.config_model.specs.Reading.{four_at}
use Rattle.config_model.specs.RulesOfOctetReading.{AreListable, IsReadAs, list_octets}
use Rattle.config_model.proofs.Base.{name_read, octet_read}
use Rattle.config_model.proofs.Composed.{in_turn_by_read, in_turn_read, so_many_read, tested_read}
use Rattle.config_model.proofs.Optional.{list_read}
use Rattle.config_model.proofs.Rules.{alike, nothing_read, seen_read, then_read}
use Rattle.command_codec.proofs.Prefixes.{block_read}
use Rattle.command_codec.proofs.Texts as texts
use Rattle.config_model.specs.OctetsOfCheckOctets.{where_spelled}
use Rattle.command_codec.proofs.CommandsOfCheckReading.{check_read}
use Rattle.command_codec.proofs.PartsOfCheckReading.{number_read}
use Rattle.command_codec.specs.Fields.{counted_at, spelled_at}
use Rattle.command_codec.proofs.Fields.{set_read}
use Rattle.config_model.specs.Configs.{Config}
use Rattle.config_model.specs.LawsOfSetReading as set_laws
use Rattle.snapshot_octets.specs.Octets.{HasSnapshot, IsHeldCheck, IsHeldCollection}
use Rattle.snapshot_octets.specs.Octets.{IsSpelledCollection, IsSpelledLocation}
use Rattle.snapshot_octets.specs.Octets.{IsSpelledZone, IsVersion, IsWhereSpelled, collection_octets}
use Rattle.snapshot_octets.specs.Octets.{counted_octets, numbered_check_octets, held_collection_octets}
use Rattle.snapshot_octets.specs.Octets.{location_octets, snapshot_octets, spells_collections}
use Rattle.snapshot_octets.specs.Octets.{zone_octets}
use Rattle.snapshot_octets.specs.Reading.{collected, collection_at, config_at, configured}
use Rattle.snapshot_octets.specs.Reading.{versioned_at, numbered_check_at, numbered_collection_at, hosted}
use Rattle.snapshot_octets.specs.Reading.{is_later, is_version, later_at, located, location_at}
use Rattle.snapshot_octets.specs.Reading.{version_at, zone_at}

-- ---- versions

abbrev IsOfVersion : ℕ → Type 0
IsOfVersion version = (version < 2 ^ 8) × (is_version version ≡ true)

version_of : (version : ℕ) → is_version version ≡ true → IsVersion version
version_of version h = by (eqb version 1) (eqb version 2) (eqb version 3) refl refl refl h
  where
    by : (b c d : Bool) → eqb version 1 ≡ b → eqb version 2 ≡ c → eqb version 3 ≡ d
        → is_version version ≡ true → IsVersion version
    by true c d e f g h = inl (grind (arith, e))
    by false true d e f g h = inr (inl (grind (arith, f)))
    by false false true e f g h = inr (inr (grind (arith, g)))
    by false false false e f g h = absurd (grind (arith, e, f, g, h))

version_to : (version : ℕ) → IsVersion version → IsOfVersion version
version_to version (inl e) = subst IsOfVersion (sym e) (omega arith, refl)
version_to version (inr (inl e)) = subst IsOfVersion (sym e) (omega arith, refl)
version_to version (inr (inr e)) = subst IsOfVersion (sym e) (omega arith, refl)

pub version_read : IsReadAs IsVersion (λ version. version ∷ []) version_at
unfolding version_at
version_read =
    alike (tested_read is_version octet_read) (λ version h. (version_of version h.1, refl))
    version_to

-- ---- what a version tells

-- a field that stands there where it is told
told_read : {A : Type 0} {is : A → Type 0} {octets_of : A → List ℕ} {read : Reader A}
    (told : Bool) (left : A) → IsReadAs is octets_of read
    → IsReadAs (IsWhereSpelled told left is) (λ x. where_spelled told (octets_of x))
    (spelled_at told left read)
told_read true left inside = alike inside (λ x h. (h, refl)) (λ x h. h)
told_read false left inside = alike (nothing_read left) (λ x h. (h, refl)) (λ x h. h)

later_read : IsReadAs (λ next. 2 ≤ next) four_octets later_at
unfolding later_at
later_read = alike (tested_read is_later number_read) (λ next h. (leb-true 2 next h.1, refl))
    (λ next h. (tt, le-leb 2 next h))

-- ---- checks

pub held_check_read : (version : ℕ)
    → IsReadAs (IsHeldCheck version) (numbered_check_octets version) (numbered_check_at version)
unfolding numbered_check_at
held_check_read version = alike (in_turn_read number_read (check_read version))
    (λ held h. (h.1, refl)) (λ held h. (tt, h))

-- ---- collections

location_read : IsReadAs IsSpelledLocation location_octets location_at
unfolding location_at
location_read =
    seen_read located (in_turn_read texts.location_read (list_read block_read))
    (λ p h. (record { name = h.0; blocks = h.1 }, refl))
    (λ location h. ((location.name, location.blocks), (h.name, h.blocks), refl))

collection_read : IsReadAs IsSpelledCollection collection_octets collection_at
unfolding collection_at
collection_read =
    seen_read collected (in_turn_read texts.name_read (list_read location_read))
    (λ p h. (record { name = h.0; locations = h.1 }, refl))
    (λ collection h. ((collection.name, collection.locations), (h.name, h.locations), refl))

pub held_collection_read : IsReadAs IsHeldCollection held_collection_octets numbered_collection_at
unfolding numbered_collection_at
held_collection_read = alike (in_turn_read number_read collection_read)
    (λ held h. (h.1, refl)) (λ held h. (tt, h))

-- ---- zones

-- a list that may be long
counted_read : {A : Type 0} {is : A → Type 0} {octets_of : A → List ℕ} {read : Reader A}
    → IsReadAs is octets_of read
    → IsReadAs (AllByRecursion is) (counted_octets octets_of) (counted_at four_at read)
counted_read {A = A} item =
    alike (then_read (λ (xs : List A). length xs) number_read (so_many_read item))
    (λ xs h. (h.1, refl)) (λ xs h. (tt, h))

-- a configuration beside a version in which it has a snapshot
abbrev pub IsIn : ℕ × Config → Type 0
IsIn p = HasSnapshot p.0 p.1

abbrev pub octets_in : ℕ × Config → List ℕ
octets_in p = snapshot_octets p.0 p.1

module _ (written : set_laws.WrittenReadsBack) (told : set_laws.SetsAreTold) where
  pub zone_read : IsReadAs IsSpelledZone zone_octets zone_at
  unfolding zone_at
  zone_read =
      seen_read hosted
      (in_turn_read (in_turn_read number_read name_read) (counted_read (set_read written told)))
      (λ p h. (record { name = h.0.1; sets = h.1 }, refl))
      (λ zone h. (((zone.id, zone.apex), zone.sets), ((tt, h.name), h.sets), refl))

  -- ---- a snapshot

  -- what stands behind the version
  abbrev IsBehind : (version : ℕ) → Config → Type 0
  IsBehind version config =
      IsWhereSpelled (spells_collections version) 1 (λ next. 2 ≤ next) config.collections.next
      × AreListable (IsHeldCheck version) config.checks.list
      × IsWhereSpelled (spells_collections version) [] (AreListable IsHeldCollection)
      config.collections.list
      × AreListable IsSpelledZone config.zones

  abbrev octets_behind : (version : ℕ) → Config → List ℕ
  octets_behind version config =
      four_octets config.next_zone ++ four_octets config.checks.next
      ++ where_spelled (spells_collections version) (four_octets config.collections.next)
      ++ list_octets (numbered_check_octets version) config.checks.list
      ++ where_spelled (spells_collections version)
      (list_octets held_collection_octets config.collections.list)
      ++ list_octets zone_octets config.zones

  config_read : (version : ℕ)
      → IsReadAs (IsBehind version) (octets_behind version) (config_at version)
  unfolding config_at
  config_read version =
      seen_read configured
      (in_turn_read (in_turn_read (in_turn_read (in_turn_read (in_turn_read number_read number_read)
      (told_read (spells_collections version) 1 later_read))
      (list_read (held_check_read version)))
      (told_read (spells_collections version) [] (list_read held_collection_read)))
      (list_read zone_read))
      (λ p h. ((h.0.0.0.1, h.0.0.1, h.0.1, h.1), refl))
      (λ config h. (
        (
          (
            (((config.next_zone, config.checks.next), config.collections.next), config.checks.list),
            config.collections.list,
          ),
          config.zones,
        ),
        ((((((tt, tt), h.0), h.1), h.2), h.3)),
        refl,
      ))

  pub front_read : IsReadAs IsIn octets_in versioned_at
  unfolding versioned_at
  front_read = alike (in_turn_by_read version_read config_read)
      (λ p h. (
        record {
          known = h.0;
          next = h.1.0;
          checks = h.1.1;
          collections = h.1.2;
          zones = h.1.3;
        },
        refl,
      ))
      (λ p h. (h.known, (h.next, h.checks, h.collections, h.zones)))
