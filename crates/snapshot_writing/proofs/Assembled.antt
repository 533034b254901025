-- The parts of a snapshot, appended one after another, are the snapshot; and what a sound
-- configuration gives to them.
use Rattle.std.proofs.Common.{◌≡◌, ℕ, ◌<◌, ◌≤◌, ◌^◌, Bool, true, false, List, [], ◌∷◌, ◌++◌, length, ap, ◌∙◌, sym, refl, subst, arith}
use Rattle.std.specs.Prelude.{nat_lt, if◌then◌else◌}
use Rattle.std.specs.List.{AllByRecursion}
use Rattle.octets.specs.Numbers.{four_octets, two_octets}
use Rattle.octet_reading.specs.Rules.{AreListable, list_octets}
use Rattle.check_model.specs.Checks.{IsBounded}
use Rattle.check_model.specs.declared.checks.Check.{Check}
use Rattle.check_octets.specs.Octets.{where_spelled}
use Rattle.cidr_blocks.specs.declared.places.Collection.{Collection}
use Rattle.config_zones.specs.Configs.{Config}
use Rattle.config_zones.specs.Sound.{Sound}
use Rattle.snapshot_octets.specs.Laws.{SoundAreShort, SoundHaveSnapshots}
use Rattle.snapshot_octets.specs.Octets.{IsHeldCheck, IsHeldCollection, IsWhereSpelled}
use Rattle.snapshot_octets.specs.Octets.{numbered_check_octets, held_collection_octets, snapshot}
use Rattle.snapshot_octets.specs.Octets.{snapshot_octets, spells_collections, zone_octets}
use Rattle.snapshot_writing.proofs.Held.{same_checks}
use Rattle.snapshot_writing.specs.Versions.{version_spelled}

-- ---- one after another

abbrev parts_of : (told : Bool) → Config → List ℕ
parts_of told config =
    version_spelled told ∷ (four_octets config.next_zone ++ four_octets config.checks.next
    ++ where_spelled told (four_octets config.collections.next)
    ++ list_octets (numbered_check_octets 2) config.checks.list
    ++ where_spelled told (list_octets held_collection_octets config.collections.list)
    ++ list_octets zone_octets config.zones)

same_parts : (told : Bool) (config : Config)
    → parts_of told config ≡ snapshot_octets (if told then 3 else 2) config
same_parts true config =
    ap (λ (checks : List ℕ). 3 ∷ (four_octets config.next_zone ++ four_octets config.checks.next
    ++ four_octets config.collections.next
    ++ (two_octets (length config.checks.list) ++ checks)
    ++ list_octets held_collection_octets config.collections.list
    ++ list_octets zone_octets config.zones)) (same_checks config.checks.list)
same_parts false config = refl

pub assembled : (config : Config) (told : Bool) → nat_lt 1 config.collections.next ≡ told
    → {o0 o1 o2 o3 o4 o5 o6 o7 : List ℕ}
    → o0 ≡ [] → o1 ≡ o0 ++ version_spelled told ∷ [] → o2 ≡ o1 ++ four_octets config.next_zone
    → o3 ≡ o2 ++ four_octets config.checks.next
    → o4 ≡ o3 ++ where_spelled told (four_octets config.collections.next)
    → o5 ≡ o4 ++ list_octets (numbered_check_octets 2) config.checks.list
    → o6 ≡ o5 ++ where_spelled told (list_octets held_collection_octets config.collections.list)
    → o7 ≡ o6 ++ list_octets zone_octets config.zones
    → o7 ≡ snapshot config
assembled config told is e0 e1 e2 e3 e4 e5 e6 e7 =
    e7 ∙ ap (λ t. t ++ list_octets zone_octets config.zones)
    (e6 ∙ ap (λ t. t ++ where_spelled told
    (list_octets held_collection_octets config.collections.list))
    (e5 ∙ ap (λ t. t ++ list_octets (numbered_check_octets 2) config.checks.list)
    (e4 ∙ ap (λ t. t ++ where_spelled told (four_octets config.collections.next))
    (e3 ∙ ap (λ t. t ++ four_octets config.checks.next)
    (e2 ∙ ap (λ t. t ++ four_octets config.next_zone)
    (e1 ∙ ap (λ t. t ++ version_spelled told ∷ []) e0))))))
    ∙ (same_parts told config
    ∙ ap (λ b. snapshot_octets (if b then 3 else 2) config) (sym is))

-- ---- what a sound configuration gives

pub is_short : SoundAreShort → (config : Config) → Sound config → {octets : List ℕ}
    → octets ≡ snapshot config → length octets ≤ 268435435
is_short law config sound is =
    subst (λ (o : List ℕ). length o ≤ 268435435) (sym is) (law config sound)

bounded_each : (version : ℕ) (list : List (ℕ × Check)) → AllByRecursion (IsHeldCheck version) list
    → AllByRecursion (λ (held : ℕ × Check). IsBounded held.1) list
bounded_each version [] all = tt
bounded_each version (held ∷ list) all = (all.0.bounded, bounded_each version list all.1)

told_by : (b : Bool) (list : List (ℕ × Collection))
    → IsWhereSpelled b [] (AreListable IsHeldCollection) list
    → (length list < 2 ^ 16) × AllByRecursion IsHeldCollection list
told_by true list listed = (listed.count, listed.each)
told_by false list none =
    subst (λ (l : List (ℕ × Collection)). (length l < 2 ^ 16) × AllByRecursion IsHeldCollection l)
    (sym none) (omega arith, tt)

module _ (law : SoundHaveSnapshots) (config : Config) (sound : Sound config) where
  pub checks_are : AllByRecursion (λ (held : ℕ × Check). IsBounded held.1) config.checks.list
  checks_are =
      let has = (law config sound).has in
      bounded_each (law config sound).version config.checks.list has.checks.each

  pub collections_are : (length config.collections.list < 2 ^ 16)
      × AllByRecursion IsHeldCollection config.collections.list
  collections_are =
      told_by (spells_collections (law config sound).version) config.collections.list
      (law config sound).has.collections
