-- A sound configuration with a zone more behind its own.
use Rattle.std.proofs.Common.{◌≡◌, ℕ, ◌+◌, ◌≤◌, ◌<◌, Bool, false, IsTrue, ◌↔◌, List, [], ◌∷◌}
use Rattle.std.proofs.Common.{◌++◌, length, map, ap, ◌∙◌, sym, refl, subst, arith, None, inl, inr}
use Rattle.std.specs.Prelude.{◌≢◌}
use Rattle.std.specs.List.{AllByRecursion, sum_by}
use Rattle.std.proofs.lemmas.List.{length-append}
use Rattle.std.proofs.lemmas.List.Sums.{sum_by_push}
use Rattle.check_model.specs.Checks.{Checks}
use Rattle.cidr_commands.specs.Stored.{Stored}
use Rattle.config_zones.specs.Edited.{EditsAreTold, hosted_in}
use Rattle.config_zones.proofs.Left.{all_appended, in_back}
use Rattle.config_zones.proofs.Members.{all_at, all_from}
use Rattle.config_zones.proofs.Told.{told_false}
use Rattle.config_zones.specs.Batches.{is_over, is_store_full, store_refusal}
use Rattle.config_zones.specs.Configs.{Config, count_of, octets_of}
use Rattle.config_zones.specs.Sound.{AreListed, IsSoundZone, Sound}
use Rattle.config_zones.specs.Telling.{refuse_if}
use Rattle.config_zones.specs.RefusalRecord.TheVariants.{StoreFull}
use Rattle.config_zones.specs.Configured.{config_of}
use Rattle.dns_name.specs.Suffix.{EndsWith}
use Rattle.record_set.specs.declared.sets.RecordSet.{RecordSet}
use Rattle.config_zones.specs.Octets.{HasSpelling, set_octets}
use Rattle.zone_allowed.proofs.Rises.{rising_differ}
use Rattle.zone_allowed.specs.New.{IsNewZone}
use Rattle.config_zones.specs.Changes.{CanBeAdded}
use Rattle.config_zones.specs.Zones.{AreZones, CanStand, HasName, IsOne, IsZoneId, Zone, hosted}
use Rattle.zone_model.specs.Hosted.{HostedZone}
use Rattle.zone_model.specs.Zones.{IsAmong}
use Rattle.config_zones.proofs.Naming.{in_map, of_map}
use Rattle.config_zones.specs.Edits.{Edits, IsAllowed}
use Rattle.config_zones.specs.Tables.{Table}
use Rattle.config_zones.specs.ZoneEditRecord.TheVariants.{Begin}
use Rattle.config_zones.specs.ZoneEditRecord.{ZoneEdit}
use Rattle.config_zones.specs.DeltaRecord.{Delta}
use Rattle.config_reading.specs.Reading.{OpensSoundly, with_zone}

abbrev Comes : (first second : HostedZone) → Type 0
Comes first second = (first.id < second.id) × (first.apex ≢ second.apex)

listed_behind : (zones : List HostedZone) (new : HostedZone) → AreListed zones
    → AllByRecursion (λ zone. Comes zone new) zones → AreListed (zones ++ new ∷ [])
listed_behind [] new listed before = (tt, tt)
listed_behind (zone ∷ zones) new listed before = (
  all_appended (Comes zone) zones (new ∷ []) listed.0 (before.0, tt),
  listed_behind zones new listed.1 before.1,
)

comes_last : (zones : List HostedZone) (new zone : HostedZone) → AreListed (zones ++ new ∷ [])
    → IsAmong zones zone → Comes zone new
comes_last [] new zone listed there = absurd there
comes_last (first ∷ zones) new zone listed (inl e) =
    subst (λ z. Comes z new) e
    (all_at (Comes first) (zones ++ new ∷ []) new listed.0
    (in_back zones (new ∷ []) new (inl refl)))
comes_last (first ∷ zones) new zone listed (inr there) = comes_last zones new zone listed.1 there

module _ (table : Table) (checks : Checks) (next : ℕ) (id : ℕ) (name : List (List ℕ))
    (sets : List RecordSet) where
  abbrev before : Config
  before = config_of table checks next

  abbrev new : HostedZone
  new = record { id = id; apex = name; sets = sets }

  abbrev Numbered : HostedZone → Type 0
  Numbered zone = (1 ≤ zone.id) × (zone.id < next)

  abbrev SoundZone : HostedZone → Type 0
  SoundZone zone = IsSoundZone checks.list table.collections.list zone

  -- whether there is room with the sets of the zone
  abbrev IsRoom : Type 0
  IsRoom = is_over (sum_by count_of (hosted_in table.zones) + length sets)
      (sum_by octets_of (hosted_in table.zones) + sum_by (λ set. length (set_octets set)) sets)
      ≡ false

  full_is : is_store_full (hosted_in table.zones ++ new ∷ [])
      ≡ is_over (sum_by count_of (hosted_in table.zones) + length sets)
      (sum_by octets_of (hosted_in table.zones) + sum_by (λ set. length (set_octets set)) sets)
  full_is =
      ap (λ n. is_over n (sum_by octets_of (hosted_in table.zones ++ new ∷ [])))
      (sum_by_push count_of (hosted_in table.zones) new)
      ∙ ap (is_over (sum_by count_of (hosted_in table.zones) + length sets))
      (sum_by_push octets_of (hosted_in table.zones) new)

  -- no zone of the table has a larger number
  abbrev IsLast : Type 0
  IsLast = (zone : Zone) → IsOne table.zones zone → zone.id ≤ id

  module _ (last : IsLast) (is_new : IsNewZone table.zones id name) where
    pub lower : (zone : Zone) → IsOne table.zones zone → zone.id < id
    lower zone there =
        let most = last zone there in
        let other : zone.id ≢ id = λ e. is_new.0 (zone, there, e) in
        omega (arith, most, other)

    comes : (zone : HostedZone) → (x : Zone) × IsAmong table.zones x × (hosted x ≡ zone)
        → Comes zone new
    comes zone (x, there, e) =
        subst (λ z. Comes z new) e (lower x there, λ same. is_new.1 (x, there, same))

    pub sound_with : Sound before → SoundZone new → id < next
        → length (hosted_in table.zones) < 500 → IsRoom → Sound (with_zone before new)
    sound_with sound zone below few room = record {
      checks = sound.checks;
      collections = sound.collections;
      from = sound.from;
      to = sound.to;
      numbers = all_appended Numbered before.zones (new ∷ []) sound.numbers
          ((let some = is_new.2 in omega (arith, some), below), tt);
      listed = listed_behind before.zones new sound.listed
          (all_from (λ z. Comes z new) before.zones
          (λ z there. comes z (of_map hosted table.zones z there)));
      few = let size = length-append before.zones (new ∷ []) in omega (arith, size, few);
      each = all_appended SoundZone before.zones (new ∷ []) sound.each (zone, tt);
      not_full = ap (λ full. refuse_if full StoreFull) (full_is ∙ room);
    }

  module _ (sound : Sound (with_zone before new)) where
    there : IsAmong (hosted_in table.zones ++ new ∷ []) new
    there = in_back (hosted_in table.zones) (new ∷ []) new (inl refl)

    pub zone_sound : SoundZone new
    zone_sound = all_at SoundZone (hosted_in table.zones ++ new ∷ []) new sound.each there

    numbered : Numbered new
    numbered = all_at Numbered (hosted_in table.zones ++ new ∷ []) new sound.numbers there

    after : (zone : Zone) → IsOne table.zones zone → Comes (hosted zone) new
    after zone among =
        comes_last (hosted_in table.zones) new (hosted zone) sound.listed
        (in_map hosted table.zones zone among)

    pub is_last : (id < next) × IsLast
    is_last = (numbered.1, λ zone among. (let lt = (after zone among).0 in omega (arith, lt)))

    pub has_room : (length (hosted_in table.zones) < 500) × IsRoom
    has_room = (
      (let size = length-append (hosted_in table.zones) (new ∷ []) in
          let few = sound.few in omega (arith, size, few)),
      sym full_is ∙ told_false (is_store_full (hosted_in table.zones ++ new ∷ [])) StoreFull
          sound.not_full,
    )

    can_be_added : CanBeAdded name sets
    can_be_added = record {
      each = all_from (CanStand name) sets
          (λ set at. record {
            inside = all_at (λ (s : RecordSet). EndsWith s.name name) sets set
                zone_sound.sets.inside at;
            spelled = all_at HasSpelling sets set zone_sound.spelled at;
          });
      differ = rising_differ sets zone_sound.sets.rising;
    }

    pub is_new_zone : IsNewZone table.zones id name
    is_new_zone = (
      λ is. (let lt = (after is.0 is.1).0 in let same = is.2 in omega (arith, lt, same)),
      λ is. (after is.0 is.1).1 is.2,
      (let some = numbered.0 in omega (arith, some)),
    )

    pub allowed : IsAllowed table.zones (Begin id name sets)
    allowed = (is_new_zone.0, is_new_zone.1, can_be_added, is_new_zone.2)

  -- the table once the zone is opened in it
  pub opened : EditsAreTold → (now : Table) → AreZones table.zones → AreZones now.zones
      → Sound (with_zone before new) → (sets_lent : Delta)
      → Edits table.zones (Begin id name sets) now.zones sets_lent
      → now.collections ≡ table.collections → config_of now checks next ≡ with_zone before new
  opened law now are are_now sound sets_lent edits same =
      ap (λ (zones : List HostedZone). record {
        zones = zones;
        next_zone = next;
        checks = checks;
        collections = now.collections;
      }) (law.opened table.zones now.zones id name sets sets_lent are are_now
      (λ zone among. (after sound zone among).0) (zone_sound sound).sets.rising edits)
      ∙ ap (λ (stored : Stored). record {
        zones = hosted_in table.zones ++ new ∷ [];
        next_zone = next;
        checks = checks;
        collections = stored;
      }) same

  -- ---- what is told of it

  pub told_zone : (stored : Stored) (slice : List RecordSet) → stored ≡ table.collections
      → slice ≡ sets → (is : Bool)
      → ((n : ℕ) → IsTrue is
      ↔ IsSoundZone checks.list stored.list (record { id = n; apex = name; sets = slice }))
      → IsTrue is ↔ SoundZone new
  told_zone stored slice one same is sets_lent =
      subst (λ (s : List RecordSet). IsTrue is
      ↔ IsSoundZone checks.list table.collections.list (record { id = id; apex = name; sets = s }))
      same
      (subst (λ (st : Stored). IsTrue is
      ↔ IsSoundZone checks.list st.list (record { id = id; apex = name; sets = slice })) one
      (sets_lent id))

  abbrev IsRoomFor : List RecordSet → Type 0
  IsRoomFor slice =
      (length (hosted_in table.zones) < 500)
      × (is_over (sum_by count_of (hosted_in table.zones) + length slice)
      (sum_by octets_of (hosted_in table.zones) + sum_by (λ set. length (set_octets set)) slice)
      ≡ false)

  pub told_room : (slice : List RecordSet) → slice ≡ sets → (has : Bool)
      → IsTrue has ↔ IsRoomFor slice → IsTrue has ↔ IsRoomFor sets
  told_room slice same has sets_lent =
      subst (λ (s : List RecordSet). IsTrue has ↔ IsRoomFor s) same sets_lent

  module _ (edit : ZoneEdit) (is : edit ≡ Begin id name sets) where
    pub to_sound : OpensSoundly before edit → Sound (with_zone before new)
    to_sound opens = subst (OpensSoundly before) is opens

    pub from_sound : Sound (with_zone before new) → OpensSoundly before edit
    from_sound sound = subst (OpensSoundly before) (sym is) sound
