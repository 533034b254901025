-- What is left of octets that are a snapshot of a sound configuration.
use Rattle.std.proofs.Common.{◌≡◌, ℕ, zero, suc, ◌+◌, ◌-◌, ◌≤◌, ◌<◌, List, [], ◌∷◌, ◌++◌, length}
use Rattle.std.proofs.Common.{ap, ◌∙◌, sym, refl, subst, arith, Option, None, Some, Result, Ok}
use Rattle.std.proofs.Common.{Err, inl, inr}
use Rattle.std.specs.Prelude.{◌≢◌, IsErr}
use Rattle.std.proofs.lemmas.Bool.{cases_eq, false≢true}
use Rattle.std.proofs.lemmas.List.{append_assoc, length-append, append-nil}
use Rattle.config_zones.specs.Configs.{Config}
use Rattle.config_zones.specs.Sound.{Sound}
use Rattle.config_zones.specs.Told.{RefusalsAreTold}
use Rattle.dns_name.specs.Names.{AreOctets}
use Rattle.snapshot_reading.specs.LawsOfSnapshotOctets.{SnapshotsAreTold, SnapshotsReadBack, TellsConfig}
use Rattle.snapshot_reading.specs.Octets.{IsSnapshot}
use Rattle.snapshot_reading.specs.Reading.{read, zone_at}
use Rattle.snapshot_reading.specs.Laws.{IsReadTo, SnapshotsReadInParts}
use Rattle.snapshot_reading.specs.Parts.{Begun, front_at, with_zones}
use Rattle.snapshot_reading.specs.Places.{GivesOrNone, found_at}
use Rattle.snapshot_reading.specs.declared.faults.SnapshotFault.{SnapshotFault}
use Rattle.snapshot_reading.specs.declared.faults.SnapshotFault.TheVariants.{Bad, OutOfMemory}
use Rattle.zone_model.specs.Hosted.{HostedZone}
use Rattle.config_reading.specs.Reading.{IsOfNone, IsOfSound, IsReadSoundly, front_of, with_zone}
use Rattle.config_reading.proofs.Prefix.{sound_in_front}

not_both : (octets : List ℕ) (config : Config) → read octets ≡ Ok config → IsErr (read octets) → ⊥
not_both octets config is err = false≢true (subst (λ r. IsErr r) is err)

same_ok : (config other : Config) → ◌≡◌ {A = Result Config ℕ} (Ok config) (Ok other)
    → config ≡ other
same_ok config other e = cc

module _ (law : SnapshotsReadInParts) (octets : List ℕ) (are : AreOctets octets) (begun : Begun)
    (config : Config) (is : read octets ≡ Ok config) where
  -- the zones that were read are the first of the configuration's
  remaining : (left : ℕ) (zones : List HostedZone) (at : ℕ) → IsReadTo octets begun zones at
      → length zones + left ≡ begun.zones
      → (more : List HostedZone) × (config ≡ with_zones begun (zones ++ more))
  remaining zero zones at to count = elim (cases_eq at (length octets)) [
    | inl end ↦
        (let whole : read octets ≡ Ok (with_zones begun zones) =
        law.ends octets begun zones are (subst (λ n. IsReadTo octets begun zones n) end to)
        (omega (arith, count)) in (
          [],
          same_ok config (with_zones begun zones) (sym is ∙ whole)
              ∙ ap (with_zones begun) (sym (append-nil zones)),
        ))
    | inr other ↦
        absurd (not_both octets config is
        (law.left_over octets begun zones at are to (omega (arith, count)) other))
  ]
  remaining (suc left) zones at to count =
      by (λ zone next e. remaining left (zones ++ zone ∷ []) next
      (law.goes_on octets begun zones at zone next to e)
      (let size = length-append zones (zone ∷ []) in omega (arith, count, size)))
      (found_at zone_at octets at) refl
    where
      by : ((zone : HostedZone) (next : ℕ) → found_at zone_at octets at ≡ Some (zone, next)
          → (more : List HostedZone)
          × (config ≡ with_zones begun ((zones ++ zone ∷ []) ++ more)))
          → (found : Option (HostedZone × ℕ)) → found_at zone_at octets at ≡ found
          → (more : List HostedZone) × (config ≡ with_zones begun (zones ++ more))
      by rest None e =
          absurd (not_both octets config is
          (law.no_zone octets begun zones at are to (omega (arith, count)) e))
      by rest (Some (zone, next)) e =
          let found = rest zone next e in
          (zone ∷ found.0, found.1 ∙ ap (with_zones begun) (append_assoc zones (zone ∷ []) found.0))

-- a fault that is handed on
pub err_is : {Y Z : Type 0} (fault other : SnapshotFault)
    → ◌≡◌ {A = Result Y SnapshotFault} (Err fault) (Err other)
    → ◌≡◌ {A = Result Z SnapshotFault} (Err fault) (Err other)
err_is fault other e = let same : fault ≡ other = cc in ap Err same

-- a part that was not read: it isn't there, or memory ran out
pub bad_only : {X Y Z : Type 0} (view : X → Y) (fault : SnapshotFault) (found : Option Y)
    (octets : List ℕ) → GivesOrNone view (Err fault) found → (found ≡ None → IsOfNone octets)
    → ◌≡◌ {A = Result Z SnapshotFault} (Err fault) (Err Bad) → IsOfNone octets
bad_only view Bad found octets finds so e = so finds
bad_only view OutOfMemory found octets finds so e = absurd (grind (arith, e))

module _ (law : SnapshotsReadInParts) (back : SnapshotsReadBack) (told : RefusalsAreTold)
    (octets : List ℕ) (are : AreOctets octets) where
  pub read_as : (config : Config) → IsSnapshot octets config → read octets ≡ Ok config
  read_as config snapshot =
      ap read snapshot.spelled ∙ back snapshot.version config snapshot.has

  pub no_front : found_at front_at octets 0 ≡ None → IsOfNone octets
  no_front none config of_it =
      not_both octets config (read_as config of_it.snapshot) (law.no_front octets none)

  module _ (begun : Begun) (zones : List HostedZone) (at : ℕ)
      (to : IsReadTo octets begun zones at) (few : length zones ≤ begun.zones) where
    -- with the zones that were read alone it is sound too
    pub sound_so_far : (config : Config) → IsOfSound octets config
        → Sound (with_zones begun zones)
    sound_so_far config of_it =
        let rest = remaining law octets are begun config (read_as config of_it.snapshot)
        (begun.zones - length zones) zones at to (omega (arith, few)) in
        sound_in_front told (with_zones begun []) zones rest.0
        (subst Sound rest.1 of_it.sound)

    pub not_sound : (Sound (with_zones begun zones) → ⊥) → IsOfNone octets
    not_sound never config of_it = never (sound_so_far config of_it)

    pub no_zone : length zones < begun.zones → found_at zone_at octets at ≡ None → IsOfNone octets
    no_zone fewer none config of_it =
        not_both octets config (read_as config of_it.snapshot)
        (law.no_zone octets begun zones at are to fewer none)

    pub left_over : length zones ≡ begun.zones → at ≢ length octets → IsOfNone octets
    left_over all other config of_it =
        not_both octets config (read_as config of_it.snapshot)
        (law.left_over octets begun zones at are to all other)

  -- a zone that was read, with which it isn't sound
  pub not_with : (config : Config) (count at : ℕ) (zone : HostedZone) (next : ℕ)
      → IsReadSoundly octets config count at → length config.zones < count
      → found_at zone_at octets at ≡ Some (zone, next)
      → (Sound (with_zone config zone) → ⊥) → IsOfNone octets
  not_with config count at zone next soundly fewer found =
      let size = length-append config.zones (zone ∷ []) in
      not_sound (front_of config count) (config.zones ++ zone ∷ []) next
      (law.goes_on octets (front_of config count) config.zones at zone next soundly.read found)
      (omega (arith, fewer, size))

  pub goes_on : (config : Config) (count at : ℕ) (zone : HostedZone) (next : ℕ)
      → IsReadSoundly octets config count at → length config.zones < count
      → found_at zone_at octets at ≡ Some (zone, next)
      → (after : Config) → after ≡ with_zone config zone → Sound after
      → IsReadSoundly octets after count next
  goes_on config count at zone next soundly fewer found after same sound =
      let size = length-append config.zones (zone ∷ []) in
      subst (λ (c : Config). IsReadSoundly octets c count next) (sym same) (record {
        read = law.goes_on octets (front_of config count) config.zones at zone next soundly.read
            found;
        few = omega (arith, fewer, size);
        sound = subst Sound same sound;
      })

  -- all zones were read, to the end
  pub whole : SnapshotsAreTold → (config : Config) (count : ℕ)
      → IsReadSoundly octets config count (length octets) → length config.zones ≡ count
      → IsOfSound octets config
  whole tells config count soundly all = record {
    snapshot = subst (λ r. TellsConfig octets r)
        (law.ends octets (front_of config count) config.zones are soundly.read all)
        (tells octets are);
    sound = soundly.sound;
  }
