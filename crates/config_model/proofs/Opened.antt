-- A new zone leaves a sound configuration.
use Rattle.std.proofs.Common.{◌≡◌, ◌≢◌, ℕ, ◌+◌, ◌<◌, ◌≤◌, true, false, List, [], ◌∷◌, ◌++◌, length}
use Rattle.std.proofs.Common.{ap, ◌∙◌, sym, subst, arith, None}
use Rattle.std.specs.Prelude.{◌==◌, nat_le, not, Ok}
use Rattle.std.specs.List.{AllByRecursion}
use Rattle.std.proofs.lemmas.Bool.{eq-eqb, false≢true, leb-false}
use Rattle.std.proofs.lemmas.List.{length-append}
use Rattle.set_reading.specs.LawsOfDnsName.{OneNameOfAWire}
use Rattle.set_reading.specs.Names.{IsName}
use Rattle.set_reading.specs.Order.{same_labels}
use Rattle.set_reading.specs.OrderLaws.{same_labels-Decides}
use Rattle.command_octets.specs.Hosted.{HostedZone}
use Rattle.command_octets.specs.Zones.{IsAmong}
use Rattle.config_model.specs.Batches.{store_refusal}
use Rattle.config_model.specs.Configs.{Config}
use Rattle.config_model.specs.NewZones.{are_most, create_refusal, create_zone, has_zone}
use Rattle.config_model.specs.NewZones.{is_repeated}
use Rattle.config_model.specs.NewZones.{is_zone_name, new_zone, with_zone}
use Rattle.config_model.specs.Sound.{AreListed, IsSoundZone, Sound}
use Rattle.config_model.specs.Telling.{invalid, refuse_if}
use Rattle.config_model.specs.Told.{RefusalsAreTold}
use Rattle.config_model.specs.declared.refusals.InputReason.TheVariants.{BadZoneName, RepeatedValue}
use Rattle.config_model.specs.declared.refusals.InputReason.TheVariants.{ZoneExists}
use Rattle.config_model.specs.declared.refusals.Made.{Made}
use Rattle.config_model.specs.declared.refusals.Made.TheVariants as made
use Rattle.config_model.specs.declared.refusals.Refusal.TheVariants.{TooManyHostedZones, IdsEnded}
use Rattle.config_model.proofs.Batched.{not_above}
use Rattle.config_model.proofs.Left.{all_appended}
use Rattle.config_model.proofs.Members.{all_at, all_from, any_of}
use Rattle.config_model.proofs.NewSets.{sound_zone}
use Rattle.config_model.proofs.Told.{parts, told_false, told_not}
use Rattle.config_model.proofs.Zoning.{accepted}

-- behind zones of lower numbers and other names
listed_appended : (zones : List HostedZone) (new : HostedZone) → AreListed zones
    → AllByRecursion (λ (z : HostedZone). (z.id < new.id) × (z.apex ≢ new.apex)) zones
    → AreListed (zones ++ new ∷ [])
listed_appended [] new listed below = (tt, tt)
listed_appended (z ∷ zones) new listed below = (
  all_appended (λ (other : HostedZone). (z.id < other.id) × (z.apex ≢ other.apex)) zones (new ∷ [])
      listed.0 (below.0, tt),
  listed_appended zones new listed.1 below.1,
)

module _ (told : RefusalsAreTold) (law : OneNameOfAWire) (config : Config) (sound : Sound config)
    (name : List (List ℕ)) (servers : List (List (List ℕ))) (is_name : IsName name)
    (names : AllByRecursion IsName servers) (four : length servers ≡ 4) where
  abbrev new : HostedZone
  new = new_zone config.next_zone name servers

  sound_with : is_zone_name name ≡ true → is_repeated servers ≡ false
      → has_zone config.zones name ≡ false → are_most (length config.zones) ≡ false
      → (config.next_zone == 4294967295) ≡ false
      → store_refusal (with_zone config name servers).zones ≡ None
      → Sound (with_zone config name servers)
  sound_with named differ other few more fits = record {
    checks = sound.checks;
    collections = sound.collections;
    from = let from = sound.from in omega (arith, from);
    to = not_above (config.next_zone + 1) 4294967295 not_last;
    numbers = all_appended Below config.zones (new ∷ [])
        (all_from Below config.zones
        (λ z there. (let h = all_at Numbered config.zones z sound.numbers there in
        let from = h.0 in let to = h.1 in (from, omega (arith, to)))))
        ((sound.from, omega arith), tt);
    listed = listed_appended config.zones new sound.listed
        (all_from (λ (z : HostedZone). (z.id < new.id) × (z.apex ≢ new.apex)) config.zones
        (λ z there. ((all_at Numbered config.zones z sound.numbers there).1, other_name z there)));
    few = let size = length-append config.zones (new ∷ []) in
        let below = leb-false 500 (length config.zones) few in omega (arith, size, below);
    each = all_appended (IsSoundZone config.checks.list config.collections.list) config.zones
        (new ∷ []) sound.each (
          sound_zone name servers law four names differ named told is_name config.next_zone
              config.checks.list config.collections.list,
          tt,
        );
    not_full = fits;
  }
    where
      Numbered : HostedZone → Type 0
      Numbered z = (1 ≤ z.id) × (z.id < config.next_zone)

      Below : HostedZone → Type 0
      Below z = (1 ≤ z.id) × (z.id < config.next_zone + 1)

      not_last : 4294967295 < config.next_zone + 1 → ⊥
      not_last lt =
          let to = sound.to in
          let last : config.next_zone ≡ 4294967295 = omega (arith, lt, to) in
          false≢true (sym more ∙ eq-eqb config.next_zone 4294967295 last)

      other_name : (z : HostedZone) → IsAmong config.zones z → z.apex ≡ name → ⊥
      other_name z there same =
          false≢true (sym other
          ∙ any_of (λ (zone : HostedZone). same_labels zone.apex name) config.zones z there
          ((same_labels-Decides z.apex name).1 same))

  pub create_keeps : (after : Config) (what : Made)
      → Ok (after, what) ≡ create_zone config name servers → Sound after
  create_keeps after what e =
      let now = with_zone config name servers in
      let answer = accepted (create_refusal config name servers) (after, what)
      (now, made.Zone config.next_zone) e in
      let none = parts (refuse_if (not (is_zone_name name)) (invalid BadZoneName))
      (refuse_if (is_repeated servers) (invalid RepeatedValue))
      (refuse_if (has_zone config.zones name) (invalid ZoneExists))
      (refuse_if (are_most (length config.zones)) TooManyHostedZones)
      (refuse_if (config.next_zone == 4294967295) IdsEnded)
      (store_refusal now.zones) answer.0 in
      subst Sound (sym (ap (λ (x : Config × Made). x.0) answer.1))
      (sound_with
      (told_not (is_zone_name name) (invalid BadZoneName) none.0)
      (told_false (is_repeated servers) (invalid RepeatedValue) none.1)
      (told_false (has_zone config.zones name) (invalid ZoneExists) none.2)
      (told_false (are_most (length config.zones)) TooManyHostedZones none.3)
      (told_false (config.next_zone == 4294967295) IdsEnded none.4)
      none.5)
