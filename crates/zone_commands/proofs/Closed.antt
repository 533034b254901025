-- The end of a zone: the edit by which it goes, and what its command comes to.
use Rattle.std.proofs.Common.{◌≡◌, ℕ, true, false, List, [], ◌∷◌, ap, ◌∙◌, sym, refl}
use Rattle.std.proofs.Common.{Option, None, Some}
use Rattle.std.specs.Prelude.{Ok, Err}
use Rattle.std.specs.List.{list_any}
use Rattle.check_model.specs.Checks.{Checks}
use Rattle.config_zones.specs.CommandRecord.TheVariants.{DeleteZone}
use Rattle.config_zones.specs.Edited.{EditsAreTold, hosted_in}
use Rattle.config_zones.specs.Configs.{Config, without_zone, zone_with}
use Rattle.config_zones.specs.NewZones.{end_of, is_another}
use Rattle.config_zones.specs.Telling.{first_of, refuse_if, unless}
use Rattle.config_zones.specs.MadeRecord.TheVariants as made
use Rattle.config_zones.specs.RefusalRecord.TheVariants as refusal
use Rattle.config_zones.specs.Configured.{IsEditFor, EditMakes, TellsEditOnly, config_of}
use Rattle.config_zones.specs.Laws.{ZonesAreFound}
use Rattle.config_zones.specs.Zones.{AreZones, IsZoneId, placed_in}
use Rattle.zone_model.specs.Hosted.{HostedZone}
use Rattle.zone_model.specs.Slotted.{sets_of}
use Rattle.config_zones.specs.Looking.{IsApex}
use Rattle.config_zones.specs.Tables.{Table}
use Rattle.config_zones.specs.ZoneEditRecord.TheVariants.{End}

module _ (table : Table) (id : ℕ) (checks : Checks) (next : ℕ) (found : ZonesAreFound) where
  abbrev config : Config
  config = config_of table checks next

  pub none_there : (IsZoneId table.zones id → ⊥)
      → TellsEditOnly config (DeleteZone id) table (Err refusal.NoSuchHostedZone)
  none_there none = sym (ap (end_of config) (found.none table.zones id none))

  module _ (apex : List (List ℕ)) (are : AreZones table.zones) (is : IsApex table.zones id apex) where
    abbrev zone : HostedZone
    zone = record { id = id; apex = apex; sets = sets_of (placed_in table.zones id) }

    abbrev after : Config
    after = record config { zones = without_zone config.zones id }

    ended : (b : _) → list_any (is_another apex) (sets_of (placed_in table.zones id)) ≡ b
        → end_of config (zone_with config.zones id)
        ≡ unless (first_of (refuse_if b refusal.HostedZoneNotEmpty ∷ [])) (after, made.Nothing)
    ended b e =
        ap (end_of config) (found.found table.zones id apex are is)
        ∙ ap (λ b. unless (first_of (refuse_if b refusal.HostedZoneNotEmpty ∷ [])) (after, made.Nothing))
        e

    pub not_empty : list_any (is_another apex) (sets_of (placed_in table.zones id)) ≡ true
        → TellsEditOnly config (DeleteZone id) table (Err refusal.HostedZoneNotEmpty)
    not_empty e = sym (ended true e)

    pub closed : EditsAreTold
        → list_any (is_another apex) (sets_of (placed_in table.zones id)) ≡ false
        → IsEditFor config (DeleteZone id) table (End id)
    closed edits e = (
      after,
      made.Nothing,
      sym (ended false e),
      record {
        allowed = (is.0, is.1, is.2);
        zones = λ zones delta are are_after made_it.
            edits.closed table.zones zones id delta are are_after made_it;
        collections = refl;
        least = tt;
      },
      refl,
    )
