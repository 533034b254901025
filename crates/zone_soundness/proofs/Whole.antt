-- The parts of a sound zone come to the whole.
use Rattle.std.proofs.Common.{ℕ, List, None, Ok, Err, Result}
use Rattle.std.specs.Prelude.{IfOk}
use Rattle.std.specs.List.{AllByRecursion}
use Rattle.check_model.specs.declared.checks.Check.{Check}
use Rattle.cidr_blocks.specs.declared.places.Collection.{Collection}
use Rattle.config_model.proofs.Members.{all_at, all_from}
use Rattle.config_model.specs.Sound.{IsSoundZone}
use Rattle.config_model.specs.Told.{AreInOrder, RefusalsAreTold}
use Rattle.dns_name.specs.Suffix.{EndsWith}
use Rattle.record_set.specs.Reasons.{IsFirst}
use Rattle.record_set.specs.declared.sets.RecordSet.{RecordSet}
use Rattle.config_model.specs.OctetsOfSetOctets.{HasSpelling}
use Rattle.config_model.specs.SetsOfSetReading.{IsSet}
use Rattle.config_model.specs.Hosted.{HostedZone}
use Rattle.zone_soundness.specs.Parts.{AreTogether, IsLaidOut, IsSoundSet}

-- what holds of any value that is returned
pub of_ok : {X E : Type 0} {P Q : X → Type 0} (r : Result X E) → IfOk r P
    → ((x : X) → P x → Q x) → IfOk r Q
of_ok (Ok x) is so = so x is
of_ok (Err e) is so = tt

module _ (told : RefusalsAreTold) (checks : List (ℕ × Check))
    (collections : List (ℕ × Collection)) (apex : List (List ℕ)) (sets : List RecordSet) (id : ℕ)
  where
    abbrev zone : HostedZone
    zone = record { id = id; apex = apex; sets = sets }

    abbrev Sound : RecordSet → Type 0
    Sound set = IsSoundSet checks collections apex set

    module _ (each : AllByRecursion Sound sets) where
      all_of : (P : RecordSet → Type 0) → ((set : RecordSet) → Sound set → P set)
          → AllByRecursion P sets
      all_of P so = all_from P sets (λ set there. so set (all_at Sound sets set each there))

      pub whole : IsLaidOut apex sets → AreTogether apex sets → IsSoundZone checks collections zone
      whole laid together = record {
        name = laid.name;
        sets = record {
          rising = laid.rising;
          inside = all_of (λ set. EndsWith set.name apex) (λ set sound. sound.inside);
        };
        ns = laid.ns;
        soa = laid.soa;
        parts = all_of IsSet (λ set sound. sound.parts);
        allowed = all_of (λ set. IsFirst None set apex) (λ set sound. sound.allowed);
        spelled = all_of HasSpelling (λ set sound. sound.spelled);
        rules = together.rules;
        last = (told.none checks collections sets).1 (record {
          checks_there = λ set id there. (all_at Sound sets set each there).check id;
          places_there = λ set ident id location there.
              (all_at Sound sets set each there).places ident id location;
          targets_there = together.led;
          not_too_deep = together.shallow;
          few = laid.few;
        });
      }

    module _ (sound : IsSoundZone checks collections zone) where
      order : AreInOrder checks collections sets
      order = (told.none checks collections sets).0 sound.last

      pub laid_out : IsLaidOut apex sets
      laid_out = record {
        name = sound.name;
        few = order.few;
        rising = sound.sets.rising;
        ns = sound.ns;
        soa = sound.soa;
      }

      pub each_sound : AllByRecursion Sound sets
      each_sound = all_from Sound sets
          (λ set there. record {
            parts = all_at IsSet sets set sound.parts there;
            inside = all_at (λ (s : RecordSet). EndsWith s.name apex) sets set
                sound.sets.inside there;
            allowed = all_at (λ (s : RecordSet). IsFirst None s apex) sets set sound.allowed there;
            spelled = all_at HasSpelling sets set sound.spelled there;
            check = λ id. order.checks_there set id there;
            places = λ ident id location. order.places_there set ident id location there;
          })

      pub together : AreTogether apex sets
      together = record {
        rules = sound.rules;
        led = order.targets_there;
        shallow = order.not_too_deep;
      }
