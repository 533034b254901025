-- The first zones of a sound configuration are those of one.
use Rattle.std.proofs.Common.{◌≡◌, ℕ, ◌+◌, ◌≤◌, ◌<◌, List, [], ◌∷◌, ◌++◌, length, None, arith}
use Rattle.std.specs.Prelude.{◌≢◌}
use Rattle.std.specs.List.{AllByRecursion, sum_by}
use Rattle.std.proofs.lemmas.List.{length-append}
use Rattle.std.proofs.lemmas.List.Sums.{sum_by-append}
use Rattle.config_zones.specs.Batches.{store_refusal}
use Rattle.config_zones.specs.Configs.{Config, count_of, octets_of}
use Rattle.config_zones.specs.Sound.{AreListed, IsSoundZone, Sound}
use Rattle.config_zones.specs.Told.{AreNotFull, RefusalsAreTold}
use Rattle.zone_model.specs.Hosted.{HostedZone}

pub all_in_front : {X : Type 0} (P : X → Type 0) (xs ys : List X) → AllByRecursion P (xs ++ ys)
    → AllByRecursion P xs
all_in_front P [] ys all = tt
all_in_front P (x ∷ xs) ys all = (all.0, all_in_front P xs ys all.1)

listed_in_front : (zones more : List HostedZone) → AreListed (zones ++ more) → AreListed zones
listed_in_front [] more listed = tt
listed_in_front (zone ∷ zones) more listed = (
  all_in_front (λ (other : HostedZone). (zone.id < other.id) × (zone.apex ≢ other.apex)) zones more
      listed.0,
  listed_in_front zones more listed.1,
)

room_in_front : (zones more : List HostedZone) → AreNotFull (zones ++ more) → AreNotFull zones
room_in_front zones more room = record {
  sets = let sum = sum_by-append count_of zones more in
      let fits = room.sets in omega (arith, sum, fits);
  octets = let sum = sum_by-append octets_of zones more in
      let fits = room.octets in omega (arith, sum, fits);
}

abbrev with_these : Config → List HostedZone → Config
with_these config zones = record config { zones = zones }

pub sound_in_front : RefusalsAreTold → (config : Config) (zones more : List HostedZone)
    → Sound (with_these config (zones ++ more)) → Sound (with_these config zones)
sound_in_front told config zones more sound = record {
  checks = sound.checks;
  collections = sound.collections;
  from = sound.from;
  to = sound.to;
  numbers = all_in_front (λ (zone : HostedZone). (1 ≤ zone.id) × (zone.id < config.next_zone)) zones
      more sound.numbers;
  listed = listed_in_front zones more sound.listed;
  few = let size = length-append zones more in
      let fits = sound.few in omega (arith, size, fits);
  each = all_in_front (IsSoundZone config.checks.list config.collections.list) zones more
      sound.each;
  not_full = (told.store zones).1
      (room_in_front zones more ((told.store (zones ++ more)).0 sound.not_full));
}
