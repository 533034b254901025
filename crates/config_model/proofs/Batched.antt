-- A batch that is made leaves a sound configuration.
use Rattle.std.proofs.Common.{◌≡◌, ℕ, zero, suc, ◌<◌, ◌≤◌, List, [], ◌∷◌, length, inl, inr, ap, sym}
use Rattle.std.proofs.Common.{refl, subst, arith, Option, None, Some}
use Rattle.std.specs.Prelude.{slice_get, nat_lt, Bool, true, false, Ok}
use Rattle.std.proofs.lemmas.Bool.{ltb-true, ltb-false}
use Rattle.std.specs.List.{AllByRecursion}
use Rattle.command_octets.specs.Batches.{Prepares}
use Rattle.command_octets.specs.Laws.{ZonesStay}
use Rattle.command_octets.specs.BatchRecord.{Batch}
use Rattle.command_octets.specs.ChangeRecord.{Change}
use Rattle.set_reading.specs.Reasons.{IsFirst}
use Rattle.set_reading.specs.RecordSetRecord.{RecordSet}
use Rattle.set_reading.specs.Octets.{HasSpelling, most_octets, set_octets}
use Rattle.set_reading.specs.Sets.{IsSet}
use Rattle.command_octets.specs.Hosted.{HostedZone}
use Rattle.command_octets.specs.Zones.{IsAmong}
use Rattle.config_model.specs.Batches.{AppliesBatch, ChangesIn, sets_refusal, store_refusal}
use Rattle.config_model.specs.Configs.{Config, with_sets, zone_with}
use Rattle.config_model.specs.Laws.{HasBoundedSet, IsBoundedSet}
use Rattle.config_model.specs.Sound.{IsSoundZone, Sound, ns_key, soa_key}
use Rattle.config_model.specs.Telling.{first_of}
use Rattle.config_model.specs.declared.refusals.Made.{Made}
use Rattle.config_model.specs.declared.refusals.Made.TheVariants as made
use Rattle.config_model.proofs.Left.{all_left, stays, zone_left}
use Rattle.config_model.proofs.Members.{all_at}
use Rattle.config_model.proofs.Zoning.{accepted, all_with, both_none, count_with, found}
use Rattle.config_model.proofs.Zoning.{listed_with, one_zone, with_at}

-- what holds at each place holds of all
placed_all : (P : Change → Type 0) (changes : List Change)
    → ((i : ℕ) (change : Change) → slice_get changes i ≡ Some change → P change)
    → AllByRecursion P changes
placed_all P [] each = tt
placed_all P (change ∷ changes) each =
    (each 0 change refl, placed_all P changes (λ i other e. each (suc i) other e))

pub not_above : (n m : ℕ) → (m < n → ⊥) → n ≤ m
not_above n m not = by (nat_lt m n) refl
  where
    by : (b : Bool) → nat_lt m n ≡ b → n ≤ m
    by true e = absurd (not (ltb-true m n e))
    by false e = ltb-false m n e

-- a set of a change has a spelling
spelled_set : (set : RecordSet) → IsBoundedSet set → length (set_octets set) ≤ most_octets
    → HasSpelling set
spelled_set set bounds short = record {
  routing = bounds.routing;
  body = bounds.body;
  of_type = bounds.of_type;
  short = short;
}

bounded_at : (changes : List Change) (i : ℕ) (change : Change)
    → AllByRecursion HasBoundedSet changes → slice_get changes i ≡ Some change
    → IsBoundedSet change.set
bounded_at [] i change all e = absurd (grind (arith, e))
bounded_at (first ∷ changes) zero change all e =
    let same : first ≡ change = grind (arith, e) in
    subst (λ (c : Change). IsBoundedSet c.set) same all.0
bounded_at (first ∷ changes) (suc i) change all e = bounded_at changes i change all.1 e

module _ (config : Config) (batch : Batch) (sound : Sound config)
    (bounds : AllByRecursion HasBoundedSet batch.changes) (law : ZonesStay) where
  module _ (zone : HostedZone) (there : IsAmong config.zones zone) (after : List RecordSet)
      (prepared : Prepares zone.sets zone.apex batch.changes (Ok after))
      (last : sets_refusal config.checks.list config.collections.list after ≡ None) where
    abbrev Fits : HostedZone → Type 0
    Fits = IsSoundZone config.checks.list config.collections.list

    own : Fits zone
    own = all_at Fits config.zones zone sound.each there

    spelled_each : AllByRecursion (λ (change : Change). HasSpelling change.set) batch.changes
    spelled_each = placed_all (λ change. HasSpelling change.set) batch.changes
        (λ i change at. spelled_set change.set (bounded_at batch.changes i change bounds at)
        (short_of i change at))
      where
        short_of : (i : ℕ) (change : Change) → slice_get batch.changes i ≡ Some change
            → length (set_octets change.set) ≤ most_octets
        short_of i change at =
            not_above (length (set_octets change.set)) most_octets
            (λ long. prepared.0.octets (i, change, at, long))

    sound_after : Fits (record zone { sets = after })
    sound_after = record {
      name = own.name;
      sets = zone_left zone.apex law batch.changes zone.sets after own.sets prepared.1;
      ns = stays zone.apex batch.changes zone.sets after (ns_key zone.apex)
          (record { name = refl; rtype = inl refl }) own.ns prepared.1;
      soa = stays zone.apex batch.changes zone.sets after (soa_key zone.apex)
          (record { name = refl; rtype = inr refl }) own.soa prepared.1;
      parts = all_left zone.apex IsSet batch.changes zone.sets after own.parts
          (placed_all (λ change. IsSet change.set) batch.changes
          (λ i change at. (bounded_at batch.changes i change bounds at).parts))
          prepared.1;
      allowed = all_left zone.apex (λ set. IsFirst None set zone.apex) batch.changes zone.sets after
          own.allowed
          (placed_all (λ change. IsFirst None change.set zone.apex) batch.changes
          prepared.0.valid.each)
          prepared.1;
      spelled = all_left zone.apex HasSpelling batch.changes zone.sets after own.spelled
          spelled_each prepared.1;
      rules = prepared.2;
      last = last;
    }

    made_sound : store_refusal (with_sets config.zones zone.id after) ≡ None
        → Sound (record config { zones = with_sets config.zones zone.id after })
    made_sound fits = record {
      checks = sound.checks;
      collections = sound.collections;
      from = sound.from;
      to = sound.to;
      numbers = all_with zone.id after Number Number config.zones
          (λ z among h. with_at zone.id after Number z (λ same. h) (λ differs. h)) sound.numbers;
      listed = listed_with zone.id after config.zones sound.listed;
      few = subst (λ n. n ≤ 500) (sym (count_with zone.id after config.zones)) sound.few;
      each = all_with zone.id after Fits Fits config.zones
          (λ z among h. with_at zone.id after Fits z
          (λ same. subst (λ (y : HostedZone). Fits (record y { sets = after }))
          (one_zone config.zones zone z sound.listed there among (sym same)) sound_after)
          (λ differs. h)) sound.each;
      not_full = fits;
    }
      where
        Number : HostedZone → Type 0
        Number z = (1 ≤ z.id) × (z.id < config.next_zone)

  batch_by : (at : Option HostedZone) → zone_with config.zones batch.zone ≡ at
      → (after : Config) (what : Made) → ChangesIn config at batch (Ok (after, what)) → Sound after
  batch_by None at after what e = absurd (grind (arith, e))
  batch_by (Some zone) at after what (inl (why, known, refused, e)) = absurd (grind (arith, e))
  batch_by (Some zone) at after what (inr (sets, prepared, e)) =
      let zones = with_sets config.zones zone.id sets in
      let answer = accepted
      (first_of (sets_refusal config.checks.list config.collections.list sets
      ∷ store_refusal zones ∷ []))
      (after, what) (record config { zones = zones }, made.Nothing) e in
      let none = both_none (sets_refusal config.checks.list config.collections.list sets)
      (store_refusal zones) answer.0 in
      subst Sound (sym (ap (λ (x : Config × Made). x.0) answer.1))
      (made_sound zone (found config.zones batch.zone zone at).0 sets prepared none.0 none.1)

  pub batch_keeps : (after : Config) (what : Made) → AppliesBatch config batch (Ok (after, what))
      → Sound after
  batch_keeps after what applies =
      batch_by (zone_with config.zones batch.zone) refl after what applies
