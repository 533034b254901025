-- The end of a zone leaves a sound configuration.
use Rattle.std.proofs.Common.{◌≡◌, ◌≢◌, ℕ, ◌<◌, ◌≤◌, Bool, true, false, cond, List, [], ◌∷◌, length}
use Rattle.std.proofs.Common.{ap, ◌∙◌, sym, refl, subst, arith, Option, None, Some}
use Rattle.std.specs.Prelude.{◌==◌, ◌||◌, nat_lt, not, Ok}
use Rattle.std.specs.List.{AllByRecursion, filter, sum_by}
use Rattle.std.proofs.lemmas.Bool.{ltb-false, le-ltb, or_parts}
use Rattle.std.proofs.lemmas.List.Filters.{length-filter_both, sum_by-filter_both}
use Rattle.command_octets.specs.Hosted.{HostedZone}
use Rattle.config_model.specs.Batches.{is_store_full, store_refusal}
use Rattle.config_model.specs.Configs.{Config, count_of, octets_of, without_zone, zone_with}
use Rattle.config_model.specs.NewZones.{delete_zone, end_of, end_refusal}
use Rattle.config_model.specs.Sound.{AreListed, IsSoundZone, Sound}
use Rattle.config_model.specs.Telling.{refuse_if}
use Rattle.config_model.specs.Told.{AreNotFull}
use Rattle.config_model.specs.declared.refusals.Made.{Made}
use Rattle.config_model.specs.declared.refusals.Made.TheVariants as made
use Rattle.config_model.specs.declared.refusals.Refusal.TheVariants.{StoreFull}
use Rattle.config_model.proofs.Left.{all_filtered}
use Rattle.config_model.proofs.Told.{told_false}
use Rattle.config_model.proofs.Zoning.{accepted}

module _ {X : Type 0} (p : X → Bool) where
  pub sum_less : (f : X → ℕ) (xs : List X) → sum_by f (filter p xs) ≤ sum_by f xs
  sum_less f xs =
      let e = sum_by-filter_both p (λ x. not (p x)) (λ x. refl) f xs in omega (arith, e)

  pub count_less : (xs : List X) → length (filter p xs) ≤ length xs
  count_less xs = let e = length-filter_both p (λ x. not (p x)) (λ x. refl) xs in omega (arith, e)

-- a store that isn't full has room
pub not_full : (zones : List HostedZone) → store_refusal zones ≡ None
    → AreNotFull zones
not_full zones e =
    let both = or_parts (nat_lt 100000 (sum_by count_of zones))
    (nat_lt 67108864 (sum_by octets_of zones))
    (told_false (is_store_full zones) StoreFull e) in
    record {
      sets = ltb-false 100000 (sum_by count_of zones) both.0;
      octets = ltb-false 67108864 (sum_by octets_of zones) both.1;
    }

both_false : (a b : Bool) → a ≡ false → b ≡ false → (a || b) ≡ false
both_false a b e f = ap (λ c. c || b) e ∙ f

pub has_room : (zones : List HostedZone) → sum_by count_of zones ≤ 100000
    → sum_by octets_of zones ≤ 67108864 → store_refusal zones ≡ None
has_room zones few short =
    ap (λ b. refuse_if b StoreFull)
    (both_false (nat_lt 100000 (sum_by count_of zones)) (nat_lt 67108864 (sum_by octets_of zones))
    (le-ltb 100000 (sum_by count_of zones) few)
    (le-ltb 67108864 (sum_by octets_of zones) short))

listed_by : (b : Bool) (z : HostedZone) (zones : List HostedZone)
    → AllByRecursion (λ other. (z.id < other.id) × (z.apex ≢ other.apex)) zones
    → AreListed zones → AreListed (cond b (z ∷ zones) zones)
listed_by true z zones later listed = (later, listed)
listed_by false z zones later listed = listed

pub listed_filtered : (p : HostedZone → Bool) (zones : List HostedZone) → AreListed zones
    → AreListed (filter p zones)
listed_filtered p [] listed = listed
listed_filtered p (z ∷ zones) listed =
    listed_by (p z) z (filter p zones)
    (all_filtered (λ other. (z.id < other.id) × (z.apex ≢ other.apex)) p zones listed.0)
    (listed_filtered p zones listed.1)

module _ (config : Config) (sound : Sound config) where
  sound_without : (id : ℕ) → Sound (record config { zones = without_zone config.zones id })
  sound_without id =
      let room = not_full config.zones sound.not_full in
      record {
        checks = sound.checks;
        collections = sound.collections;
        from = sound.from;
        to = sound.to;
        numbers = all_filtered (λ z. (1 ≤ z.id) × (z.id < config.next_zone))
            (λ z. not (z.id == id)) config.zones sound.numbers;
        listed = listed_filtered (λ z. not (z.id == id)) config.zones sound.listed;
        few = let less = count_less (λ (z : HostedZone). not (z.id == id)) config.zones in
            let few = sound.few in omega (arith, less, few);
        each = all_filtered (IsSoundZone config.checks.list config.collections.list)
            (λ z. not (z.id == id)) config.zones sound.each;
        not_full = has_room (without_zone config.zones id)
            (let less = sum_less (λ (z : HostedZone). not (z.id == id)) count_of config.zones in
            let few = room.sets in omega (arith, less, few))
            (let less = sum_less (λ (z : HostedZone). not (z.id == id)) octets_of config.zones in
            let short = room.octets in omega (arith, less, short));
      }

  end_by : (at : Option HostedZone) (after : Config) (what : Made)
      → Ok (after, what) ≡ end_of config at → Sound after
  end_by None after what e = absurd (grind (arith, e))
  end_by (Some zone) after what e =
      let answer = accepted (end_refusal zone) (after, what)
      (record config { zones = without_zone config.zones zone.id }, made.Nothing) e in
      subst Sound (sym (ap (λ (x : Config × Made). x.0) answer.1)) (sound_without zone.id)

  pub end_keeps : (id : ℕ) (after : Config) (what : Made)
      → Ok (after, what) ≡ delete_zone config id → Sound after
  end_keeps id after what e = end_by (zone_with config.zones id) after what e
