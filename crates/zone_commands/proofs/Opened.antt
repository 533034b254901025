-- A new zone: the edit by which it comes, and what its command comes to.
use Rattle.std.proofs.Common.{◌≡◌, ◌≢◌, ℕ, ◌+◌, ◌<◌, ◌≤◌, true, false, List, [], ◌∷◌, ◌++◌, length, ap}
use Rattle.std.proofs.Common.{◌∙◌, sym, refl, subst, arith, inl, inr, Option, None, Some}
use Rattle.std.specs.Prelude.{◌==◌, not, Ok, Err}
use Rattle.std.specs.List.{AllByRecursion, sum_by}
use Rattle.std.proofs.lemmas.List.Sums.{sum_by-cons, sum_by_push}
use Rattle.check_model.specs.Checks.{Checks}
use Rattle.config_zones.specs.CommandRecord.TheVariants.{CreateZone}
use Rattle.config_zones.specs.Edited.{EditsAreTold, hosted_in}
use Rattle.config_zones.proofs.Ended.{not_full}
use Rattle.config_zones.proofs.Members.{all_at}
use Rattle.config_zones.proofs.NewSets.{sound_zone}
use Rattle.config_zones.proofs.Told.{parts, told_false, told_not}
use Rattle.config_zones.specs.Batches.{is_over, is_store_full, store_refusal}
use Rattle.config_zones.specs.Configs.{Config, count_of, octets_of}
use Rattle.config_zones.specs.NewZones.{are_most, create_refusal, create_zone, has_zone}
use Rattle.config_zones.specs.NewZones.{is_repeated, is_zone_name, new_ns_set, new_soa_set}
use Rattle.config_zones.specs.NewZones.{new_zone, with_zone}
use Rattle.config_zones.specs.Sound.{IsSoundZone, Sound}
use Rattle.config_zones.specs.Telling.{first_of, invalid, refuse_if, unless}
use Rattle.config_zones.specs.Told.{RefusalsAreTold}
use Rattle.config_zones.specs.InputReasonRecord.TheVariants as reason
use Rattle.config_zones.specs.MadeRecord.{Made}
use Rattle.config_zones.specs.MadeRecord.TheVariants as made
use Rattle.config_zones.specs.RefusalRecord.{Refusal}
use Rattle.config_zones.specs.RefusalRecord.TheVariants as refusal
use Rattle.config_zones.proofs.Found.{in_hosted}
use Rattle.config_zones.specs.Configured.{IsEditFor, EditMakes, TellsEdit, config_of}
use Rattle.config_zones.specs.Laws.{CountsAgree, ZonesAreFound}
use Rattle.dns_name.specs.Laws.{OneNameOfAWire}
use Rattle.dns_name.specs.Names.{IsName}
use Rattle.record_set.specs.Sets.{key_of}
use Rattle.record_set.specs.declared.sets.RecordSet.{RecordSet}
use Rattle.config_zones.specs.Octets.{HasSpelling, set_octets}
use Rattle.config_zones.specs.Changes.{CanBeAdded}
use Rattle.config_zones.specs.Zones.{AreZones, HasName, IsOne, IsZoneId, Zone, hosted}
use Rattle.zone_model.specs.Hosted.{HostedZone}
use Rattle.config_zones.specs.Counted.{octets_in_all, sets_in_all}
use Rattle.config_zones.specs.Edits.{Edits, IsAllowed}
use Rattle.config_zones.specs.Tables.{Table}
use Rattle.config_zones.specs.ZoneEditRecord.TheVariants.{Begin}
use Rattle.config_zones.specs.DeltaRecord.{Delta}

-- ---- the first of several rules

-- a refusal of the first five
pub early : (a b c d e f : Option Refusal) (why : Refusal)
    → Some why ≡ first_of (a ∷ b ∷ c ∷ d ∷ e ∷ [])
    → first_of (a ∷ b ∷ c ∷ d ∷ e ∷ f ∷ []) ≡ Some why
early (Some x) b c d e f why is = sym is
early None (Some x) c d e f why is = sym is
early None None (Some x) d e f why is = sym is
early None None None (Some x) e f why is = sym is
early None None None None (Some x) f why is = sym is
early None None None None None f why is = absurd (grind (arith, is))

-- none of the first five
pub late : (a b c d e f : Option Refusal) → None ≡ first_of (a ∷ b ∷ c ∷ d ∷ e ∷ [])
    → first_of (a ∷ b ∷ c ∷ d ∷ e ∷ f ∷ []) ≡ f
late (Some x) b c d e f is = absurd (grind (arith, is))
late None (Some x) c d e f is = absurd (grind (arith, is))
late None None (Some x) d e f is = absurd (grind (arith, is))
late None None None (Some x) e f is = absurd (grind (arith, is))
late None None None None (Some x) f is = absurd (grind (arith, is))
late None None None None None None is = refl
late None None None None None (Some x) is = refl

pub each_none : (a b c d e : Option Refusal) → None ≡ first_of (a ∷ b ∷ c ∷ d ∷ e ∷ [])
    → (a ≡ None) × (b ≡ None) × (c ≡ None) × (d ≡ None) × (e ≡ None)
each_none None None None None None is = (refl, refl, refl, refl, refl)
each_none (Some x) b c d e is = absurd (grind (arith, is))
each_none None (Some x) c d e is = absurd (grind (arith, is))
each_none None None (Some x) d e is = absurd (grind (arith, is))
each_none None None None (Some x) e is = absurd (grind (arith, is))
each_none None None None None (Some x) is = absurd (grind (arith, is))

module _ (table : Table) (next : ℕ) (name : List (List ℕ)) (servers : List (List (List ℕ)))
    (checks : Checks) where
  abbrev config : Config
  config = config_of table checks next

  abbrev sets : List RecordSet
  sets = new_ns_set name servers ∷ new_soa_set name servers ∷ []

  abbrev after : Config
  after = with_zone config name servers

  abbrev named_rules : List (Option Refusal)
  named_rules =
      refuse_if (not (is_zone_name name)) (invalid reason.BadZoneName)
      ∷ refuse_if (is_repeated servers) (invalid reason.RepeatedValue)
      ∷ refuse_if (has_zone (hosted_in table.zones) name) (invalid reason.ZoneExists)
      ∷ refuse_if (are_most (length (hosted_in table.zones))) refusal.TooManyHostedZones
      ∷ refuse_if (next == 4294967295) refusal.IdsEnded
      ∷ []

  -- what is asked of the name, the servers and the number
  pub refused_early : (why : Refusal) → Some why ≡ first_of named_rules
      → TellsEdit config (CreateZone name servers) table (Err why)
  refused_early why is =
      inr (ap (λ (found : Option Refusal). unless found (after, made.Zone next))
      (sym (early (refuse_if (not (is_zone_name name)) (invalid reason.BadZoneName))
      (refuse_if (is_repeated servers) (invalid reason.RepeatedValue))
      (refuse_if (has_zone (hosted_in table.zones) name) (invalid reason.ZoneExists))
      (refuse_if (are_most (length (hosted_in table.zones))) refusal.TooManyHostedZones)
      (refuse_if (next == 4294967295) refusal.IdsEnded) (store_refusal after.zones) why is)))

  module _ (none : None ≡ first_of named_rules) where
    last_rule : create_refusal config name servers ≡ store_refusal after.zones
    last_rule =
        late (refuse_if (not (is_zone_name name)) (invalid reason.BadZoneName))
        (refuse_if (is_repeated servers) (invalid reason.RepeatedValue))
        (refuse_if (has_zone (hosted_in table.zones) name) (invalid reason.ZoneExists))
        (refuse_if (are_most (length (hosted_in table.zones))) refusal.TooManyHostedZones)
        (refuse_if (next == 4294967295) refusal.IdsEnded) (store_refusal after.zones) none

    abbrev none_of_them : (refuse_if (not (is_zone_name name)) (invalid reason.BadZoneName) ≡ None)
        × (refuse_if (is_repeated servers) (invalid reason.RepeatedValue) ≡ None)
        × (refuse_if (has_zone (hosted_in table.zones) name) (invalid reason.ZoneExists) ≡ None)
        × (refuse_if (are_most (length (hosted_in table.zones))) refusal.TooManyHostedZones ≡ None)
        × (refuse_if (next == 4294967295) refusal.IdsEnded ≡ None)
    none_of_them =
        each_none (refuse_if (not (is_zone_name name)) (invalid reason.BadZoneName))
        (refuse_if (is_repeated servers) (invalid reason.RepeatedValue))
        (refuse_if (has_zone (hosted_in table.zones) name) (invalid reason.ZoneExists))
        (refuse_if (are_most (length (hosted_in table.zones))) refusal.TooManyHostedZones)
        (refuse_if (next == 4294967295) refusal.IdsEnded) none

    module _ (agree : CountsAgree) where
      -- all zones are full where they would be with its two sets
      full_is : is_store_full after.zones ≡ is_over (sets_in_all table.zones + 2)
          (octets_in_all table.zones + sum_by (λ set. length (set_octets set)) sets)
      full_is =
          ap (λ n. is_over n (sum_by octets_of after.zones))
          (sum_by_push count_of (hosted_in table.zones) (new_zone next name servers)
          ∙ ap (λ n. n + 2) (agree.sets table.zones))
          ∙ ap (λ n. is_over (sets_in_all table.zones + 2) n)
          (sum_by_push octets_of (hosted_in table.zones) (new_zone next name servers)
          ∙ ap (λ n. n + sum_by (λ set. length (set_octets set)) sets)
          (agree.octets table.zones))

      pub refused_full : is_over (sets_in_all table.zones + 2)
          (octets_in_all table.zones + sum_by (λ set. length (set_octets set)) sets) ≡ true
          → TellsEdit config (CreateZone name servers) table (Err refusal.StoreFull)
      refused_full over =
          inr (ap (λ (found : Option Refusal). unless found (after, made.Zone next))
          (sym (last_rule ∙ ap (λ b. refuse_if b refusal.StoreFull) (full_is ∙ over))))

      accepted : is_over (sets_in_all table.zones + 2)
          (octets_in_all table.zones + sum_by (λ set. length (set_octets set)) sets) ≡ false
          → Ok (after, made.Zone next) ≡ create_zone config name servers
      accepted over =
          ap (λ (found : Option Refusal). unless found (after, made.Zone next))
          (sym (last_rule ∙ ap (λ b. refuse_if b refusal.StoreFull) (full_is ∙ over)))

    module _ (law : OneNameOfAWire) (told : RefusalsAreTold) (is_name : IsName name)
        (names : AllByRecursion IsName servers) (four : length servers ≡ 4) where
      pub own : IsSoundZone checks.list table.collections.list (new_zone next name servers)
      own = sound_zone name servers law four names
          (told_false (is_repeated servers) (invalid reason.RepeatedValue) none_of_them.1)
          (told_not (is_zone_name name) (invalid reason.BadZoneName) none_of_them.0)
          told is_name next checks.list table.collections.list

      can_be_added : CanBeAdded name sets
      can_be_added = record {
        each = (
          record { inside = own.sets.inside.0; spelled = own.spelled.0 },
          (record { inside = own.sets.inside.1.0; spelled = own.spelled.1.0 }, tt),
        );
        differ = ((λ e. differ_by e, tt), (tt, tt));
      }
        where
          differ_by : key_of (new_ns_set name servers) ≢ key_of (new_soa_set name servers)
          differ_by e = grind (arith, e)

      module _ (sound : Sound config) (found : ZonesAreFound) where
        below : (zone : Zone) → IsOne table.zones zone → zone.id < next
        below zone there =
            (all_at (λ (z : HostedZone). (1 ≤ z.id) × (z.id < next)) (hosted_in table.zones)
            (hosted zone) sound.numbers (in_hosted table.zones zone there)).1

        allowed : IsAllowed table.zones (Begin next name sets)
        allowed = (
          λ has. (let lt = below has.0 has.1 in let same = has.2 in omega (arith, lt, same)),
          λ has. has_none has,
          can_be_added,
          sound.from,
        )
          where
            has_none : HasName table.zones name → ⊥
            has_none has =
                let is = (found.named table.zones name).1 has in
                let no = told_false (has_zone (hosted_in table.zones) name)
                (invalid reason.ZoneExists) none_of_them.2 in
                grind (arith, is, no)

        pub opened : CountsAgree → EditsAreTold
            → is_over (sets_in_all table.zones + 2)
            (octets_in_all table.zones + sum_by (λ set. length (set_octets set)) sets) ≡ false
            → IsEditFor config (CreateZone name servers) table (Begin next name sets)
        opened agree edits over = (
          after,
          made.Zone next,
          accepted agree over,
          record {
            allowed = allowed;
            zones = λ zones delta are are_after made_it.
                edits.opened table.zones zones next name sets delta are are_after below
                own.sets.rising made_it;
            collections = refl;
            least = own.sets.rising;
          },
          refl,
        )

-- ---- room before

pub room_sets : (table : Table) (next : ℕ) (checks : Checks) → Sound (config_of table checks next)
    → CountsAgree → sets_in_all table.zones ≤ 100000
room_sets table next checks sound agree =
    let room = (not_full (hosted_in table.zones) sound.not_full).sets in
    let same = agree.sets table.zones in
    omega (arith, room, same)

pub room_octets : (table : Table) (next : ℕ) (checks : Checks) → Sound (config_of table checks next)
    → CountsAgree → octets_in_all table.zones ≤ 67108864
room_octets table next checks sound agree =
    let room = (not_full (hosted_in table.zones) sound.not_full).octets in
    let same = agree.octets table.zones in
    omega (arith, room, same)
