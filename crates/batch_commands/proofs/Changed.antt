-- What a batch on a zone comes to, by the edit that it makes.
use Rattle.std.proofs.Common.{◌≡◌, ◌≢◌, ℕ, ◌≤◌, List, [], ◌∷◌, ap, ◌∙◌, sym, refl, subst, arith}
use Rattle.std.proofs.Common.{inl, inr, Option, None, Some}
use Rattle.std.specs.Prelude.{◌⊎◌, Result, Ok, Err}
use Rattle.alias_links.specs.After.{changed_in, sets_in}
use Rattle.zone_model.specs.Differences.{AreMissing, IsDifference}
use Rattle.batch_edits.specs.Edits.{EditsOrNot}
use Rattle.batch_edits.specs.declared.editing.Edit.{Edit}
use Rattle.batch_edits.specs.Batches.{Prepares}
use Rattle.batch_edits.specs.Rules.{MeetsAll, rules}
use Rattle.batch_edits.specs.BatchRecord.{Batch}
use Rattle.batch_edits.specs.ChangeRecord.{Change}
use Rattle.batch_edits.specs.BatchRefusalRecord.{BatchRefusal}
use Rattle.batch_edits.specs.BatchRefusalRecord.TheVariants as batch
use Rattle.check_model.specs.Checks.{Checks}
use Rattle.cidr_commands.specs.Stored.{Stored}
use Rattle.config_zones.specs.CommandRecord.TheVariants as command
use Rattle.config_zones.specs.Edited.{EditsAreTold, hosted_in}
use Rattle.config_zones.proofs.Ended.{not_full}
use Rattle.config_zones.proofs.Members.{all_at}
use Rattle.config_zones.proofs.Told.{none_among, parts}
use Rattle.config_zones.specs.Batches.{ChangesIn, check_refusal, collection_refusal, depth_refusal}
use Rattle.config_zones.specs.Batches.{first_among, is_zone_full, location_refusal, sets_refusal}
use Rattle.config_zones.specs.Batches.{store_refusal, target_refusal}
use Rattle.config_zones.specs.Configs.{Config, with_sets, zone_with}
use Rattle.config_zones.specs.Sound.{IsSoundZone, Sound}
use Rattle.config_zones.specs.Telling.{first_of, of_batch, refuse_if, unless}
use Rattle.config_zones.specs.Told.{AreInOrder, RefusalsAreTold}
use Rattle.config_zones.specs.MadeRecord.TheVariants as made
use Rattle.config_zones.specs.RefusalRecord.{Refusal}
use Rattle.config_zones.specs.RefusalRecord.TheVariants as refusal
use Rattle.config_zones.proofs.Found.{in_hosted}
use Rattle.config_zones.specs.Configured.{IsEditFor, TellsEdit, config_of}
use Rattle.config_zones.specs.Laws.{CountsAgree, ZonesAreFound}
use Rattle.record_set.specs.declared.sets.RecordSet.{RecordSet}
use Rattle.record_set.specs.declared.sets.SetKey.{SetKey}
use Rattle.config_zones.proofs.Listing.{its_placed}
use Rattle.config_zones.specs.Zones.{AreZones, IsZoneId, Zone, hosted, placed_in}
use Rattle.zone_model.specs.Hosted.{HostedZone}
use Rattle.zone_model.specs.Slotted.{Slotted, sets_of}
use Rattle.config_zones.specs.Counted.{octets_in_all, sets_in_all}
use Rattle.config_zones.specs.Edits.{IsAllowed}
use Rattle.config_zones.specs.LawsOfZoneTable.{OneApex}
use Rattle.config_zones.specs.Looking.{IsApex}
use Rattle.config_zones.specs.Tables.{Table}
use Rattle.config_zones.specs.ZoneEditRecord.TheVariants as edit
use Rattle.batch_commands.proofs.Firsts.{in_groups, new_decide}

-- ---- refusals of a batch by itself

is_memory : (why : BatchRefusal) → (why ≡ batch.OutOfMemory) ⊎ (why ≢ batch.OutOfMemory)
is_memory batch.EmptyBatch = inr (λ e. grind (arith, e))
is_memory (batch.InvalidInput i reason) = inr (λ e. grind (arith, e))
is_memory batch.TooManyValues = inr (λ e. grind (arith, e))
is_memory batch.TooManyCharacters = inr (λ e. grind (arith, e))
is_memory (batch.NotInZone i) = inr (λ e. grind (arith, e))
is_memory (batch.AlreadyExists i) = inr (λ e. grind (arith, e))
is_memory (batch.NotFound i) = inr (λ e. grind (arith, e))
is_memory (batch.ValuesDiffer i) = inr (λ e. grind (arith, e))
is_memory (batch.ApexProtected i) = inr (λ e. grind (arith, e))
is_memory (batch.MixedPolicies key) = inr (λ e. grind (arith, e))
is_memory (batch.CnameConflict name) = inr (λ e. grind (arith, e))
is_memory (batch.SamePlace key) = inr (λ e. grind (arith, e))
is_memory (batch.GroupFull name rtype) = inr (λ e. grind (arith, e))
is_memory batch.OutOfMemory = inl refl

-- ---- a zone of a sound configuration

module _ (table : Table) (checks : Checks) (next id : ℕ) (sound : Sound (config_of table checks next))
    (are : AreZones table.zones) (there : IsZoneId table.zones id) where
  abbrev sets : List RecordSet
  sets = sets_in table.zones id

  its_sets : there.0.placed ≡ placed_in table.zones id
  its_sets =
      sym (its_placed table.zones are.listed there.0 there.1) ∙ ap (placed_in table.zones) there.2

  its_soundness : IsSoundZone checks.list table.collections.list (hosted there.0)
  its_soundness =
      all_at (IsSoundZone checks.list table.collections.list) (hosted_in table.zones)
      (hosted there.0) sound.each (in_hosted table.zones there.0 there.1)

  pub last : sets_refusal checks.list table.collections.list sets ≡ None
  last =
      subst (λ (ps : List Slotted).
      sets_refusal checks.list table.collections.list (sets_of ps) ≡ None) its_sets
      its_soundness.last

  abbrev last_parts : (first_among (check_refusal checks.list) sets ≡ None)
      × (first_among (collection_refusal table.collections.list) sets ≡ None)
      × (first_among (location_refusal table.collections.list) sets ≡ None)
      × (first_among (target_refusal sets) sets ≡ None)
      × (first_among (depth_refusal sets) sets ≡ None)
      × (refuse_if (is_zone_full sets) refusal.ZoneFull ≡ None)
  last_parts =
      parts (first_among (check_refusal checks.list) sets)
      (first_among (collection_refusal table.collections.list) sets)
      (first_among (location_refusal table.collections.list) sets)
      (first_among (target_refusal sets) sets)
      (first_among (depth_refusal sets) sets)
      (refuse_if (is_zone_full sets) refusal.ZoneFull) last

  pub in_order : RefusalsAreTold → AreInOrder checks.list table.collections.list sets
  in_order told = (told.none checks.list table.collections.list sets).0 last

  pub meets : (apex : List (List ℕ)) → IsApex table.zones id apex → OneApex
      → MeetsAll rules sets apex
  meets apex is one =
      let same : there.0.apex ≡ apex =
      one table.zones id there.0.apex apex are (there.0, there.1, there.2, refl) is in
      subst (λ (a : List (List ℕ)). MeetsAll rules sets a) same
      (subst (λ (ps : List Slotted). MeetsAll rules (sets_of ps) there.0.apex) its_sets
      its_soundness.rules)

  -- ---- what is looked at behind the last change

  module _ (remove : List SetKey) (add : List RecordSet)
      (comes : AreMissing (changed_in table.zones id remove add) sets add) where
    abbrev after : List RecordSet
    after = changed_in table.zones id remove add

    abbrev refused : Option Refusal
    refused = first_of (sets_refusal checks.list table.collections.list after
        ∷ store_refusal (with_sets (hosted_in table.zones) id after) ∷ [])

    -- the first refusals of names, of aliases and of numbers
    abbrev names_in : Stored → Option Refusal
    names_in collections = first_of (first_among (check_refusal checks.list) add
        ∷ first_among (collection_refusal collections.list) add
        ∷ first_among (location_refusal collections.list) add ∷ [])

    abbrev of_names : Option Refusal
    of_names = names_in table.collections

    abbrev of_links : Option Refusal
    of_links = first_of (first_among (target_refusal after) after
        ∷ first_among (depth_refusal after) after ∷ [])

    abbrev of_sizes : Option Refusal
    of_sizes = first_of (refuse_if (is_zone_full after) refusal.ZoneFull
        ∷ store_refusal (with_sets (hosted_in table.zones) id after) ∷ [])

    new_names : first_of (first_among (check_refusal checks.list) after
        ∷ first_among (collection_refusal table.collections.list) after
        ∷ first_among (location_refusal table.collections.list) after ∷ []) ≡ of_names
    new_names =
        let one = new_decide (check_refusal checks.list) after sets add comes
        (none_among (check_refusal checks.list) sets last_parts.0) in
        let two = new_decide (collection_refusal table.collections.list) after sets add comes
        (none_among (collection_refusal table.collections.list) sets last_parts.1) in
        let three = new_decide (location_refusal table.collections.list) after sets add comes
        (none_among (location_refusal table.collections.list) sets last_parts.2) in
        ap (λ (t : Option Refusal). first_of (t
        ∷ first_among (collection_refusal table.collections.list) after
        ∷ first_among (location_refusal table.collections.list) after ∷ [])) one
        ∙ (ap (λ (t : Option Refusal). first_of (first_among (check_refusal checks.list) add
        ∷ t
        ∷ first_among (location_refusal table.collections.list) after ∷ [])) two
        ∙ ap (λ (t : Option Refusal). first_of (first_among (check_refusal checks.list) add
        ∷ first_among (collection_refusal table.collections.list) add
        ∷ t ∷ [])) three)

    in_three : refused ≡ first_of (of_names ∷ of_links ∷ of_sizes ∷ [])
    in_three =
        in_groups (first_among (check_refusal checks.list) after)
        (first_among (collection_refusal table.collections.list) after)
        (first_among (location_refusal table.collections.list) after)
        (first_among (target_refusal after) after)
        (first_among (depth_refusal after) after)
        (refuse_if (is_zone_full after) refusal.ZoneFull)
        (store_refusal (with_sets (hosted_in table.zones) id after))
        ∙ ap (λ (t : Option Refusal). first_of (t ∷ of_links ∷ of_sizes ∷ [])) new_names

    module _ (found : Stored) (same : found ≡ table.collections) where
      names_are : names_in found ≡ of_names
      names_are = ap names_in same

      pub names_first : (why : Refusal) → Some why ≡ names_in found → Some why ≡ refused
      names_first why e =
          sym (in_three ∙ ap (λ (t : Option Refusal). first_of (t ∷ of_links ∷ of_sizes ∷ []))
          (sym (e ∙ names_are)))

      pub links_next : (why : Refusal) → None ≡ names_in found → Some why ≡ of_links
          → Some why ≡ refused
      links_next why e f =
          sym (in_three
          ∙ (ap (λ (t : Option Refusal). first_of (t ∷ of_links ∷ of_sizes ∷ []))
          (sym (e ∙ names_are))
          ∙ ap (λ (t : Option Refusal). first_of (t ∷ of_sizes ∷ [])) (sym f)))

      pub sizes_last : (told : Option Refusal) → None ≡ names_in found → None ≡ of_links
          → told ≡ of_sizes → told ≡ refused
      sizes_last told e f g =
          g ∙ sym (in_three
          ∙ (ap (λ (t : Option Refusal). first_of (t ∷ of_links ∷ of_sizes ∷ []))
          (sym (e ∙ names_are))
          ∙ (ap (λ (t : Option Refusal). first_of (t ∷ of_sizes ∷ [])) (sym f)
          ∙ alone of_sizes)))
        where
          alone : (t : Option Refusal) → first_of (t ∷ []) ≡ t
          alone None = refl
          alone (Some why) = refl

-- ---- a batch

module _ (table : Table) (checks : Checks) (next : ℕ) (given : Batch) where
  abbrev config : Config
  config = config_of table checks next

  -- the first refusal behind the last change, by what goes and what comes
  abbrev pub last_of : List SetKey → List RecordSet → Option Refusal
  last_of remove add = first_of (sets_refusal checks.list table.collections.list
      (changed_in table.zones given.zone remove add)
      ∷ store_refusal (with_sets (hosted_in table.zones) given.zone
      (changed_in table.zones given.zone remove add)) ∷ [])

  last_so : (remove keys : List SetKey) (add sets : List RecordSet) → remove ≡ keys
      → add ≡ sets → last_of remove add ≡ last_of keys sets
  last_so remove keys add sets goes comes =
      ap (λ (ks : List SetKey). last_of ks add) goes
      ∙ ap (λ (ss : List RecordSet). last_of keys ss) comes

  answered : (found : Option HostedZone) → zone_with config.zones given.zone ≡ found
      → (answer : Result _ Refusal) → ChangesIn config found given answer
      → ChangesIn config (zone_with config.zones given.zone) given answer
  answered found e answer is =
      subst (λ (f : Option HostedZone). ChangesIn config f given answer) (sym e) is

  pub none_there : ZonesAreFound → (IsZoneId table.zones given.zone → ⊥)
      → TellsEdit config (command.Change given) table (Err refusal.NoSuchHostedZone)
  none_there found none =
      inr (answered None (found.none table.zones given.zone none)
      (Err refusal.NoSuchHostedZone) refl)

  module _ (found : ZonesAreFound) (apex : List (List ℕ)) (are : AreZones table.zones)
      (is : IsApex table.zones given.zone apex) where
    abbrev zone : HostedZone
    zone = record { id = given.zone; apex = apex; sets = sets_in table.zones given.zone }

    its_zone : zone_with config.zones given.zone ≡ Some zone
    its_zone = found.found table.zones given.zone apex are is

    pub refused_itself : (why : BatchRefusal) → Prepares zone.sets apex given.changes (Err why)
        → TellsEdit config (command.Change given) table (Err (of_batch why))
    refused_itself why prepares = elim (is_memory why) [
      | inl e ↦ inl (ap (λ (w : BatchRefusal). Err (of_batch w)) e)
      | inr other ↦
          inr (answered (Some zone) its_zone (Err (of_batch why))
          (inl (why, other, prepares, refl)))
    ]

    module _ (remove : List SetKey) (add : List RecordSet)
        (prepares : Prepares zone.sets apex given.changes
        (Ok (changed_in table.zones given.zone remove add))) where
      abbrev left : List RecordSet
      left = changed_in table.zones given.zone remove add

      abbrev now : Config
      now = record config { zones = with_sets config.zones given.zone left }

      refused_after : (why : Refusal) → Some why ≡ last_of remove add
          → TellsEdit config (command.Change given) table (Err why)
      refused_after why e =
          inr (answered (Some zone) its_zone (Err why) (inr (
            left,
            prepares,
            ap (λ (t : Option Refusal). unless t (now, made.Nothing)) e,
          )))

      made_whole : EditsAreTold → None ≡ last_of remove add
          → IsDifference zone.sets left remove add
          → IsAllowed table.zones (edit.Change given.zone remove add)
          → IsEditFor config (command.Change given) table (edit.Change given.zone remove add)
      made_whole edits e difference allowed = (
        now,
        made.Nothing,
        answered (Some zone) its_zone (Ok (now, made.Nothing)) (inr (
          left,
          prepares,
          ap (λ (t : Option Refusal). unless t (now, made.Nothing)) e,
        )),
        record {
          allowed = allowed;
          zones = λ zones delta are_before are_after made_it.
              edits.changed table.zones zones given.zone remove add delta are_before are_after
              (is.0, is.1, is.2) made_it;
          collections = refl;
          least = difference;
        },
        refl,
      )

    -- ---- an edit, told by its two lists

    module _ (its : Edit)
        (made : EditsOrNot table.zones given.zone apex given.changes (Ok its))
        (remove : List SetKey) (add : List RecordSet) (goes : remove ≡ its.remove)
        (comes : add ≡ its.add) where
      pub refused_behind : (why : Refusal) → Some why ≡ last_of remove add
          → TellsEdit config (command.Change given) table (Err why)
      refused_behind why e =
          refused_after its.remove its.add made.0.after why
          (e ∙ last_so remove its.remove add its.add goes comes)

      pub edited : EditsAreTold → None ≡ last_of remove add
          → IsEditFor config (command.Change given) table
          (edit.Change given.zone its.remove its.add)
      edited edits e =
          made_whole its.remove its.add made.0.after edits
          (e ∙ last_so remove its.remove add its.add goes comes) made.0.difference made.1

-- ---- what is told of the edit by its two lists

-- a zone has its name
abbrev pub its_apex : (zones : List Zone) (id : ℕ) (there : IsZoneId zones id)
    → IsApex zones id there.0.apex
its_apex zones id there = (there.0, there.1, there.2, refl)

module _ (zones : List Zone) (id : ℕ) (apex : List (List ℕ)) (changes : List Change)
    (its : Edit) (made : EditsOrNot zones id apex changes (Ok its)) (remove : List SetKey)
    (add : List RecordSet) (goes : remove ≡ its.remove) (comes : add ≡ its.add) where
  pub allowed_so : IsAllowed zones (edit.Change id remove add)
  allowed_so =
      subst (λ (keys : List SetKey). IsAllowed zones (edit.Change id keys add)) (sym goes)
      (subst (λ (sets : List RecordSet). IsAllowed zones (edit.Change id its.remove sets))
      (sym comes) made.1)

  pub comes_so : AreMissing (changed_in zones id remove add) (sets_in zones id) add
  comes_so =
      subst (λ (keys : List SetKey).
      AreMissing (changed_in zones id keys add) (sets_in zones id) add) (sym goes)
      (subst (λ (sets : List RecordSet).
      AreMissing (changed_in zones id its.remove sets) (sets_in zones id) sets) (sym comes)
      made.0.difference.comes)

-- ---- room before

pub room_sets : (table : Table) (checks : Checks) (next : ℕ)
    → Sound (config_of table checks next) → CountsAgree → sets_in_all table.zones ≤ 100000
room_sets table checks next sound agree =
    let room = (not_full (hosted_in table.zones) sound.not_full).sets in
    let same = agree.sets table.zones in
    omega (arith, room, same)

pub room_octets : (table : Table) (checks : Checks) (next : ℕ)
    → Sound (config_of table checks next) → CountsAgree → octets_in_all table.zones ≤ 67108864
room_octets table checks next sound agree =
    let room = (not_full (hosted_in table.zones) sound.not_full).octets in
    let same = agree.octets table.zones in
    omega (arith, room, same)
