-- A command that the rules of the first version accept is accepted, and commands one after another.
use Rattle.std.proofs.Common.{◌≡◌, ℕ, Bool, true, false, List, [], ◌∷◌, Option, None, Some, ap, sym, refl, ◌∙◌, subst, arith, inl, inr}
use Rattle.std.specs.Prelude.{◌==◌, not, Contains, nat_eq, nat_le, length, option_map, Ok}
use Rattle.std.specs.List.{AllByRecursion, list_any}
use Rattle.std.proofs.lemmas.Bool.{false≢true}
use Rattle.batch_model.specs.Batches.{Prepares}
use Rattle.batch_model.specs.declared.batches.Batch.{Batch}
use Rattle.check_model.proofs.Kept.{none_missing, passes, there_and}
use Rattle.check_model.proofs.Members.{all_at, none_of}
use Rattle.check_model.proofs.Told.{all_there}
use Rattle.check_model.proofs.Walks.{Held}
use Rattle.check_model.specs.Checks.{Checks, IsCalculated, IsId, check_with, children_of}
use Rattle.check_model.specs.Commands.{Given, checks_after, created, delete_refusal, first_missing}
use Rattle.check_model.specs.Commands.{first_of, given_by, given_rules, has_repeated}
use Rattle.check_model.specs.Commands.{is_calculated_there, is_named, is_too_deep, is_wrong_member}
use Rattle.check_model.specs.Commands.{missing, of_there, refusal_of, refuse_if, updated, update_refusal}
use Rattle.check_model.specs.Told.{WalksAreTold}
use Rattle.check_model.specs.declared.checks.Check.{Check}
use Rattle.check_model.specs.declared.checks.Check.TheVariants.{Endpoint, Calculated}
use Rattle.check_model.specs.declared.checks.CheckCommand.{CheckCommand}
use Rattle.check_model.specs.declared.checks.CheckCommand.TheVariants.{Create, Update, Delete}
use Rattle.check_model.specs.declared.refusals.CheckRefusal.{CheckRefusal}
use Rattle.check_model.specs.declared.refusals.CheckRefusal.TheVariants.{ChildRepeated, ChildTooDeep, WrongMember, HealthCheckInUse, TooManyHealthChecks, IdsEnded}
use Rattle.command_octets.specs.declared.commands.Command.{Command}
use Rattle.command_octets.specs.declared.commands.Command.TheVariants as command
use Rattle.cidr_blocks.specs.declared.places.Collection.{Collection}
use Rattle.config_model.proofs.Left.{all_appended, all_filtered, all_left}
use Rattle.config_model.proofs.Members.{all_at as among}
use Rattle.config_model.proofs.Told.{none_of_all}
use Rattle.config_model.proofs.Zoning.{accepted, all_with, both_none, found, with_at}
use Rattle.config_model.specs.Applying.{AppliesAll, Decides}
use Rattle.config_model.specs.Batches.{ChangesIn, check_refusal, collection_refusal}
use Rattle.config_model.specs.Batches.{depth_refusal, first_among, is_zone_full}
use Rattle.config_model.specs.Batches.{location_refusal, named_collection, named_location}
use Rattle.config_model.specs.Batches.{sets_refusal, store_refusal, target_refusal}
use Rattle.config_model.specs.Configs.{Config, with_sets, without_zone, zone_with}
use Rattle.config_model.specs.NewZones.{create_refusal, end_of, end_refusal, new_zone, with_zone}
use Rattle.config_model.specs.Others.{in_use, made_check}
use Rattle.config_model.specs.Telling as told
use Rattle.config_model.specs.declared.refusals.Made.{Made}
use Rattle.config_model.specs.declared.refusals.Made.TheVariants as made
use Rattle.config_model.specs.declared.refusals.Refusal.{Refusal}
use Rattle.config_model.specs.declared.refusals.Refusal.TheVariants as refusal
use Rattle.first_version.proofs.Flat.{flat_more, flat_updated, flat_without}
use Rattle.first_version.proofs.Flat.{none_more, none_updated, none_without, not_deep}
use Rattle.first_version.specs.Laws.{EmptyIsFormer, FormerVersionStays}
use Rattle.first_version.specs.Rules.{AreFormerChecks, IsEndpointAt, IsFormerConfig, IsFormerZone}
use Rattle.first_version.specs.Rules.{FormerAppliesAll, FormerChangesIn, FormerDecides, IsFormer}
use Rattle.first_version.specs.Rules.{IsFormerHealth, IsFormerRouting, IsFormerSet}
use Rattle.first_version.specs.Rules.{first_changed_zones, first_sets_refusal}
use Rattle.first_version.specs.Rules.{first_given_rules, first_refusal_of, first_update_refusal}
use Rattle.first_version.specs.Rules.{is_disabled}
use Rattle.record_set.specs.declared.sets.RecordSet.{RecordSet}
use Rattle.routing.specs.declared.policies.Routing.{Routing}
use Rattle.routing.specs.declared.policies.Routing.TheVariants as routing
use Rattle.zone_model.specs.Hosted.{HostedZone}
use Rattle.zone_model.specs.Zones.{IsAmong}

-- ---- children

stand : (repeated deep : Bool) (absent : Option ℕ) (rules : List (Option CheckRefusal))
    → repeated ≡ false → absent ≡ None → deep ≡ false → first_of rules ≡ None
    → first_of (refuse_if repeated ChildRepeated ∷ missing absent ∷ refuse_if deep ChildTooDeep ∷ rules)
    ≡ None
stand true deep absent rules e f g h = absurd (false≢true (sym e))
stand false true absent rules e f g h = absurd (false≢true (sym g))
stand false false (Some child) rules e f g h = absurd (grind (arith, f))
stand false false None rules e f g h = h

-- children that the first version's rules refuse for nothing
pub record Pass (list : List Held) (children : List ℕ) (rules : List (Option CheckRefusal))
    : Type 0 where
  pub endpoints : (child : ℕ) → Contains children child → IsEndpointAt list child
  pub rest : first_of rules ≡ None
  pub today : (after : List Held) → is_too_deep after ≡ false
      → first_of (refuse_if (has_repeated children) ChildRepeated
      ∷ missing (first_missing list children) ∷ refuse_if (is_too_deep after) ChildTooDeep ∷ rules)
      ≡ None

calculated_there : (found : Option Check) (check : Check) → found ≡ Some check
    → IsCalculated check → is_calculated_there found ≡ true
calculated_there found (Endpoint threshold inverted disabled) e is = absurd is
calculated_there found (Calculated threshold inverted disabled children) e is =
    ap is_calculated_there e

module _ (list : List Held) (children : List ℕ) (rules : List (Option CheckRefusal)) where
  abbrev is_calculated_at : ℕ → Bool
  is_calculated_at child = is_calculated_there (check_with list child)

  children_pass : first_of (refuse_if (has_repeated children) ChildRepeated
      ∷ missing (first_missing list children)
      ∷ refuse_if (list_any is_calculated_at children) ChildTooDeep ∷ rules) ≡ None
      → Pass list children rules
  children_pass e =
      let one = passes ChildRepeated (missing (first_missing list children)
      ∷ refuse_if (list_any is_calculated_at children) ChildTooDeep ∷ rules)
      (has_repeated children) e in
      let two = none_missing (first_missing list children)
      (refuse_if (list_any is_calculated_at children) ChildTooDeep ∷ rules) one.1 in
      let three = passes ChildTooDeep rules (list_any is_calculated_at children) two.1 in
      let there = all_there list children two.0 in
      record {
        endpoints = λ child m. (let is = all_at (IsId list) children child there m in (
          is.0,
          is.1,
          λ calculated. none_of is_calculated_at children child three.0 m
              (calculated_there (check_with list child) is.0 is.1 calculated),
        ));
        rest = three.1;
        today = λ after shallow. stand (has_repeated children) (is_too_deep after)
            (first_missing list children) rules one.0 two.0 shallow three.1;
      }

-- ---- commands on checks

-- a command is accepted, and leaves such checks
pub record IsStep (checks : Checks) (health : CheckCommand) : Type 0 where
  pub accepted : refusal_of checks health ≡ None
  pub after : AreFormerChecks (checks_after checks health).list

module _ (told : WalksAreTold) (checks : Checks) (are : AreFormerChecks checks.list) where
  create_step : (check : Check) → is_disabled check ≡ false
      → first_refusal_of checks (Create check) ≡ None → IsStep checks (Create check)
  create_step check enabled e =
      let rules = refuse_if (nat_le 200 (length checks.list)) TooManyHealthChecks
      ∷ refuse_if (nat_eq checks.next 4294967295) IdsEnded ∷ [] in
      let pass = children_pass checks.list (children_of check) rules e in
      let flat = flat_more (checks.next, check) checks.list are.flat pass.endpoints in
      record {
        accepted = pass.today (created checks check).list
            (not_deep told (created checks check).list flat);
        after = record {
          flat = flat;
          enabled = none_more (checks.next, check) checks.list are.enabled enabled;
        };
      }

  given_endpoints : (all : Option (List ℕ)) → first_of (first_given_rules checks.list all) ≡ None
      → (children : List ℕ) → all ≡ Some children
      → (child : ℕ) → Contains children child → IsEndpointAt checks.list child
  given_endpoints None e children is child m = absurd (grind (arith, is))
  given_endpoints (Some given) e children is child m =
      let same : given ≡ children = grind (arith, is) in
      (children_pass checks.list given [] e).endpoints child
      (subst (λ (l : List ℕ). Contains l child) (sym same) m)

  given_today : (after : List Held) (all : Option (List ℕ))
      → first_of (first_given_rules checks.list all) ≡ None → is_too_deep after ≡ false
      → first_of (given_rules checks.list after all) ≡ None
  given_today after None e shallow = refl
  given_today after (Some given) e shallow =
      (children_pass checks.list given [] e).today after shallow

  behind : (b : Bool) (why : CheckRefusal) (rules : List (Option CheckRefusal)) → b ≡ false
      → first_of rules ≡ None → first_of (refuse_if b why ∷ rules) ≡ None
  behind true why rules e f = absurd (false≢true (sym e))
  behind false why rules e f = f

  of_found : (id : ℕ) (found : Option Check) (check : Check) (ask : Check → Option CheckRefusal)
      → found ≡ Some check → ask check ≡ None → of_there id found ask ≡ None
  of_found id None check ask e f = absurd (grind (arith, e))
  of_found id (Some other) check ask e f =
      let same : check ≡ other = grind (arith, e) in subst (λ (c : Check). ask c ≡ None) same f

  update_step : (id : ℕ) (given : Given) → given.disabled ≡ None
      → of_there id (check_with checks.list id) (first_update_refusal checks given) ≡ None
      → (of_there id (check_with checks.list id) (update_refusal checks id given) ≡ None)
      × AreFormerChecks (updated checks id given).list
  update_step id given unsaid e =
      let there = there_and id (check_with checks.list id) (first_update_refusal checks given) e in
      let both = passes WrongMember (first_given_rules checks.list given.children)
      (is_wrong_member given there.0) there.2 in
      let flat = flat_updated id given checks.list are.flat
      (given_endpoints given.children both.1) in
      let after = (updated checks id given).list in (
        of_found id (check_with checks.list id) there.0 (update_refusal checks id given) there.1
            (behind (is_wrong_member given there.0) WrongMember
            (given_rules checks.list after given.children) both.0
            (given_today after given.children both.1 (not_deep told after flat))),
        record {
          flat = flat;
          enabled = none_updated id given checks.list are.enabled unsaid;
        },
      )

  delete_step : (id : ℕ) → first_refusal_of checks (Delete id) ≡ None → IsStep checks (Delete id)
  delete_step id e =
      let there = there_and id (check_with checks.list id) (λ check. delete_refusal checks id) e in
      let both = passes (HealthCheckInUse id) [] (is_named id checks.list) there.2 in
      record {
        accepted = e;
        after = record {
          flat = flat_without id checks.list are.flat both.0;
          enabled = none_without id checks.list are.enabled;
        };
      }

  check_step : (health : CheckCommand) → IsFormerHealth health
      → first_refusal_of checks health ≡ None → IsStep checks health
  check_step (Create check) is e = create_step check is e
  check_step (Update id inverted disabled threshold children) is e =
      let both = update_step id (given_by inverted disabled threshold children) is e in
      record {
        accepted = both.0;
        after = both.1;
      }
  check_step (Delete id) is e = delete_step id e

-- ---- batches

abbrev Answer : Type 0
Answer = Config × Made

answers : (why : Option Refusal) (answer given : Answer) → why ≡ None → answer ≡ given
    → Ok answer ≡ told.unless why given
answers None answer given e same = ap Ok same
answers (Some why) answer given e same = absurd (grind (arith, e))

two_none : (a b : Option Refusal) → a ≡ None → b ≡ None → told.first_of (a ∷ b ∷ []) ≡ None
two_none None None e f = refl
two_none (Some why) b e f = absurd (grind (arith, e))
two_none None (Some why) e f = absurd (grind (arith, f))

six_none : (a b c d e f : Option Refusal) → b ≡ None → c ≡ None
    → told.first_of (a ∷ d ∷ e ∷ f ∷ []) ≡ None
    → told.first_of (a ∷ b ∷ c ∷ d ∷ e ∷ f ∷ []) ≡ None
six_none (Some why) b c d e f is are none = absurd (grind (arith, none))
six_none None (Some why) c d e f is are none = absurd (grind (arith, is))
six_none None None (Some why) d e f is are none = absurd (grind (arith, are))
six_none None None None d e f is are none = none

module _ (list : List (ℕ × Collection)) where
  no_collection : (chosen : Routing) → IsFormerRouting chosen
      → (named_collection list chosen ≡ None) × (named_location list chosen ≡ None)
  no_collection (routing.Cidr ident collection location) is = absurd is
  no_collection other is = (refl, refl)

  -- the rules on collections refuse nothing
  sets_today : (checks : List Held) (sets : List RecordSet) → AllByRecursion IsFormerSet sets
      → first_sets_refusal checks sets ≡ None → sets_refusal checks list sets ≡ None
  sets_today checks sets are e = six_none
      (first_among (check_refusal checks) sets)
      (first_among (collection_refusal list) sets)
      (first_among (location_refusal list) sets)
      (first_among (target_refusal sets) sets)
      (first_among (depth_refusal sets) sets)
      (told.refuse_if (is_zone_full sets) refusal.ZoneFull)
      (none_of_all (collection_refusal list) sets
      (λ set there. (no_collection set.routing (among IsFormerSet sets set are there)).0))
      (none_of_all (location_refusal list) sets
      (λ set there. (no_collection set.routing (among IsFormerSet sets set are there)).1))
      e

-- a batch is accepted, and leaves the checks, and sets that name no collection
pub record IsBatchStep (config : Config) (batch : Batch) (found : Option HostedZone)
    (after : Config) (what : Made) : Type 0 where
  pub accepted : ChangesIn config found batch (Ok (after, what))
  pub checks : after.checks ≡ config.checks
  pub collections : after.collections ≡ config.collections
  pub zones : AllByRecursion IsFormerZone after.zones

module _ (config after : Config) (what : Made) (batch : Batch)
    (are : AllByRecursion IsFormerZone config.zones) (is : IsFormer (command.Change batch)) where
  made_step : (zone : HostedZone) (sets : List RecordSet) → IsAmong config.zones zone
      → Prepares zone.sets zone.apex batch.changes (Ok sets)
      → Ok (after, what) ≡ first_changed_zones config zone.id sets
      → IsBatchStep config batch (Some zone) after what
  made_step zone sets there prepared e =
      let zones = with_sets config.zones zone.id sets in
      let given : Answer = (record config { zones = zones }, made.Nothing) in
      let first = first_sets_refusal config.checks.list sets in
      let both = accepted (told.first_of (first ∷ store_refusal zones ∷ [])) (after, what) given
      e in
      let none = both_none first (store_refusal zones) both.0 in
      let own = all_left zone.apex IsFormerSet batch.changes zone.sets sets
      (among IsFormerZone config.zones zone are there) is prepared.1 in
      let today = sets_refusal config.checks.list config.collections.list sets in
      record {
        accepted = inr (
          sets,
          prepared,
          answers (told.first_of (today ∷ store_refusal zones ∷ [])) (after, what) given
              (two_none today (store_refusal zones)
              (sets_today config.collections.list config.checks.list sets own none.0) none.1)
              both.1,
        );
        checks = ap (λ (a : Answer). a.0.checks) both.1;
        collections = ap (λ (a : Answer). a.0.collections) both.1;
        zones = subst (λ (a : Answer). AllByRecursion IsFormerZone a.0.zones) (sym both.1)
            (all_with zone.id sets IsFormerZone IsFormerZone config.zones
            (λ z there h. with_at zone.id sets IsFormerZone z (λ same. own) (λ differs. h)) are);
      }

  batch_step : (found : Option HostedZone) → zone_with config.zones batch.zone ≡ found
      → FormerChangesIn config found batch (Ok (after, what))
      → IsBatchStep config batch found after what
  batch_step None at e = absurd (grind (arith, e))
  batch_step (Some zone) at (inl (why, known, refused, e)) = absurd (grind (arith, e))
  batch_step (Some zone) at (inr (sets, prepared, e)) =
      made_step zone sets (found config.zones batch.zone zone at).0 prepared e

-- ---- commands

-- a command is accepted, and leaves such a configuration
abbrev GoesOn : Config → Command → Config → Made → Type 0
GoesOn config given after what =
    Decides config given (Ok (after, what)) × IsFormerConfig after

no_fault : {X : Type 0} (f : X → Refusal) (found : Option X) → option_map f found ≡ None
    → found ≡ None
no_fault f None e = refl
no_fault f (Some x) e = absurd (grind (arith, e))

module _ (walks : WalksAreTold) (config after : Config) (what : Made)
    (are : IsFormerConfig config) where
  unchanged : after.checks ≡ config.checks → AreFormerChecks after.checks.list
  unchanged same = subst (λ (c : Checks). AreFormerChecks c.list) (sym same) are.checks

  create_goes : (name : List (List ℕ)) (servers : List (List (List ℕ)))
      → Decides config (command.CreateZone name servers) (Ok (after, what))
      → GoesOn config (command.CreateZone name servers) after what
  create_goes name servers e =
      let both = accepted (create_refusal config name servers) (after, what)
      (with_zone config name servers, made.Zone config.next_zone) e in (
        e,
        record {
          checks = unchanged (ap (λ (a : Answer). a.0.checks) both.1);
          collections = ap (λ (a : Answer). a.0.collections) both.1 ∙ are.collections;
          zones = subst (λ (a : Answer). AllByRecursion IsFormerZone a.0.zones) (sym both.1)
              (all_appended IsFormerZone config.zones
              (new_zone config.next_zone name servers ∷ []) are.zones ((tt, (tt, tt)), tt));
        },
      )

  end_goes : (found : Option HostedZone) → Ok (after, what) ≡ end_of config found
      → IsFormerConfig after
  end_goes None e = absurd (grind (arith, e))
  end_goes (Some zone) e =
      let both = accepted (end_refusal zone) (after, what)
      (record config { zones = without_zone config.zones zone.id }, made.Nothing) e in
      record {
        checks = unchanged (ap (λ (a : Answer). a.0.checks) both.1);
        collections = ap (λ (a : Answer). a.0.collections) both.1 ∙ are.collections;
        zones = subst (λ (a : Answer). AllByRecursion IsFormerZone a.0.zones) (sym both.1)
            (all_filtered IsFormerZone (λ (other : HostedZone). not (other.id == zone.id))
            config.zones are.zones);
      }

  health_goes : (health : CheckCommand) → IsFormerHealth health
      → FormerDecides config (command.Health health) (Ok (after, what))
      → GoesOn config (command.Health health) after what
  health_goes health is e =
      let named = in_use config.zones health in
      let first = option_map told.of_check (first_refusal_of config.checks health) in
      let given : Answer = (
        record config { checks = checks_after config.checks health },
        made_check config.checks health,
      ) in
      let both = accepted (told.first_of (first ∷ named ∷ [])) (after, what) given e in
      let none = both_none first named both.0 in
      let step = check_step walks config.checks are.checks health is
      (no_fault told.of_check (first_refusal_of config.checks health) none.0) in
      let today = option_map told.of_check (refusal_of config.checks health) in (
        answers (told.first_of (today ∷ named ∷ [])) (after, what) given
            (two_none today named (ap (option_map told.of_check) step.accepted) none.1) both.1,
        record {
          checks = subst (λ (a : Answer). AreFormerChecks a.0.checks.list) (sym both.1) step.after;
          collections = ap (λ (a : Answer). a.0.collections) both.1 ∙ are.collections;
          zones = subst (λ (a : Answer). AllByRecursion IsFormerZone a.0.zones) (sym both.1)
              are.zones;
        },
      )

  step : (given : Command) → IsFormer given → FormerDecides config given (Ok (after, what))
      → GoesOn config given after what
  step (command.CreateZone name servers) is e = create_goes name servers e
  step (command.DeleteZone id) is e = (e, end_goes (zone_with config.zones id) e)
  step (command.Change batch) is e =
      let one = batch_step config after what batch are.zones is
      (zone_with config.zones batch.zone) refl e in (
        one.accepted,
        record {
          checks = unchanged one.checks;
          collections = one.collections ∙ are.collections;
          zones = one.zones;
        },
      )
  step (command.Health health) is e = health_goes health is e
  step (command.Cidr cidr) is e = absurd is

-- ---- commands one after another

all_steps : WalksAreTold → (config : Config) (commands : List Command) (after : Config)
    → IsFormerConfig config → FormerAppliesAll config commands after
    → AppliesAll config commands after × IsFormerConfig after
all_steps walks config [] after are e = (e, subst IsFormerConfig (sym e) are)
all_steps walks config (given ∷ commands) after are (is, middle, what, decides, rest) =
    let one = step walks config middle what are given is decides in
    let more = all_steps walks middle commands after one.1 rest in
    ((middle, what, one.0, more.0), more.1)

pub empty_first : EmptyIsFormer
empty_first = record {
  checks = record {
    flat = λ id child is. absurd (grind (arith, is.1));
    enabled = λ id check at. absurd (grind (arith, at));
  };
  collections = refl;
  zones = tt;
}

pub first_version_stays : WalksAreTold → FormerVersionStays
first_version_stays walks before after commands are e =
    all_steps walks before commands after are e
