-- A command that a sound configuration accepts has a spelling.
use Rattle.std.proofs.Common.{◌≡◌, ℕ, suc, ◌≤◌, inl, inr, Bool, true, false, List, [], ◌∷◌, length, ap, ◌∙◌, sym, refl}
use Rattle.std.proofs.Common.{subst, arith, cond, Option, None, Some, Ok}
use Rattle.std.specs.Prelude.{map, option_map, slice_get, nat_eq}
use Rattle.std.proofs.lemmas.Bool.{eq-eqb, eqb-true}
use Rattle.std.proofs.lemmas.List.Sums.{sum_by-cons}
use Rattle.octet_reading.specs.Rules.{WhereSome}
use Rattle.std.specs.List.{AllByRecursion, sum_by}
use Rattle.config_model.specs.BatchModel.{IsWithinLimits}
use Rattle.config_model.specs.Limits.{counted, elements_in, elements_of}
use Rattle.config_model.specs.ActionRecord.{Action}
use Rattle.config_model.specs.ActionRecord.TheVariants as action
use Rattle.config_model.specs.BatchRecord.{Batch}
use Rattle.config_model.specs.ChangeRecord.{Change}
use Rattle.check_model.specs.Checks.{Checks, IsBounded as IsBoundedCheck, check_with}
use Rattle.check_model.specs.Commands.{Given, IsBoundedCommand, IsThreshold, checks_after, given_by}
use Rattle.check_model.specs.Commands.{of_there, refusal_of, update_refusal}
use Rattle.check_model.specs.Commands.{updated_at, updated_check}
use Rattle.check_model.specs.declared.checks.Check.{Check}
use Rattle.check_model.specs.declared.checks.Check.TheVariants.{Calculated, Endpoint}
use Rattle.check_model.specs.declared.checks.CheckCommand.{CheckCommand}
use Rattle.check_model.specs.declared.checks.CheckCommand.TheVariants as check
use Rattle.check_model.specs.declared.refusals.CheckRefusal.{CheckRefusal}
use Rattle.config_model.specs.Octets.{HasFewBlocks, IsListable}
use Rattle.config_model.specs.OctetsOfCheckOctets as checks
use Rattle.config_model.specs.CidrChangeRecord.{CidrChange}
use Rattle.config_model.specs.CidrCommandRecord.{CidrCommand}
use Rattle.config_model.specs.CidrCommandRecord.TheVariants as cidr
use Rattle.command_bounds.specs.Laws.{AcceptedHaveSpelling, AreShortLists, HasShortLists}
use Rattle.command_bounds.specs.Laws.{IsShortChange}
use Rattle.command_codec.specs.Octets.{HasSpelledSet, HasSpelling, IsSpelledBatch}
use Rattle.command_codec.specs.CommandRecord.{Command}
use Rattle.command_codec.specs.CommandRecord.TheVariants as command
use Rattle.config_model.proofs.Batched.{not_above}
use Rattle.config_model.proofs.Zoning.{accepted, both_none}
use Rattle.config_model.specs.Applying.{Decides}
use Rattle.config_model.specs.Batches.{ChangesIn}
use Rattle.config_model.specs.Configs.{Config, zone_with}
use Rattle.config_model.specs.Laws.{HasBoundedSet, IsBounded, KeepsSound}
use Rattle.config_model.specs.Others.{in_use, made_check}
use Rattle.config_model.specs.Sound.{Sound}
use Rattle.config_model.specs.Telling.{first_of, of_check}
use Rattle.config_model.specs.declared.refusals.Made.{Made}
use Rattle.config_model.specs.Reasons.{WithValues}
use Rattle.config_model.specs.BodyRecord.{Body}
use Rattle.config_model.specs.BodyRecord.TheVariants as body
use Rattle.config_model.specs.OctetsOfSetOctets.{most_octets, set_octets}
use Rattle.config_model.specs.Hosted.{HostedZone}

-- ---- batches

-- what each change by its place meets, all meet
abbrev AtEach : (Change → Type 0) → List Change → Type 0
AtEach Is changes = (i : ℕ) (change : Change) → slice_get changes i ≡ Some change → Is change

below : (Is : Change → Type 0) (first : Change) (changes : List Change)
    → AtEach Is (first ∷ changes) → AtEach Is changes
below Is first changes each i change at = each (suc i) change at

spelled_each : (changes : List Change) → AllByRecursion HasBoundedSet changes
    → AtEach (λ change. length (set_octets change.set) ≤ most_octets) changes
    → AllByRecursion HasSpelledSet changes
spelled_each [] bounded short = tt
spelled_each (change ∷ changes) bounded short = (
  record {
    routing = bounded.0.routing;
    body = bounded.0.body;
    of_type = bounded.0.of_type;
    short = short 0 change refl;
  },
  spelled_each changes bounded.1
      (below (λ c. length (set_octets c.set) ≤ most_octets) change changes short),
)

-- a set that is allowed has a value, or is an alias
has_element : (b : Body) → (WithValues (λ values. values ≡ []) b → ⊥) → 1 ≤ elements_in b
has_element (body.Values ttl []) filled = absurd (filled refl)
has_element (body.Values ttl (value ∷ values)) filled = omega arith
has_element (body.Alias target evaluate) filled = omega arith

counted_once : (a : Action) (n : ℕ) → 1 ≤ n → 1 ≤ counted a n
counted_once action.Create n some = some
counted_once action.Delete n some = some
counted_once action.Upsert n some = omega (arith, some)

few_changes : (changes : List Change) → AtEach (λ change. 1 ≤ elements_of change) changes
    → length changes ≤ sum_by elements_of changes
few_changes [] each = omega arith
few_changes (change ∷ changes) each =
    omega (
      arith,
      each 0 change refl,
      few_changes changes (below (λ c. 1 ≤ elements_of c) change changes each),
      sum_by-cons elements_of change changes,
    )

few_within : (changes : List Change) (apex : List (List ℕ)) → IsWithinLimits changes apex
    → length changes ≤ 1000
few_within changes apex within =
    let some : AtEach (λ change. 1 ≤ elements_of change) changes =
    λ i change at. counted_once change.action (elements_in change.set.body)
    (has_element change.set.body (within.valid.each i change at).0) in
    let few = few_changes changes some in
    let most = not_above (sum_by elements_of changes) 1000 within.values in
    omega (arith, few, most)

-- a batch that has a spelling, and at most 1,000 changes
pub record IsShortBatch (batch : Batch) : Type 0 where
  pub spelled : IsSpelledBatch batch
  pub few : length batch.changes ≤ 1000

batch_has : (batch : Batch) (apex : List (List ℕ)) → AllByRecursion HasBoundedSet batch.changes
    → IsWithinLimits batch.changes apex → IsShortBatch batch
batch_has batch apex bounded within =
    let few = few_within batch.changes apex within in
    record {
      spelled = record {
        count = omega (arith, few);
        each = spelled_each batch.changes bounded
            (λ i change at. not_above (length (set_octets change.set)) most_octets
            (λ long. within.octets (i, change, at, long)));
      };
      few = few;
    }

module _ (config after : Config) (what : Made) where
  pub batch_by : (batch : Batch) → AllByRecursion HasBoundedSet batch.changes
      → (found : Option HostedZone) → ChangesIn config found batch (Ok (after, what))
      → IsShortBatch batch
  batch_by batch bounded None e = absurd (grind (arith, e))
  batch_by batch bounded (Some zone) (inl (why, known, refused, e)) = absurd (grind (arith, e))
  batch_by batch bounded (Some zone) (inr (sets, prepared, e)) =
      batch_has batch zone.apex bounded prepared.0

-- ---- commands on collections

few_blocks : (changes : List CidrChange) → AllByRecursion IsShortChange changes
    → AllByRecursion HasFewBlocks changes
few_blocks [] short = tt
few_blocks (change ∷ changes) short = (omega (arith, short.0), few_blocks changes short.1)

listed_by : (given : CidrCommand) → AreShortLists given → IsListable given
listed_by (cidr.Create name) short = tt
listed_by (cidr.Change id changes) short = (omega (arith, short.0), few_blocks changes short.1)
listed_by (cidr.Delete id) short = tt

-- ---- commands on checks

some_is : {A : Type 0} {x y : A} → Some x ≡ Some y → x ≡ y
some_is e = cc

none_of_map : (o : Option CheckRefusal) → option_map of_check o ≡ None → o ≡ None
none_of_map None e = refl
none_of_map (Some why) e = absurd (grind (arith, e))

-- a check that is changed is there, and has what is given
record IsChanged (checks : Checks) (id : ℕ) (given : Given) : Type 0 where
  pub check : Check
  pub there : check_with checks.list id ≡ Some check
  pub allowed : update_refusal checks id given check ≡ None

changed_by : (checks : Checks) (id : ℕ) (given : Given) (found : Option Check)
    → check_with checks.list id ≡ found → of_there id found (update_refusal checks id given) ≡ None
    → IsChanged checks id given
changed_by checks id given None at e = absurd (grind (arith, e))
changed_by checks id given (Some check) at e = record { check = check; there = at; allowed = e }

-- where each check is within its bounds after a change, the changed one is
changed_by_first : (id : ℕ) (given : Given) (held : ℕ × Check) (list : List (ℕ × Check))
    (check : Check) (b : Bool) → nat_eq id held.0 ≡ b → check_with (held ∷ list) id ≡ Some check
    → IsBoundedCheck (updated_at id given held).1
    → (check_with list id ≡ Some check → IsBoundedCheck (updated_check given check))
    → IsBoundedCheck (updated_check given check)
changed_by_first id given held list check true e at here later =
    let same : id ≡ held.0 = eqb-true id held.0 e in
    let its : held.1 ≡ check =
    some_is (sym (ap (λ b. cond b (Some held.1) (check_with list id)) e) ∙ at) in
    let updated : updated_at id given held ≡ (held.0, updated_check given held.1) =
    ap (λ b. (held.0, cond b (updated_check given held.1) held.1)) (eq-eqb held.0 id (sym same)) in
    subst (λ (c : Check). IsBoundedCheck (updated_check given c)) its
    (subst (λ (h : ℕ × Check). IsBoundedCheck h.1) updated here)
changed_by_first id given held list check false e at here later =
    later (sym (ap (λ b. cond b (Some held.1) (check_with list id)) e) ∙ at)

changed_is : (id : ℕ) (given : Given) (list : List (ℕ × Check)) (check : Check)
    → check_with list id ≡ Some check
    → AllByRecursion (λ (held : ℕ × Check). IsBoundedCheck held.1) (map (updated_at id given) list)
    → IsBoundedCheck (updated_check given check)
changed_is id given [] check at all = absurd (grind (arith, at))
changed_is id given (held ∷ list) check at all =
    changed_by_first id given held list check (nat_eq id held.0) refl at all.0
    (λ there. changed_is id given list check there all.1)

few_children : (inverted disabled : Option Bool) (threshold : Option ℕ) (children : List ℕ)
    (checks : Checks) (id : ℕ) (check : Check)
    → update_refusal checks id (given_by inverted disabled threshold (Some children)) check ≡ None
    → IsBoundedCheck (updated_check (given_by inverted disabled threshold (Some children)) check)
    → length children ≤ 255
few_children inverted disabled None children checks id (Endpoint t i d) allowed bounded =
    absurd (grind (arith, allowed))
few_children inverted disabled (Some n) children checks id (Endpoint t i d) allowed bounded =
    absurd (grind (arith, allowed))
few_children inverted disabled threshold children checks id (Calculated t i d cs) allowed bounded =
    bounded.1

module _ (keeps : KeepsSound) (config after : Config) (what : Made) (sound : Sound config) where
  no_refusal : (health : CheckCommand) → Decides config (command.Health health) (Ok (after, what))
      → refusal_of config.checks health ≡ None
  no_refusal health e =
      none_of_map (refusal_of config.checks health)
      (both_none (option_map of_check (refusal_of config.checks health))
      (in_use config.zones health)
      (accepted (first_of (option_map of_check (refusal_of config.checks health)
      ∷ in_use config.zones health ∷ [])) (after, what) (
        record config { checks = checks_after config.checks health },
        made_check config.checks health,
      ) e).0).0

  checks_are : (health : CheckCommand) → Decides config (command.Health health) (Ok (after, what))
      → after.checks ≡ checks_after config.checks health
  checks_are health e =
      ap (λ (a : Config × Made). a.0.checks)
      (accepted (first_of (option_map of_check (refusal_of config.checks health)
      ∷ in_use config.zones health ∷ [])) (after, what) (
        record config { checks = checks_after config.checks health },
        made_check config.checks health,
      ) e).1

  listable : (id : ℕ) (inverted disabled : Option Bool) (threshold : Option ℕ)
      (children : Option (List ℕ)) → IsThreshold threshold
      → Decides config (command.Health (check.Update id inverted disabled threshold children))
      (Ok (after, what))
      → WhereSome checks.IsListable children
  listable id inverted disabled threshold None bounded e = tt
  listable id inverted disabled threshold (Some children) bounded e =
      let given = given_by inverted disabled threshold (Some children) in
      let health = check.Update id inverted disabled threshold (Some children) in
      let is = changed_by config.checks id given (check_with config.checks.list id) refl
      (no_refusal health e) in
      let all = subst (λ (c : Checks). AllByRecursion (λ (held : ℕ × Check). IsBoundedCheck held.1) c.list)
      (checks_are health e)
      (keeps config after (command.Health health) what sound bounded e).checks.bounded in
      let few = few_children inverted disabled threshold children config.checks id is.check is.allowed
      (changed_is id given config.checks.list is.check is.there all) in
      omega (arith, few)

  told_later : {A : Type 0} (left now : A) → checks.IsSpelledOrLeft 2 left now
  told_later left now e = absurd (let k : true ≡ false = e in cc)

  health_has : (health : CheckCommand) → IsBoundedCommand health
      → Decides config (command.Health health) (Ok (after, what)) → checks.HasSpelling 2 health
  health_has (check.Create new) bounded e =
      record { bounded = bounded; told = told_later false (checks.disabled_of new) }
  health_has (check.Update id inverted disabled threshold children) bounded e = record {
    threshold_is = bounded;
    listable = listable id inverted disabled threshold children bounded e;
    told = told_later None disabled;
  }
  health_has (check.Delete id) bounded e = tt

  has_by : (given : Command) → IsBounded given → HasShortLists given
      → Decides config given (Ok (after, what)) → HasSpelling 2 given
  has_by (command.CreateZone name servers) bounded short e = tt
  has_by (command.DeleteZone id) bounded short e = tt
  has_by (command.Change batch) bounded short e =
      (batch_by config after what batch bounded (zone_with config.zones batch.zone) e).spelled
  has_by (command.Health health) bounded short e = health_has health bounded e
  has_by (command.Cidr given) bounded short e = (refl, (bounded, listed_by given short))

pub accepted_have_spelling : KeepsSound → AcceptedHaveSpelling
accepted_have_spelling keeps config after given what sound bounded short e =
    has_by keeps config after what sound given bounded short e
