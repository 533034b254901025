-- A report that leaves the status of its check leaves the health of every set.
use Rattle.std.proofs.Common.{◌≡◌, ◌≢◌, ℕ, zero, suc, Bool, false, List, [], ◌∷◌, Option, Some, ap, ◌∙◌, sym, subst, inl, inr}
use Rattle.std.proofs.lemmas.Bool.{cases_eq}
use Rattle.std.specs.List.{list_any}
use Rattle.std.specs.Ordering.{is_eq}
use Rattle.std.specs.Prelude.{◌&&◌, option_map}
use Rattle.check_model.specs.Checks.{check_with}
use Rattle.check_model.specs.declared.checks.Check.{Check}
use Rattle.check_model.specs.declared.checks.Check.TheVariants.{Endpoint}
use Rattle.config_model.specs.Configs.{Config}
use Rattle.geo_latency.specs.declared.tables.Tables.{Tables}
use Rattle.health_model.specs.Healthy.{Watched, healthy, healthy_within, sets_of}
use Rattle.health_model.specs.Nodes.{CheckNode, GroupNode, Node, SetNode}
use Rattle.health_model.specs.Statuses.{Report, none_healthy, passing, status, status_within, value_there}
use Rattle.health_model.specs.Statuses.{number_told, status_told}
use Rattle.health_model.proofs.Local.{there_same}
use Rattle.health_model.proofs.Reported.{one_more_report}
use Rattle.packet_cache.specs.Kept.{Keeps, Kept}
use Rattle.record_set.specs.Sets.{key_of}
use Rattle.record_set.specs.declared.sets.RecordSet.{RecordSet}
use Rattle.record_set.specs.declared.sets.SetKey.{SetKey}
use Rattle.zone_model.specs.Keys.{key_cmp}
use Rattle.session_model.specs.Engine.{Engine, IsEndpoint, is_healthy, watched_in}
use Rattle.settled_replies.specs.Settled.{IsSettled}
use Rattle.serve_turns.specs.Settled.{AreSettled}

-- a check of an endpoint has no children
no_child : (found : Option Check) (threshold : ℕ) (inverted disabled : Bool)
    → found ≡ Some (Endpoint threshold inverted disabled) → (passing : ℕ → ℕ) (p q : ℕ → Bool)
    → value_there found passing p ≡ value_there found passing q
no_child found threshold inverted disabled is passing p q =
    ap (λ (f : Option Check). value_there f passing p) is ∙ sym (ap (λ (f : Option Check). value_there f passing q) is)

-- a value of each check
at_checks : (ℕ → Bool) → Node → Bool
at_checks value (CheckNode id) = value id
at_checks value (SetNode zone set) = false
at_checks value (GroupNode zone name rtype) = false

same_check : (id other : ℕ) → CheckNode id ≡ CheckNode other → id ≡ other
same_check id other e = cc

-- a report adds nothing to other checks
value_kept : (checks : List (ℕ × Check)) (report : Report) (reports : List Report) (id : ℕ) → id ≢ report.check
    → (child : ℕ → Bool) → value_there (check_with checks id) (passing (report ∷ reports) id) child
    ≡ value_there (check_with checks id) (passing reports id) child
unfolding at_checks
value_kept checks report reports id other child =
    one_more_report.equations (record { zones = []; checks = checks }) report reports (at_checks child) (CheckNode id)
    (λ e. other (same_check id report.check e))

module _ (checks : List (ℕ × Check)) (report : Report) (reports : List Report) (threshold : ℕ)
    (inverted disabled : Bool) (is : check_with checks report.check ≡ Some (Endpoint threshold inverted disabled))
    (same : status_within 4 checks (report ∷ reports) report.check ≡ status_within 4 checks reports report.check) where
  here : (p q : ℕ → Bool)
      → value_there (check_with checks report.check) (passing (report ∷ reports) report.check) p
      ≡ value_there (check_with checks report.check) (passing reports report.check) q
  here p q =
      no_child (check_with checks report.check) threshold inverted disabled is
      (passing (report ∷ reports) report.check) p (status_within 3 checks (report ∷ reports))
      ∙ (same ∙ no_child (check_with checks report.check) threshold inverted disabled is
      (passing reports report.check) (status_within 3 checks reports) q)

  within : (depth id : ℕ) → status_within depth checks (report ∷ reports) id ≡ status_within depth checks reports id
  within zero id = elim (cases_eq id report.check) [
    | inl its ↦ subst (λ (k : ℕ). status_within zero checks (report ∷ reports) k ≡ status_within zero checks reports k)
        (sym its) (here none_healthy none_healthy)
    | inr other ↦ value_kept checks report reports id other none_healthy
  ]
  within (suc depth) id = elim (cases_eq id report.check) [
    | inl its ↦
        subst (λ (k : ℕ). status_within (suc depth) checks (report ∷ reports) k ≡ status_within (suc depth) checks reports k)
        (sym its) (here (status_within depth checks (report ∷ reports)) (status_within depth checks reports))
    | inr other ↦
        value_kept checks report reports id other (status_within depth checks (report ∷ reports))
        ∙ there_same (check_with checks id) (passing reports id) (status_within depth checks (report ∷ reports))
        (status_within depth checks reports) (λ child among. within depth child)
  ]

  set_kept : (watched : Watched) → watched.checks ≡ checks → (zone : ℕ) (set : RecordSet)
      → healthy watched (report ∷ reports) zone set ≡ healthy watched reports zone set
  unfolding healthy status
  set_kept watched are zone set =
      ap (λ (c : List (ℕ × Check)). healthy_within 16 (status_within 4 c (report ∷ reports)) (sets_of watched zone) set) are
      ∙ (ap (λ (s : ℕ → Bool). healthy_within 16 s (sets_of watched zone) set) (λ i id. within 4 id i)
      ∙ sym (ap (λ (c : List (ℕ × Check)). healthy_within 16 (status_within 4 c reports) (sets_of watched zone) set) are))

-- So the health of sets stays where that of the check does.
pub health_kept : (config : Config) (report : Report) (reports : List Report) → IsEndpoint config report.check
    → status config.checks.list (report ∷ reports) report.check ≡ status config.checks.list reports report.check
    → is_healthy config (report ∷ reports) ≡ is_healthy config reports
unfolding status
health_kept config report reports (threshold, (inverted, disabled, is)) same =
    λ i zone key. list_any (λ (set : RecordSet). is_eq (key_cmp (key_of set) key)
    && set_kept config.checks.list report reports threshold inverted disabled is same (watched_in config) (λ _. config.checks.list) zone set i)
    (sets_of (watched_in config) zone)

-- the status that is told of a check of an endpoint
status_in : (checks : List (ℕ × Check)) (reports : List Report) (id threshold : ℕ) (inverted disabled : Bool)
    → check_with checks id ≡ Some (Endpoint threshold inverted disabled)
    → option_map (λ (told : Bool × ℕ). told.0) (status_told checks reports id) ≡ Some (status checks reports id)
status_in checks reports id threshold inverted disabled is =
    ap (λ (found : Option Check). option_map (λ (told : Bool × ℕ). told.0) (option_map (λ (check : Check). (
      status checks reports id,
      number_told check (passing reports id) (status checks reports),
    )) found)) is

some_same : {X : Type 0} {x y : X} → Some x ≡ Some y → x ≡ y
some_same e = cc

-- What is kept stays settled where the status that is told stays.
pub settled_still : (engine : Engine) (tables : Tables) (report : Report) (replies : List (Option Kept))
    → IsEndpoint engine.config report.check → (before after : Option (Bool × ℕ))
    → before ≡ status_told engine.config.checks.list engine.reports report.check
    → after ≡ status_told engine.config.checks.list (report ∷ engine.reports) report.check
    → option_map (λ (told : Bool × ℕ). told.0) before ≡ option_map (λ (told : Bool × ℕ). told.0) after
    → AreSettled engine tables replies → AreSettled (record engine { reports = report ∷ engine.reports }) tables replies
settled_still engine tables report replies endpoint before after old new same are =
    let checks = engine.config.checks.list in
    let told = λ (reports : List Report). status_in checks reports report.check endpoint.0 endpoint.1.0 endpoint.1.1
    endpoint.1.2 in
    let its = some_same (sym (told (report ∷ engine.reports))
    ∙ (ap (λ (o : Option (Bool × ℕ)). option_map (λ (t : Bool × ℕ). t.0) o) (sym new)
    ∙ (sym same ∙ (ap (λ (o : Option (Bool × ℕ)). option_map (λ (t : Bool × ℕ). t.0) o) old
    ∙ told engine.reports)))) in
    subst (λ (healthy : ℕ → SetKey → Bool). (kept : Kept) → Keeps replies kept
    → IsSettled engine.config.zones engine.config.collections.list healthy tables kept.packet_rest kept.reply_rest)
    (sym (health_kept engine.config report engine.reports endpoint its)) are
