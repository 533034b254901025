-- What a command makes of a store.
use Rattle.std.proofs.Common.{◌≡◌, ℕ, ◌+◌, ◌≤◌, List, Option, None, Some, Result, Ok, Err, length, ap, ◌∙◌, inl, inr, refl, sym, subst, arith}
use Rattle.std.specs.Prelude.{[], ◌∷◌, Bool, IsTrue, option_map}
use Rattle.std.specs.List.{AllByRecursion}
use Rattle.check_model.specs.Checks.{Checks}
use Rattle.sound_configs.specs.OctetsOfCommandOctets.{command_octets}
use Rattle.sound_configs.specs.CommandRecord.{Command}
use Rattle.sound_configs.specs.CommandRecord.TheVariants as command
use Rattle.r53_core.proofs.Accepted.{accepted}
use Rattle.config_opening.specs.States.{IsReady, Ready, State as Kept, config_of}
use Rattle.config_opening.specs.Steps.{CommitGives, IsCommitted, StaysSo}
use Rattle.sound_configs.specs.Applying.{Decides}
use Rattle.sound_configs.specs.Configs.{Config}
use Rattle.sound_configs.specs.MadeRecord.{Made}
use Rattle.sound_configs.specs.RefusalRecord.{Refusal}
use Rattle.sound_configs.specs.RefusalRecord.TheVariants as refusal
use Rattle.sound_configs.specs.Engine.{Engine, Fits, IsFull, Journal, Plan as ToldPlan, grown, longer, size_of}
use Rattle.file_building.specs.Building.{Plan}
use Rattle.zone_journal.specs.Layout.{most}
use Rattle.sound_configs.specs.Later.{AreLater}
use Rattle.sound_configs.specs.Index.{Index, StandsFor as HasHealth}
use Rattle.sound_configs.specs.LawsOfHealthIndex.{ChecksAreLater}
use Rattle.sound_configs.specs.Leaving.{AreLeft}
use Rattle.health_model.specs.Statuses.{Report}
use Rattle.config_opening.specs.Journals.{journal_of, plan_of}
use Rattle.r53_core.specs.Kinds.{IsOnCollections}
use Rattle.r53_core.specs.Stores.{CommandGives, StandsFor, State}
use Rattle.config_opening.specs.Kept.{IsOnChecks, IsWorkReady, State as Held}
use Rattle.config_opening.specs.Installing.{TellsSets, checks_of}
use Rattle.zone_journal.specs.Appending.{Fits as JournalFits, RefusesBy}
use Rattle.zone_journal.specs.Standing.{PlanFits, State as Kept_journal, planned_length}
use Rattle.query_engine.specs.Edits.{Edits, IsAllowed, Prepared as ReadyEdit, zone_of}
use Rattle.query_engine.specs.Tables.{Table}
use Rattle.query_engine.specs.Zones.{AreZones, IsZoneId, StandsAlone, Zone}
use Rattle.query_engine.specs.ZoneEditRecord.{ZoneEdit}
use Rattle.query_engine.specs.ZoneEditRecord.TheVariants as zone_edit
use Rattle.query_engine.specs.DeltaRecord.{Delta}

-- ---- journals

same_some : (p q : ToldPlan) → Some p ≡ Some q → p ≡ q
same_some p q e = cc

module _ (v : Kept_journal) (n : ℕ) where
  planned_fits : (its : Option Plan) → v.plan ≡ its → JournalFits v n → (plan : ToldPlan)
      → option_map (plan_of v) its ≡ Some plan → plan.length + (5 + n) ≤ most
  planned_fits None e fits plan is = absurd (grind (arith, is))
  planned_fits (Some p) e fits plan is =
      let room = fits.new p e in
      let same = ap (λ (q : ToldPlan). q.length) (same_some (plan_of v p) plan is) in
      omega (arith, room, same)

  pub fits_of : JournalFits v n → Fits n (journal_of v)
  fits_of fits = record {
    active = (let room = fits.active in omega (arith, room));
    planned = λ plan is. planned_fits v.plan refl fits plan is;
  }

  pub full_of : (full : ℕ) → RefusesBy full v n → IsFull n (journal_of v) full
  full_of full (inl (is, over)) = inl (is, (let o = over in omega (arith, o)))
  full_of full (inr (room, (p, is, told, over))) = inr (
    (let r = room in omega (arith, r)),
    (
      plan_of v p,
      ap (option_map (plan_of v)) is,
      told,
      (let o = over in omega (arith, o)),
    ),
  )

  longer_plan : (p : Plan) → p.from ≤ v.at
      → longer n (plan_of v p) ≡ plan_of (record v { at = v.at + (5 + n) }) p
  longer_plan p within =
      let more : planned_length v p + (5 + n) ≡ planned_length (record v { at = v.at + (5 + n) }) p =
      omega (arith, within) in
      ap (λ (l : ℕ). record { length = l; next = p.next }) more

  grown_plan : (its : Option Plan) → ((p : Plan) → its ≡ Some p → PlanFits v p)
      → option_map (longer n) (option_map (plan_of v) its)
      ≡ option_map (plan_of (record v { at = v.at + (5 + n) })) its
  grown_plan None fits = refl
  grown_plan (Some p) fits = ap Some (longer_plan p (fits p refl).from)

  pub grown_of : ((p : Plan) → v.plan ≡ Some p → PlanFits v p)
      → grown n (journal_of v) ≡ journal_of (record v { at = v.at + (5 + n) })
  grown_of fits =
      let more : v.at + 1 + (5 + n) ≡ v.at + (5 + n) + 1 = omega arith in
      ap (λ (l : ℕ). record {
        side = v.side;
        generation = v.generation;
        length = l;
        plan = option_map (longer n) (option_map (plan_of v) v.plan);
      }) more
      ∙ ap (λ (o : Option ToldPlan). record {
        side = v.side;
        generation = v.generation;
        length = v.at + (5 + n) + 1;
        plan = o;
      }) (grown_plan v.plan fits)

-- ---- checks

-- a command that is on no checks leaves them
same_checks_of : (checks : Checks) (given : Command) → (IsOnChecks given → ⊥)
    → checks_of checks given ≡ checks
same_checks_of checks (command.CreateZone name servers) none = refl
same_checks_of checks (command.DeleteZone id) none = refl
same_checks_of checks (command.Change batch) none = refl
same_checks_of checks (command.Health health) none = absurd (none tt)
same_checks_of checks (command.Cidr cidr) none = refl

-- the sets that a command tells are its own
pub leaves_all : ChecksAreLater → (before after : Held) (given : Command)
    (edit : Option ReadyEdit) → IsWorkReady before given edit → TellsSets before edit after
    → after.checks.checks ≡ checks_of before.checks.checks given
    → AreLeft before.table.zones before.checks.checks after.table.zones after.checks.checks after.told
leaves_all commands before after given (Some ready) (none, is_ready, edit_for) told checks =
    inl (ready.made, (is_ready.allowed, told, checks ∙ same_checks_of before.checks.checks given none))
leaves_all commands before after (command.Health health) None is (told, table) checks = inr (
  ap (λ (t : Table). t.zones) table,
  subst (λ (cs : Checks). AreLater before.checks.checks cs) (sym checks)
      (commands before.checks.checks health),
  ap (λ (d : Delta). d.zone) told,
)
leaves_all commands before after (command.CreateZone name servers) None is told checks =
    absurd is.0
leaves_all commands before after (command.DeleteZone id) None is told checks = absurd is.0
leaves_all commands before after (command.Change batch) None is told checks = absurd is.0
leaves_all commands before after (command.Cidr cidr) None is told checks = absurd is.0

-- no zone has number 0
none_is_0 : (zones : List Zone) → AllByRecursion StandsAlone zones → IsZoneId zones 0 → ⊥
none_is_0 [] each (zone, there, is) = there
none_is_0 (first ∷ zones) each (zone, inl same, is) =
    let some = each.0.numbered in
    let id = ap (λ (z : Zone). z.id) same in
    omega (arith, some, id, is)
none_is_0 (first ∷ zones) each (zone, inr rest, is) = none_is_0 zones each.1 (zone, rest, is)

-- a command on collections leaves zones and checks as they are
module _ (before after : Held) (are : AreZones before.table.zones) (ready : ReadyEdit)
    (allowed : IsAllowed before.table.zones ready.made)
    (told : Edits before.table.zones ready.made after.table.zones after.told) where
  no_zone : IsZoneId before.table.zones 0 → ⊥
  no_zone = none_is_0 before.table.zones are.each

  same_zones : (made : ZoneEdit) → ready.made ≡ made → zone_of made ≡ 0
      → after.table.zones ≡ before.table.zones
  same_zones (zone_edit.Begin zone name sets) is none =
      let its = subst (IsAllowed before.table.zones) is allowed in
      let some = its.3 in
      absurd (omega (arith, some, none))
  same_zones (zone_edit.End zone) is none =
      absurd (no_zone (subst (IsZoneId before.table.zones) none (subst (IsAllowed before.table.zones) is allowed)))
  same_zones (zone_edit.Change zone remove add) is none =
      absurd (no_zone (subst (IsZoneId before.table.zones) none (subst (IsAllowed before.table.zones) is allowed).0))
  same_zones (zone_edit.Collections now) is none =
      (subst (λ (m : ZoneEdit). Edits before.table.zones m after.table.zones after.told) is told).its.0

pub same_all : (before after : Held) → AreZones before.table.zones → (given : Command)
    (edit : Option ReadyEdit) → IsOnCollections given → IsWorkReady before given edit
    → TellsSets before edit after → after.checks.checks ≡ checks_of before.checks.checks given
    → (after.table.zones ≡ before.table.zones) × (after.checks.checks ≡ before.checks.checks)
same_all before after are (command.Cidr cidr) (Some ready) on (none, is_ready, edit_for) told checks = (
  same_zones before after are ready is_ready.allowed told ready.made refl edit_for.4,
  checks,
)
same_all before after are (command.Cidr cidr) None on is told checks = absurd is.0
same_all before after are (command.CreateZone name servers) edit on is told checks = absurd on
same_all before after are (command.DeleteZone id) edit on is told checks = absurd on
same_all before after are (command.Change batch) edit on is told checks = absurd on
same_all before after are (command.Health health) edit on is told checks = absurd on

-- ---- stores

-- what an index stands for it stands for with more room
abbrev GoesOn : (before after : Index) → Type 0
GoesOn before after = (zones : List Zone) (checks : Checks) (reports : List Report)
    → HasHealth zones checks reports before → HasHealth zones checks reports after

module _ (engine : Engine) (k0 k1 : Kept) (i0 i1 : Index)
    (stands : StandsFor engine (record { kept = k0; index = i0 })) (stays : StaysSo k0 k1)
    (goes_on : GoesOn i0 i1) where
  same_checks : k1.config.checks.checks ≡ k0.config.checks.checks
  same_checks = ap (λ (c : Config). c.checks) stays.config

  health : HasHealth k1.config.table.zones k1.config.checks.checks engine.reports i1
  health = subst (λ (zs : List Zone). HasHealth zs k1.config.checks.checks engine.reports i1)
      (sym stays.zones)
      (subst (λ (cs : Checks). HasHealth k0.config.table.zones cs engine.reports i1)
      (sym same_checks)
      (goes_on k0.config.table.zones k0.config.checks.checks engine.reports stands.health))

  pub stands_on : StandsFor engine (record { kept = k1; index = i1 })
  stands_on = record {
    config = stands.config ∙ sym stays.config;
    health = health;
    journal = stands.journal ∙ ap journal_of (sym stays.journal);
  }

  module _ (given : Command) (ready : Ready) (is : IsReady k1 ready)
      (same : ready.prepared.command ≡ given) where
    size : length ready.entry ≡ size_of given
    size = ap length (is.entry ∙ ap command_octets same)

    journal : engine.journal ≡ journal_of k1.journal
    journal = stands_on.journal

    decided : (after : Config) (what : Made)
        → Decides (config_of k1) ready.prepared.command (Ok (after, what))
        → Decides engine.config given (Ok (after, what))
    decided after what decides =
        subst (λ (c : Config). Decides c given (Ok (after, what))) (sym stands_on.config)
        (subst (λ (g : Command). Decides (config_of k1) g (Ok (after, what))) same decides)

    room : JournalFits k1.journal (length ready.entry) → Fits (size_of given) engine.journal
    room fits = subst (λ (j : Journal). Fits (size_of given) j) (sym journal)
        (fits_of k1.journal (size_of given)
        (subst (λ (n : ℕ). JournalFits k1.journal n) size fits))

    -- where a file is full, or a disk failed
    pub not_made : (why : Refusal) (k2 : Kept) → CommitGives (Err why) k1 ready k2
        → CommandGives engine given (Err why) (record { kept = k2; index = i1 })
    not_made (refusal.JournalFull full) k2 (refuses, e) =
        let its = accepted k1.config ready.prepared is.prepared in
        let full_now = subst (λ (j : Journal). IsFull (size_of given) j full) (sym journal)
        (full_of k1.journal (size_of given) full
        (subst (λ (n : ℕ). RefusesBy full k1.journal n) size refuses)) in
        inr (inr (
          engine,
          inr (
            its.0,
            (its.1, decided its.0 its.1 its.2, inl (full, full_now, refl, refl)),
          ),
          subst (λ (k : Kept). StandsFor engine (record { kept = k; index = i1 })) (sym e)
              stands_on,
        ))
    not_made refusal.DiskFault k2 (fits, e) =
        let its = accepted k1.config ready.prepared is.prepared in
        inr (inl (
          refl,
          (its.0, its.1, decided its.0 its.1 its.2),
          room fits,
          subst (λ (k : Kept). StandsFor engine (record { kept = k; index = i1 })) (sym e)
              stands_on,
        ))
    not_made other k2 gives = absurd gives

    -- where it is committed, and the index follows
    pub made : (what : Made) (k2 : Kept) (now : State) → IsCommitted what k1 ready k2
        → now.kept ≡ k2
        → ((p : Plan) → k1.journal.plan ≡ Some p → PlanFits k1.journal p)
        → ChecksAreLater → (collections : Bool) → (IsTrue collections → IsOnCollections given)
        → ((zones : List Zone) (checks : Checks) (reports : List Report)
        → HasHealth zones checks reports i1
        → AreLeft zones checks k2.config.table.zones k2.config.checks.checks k2.config.told
        → (IsTrue collections → (k2.config.table.zones ≡ zones) × (k2.config.checks.checks ≡ checks))
        → HasHealth k2.config.table.zones k2.config.checks.checks reports now.index)
        → CommandGives engine given (Ok what) now
    made what k2 now is_made kept fits commands collections only follows = inr (inr (
      record engine {
        config = config_of k2;
        journal = grown (size_of given) engine.journal;
      },
      inr (
        config_of k2,
        (
          what,
          decided (config_of k2) what is_made.decides,
          inr (
            room is_made.fits,
            refl,
            refl,
          ),
        ),
      ),
      record {
        config = ap config_of (sym kept);
        health = subst (λ (k : Kept). HasHealth k.config.table.zones k.config.checks.checks
            engine.reports now.index) (sym kept)
            (follows k1.config.table.zones k1.config.checks.checks engine.reports health
            (leaves_all commands k1.config k2.config ready.prepared.command ready.prepared.edit
            is.prepared.work is_made.told is_made.checks)
            (λ so. same_all k1.config k2.config health.are_zones ready.prepared.command
            ready.prepared.edit (subst IsOnCollections (sym same) (only so)) is.prepared.work
            is_made.told is_made.checks));
        journal = ap (grown (size_of given)) journal
            ∙ (grown_of k1.journal (size_of given) fits
            ∙ (ap (λ (n : ℕ). journal_of (record k1.journal { at = k1.journal.at + (5 + n) }))
            (sym size)
            ∙ (ap journal_of (sym is_made.journal)
            ∙ ap (λ (k : Kept). journal_of k.journal) (sym kept))));
      },
    ))

pub same_refusal : (why other : Refusal)
    → ◌≡◌ {A = Result Made Refusal} (Err why) (Err other) → why ≡ other
same_refusal why other e = cc
