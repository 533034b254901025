use Rattle.std.proofs.Common.{◌≡◌, ◌∙◌, ap, subst, sym}
use Rattle.std.proofs.lemmas.Bool.{false≢true}
use Rattle.batch_model.specs.RecordSetRecord.{RecordSet}
use Rattle.zone_table.proofs.Among.{among_at}
use Rattle.zone_table.proofs.Lists.{some_one}
use Rattle.zone_table.specs.Sets.{IsAmong}
use Rattle.zone_table.specs.SetsOfRecordSet.{key_of}
use Rattle.zone_table.specs.Slotted.{sets_of}
use Rattle.zone_table.specs.Zones.{placed_in}
use Rattle.batch_names.proofs.Keys.{keyed_or_none, none_behind, sets_rise}
use Rattle.batch_names.proofs.keyed.keyed_set.Goals as goal

pub returns-then-not-hold_from : goal.returns-then-not-hold_from
returns-then-not-hold_from c =
    let zones = c.args.zones.now.zones in
    none_behind (sets_of (placed_in zones c.args.zone)) c.args.key.now
    (sets_rise zones c.well_formed-2.ensures c.args.zone c.args.key.now) c.if-not-hold_from.ensures

pub returns-then-not-is_same_key : goal.returns-then-not-is_same_key
returns-then-not-is_same_key c =
    let zones = c.args.zones.now.zones in
    let held = c.if-not-hold_from.ensures in
    let same : c.in_ok-set.set ≡ held.2.0 =
    some_one c.in_ok-set.set held.2.0 (sym c.in_ok-set.ensures ∙ held.2.2) in
    keyed_or_none (sets_of (placed_in zones c.args.zone)) c.args.key.now held.0 held.2.0
    (sets_rise zones c.well_formed-2.ensures c.args.zone c.args.key.now) held.1 held.2.1
    (λ e. false≢true (sym c.if-not-is_same_key.true
    ∙ c.is_same_key.ensures.1 (c.key.ensures ∙ ap key_of same ∙ e)))

pub returns : goal.returns
returns c =
    let sets = sets_of (placed_in c.args.zones.now.zones c.args.zone) in
    let held = c.if-not-hold_from.ensures in
    let same : c.in_ok-set.set ≡ held.2.0 =
    some_one c.in_ok-set.set held.2.0 (sym c.in_ok-set.ensures ∙ held.2.2) in
    record {
      there = subst (λ (s : RecordSet). IsAmong sets s) (sym same)
          (among_at sets held.0 held.2.0 held.2.1);
      same_key = sym c.key.ensures ∙ c.is_same_key.ensures.0 c.if-not-is_same_key.false;
    }
