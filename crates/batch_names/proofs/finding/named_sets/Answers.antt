use Rattle.std.proofs.Common.{◌+◌, List, ℕ, drop, sym, subst, get_or}
use Rattle.std.proofs.lemmas.Option.{slice_get-get_or}
use Rattle.zone_table.proofs.Holding.{kept_in}
use Rattle.batch_names.proofs.Runs.{HasRead, all_read, none_read, run_more}
use Rattle.batch_names.specs.Starts.{AreRisingStarts}
use Rattle.batch_model.specs.RecordSetRecord.{RecordSet}
use Rattle.zone_table.proofs.Members.{left_at, nothing_left}
use Rattle.zone_table.specs.Zones.{placed_in}
use Rattle.zone_table.specs.Slotted.{sets_of}
use Rattle.batch_names.proofs.finding.named_sets.Goals as goal

pub loop-start-init : goal.loop-start-init
loop-start-init c =
    let sets = sets_of (placed_in c.args.zones.now.zones c.args.zone) in
    let changes = c.args.changes.now in
    let starts = c.deref-start-items.result.now in
    subst (λ (found : List RecordSet). HasRead sets changes starts found)
    (sym c.in_ok-found.ensures.items)
    (none_read sets changes starts
    (subst (λ (s : List ℕ). AreRisingStarts sets changes s) (sym c.deref-start-items.ensures.value)
    c.in_ok-starts.ensures))

pub loop-start-preserved : goal.loop-start-preserved
loop-start-preserved c =
    let sets = sets_of (placed_in c.args.zones.now.zones c.args.zone) in
    let changes = c.args.changes.now in
    let starts = c.deref-start-items.result.now in
    let i = c.loop-start.start-index in
    let reads = c.in_ok-read_run.ensures in
    let start = get_or starts i 0 in
    run_more sets changes
    (kept_in c.args.zones.now.zones c.well_formed-2.ensures.each c.args.zone).rising start
    (drop (i + 1) starts) c.loop-start.found.items c.read_run.new.found.items
    (subst (λ (left : List ℕ). HasRead sets changes left c.loop-start.found.items)
    (left_at starts i start (slice_get-get_or starts i 0 c.loop-start-test.true))
    c.loop-start.invariant) c.in_ok-read_run.ensures

pub returns : goal.returns
returns c =
    let sets = sets_of (placed_in c.args.zones.now.zones c.args.zone) in
    let changes = c.args.changes.now in
    let starts = c.deref-start-items.result.now in
    all_read sets changes c.loop-start.found.items
    (subst (λ (left : List ℕ). HasRead sets changes left c.loop-start.found.items)
    (nothing_left starts c.loop-start.start-index c.loop-start-test.false) c.loop-start.invariant)
