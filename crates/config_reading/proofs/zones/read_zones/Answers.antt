use Rattle.std.proofs.Common.{arith}
use Rattle.config_zones.specs.Configured.{config_of}
use Rattle.snapshot_reading.specs.Reading.{zone_at}
use Rattle.snapshot_reading.proofs.Leaving.{are_octets}
use Rattle.snapshot_reading.specs.Parts.{hosted_of}
use Rattle.snapshot_reading.specs.Places.{found_at}
use Rattle.snapshot_reading.specs.declared.faults.SnapshotFault.TheVariants.{Bad}
use Rattle.config_reading.proofs.Remaining.{bad_only, err_is, goes_on, no_zone, not_with}
use Rattle.config_reading.specs.Reading.{front_of, zone_found}
use Rattle.config_reading.proofs.zones.read_zones.Goals as goal

pub returns-in-Err-clause-bad : goal.returns-in-Err-clause-bad
returns-in-Err-clause-bad c =
    let octets = c.args.octets.now in
    let config = config_of c.loop-alloc.zones c.args.checks.now.checks c.args.next_zone in
    let at = c.loop-alloc.at in
    let soundly = c.loop-alloc.invariant in
    let test = c.loop-alloc-test.true in
    let size = c.counts_agree.ensures.zones c.loop-alloc.zones.zones in
    let len = c.len.ensures in
    bad_only hosted_of c.in-Err.fault (found_at zone_at octets at) octets c.in-Err.ensures
    (λ none. no_zone c.snapshots_read_in_parts.ensures c.snapshots_read_back.ensures
    c.refusals_are_told.ensures octets
    (are_octets octets (λ i. omega (arith, c.type_inv.octets i))) (front_of config c.args.count)
    config.zones at soundly.read soundly.few (omega (arith, test, size, len)) none)

pub returns-in-Err-open-clause-bad : goal.returns-in-Err-open-clause-bad
returns-in-Err-open-clause-bad c =
    let octets = c.args.octets.now in
    let config = config_of c.loop-alloc.zones c.args.checks.now.checks c.args.next_zone in
    let test = c.loop-alloc-test.true in
    let size = c.counts_agree.ensures.zones c.loop-alloc.zones.zones in
    let len = c.len.ensures in
    λ e. not_with c.snapshots_read_in_parts.ensures c.snapshots_read_back.ensures
    c.refusals_are_told.ensures octets
    (are_octets octets (λ i. omega (arith, c.type_inv.octets i))) config c.args.count
    c.loop-alloc.at (zone_found c.in-Ok.read.0) c.in-Ok.read.1 c.loop-alloc.invariant
    (omega (arith, test, size, len)) c.in-Ok.ensures
    (c.in-Err-open.ensures.bad (err_is c.in-Err-open.fault Bad e))

pub loop-alloc-preserved : goal.loop-alloc-preserved
loop-alloc-preserved c =
    let octets = c.args.octets.now in
    let config = config_of c.loop-alloc.zones c.args.checks.now.checks c.args.next_zone in
    let test = c.loop-alloc-test.true in
    let size = c.counts_agree.ensures.zones c.loop-alloc.zones.zones in
    let len = c.len.ensures in
    goes_on c.snapshots_read_in_parts.ensures c.snapshots_read_back.ensures
    c.refusals_are_told.ensures octets
    (are_octets octets (λ i. omega (arith, c.type_inv.octets i))) config c.args.count
    c.loop-alloc.at (zone_found c.in-Ok.read.0) c.in-Ok.read.1 c.loop-alloc.invariant
    (omega (arith, test, size, len)) c.in-Ok.ensures
    (config_of c.open.new.zones c.args.checks.now.checks c.args.next_zone)
    c.in_default.ensures.config c.in_default.ensures.sound
