use Rattle.std.proofs.Common.{[], arith, subst}
use Rattle.config_zones.specs.Configured.{config_of}
use Rattle.snapshot_reading.proofs.Leaving.{are_octets}
use Rattle.snapshot_reading.specs.Parts.{begun_of}
use Rattle.snapshot_reading.specs.declared.faults.SnapshotFault.TheVariants.{Bad}
use Rattle.config_reading.proofs.Remaining.{err_is, left_over, not_sound, whole}
use Rattle.config_reading.specs.Reading.{IsReadSoundly, front_of}
use Rattle.config_reading.proofs.reading.read_config.Goals as goal

pub returns-in-Err-restore-clause-bad : goal.returns-in-Err-restore-clause-bad
returns-in-Err-restore-clause-bad c =
    let octets = c.args.octets.now in
    let law = c.snapshots_read_in_parts.ensures in
    let begun = (begun_of c.in-Ok.read).0 in
    let start = c.in-Ok.read.1 in
    λ e. not_sound law c.snapshots_read_back.ensures c.refusals_are_told.ensures octets
    (are_octets octets (λ i. omega (arith, c.type_inv.octets i))) begun [] start
    (law.begins octets begun start c.in-Ok.ensures) (omega arith)
    (c.in-Err-restore.ensures.bad (err_is c.in-Err-restore.fault Bad e))

pub returns-then-end-octets-clause-bad : goal.returns-then-end-octets-clause-bad
returns-then-end-octets-clause-bad c =
    let octets = c.args.octets.now in
    let config = config_of c.read_zones.new.zones c.in-Ok-restore.restored.1.checks
    c.in-Ok-restore.restored.2 in
    let soundly = c.in-Ok-read_zones.ensures.read in
    let test = c.if-end-octets.true in
    λ e. left_over c.snapshots_read_in_parts.ensures c.snapshots_read_back.ensures
    c.refusals_are_told.ensures octets
    (are_octets octets (λ i. omega (arith, c.type_inv.octets i)))
    (front_of config c.in-Ok.read.0.zones) config.zones c.in-Ok-read_zones.end soundly.read
    soundly.few c.in-Ok-read_zones.ensures.all (λ same. omega (arith, test, same))

pub returns-else-end-octets-clause-found : goal.returns-else-end-octets-clause-found
returns-else-end-octets-clause-found c =
    let octets = c.args.octets.now in
    let config = config_of c.read_zones.new.zones c.in-Ok-restore.restored.1.checks
    c.in-Ok-restore.restored.2 in
    let count = c.in-Ok.read.0.zones in
    let test = c.if-end-octets.false in
    whole c.snapshots_read_in_parts.ensures c.snapshots_read_back.ensures
    c.refusals_are_told.ensures octets
    (are_octets octets (λ i. omega (arith, c.type_inv.octets i))) c.snapshots_are_told.ensures
    config count
    (subst (λ n. IsReadSoundly octets config count n) (omega (arith, test))
    c.in-Ok-read_zones.ensures.read) c.in-Ok-read_zones.ensures.all
