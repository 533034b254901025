use Rattle.std.proofs.Common.{ap}
use Rattle.zone_list.specs.SumsRecord.{Sums}
use Rattle.zone_finding.proofs.Stars.{none_in}
use Rattle.zone_finding.proofs.looking.may_have_wildcards.Goals as goal

pub returns-then-sums-eq0 : goal.returns-then-sums-eq0
returns-then-sums-eq0 c = λ no.
    none_in c.args.store.now c.args.list.now c.requires.counted.0 c.requires.kept c.requires.counted.1
    c.requires.few c.args.zone c.sums_in-sums.result.starred
    (ap (λ (s : Sums). s.starred) c.sums_in-sums.ensures) c.if-sums-eq0.true
