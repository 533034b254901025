use Rattle.std.proofs.Common.{◌<◌, List, length, subst, arith}
use Rattle.std.specs.Prelude.{IsTrue, ◌↔◌}
use Rattle.zone_list.specs.FoundOfSetSearch.{IsBelowAt}
use Rattle.zone_list.specs.RecordSetRecord.{RecordSet}
use Rattle.zone_finding.proofs.Looked.{below_here}
use Rattle.zone_finding.proofs.looking.is_below.Goals as goal

pub returns : goal.returns
returns c =
    let sets = c.in-Some.sets in
    let i = c.args.place in
    let name = c.args.name.now in
    let count = c.count.ensures in
    let test = c.if-place-count.false in
    let within : i < length sets = omega (arith, count, test) in
    subst (λ (ss : List RecordSet). IsTrue c.is_below.result ↔ IsBelowAt ss name i)
    c.in-Some.ensures.0 (below_here sets i name c.is_below.result within c.is_below.ensures)
