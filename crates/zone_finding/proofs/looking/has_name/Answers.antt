use Rattle.std.proofs.Common.{◌≡◌, ◌<◌, List, length, Some, refl, subst, arith}
use Rattle.std.specs.Prelude.{slice_get}
use Rattle.zone_list.specs.RecordSetRecord.{RecordSet}
use Rattle.zone_finding.proofs.Looked.{named_here}
use Rattle.zone_finding.proofs.looking.has_name.Goals as goal

pub returns-in-Some-type_at : goal.returns-in-Some-type_at
returns-in-Some-type_at c =
    let sets = c.in-Some.sets in
    let i = c.args.place in
    let count = c.count.ensures in
    let test = c.if-place-count.false in
    let within : i < length sets = omega (arith, count, test) in
    let here = named_here sets i c.args.name.now c.in-Some-type_at.field-0 within c.in-Some-type_at.ensures in (
      λ is. subst (λ (ss : List RecordSet). (x : RecordSet) × (slice_get ss i ≡ Some x) × (x.name ≡ c.args.name.now))
          c.in-Some.ensures.0 here,
      λ has. refl,
    )
