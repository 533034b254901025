use Rattle.std.proofs.Common.{subst}
use Rattle.std.proofs.lemmas.Result.{on_ok_weaker}
use Rattle.cidr_changes.specs.declared.gathering.Spot.TheVariants.{At}
use Rattle.cidr_changes.specs.Gathered.{IsSpot}
use Rattle.cidr_changes.proofs.Spots.{grown_at}
use Rattle.cidr_changes.proofs.gathering.add_row.Goals as goal

pub returns-in-At : goal.returns-in-At
returns-in-At c =
    on_ok_weaker c.push_block.result
    (grown_at c.args.list.now.items c.args.name c.args.block c.in-At.i
    (subst (λ ls. IsSpot ls c.args.name (At c.in-At.i)) c.deref.ensures.value c.in-At.ensures)
    c.index_mut.result.now c.push_block.new.location c.index_mut.ensures.value)
    c.push_block.ensures
