use Rattle.std.proofs.Common.{refl}
use Rattle.std.proofs.lemmas.Option.{slice_get_read}
use Rattle.health_index.specs.Kin.{kin_of}
use Rattle.health_index.proofs.Kindred.{rest_as_all}
use Rattle.health_index.proofs.kin.has_kin.Goals as goal

pub loop-held-preserved : goal.loop-held-preserved
loop-held-preserved c =
    let at = slice_get_read c.args.list.now _ c.loop-held.held-index c.held-item.result refl c.loop-held-test.true c.held-item.is in
    rest_as_all c.args.kin.now c.loop-held.rest.now c.in-Some.behind.now (kin_of c.args.list.now) c.args.list.now
    c.loop-held.held-index c.held-item.result at c.in-Some.ensures c.loop-held.invariant
