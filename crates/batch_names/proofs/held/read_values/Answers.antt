use Rattle.std.proofs.Common.{◌∙◌, ◌++◌, ◌∷◌, [], ap}
use Rattle.rdata.specs.Datum.{Datum}
use Rattle.batch_names.proofs.Values.{value_more}
use Rattle.batch_names.proofs.held.read_values.Goals as goal

pub loop-i-preserved : goal.loop-i-preserved
loop-i-preserved c =
    value_more c.args.scratch.now c.loop-i.i c.rtype-rtype.result c.value.result.now
    c.loop-i.values.items c.push.new.self.items c.requires c.rtype-rtype.ensures
    c.value.ensures.wire c.loop-i.invariant
    (c.in_ok-push-in-Ok.ensures.items ∙ ap (λ (v : Datum). c.loop-i.values.items ++ v ∷ [])
    c.in-Ok.ensures.1)
