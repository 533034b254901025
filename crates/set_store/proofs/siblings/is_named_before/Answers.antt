use Rattle.set_store.proofs.Beside.{in_order, told_of}
use Rattle.set_store.proofs.siblings.is_named_before.Goals as goal

pub returns : goal.returns
returns c octets set holds spells =
    let told = c.in-Some.ensures octets set holds spells in
    told_of c.label_before.result _ _
    (in_order c.in-Some.labels.0.now c.in-Some.labels.1.now set.name c.args.name.now
    told.0 told.1 told.2) c.label_before.ensures
