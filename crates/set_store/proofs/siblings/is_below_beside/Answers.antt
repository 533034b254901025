use Rattle.set_store.proofs.Beside.{ends_alike}
use Rattle.set_store.proofs.siblings.is_below_beside.Goals as goal

pub returns : goal.returns
returns c octets set holds spells =
    let told = c.in_ok-labels.ensures octets set holds spells in
    ends_alike c.in_ok-labels.labels.0.now c.in_ok-labels.labels.1.now set.name c.args.name.now
    told.0 told.1 told.2 c.is_same.result c.is_same.ensures
