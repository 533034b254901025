use Rattle.zone_finding.proofs.looking.watch.Goals as goal

pub returns : goal.returns
returns c =
    let it = c.if-not-is_named.ensures in
    (it.0, it.1, c.watch.ensures (record { zone = c.args.set.zone; set = it.0 }) it.2)
