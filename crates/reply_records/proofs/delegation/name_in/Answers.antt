use Rattle.std.proofs.Common.{◌∙◌, sym}
use Rattle.reply_records.proofs.Named.{named}
use Rattle.reply_records.proofs.delegation.name_in.Goals as goal

pub unreachable-requires : goal.unreachable-requires
unreachable-requires c =
    let name = named c.args.rdata.now c.requires in
    c.in-None.ensures.none name.0 _ name.1.begins

pub returns : goal.returns
returns c =
    let name = named c.args.rdata.now c.requires in
    sym (c.in-Some.ensures.only name.0 _ name.1.begins).0 ∙ sym name.1.labels_are
