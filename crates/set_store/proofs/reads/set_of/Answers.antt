use Rattle.std.proofs.Common.{length}
use Rattle.set_store.proofs.Whole.{begins, never_bad, told_set}
use Rattle.set_store.proofs.reads.set_of.Goals as goal

pub unreachable-requires : goal.unreachable-requires
unreachable-requires c =
    let it = c.requires in
    never_bad c.in-Err-Bad.field-0 c.in-Err-Bad.field-0-0
    (it.0, length c.args.octets.now) c.in-Err-Bad.field-0-is
    (c.in-Err-Bad.ensures.only it.0 (length c.args.octets.now) (begins c.args.octets.now it.0 it.1))

pub returns-in-Ok : goal.returns-in-Ok
returns-in-Ok c it spells =
    told_set (c.in-Ok.set, c.in-Ok.field-0-1) (it, length c.args.octets.now)
    (c.in-Ok.ensures.only it (length c.args.octets.now) (begins c.args.octets.now it spells))
