use Rattle.ip_table.proofs.Located.{row_test}
use Rattle.ip_table.proofs.table.IpTable.has_row.Goals as goal

pub returns-in-V4 : goal.returns-in-V4
returns-in-V4 g c =
    row_test c.self.inside.prefixes.items c.self.inside.values.items c.args.self.now
    c.self.invariant.values c.self.view_is c.args.prefix
    c.deref.result.now c.is_there.result c.deref.ensures.value c.is_there.ensures

pub returns-in-V6 : goal.returns-in-V6
returns-in-V6 g c =
    row_test c.self.inside.prefixes.items c.self.inside.values.items c.args.self.now
    c.self.invariant.values c.self.view_is c.args.prefix
    c.deref-in-V6.result.now c.is_there-in-V6.result c.deref-in-V6.ensures.value
    c.is_there-in-V6.ensures
