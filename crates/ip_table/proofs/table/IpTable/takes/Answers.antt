use Rattle.std.proofs.Common.{arith}
use Rattle.std.proofs.lemmas.Bool.{lt-ltb, ltb-true}
use Rattle.ip_table.proofs.Inserting.{absent, count}
use Rattle.ip_table.proofs.table.IpTable.takes.Goals as goal

pub returns : goal.returns
returns g c =
    let i = c.self.inside in
    let long = count i.prefixes.items i.values.items c.args.self.now c.self.invariant.values
    c.self.view_is in
    let len = c.len.ensures in
    let ok = i.prefixes.ok.0 in (
      λ few. (
        absent i.prefixes.items i.values.items c.args.self.now c.self.invariant.values
            c.self.view_is c.args.prefix c.has_row.result c.if-has_row.false c.has_row.ensures,
        (let lt = ltb-true c.len.result 100000 few in omega (arith, long, len, ok, lt)),
      ),
      λ free. lt-ltb c.len.result 100000 (let lt = free.1 in omega (arith, long, len, ok, lt)),
    )
