use Rattle.std.proofs.Common.{◌∙◌, ap, sym, arith, take, length, ◌++◌}
use Rattle.dns_wire.proofs.Names.{asked_name}
use Rattle.dns_wire.proofs.pointers.add_name.Goals as goal

pub returns-then-is_same-clause-end : goal.returns-then-is_same-clause-end
returns-then-is_same-clause-end c =
    let e = asked_name c.args.asked.now c.args.name.now (c.is_same.ensures.0 c.if-is_same.true)
    (λ e. let t = c.is_root.ensures.1 e in let f = c.if-is_root.false in cc) in
    omega (arith, ap length e, ap length c.pointer.ensures, c.append-then-is_same.ensures.end)

pub returns-then-is_same-clause-written : goal.returns-then-is_same-clause-written
returns-then-is_same-clause-written c =
    let e = asked_name c.args.asked.now c.args.name.now (c.is_same.ensures.0 c.if-is_same.true)
    (λ e. let t = c.is_root.ensures.1 e in let f = c.if-is_root.false in cc) in
    c.append-then-is_same.ensures.written
    ∙ ap (λ t. take c.args.at c.args.buffer.now ++ t) (c.pointer.ensures ∙ sym e)
