use Rattle.std.proofs.Common.{◌≡◌, ◌+◌, ◌-◌, ◌++◌, ◌∙◌, ap, arith, length, take}
use Rattle.dns_wire.specs.Data.{data_octets}
use Rattle.dns_wire.specs.Message.{fixed_octets}
use Rattle.dns_wire.specs.Pointers.{name_octets}
use Rattle.dns_wire.proofs.Pieces.{between}
use Rattle.dns_wire.proofs.record.add_record.Goals as goal

pub returns-clause-written : goal.returns-clause-written
returns-clause-written c =
    let tail = data_octets c.args.asked.now c.args.rtype c.args.wire.now in
    let owner = name_octets c.args.asked.now c.args.owner.now in
    let start = take c.args.at c.args.buffer.now in
    let len : c.add_data-end.result - (c.add_name-behind_owner.result + 10) ≡ length tail =
    omega (arith, c.add_data-end.ensures.end) in
    let fixed_long : length c.fixed_octets-fixed.result ≡ 10 =
    ap length c.fixed_octets-fixed.ensures in
    between c.add_name-behind_owner.new.buffer c.add_data-end.new.buffer c.put_at.new.buffer owner
    c.fixed_octets-fixed.result tail start c.add_name-behind_owner.result
    (c.add_name-behind_owner.result + 10) c.add_data-end.result (omega (arith, fixed_long))
    (omega (arith, c.add_name-behind_owner.ensures.most, c.requires.room))
    c.add_data-end.ensures.end c.add_name-behind_owner.ensures.written
    c.add_data-end.ensures.written c.put_at.ensures.whole
    ∙ ap (λ f. start ++ (owner ++ (f ++ tail))) (c.fixed_octets-fixed.ensures
    ∙ ap (fixed_octets c.args.rtype c.args.ttl) len)
