use Rattle.std.proofs.Common.{◌∙◌, ◌++◌, ap, sym, subst, arith, take, drop, length, length-append}
use Rattle.rdata_layout.specs.Stored.{labels_of}
use Rattle.rdata_layout.specs.Whole.{IsWire}
use Rattle.dns_wire.specs.Pointers.{name_octets}
use Rattle.dns_wire.proofs.Fields.{exchange_room, exchange_name, exchange_written}
use Rattle.dns_wire.proofs.Pieces.{two_pieces}
use Rattle.dns_wire.proofs.data.add_exchange.Goals as goal

pub front-requires : goal.front-requires
front-requires c = exchange_room c.args.octets.now c.requires.exchange

pub add_octets-requires-clause-octets : goal.add_octets-requires-clause-octets
add_octets-requires-clause-octets c =
    subst IsWire (sym c.behind.ensures) (exchange_name c.args.octets.now c.requires.exchange)

pub returns-clause-end : goal.returns-clause-end
returns-clause-end c =
    let asked = labels_of c.args.asked.now in
    let whole = exchange_written c.args.octets.now c.requires.exchange asked in
    let name = name_octets asked (labels_of (drop 2 c.args.octets.now)) in
    omega (
      arith,
      c.add_octets.ensures.end,
      c.append-end.ensures.end,
      ap length c.front.ensures,
      ap (λ b. length (name_octets asked (labels_of b))) c.behind.ensures,
      ap length whole,
      length-append (take 2 c.args.octets.now) name,
    )

pub returns-clause-written : goal.returns-clause-written
returns-clause-written c =
    let asked = labels_of c.args.asked.now in
    let whole = exchange_written c.args.octets.now c.requires.exchange asked
    ∙ ap (λ t. t ++ name_octets asked (labels_of (drop 2 c.args.octets.now))) (sym c.front.ensures)
    ∙ ap (λ t. c.front.result.now ++ name_octets asked (labels_of t)) (sym c.behind.ensures) in
    two_pieces _ _ _ _ _ _ c.append-end.ensures.written c.add_octets.ensures.written whole
