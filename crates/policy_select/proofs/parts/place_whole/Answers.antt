use Rattle.std.proofs.Common.{arith, drop, length}
use Rattle.zone_table.specs.Octets.{place_octets}
use Rattle.policy_select.proofs.Policies.{whole_front}
use Rattle.policy_select.proofs.parts.place_whole.Goals as goal

pub returns : goal.returns
returns c = λ rest place n is same.
    let octets = c.args.octets.now in
    let short = c.place_size-size.ensures rest place n is same in
    let there = c.if-octets-size.false in
    c.place_at.ensures place (drop (length (place_octets place)) octets) is
    (whole_front octets (place_octets place) rest n same (omega (arith, there, short)))
