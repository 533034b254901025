use Rattle.std.proofs.Common.{arith}
use Rattle.set_scratch.proofs.Fronts as keys
use Rattle.set_store.proofs.Behind.{in_front}
use Rattle.set_store.proofs.typed.type_near.Goals as goal

pub returns-then-octets-first : goal.returns-then-octets-first
returns-then-octets-first c octets set holds spells =
    let le = c.if-octets-first.true in
    in_front keys.keys_are_in_front set octets spells c.args.name.now c.octets-octets.result.now
    c.octets-octets.ensures.name c.octets-octets.ensures.spelled c.front_from-first.result.now
    c.type_in_front.result (c.front_from-first.ensures octets holds) (omega (arith, le))
    c.type_in_front.ensures
