use Rattle.std.proofs.Common.{arith}
use Rattle.set_scratch.proofs.Fronts as keys
use Rattle.set_store.proofs.Alike.{its_number, long, same_name}
use Rattle.set_store.proofs.Behind.{in_front}
use Rattle.set_store.proofs.Fronts.{its_name}
use Rattle.set_store.proofs.typed.type_read.Goals as goal

pub two_at-own-requires : goal.two_at-own-requires
two_at-own-requires c =
    let it = c.requires in
    let stands = (c.stands_at.ensures it.0 it.1).0
    (let f = c.if-not-stands_at.false in grind (arith, f)) in (
      it.0,
      it.1,
      long keys.keys_are_in_front it.2.0 it.0 it.2.1 c.args.name.now c.octets-octets.result.now
          c.octets-octets.ensures.name c.octets-octets.ensures.spelled stands,
    )

pub returns-then-octets-first : goal.returns-then-octets-first
returns-then-octets-first c octets set holds spells =
    let le = c.if-octets-first.true in
    in_front keys.keys_are_in_front set octets spells c.args.name.now c.octets-octets.result.now
    c.octets-octets.ensures.name c.octets-octets.ensures.spelled c.front_at-first.result.now
    c.type_in_front.result (c.front_at-first.ensures octets holds) (omega (arith, le))
    c.type_in_front.ensures

pub returns-then-not-stands_at : goal.returns-then-not-stands_at
returns-then-not-stands_at c octets set holds spells = λ same.
    (let f = c.if-not-stands_at.true in
    let t = (c.stands_at.ensures octets holds).1
    ((its_name keys.keys_are_in_front set octets spells c.args.name.now c.octets-octets.result.now
    c.octets-octets.ensures.name c.octets-octets.ensures.spelled).1 same) in
    absurd (grind (arith, t, f)))

pub returns : goal.returns
returns c octets set holds spells =
    let stands = (c.stands_at.ensures octets holds).0
    (let f = c.if-not-stands_at.false in grind (arith, f)) in (
      same_name keys.keys_are_in_front set octets spells c.args.name.now
          c.octets-octets.result.now c.octets-octets.ensures.name c.octets-octets.ensures.spelled
          stands,
      its_number keys.keys_are_in_front set octets spells c.args.name.now
          c.octets-octets.result.now c.octets-octets.ensures.name c.octets-octets.ensures.spelled stands
          c.two_at-own.result c.number_at.result (c.two_at-own.ensures octets holds)
          c.number_at.ensures,
    )
