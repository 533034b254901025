use Rattle.std.proofs.Common.{◌++◌, ◌∙◌, length, sym, arith}
use Rattle.std.proofs.lemmas.List.{take_all}
use Rattle.zone_table.specs.Octets.{routing_octets}
use Rattle.policy_select.proofs.said.near_place_copied.Goals as goal

pub returns-then-is_elsewhere_in : goal.returns-then-is_elsewhere_in
returns-then-is_elsewhere_in c =
    let it = c.policy_copied-octets.ensures in
    let all = routing_octets it.0.routing ++ it.2.rest in (
      it.0,
      it.1,
      c.is_elsewhere_in.ensures it.0.routing it.2.rest (length all) it.2.is
          (it.2.same ∙ sym (take_all (length all) all (omega arith)))
          c.if-is_elsewhere_in.true c.args.first.now,
    )

pub returns : goal.returns
returns c =
    let it = c.policy_copied-octets.ensures in
    (it.0, it.1, c.place_in.ensures it.0.routing it.2.rest it.2.is it.2.same)
