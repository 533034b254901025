use Rattle.std.proofs.Common.{◌++◌, Some, ap, subst, sym, ◌∙◌}
use Rattle.answer_model.specs.Policies.{region_of}
use Rattle.routing.specs.declared.policies.Routing.{Routing}
use Rattle.zone_table.specs.Octets.{routing_octets}
use Rattle.zone_table.specs.SetsOfSetReading.{IsRouting}
use Rattle.policy_select.proofs.rules.region_copied.Goals as goal

pub region_of_policy-requires : goal.region_of_policy-requires
region_of_policy-requires c =
    let it = c.policy_copied.ensures in
    let of = c.requires.latency it.0 it.1 in
    let is = subst IsRouting of.2 it.2.is in (
      of.0,
      of.1,
      it.2.rest,
      is.1,
      it.2.same ∙ ap (λ (r : Routing). routing_octets r ++ it.2.rest) of.2,
    )

pub returns : goal.returns
returns c =
    let it = c.policy_copied.ensures in
    let of = c.requires.latency it.0 it.1 in
    let is = subst IsRouting of.2 it.2.is in (
      it.0,
      it.1,
      ap region_of of.2
          ∙ ap Some (sym (c.region_of_policy.ensures of.0 of.1 it.2.rest is.1
          (it.2.same ∙ ap (λ (r : Routing). routing_octets r ++ it.2.rest) of.2))),
    )
