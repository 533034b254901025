use Rattle.std.proofs.Common.{◌++◌, ap, length, subst, sym}
use Rattle.std.specs.Option.{unwrap_or}
use Rattle.zone_table.specs.Octets.{routing_octets}
use Rattle.policy_select.specs.Nearby.{IsOtherCountry}
use Rattle.policy_select.proofs.Pieces.{front_cut, place_there}
use Rattle.policy_select.proofs.said.is_passed_by.Goals as goal

pub returns : goal.returns
returns c told first =
    let set = c.policy_pieces.ensures in
    let front = c.policy_pieces.result.0.now in
    let next = c.policy_pieces.result.1.now in
    let of = set.2 in
    let all = routing_octets set.0.routing ++ of.rest in
    let size = c.in-Some.ensures all (length front) (front_cut front next all of.size of.same) in
    let it = place_there set.0.routing of.rest of.rest c.in-Some.size of.is size in (
      set.0,
      set.1,
      subst (λ p. IsOtherCountry c.args.country p)
          (sym (ap (λ o. unwrap_or o first) it.1))
          (c.is_other_behind.ensures all of.rest it.0 of.size of.same it.2 it.3 told),
    )
