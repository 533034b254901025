use Rattle.std.proofs.Common.{◌∙◌, ap, drop, length, sym}
use Rattle.std.specs.Option.{option_copied, unwrap_or}
use Rattle.geo_latency.specs.Regions.{slowness}
use Rattle.zone_table.specs.Octets.{text_octets}
use Rattle.policy_select.proofs.Pieces.{region_by}
use Rattle.policy_select.proofs.Policies.{whole_front}
use Rattle.policy_select.proofs.said.slowness_of_member.Goals as goal

pub returns : goal.returns
returns c =
    let set = c.policy_pieces.ensures in
    let front = c.policy_pieces.result.0.now in
    let next = c.policy_pieces.result.1.now in
    let octets = c.behind_ident-piece.result.now in
    let it = region_by front next octets set.0 c.in-Some.size set.2 c.behind_ident-piece.ensures
    c.in-Some.ensures in
    let enough = c.has_text.ensures it.0 set.2.rest it.1 it.4 c.if-not-has_text.false in
    let text = c.text_front.ensures it.0 (drop (length (text_octets it.0)) octets)
    (whole_front octets (text_octets it.0) set.2.rest it.1 it.4 enough) in (
      set.0,
      set.1,
      c.slowness_under.ensures
          ∙ ap (slowness (option_copied c.args.client))
          (text ∙ sym (ap (λ o. unwrap_or o c.args.first.now) it.2)),
    )
