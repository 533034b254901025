use Rattle.std.proofs.Common.{drop, length}
use Rattle.zone_table.specs.Octets.{text_octets}
use Rattle.policy_select.proofs.Pieces.{one_region}
use Rattle.policy_select.proofs.Policies.{whole_front}
use Rattle.policy_select.proofs.parts.region_whole.Goals as goal

pub returns : goal.returns
returns c = λ region rest n is same.
    let octets = c.args.octets.now in
    let enough = c.has_text.ensures region rest n same c.if-not-has_text.false in
    one_region c.new.result c.text_front.result.now region c.new.ensures
    (c.text_front.ensures region (drop (length (text_octets region)) octets)
    (whole_front octets (text_octets region) rest n same enough))
