use Rattle.std.proofs.Common.{ap, ◌∙◌, drop, refl}
use Rattle.rdata_layout.proofs.Fronts.{tag_in_front}
use Rattle.rdata_layout.proofs.scan.tag_len.Goals as goal

pub returns-clause-some : goal.returns-clause-some
returns-clause-some c =
    let tag = c.if-not-is_tag.ensures.0 refl in (
      _,
      tag,
      tag_in_front c.args.octets.now _ _ c.in_ok-len.ensures.some (c.behind.ensures
          ∙ ap (drop 1) c.front.ensures) tag,
    )
