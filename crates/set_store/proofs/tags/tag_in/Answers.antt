use Rattle.std.proofs.Common.{ap, ◌∙◌}
use Rattle.set_scratch.proofs.Fronts as keys
use Rattle.set_store.specs.Tags.{tag_of}
use Rattle.set_store.proofs.Fronts.{fronted}
use Rattle.set_store.proofs.tags.tag_in.Goals as goal

pub returns-clause-tag : goal.returns-clause-tag
returns-clause-tag c set spells =
    let front = fronted keys.keys_are_in_front set c.args.octets.now spells in
    c.name_tag.ensures.tag ∙ ap tag_of (c.name_and_rest.ensures.name set.name front.rest spells.is.name front.named)
