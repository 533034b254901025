use Rattle.set_store.specs.Tags.{tag_of}
use Rattle.set_store.proofs.tags.name_tag.Goals as goal

pub returns-clause-tag : goal.returns-clause-tag
unfolding tag_of
returns-clause-tag c = c.tag_told.ensures.tag
