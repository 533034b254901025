use Rattle.std.proofs.Common.{ap, ◌∙◌, Some}
use Rattle.std.proofs.lemmas.List.{set-get_or}
use Rattle.std.proofs.lemmas.Option.{slice_get-get_or}
use Rattle.health_index.proofs.taking.take_result.Goals as goal

pub returns-in-None : goal.returns-in-None
returns-in-None c = (
  slice_get-get_or _ _ c.index-seen-place.result c.requires.place ∙ ap Some c.in-None.is,
  set-get_or _ _ _,
)
