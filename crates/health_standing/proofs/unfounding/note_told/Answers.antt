use Rattle.std.proofs.Common.{rules}
use Rattle.std.proofs.lemmas.Fn.{filter_same}
use Rattle.health_standing.proofs.unfounding.note_told.Goals as goal

pub returns-clause-noted : goal.returns-clause-noted
returns-clause-noted c = filter_same _ _ _ (λ x b f' k. search rules) _ _ c.retain.ensures.filtered
