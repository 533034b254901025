use Rattle.std.proofs.Common.{◌∙◌, sym}
use Rattle.std.proofs.lemmas.Bool.{false≢true}
use Rattle.zone_soundness.proofs.There.{placed}
use Rattle.zone_soundness.proofs.naming.is_placed.Goals as goal

pub returns-else-is_star : goal.returns-else-is_star
returns-else-is_star c =
    placed c.args.locations.now c.args.name.now c.has_location.result
    (λ same. false≢true (sym c.if-is_star.false ∙ c.is_star.ensures.1 same)) c.has_location.ensures
