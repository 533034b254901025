use Rattle.std.proofs.Common.{refl, sym, ◌∙◌}
use Rattle.geo_latency.proofs.Cuts.{first_part, one_part}
use Rattle.geo_latency.proofs.pieces.first_piece.Goals as goal

pub returns-in_default-clause-parts : goal.returns-in_default-clause-parts
returns-in_default-clause-parts c = one_part c.args.separator c.args.text.now c.in_default.ensures.place

pub returns-clause-parts : goal.returns-clause-parts
returns-clause-parts c =
    first_part c.args.separator c.in-Some.at c.args.text.now c.in-Some.ensures.place
    ∙ rw (sym c.front.ensures, sym c.behind.ensures) refl
