use Rattle.std.proofs.lemmas.Bool.Decides.{Decides-eqb}
use Rattle.std.proofs.lemmas.Slice.Eq.{strip_prefix_is}
use Rattle.health_index.proofs.kin.behind_all.Goals as goal

pub returns : goal.returns
returns c = strip_prefix_is Decides-eqb c.args.numbers.now c.args.these.now _ c.strip_prefix.ensures.cases
