use Rattle.line_bounds.proofs.Prefixes.{are_prefixes}
use Rattle.line_bounds.proofs.laws.texts_are_prefixes.Goals as goal

pub returns : goal.returns
returns c = are_prefixes c.ipv4_of_text.ensures c.ipv6_of_text.ensures
