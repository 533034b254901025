use Rattle.dns_name.proofs.Labels.{stored_lower}
use Rattle.dns_name.proofs.name.Name.stored.Goals as goal

pub invariant_of-result : goal.invariant_of-result
invariant_of-result c = let r = c.requires in (stored_lower _ _ r.0 r.1 r.2 c.lower_into.ensures).0

pub returns : goal.returns
returns c = λ raw h e. (stored_lower _ _ raw h e c.lower_into.ensures).1
