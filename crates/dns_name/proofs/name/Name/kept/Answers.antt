use Rattle.std.proofs.Common.{◌∙◌}
use Rattle.dns_name.proofs.Steps.{name_octets}
use Rattle.dns_name.proofs.name.Name.kept.Goals as goal

pub returns-clause-whole : goal.returns-clause-whole
returns-clause-whole c = (name_octets _ _ _ c.self.invariant c.front.ensures).0

pub returns-clause-same : goal.returns-clause-same
returns-clause-same c = (name_octets _ _ _ c.self.invariant c.front.ensures).1 ∙ c.self.view_is
