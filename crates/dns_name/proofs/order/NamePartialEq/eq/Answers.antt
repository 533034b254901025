use Rattle.std.proofs.lemmas.Bool.Decides.{same_from_decides}
use Rattle.dns_name.specs.OrderLaws.{same_labels-Decides}
use Rattle.dns_name.proofs.order.NamePartialEq.eq.Goals as goal

pub returns : goal.returns
returns c =
    same_from_decides _ _ c.is_same.ensures (same_labels-Decides c.args.self.now c.args.other.now)
