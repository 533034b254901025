use Rattle.std.proofs.Common.{refl, false}
use Rattle.dns_wire.specs.Draft.{reply_to}
use Rattle.r53_cli.proofs.Endings.{finished}
use Rattle.r53_cli.proofs.once.refuse_version.Goals as goal

pub returns-clause-replied : goal.returns-clause-replied
returns-clause-replied c =
    finished (reply_to c.args.query.now) false 16 16 _ c.args.query.now.edns _ _ _
    (c.finish.ensures.bytes _ c.begin.ensures.stands) refl c.begin.ensures.edns c.limit_of.ensures.limit
