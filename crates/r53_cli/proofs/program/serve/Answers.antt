use Rattle.std.proofs.Common.{◌∙◌}
use Rattle.r53_cli.proofs.Responses.{ran, caused}
use Rattle.r53_cli.proofs.program.serve.Goals as goal

pub returns-in-Packet-clause-ran : goal.returns-in-Packet-clause-ran
returns-in-Packet-clause-ran g c =
    ran c.respond.result c.args.once.now c.front.result.now _ _ c.respond.ensures.responds
    (λ input told. let p = c.in-Packet.ensures.reads input told in
    (p.limit, p.read, c.front.ensures ∙ p.bytes))

pub returns-in-Packet-clause-cause : goal.returns-in-Packet-clause-cause
returns-in-Packet-clause-cause g c =
    caused c.respond.result c.args.once.now c.front.result.now _ _ _ _ _ _
    c.respond.ensures.responds c.respond.ensures.failed
