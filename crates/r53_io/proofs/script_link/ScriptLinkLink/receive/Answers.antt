use Rattle.std.proofs.Common.{rules, ◌∙◌, sym, ap, drop, map, ◌+◌}
use Rattle.r53_io.specs.Script.{Script, incoming_of}
use Rattle.r53_io.proofs.Scripts.{fits, comes, delivered}
use Rattle.r53_io.proofs.script_link.ScriptLinkLink.receive.Goals as goal

pub deliver-requires-clause-fits : goal.deliver-requires-clause-fits
deliver-requires-clause-fits c =
    fits c.self.inside.arrivals.items c.self.inside.at _ (search rules) (search rules) c.self.invariant.1

pub returns-clause-after : goal.returns-clause-after
returns-clause-after c =
    delivered c.args.self.now _ (incoming_of c.in-Some.next.now)
    (map incoming_of (drop (c.self.inside.at + 1) c.self.inside.arrivals.items))
    (search rules)
    (sym (ap (λ (s : Script). s.coming) c.self.view_is)
    ∙ comes c.self.inside.arrivals.items c.self.inside.at _ (search rules) (search rules))
    (search rules) _ _ _ c.deliver.ensures
