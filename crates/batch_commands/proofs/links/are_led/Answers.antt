use Rattle.std.proofs.Common.{sym, ◌∙◌}
use Rattle.std.proofs.lemmas.Bool.{false≢true}
use Rattle.alias_links.proofs.Changing.{is_change}
use Rattle.alias_links.specs.After.{sets_in}
use Rattle.batch_commands.proofs.links.are_led.Goals as goal

pub returns-then-empties_group : goal.returns-then-empties_group
returns-then-empties_group c = λ e. absurd (false≢true e)

pub returns : goal.returns
returns c = λ e.
    let zones = c.args.zones.now.zones in
    c.aliases_come.ensures.targets (sets_in zones c.args.zone) c.args.remove.now c.args.add.now
    (is_change zones c.args.zone c.args.remove.now c.args.add.now c.requires.allowed)
    (λ has. false≢true (sym c.if-empties_group.false ∙ c.empties_group.ensures.1 has))
    (c.all_lead.ensures.0 e) c.requires.targets
