use Rattle.std.proofs.Common.{◌∙◌, sym}
use Rattle.std.proofs.lemmas.Bool.{false≢true}
use Rattle.alias_links.proofs.Changing.{is_change}
use Rattle.alias_links.specs.After.{sets_in}
use Rattle.batch_commands.proofs.links.are_short.Goals as goal

pub returns-then-not-adds_alias : goal.returns-then-not-adds_alias
returns-then-not-adds_alias c = λ e.
    let zones = c.args.zones.now.zones in
    c.aliases_stay.ensures.walks (sets_in zones c.args.zone) c.args.remove.now c.args.add.now
    (is_change zones c.args.zone c.args.remove.now c.args.add.now c.requires.allowed)
    (λ has. false≢true (sym c.if-not-adds_alias.true ∙ c.adds_alias.ensures.1 has))
    c.requires.walks

pub returns : goal.returns
returns c = λ e.
    let zones = c.args.zones.now.zones in
    c.aliases_come.ensures.walks (sets_in zones c.args.zone) c.args.remove.now c.args.add.now
    (is_change zones c.args.zone c.args.remove.now c.args.add.now c.requires.allowed)
    (c.all_end_walks.ensures.0 e) c.requires.targets c.requires.walks
