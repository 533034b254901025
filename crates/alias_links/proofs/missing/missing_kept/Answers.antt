use Rattle.std.proofs.Common.{◌∙◌, sym}
use Rattle.alias_links.proofs.Unaliased.{none_aliased}
use Rattle.alias_links.specs.After.{changed_in}
use Rattle.zone_table.specs.Zones.{placed_in}
use Rattle.alias_links.proofs.missing.missing_kept.Goals as goal

pub returns-then-aliases-eq0 : goal.returns-then-aliases-eq0
returns-then-aliases-eq0 c = λ set there has.
    none_aliased (changed_in c.args.zones.now.zones c.args.zone c.args.remove.now c.args.add.now)
    (placed_in c.args.zones.now.zones c.args.zone) (sym c.aliases.ensures ∙ c.if-aliases-eq0.true) set
    there has.1
