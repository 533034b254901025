use Rattle.std.proofs.Common.{subst}
use Rattle.record_set.specs.declared.sets.SetKey.{SetKey}
use Rattle.zone_table.specs.Found.{FindsAt}
use Rattle.alias_links.proofs.Kept.{in_place}
use Rattle.alias_links.proofs.aliases.place.Goals as goal

pub returns-in-Ok : goal.returns-in-Ok
returns-in-Ok c =
    in_place c.args.sets.now.items c.in-Ok.place c.args.given
    (subst (λ (k : SetKey). FindsAt c.args.sets.now.items k c.in-Ok.place) c.key.ensures c.in-Ok.ensures)
