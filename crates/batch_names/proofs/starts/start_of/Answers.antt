use Rattle.std.proofs.Common.{refl}
use Rattle.zone_table.proofs.Holding.{kept_in}
use Rattle.batch_names.proofs.Starting.{none_has, starts_here}
use Rattle.zone_table.specs.Zones.{placed_in}
use Rattle.zone_table.specs.Slotted.{sets_of}
use Rattle.batch_names.proofs.starts.start_of.Goals as goal

pub returns-then-has_name : goal.returns-then-has_name
returns-then-has_name c =
    let here = c.if-has_name.ensures.0 refl in
    starts_here (sets_of (placed_in c.args.zones.now.zones c.args.zone)) c.args.name.now
    c.group_near-start.result.start c.group_near-start.ensures.sets.first here.0 here.1 here.2

pub returns : goal.returns
returns c =
    none_has (sets_of (placed_in c.args.zones.now.zones c.args.zone)) c.args.name.now
    c.group_near-start.result.start c.group_near-start.ensures.sets.first
    (kept_in c.args.zones.now.zones c.well_formed-2.ensures.each c.args.zone).rising
    (λ set at e. (let no = c.if-has_name.ensures.1 (set, at, e) in absurd cc))
