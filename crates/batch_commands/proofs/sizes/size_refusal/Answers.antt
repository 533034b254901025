use Rattle.std.proofs.Common.{◌∙◌, length, sym, arith}
use Rattle.std.proofs.lemmas.Bool.{ltb-false}
use Rattle.alias_links.specs.After.{changed_in}
use Rattle.batch_commands.proofs.Counted.{counted, few_gone}
use Rattle.batch_commands.proofs.sizes.size_refusal.Goals as goal

pub is_store_full-requires-clause-few : goal.is_store_full-requires-clause-few
is_store_full-requires-clause-few c =
    let zones = c.args.zones.now.zones in
    let after = counted zones c.well_formed-2.ensures c.args.zone c.args.remove.now c.args.add.now
    c.requires.allowed in
    let gone = few_gone zones c.well_formed-2.ensures c.args.zone c.args.remove.now c.args.add.now
    c.requires.allowed in
    let few = ltb-false 10000
    (length (changed_in zones c.args.zone c.args.remove.now c.args.add.now))
    (sym c.is_zone_full.ensures ∙ c.if-is_zone_full.false) in
    omega (arith, after, gone, few)
