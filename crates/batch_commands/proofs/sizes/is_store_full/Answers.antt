use Rattle.std.proofs.Common.{◌≡◌, ◌∙◌, ◌+◌, length, arith}
use Rattle.config_zones.specs.Counted.{octets_in_all, sets_in_all}
use Rattle.batch_commands.specs.Sizes.{octets_in}
use Rattle.batch_commands.proofs.Counted.{full_is, its_octets, octets_enough, sets_enough, spelled}
use Rattle.batch_commands.proofs.Counted.{there}
use Rattle.batch_commands.proofs.sizes.is_store_full.Goals as goal

pub left_with-sets-requires-clause-gone : goal.left_with-sets-requires-clause-gone
left_with-sets-requires-clause-gone c =
    let zones = c.args.zones.now.zones in
    let enough = sets_enough zones c.well_formed-2.ensures c.args.zone c.args.remove.now c.args.add.now
    c.requires.allowed c.counts_agree.ensures in
    let all = c.all_sets.ensures in
    omega (arith, enough, all)

pub octets_of_keys-octets_gone-requires-clause-there :
    goal.octets_of_keys-octets_gone-requires-clause-there
octets_of_keys-octets_gone-requires-clause-there c =
    let zones = c.args.zones.now.zones in
    there zones c.well_formed-2.ensures c.args.zone c.args.remove.now c.args.add.now
    c.requires.allowed

pub octets_of_keys-octets_gone-requires-clause-octets :
    goal.octets_of_keys-octets_gone-requires-clause-octets
octets_of_keys-octets_gone-requires-clause-octets c =
    let zones = c.args.zones.now.zones in
    let its = its_octets zones c.well_formed-2.ensures c.args.zone c.args.remove.now c.args.add.now
    c.requires.allowed c.counts_agree.ensures in
    let all = c.requires.octets in
    omega (arith, its, all)

pub octets_in-octets_come-requires-clause-spelled :
    goal.octets_in-octets_come-requires-clause-spelled
octets_in-octets_come-requires-clause-spelled c =
    let zones = c.args.zones.now.zones in
    spelled zones c.well_formed-2.ensures c.args.zone c.args.remove.now c.args.add.now
    c.requires.allowed

pub left_with-octets-requires-clause-gone : goal.left_with-octets-requires-clause-gone
left_with-octets-requires-clause-gone c =
    let zones = c.args.zones.now.zones in
    let enough = octets_enough zones c.well_formed-2.ensures c.args.zone c.args.remove.now c.args.add.now
    c.requires.allowed c.counts_agree.ensures c.octets_of_keys-octets_gone.result
    c.octets_of_keys-octets_gone.ensures in
    let all = c.all_octets.ensures in
    omega (arith, enough, all)

pub returns : goal.returns
returns c =
    let zones = c.args.zones.now.zones in
    let all_sets = c.all_sets.ensures in
    let all_octets = c.all_octets.ensures in
    let left_sets = c.left_with-sets.ensures in
    let left_octets = c.left_with-octets.ensures in
    let come = c.octets_in-octets_come.ensures.octets in
    let sets_now : c.left_with-sets.result + length c.args.remove.now
    ≡ sets_in_all zones + length c.args.add.now =
    omega (arith, all_sets, left_sets) in
    let octets_now : c.left_with-octets.result + c.octets_of_keys-octets_gone.result
    ≡ octets_in_all zones + octets_in c.args.add.now =
    omega (arith, all_octets, left_octets, come) in
    c.is_over.ensures
    ∙ full_is zones c.well_formed-2.ensures c.args.zone c.args.remove.now c.args.add.now
    c.requires.allowed c.counts_agree.ensures c.octets_of_keys-octets_gone.result
    c.octets_of_keys-octets_gone.ensures
    c.left_with-sets.result c.left_with-octets.result sets_now octets_now
