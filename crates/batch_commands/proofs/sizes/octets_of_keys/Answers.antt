use Rattle.std.proofs.Common.{refl, arith, length}
use Rattle.std.proofs.lemmas.Option.{slice_get_read}
use Rattle.alias_links.proofs.Held.{sets_rise}
use Rattle.alias_links.specs.After.{sets_in}
use Rattle.config_zones.specs.Octets.{set_octets}
use Rattle.batch_commands.proofs.Sums.{next_gone, there_at}
use Rattle.batch_commands.proofs.sizes.octets_of_keys.Goals as goal

pub octets_of_key-octets-requires : goal.octets_of_key-octets-requires
octets_of_key-octets-requires c =
    let keys = c.args.keys.now in
    let key = c.index-keys-i in
    there_at keys (sets_in c.args.zones.now.zones c.args.zone) c.loop-i.i key.result
    c.requires.there
    (slice_get_read keys _ c.loop-i.i key.result refl c.loop-i-test.true key.is)

pub overflow_add-octets : goal.overflow_add-octets
overflow_add-octets c =
    let zones = c.args.zones.now.zones in
    let keys = c.args.keys.now in
    let key = c.index-keys-i in
    let at = slice_get_read keys _ c.loop-i.i key.result refl c.loop-i-test.true key.is in
    let it = c.octets_of_key-octets.ensures in
    let gone = next_gone (λ set. length (set_octets set)) keys (sets_in zones c.args.zone)
    c.loop-i.i key.result it.0 (sets_rise zones c.well_formed-2.ensures c.args.zone)
    c.requires.there at it.1.there it.1.same_key in
    let before = c.loop-i.invariant in
    let size = it.2 in
    let few = c.requires.octets in
    omega (arith, gone, before, size, few)

pub loop-i-preserved : goal.loop-i-preserved
loop-i-preserved c =
    let zones = c.args.zones.now.zones in
    let keys = c.args.keys.now in
    let key = c.index-keys-i in
    let at = slice_get_read keys _ c.loop-i.i key.result refl c.loop-i-test.true key.is in
    let it = c.octets_of_key-octets.ensures in
    let gone = next_gone (λ set. length (set_octets set)) keys (sets_in zones c.args.zone)
    c.loop-i.i key.result it.0 (sets_rise zones c.well_formed-2.ensures c.args.zone)
    c.requires.there at it.1.there it.1.same_key in
    let before = c.loop-i.invariant in
    let size = it.2 in
    omega (arith, gone, before, size)
