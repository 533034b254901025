use Rattle.std.proofs.Common.{refl, arith}
use Rattle.health_valves.specs.Valves.{value_of}
use Rattle.health_valves.proofs.Turns.{room, all_in, fits_after, meets_after, unfed, same_after}
use Rattle.health_valves.proofs.valves.Valves.eval_node.Goals as goal

pub fed-fed-requires : goal.fed-fed-requires
fed-fed-requires g c =
    let laid = c.requires.ready.2.laid in
    let size = laid.size in
    let valves = laid.valves in
    let node = c.requires.node in
    omega arith

pub work_out-requires-clause-within : goal.work_out-requires-clause-within
work_out-requires-clause-within g c =
    let fits = c.requires.ready.2 in
    rw (c.fed-fed.ensures.fed, c.as_mut_slice-counts.ensures.value, fits.counted.size) (all_in _ _ (fits.laid.within c.args.node))

pub work_out-requires-clause-room : goal.work_out-requires-clause-room
work_out-requires-clause-room g c =
    let fits = c.requires.ready.2 in
    rw (c.fed-fed.ensures.fed, c.as_mut_slice-counts.ensures.value, c.as_mut_slice-values.ensures.value) (room _ _ _ _ fits.laid _ _ fits.counted _ _ refl)

pub returns-clause-fits : goal.returns-clause-fits
returns-clause-fits g c net own fits = fits_after net own c.args.self.now _ _ _ _ _ c.args.node fits c.as_mut_slice-values.ensures.value c.as_mut_slice-counts.ensures.value c.work_out.auto.values c.work_out.auto.counts c.fed-fed.ensures.fed c.work_out.ensures.others c.work_out.ensures.counts

pub returns-clause-meets : goal.returns-clause-meets
returns-clause-meets g c net own fits ends = meets_after net ends own c.args.self.now _ _ _ _ c.args.node c.requires.node fits c.as_mut_slice-values.ensures.value c.as_mut_slice-counts.ensures.value c.work_out.auto.values c.index-row.ensures c.work_out.ensures.others c.work_out.ensures.value

pub returns-clause-spares : goal.returns-clause-spares
returns-clause-spares g c net own n fits ne un m =
    unfed net own (value_of c.args.self.now) _ c.args.node n (same_after c.args.self.now _ _ c.args.node c.as_mut_slice-values.ensures.value c.work_out.auto.values c.work_out.ensures.others) ne un m
