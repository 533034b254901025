use Rattle.std.proofs.Common.{◌≡◌, suc, arith}
use mathlib.Core.Path.{subst}
use Rattle.health_index.specs.Index.{IsValveOf}
use Rattle.health_planning.specs.Wired.{set_seat}
use Rattle.health_index.proofs.index.HealthIndexHealthView.is_healthy.Goals as goal

pub value-requires-clause-valve : goal.value-requires-clause-valve
value-requires-clause-valve c =
    let w = c.self.invariant in
    let is = subst (IsValveOf c.deref.result.now c.args.set.slot) c.in-Some.is c.valve_of.ensures in
    let seat : set_seat c.self.inside.seats.items c.args.set.slot ≡ suc c.in-Some.valve = rw c.deref.ensures.value at is in
    let b = w.seated c.args.set.slot c.in-Some.valve seat in
    let size = w.fits.laid.size in
    omega arith
