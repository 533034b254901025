use Rattle.std.proofs.Common.{List, ℕ, subst, sym}
use Rattle.check_commands.specs.Uses.{AreUsesTo}
use Rattle.check_commands.proofs.Followed.{at_end, at_start}
use Rattle.check_commands.proofs.uses.look_at_zones.Goals as goal

pub loop-zone-init : goal.loop-zone-init
loop-zone-init c =
    let zones = c.args.zones.now.zones in
    subst (λ (l : List ℕ). AreUsesTo 0 l zones) (sym c.new-named.ensures)
    (at_start zones c.well_formed-2.ensures)

pub returns : goal.returns
returns c =
    at_end c.args.zones.now.zones c.well_formed-2.ensures c.loop-zone.last c.loop-zone.named
    c.in_default.ensures c.loop-zone.invariant
