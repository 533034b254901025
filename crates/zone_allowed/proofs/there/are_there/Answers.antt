use Rattle.std.proofs.Common.{arith}
use Rattle.zone_table.specs.Zones.{placed_in}
use Rattle.zone_table.specs.Slotted.{sets_of}
use Rattle.zone_allowed.proofs.Rises.{there_apart}
use Rattle.zone_allowed.proofs.there.are_there.Goals as goal

pub returns-then-have_all : goal.returns-then-have_all
returns-then-have_all c =
    let law = there_apart (sets_of (placed_in c.args.zones.now.zones c.args.zone))
    c.args.keys.now in (
      λ h. law.1 (c.have_all.ensures.0 c.if-have_all.true, c.keys_are_apart.ensures.0 h),
      λ there. c.keys_are_apart.ensures.1 (law.0 there).1,
    )

pub returns-else-have_all : goal.returns-else-have_all
returns-else-have_all c =
    let law = there_apart (sets_of (placed_in c.args.zones.now.zones c.args.zone))
    c.args.keys.now in (
      λ h. absurd (let f = c.if-have_all.false in grind (arith, h, f)),
      λ there. c.have_all.ensures.1 (law.0 there).0,
    )
