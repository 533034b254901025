use Rattle.std.proofs.Common.{subst, sym, List, Option, ℕ, map}
use Rattle.config_zones.specs.SetRefRecord.{SetRef}
use Rattle.check_commands.specs.Uses.{KnowsUses, LooksAt, slot_of}
use Rattle.check_commands.proofs.Followed.{noted, still_lost}
use Rattle.check_commands.proofs.uses.CheckUses.note.Goals as goal

pub returns-else-not-look_at_all-2 : goal.returns-else-not-look_at_all-2
returns-else-not-look_at_all-2 c before made are apart allowed edits knows =
    let zones = c.args.zones.now.zones in
    let delta = c.args.delta.now in
    let old = c.self.inside.named in
    let first = subst (λ (l : List SetRef). LooksAt zones delta.zone (map slot_of l) old
    c.look_at_all.new.named) c.as_slice.ensures (c.look_at_all.ensures c.if-not-look_at_all.false) in
    let second = subst (λ (l : List SetRef). LooksAt zones delta.zone (map slot_of l)
    c.look_at_all.new.named c.look_at_all-2.new.named) c.as_slice-2.ensures
    (c.look_at_all-2.ensures c.if-not-look_at_all-2.false) in
    still_lost c.self.inside.is_lost old c.look_at_all-2.new.named before zones
    (noted before zones are apart c.well_formed-2.ensures c.slots_apart.ensures delta made allowed edits
    old c.look_at_all.new.named c.look_at_all-2.new.named first second)
    (subst (λ (v : Option (List ℕ)). KnowsUses v before) (sym c.self.view_is) knows)
