use Rattle.std.proofs.Common.{◌≤◌, length, ap, sym, ◌∙◌, arith}
use Rattle.cell_lists.specs.Lists.{list_of}
use Rattle.valve_feeds.specs.Joined.{more_in}
use Rattle.valve_feeds.proofs.Stages.{had_cell, made_cell, none_first}
use Rattle.valve_feeds.proofs.joining.free_cell.Goals as goal

pub returns-in-Some : goal.returns-in-Some
returns-in-Some c =
    let within = rw c.in-Some.is at c.first.ensures.within in
    had_cell _ _ _ _ _ c.requires.joined (sym c.first.ensures.first ∙ c.in-Some.is) within c.take.ensures.taken c.take.ensures.free

pub returns : goal.returns
returns c =
    let none = ap length (none_first (list_of c.args.out.now 0) (sym c.first.ensures.first ∙ c.in_default.is)) in
    let room = c.requires.room in
    let more : 1 ≤ more_in c.args.ends.now c.args.out.now c.args.into.now = omega arith in
    made_cell _ _ _ _ _ _ _ c.requires.joined c.len-cell.ensures.cells more
    c.push_cell.ensures.lists c.push_cell.ensures.cells c.push_cell.ensures.room c.push_cell.ensures.cells_room c.push_cell.ensures.free
    c.push_cell-2.ensures.lists c.push_cell-2.ensures.cells c.push_cell-2.ensures.room c.push_cell-2.ensures.cells_room c.push_cell-2.ensures.free
    c.push_reserved.ensures.items c.push_reserved.ensures.capacity
