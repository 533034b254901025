use Rattle.std.proofs.Common.{◌≡◌, [], List, drop, sym, subst, refl, arith}
use Rattle.zone_changes.specs.RecordSetRecord.{RecordSet}
use Rattle.zone_changes.specs.Orders.{slotted_of}
use Rattle.zone_list.specs.declared.refs.SetRef.{SetRef}
use Rattle.zone_list.specs.Steps.{Comings}
use Rattle.zone_list.proofs.Members.{nothing_left}
use Rattle.zone_list.proofs.Made.{append_none}
use Rattle.zone_list.proofs.changing.come_all.Goals as goal

pub returns-clause-comes : goal.returns-clause-comes
returns-clause-comes c =
    let add = c.args.add.now in
    let i = c.loop-set.set-index in
    let test = c.loop-set-test.false in
    let none : drop i add ≡ [] = nothing_left add i (omega (arith, test)) in
    let now = slotted_of c.loop-set.store.slots c.args.zone c.loop-set.order.items in
    subst (λ (refs : List SetRef). Comings c.args.zone
    (slotted_of c.args.store.now.slots c.args.zone c.args.order.now.items) add refs now)
    (append_none c.loop-set.added.items)
    (c.loop-set.invariant.come [] now
    (subst (λ (ss : List RecordSet). Comings c.args.zone now ss [] now) (sym none) (refl, refl)))
