use Rattle.std.proofs.Common.{◌≡◌, ◌+◌, ◌++◌, ◌∷◌, [], ◌∙◌, List, length, drop, suc, ap, sym, subst, refl, arith, Some}
use Rattle.std.specs.Prelude.{slice_get}
use Rattle.std.proofs.lemmas.Option.{slice_get_read}
use Rattle.zone_changes.specs.SetKeyRecord.{SetKey}
use Rattle.zone_changes.specs.Slotted.{Slotted, sets_of}
use Rattle.zone_changes.specs.Orders.{slotted_of}
use Rattle.zone_list.specs.declared.refs.SetRef.{SetRef}
use Rattle.zone_list.specs.Changes.{AreThere}
use Rattle.zone_list.specs.Steps.{Goings}
use Rattle.zone_list.proofs.Members.{left_at, nothing_left}
use Rattle.zone_list.proofs.Leaving.{more_leave, there_after}
use Rattle.zone_list.proofs.Made.{append_none, length_more}
use Rattle.zone_list.proofs.changing.leave_all.Goals as goal

pub loop-key-preserved : goal.loop-key-preserved
loop-key-preserved c =
    let keys = c.args.keys.now in
    let i = c.loop-key.key-index in
    let key = c.key-item.result in
    let test = c.loop-key-test.true in
    let at : slice_get keys i ≡ Some key =
    slice_get_read keys (length keys) i key refl (omega (arith, test)) c.key-item.is in
    let left : drop i keys ≡ key ∷ drop (i + 1) keys = left_at keys i key at in
    let inv = c.loop-key.invariant in
    let now = slotted_of c.loop-key.store.slots c.args.zone c.loop-key.order.items in
    let next = slotted_of c.leave-slot.new.store.slots c.args.zone c.leave-slot.new.order.items in
    let slot = c.leave-slot.result in
    let add = c.args.add.now in
    let added = c.args.added.now in
    let push = c.push_reserved.ensures in
    let refs = inv.refs in
    let one_less : length (drop i keys) ≡ length (drop (i + 1) keys) + 1 = ap length left
    ∙ (let n : suc (length (drop (i + 1) keys)) ≡ length (drop (i + 1) keys) + 1 =
    omega arith in n) in
    let one_more =
    length_more c.loop-key.removed.items c.push_reserved.new.self.items _ push.items in
    let same = push.capacity in
    record {
      order = c.leave-slot.ensures.order;
      there = there_after c.args.zone add added now next key slot (drop (i + 1) keys)
          inv.order.rising c.leave-slot.ensures.leaves
          (subst (λ ks. AreThere (sets_of now) ks) left inv.there);
      leave = more_leave c.args.zone add added
          (slotted_of c.args.store.now.slots c.args.zone c.args.order.now.items) now next keys
          (drop (i + 1) keys) key slot c.loop-key.removed.items c.push_reserved.new.self.items
          (subst (λ (ks : List SetKey). (told : List SetRef) (after : List Slotted)
          → Goings c.args.zone add added now ks told after
          → Goings c.args.zone add added
          (slotted_of c.args.store.now.slots c.args.zone c.args.order.now.items) keys (c.loop-key.removed.items
          ++ told) after) left inv.leave)
          c.leave-slot.ensures.leaves push.items;
      others = λ other at_slot apart. c.leave-slot.ensures.others other at_slot apart
          ∙ inv.others other at_slot apart;
      refs = omega (arith, refs, one_less, one_more, same);
      slots_stay = c.leave-slot.ensures.slots ∙ inv.slots_stay;
      sums = c.leave-slot.ensures.sums;
      sets = c.leave-slot.ensures.sets ∙ inv.sets;
    }

pub returns-clause-leaves : goal.returns-clause-leaves
returns-clause-leaves c =
    let keys = c.args.keys.now in
    let i = c.loop-key.key-index in
    let test = c.loop-key-test.false in
    let none : drop i keys ≡ [] = nothing_left keys i (omega (arith, test)) in
    let now = slotted_of c.loop-key.store.slots c.args.zone c.loop-key.order.items in
    subst (λ (refs : List SetRef). Goings c.args.zone c.args.add.now c.args.added.now
    (slotted_of c.args.store.now.slots c.args.zone c.args.order.now.items) keys refs now)
    (append_none c.loop-key.removed.items)
    (c.loop-key.invariant.leave [] now
    (subst (λ (ks : List SetKey). Goings c.args.zone c.args.add.now c.args.added.now now ks [] now)
    (sym none) (refl, refl)))
