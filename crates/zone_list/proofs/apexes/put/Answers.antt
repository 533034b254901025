use Rattle.std.proofs.Common.{◌≡◌, ◌-◌, List, Some, subst, sym, arith}
use Rattle.std.specs.Prelude.{slice_get}
use Rattle.zone_list.specs.declared.apexes.NamedZone.{NamedZone}
use Rattle.zone_list.specs.Apexes.{AreInOrder, IsParted, IsWith}
use Rattle.zone_list.proofs.Naming.{put_order, put_with}
use Rattle.zone_list.proofs.apexes.put.Goals as goal

pub returns-clause-order : goal.returns-clause-order
returns-clause-order c =
    let list = c.args.list.now.items in
    let n = c.count_to-place.result in
    let apex : NamedZone = record { id = c.args.id; name = c.args.name.now } in
    let named = c.if-is_named.false in
    subst AreInOrder (sym c.insert_at.ensures)
    (put_order list c.requires n apex
    (subst (λ (l : List NamedZone). IsParted l c.args.name.now n n) c.deref.ensures.value
    c.count_to-place.ensures)
    (λ y some at same. (let t =
    (c.is_named.ensures y some (subst (λ (l : List NamedZone). slice_get l (n - 1) ≡ Some y)
    (sym c.deref-2.ensures.value) at)).1 same in grind (arith, t, named))))

pub returns-clause-put : goal.returns-clause-put
returns-clause-put c done =
    let list = c.args.list.now.items in
    let apex : NamedZone = record { id = c.args.id; name = c.args.name.now } in
    subst (λ (l : List NamedZone). IsWith list apex l) (sym c.insert_at.ensures)
    (put_with list c.count_to-place.result apex)
