use Rattle.std.proofs.Common.{◌∙◌, List, Some, subst, sym}
use Rattle.std.specs.Prelude.{◌↔◌}
use Rattle.zone_changes.specs.Zones.{IsAmong}
use Rattle.zone_list.specs.declared.apexes.NamedZone.{NamedZone}
use Rattle.zone_list.specs.Apexes.{AreInOrder, FindsNumber}
use Rattle.zone_list.proofs.Naming.{taken_order, taken_others}
use Rattle.zone_list.proofs.apexes.take.Goals as goal

pub loop-place-preserved : goal.loop-place-preserved
loop-place-preserved c =
    let list = c.loop-place.list.items in
    let found = subst (λ (l : List NamedZone). FindsNumber l c.args.id (Some c.in-Some.place))
    c.deref.ensures.value c.in-Some.ensures in
    let inv = c.loop-place.invariant in record {
      order = subst AreInOrder (sym c.remove.ensures.items)
          (taken_order list c.in-Some.place found.0 found.1 inv.order);
      others = λ other apart.
          (let step = taken_others list c.in-Some.place found.0 found.1 other
          (λ e. apart (e ∙ found.2)) in
          let all = inv.others other apart in
          subst (λ (l : List NamedZone). IsAmong l other ↔ IsAmong c.args.list.now.items other)
          (sym c.remove.ensures.items) ((λ h. all.0 (step.0 h)), λ h. step.1 (all.1 h)));
    }
