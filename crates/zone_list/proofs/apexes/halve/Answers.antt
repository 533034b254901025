use Rattle.std.proofs.Common.{◌+◌, ◌-◌, ◌/◌, ◌<◌, ◌≡◌, ◌∙◌, length, ap, refl, sym, Some, arith}
use Rattle.std.specs.Prelude.{slice_get}
use Rattle.std.specs.Ordering.{is_gt}
use Rattle.std.proofs.lemmas.Option.{slice_get_read}
use Rattle.zone_changes.specs.Order.{zone_cmp}
use Rattle.zone_list.specs.declared.apexes.NamedZone.{NamedZone}
use Rattle.zone_list.proofs.Naming.{part_down, part_up}
use Rattle.zone_list.proofs.apexes.halve.Goals as goal

pub returns-then-is_gt-clause-parted : goal.returns-then-is_gt-clause-parted
returns-then-is_gt-clause-parted c =
    let list = c.args.list.now in
    let apart = c.requires.apart in
    let within = c.requires.parted.within in
    let m = c.args.low + (c.args.high - c.args.low) / 2 in
    let below : m < c.args.high = omega (arith, apart) in
    let x = c.index-list-middle in
    let at : slice_get list m ≡ Some x.result =
    slice_get_read list (length list) m x.result refl (omega (arith, below, within)) x.is in
    part_down list c.args.name.now c.requires.order c.args.low c.args.high m c.requires.parted
    (omega arith) below x.result at
    (sym (ap is_gt (c.cmp.ensures ∙ ap (λ (a : NamedZone). zone_cmp a.name c.args.name.now) (sym x.is)))
    ∙ (sym c.is_gt.ensures ∙ c.if-is_gt.true))

pub returns-clause-parted : goal.returns-clause-parted
returns-clause-parted c =
    let list = c.args.list.now in
    let apart = c.requires.apart in
    let within = c.requires.parted.within in
    let m = c.args.low + (c.args.high - c.args.low) / 2 in
    let below : m < c.args.high = omega (arith, apart) in
    let x = c.index-list-middle in
    let at : slice_get list m ≡ Some x.result =
    slice_get_read list (length list) m x.result refl (omega (arith, below, within)) x.is in
    part_up list c.args.name.now c.requires.order c.args.low c.args.high m c.requires.parted
    (omega arith) below x.result at
    (sym (ap is_gt (c.cmp.ensures ∙ ap (λ (a : NamedZone). zone_cmp a.name c.args.name.now) (sym x.is)))
    ∙ (sym c.is_gt.ensures ∙ c.if-is_gt.false))
