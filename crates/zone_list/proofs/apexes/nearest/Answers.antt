use Rattle.std.proofs.Common.{◌≡◌, ◌-◌, length, refl, Some, arith}
use Rattle.std.specs.Prelude.{slice_get}
use Rattle.std.proofs.lemmas.Option.{slice_get_read}
use Rattle.zone_list.proofs.Naming.{found_nearest, none_there, not_there}
use Rattle.zone_list.proofs.apexes.nearest.Goals as goal

pub returns-then-count-eq0 : goal.returns-then-count-eq0
returns-then-count-eq0 c =
    none_there c.args.list.now c.args.name.now c.requires c.count_to-count.result
    c.count_to-count.ensures c.if-count-eq0.true

pub returns-then-not-ends_with : goal.returns-then-not-ends_with
returns-then-not-ends_with c =
    let list = c.args.list.now in
    let n = c.count_to-count.result in
    let some = c.if-count-eq0.false in
    let within = c.count_to-count.ensures.within in
    let x = c.index-list-count in
    let at : slice_get list (n - 1) ≡ Some x.result =
    slice_get_read list (length list) (n - 1) x.result refl (omega (arith, some, within)) x.is in
    let no = c.if-not-ends_with.true in
    not_there list c.args.name.now c.requires n c.count_to-count.ensures x.result
    (omega (arith, some)) at
    (λ h. (let t = c.ends_with.ensures.1 h in grind (arith, t, no)))

pub returns : goal.returns
returns c =
    let list = c.args.list.now in
    let n = c.count_to-count.result in
    let some = c.if-count-eq0.false in
    let within = c.count_to-count.ensures.within in
    let x = c.index-list-count in
    let at : slice_get list (n - 1) ≡ Some x.result =
    slice_get_read list (length list) (n - 1) x.result refl (omega (arith, some, within)) x.is in
    let ends = c.if-not-ends_with.false in
    found_nearest list c.args.name.now c.requires n c.count_to-count.ensures x.result
    (omega (arith, some)) at (c.ends_with.ensures.0 (grind (arith, ends)))
