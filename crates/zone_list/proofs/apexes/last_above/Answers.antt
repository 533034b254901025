use Rattle.std.proofs.Common.{◌≡◌, length, refl, Some, arith}
use Rattle.std.specs.Prelude.{slice_get}
use Rattle.std.proofs.lemmas.Option.{slice_get_read}
use Rattle.zone_list.proofs.Naming.{last_is_longest}
use Rattle.zone_list.proofs.apexes.last_above.Goals as goal

pub returns : goal.returns
returns c =
    let list = c.args.list.now in
    let x = c.index-list-place in
    let inside = c.if-place-list.false in
    let at : slice_get list c.args.place ≡ Some x.result =
    slice_get_read list (length list) c.args.place x.result refl (omega (arith, inside)) x.is in
    let ends = c.if-not-ends_with.false in
    last_is_longest list c.args.name.now c.requires c.args.place x.result at
    (c.ends_with.ensures.0 (grind (arith, ends)))
    (λ next at_next below. (let t = (c.has_below.ensures next at_next).1 below in
    let f = c.if-has_below.false in grind (arith, t, f)))
