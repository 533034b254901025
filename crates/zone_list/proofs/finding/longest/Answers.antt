use Rattle.std.proofs.Common.{◌≡◌, List, Some, length, take, refl, sym, subst, arith}
use Rattle.std.specs.Prelude.{slice_get}
use Rattle.std.proofs.lemmas.Option.{slice_get_read}
use Rattle.zone_list.specs.Kept.{named, named_of}
use Rattle.zone_list.specs.Found.{LongestOrNone}
use Rattle.zone_list.specs.Zones.{Zone}
use Rattle.zone_list.proofs.Made.{map_more}
use Rattle.zone_list.proofs.finding.longest.Goals as goal

pub loop-zone-preserved : goal.loop-zone-preserved
loop-zone-preserved c =
    let list = c.args.list.now in
    let i = c.loop-zone.zone-index in
    let test = c.loop-zone-test.true in
    let at : slice_get list i ≡ Some c.zone-item.result =
    slice_get_read list (length list) i c.zone-item.result refl (omega (arith, test))
    c.zone-item.is in
    subst (λ (zones : List Zone). LongestOrNone zones c.args.name.now c.longer-found.result)
    (sym (map_more named list i c.zone-item.result at))
    (c.longer-found.ensures (named_of (take i list)) c.loop-zone.invariant)
