use Rattle.std.proofs.Common.{◌≡◌, ◌+◌, ◌<◌, ◌≤◌, arith, ap, length, take, ◌∙◌}
use Rattle.std.specs.Option.{option_copied}
use Rattle.std.proofs.lemmas.List.{length-take-le}
use Rattle.geo_latency.proofs.Listed.{no_second, once_next, told_all, told_next, with_rest}
use Rattle.geo_latency.specs.Lines.{has_region, later}
use Rattle.geo_latency.proofs.several.fill.Goals as goal

pub returns-then-has_region-clause-told : goal.returns-then-has_region-clause-told
returns-then-has_region-clause-told c =
    no_second _ _ _ _ _ c.loop-row.invariant.told c.first_piece.ensures.parts
    c.in-Some.row c.in-Some.ensures
    (c.if-has_region.ensures ∙ ap (λ r. has_region r c.in-Some.row.0) c.first_rows.ensures)

pub returns-in_default-behind-clause-told : goal.returns-in_default-behind-clause-told
returns-in_default-behind-clause-told c =
    let count = c.loop-row.count in
    let rows = c.loop-row.rows in
    let low = c.if-count-ge-MAX_REGIONS.false in
    let room = c.loop-row.invariant.room in
    let within : count ≤ length rows = omega (arith, low, room) in
    let long : length (take count rows) ≡ count = length-take-le count rows within in
    told_all _ _ _ _ _ c.loop-row.invariant.told c.first_piece.ensures.parts
    c.in-Some.row c.in-Some.ensures c.loop-row.invariant.once
    (c.if-has_region.ensures ∙ ap (λ r. has_region r c.in-Some.row.0) c.first_rows.ensures)
    (omega (arith, low, long))
    _ c.put_row.ensures.rows
    (ap (λ o. later 0x2C (option_copied o)) c.in_default-behind.is)

pub loop-row-preserved : goal.loop-row-preserved
loop-row-preserved c =
    let count = c.loop-row.count in
    let rows = c.loop-row.rows in
    let low = c.if-count-ge-MAX_REGIONS.false in
    let room = c.loop-row.invariant.room in
    let within : count ≤ length rows = omega (arith, low, room) in
    let long : length (take count rows) ≡ count = length-take-le count rows within in
    let told = c.loop-row.invariant.told in
    let parts = c.first_piece.ensures.parts in
    let fresh = c.if-has_region.ensures ∙ ap (λ r. has_region r c.in-Some.row.0) c.first_rows.ensures in
    let few : length (take count rows) < 32 = omega (arith, low, long) in
    let once = c.loop-row.invariant.once in
    let put = c.put_row.ensures.rows in
    let same = c.put_row.ensures.long in
    record {
      told = told_next _ _ _ _ _ told parts c.in-Some.row c.in-Some.ensures once fresh few _ put
          ∙ ap (λ o. with_rest (take (count + 1) c.put_row.new.rows) (later 0x2C (option_copied o)))
          c.in-Some-behind.is;
      once = once_next _ _ _ _ _ told parts c.in-Some.row c.in-Some.ensures once fresh few _ put;
      few = omega (arith, low);
      room = omega (arith, room, same);
    }
