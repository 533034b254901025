use Rattle.std.proofs.Common.{◌≡◌, ◌+◌, ◌-◌, ◌/◌, ◌<◌, ◌++◌, ap, sym, ◌∙◌, subst, arith, take, drop, length, refl}
use Rattle.octet_region.specs.Cells.{link_at, number_at}
use Rattle.octet_region.specs.Chains.{octets_in}
use Rattle.octet_region.specs.Shape.{IsChain}
use Rattle.octet_region.proofs.Pieces.{chain_on, next_is, on_is, more_length, copy_step, copy_last}
use Rattle.octet_region.proofs.reads.copy_along.Goals as goal

pub next_of-cell-requires : goal.next_of-cell-requires
next_of-cell-requires c =
    let l = c.loop-from in
    let i = l.invariant in
    let cells = c.args.cells.now in
    let fits = i.fits in
    let near = i.near in
    let same : length l.into ≡ length c.put_at.new.buffer = omega (arith, c.put_at.auto.buffer) in
    on_is cells l.cell i.chain c.link_at.result c.link_at.ensures
    (omega (arith, fits, near, c.loop-from-test.true, same))

pub loop-from-preserved : goal.loop-from-preserved
loop-from-preserved c =
    let l = c.loop-from in
    let i = l.invariant in
    let cells = c.args.cells.now in
    let new = c.put_at.new.buffer in
    let far = c.loop-from-test.true in
    let fits = i.fits in
    let near = i.near in
    let same : length l.into ≡ length new = omega (arith, c.put_at.auto.buffer) in
    let raw = on_is cells l.cell i.chain c.link_at.result c.link_at.ensures
    (omega (arith, fits, near, far, same)) in
    let more : 32 < number_at cells l.cell = omega (arith, raw, ap (λ n. n / 2) c.link_at.ensures) in
    let next = next_is c.next_of-cell.result c.link_at.result (link_at cells l.cell) c.next_of-cell.ensures
    c.link_at.ensures in
    let so_far =
    ap (λ n. take l.at l.into ++ take (n - l.at) (drop l.from (octets_in cells l.cell))) (sym same)
    ∙ i.copied
    in
    record {
      chain = subst (λ d. IsChain cells d) (sym next) (chain_on cells l.cell i.chain more);
      near = omega arith;
      order = omega (arith, far, same);
      long = sym same ∙ i.long;
      fits =
          omega (
            arith,
            fits,
            far,
            same,
            more_length cells l.cell i.chain more,
            ap (λ d. length (octets_in cells d)) next,
          );
      copied = copy_step cells l.cell i.chain l.from c.next_of-cell.result
          (length new) l.at (l.at + (32 - l.from)) l.into new c.octets_at.result.now c.behind.result.now _
          more near (omega (arith, far, same)) c.octets_at.ensures.value c.behind.ensures next refl
          c.put_at.ensures.written so_far;
    }

pub returns : goal.returns
returns c =
    let l = c.loop-from in
    let i = l.invariant in
    let cells = c.args.cells.now in
    let new = c.put_at-2.new.buffer in
    let few = c.loop-from-test.false in
    let same : length new ≡ length l.into = omega (arith, c.put_at-2.auto.buffer) in
    copy_last cells l.cell i.chain l.from (length l.into) l.at l.into new
    c.octets_at-2.result.now c.behind-2.result.now c.front.result.now _
    few i.near i.order i.fits same c.octets_at-2.ensures.value
    c.behind-2.ensures c.front.ensures c.put_at-2.ensures.written i.copied
