use Rattle.std.proofs.Common.{◌∙◌, ap, sym, take, ◌++◌}
use Rattle.dns_wire.specs.Pointers.{pointer_to}
use Rattle.dns_wire.proofs.Names.{is_pointed, is_whole, keeps_label}
use Rattle.dns_wire.proofs.Pieces.{two_pieces}
use Rattle.dns_wire.proofs.pointers.add_octets.Goals as goal

pub loop-from-preserved : goal.loop-from-preserved
loop-from-preserved c = record {
  kept = keeps_label c.args.asked.now c.args.octets.now _ c.loop-from.from c.behind.ensures
      c.in_default.ensures.first c.loop-from-test.true c.loop-from.invariant.kept;
  untouched = c.loop-from.invariant.untouched;
}

pub returns-in-Some-clause-written : goal.returns-in-Some-clause-written
returns-in-Some-clause-written c =
    let p = is_pointed c.args.asked.now c.args.octets.now _ c.loop-from.from c.in-Some.place
    c.behind.ensures c.in-Some.ensures.first c.loop-from-test.true c.loop-from.invariant.kept in
    let first = c.append-end.ensures.written
    ∙ ap (λ b. take c.args.at b ++ c.front.result.now) c.loop-from.invariant.untouched in
    let whole = p.same ∙ ap (λ t. t ++ pointer_to c.in-Some.place) (sym c.front.ensures)
    ∙ ap (λ t. c.front.result.now ++ t) (sym c.pointer.ensures) in
    two_pieces _ _ _ _ _ _ first c.append.ensures.written whole

pub returns-clause-written : goal.returns-clause-written
returns-clause-written c =
    c.append-2.ensures.written
    ∙ ap (λ b. take c.args.at b ++ c.args.octets.now) c.loop-from.invariant.untouched
    ∙ ap (λ t. take c.args.at c.args.buffer.now
    ++ t) (sym
    (is_whole c.args.asked.now c.args.octets.now c.loop-from.from c.loop-from-test.false
    c.loop-from.invariant.kept))
