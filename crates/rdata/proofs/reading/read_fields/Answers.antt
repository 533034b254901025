use Rattle.std.proofs.Common.{◌++◌, length, take, arith, rules, ap, ◌∙◌, sym, length-append, length-take, subst}
use Rattle.field_text.specs.FieldRecord.TheVariants.{Ipv4}
use Rattle.rdata.specs.Steps.{ReadsUpTo}
use Rattle.rdata.proofs.Progress.{passes, meets_other, meets_none, drop_all}
use Rattle.rdata.proofs.reading.read_fields.Goals as goal

pub returns-in_default-clause-err : goal.returns-in_default-clause-err
returns-in_default-clause-err c =
    meets_none c.args.text.now c.args.kinds.now c.loop-kind.kind-index c.loop-kind.at Ipv4 _
    c.loop-kind-test.true
    (sym c.in_default.ensures.exact) c.loop-kind.invariant.passes

pub returns-in_default-read_field-clause-err : goal.returns-in_default-read_field-clause-err
returns-in_default-read_field-clause-err c =
    meets_other c.args.text.now c.args.kinds.now c.loop-kind.kind-index c.loop-kind.at Ipv4 _ _
    c.in-Some.field c.loop-kind-test.true
    (sym c.in-Some.ensures.exact) c.part-bytes.ensures c.in_default-read_field.ensures.none
    c.loop-kind.invariant.passes

pub loop-kind-preserved : goal.loop-kind-preserved
loop-kind-preserved c =
    let i = c.loop-kind.invariant in
    let s = c.in-Some-read_field.ensures in
    let whole = c.in_ok-extend_from_slice.ensures.items
    ∙ ap (λ t. c.loop-kind.into.items ++ t) c.front.ensures in
    record {
      within = c.in-Some.ensures.within;
      size = omega (
        arith,
        i.size,
        s.fits,
        ap length whole,
        length-append c.loop-kind.into.items
            (take c.in-Some-read_field.len c.read_field.new.into),
        length-take c.in-Some-read_field.len c.read_field.new.into,
      );
      array = search rules;
      passes = passes c.args.text.now c.args.kinds.now c.loop-kind.kind-index c.loop-kind.at Ipv4 _
          _ _ _ c.in-Some.field c.loop-kind-test.true
          (sym c.in-Some.ensures.exact) c.part-bytes.ensures s.some whole i.passes;
    }

pub returns-clause-ok : goal.returns-clause-ok
returns-clause-ok c =
    subst (λ ks. ReadsUpTo c.args.text.now c.args.kinds.now ks c.loop-kind.at c.loop-kind.into.items)
    (drop_all c.args.kinds.now c.loop-kind.kind-index c.loop-kind-test.false)
    c.loop-kind.invariant.passes
