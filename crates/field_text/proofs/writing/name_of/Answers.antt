use Rattle.std.proofs.Common.{length, arith, ap, sym, ◌∙◌}
use Rattle.rdata_layout.specs.Written.{text_of}
use Rattle.field_text.proofs.Names.{begins, its_labels, text_size}
use Rattle.field_text.proofs.writing.name_of.Goals as goal

pub unreachable-requires : goal.unreachable-requires
unreachable-requires c = c.in-None.ensures.none c.requires.0 _ (begins c.args.octets.now c.requires)

pub returns-clause-same : goal.returns-clause-same
returns-clause-same c =
    sym (c.in-Some.ensures.only c.requires.0 _ (begins c.args.octets.now c.requires)).0
    ∙ sym (its_labels c.args.octets.now c.requires)

pub returns-clause-short : goal.returns-clause-short
returns-clause-short c =
    let same = (c.in-Some.ensures.only c.requires.0 _ (begins c.args.octets.now c.requires)).0 in
    omega (
      arith,
      ap (λ labels. length (text_of labels)) same,
      text_size c.requires.0,
      ap length c.requires.2,
    )
