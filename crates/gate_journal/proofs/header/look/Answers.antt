use Rattle.std.proofs.Common.{◌∙◌, sym, rules, arith}
use Rattle.gate_journal.proofs.Bytes.{told_open, told_not, told_number}
use Rattle.gate_journal.proofs.Reading.{generation_is}
use Rattle.gate_journal.proofs.header.look.Goals as goal

pub returns-then-is_open-clause-tells : goal.returns-then-is_open-clause-tells
returns-then-is_open-clause-tells g c =
    λ bytes told.
    let is = c.in-Whole.ensures.bytes bytes (c.size.ensures.rests.reads ∙ told) in
    let spelled = c.generation_in.ensures ∙ told_number bytes _ is c.read_at.auto.into in (
      told_open bytes _ (omega (arith, c.if-size-lt20.false, c.in-Bytes.ensures.size bytes told)) is
          c.read_at.auto.into (search rules),
      sym (generation_is bytes c.generation_in.result (omega (arith, c.generation_in.type_inv))
          spelled),
      spelled,
    )

pub returns-else-is_open-clause-tells : goal.returns-else-is_open-clause-tells
returns-else-is_open-clause-tells g c =
    λ bytes told o.
    let is = c.in-Whole.ensures.bytes bytes (c.size.ensures.rests.reads ∙ told) in
    let here = told_not bytes _ is c.read_at.auto.into o in
    let never = c.if-is_open.ensures.1 here in
    Prim.cc
