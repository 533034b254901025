use Rattle.std.proofs.Common.{◌∙◌, sym, arith}
use Rattle.zone_journal.proofs.start.choose.Goals as goal

pub returns-in-Open-look-clause-tells : goal.returns-in-Open-look-clause-tells
returns-in-Open-look-clause-tells g c = record {
  is_open = λ x told. let tells =
      c.in-Open-look.ensures.tells x (sym c.look-in-NotOpen.ensures.rests.reads ∙ told) in
      (tells.0, sym tells.1);
  yields = λ y told o. absurd (c.in-NotOpen.ensures.tells y (sym c.look.ensures.rests.reads
      ∙ told) o);
}

pub returns-in-NotOpen-look-2-clause-tells : goal.returns-in-NotOpen-look-2-clause-tells
returns-in-NotOpen-look-2-clause-tells g c = record {
  is_open = λ x told. let tells =
      c.in-Open.ensures.tells x (sym c.look.ensures.rests.reads ∙ told) in (tells.0, sym tells.1);
  yields = λ y told o.
      absurd (c.in-NotOpen-look-2.ensures.tells y (sym c.look-in-Open.ensures.rests.reads
      ∙ told) o);
}

pub returns-then-first-second-clause-tells : goal.returns-then-first-second-clause-tells
returns-then-first-second-clause-tells g c = record {
  is_open = λ x told. let tells =
      c.in-Open-look-2.ensures.tells x (sym c.look-in-Open.ensures.rests.reads ∙ told) in
      (tells.0, sym tells.1);
  yields = λ y told o. omega (
    arith,
    (c.in-Open.ensures.tells y (sym c.look.ensures.rests.reads ∙ told)).1,
    c.if-first-second.true,
  );
}

pub returns-else-first-second-clause-tells : goal.returns-else-first-second-clause-tells
returns-else-first-second-clause-tells g c = record {
  is_open = λ x told. let tells =
      c.in-Open.ensures.tells x (sym c.look.ensures.rests.reads ∙ told) in (tells.0, sym tells.1);
  yields = λ y told o. omega (
    arith,
    (c.in-Open-look-2.ensures.tells y (sym c.look-in-Open.ensures.rests.reads ∙ told)).1,
    c.if-first-second.false,
  );
}
