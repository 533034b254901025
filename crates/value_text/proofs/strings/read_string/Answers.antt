use Rattle.std.proofs.Common.{◌≡◌, ◌<◌, ◌+◌, length, take, drop, arith, ap, sym, ◌∙◌, length-set}
use Rattle.value_text.specs.Strings.{read_from}
use Rattle.value_text.specs.Strings.Progress.{Reading}
use Rattle.std.proofs.lemmas.List.{drop-set-lt, take_more_set, length-take-le}
use Rattle.value_text.proofs.Reading.{not_quoted, surplus, no_character, one_too_many, one_more}
use Rattle.value_text.proofs.Writing.{drop_on}
use Rattle.value_text.proofs.strings.read_string.Goals as goal

pub returns-then-field-ne34-clause-none : goal.returns-then-field-ne34-clause-none
returns-then-field-ne34-clause-none c =
    not_quoted c.args.field.now (sym c.is_empty.ensures ∙ c.if-is_empty.false) c.if-field-ne34.true

pub returns-then-at-field-clause-none : goal.returns-then-at-field-clause-none
returns-then-at-field-clause-none c =
    surplus c.args.field.now c.loop-at.at (take c.loop-at.len c.loop-at.into) (omega arith)
    c.loop-at.invariant.same c.if-field-at-eq34.true (omega arith)

pub returns-in_default-clause-none : goal.returns-in_default-clause-none
returns-in_default-clause-none c =
    no_character c.args.field.now c.loop-at.at (take c.loop-at.len c.loop-at.into)
    (omega arith) c.loop-at.invariant.same c.if-field-at-eq34.false c.in_default.ensures.exact

pub returns-then-len-eq255-clause-none : goal.returns-then-len-eq255-clause-none
returns-then-len-eq255-clause-none c =
    let i = c.loop-at.invariant in
    let size : length (take c.loop-at.len c.loop-at.into) ≡ c.loop-at.len =
    length-take-le c.loop-at.len c.loop-at.into (omega (arith, i.array, i.short)) in
    one_too_many c.args.field.now c.loop-at.at (take c.loop-at.len c.loop-at.into)
    (omega arith) i.same c.if-field-at-eq34.false c.in-Some.c c.in-Some.ensures.exact (omega (
      arith,
      size,
      c.if-len-eq255.true,
    ))

pub loop-at-preserved : goal.loop-at-preserved
loop-at-preserved c =
    let i = c.loop-at.invariant in
    let inside : c.loop-at.len < length c.loop-at.into = omega (arith, i.array, i.short) in
    record {
      within = omega (arith, c.in-Some.ensures.room);
      short = omega arith;
      passed = omega (arith, i.passed);
      array = length-set c.loop-at.into c.loop-at.len c.in-Some.c.value ∙ i.array;
      kept = drop-set-lt (c.loop-at.len + 1) c.loop-at.into c.loop-at.len c.in-Some.c.value
          (omega arith)
          ∙ drop_on c.loop-at.len (c.loop-at.len + 1) c.loop-at.into c.args.into.now (omega arith)
          i.kept;
      same =
          one_more c.args.field.now c.loop-at.at (take c.loop-at.len c.loop-at.into)
          (omega arith) i.same c.if-field-at-eq34.false c.in-Some.c c.in-Some.ensures.exact
          c.in-Some.ensures.room
          ∙ ap (λ t.
          read_from (Reading 0 t)
          (drop (c.loop-at.at + (c.in-Some.c.more + 1)) c.args.field.now))
          (sym (take_more_set c.loop-at.into c.loop-at.len c.in-Some.c.value inside));
    }
