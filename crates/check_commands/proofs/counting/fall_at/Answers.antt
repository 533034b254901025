use Rattle.std.proofs.Common.{◌≡◌, ◌+◌, ◌-◌, ◌∙◌, ap, subst, sym, arith, List}
use Rattle.std.specs.Prelude.{◌==◌}
use Rattle.std.specs.List.{swap_remove}
use Rattle.std.proofs.lemmas.Option.{slice_get_within}
use Rattle.check_commands.specs.Counts.{counted, one_if}
use Rattle.check_commands.proofs.Sums.{left, lowered, read_at}
use Rattle.check_commands.specs.declared.counting.CheckUse.{CheckUse}
use Rattle.check_commands.proofs.counting.fall_at.Goals as goal

pub returns-then-one-eq1 : goal.returns-then-one-eq1
returns-then-one-eq1 c = record {
  less = λ other.
      let p = c.requires.place in
      let uses = c.args.uses.now.items in
      let read = ap (λ (u : CheckUse). u.count)
      (read_at uses c.args.place p.0 c.index-one.result.now p.1 c.index-one.ensures) in
      let gone = read_at uses c.args.place p.0 c.swap_remove.result p.1 c.swap_remove.ensures.value in
      let one = c.if-one-eq1.true in
      subst (λ (l : List CheckUse). counted other l + one_if (c.args.check == other)
      ≡ counted other uses)
      (sym (c.swap_remove.ensures.items
      ∙ ap (λ (u : CheckUse). swap_remove uses c.args.place u) gone))
      (left uses c.args.place c.args.check p.0 p.1 p.2 (omega (arith, one, read)) other);
}

pub overflow_sub-one : goal.overflow_sub-one
overflow_sub-one c =
    let p = c.requires.place in
    let uses = c.args.uses.now.items in
    let read = ap (λ (u : CheckUse). u.count)
    (read_at uses c.args.place p.0 c.index-one.result.now p.1 c.index-one.ensures) in
    let some = p.3 in
    omega (arith, read, some)

pub index_mut-requires : goal.index_mut-requires
index_mut-requires c =
    let p = c.requires.place in
    let within = slice_get_within c.args.uses.now.items c.args.place p.0 p.1 in
    let len = c.args.uses.now.ok.0 in
    omega (arith, within, len)

pub returns : goal.returns
returns c = record {
  less = λ other.
      let p = c.requires.place in
      let uses = c.args.uses.now.items in
      let read = ap (λ (u : CheckUse). u.count)
      (read_at uses c.args.place p.0 c.index-one.result.now p.1 c.index-one.ensures) in
      let some = p.3 in
      lowered uses c.args.place c.args.check p.0 p.1 p.2 (c.index-one.result.now.count - 1)
      (omega (arith, read, some)) other;
}
