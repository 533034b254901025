use Rattle.std.proofs.Common.{refl, sym, take}
use Rattle.line_splitting.specs.Lines.{but_last, ended_pieces, input_limit, is_too_long, pieces}
use Rattle.line_splitting.proofs.Turns.{begun_nothing}
use Rattle.line_splitting.proofs.laws.fresh_reader.Goals as goal

pub returns : goal.returns
returns c = λ input. (
  sym (begun_nothing (ended_pieces (is_too_long input) (take input_limit input))),
  refl,
  sym (begun_nothing (but_last (pieces input))),
)
