use Rattle.std.proofs.Common.{◌≡◌, ◌+◌, ◌*◌, ◌≤◌, ◌++◌, length, take}
use Rattle.r53_gen.specs.Lines.{listed, word}
use Rattle.r53_gen.proofs.queries.put_words.Given as goal

abbrev pub invariant-loop-i : goal.invariant-loop-i
invariant-loop-i l = record {
  text : take l.at l.into ≡ take l.fn.at l.fn.into ++ listed (word l.fn.j) l.i;
  end : l.at ≡ l.fn.at + length (listed (word l.fn.j) l.i);
  within : l.at ≤ l.fn.at + l.i * 11;
  room : length l.into ≡ length l.fn.into;
}
