use Rattle.std.proofs.Common.{◌≡◌, ◌-◌, length}
use Rattle.rdata.specs.Steps.{PassesStrings}
use Rattle.rdata.proofs.reading.read_strings.Given as goal

abbrev pub invariant-loop-field : goal.invariant-loop-field
invariant-loop-field l = record {
  passes : PassesStrings l.text l.at l.place l.fn.into.items l.into.items;
  array : length l.string ≡ 255;
}

abbrev pub decreases-loop-field : goal.decreases-loop-field
decreases-loop-field l = length l.text - l.place
