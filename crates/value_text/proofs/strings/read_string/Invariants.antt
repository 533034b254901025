use Rattle.std.proofs.Common.{◌≡◌, ℕ, ◌+◌, ◌-◌, ◌≤◌, List, length, take, drop}
use Rattle.value_text.specs.Strings.{read_from}
use Rattle.value_text.specs.Strings.Progress.{Opening, Reading}
use Rattle.value_text.proofs.strings.read_string.Given as goal

-- The field read from this place on is the whole field read from its start.
pub record IsRead (field : List ℕ) (at len : ℕ) (before into : List ℕ) : Type 0 where
  pub within : at ≤ length field
  pub short : len ≤ 255
  pub passed : len + 1 ≤ at
  pub array : length into ≡ 255
  pub kept : drop len into ≡ drop len before
  pub same : read_from Opening field ≡ read_from (Reading 0 (take len into)) (drop at field)

abbrev pub invariant-loop-at : goal.invariant-loop-at
invariant-loop-at l = IsRead l.field l.at l.len l.fn.into l.into

abbrev pub decreases-loop-at : goal.decreases-loop-at
decreases-loop-at l = length l.field - l.at
