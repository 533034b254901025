use Rattle.std.proofs.Common.{◌≡◌, ℕ, ◌-◌, ◌≤◌, List, [], length, drop}
use Rattle.dns_name.specs.Spelling.{SpellsSoFar}
use Rattle.dns_name.specs.Text.{read_from}
use Rattle.dns_name.specs.Text.Progress.{Reading}
use Rattle.dns_name.proofs.name.Name.from_text.Given as goal

-- The text read from this place on is the whole text read from its start.
pub record IsRead (text : List ℕ) (at : ℕ) (bytes : List ℕ) (start end : ℕ) : Type 0 where
  pub within : at ≤ length text
  pub done : List (List ℕ)
  pub label : List ℕ
  pub spells : SpellsSoFar bytes start end done label
  pub same : read_from (Reading 0 [] []) 0 text ≡ read_from (Reading 0 done label) at (drop at text)

abbrev pub invariant-loop-at : goal.invariant-loop-at
invariant-loop-at l = IsRead l.text l.at l.spelling.bytes l.spelling.start l.spelling.end

abbrev pub decreases-loop-at : goal.decreases-loop-at
decreases-loop-at l = length l.text - l.at
