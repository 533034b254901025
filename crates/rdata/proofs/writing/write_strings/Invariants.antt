use Rattle.std.proofs.Common.{◌≡◌, ℕ, ◌+◌, ◌-◌, ◌*◌, ◌≤◌, List, length, take, drop, map}
use Rattle.field_text.specs.Strings.{string_text}
use Rattle.field_text.specs.Layout.{AreStrings}
use Rattle.rdata.specs.Written.{strings_of, joined_from}
use Rattle.rdata.proofs.writing.write_strings.Given as goal

-- The strings before a place are written, and those behind it are left.
pub record AreWritten (octets before old into : List ℕ) (at place end : ℕ) : Type 0 where
  pub within : place ≤ length octets
  pub strings : AreStrings (drop place octets)
  pub written : joined_from (take end into) (map string_text (strings_of (drop place octets)))
      ≡ joined_from before (map string_text (strings_of octets))
  pub kept : drop end into ≡ drop end old
  pub later : at ≤ end
  pub room : end ≤ at + 4 * place
  pub size : length into ≡ length old

abbrev pub invariant-loop-place : goal.invariant-loop-place
invariant-loop-place l =
    AreWritten l.octets (take l.at l.fn.into) l.fn.into l.into l.at l.place l.end

abbrev pub decreases-loop-place : goal.decreases-loop-place
decreases-loop-place l = length l.octets - l.place
