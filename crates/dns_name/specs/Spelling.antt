-- A name in the making.
use Rattle.std.specs.Prelude.{◌≡◌, ℕ, ◌+◌, ◌<◌, ◌≤◌, List, ◌++◌, length, take, drop}
use Rattle.std.specs.List.{flat_map, AllByRecursion}
use Rattle.dns_name.specs.Labels.{frame, IsRawLabel}
use Rattle.dns_name.specs.Text.{read_from}
use Rattle.dns_name.specs.Text.Progress.{Reading}

-- The octets before `start` are whole labels; behind the octet there, up to `end`, stands a part
-- of the next label.
pub record SpellsSoFar (bytes : List ℕ) (start end : ℕ) (done : List (List ℕ))
    (label : List ℕ) : Type 0 where
  pub each : AllByRecursion IsRawLabel done
  pub labels : take start bytes ≡ flat_map frame done
  pub part : take end bytes ≡ take (start + 1) bytes ++ label
  pub size : end ≡ start + (length label + 1)
  pub short : length label ≤ 63
  pub room : start ≤ 254
  pub part_room : 0 < length label → end ≤ 254
  pub array : length bytes ≡ 255

-- A text is read from one place to a later one.
pub record Advances (text : List ℕ) (done : List (List ℕ)) (label : List ℕ) (at n : ℕ)
    (bytes : List ℕ) (start end : ℕ) : Type 0 where
  pub more_done : List (List ℕ)
  pub more_label : List ℕ
  pub spells : SpellsSoFar bytes start end more_done more_label
  pub some : 0 < n
  pub within : at + n ≤ length text
  pub same :
      read_from (Reading 0 done label) at (drop at text)
      ≡ read_from (Reading 0 more_done more_label) (at + n) (drop (at + n) text)
