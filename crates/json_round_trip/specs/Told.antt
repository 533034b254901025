-- Values as replies have them: no number but a count of 64 bits, and the names of an object rise.
use Rattle.std.specs.Prelude.{◌≡◌, ℕ, ◌^◌, ◌<◌, List, ⊤}
use Rattle.std.specs.Cmp.Lexicographic.{slice_cmp}
use Rattle.std.specs.Ordering.{nat_cmp}
use Rattle.std.specs.declared.cmp.Ordering.TheVariants.{Greater}
use Rattle.serde_json.specs.Data.{Data, Items, Members, Num, array, boolean, float, item, member}
use Rattle.serde_json.specs.Data.{negative, no_items, no_members, null, number, object, string}
use Rattle.serde_json.specs.Data.{unsigned}

abbrev pub Is64Bits : Num → Type 0
Is64Bits (unsigned n) = n < 2 ^ 64
Is64Bits (negative z) = ⊥
Is64Bits (float x) = ⊥

-- the name comes behind those of all these members
abbrev pub IsBehind : (name : List ℕ) → Members → Type 0
IsBehind name no_members = ⊤
IsBehind name (member other d rest) = (slice_cmp nat_cmp name other ≡ Greater) × IsBehind name rest

-- members, and a member behind them
abbrev pub with_last : (name : List ℕ) → Data → Members → Members
with_last name d no_members = member name d no_members
with_last name d (member other e rest) = member other e (with_last name d rest)

-- each name comes behind all names before it, also those of the members that are before all
abbrev pub Rise : (before : Members) → Members → Type 0
Rise before no_members = ⊤
Rise before (member name d rest) = IsBehind name before × Rise (with_last name d before) rest

abbrev mutual
  pub IsTold : Data → Type 0
  IsTold null = ⊤
  IsTold (boolean b) = ⊤
  IsTold (number n) = Is64Bits n
  IsTold (string s) = ⊤
  IsTold (array ds) = AreTold ds
  IsTold (object ms) = HaveTold ms × Rise no_members ms

  pub AreTold : Items → Type 0
  AreTold no_items = ⊤
  AreTold (item d ds) = IsTold d × AreTold ds

  pub HaveTold : Members → Type 0
  HaveTold no_members = ⊤
  HaveTold (member name d ms) = IsTold d × HaveTold ms
