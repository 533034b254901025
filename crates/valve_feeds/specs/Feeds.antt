-- Which valves feed which, as contracts see it.
use Rattle.std.specs.Prelude.{◌≡◌, ◌≤◌, ◌==◌, ◌+◌, ◌-◌, ℕ, List, [], ◌∷◌, Option, None, Some, length, slice_set, if◌then◌else◌}
use Rattle.std.specs.List.{Contains}
use Rattle.cell_lists.specs.Lists.{first_of, list_at, without}

-- the valves that each valve feeds, and those that feed each, once for each feed and the one that
-- came last in front; how many feeds more want no memory, how many in all, and how many valves more
pub record BothWays : Type 0 where
  pub fed : List (List ℕ)
  pub feeders : List (List ℕ)
  pub room : ℕ
  pub most : ℕ
  pub valves_room : ℕ

abbrev pub fed_by : BothWays → ℕ → List ℕ
fed_by feeds x = list_at feeds.fed x

abbrev pub feeders_of : BothWays → ℕ → List ℕ
feeders_of feeds y = list_at feeds.feeders y

-- x feeds y once more
abbrev pub with_feed : (x y : ℕ) → BothWays → BothWays
with_feed x y feeds = record feeds {
  fed = slice_set feeds.fed x (y ∷ fed_by feeds x);
  feeders = slice_set feeds.feeders y (x ∷ feeders_of feeds y);
  room = feeds.room - 1;
}

-- x feeds y once less
abbrev pub without_feed : (x y : ℕ) → BothWays → BothWays
without_feed x y feeds = record feeds {
  fed = slice_set feeds.fed x (without y (fed_by feeds x));
  feeders = slice_set feeds.feeders y (without x (feeders_of feeds y));
  room = feeds.room + 1;
}

-- what it answers and leaves to take the feed into a valve that came last
abbrev pub TakesInto : BothWays → ℕ → Option ℕ → BothWays → Type 0
TakesInto old y None new = (feeders_of old y ≡ []) × (new ≡ old)
TakesInto old y (Some x) new = (first_of (feeders_of old y) ≡ Some x) × (new ≡ without_feed x y old)

-- and the feed of a valve
abbrev pub TakesOut : BothWays → ℕ → Option ℕ → BothWays → Type 0
TakesOut old x None new = (fed_by old x ≡ []) × (new ≡ old)
TakesOut old x (Some y) new = (first_of (fed_by old x) ≡ Some y) × (new ≡ without_feed x y old)

-- how often a number stands in a list
abbrev pub times : ℕ → List ℕ → ℕ
times x [] = 0
times x (y ∷ ys) = if y == x then times x ys + 1 else times x ys

-- A valve is fed by another as often as that feeds it, and no valve has more feeds on a side than
-- `most` less `room`.
pub record AreReversed (feeds : BothWays) : Type 0 where
  pub size : length feeds.feeders ≡ length feeds.fed
  pub times : (x y : ℕ) → times y (fed_by feeds x) ≡ times x (feeders_of feeds y)
  pub few_fed : (x : ℕ) → length (fed_by feeds x) + feeds.room ≤ feeds.most
  pub few_feeders : (y : ℕ) → length (feeders_of feeds y) + feeds.room ≤ feeds.most

-- a list with a number taken out that it has
abbrev pub OneFewer : Type 0
OneFewer = (x y : ℕ) (xs : List ℕ) → Contains xs y
    → times x xs ≡ times x (without y xs) + (if y == x then 1 else 0)
