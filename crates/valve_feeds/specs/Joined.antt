-- How cells stand for feeds.
use Rattle.std.specs.Prelude.{◌≡◌, ◌<◌, ◌==◌, ◌+◌, ◌-◌, ◌^◌, ℕ, List, [], ◌∷◌, All, length, map, min, slice_index_or, vec_capacity}
use Rattle.std.specs.List.{Contains, filter}
use Rattle.std.specs.declared.vec.Vec.{Vec}
use Rattle.cell_lists.specs.Lists.{Lists, IsFree, list_at}
use Rattle.valve_feeds.specs.Feeds.{BothWays}
use Rattle.valve_feeds.specs.declared.joining.Ends.{Ends}

abbrev pub no_ends : Ends
no_ends = record { feeder = 0; fed = 0 }

abbrev pub ends_at : List Ends → ℕ → Ends
ends_at ends cell = slice_index_or ends cell no_ends

-- the valves that are fed in these cells
abbrev pub fed_in : List Ends → List ℕ → List ℕ
fed_in ends cells = map (λ c. (ends_at ends c).fed) cells

-- the valves that feed in these cells
abbrev pub feeders_in : List Ends → List ℕ → List ℕ
feeders_in ends cells = map (λ c. (ends_at ends c).feeder) cells

-- those of these cells in which a valve is fed
abbrev pub those_to : List Ends → ℕ → List ℕ → List ℕ
those_to ends y cells = filter (λ c. (ends_at ends c).fed == y) cells

-- those in which a valve feeds
abbrev pub those_from : List Ends → ℕ → List ℕ → List ℕ
those_from ends x cells = filter (λ c. (ends_at ends c).feeder == x) cells

-- the lists of the valves: all but the first, which has the cells that are no feeds
abbrev pub of_valves : List (List ℕ) → List (List ℕ)
of_valves [] = []
of_valves (free ∷ lists) = lists

-- Each cell in the list of a feeder is in that of what it feeds, and the other way round; between two
-- valves in one order.
pub record IsJoined (ends : List Ends) (out into : Lists) : Type 0 where
  pub out_cells : out.cells ≡ length ends
  pub into_cells : into.cells ≡ length ends
  pub owners : length (of_valves out.lists) ≡ length into.lists
  pub few : length into.lists < 2 ^ 32
  pub both : (x y : ℕ) → those_to ends y (list_at (of_valves out.lists) x)
      ≡ those_from ends x (list_at into.lists y)
  pub free : (cell : ℕ) → Contains (list_at out.lists 0) cell → IsFree into.lists cell

-- how many cells more want no memory
abbrev pub more_in : {Z : Type 0} → Vec Ends Z → Lists → Lists → ℕ
more_in ends out into =
    min (min out.cells_room into.cells_room) (vec_capacity ends - length ends.items)

-- the feeds, as both of their valves see them
abbrev pub both_ways : {Z : Type 0} → Vec Ends Z → Lists → Lists → BothWays
both_ways ends out into = record {
  fed = map (fed_in ends.items) (of_valves out.lists);
  feeders = map (feeders_in ends.items) into.lists;
  room = length (list_at out.lists 0) + more_in ends out into;
  most = length ends.items + more_in ends out into;
  valves_room = min (min into.owners_room (out.owners_room - (1 - length out.lists)))
      (2 ^ 32 - 1 - length into.lists);
}

-- A cell that is in no list, when one was taken from the free ones or made.
pub record HasCell {Z W : Type 0} (ends : Vec Ends Z) (ends' : Vec Ends W)
    (out out' into into' : Lists) (cell : ℕ) : Type 0 where
  pub joined : IsJoined ends'.items out' into'
  pub within : cell < length ends'.items
  pub out_free : IsFree out'.lists cell
  pub into_free : IsFree into'.lists cell
  pub same_ends : (c : ℕ) → ends_at ends'.items c ≡ ends_at ends.items c
  pub same_valves : of_valves out'.lists ≡ of_valves out.lists
  pub same_into : into'.lists ≡ into.lists
  pub long : length out'.lists ≡ length out.lists
  pub room : length (list_at out'.lists 0) + more_in ends' out' into' + 1
      ≡ length (list_at out.lists 0) + more_in ends out into
  pub most : length ends'.items + more_in ends' out' into'
      ≡ length ends.items + more_in ends out into
  pub out_room : out'.owners_room ≡ out.owners_room
  pub into_room : into'.owners_room ≡ into.owners_room

-- each of these cells is there
abbrev pub AreWithin : List Ends → List ℕ → Type 0
AreWithin ends cells = All (λ c. c < length ends) cells
