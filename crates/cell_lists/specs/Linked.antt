-- How links stand for lists.
use Rattle.std.specs.Prelude.{◌≡◌, ◌<◌, ◌==◌, ◌-◌, ◌^◌, ℕ, zero, suc, List, [], ◌∷◌, length, map, slice_index, slice_index_or, slice_set, if◌then◌else◌}
use Rattle.cell_lists.specs.Lists.{list_at, AreApart}
use Rattle.cell_lists.specs.declared.links.Head.{Head}

-- what stands behind a cell that comes to the front: the one that was first, or where there is none
-- itself
abbrev pub behind_first : Head → ℕ → ℕ
behind_first head cell = if head.count == 0 then cell else head.first

-- what stands behind the cell in front of one that goes: what stood behind that, or itself where it
-- is the last
abbrev pub behind_gone : (behind cell front : ℕ) → ℕ
behind_gone behind cell front = if behind == cell then front else behind

-- the links when a cell goes, and where its list begins then
abbrev pub next_without : Head → (next before : List ℕ) → ℕ → List ℕ
next_without head next before cell =
    if head.first == cell then next
    else slice_set next (slice_index before cell)
    (behind_gone (slice_index next cell) cell (slice_index before cell))

abbrev pub before_without : Head → (next before : List ℕ) → ℕ → List ℕ
before_without head next before cell =
    if head.first == cell then before
    else slice_set before (slice_index next cell) (slice_index before cell)

abbrev pub head_without : Head → (next : List ℕ) → ℕ → Head
head_without head next cell = record {
  first = if head.first == cell then slice_index next cell else head.first;
  count = head.count - 1;
}

-- so many cells from one on
abbrev pub along : (next : ℕ → ℕ) → ℕ → ℕ → List ℕ
along next zero c = []
along next (suc n) c = c ∷ along next n (next c)

abbrev pub list_from : (next : ℕ → ℕ) → Head → List ℕ
list_from next head = along next head.count head.first

-- a cell and those behind it, linked both ways; the last has itself behind it
abbrev pub IsChain : (next before : ℕ → ℕ) → ℕ → List ℕ → Type 0
IsChain next before c [] = next c ≡ c
IsChain next before c (d ∷ ds) = (next c ≡ d) × (before d ≡ c) × IsChain next before d ds

-- where the chain of these cells begins, and how long it is
abbrev pub IsHeadOf : (next before : ℕ → ℕ) → Head → List ℕ → Type 0
IsHeadOf next before head [] = head.count ≡ 0
IsHeadOf next before head (c ∷ cs) =
    (head.first ≡ c) × (head.count ≡ suc (length cs)) × IsChain next before c cs

abbrev pub no_head : Head
no_head = record { first = 0; count = 0 }

abbrev pub head_at : List Head → ℕ → Head
head_at heads owner = slice_index_or heads owner no_head

-- heads and links stand for these lists
pub record AreLinked (next before : ℕ → ℕ) (heads : List Head) (lists : List (List ℕ))
    : Type 0 where
  pub long : length lists ≡ length heads
  pub each : (owner : ℕ) → IsHeadOf next before (head_at heads owner) (list_at lists owner)

-- the lists for which heads stand
abbrev pub lists_in : List Head → List ℕ → List (List ℕ)
lists_in heads next = map (list_from (slice_index next)) heads

-- heads and links of so few cells that a count of them fits
pub record IsIntact (heads : List Head) (next before : List ℕ) : Type 0 where
  pub linked : AreLinked (slice_index next) (slice_index before) heads (lists_in heads next)
  pub apart : AreApart (lists_in heads next) (length next)
  pub long : length before ≡ length next
  pub few : length next < 2 ^ 32
