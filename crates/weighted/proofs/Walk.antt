-- One step along the line, a set further.
use Rattle.std.proofs.Common.{◌≡◌, ◌<◌, ◌≤◌, ◌+◌, ◌-◌, ℕ, Bool, false, List, ◌++◌, length, get_or}
use Rattle.std.proofs.Common.{drop}
use Rattle.std.proofs.Common.{replicate, arith, ap, sym, ◌∙◌, length-append}
use Rattle.std.proofs.lemmas.List.{at_drop_more, at_drop_all, length-replicate, get_or_append_left}
use Rattle.std.proofs.lemmas.List.{get_or-append_right, get_or-replicate}
use Rattle.weighted.specs.Line.{stretch_of, rest_of_line}
use Rattle.weighted.specs.declared.choice.StretchRule.{StretchRule}

-- the line from a set on
abbrev pub rest : StretchRule → List ℕ → List Bool → ℕ → List ℕ
rest rule weights healthy i = rest_of_line rule weights i (drop i healthy)

module _ (rule : StretchRule) (weights : List ℕ) (healthy : List Bool) (i : ℕ) where
  -- nothing is left behind the last set
  pub step_end : length healthy ≤ i → length (rest rule weights healthy i) ≡ 0
  step_end past = ap length (at_drop_all (rest_of_line rule weights i) healthy i past)

  module _ (stretch : ℕ) (h : i < length healthy) (is : stretch
      ≡ stretch_of rule (get_or weights i 0) (get_or healthy i false)) where
    step : rest rule weights healthy i ≡ replicate stretch i ++ rest rule weights healthy (i + 1)
    step = at_drop_more (rest_of_line rule weights i) healthy i false h
        ∙ ap (λ n. replicate n i ++ rest rule weights healthy (i + 1)) (sym is)

    -- the lengths
    pub step_length : length (rest rule weights healthy i)
        ≡ stretch + length (rest rule weights healthy (i + 1))
    step_length =
        rw step (omega (
          arith,
          length-append (replicate stretch i) (rest rule weights healthy (i + 1)),
          length-replicate stretch i,
        ))

    -- a point within the stretch
    pub point_here : (point : ℕ) → point < stretch
        → get_or (rest rule weights healthy i) point 0 ≡ i
    point_here point lt =
        rw step (get_or_append_left (replicate stretch i) _ 0 point
        (omega (arith, length-replicate stretch i))
        ∙ get_or-replicate stretch point i 0 lt)

    -- a point behind it
    pub point_behind : (point : ℕ) → stretch ≤ point
        → get_or (rest rule weights healthy i) point 0
        ≡ get_or (rest rule weights healthy (i + 1)) (point - stretch) 0
    point_behind point le =
        rw step (get_or-append_right (replicate stretch i) _ stretch point 0
        (length-replicate stretch i) le)
