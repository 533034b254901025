-- How a checker's results make its view (Route 53 Developer Guide, "How Amazon Route 53 determines whether a health
-- check is healthy"). Results stand newest first: true is a pass.
use Rattle.std.specs.Prelude.{◌≡◌, ◌<◌, ℕ, Bool, true, not, List, [], ◌∷◌, take, drop, replicate, nat_le, if◌then◌else◌, ◌⊎◌}
use Rattle.std.specs.List.{prefix_len}

-- whether two results are equal
abbrev pub same : Bool → Bool → Bool
same a b = if a then b else not b

-- how often a result came in a row up to now
abbrev pub run_of : Bool → List Bool → ℕ
run_of r results = prefix_len (same r) results

-- The view: the result of the last place at which n equal ones in a row end, and pass where there is no such place.
abbrev pub view_of : (n : ℕ) → List Bool → Bool
view_of n [] = true
view_of n (r ∷ before) = if nat_le n (run_of r (r ∷ before)) then r else view_of n before

-- n results r in a row end at this place: it and the n - 1 before it in time, which stand behind it.
abbrev pub EndsRun : (n : ℕ) → Bool → List Bool → (place : ℕ) → Type 0
EndsRun n r results place = take n (drop place results) ≡ replicate n r

-- the last such place: no row of n, of passes or of fails, ends at a newer one
pub record IsLastRow (n : ℕ) (r : Bool) (results : List Bool) (place : ℕ) : Type 0 where
  pub ends : EndsRun n r results place
  pub none_newer : (newer : ℕ) (other : Bool) → newer < place → ¬ EndsRun n other results newer

-- what it is to be the view, said place by place
abbrev pub IsView : (n : ℕ) → List Bool → Bool → Type 0
IsView n results view = ((place : ℕ) × IsLastRow n view results place)
    ⊎ (((place : ℕ) (r : Bool) → ¬ EndsRun n r results place) × (view ≡ true))
