-- Whether one of a list has something, looked at one after another: of what is left as of all.
use Rattle.std.proofs.Common.{◌≡◌, ℕ, ◌+◌, ◌<◌, ◌≤◌, Bool, true, false, List, [], ◌∷◌, length, drop, ap}
use Rattle.std.proofs.Common.{◌∙◌, sym, subst, arith, Option, Some}
use Rattle.std.specs.Prelude.{slice_get, ◌||◌}
use Rattle.std.specs.List.{list_any}
use Rattle.std.specs.Option.{IfSome}
use Rattle.std.proofs.lemmas.List.{length-map}
use Rattle.config_edits.specs.RecordSetRecord.{RecordSet}
use Rattle.config_edits.proofs.Members.{filled, left_at, nothing_left}
use Rattle.config_edits.specs.Slotted.{Slotted, sets_of}

module _ {X : Type 0} (f : X → Bool) (xs : List X) (i : ℕ)
    (before : list_any f (drop i xs) ≡ list_any f xs) where
  first_left : (x : X) → slice_get xs i ≡ Some x
      → list_any f (drop i xs) ≡ (f x || list_any f (drop (i + 1) xs))
  first_left x at = ap (list_any f) (left_at xs i x at)

  pub this_one : (x : X) → slice_get xs i ≡ Some x → f x ≡ true → true ≡ list_any f xs
  this_one x at e =
      sym (ap (λ b. b || list_any f (drop (i + 1) xs)) e) ∙ (sym (first_left x at) ∙ before)

  pub not_this : (x : X) → slice_get xs i ≡ Some x → f x ≡ false
      → list_any f (drop (i + 1) xs) ≡ list_any f xs
  not_this x at e =
      sym (first_left x at ∙ ap (λ b. b || list_any f (drop (i + 1) xs)) e) ∙ before

  pub none_left : length xs ≤ i → false ≡ list_any f xs
  none_left le = sym (ap (list_any f) (nothing_left xs i le)) ∙ before

-- what is said of what is held
pub held_so : (P : RecordSet → Type 0) (held : Option RecordSet) (set : RecordSet)
    → held ≡ Some set → IfSome held P → P set
held_so P held set e said = subst (λ (h : Option RecordSet). IfSome h P) e said

-- as many sets as sets with slots
pub as_many : (placed : List Slotted) → length (sets_of placed) ≡ length placed
as_many placed = length-map placed (λ (p : Slotted). p.set)

pub set_at : (placed : List Slotted) (i : ℕ) → i < length placed
    → (set : RecordSet) × (slice_get (sets_of placed) i ≡ Some set)
set_at placed i lt =
    let size = as_many placed in filled (sets_of placed) i (omega (arith, lt, size))
