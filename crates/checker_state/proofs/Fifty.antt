-- Lists of fifty, an element for each checker's number.
use Rattle.std.proofs.Common.{◌≡◌, ◌≢◌, ◌≤◌, ◌<◌, ◌+◌, cond, ◌∙◌, ℕ, Bool, List, length, get_or, set, map, arith, sym, inl, inr, length-set, get_or-set_same, get_or-set_other}
use Rattle.std.proofs.lemmas.Bool.{cases_eq}
use Rattle.std.proofs.lemmas.List.FromFn.{get_or-map-range_with_len, length-map-range_with_len, fill_by_all}
use Rattle.std.proofs.lemmas.List.Folds.{fold-map}
use Rattle.std.proofs.lemmas.List.Sums.{count_by-le-length, sum_by-set}
use Rattle.std.specs.List.{count_by}
use Rattle.checker_state.specs.Standing.{numbers}

module _ {X : Type 0} where
  -- the element of a number
  pub at_number : (f : ℕ → X) (i : ℕ) (d : X) → i < 50 → get_or (map f numbers) i d ≡ f i
  unfolding numbers
  at_number f i d h = get_or-map-range_with_len f 0 50 i i d h (omega arith)

  -- one element is written
  pub one_written : (f g : ℕ → X) (i : ℕ) (x : X) → i < 50 → x ≡ g i → ((k : ℕ) → k ≢ i → g k ≡ f k)
      → set (map f numbers) i x ≡ map g numbers
  unfolding numbers
  one_written f g i x h now others =
      fill_by_all g (set (map f numbers) i x) 50 x (length-set (map f numbers) i x
      ∙ length-map-range_with_len f 0 50) each where
        each : (k : ℕ) → k < 50 → get_or (set (map f numbers) i x) k x ≡ g k
        each k b = elim (cases_eq k i) [
          | inl e ↦
              rw e (get_or-set_same (map f numbers) i x x
              (omega (arith, length-map-range_with_len f 0 50)) ∙ now)
          | inr ne ↦ get_or-set_other (map f numbers) i k x x ne
              ∙ (at_number f k x b ∙ sym (others k ne))
        ]

  -- lists whose elements agree
  pub same_fifty : (f g : ℕ → X) → ((k : ℕ) → k < 50 → f k ≡ g k) → map f numbers ≡ map g numbers
  unfolding numbers
  same_fifty f g same =
      fill_by_all g (map f numbers) 50 (f 0) (length-map-range_with_len f 0 50)
      (λ k b. at_number f k (f 0) b ∙ same k b)

  -- how many elements pass a test
  pub count_by-map : {Y : Type 0} (p : Y → Bool) (f : X → Y) (xs : List X)
      → count_by p (map f xs) ≡ count_by (λ x. p (f x)) xs
  count_by-map p f xs = fold-map (λ a y. a + cond (p y) 1 0) f 0 xs

  -- how many elements pass a test, where one is another
  pub count_by-set : (p : X → Bool) (xs : List X) (i : ℕ) (x d : X) → i < length xs
      → count_by p (set xs i x) + cond (p (get_or xs i d)) 1 0 ≡ count_by p xs + cond (p x) 1 0
  count_by-set p xs i x d h = sum_by-set (λ y. cond (p y) 1 0) xs i x d h

  -- the count goes on from element to element
  pub counted_on : (p : X → Bool) (xs : List X) (i : ℕ) (x d : X) (before after : ℕ) → i < length xs
      → before ≡ count_by p xs → after + cond (p (get_or xs i d)) 1 0 ≡ before + cond (p x) 1 0
      → after ≡ count_by p (set xs i x)
  counted_on p xs i x d before after h was now = let s = count_by-set p xs i x d h in omega arith

  -- no more than there are
  pub counted_few : (p : X → Bool) (xs : List X) (many counted : ℕ) → length xs ≡ many
      → counted ≡ count_by p xs → counted ≤ many
  counted_few p xs many counted long is = let few = count_by-le-length p xs in omega arith
