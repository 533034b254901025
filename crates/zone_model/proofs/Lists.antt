-- Lists with an element put in or taken away.
use Rattle.std.proofs.Common.{◌≡◌, ◌≢◌, ℕ, zero, suc, ◌+◌, ◌≤◌, List, [], ◌∷◌, ◌++◌, length, take, drop, map, ap, ◌∙◌, sym, refl, Option, Some, subst, arith, inl, inr}
use Rattle.std.specs.Prelude.{slice_get, unwrap_or}
use Rattle.std.specs.List.{AllByRecursion, insert, remove, take-map}
use Rattle.std.proofs.lemmas.List.{map-append, take-append-drop}
use Rattle.zone_model.specs.Zones.{IsAmong}

module _ {X : Type 0} (P : X → Type 0) where
  pub all_put : (front back : List X) (x : X) → AllByRecursion P (front ++ back) → P x
      → AllByRecursion P (front ++ x ∷ back)
  all_put [] back x all p = (p, all)
  all_put (y ∷ front) back x all p = (all.0, all_put front back x all.1 p)

  pub all_taken : (front back : List X) (x : X) → AllByRecursion P (front ++ x ∷ back)
      → AllByRecursion P (front ++ back)
  all_taken [] back x all = all.1
  all_taken (y ∷ front) back x all = (all.0, all_taken front back x all.1)

  pub all_at : (front back : List X) (x : X) → AllByRecursion P (front ++ x ∷ back) → P x
  all_at [] back x all = all.0
  all_at (y ∷ front) back x all = all_at front back x all.1

  pub all_found : (xs : List X) (i : ℕ) (x : X) → AllByRecursion P xs → slice_get xs i ≡ Some x
      → P x
  all_found [] i x all e = absurd (grind (arith, e))
  all_found (y ∷ xs) zero x all e = subst P (grind (arith, e)) all.0
  all_found (y ∷ xs) (suc i) x all e = all_found xs i x all.1 e

  pub all_so : (Q : X → Type 0) (xs : List X) → ((x : X) → P x → Q x) → AllByRecursion P xs
      → AllByRecursion Q xs
  all_so Q [] f all = tt
  all_so Q (x ∷ xs) f all = (f x all.0, all_so Q xs f all.1)

pub split : {X : Type 0} (n : ℕ) (xs : List X) → xs ≡ take n xs ++ drop n xs
split n xs = sym (take-append-drop n xs)

pub drop_map : {X Y : Type 0} (f : X → Y) (n : ℕ) (xs : List X)
    → drop n (map f xs) ≡ map f (drop n xs)
drop_map f zero xs = refl
drop_map f (suc n) [] = refl
drop_map f (suc n) (x ∷ xs) = drop_map f n xs

-- the element at a place between those in front and those behind
pub split_at : {X : Type 0} (xs : List X) (n : ℕ) (x : X) → slice_get xs n ≡ Some x
    → xs ≡ take n xs ++ x ∷ drop (suc n) xs
split_at [] n x e = absurd (grind (arith, e))
split_at (y ∷ xs) zero x e = ap (λ z. z ∷ xs) (grind (arith, e))
split_at (y ∷ xs) (suc n) x e = ap (λ zs. y ∷ zs) (split_at xs n x e)

pub map_insert : {X Y : Type 0} (f : X → Y) (xs : List X) (n : ℕ) (x : X)
    → map f (insert xs n x) ≡ insert (map f xs) n (f x)
map_insert f xs n x =
    map-append f (take n xs) (x ∷ drop n xs)
    ∙ (ap (λ front. front ++ f x ∷ map f (drop n xs)) (sym (take-map f n xs))
    ∙ ap (λ back. take n (map f xs) ++ f x ∷ back) (sym (drop_map f n xs)))

pub map_remove : {X Y : Type 0} (f : X → Y) (xs : List X) (n : ℕ)
    → map f (remove xs n) ≡ remove (map f xs) n
map_remove f xs n =
    map-append f (take n xs) (drop (suc n) xs)
    ∙ (ap (λ front. front ++ map f (drop (suc n) xs)) (sym (take-map f n xs))
    ∙ ap (λ back. take n (map f xs) ++ back) (sym (drop_map f (suc n) xs)))

pub in_put : {X : Type 0} (front back : List X) (k j : X) → IsAmong (front ++ back) j
    → IsAmong (front ++ k ∷ back) j
in_put [] back k j there = inr there
in_put (i ∷ front) back k j (inl e) = inl e
in_put (i ∷ front) back k j (inr there) = inr (in_put front back k j there)

pub in_itself : {X : Type 0} (front back : List X) (k : X) → IsAmong (front ++ k ∷ back) k
in_itself [] back k = inl refl
in_itself (i ∷ front) back k = inr (in_itself front back k)

pub in_taken : {X : Type 0} (front back : List X) (k j : X) → k ≢ j → IsAmong (front ++ k ∷ back) j
    → IsAmong (front ++ back) j
in_taken [] back k j other (inl e) = absurd (other e)
in_taken [] back k j other (inr there) = there
in_taken (i ∷ front) back k j other (inl e) = inl e
in_taken (i ∷ front) back k j other (inr there) = inr (in_taken front back k j other there)

pub removed_is_shorter : {X : Type 0} (xs : List X) (n : ℕ) → length (remove xs n) ≤ length xs
removed_is_shorter [] zero = omega arith
removed_is_shorter [] (suc n) = omega arith
removed_is_shorter (x ∷ xs) zero = omega arith
removed_is_shorter (x ∷ xs) (suc n) = (let rest = removed_is_shorter xs n in omega (arith, rest))

-- an element of a list and that of the list mapped
pub mapped_at : {X Y : Type 0} (f : X → Y) (xs : List X) (n : ℕ) (x : X) (y : Y)
    → slice_get xs n ≡ Some x → slice_get (map f xs) n ≡ Some y → f x ≡ y
mapped_at f [] n x y e g = absurd (grind (arith, e))
mapped_at f (z ∷ xs) zero x y e g =
    (let p : z ≡ x = grind (arith, e) in let q : f z ≡ y = grind (arith, g) in ap f (sym p) ∙ q)
mapped_at f (z ∷ xs) (suc n) x y e g = mapped_at f xs n x y e g

pub some_one : {X : Type 0} (x y : X) → Some x ≡ Some y → x ≡ y
some_one {X} x y e = ap (λ (o : Option X). unwrap_or o x) e

one_more : {X : Type 0} (xs : List X) (n : ℕ) (x : X) → slice_get xs n ≡ Some x
    → take (suc n) xs ≡ take n xs ++ x ∷ []
one_more [] n x e = absurd (grind (arith, e))
one_more (y ∷ xs) zero x e = ap (λ z. z ∷ []) (grind (arith, e))
one_more (y ∷ xs) (suc n) x e = ap (λ zs. y ∷ zs) (one_more xs n x e)

-- one more from the front
pub take_more : {X : Type 0} (xs : List X) (n : ℕ) (x : X) → slice_get xs n ≡ Some x
    → take (n + 1) xs ≡ take n xs ++ x ∷ []
take_more xs n x e =
    (let m : n + 1 ≡ suc n = omega arith in ap (λ k. take k xs) m ∙ one_more xs n x e)
