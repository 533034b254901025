-- Texts of 1 to so many plain bytes.
use Rattle.std.proofs.Common.{◌≡◌, ℕ, Bool, true, false, List, [], ◌∷◌, length, Option, None, Some, refl, ap, cond, sym, ◌∙◌}
use Rattle.std.specs.Prelude.{◌&&◌, nat_le, SomeIff, is_some, IsTrue, ◌↔◌}
use Rattle.std.specs.List.{list_all, AllByRecursion}
use Rattle.std.proofs.lemmas.Bool.{and_from, and_parts, leb-true, le-leb}
use Rattle.routing.specs.Texts.{IsText}
use Rattle.line_words.specs.Words.{plain}

all_to : (f : ℕ → Bool) (s : List ℕ) → AllByRecursion (λ b. f b ≡ true) s → list_all f s ≡ true
all_to f [] h = refl
all_to f (b ∷ s) h = and_from (f b) (list_all f s) h.0 (all_to f s h.1)

all_from : (f : ℕ → Bool) (s : List ℕ) → list_all f s ≡ true → AllByRecursion (λ b. f b ≡ true) s
all_from f [] h = tt
all_from f (b ∷ s) h = let p = and_parts (f b) (list_all f s) h in (p.0, all_from f s p.1)

none_if : (b : Bool) (s : List ℕ) → (b ≡ true → ⊥)
    → ◌≡◌ {A = Option (List ℕ)} None (cond b (Some s) None)
none_if true s h = absurd (h refl)
none_if false s h = refl

some_if : (b : Bool) (s x : List ℕ) → b ≡ true → x ≡ s → Some x ≡ cond b (Some s) None
some_if true s x h e = ap Some e
some_if false s x h e = absurd cc

is_text : (f : ℕ → Bool) (most : ℕ) (s : List ℕ)
    → ((nat_le 1 (length s) && nat_le (length s) most) && list_all f s) ≡ true → IsText f most s
is_text f most s h =
    let p = and_parts (nat_le 1 (length s) && nat_le (length s) most) (list_all f s) h in
    let q = and_parts (nat_le 1 (length s)) (nat_le (length s) most) p.0 in
    record { filled = leb-true 1 (length s) q.0; short = leb-true (length s) most q.1; plain = all_from f s p.1 }

text_is : (f : ℕ → Bool) (most : ℕ) (s : List ℕ) → IsText f most s
    → ((nat_le 1 (length s) && nat_le (length s) most) && list_all f s) ≡ true
text_is f most s h = and_from _ _ (and_from _ _ (le-leb 1 (length s) h.filled) (le-leb (length s) most h.short)) (all_to f s h.plain)

pub decided : (f : ℕ → Bool) (most : ℕ) (s : List ℕ) (r : Option (List ℕ))
    → SomeIff r (IsText f most s) s → r ≡ plain f most s
decided f most s None h = none_if _ s (λ e. h (is_text f most s e))
decided f most s (Some x) h = some_if _ s x (text_is f most s h.0) h.1

some_of : (b : Bool) (s : List ℕ) → b ≡ is_some (cond b (Some s) None)
some_of true s = refl
some_of false s = refl

same_bool : (x y : Bool) → (x ≡ true → y ≡ true) → (y ≡ true → x ≡ true) → x ≡ y
same_bool true true f g = refl
same_bool true false f g = sym (f refl)
same_bool false true f g = g refl
same_bool false false f g = refl

pub is_decided : (f : ℕ → Bool) (most : ℕ) (s : List ℕ) (r : Bool) → (IsTrue r ↔ IsText f most s)
    → r ≡ is_some (plain f most s)
is_decided f most s r h = same_bool r _ (λ e. text_is f most s (h.0 e)) (λ e. h.1 (is_text f most s e))
    ∙ some_of _ s
