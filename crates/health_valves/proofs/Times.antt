-- Counting how often a number stands in a list.
use Rattle.std.proofs.Common.{◌≡◌, ◌≢◌, ◌<◌, ◌≤◌, ◌+◌, ℕ, suc, Bool, true, false, List, [], ◌∷◌, length, get_or, set, drop, drop-cons, add-one, get_or-set_same, get_or-set_other, arith, refl, ap, sym, ◌∙◌, inl, inr}
use Rattle.std.specs.Prelude.{if◌then◌else◌, ◌==◌, ◌||◌}
use Rattle.std.proofs.lemmas.Bool.{cases_eq, eq-eqb, eqb-true, ne_eqb}
use Rattle.std.proofs.lemmas.Map.Views.{Contains-from_any}
use Rattle.std.proofs.Math.ListN.{drop_of_length-le}
use Rattle.health_valves.specs.Valves.{count}
use Rattle.std.specs.List.{Contains, list_any}
use Rattle.std.specs.Prelude.{nat_eq}
use Rattle.health_valves.proofs.Members.{in_tail, in_none, in_cases}
use Rattle.health_valves.specs.Valves.{times}

pub times_here : (x : ℕ) (rest : List ℕ) → times x (x ∷ rest) ≡ times x rest + 1
times_here x rest = rw (eq-eqb x x refl) refl

pub times_there : (y x : ℕ) (rest : List ℕ) → y ≢ x → times x (y ∷ rest) ≡ times x rest
times_there y x rest h = rw (ne_eqb y x h) refl

pub times_drop : (places : List ℕ) (i e x : ℕ) → i < length places → get_or places i 0 ≡ e → times x (drop i places) ≡ times x (e ∷ drop (i + 1) places)
times_drop places i e x h is = let c : drop i places ≡ get_or places i 0 ∷ drop (i + 1) places = drop-cons places i 0 h ∙ ap (λ j. get_or places i 0 ∷ drop j places) (sym (add-one i)) in ap (times x) (c ∙ ap (λ t. t ∷ drop (i + 1) places) is)

-- one more at a place that is listed next
pub up : (counts places : List ℕ) (i e n y : ℕ) → i < length places → get_or places i 0 ≡ e → e < length counts → n ≡ get_or counts e 0 + 1 → get_or (set counts e n) y 0 + times y (drop (i + 1) places) ≡ get_or counts y 0 + times y (drop i places)
up counts places i e n y h is b m = elim (cases_eq e y) [
  | inl same ↦ let at : get_or (set counts e n) y 0 ≡ n = ap (λ j. get_or (set counts e n) j 0) (sym same) ∙ get_or-set_same counts e n 0 b in
      let c : get_or counts e 0 ≡ get_or counts y 0 = ap (λ j. get_or counts j 0) same in
      let t : times y (drop i places) ≡ times y (drop (i + 1) places) + 1 = times_drop places i e y h is ∙ ap (λ j. times y (j ∷ drop (i + 1) places)) same ∙ times_here y _ in omega arith
  | inr apart ↦ let at = get_or-set_other counts e y n 0 (λ j. apart (sym j)) in
      let t : times y (drop i places) ≡ times y (drop (i + 1) places) = times_drop places i e y h is ∙ times_there e y _ apart in omega arith
]

-- one fewer
pub down : (counts places : List ℕ) (i e n y : ℕ) → i < length places → get_or places i 0 ≡ e → e < length counts → n + 1 ≡ get_or counts e 0 → get_or (set counts e n) y 0 + times y (drop i places) ≡ get_or counts y 0 + times y (drop (i + 1) places)
down counts places i e n y h is b m = elim (cases_eq e y) [
  | inl same ↦ let at : get_or (set counts e n) y 0 ≡ n = ap (λ j. get_or (set counts e n) j 0) (sym same) ∙ get_or-set_same counts e n 0 b in
      let c : get_or counts e 0 ≡ get_or counts y 0 = ap (λ j. get_or counts j 0) same in
      let t : times y (drop i places) ≡ times y (drop (i + 1) places) + 1 = times_drop places i e y h is ∙ ap (λ j. times y (j ∷ drop (i + 1) places)) same ∙ times_here y _ in omega arith
  | inr apart ↦ let at = get_or-set_other counts e y n 0 (λ j. apart (sym j)) in
      let t : times y (drop i places) ≡ times y (drop (i + 1) places) = times_drop places i e y h is ∙ times_there e y _ apart in omega arith
]

-- what is listed next is still to come
pub ahead : (places : List ℕ) (i e : ℕ) → i < length places → get_or places i 0 ≡ e → 1 ≤ times e (drop i places)
ahead places i e h is = let t = times_drop places i e e h is in let u = times_here e (drop (i + 1) places) in omega arith

-- what stands no longer in the list is not counted
pub times_nil : (x : ℕ) (xs : List ℕ) (i : ℕ) → length xs ≤ i → times x (drop i xs) ≡ 0
times_nil x xs i h = ap (times x) (drop_of_length-le xs h)

carry : (b : Bool) (a c t : ℕ) → a ≡ c + t → (if b then a + 1 else a) ≡ (if b then c + 1 else c) + t
carry true a c t h = omega arith
carry false a c t h = h

-- a valve turns: the counts above it turn with it
pub count_up : (v w : ℕ → Bool) (x : ℕ) → v x ≡ false → w x ≡ true → ((n : ℕ) → n ≢ x → w n ≡ v n) → (xs : List ℕ) → count w xs ≡ count v xs + times x xs
count_up v w x vx wx same [] = refl
count_up v w x vx wx same (y ∷ ys) = let r = count_up v w x vx wx same ys in elim (cases_eq y x) [
  | inl e ↦ rw (e, eq-eqb x x refl, vx, wx) (omega arith)
  | inr ne ↦ rw (ne_eqb y x ne, same y ne) (carry (v y) _ _ _ r)
]

pub count_most : (v : ℕ → Bool) (xs : List ℕ) → count v xs ≤ length xs
count_most v [] = omega arith
count_most v (x ∷ xs) = let r = count_most v xs in more (v x) _ _ r
  where
    more : (b : Bool) (a n : ℕ) → a ≤ n → (if b then a + 1 else a) ≤ suc n
    more true a n h = omega arith
    more false a n h = omega arith

pub times_in : (x : ℕ) (xs : List ℕ) → 0 < times x xs → Contains xs x
times_in x [] h = absurd (omega arith)
times_in x (y ∷ ys) h = elim (cases_eq y x) [
  | inl e ↦ (0, omega arith, e)
  | inr ne ↦ let t = times_there y x ys ne in let r = times_in x ys (omega arith) in in_tail y x ys r
]

pub in_times : (x : ℕ) (xs : List ℕ) → Contains xs x → 0 < times x xs
in_times x [] w = absurd (in_none x w)
in_times x (y ∷ ys) w = elim (in_cases y x ys w) [
  | inl e ↦ let t = times_here x ys in rw e (omega arith)
  | inr i ↦ let r = in_times x ys i in more (y == x) _ r
]
  where
    more : (b : Bool) (n : ℕ) → 0 < n → 0 < (if b then n + 1 else n)
    more true n h = omega arith
    more false n h = h

pub any_in : (x : ℕ) (xs : List ℕ) → list_any (λ y. nat_eq y x) xs ≡ true → Contains xs x
any_in x xs some = Contains-from_any {eq = λ q y. nat_eq y q} (λ a b e. sym (eqb-true b a e)) x xs some

pub in_any : (x : ℕ) (xs : List ℕ) → Contains xs x → list_any (λ y. nat_eq y x) xs ≡ true
in_any x [] w = absurd (in_none x w)
in_any x (y ∷ ys) w = elim (in_cases y x ys w) [
  | inl e ↦ rw (eq-eqb y x e) refl
  | inr i ↦ later (nat_eq y x) _ (in_any x ys i)
]
  where
    later : (b r : Bool) → r ≡ true → (b || r) ≡ true
    later true r e = refl
    later false r e = e
