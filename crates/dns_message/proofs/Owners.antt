-- The owners that octets begin with.
use Rattle.std.proofs.Common.{◌≡◌, ℕ, zero, suc, ◌+◌, ◌-◌, ◌<◌, ◌≤◌, List, [], ◌∷◌, ◌++◌, length, take, drop, get_or, ap, ◌∙◌, sym, refl, subst, arith, inl, inr, min, length-append, length-drop, add-one}
use Rattle.std.proofs.lemmas.List.{length-take, length-take-le, drop-take, drop_more}
use Rattle.std.proofs.Math.Seq.{take-add}
use Rattle.std.specs.Prelude.{◌⊎◌}
use Rattle.std.proofs.lemmas.List.{drop_at, drop-drop}
use Rattle.dns_name.specs.Labels.{frame, IsRawLabel}
use Rattle.dns_message.specs.Records.{IsOwner}
use Rattle.dns_message.specs.Records.IsOwner.{ends, points, goes_on}

-- the three ways in which octets are an owner
abbrev pub Step : List ℕ → Type 0
Step octets =
    (octets ≡ 0 ∷ [])
    ⊎ ((high low : ℕ) × (192 ≤ high) × (octets ≡ high ∷ low ∷ []))
    ⊎ ((label rest : List ℕ) × IsRawLabel label × IsOwner rest × (octets ≡ frame label ++ rest))

pub step_of : (octets : List ℕ) → IsOwner octets → Step octets
step_of _ ends = inl refl
step_of _ (points high low large) = inr (inl (high, low, large, refl))
step_of _ (goes_on label rest raw owner) = inr (inr (label, rest, raw, owner, refl))

-- What an owner at the front says of the first octet: it is the root's, or a pointer's, or a label's behind which an owner goes on.
pub record GoesOn (octets : List ℕ) (n c : ℕ) : Type 0 where
  pub m : ℕ
  pub size : n ≡ (c + 1) + m
  pub label : (0 < c) × (c < 64) × (c + 1 ≤ length octets)
  pub rest : IsOwner (take m (drop (c + 1) octets))

abbrev pub First : List ℕ → (n c : ℕ) → Type 0
First octets n c =
    ((c ≡ 0) × (min n (length octets) ≡ 1))
    ⊎ ((192 ≤ c) × (min n (length octets) ≡ 2))
    ⊎ GoesOn octets n c

goes_on_from : (x k : ℕ) (xs label more : List ℕ) → IsRawLabel label → IsOwner more
    → x ∷ take k xs ≡ frame label ++ more → GoesOn (x ∷ xs) (suc k) x
goes_on_from x k xs label more raw owner e =
    let head : x ≡ length label = ap (λ l. get_or l 0 0) e in
    let tail : take k xs ≡ label ++ more = ap (λ l. drop 1 l) e in
    let long : length (take k xs) ≡ length label + length more = ap length tail ∙ length-append label more in
    let less : x ≤ k = omega (arith, head, long, length-take k xs) in
    let within : x ≤ length xs = omega (arith, head, long, length-take k xs) in
    let split : x + (k - x) ≡ k = omega (arith, less) in
    let behind : take (k - x) (drop (x + 1) (x ∷ xs)) ≡ more =
    ap (λ i. take (k - x) (drop i (x ∷ xs))) (add-one x)
    ∙ sym (drop-take x (k - x) xs) ∙ ap (λ j. drop x (take j xs)) split ∙ ap (drop x) tail
    ∙ drop_at label more x (sym head) in
    record {
      m = k - x;
      size = omega (arith, less);
      label = (omega (arith, head, raw.filled), omega (arith, head, raw.short), omega (arith, within));
      rest = subst IsOwner (sym behind) owner;
    }

first_of_step : (x k : ℕ) (xs : List ℕ) → Step (x ∷ take k xs) → First (x ∷ xs) (suc k) x
first_of_step x k xs (inl e) =
    let head : x ≡ 0 = ap (λ l. get_or l 0 0) e in
    let long : length (take k xs) ≡ 0 = ap (λ l. length (drop 1 l)) e in
    inl (head, omega (arith, sym (length-take k xs) ∙ long))
first_of_step x k xs (inr (inl (high, low, large, e))) =
    let head : x ≡ high = ap (λ l. get_or l 0 0) e in
    let long : length (take k xs) ≡ 1 = ap (λ l. length (drop 1 l)) e in
    inr (inl (omega (arith, head, large), omega (arith, sym (length-take k xs) ∙ long)))
first_of_step x k xs (inr (inr (label, more, raw, owner, e))) =
    inr (inr (goes_on_from x k xs label more raw owner e))

-- an owner has an octet at least
no_owner : (octets : List ℕ) → length octets ≡ 0 → IsOwner octets → ⊥
no_owner octets none owner = elim (step_of octets owner) [
  | inl e ↦ (let z : length octets ≡ 1 = ap length e in omega (arith, z, none))
  | inr (inl r) ↦ (let z : length octets ≡ 2 = ap length r.3 in omega (arith, z, none))
  | inr (inr r) ↦
      absurd (let z : length octets ≡ length (frame r.0 ++ r.1) = ap length r.4 in omega (arith, z, none))
]

pub first_of : (octets : List ℕ) (n : ℕ) → IsOwner (take n octets) → (0 < length octets) × First octets n (get_or octets 0 0)
first_of [] n owner = absurd (no_owner (take n []) (omega (arith, length-take {A = ℕ} n [])) owner)
first_of (x ∷ xs) zero owner = absurd (no_owner [] refl owner)
first_of (x ∷ xs) (suc k) owner = (omega arith, first_of_step x k xs (step_of _ owner))

one_more : (c m : ℕ) → (c + 1) + m ≡ suc (c + m)
one_more c m = omega arith

-- an owner goes on behind a whole label
pub behind_label : (octets : List ℕ) (c m : ℕ) → c ≡ get_or octets 0 0 → 0 < c → c < 64
    → c + 1 ≤ length octets → IsOwner (take m (drop (c + 1) octets)) → IsOwner (take ((c + 1) + m) octets)
behind_label [] c m e some few within owner = absurd (omega (arith, within))
behind_label (x ∷ xs) c m e some few within owner =
    let size : length (take c xs) ≡ c = length-take-le c xs (omega (arith, within)) in
    let more : IsOwner (take m (drop c xs)) =
    subst (λ l. IsOwner (take m l)) (ap (λ i. drop i (x ∷ xs)) (add-one c)) owner in
    let split : take (c + m) xs ≡ take c xs ++ take m (drop c xs) = take-add c m xs in
    let whole : take ((c + 1) + m) (x ∷ xs) ≡ frame (take c xs) ++ take m (drop c xs) =
    ap (λ i. take i (x ∷ xs)) (one_more c m)
    ∙ ap (λ l. x ∷ l) split
    ∙ ap (λ i. i ∷ (take c xs ++ take m (drop c xs))) (sym e ∙ sym size) in
    subst IsOwner (sym whole) (goes_on (take c xs) (take m (drop c xs))
    (record { filled = omega (arith, size, some); short = omega (arith, size, few) }) more)

module _ (octets : List ℕ) (at : ℕ) (inside : at < length octets) where
  abbrev c : ℕ
  c = get_or octets at 0

  there : drop at octets ≡ c ∷ drop (at + 1) octets
  there = drop_more octets at 0 inside

  pub left : length (drop at octets) ≡ length octets - at
  left = length-drop at octets

  head : c ≡ get_or (drop at octets) 0 0
  head = sym (ap (λ l. get_or l 0 0) there)

  pub root_there : c ≡ 0 → IsOwner (take 1 (drop at octets))
  root_there e = subst IsOwner (sym (ap (take 1) there ∙ ap (λ x. x ∷ []) e)) ends

  pub pointer_there : 192 ≤ c → at + 2 ≤ length octets → IsOwner (take 2 (drop at octets))
  pointer_there large within =
      let next : drop (at + 1) octets ≡ get_or octets (at + 1) 0 ∷ drop (at + 1 + 1) octets =
      drop_more octets (at + 1) 0 (omega (arith, within)) in
      subst IsOwner (sym (ap (take 2) there ∙ ap (λ l. c ∷ take 1 l) next))
      (points c (get_or octets (at + 1) 0) large)

  pub label_there : 0 < c → c < 64 → c + 1 ≤ length octets - at
      → ((n : ℕ) → IsOwner (take n (drop at octets)) → IsOwner (take (at + n) octets))
      → (m : ℕ) → IsOwner (take m (drop (at + (c + 1)) octets)) → IsOwner (take (at + (c + 1) + m) octets)
  label_there some few within joins m owner =
      let more : IsOwner (take m (drop (c + 1) (drop at octets))) =
      subst (λ l. IsOwner (take m l)) (sym (drop-drop (c + 1) at octets)) owner in
      subst (λ i. IsOwner (take i octets)) (omega arith)
      (joins ((c + 1) + m) (behind_label (drop at octets) c m head some few (omega (arith, left, within)) more))

  -- what an owner of the whole says of the octet at the place
  pub first_there : ((n : ℕ) → IsOwner (take n octets) → (m : ℕ) × (n ≡ at + m) × IsOwner (take m (drop at octets)))
      → (n : ℕ) → IsOwner (take n octets) → (m : ℕ) × (n ≡ at + m) × First (drop at octets) m c
  first_there only n owner =
      let r = only n owner in
      (r.0, r.1, subst (First (drop at octets) r.0) (sym head) (first_of (drop at octets) r.0 r.2).1)

  pub only_behind : 0 < c → c < 64
      → ((n : ℕ) → IsOwner (take n octets) → (m : ℕ) × (n ≡ at + m) × IsOwner (take m (drop at octets)))
      → (n : ℕ) → IsOwner (take n octets)
      → (m : ℕ) × (n ≡ at + (c + 1) + m) × IsOwner (take m (drop (at + (c + 1)) octets))
  only_behind some few only n owner =
      let r = first_there only n owner in
      elim r.2 [
        | inl e ↦ absurd (omega (arith, some, e.0))
        | inr (inl e) ↦ absurd (omega (arith, few, e.0))
        | inr (inr g) ↦ (
          g.m,
          omega (arith, r.1, g.size),
          subst (λ l. IsOwner (take g.m l)) (drop-drop (c + 1) at octets) g.rest,
        )
      ]

-- Octets begin with one owner at most. Their number is at most the first one.
one_owner_below : (bound : ℕ) (octets : List ℕ) (n m : ℕ) → length octets ≤ bound
    → n ≤ length octets → m ≤ length octets
    → IsOwner (take n octets) → IsOwner (take m octets) → n ≡ m
one_owner_below zero octets n m few within within' owner other =
    absurd (let some = (first_of octets n owner).0 in omega (arith, some, few))
one_owner_below (suc bound) octets n m few within within' owner other =
    elim (first_of octets n owner).1 [
      | inl e ↦ elim (first_of octets m other).1 [
        | inl f ↦ omega (arith, e.1, f.1, within, within')
        | inr (inl f) ↦ absurd (omega (arith, e.0, f.0))
        | inr (inr g) ↦ absurd (omega (arith, e.0, g.label.0))
      ]
      | inr (inl e) ↦ elim (first_of octets m other).1 [
        | inl f ↦ absurd (omega (arith, e.0, f.0))
        | inr (inl f) ↦ omega (arith, e.1, f.1, within, within')
        | inr (inr g) ↦ absurd (omega (arith, e.0, g.label.1))
      ]
      | inr (inr d) ↦ elim (first_of octets m other).1 [
        | inl f ↦ absurd (omega (arith, f.0, d.label.0))
        | inr (inl f) ↦ absurd (omega (arith, f.0, d.label.1))
        | inr (inr g) ↦
            (let left = length-drop (get_or octets 0 0 + 1) octets in
            let same : d.m ≡ g.m =
            one_owner_below bound (drop (get_or octets 0 0 + 1) octets) d.m g.m
            (omega (arith, left, few, d.label.2)) (omega (arith, left, within, d.size))
            (omega (arith, left, within', g.size)) d.rest g.rest in
            omega (arith, same, d.size, g.size))
      ]
    ]

pub one_owner : (octets : List ℕ) (n m : ℕ) → n ≤ length octets → m ≤ length octets
    → IsOwner (take n octets) → IsOwner (take m octets) → n ≡ m
one_owner octets n m = one_owner_below (length octets) octets n m (omega arith)
