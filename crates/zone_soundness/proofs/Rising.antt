-- Sets in zone order, told by neighbours.
use Rattle.std.proofs.Common.{◌≡◌, ℕ, zero, suc, ◌+◌, ◌-◌, ◌<◌, ◌≤◌, List, [], ◌∷◌, length, get_or}
use Rattle.std.proofs.Common.{Less, arith, ap, ◌∙◌, sym, subst, inl, inr}
use Rattle.std.proofs.lemmas.Bool.{cases_eq}
use Rattle.std.proofs.lemmas.List.{get_or_default}
use Rattle.std.specs.List.{AllByRecursion}
use Rattle.record_set.specs.Sets.{key_of}
use Rattle.record_set.specs.declared.sets.RecordSet.{RecordSet}
use Rattle.record_set.specs.declared.sets.SetKey.{SetKey}
use Rattle.config_model.proofs.Ordered.{keys_total}
use Rattle.config_model.specs.Keys.{key_cmp}
use Rattle.config_model.specs.Zones.{IsRising}

abbrev Lower : SetKey → SetKey → Type 0
Lower key other = key_cmp key other ≡ Less

-- a key before the first of rising ones is before all
before_all : (key : SetKey) (next : RecordSet) (others : List RecordSet)
    → IsRising (next ∷ others) → Lower key (key_of next)
    → AllByRecursion (λ later. Lower key (key_of later)) (next ∷ others)
before_all key next others rising lower = (lower, go others rising.0)
  where
    go : (rest : List RecordSet)
        → AllByRecursion (λ later. Lower (key_of next) (key_of later)) rest
        → AllByRecursion (λ later. Lower key (key_of later)) rest
    go [] all = tt
    go (later ∷ rest) all =
        (keys_total.trans key (key_of next) (key_of later) lower all.0, go rest all.1)

-- each set's key comes before that of the next, as far as place n
abbrev pub Neighbours : List RecordSet → (n : ℕ) → Type 0
Neighbours sets n = (k : ℕ) (d : RecordSet) → suc k < n
    → Lower (key_of (get_or sets k d)) (key_of (get_or sets (suc k) d))

-- a set more that comes behind the one before it
pub next_too : (sets : List RecordSet) (i : ℕ) (x y : RecordSet) → 1 ≤ i → i < length sets
    → x ≡ get_or sets (i - 1) x → y ≡ get_or sets i y → Lower (key_of x) (key_of y)
    → Neighbours sets i → Neighbours sets (i + 1)
next_too sets i x y from lt at_x at_y lower each k d within = elim (cases_eq (suc k) i) [
  | inl last ↦
      (let place : i - 1 ≡ k = omega (arith, last, from) in
      let first : get_or sets k d ≡ x =
      get_or_default sets k d x (omega (arith, last, lt))
      ∙ (ap (λ n. get_or sets n x) (sym place) ∙ sym at_x) in
      let second : get_or sets (suc k) d ≡ y =
      get_or_default sets (suc k) d y (omega (arith, last, lt))
      ∙ (ap (λ n. get_or sets n y) last ∙ sym at_y) in
      ap (λ (s : RecordSet). key_cmp (key_of s) (key_of (get_or sets (suc k) d))) first
      ∙ (ap (λ (s : RecordSet). key_cmp (key_of x) (key_of s)) second ∙ lower))
  | inr other ↦ each k d (omega (arith, within, other))
]

pub rises : (sets : List RecordSet) (n : ℕ) → length sets ≤ n → Neighbours sets n → IsRising sets
rises [] n over each = tt
rises (set ∷ []) n over each = (tt, tt)
rises (set ∷ next ∷ sets) n over each =
    let rest : IsRising (next ∷ sets) =
    rises (next ∷ sets) (n - 1) (omega (arith, over))
    (λ k d lt. each (suc k) d (omega (arith, lt))) in
    (before_all (key_of set) next sets rest (each 0 set (omega (arith, over))), rest)

-- and so it is in zone order
next_above : (sets : List RecordSet) (k : ℕ) (x y : RecordSet) → suc k < length sets
    → x ≡ get_or sets k x → y ≡ get_or sets (suc k) y → IsRising sets
    → Lower (key_of x) (key_of y)
next_above [] k x y lt at_x at_y rising = absurd (omega (arith, lt))
next_above (set ∷ []) zero x y lt at_x at_y rising = absurd (omega (arith, lt))
next_above (set ∷ next ∷ sets) zero x y lt at_x at_y rising =
    ap (λ (s : RecordSet). key_cmp (key_of s) (key_of y)) at_x
    ∙ ap (λ (s : RecordSet). key_cmp (key_of set) (key_of s)) at_y ∙ rising.0.0
next_above (set ∷ sets) (suc k) x y lt at_x at_y rising =
    next_above sets k x y (omega (arith, lt)) at_x at_y rising.1

pub above_before : (sets : List RecordSet) (i : ℕ) (x y : RecordSet) → 1 ≤ i → i < length sets
    → x ≡ get_or sets (i - 1) x → y ≡ get_or sets i y → IsRising sets
    → Lower (key_of x) (key_of y)
above_before sets i x y from lt at_x at_y rising =
    next_above sets (i - 1) x y (omega (arith, from, lt)) at_x
    (subst (λ n. y ≡ get_or sets n y) (omega (arith, from)) at_y) rising
