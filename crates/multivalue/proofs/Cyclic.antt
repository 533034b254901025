-- A list in cyclic order, element by element.
use Rattle.std.proofs.Common.{◌≡◌, ◌<◌, ◌≤◌, ◌+◌, ◌-◌, ◌%◌, ℕ, List, [], ◌∷◌, ◌++◌, length, get_or, set, take, drop, replicate, min, arith, sym, ap, ◌∙◌, inl, inr, length-append, length-take, length-drop}
use Rattle.std.proofs.Math.Nat.{mod-eq_of_lt, add-mod_right}
use Rattle.std.proofs.lemmas.Bool.{cases_lt}
use Rattle.std.proofs.lemmas.List.{get_or_append_left, get_or-append_right, get_or-take, get_or-drop, take_more, take_more_set, take_min, drop-set-lt, drop-drop, drop-replicate, take-append-drop}
use Rattle.multivalue.specs.Choice.{cyclic_from}
use Rattle.multivalue.specs.Answer.{picked}
use Rattle.multivalue.specs.declared.choice.Picked.{Picked}

abbrev of_parts : List ℕ → ℕ → Picked
of_parts places count = record { places = places; count = count }

-- a place past the end, once round
pub around : (m n : ℕ) → n ≤ m → m < n + n → m % n ≡ m - n
around m n le lt =
    let back : m ≡ m - n + n = omega arith in
    ap (λ x. x % n) back ∙ (add-mod_right (m - n) n ∙ mod-eq_of_lt (omega arith))

module _ (from : ℕ) (xs : List ℕ) (within : from < length xs) where
  abbrev turned : List ℕ
  turned = cyclic_from from xs

  pub length_cyclic : length (cyclic_from from xs) ≡ length xs
  length_cyclic =
      omega (
        arith,
        length-append (drop from xs) (take from xs),
        length-take from xs,
        length-drop from xs,
      )

  -- the element at a place
  pub get_cyclic : (j : ℕ) → j < length xs
      → get_or (cyclic_from from xs) j 0 ≡ get_or xs ((from + j) % length xs) 0
  get_cyclic j lt = elim (cases_lt (from + j) (length xs)) [
    | inl here ↦
        get_or_append_left (drop from xs) (take from xs) 0 j (omega (arith, length-drop from xs))
        ∙ (get_or-drop from xs j 0 ∙ ap (λ m. get_or xs m 0) (sym (mod-eq_of_lt here)))
    | inr past ↦
        let m : (from + j) % length xs ≡ from + j - length xs =
        around (from + j) (length xs) past (omega arith) in
        let e : j - (length xs - from) ≡ (from + j) % length xs = omega (arith, m) in
        get_or-append_right (drop from xs) (take from xs) (length xs - from) j 0
        (omega (arith, length-drop from xs)) (omega arith)
        ∙ (get_or-take from xs (j - (length xs - from)) 0 (omega arith) ∙ ap (λ m. get_or xs m 0) e)
  ]

  -- one more is picked
  pub picked_more : (places : List ℕ) (j v : ℕ) → j < length xs → j < length places
      → v ≡ get_or xs ((from + j) % length xs) 0 → take j places ≡ take j (cyclic_from from xs)
      → take (j + 1) (set places j v) ≡ take (j + 1) (cyclic_from from xs)
  picked_more places j v lt room is so_far =
      take_more_set places j v room
      ∙ (ap (λ l. l ++ v ∷ []) so_far
      ∙ (ap (λ y. take j turned ++ y ∷ []) (is ∙ sym (get_cyclic j lt))
      ∙ sym (take_more turned j 0 (omega (arith, length_cyclic)))))

  -- all are
  pub picked_all : (places : List ℕ) (count : ℕ) → count ≡ min 8 (length xs)
      → take count places ≡ take count (cyclic_from from xs)
      → drop count places ≡ replicate (8 - count) 0
      → of_parts places count ≡ picked (take 8 (cyclic_from from xs))
  picked_all places count is front behind =
      let least : min 8 (length turned) ≡ count = omega (arith, length_cyclic) in
      let whole : take 8 turned ≡ take count turned = sym (take_min 8 turned)
      ∙ ap (λ n. take n turned) least in
      let many : count ≡ length (take 8 turned) =
      omega (arith, length-take 8 turned, length_cyclic) in
      let zeros : drop count places ≡ replicate (8 - length (take 8 turned)) 0 = behind
      ∙ ap (λ n. replicate (8 - n) 0) many in
      let all : places ≡ take 8 turned ++ replicate (8 - length (take 8 turned)) 0 =
      sym (take-append-drop count places)
      ∙ (ap (λ l. l ++ drop count places) (front ∙ sym whole)
      ∙ ap (λ l. take 8 turned ++ l) zeros) in
      ap (λ l. of_parts l count) all
      ∙ ap (of_parts (take 8 turned ++ replicate (8 - length (take 8 turned)) 0)) many

-- what is not yet written is 0
pub zeros_more : (places : List ℕ) (j v : ℕ) → drop j places ≡ replicate (8 - j) 0
    → drop (j + 1) (set places j v) ≡ replicate (8 - (j + 1)) 0
zeros_more places j v zeros =
    let e : 8 - j - 1 ≡ 8 - (j + 1) = omega arith in
    let kept : drop (j + 1) (set places j v) ≡ drop 1 (drop j places) =
    drop-set-lt (j + 1) places j v (omega arith) ∙ sym (drop-drop 1 j places) in
    let one_less : drop 1 (replicate (8 - j) 0) ≡ replicate (8 - (j + 1)) 0 =
    drop-replicate 1 (8 - j) 0 ∙ ap (λ n. replicate n 0) e in
    kept ∙ (ap (drop 1) zeros ∙ one_less)
