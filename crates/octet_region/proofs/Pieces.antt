-- The octets of a chain, cell by cell.
use Rattle.std.proofs.Common.{◌≡◌, ℕ, zero, suc, ◌+◌, ◌-◌, ◌*◌, ◌/◌, ◌%◌, ◌<◌, ◌≤◌, List, [], ◌∷◌, ◌++◌, take, drop, length, ap, sym, refl, ◌∙◌, arith, length-append, length-drop, length-take, append_assoc, inl, inr}
use Rattle.std.specs.Prelude.{min, ◌↔◌, ◌⊎◌, IsTrue, false}
use Rattle.std.proofs.lemmas.List.{take-append-drop, drop-append-le, drop-take, take_all, append-nil}
use Rattle.std.proofs.Math.Seq.{take-append_seam}
use Rattle.octet_region.specs.declared.cells.Cell.{Cell}
use Rattle.octet_region.specs.Cells.{link_at, octets_at, number_at, next_at}
use Rattle.octet_region.specs.Chains.{octets_in, steps_in}
use Rattle.octet_region.specs.Shape.{IsChain}
use Rattle.octet_region.proofs.Told.{more_or_last, ends_there, ends_on, gather_on, gather_end, gather_few, steps_on, steps_end, steps_few}

drop_past : (xs ys : List ℕ) (n m : ℕ) → n ≡ length xs + m → drop n (xs ++ ys) ≡ drop m ys
drop_past [] ys n m e = let f : n ≡ m = omega (arith, e) in ap (λ k. drop k ys) f
drop_past (x ∷ xs) ys zero m e = absurd (omega arith)
drop_past (x ∷ xs) ys (suc n) m e = drop_past xs ys n m (omega (arith, e))

take_past : (xs ys : List ℕ) (n m : ℕ) → n ≡ length xs + m → take n (xs ++ ys) ≡ xs ++ take m ys
take_past [] ys n m e = let f : n ≡ m = omega (arith, e) in ap (λ k. take k ys) f
take_past (x ∷ xs) ys zero m e = absurd (omega arith)
take_past (x ∷ xs) ys (suc n) m e = ap (λ zs. x ∷ zs) (take_past xs ys n m (omega (arith, e)))

take_take : (k j : ℕ) (xs : List ℕ) → k ≤ j → take k (take j xs) ≡ take k xs
take_take zero j xs h = refl
take_take (suc k) zero xs h = absurd (omega arith)
take_take (suc k) (suc j) [] h = refl
take_take (suc k) (suc j) (x ∷ xs) h = ap (λ zs. x ∷ zs) (take_take k j xs (omega arith))

no_items : (ys : List ℕ) → length ys ≡ 0 → [] ≡ ys
no_items [] e = refl
no_items (y ∷ ys) e = absurd (omega arith)

drop_none : (n : ℕ) (xs : List ℕ) → xs ≡ [] → drop n xs ≡ []
drop_none zero xs e = e
drop_none (suc n) [] e = refl
drop_none (suc n) (x ∷ xs) e = let g : ⊥ = cc in absurd g

drop_drop : (n m k : ℕ) (xs : List ℕ) → k ≡ m + n → drop n (drop m xs) ≡ drop k xs
drop_drop n zero k xs e = let f : n ≡ k = omega (arith, e) in ap (λ j. drop j xs) f
drop_drop n (suc m) k [] e = drop_none n (drop (suc m) []) refl ∙ sym (drop_none k [] refl)
drop_drop n (suc m) zero (x ∷ xs) e = absurd (omega arith)
drop_drop n (suc m) (suc k) (x ∷ xs) e = drop_drop n m k xs (omega (arith, e))

-- what a link's test tells of the cell's number
pub last_is : (link own : ℕ) → link ≡ own → (32 < link / 2 → IsTrue false) → own / 2 ≤ 32
last_is link own e h = elim (more_or_last (own / 2)) [
  | inl more ↦
      (let f : IsTrue false = h (omega (arith, more, ap (λ n. n / 2) e)) in
      let g : ⊥ = cc in absurd g)
  | inr last ↦ last
]

pub more_is : (link own : ℕ) → link ≡ own → 32 < link / 2 → 32 < own / 2
more_is link own e h = omega (arith, h, ap (λ n. n / 2) e)

pub next_is : (next link own : ℕ) → next ≡ link / 2 - 33 → link ≡ own → next ≡ own / 2 - 33
next_is next link own h e = h ∙ ap (λ n. n / 2 - 33) e

pub count_is : (count link own : ℕ) → count ≡ min (link / 2) 32 → link ≡ own → count ≡ min (own / 2) 32
count_is count link own h e = h ∙ ap (λ n. min (n / 2) 32) e

split_same : (xs ys zs : List ℕ) (p : ℕ) → length xs ≡ p
    → (xs ++ ys ≡ zs) ↔ ((xs ≡ take p zs) × (ys ≡ drop p zs))
split_same xs ys zs p e = (
  (λ h. (
    (sym (take-append_seam xs ys) ∙ ap (λ k. take k (xs ++ ys)) e ∙ ap (λ w. take p w) h),
    (sym (drop_past xs ys p 0 (omega (arith, e))) ∙ ap (λ w. drop p w) h),
  )),
  (λ h. ap (λ w. w ++ ys) h.0 ∙ ap (λ w. take p zs ++ w) h.1 ∙ take-append-drop p zs),
)

-- so many octets from a place in a cell on: those of the cell, and those of the next ones
take_on : (cell tail : List ℕ) (from k : ℕ) → length cell ≡ 32 → from ≤ 32 → 32 - from ≤ k
    → take k (drop from (cell ++ tail)) ≡ drop from cell ++ take (k - (32 - from)) tail
take_on cell tail from k whole near long =
    let part : length (drop from cell) ≡ 32 - from = omega (arith, whole, length-drop from cell) in
    ap (take k) (drop-append-le from cell tail (omega (arith, near, whole)))
    ∙ take_past (drop from cell) tail k (k - (32 - from)) (omega (arith, part, long))

match_step : (cell tail : List ℕ) (from : ℕ) (rest : List ℕ) → length cell ≡ 32 → from ≤ 32
    → 32 - from ≤ length rest
    → (take (length rest) (drop from (cell ++ tail)) ≡ rest)
    ↔ ((drop from cell ≡ take (32 - from) rest)
    × (take (length (drop (32 - from) rest)) tail ≡ drop (32 - from) rest))
match_step cell tail from rest whole near long =
    let part : length (drop from cell) ≡ 32 - from = omega (arith, whole, length-drop from cell) in
    let count : length rest - (32 - from) ≡ length (drop (32 - from) rest) =
    sym (length-drop (32 - from) rest) in
    let e = take_on cell tail from (length rest) whole near long
    ∙ ap (λ k. drop from cell ++ take k tail) count
    in
    let s = split_same (drop from cell) (take (length (drop (32 - from) rest)) tail) rest (32 - from) part in
    (λ h. s.0 (sym e ∙ h), λ h. e ∙ s.1 h)

-- what stands among the first octets
inner_same : (xs : List ℕ) (from k n : ℕ) → from + k ≤ n → take k (drop from (take n xs)) ≡ take k (drop from xs)
inner_same xs from k n h =
    let split : n ≡ from + (n - from) = omega (arith, h) in
    ap (λ m. take k (drop from (take m xs))) split
    ∙ ap (take k) (drop-take from (n - from) xs)
    ∙ take_take k (n - from) (drop from xs) (omega (arith, h))

module _ (cells : List Cell) (c : ℕ) (s : IsChain cells c) where
  pub chain_there : c < length cells
  chain_there = ends_there (number_at cells) (length cells) (length cells) c s.inside

  pub chain_whole : length (octets_at cells c) ≡ 32
  chain_whole = s.full c chain_there

  pub chain_few : length (octets_in cells c) ≤ 32 * length cells
  chain_few = gather_few (octets_at cells) (number_at cells) (length cells) (length cells) c s.inside s.full

  pub steps_below : steps_in cells c < length cells
  steps_below = steps_few (number_at cells) (length cells) (length cells) c s.inside

  module _ (last : number_at cells c ≤ 32) where
    pub chain_last : octets_in cells c ≡ take (number_at cells c) (octets_at cells c)
    chain_last = gather_end (octets_at cells) (number_at cells) (length cells) (length cells) c s.inside last

    pub last_length : length (octets_in cells c) ≡ number_at cells c
    last_length =
        let e = ap length chain_last in
        omega (arith, e, length-take (number_at cells c) (octets_at cells c), chain_whole, last)

    pub last_steps : steps_in cells c ≡ 0
    last_steps = steps_end (number_at cells) (length cells) (length cells) c s.inside last

  module _ (more : 32 < number_at cells c) where
    pub chain_on : IsChain cells (next_at cells c)
    chain_on = record {
      inside = ends_on (number_at cells) (length cells) (length cells) c s.inside more;
      full = s.full;
      few = s.few;
    }

    pub chain_more : octets_in cells c ≡ octets_at cells c ++ octets_in cells (next_at cells c)
    chain_more = gather_on (octets_at cells) (number_at cells) (length cells) (length cells) c s.inside more

    pub more_length : length (octets_in cells c) ≡ 32 + length (octets_in cells (next_at cells c))
    more_length =
        let e = ap length chain_more in
        omega
        (arith, e, length-append (octets_at cells c) (octets_in cells (next_at cells c)), chain_whole)

    pub more_steps : steps_in cells c ≡ suc (steps_in cells (next_at cells c))
    more_steps = steps_on (number_at cells) (length cells) (length cells) c s.inside more

  -- the first octets stand in the first cell
  pub front_is : take (min (number_at cells c) 32) (octets_at cells c) ≡ take 32 (octets_in cells c)
  front_is = elim (more_or_last (number_at cells c)) [
    | inl more ↦
        (let e : min (number_at cells c) 32 ≡ 32 = omega (arith, more) in
        ap (λ k. take k (octets_at cells c)) e
        ∙ take_all 32 (octets_at cells c) (omega (arith, chain_whole))
        ∙ sym (take-append_seam (octets_at cells c) (octets_in cells (next_at cells c)))
        ∙ ap (λ k. take k (octets_at cells c ++ octets_in cells (next_at cells c))) chain_whole
        ∙ ap (take 32) (sym (chain_more more)))
    | inr last ↦
        (let e : min (number_at cells c) 32 ≡ number_at cells c = omega (arith, last) in
        ap (λ k. take k (octets_at cells c)) e
        ∙ sym (chain_last last)
        ∙ sym (take_all 32 (octets_in cells c) (omega (arith, last_length last, last))))
  ]

  -- so many octets stand there at least, and all where they are fewer than 32
  pub front_few : min (number_at cells c) 32 ≤ length (octets_in cells c)
  front_few = elim (more_or_last (number_at cells c)) [
    | inl more ↦ omega (arith, more_length more)
    | inr last ↦ omega (arith, last_length last)
  ]

  -- the same of a place among them
  pub in_first : (n : ℕ) → n ≤ 32
      → (n ≤ length (octets_in cells c)) ↔ (n ≤ min (number_at cells c) 32)
  in_first n low = elim (more_or_last (number_at cells c)) [
    | inl more ↦
        (λ h. omega (arith, low, more), λ h. omega (arith, h, front_few))
    | inr last ↦
        (λ h. omega (arith, h, last_length last, low, last), λ h. omega (arith, h, front_few))
  ]

  -- where more octets stand than in one cell, there is another one
  pub on_is : (link : ℕ) → link ≡ link_at cells c → 32 < length (octets_in cells c) → 32 < link / 2
  on_is link e more = elim (more_or_last (number_at cells c)) [
    | inl h ↦ omega (arith, h, ap (λ n. n / 2) e)
    | inr last ↦ absurd (omega (arith, more, last_length last, last))
  ]

  pub front_all : min (number_at cells c) 32 < 32
      → length (octets_in cells c) ≡ min (number_at cells c) 32
  front_all h = let last : number_at cells c ≤ 32 = omega (arith, h) in omega (arith, last_length last, h)

  -- octets from a place in the first cell on
  pub part_is : (from k : ℕ) → from + k ≤ min (number_at cells c) 32
      → take k (drop from (octets_in cells c)) ≡ take k (drop from (octets_at cells c))
  part_is from k h =
      sym (inner_same (octets_in cells c) from k 32 (omega (arith, h)))
      ∙ ap (λ xs. take k (drop from xs)) (sym front_is)
      ∙ inner_same (octets_at cells c) from k (min (number_at cells c) 32) h

  pub piece_is : (from : ℕ) → from < min (number_at cells c) 32
      → drop from (take (min (number_at cells c) 32) (octets_at cells c))
      ≡ take (32 - from % 32) (drop from (octets_in cells c))
  piece_is from h =
      let split : 32 ≡ from + (32 - from % 32) = omega (arith, h) in
      ap (drop from) front_is
      ∙ ap (λ n. drop from (take n (octets_in cells c))) split
      ∙ drop-take from (32 - from % 32) (octets_in cells c)

  pub piece_none : (from k : ℕ) → min (number_at cells c) 32 ≤ from
      → (32 ≤ from → number_at cells c ≤ 32) → [] ≡ take k (drop from (octets_in cells c))
  piece_none from k h near =
      let last : number_at cells c ≤ 32 = last_of (more_or_last (number_at cells c)) in
      no_items (take k (drop from (octets_in cells c)))
      (omega (
        arith,
        length-take k (drop from (octets_in cells c)),
        length-drop from (octets_in cells c),
        last_length last,
        h,
        last,
      ))
    where
      last_of : (32 < number_at cells c) ⊎ (number_at cells c ≤ 32) → number_at cells c ≤ 32
      last_of (inl more) = near (omega (arith, h, more))
      last_of (inr last) = last

  pub pieces_last : (from : ℕ) → number_at cells c ≤ 32
      → take (32 - from % 32) (drop from (octets_in cells c)) ++ []
      ≡ take (64 - from % 32) (drop from (octets_in cells c))
  pieces_last from last =
      let few : length (drop from (octets_in cells c)) ≤ 32 - from % 32 =
      omega (arith, length-drop from (octets_in cells c), last_length last, last) in
      append-nil (take (32 - from % 32) (drop from (octets_in cells c)))
      ∙ take_all (32 - from % 32) (drop from (octets_in cells c)) few
      ∙ sym (take_all (64 - from % 32) (drop from (octets_in cells c)) (omega (arith, few)))

  pub pieces_more : (from : ℕ) → 32 < number_at cells c → from < 32
      → drop from (octets_at cells c) ++ take 32 (octets_in cells (next_at cells c))
      ≡ take (64 - from % 32) (drop from (octets_in cells c))
  pieces_more from more near =
      let count : 64 - from % 32 - (32 - from) ≡ 32 = omega (arith, near) in
      sym
      (ap (λ xs. take (64 - from % 32) (drop from xs)) (chain_more more)
      ∙ take_on (octets_at cells c) (octets_in cells (next_at cells c)) from (64 - from % 32) chain_whole
      (omega (arith, near)) (omega (arith, near))
      ∙ ap (λ k. drop from (octets_at cells c) ++ take k (octets_in cells (next_at cells c))) count)

  pub skip_step : (from : ℕ) → 32 < number_at cells c → 32 ≤ from
      → drop from (octets_in cells c) ≡ drop (from - 32) (octets_in cells (next_at cells c))
  skip_step from more far =
      ap (drop from) (chain_more more)
      ∙ drop_past (octets_at cells c) (octets_in cells (next_at cells c)) from (from - 32)
      (omega (arith, chain_whole, far))

  -- a piece of the cell against a piece of the rest
  module _ (from d : ℕ) (rest cell piece part then : List ℕ) (more : 32 < number_at cells c) (near : from < 32)
      (long : 32 - from < length rest) (is : cell ≡ octets_at cells c) (p : piece ≡ drop from cell)
      (q : part ≡ take (32 - from) rest) where
    stepped : (take (length rest) (drop from (octets_in cells c)) ≡ rest)
        ↔ ((drop from (octets_at cells c) ≡ take (32 - from) rest)
        × (take (length (drop (32 - from) rest)) (octets_in cells (next_at cells c)) ≡ drop (32 - from) rest))
    stepped =
        let m =
        match_step (octets_at cells c) (octets_in cells (next_at cells c)) from rest chain_whole
        (omega (arith, near)) (omega (arith, long)) in
        let e = ap (λ xs. take (length rest) (drop from xs)) (chain_more more) in
        (λ h. m.0 (sym e ∙ h), λ h. e ∙ m.1 h)

    pub differ : take (length rest) (drop from (octets_in cells c)) ≡ rest → piece ≡ part
    differ h = p ∙ ap (drop from) is ∙ (stepped.0 h).0 ∙ sym q

    pub go_on : then ≡ drop (32 - from) rest → d ≡ next_at cells c → piece ≡ part
        → (take (length rest) (drop from (octets_in cells c)) ≡ rest)
        ↔ (take (length then) (octets_in cells d) ≡ then)
    go_on t e h =
        let first : drop from (octets_at cells c) ≡ take (32 - from) rest = ap (drop from) (sym is) ∙ sym p ∙ h ∙ q
        in
        rw (t, e) (λ x. (stepped.0 x).1, λ x. stepped.1 (first, x))

  -- there are not as many
  pub too_few : (from : ℕ) (rest : List ℕ) → 0 < length rest → length (octets_in cells c) < from + length rest
      → take (length rest) (drop from (octets_in cells c)) ≡ rest → ⊥
  too_few from rest some short e =
      let a = ap length e in
      let b = length-take (length rest) (drop from (octets_in cells c)) in
      let d = length-drop from (octets_in cells c) in
      omega (arith, a, b, d, some, short)

  pub at_end : (from : ℕ) (rest cell piece part : List ℕ)
      → from + length rest ≤ min (number_at cells c) 32
      → cell ≡ octets_at cells c → piece ≡ drop from cell → part ≡ take (length rest) piece
      → take (length rest) (drop from (octets_in cells c)) ≡ part
  at_end from rest cell piece part fits is p q =
      part_is from (length rest) fits
      ∙ ap (λ w. take (length rest) (drop from w)) (sym is)
      ∙ ap (take (length rest)) (sym p)
      ∙ sym q

  -- one turn of the loop that copies
  pub copy_step : (from d len at to : ℕ) (old new cell piece all : List ℕ)
      → 32 < number_at cells c → from < 32 → 32 - from < len - at
      → cell ≡ octets_at cells c → piece ≡ drop from cell → d ≡ next_at cells c → to ≡ at + (32 - from)
      → take (at + length piece) new ≡ take at old ++ piece
      → take at old ++ take (len - at) (drop from (octets_in cells c)) ≡ all
      → take to new ++ take (len - to) (octets_in cells d) ≡ all
  copy_step from d len at to old new cell piece all more near far is p e on put so_far =
      let tail = octets_in cells (next_at cells c) in
      let long : length piece ≡ 32 - from =
      ap length (p ∙ ap (drop from) is) ∙ length-drop from (octets_at cells c) ∙ ap (λ n. n - from) chain_whole in
      let there : to ≡ at + length piece = omega (arith, long, on) in
      let count : len - at - (32 - from) ≡ len - to = omega (arith, on, far) in
      let first : take to new ≡ take at old ++ drop from (octets_at cells c) =
      ap (λ k. take k new) there ∙ put ∙ ap (λ x. take at old ++ x) (p ∙ ap (drop from) is)
      in
      let rest : take (len - at) (drop from (octets_in cells c))
      ≡ drop from (octets_at cells c) ++ take (len - to) tail =
      ap (λ xs. take (len - at) (drop from xs)) (chain_more more)
      ∙ take_on (octets_at cells c) tail from (len - at) chain_whole (omega (arith, near)) (omega (arith, far))
      ∙ ap (λ k. drop from (octets_at cells c) ++ take k tail) count
      in
      ap (λ x. take to new ++ take (len - to) (octets_in cells x)) e
      ∙ ap (λ x. x ++ take (len - to) tail) first
      ∙ append_assoc (take at old) (drop from (octets_at cells c)) (take (len - to) tail)
      ∙ ap (λ x. take at old ++ x) (sym rest)
      ∙ so_far

  pub copy_last : (from len at : ℕ) (old new cell part piece all : List ℕ)
      → len - at ≤ 32 - from → from < 32 → at ≤ len → from + (len - at) ≤ length (octets_in cells c)
      → length new ≡ len
      → cell ≡ octets_at cells c → part ≡ drop from cell → piece ≡ take (len - at) part
      → take (at + length piece) new ≡ take at old ++ piece
      → take at old ++ take (len - at) (drop from (octets_in cells c)) ≡ all
      → new ≡ all
  copy_last from len at old new cell part piece all few near order fits long is p q put so_far =
      let k = len - at in
      let inner : length part ≡ 32 - from =
      ap length (p ∙ ap (drop from) is) ∙ length-drop from (octets_at cells c) ∙ ap (λ n. n - from) chain_whole in
      let count : length piece ≡ k = omega (arith, ap length q, length-take k part, inner, few) in
      let end : length new ≤ at + length piece = omega (arith, count, order, long) in
      let enough : from + k ≤ min (number_at cells c) 32 = holds k (omega (arith, few, near)) fits in
      let same : piece ≡ take k (drop from (octets_at cells c)) =
      q ∙ ap (take k) (p ∙ ap (drop from) is) in
      sym (take_all (at + length piece) new end)
      ∙ put
      ∙ ap (λ x. take at old ++ x) (same ∙ sym (part_is from k enough))
      ∙ so_far
    where
      holds : (k : ℕ) → from + k ≤ 32 → from + k ≤ length (octets_in cells c)
          → from + k ≤ min (number_at cells c) 32
      holds k low there = elim (more_or_last (number_at cells c)) [
        | inl more ↦ omega (arith, low, more)
        | inr last ↦ omega (arith, there, last_length last, last)
      ]

  -- one turn of the loop that copies all
  pub run_step : (at d : ℕ) (old new cell all start : List ℕ)
      → 32 < number_at cells c → cell ≡ octets_at cells c → d ≡ next_at cells c → at ≤ length old
      → new ≡ take at old ++ cell ++ drop (at + length cell) old
      → take (at + length cell) new ≡ take at old ++ cell
      → take at old ++ octets_in cells c ≡ all → drop at old ≡ drop at start
      → (take (at + 32) new ++ octets_in cells d ≡ all) × (drop (at + 32) new ≡ drop (at + 32) start)
  run_step at d old new cell all start more is e within whole put so_far tail =
      let long : length cell ≡ 32 = ap length is ∙ chain_whole in
      let there : at + 32 ≡ at + length cell = omega (arith, long) in
      let first : take (at + 32) new ≡ take at old ++ octets_at cells c =
      ap (λ k. take k new) there ∙ put ∙ ap (λ x. take at old ++ x) is in
      let parts : length (take at old ++ cell) ≡ at + 32 =
      omega (arith, length-append (take at old) cell, length-take at old, within, long) in (
        (ap (λ x. take (at + 32) new ++ octets_in cells x) e
            ∙ ap (λ x. x ++ octets_in cells (next_at cells c)) first
            ∙ append_assoc (take at old) (octets_at cells c) (octets_in cells (next_at cells c))
            ∙ ap (λ x. take at old ++ x) (sym (chain_more more))
            ∙ so_far),
        (ap (drop (at + 32)) whole
            ∙ drop_past (take at old ++ cell) (drop (at + length cell) old) (at + 32) 0 (omega (arith, parts))
            ∙ ap (λ k. drop k old) (sym there)
            ∙ sym (drop_drop 32 at (at + 32) old refl)
            ∙ ap (drop 32) tail
            ∙ drop_drop 32 at (at + 32) start refl),
      )

  pub run_last : (at count : ℕ) (old new cell piece all start : List ℕ)
      → number_at cells c ≤ 32 → count ≡ number_at cells c → cell ≡ octets_at cells c → piece ≡ take count cell
      → new ≡ take at old ++ piece ++ drop (at + length piece) old
      → take at old ++ octets_in cells c ≡ all → drop at old ≡ drop at start
      → new ≡ all ++ drop (at + count) start
  run_last at count old new cell piece all start last many is p whole so_far tail =
      let part : piece ≡ octets_in cells c =
      p ∙ ap (take count) is ∙ ap (λ k. take k (octets_at cells c)) many ∙ sym (chain_last last) in
      let long : length piece ≡ count = omega (arith, ap length part, last_length last, many) in
      whole
      ∙ ap (λ k. take at old ++ piece ++ drop (at + k) old) long
      ∙ ap (λ x. take at old ++ x ++ drop (at + count) old) part
      ∙ ap (λ x. x ++ drop (at + count) old) so_far
      ∙ ap (λ x. all ++ x)
      (sym (drop_drop count at (at + count) old refl)
      ∙ ap (drop count) tail
      ∙ drop_drop count at (at + count) start refl)

pub below : (from number : ℕ) → (32 ≤ from → number ≤ 32) → 32 < number → from < 32
below from number h more = elim (more_or_last (from + 1)) [
  | inl far ↦ absurd (omega (arith, h (omega (arith, far)), more))
  | inr near ↦ omega (arith, near)
]
