-- What a pair of files opens to.
use Rattle.std.proofs.Common.{◌≡◌, inl, inr, ⊎_elim, ℕ, ◌≤◌, List, arith}
use Rattle.file_building.specs.Disk.{LeavesOnly}
use Rattle.file_building.specs.Layout.{IsOpen, OpensTo, generation_of}
use Rattle.file_building.proofs.Opening.{opens_to_one}
use Rattle.zone_journal.specs.Pairs.{OpensPair, OpensBy, Yields, EachPair}
use Rattle.zone_journal.specs.declared.answers.Side.TheVariants.{A, B}
use Rattle.file_building.proofs.Gates.{is_open, has_generation}

-- both sides can't decide
one_side : (x y : List ℕ) (g h : ℕ) (s t : List ℕ) (es fs : List (List ℕ)) → OpensBy A x y g s es
    → OpensBy B y x h t fs → ⊥
one_side x y g h s t es fs of_a of_b =
    let le = of_a.1 (is_open y h t fs of_b.0) in
    let lt = of_b.1 (is_open x g s es of_a.0) in
    omega (arith, le, lt, has_generation x g s es of_a.0, has_generation y h t fs of_b.0)

same : (x : List ℕ) (g h : ℕ) (s t : List ℕ) (es fs : List (List ℕ)) → OpensTo x g s es
    → OpensTo x h t fs → (g ≡ h) × (s ≡ t) × (es ≡ fs)
same x g h s t es fs one two = let is = opens_to_one x g h s t es fs one two in
    (is.generation, is.snapshot, is.entries)

pub pair_opens_to_one : (x y : List ℕ) (g h : ℕ) (s t : List ℕ) (es fs : List (List ℕ))
    → OpensPair x y g s es → OpensPair x y h t fs → (g ≡ h) × (s ≡ t) × (es ≡ fs)
pair_opens_to_one x y g h s t es fs (inl one) (inl two) = same x g h s t es fs one.0 two.0
pair_opens_to_one x y g h s t es fs (inl one) (inr two) =
    absurd (one_side x y g h s t es fs one two)
pair_opens_to_one x y g h s t es fs (inr one) (inl two) =
    absurd (one_side x y h g t s fs es two one)
pair_opens_to_one x y g h s t es fs (inr one) (inr two) = same y g h s t es fs one.0 two.0

-- the side that decides is the one that the pair opens by
pub opens_by_a : (x y : List ℕ) (n : ℕ) → IsOpen x → generation_of x ≡ n → Yields A n y
    → (g : ℕ) (s : List ℕ) (es : List (List ℕ)) → OpensPair x y g s es → OpensBy A x y g s es
opens_by_a x y n open_x is yields g s es (inl by_a) = by_a
opens_by_a x y n open_x is yields g s es (inr by_b) =
    let le = yields (is_open y g s es by_b.0) in
    let lt = by_b.1 open_x in
    absurd (omega (arith, le, lt, is, has_generation y g s es by_b.0))

pub opens_by_b : (x y : List ℕ) (n : ℕ) → IsOpen y → generation_of y ≡ n → Yields B n x
    → (g : ℕ) (s : List ℕ) (es : List (List ℕ)) → OpensPair x y g s es → OpensBy B y x g s es
opens_by_b x y n open_y is yields g s es (inr by_b) = by_b
opens_by_b x y n open_y is yields g s es (inl by_a) =
    let lt = yields (is_open x g s es by_a.0) in
    let le = by_a.1 open_y in
    absurd (omega (arith, le, lt, is, has_generation x g s es by_a.0))

-- one disk is written and leaves Q, and the other one rests and has R
module _ {D : Type 0} (images : D → List ℕ → Type 0) (moment : D → ℕ) (images_since : D → ℕ → List ℕ
    → Type 0) (only_now : (d : D) (c : List ℕ) → images_since d (moment d) c → images d c) where
  pub written_a : (a_old a_new b_old b_new : D) (Q R : List ℕ → Type 0) (P : List ℕ → List ℕ
      → Type 0) → LeavesOnly moment images_since a_old a_new Q
      → moment b_old ≤ moment b_new
      → ((t : ℕ) (c : List ℕ) → images_since b_new t c → images_since b_old t c)
      → ((c : List ℕ) → images b_old c → R c) → ((x y : List ℕ) → Q x → R y → P x y)
      → EachPair moment images_since a_old a_new b_old b_new P
  written_a a_old a_new b_old b_new Q R P run later rests here to = record {
    a_later = run.later;
    b_later = later;
    each = λ x y of_a of_b. to x y (run.each x of_a) (there y of_b);
    from_a = λ t x y le of_a of_b. ⊎_elim inl (λ q. inr (to x y q (there y of_b)))
        (run.before t x le of_a);
    from_b = λ t x y le of_a of_b. inl (rests t y of_b);
  }
    where
      there : (y : List ℕ) → images_since b_new (moment b_old) y → R y
      there y of_b = here y (only_now b_old y (rests (moment b_old) y of_b))

  pub written_b : (a_old a_new b_old b_new : D) (Q R : List ℕ → Type 0) (P : List ℕ → List ℕ
      → Type 0) → LeavesOnly moment images_since b_old b_new Q
      → moment a_old ≤ moment a_new
      → ((t : ℕ) (c : List ℕ) → images_since a_new t c → images_since a_old t c)
      → ((c : List ℕ) → images a_old c → R c) → ((x y : List ℕ) → R x → Q y → P x y)
      → EachPair moment images_since a_old a_new b_old b_new P
  written_b a_old a_new b_old b_new Q R P run later rests here to = record {
    a_later = later;
    b_later = run.later;
    each = λ x y of_a of_b. to x y (there x of_a) (run.each y of_b);
    from_a = λ t x y le of_a of_b. inl (rests t x of_a);
    from_b = λ t x y le of_a of_b. ⊎_elim inl (λ q. inr (to x y (there x of_a) q))
        (run.before t y le of_b);
  }
    where
      there : (x : List ℕ) → images_since a_new (moment a_old) x → R x
      there x of_a = here x (only_now a_old x (rests (moment a_old) x of_a))
