-- Pieces of a compaction one after another, during which the file that decides is only read.
use Rattle.std.proofs.Common.{◌≡◌, ◌≤◌, Option, inl, inr, ⊎_elim, ℕ, List, subst, sym, arith}
use Rattle.r53_disk.specs.Disk.{Rests}
use Rattle.store_model.specs.Laws.{PiecesFollow}
use Rattle.store_model.specs.Opening.{OpensConfig}
use Rattle.zone_journal.specs.Pairs.{EachPair}
use Rattle.zone_journal.specs.declared.answers.Side.TheVariants as side

module _ {D : Type 0} (reading : D → Option (List ℕ)) (images : D → List ℕ → Type 0)
    (moment : D → ℕ) (images_since : D → ℕ → List ℕ → Type 0)
    (P : List ℕ → List ℕ → Type 0) (a_old a_mid a_new b_old b_mid b_new : D)
    (first : EachPair moment images_since a_old a_mid b_old b_mid P)
    (second : EachPair moment images_since a_mid a_new b_mid b_new P) where
  a_goes_on : moment a_old ≤ moment a_new
  a_goes_on = omega (arith, first.a_later, second.a_later)

  b_goes_on : moment b_old ≤ moment b_new
  b_goes_on = omega (arith, first.b_later, second.b_later)

  -- an image since a moment at which time has stood still
  now_since : (disk d e : D) → moment e ≡ moment d → (x : List ℕ)
      → images_since disk (moment d) x → images_since disk (moment e) x
  now_since disk d e same x since = subst (λ t. images_since disk t x) (sym same) since

  -- the file of `a` is only read
  pub by_a : Rests reading images moment images_since a_old a_mid
      → Rests reading images moment images_since a_mid a_new
      → EachPair moment images_since a_old a_new b_old b_new P
  by_a r s = record {
    a_later = a_goes_on;
    b_later = b_goes_on;
    each = λ x y of_a of_b. ⊎_elim
        (λ was. first.each x y ((s.since (moment a_old) x).0 of_a) was) (λ p. p)
        (second.from_b (moment b_old) x y first.b_later
        (now_since a_new a_old a_mid r.at_moment x of_a) of_b);
    from_a = λ t x y le of_a of_b. inl ((r.since t x).0 ((s.since t x).0 of_a));
    from_b = λ t x y le of_a of_b. ⊎_elim
        (λ was. first.from_b t x y le ((s.since (moment a_old) x).0 of_a) was) inr
        (second.from_b t x y (omega (arith, le, first.b_later))
        (now_since a_new a_old a_mid r.at_moment x of_a) of_b);
  }

  -- the file of `b` is only read
  pub by_b : Rests reading images moment images_since b_old b_mid
      → Rests reading images moment images_since b_mid b_new
      → EachPair moment images_since a_old a_new b_old b_new P
  by_b r s = record {
    a_later = a_goes_on;
    b_later = b_goes_on;
    each = λ x y of_a of_b. ⊎_elim
        (λ was. first.each x y was ((s.since (moment b_old) y).0 of_b)) (λ p. p)
        (second.from_a (moment a_old) x y first.a_later of_a
        (now_since b_new b_old b_mid r.at_moment y of_b));
    from_a = λ t x y le of_a of_b. ⊎_elim
        (λ was. first.from_a t x y le was ((s.since (moment b_old) y).0 of_b)) inr
        (second.from_a t x y (omega (arith, le, first.a_later)) of_a
        (now_since b_new b_old b_mid r.at_moment y of_b));
    from_b = λ t x y le of_a of_b. inl ((r.since t y).0 ((s.since t y).0 of_b));
  }

module _ {D : Type 0} where
  pub pieces_follow : (reading : D → Option (List ℕ)) (images : D → List ℕ → Type 0)
      (moment : D → ℕ) (images_since : D → ℕ → List ℕ → Type 0)
      → PiecesFollow reading images moment images_since
  pieces_follow reading images moment images_since side.A config a b c d e f r s first second =
      by_a reading images moment images_since (λ x y. OpensConfig x y config) a b c d e f
      first second r s
  pieces_follow reading images moment images_since side.B config a b c d e f r s first second =
      by_b reading images moment images_since (λ x y. OpensConfig x y config) a b c d e f
      first second r s
