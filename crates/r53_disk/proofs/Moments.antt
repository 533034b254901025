-- How a run of calls of a disk goes on.
use Rattle.std.proofs.Common.{Option, ◌∙◌, refl, inl, inr, ⊎_elim, ℕ, List, subst, sym, arith}
use Rattle.r53_disk.specs.Disk.{Elapses, LeavesOnly, Only, Rests, Settles}
use Rattle.r53_disk.specs.declared.disk.Done.{Done}
use Rattle.r53_disk.specs.declared.disk.Done.TheVariants as done

module _ {D : Type 0} (moment : D → ℕ) (images_since : D → ℕ → List ℕ → Type 0) where
  -- before the first call
  pub started : (old : D) (P : List ℕ → Type 0)
      → ((c : List ℕ) → images_since old (moment old) c → P c)
      → LeavesOnly moment images_since old old P
  started old P here = record { later = omega arith; each = here; before = λ t c le left. inl left }

  -- one call more, after which a crash leaves what has P
  pub goes_on : (images : D → List ℕ → Type 0) (old mid new : D) (P : List ℕ → Type 0)
      → LeavesOnly moment images_since old mid P → Elapses moment images_since images mid new
      → ((c : List ℕ) → images new c → P c) → LeavesOnly moment images_since old new P
  goes_on images old mid new P so_far time here = record {
    later = omega (arith, so_far.later, time.later);
    each = λ c left.
        ⊎_elim (so_far.each c) (here c) (time.nothing_else (moment old) c so_far.later left);
    before = λ t c le left. ⊎_elim (so_far.before t c le) (λ now. inr (here c now))
        (time.nothing_else t c (omega (arith, le, so_far.later)) left);
  }

  -- two runs after one another, of which each image has P
  pub joined : (old mid new : D) (P Q R : List ℕ → Type 0)
      → LeavesOnly moment images_since old mid P → LeavesOnly moment images_since mid new Q
      → ((c : List ℕ) → P c → R c) → ((c : List ℕ) → Q c → R c)
      → LeavesOnly moment images_since old new R
  joined old mid new P Q R first second left right = record {
    later = omega (arith, first.later, second.later);
    each = λ c now. ⊎_elim (λ was. left c (first.each c was)) (right c)
        (second.before (moment old) c first.later now);
    before = λ t c le now.
        ⊎_elim (λ was. ⊎_elim inl (λ p. inr (left c p)) (first.before t c le was))
        (λ q. inr (right c q)) (second.before t c (omega (arith, le, first.later)) now);
  }

  -- one run, of which each image has Q
  pub weaker : (old new : D) (P Q : List ℕ → Type 0) → LeavesOnly moment images_since old new P
      → ((c : List ℕ) → P c → Q c) → LeavesOnly moment images_since old new Q
  weaker old new P Q run to =
      record {
        later = run.later;
        each = λ c now. to c (run.each c now);
        before =
            λ t c le now. ⊎_elim inl (λ p. inr (to c p)) (run.before t c le now);
      }

-- a sync leaves no image that wasn't one
pub settled_within : (r : Done) (bytes : List ℕ) (old new : List ℕ → Type 0)
    → Settles r bytes old new → old bytes → (c : List ℕ) → new c → old c
settled_within done.Whole bytes old new settles here c now =
    subst (λ l. old l) (sym (settles c now)) here
settled_within done.Failed bytes old new settles here c now = (settles c).0 now

-- two calls that wrote nothing
pub rests_joined : {D : Type 0} {reading : D → Option (List ℕ)} {images : D → List ℕ
    → Type 0} {moment : D → ℕ} {images_since : D → ℕ → List ℕ → Type 0} {old mid new : D}
    → Rests reading images moment images_since old mid
    → Rests reading images moment images_since mid new
    → Rests reading images moment images_since old new
rests_joined a b = record {
  reads = b.reads ∙ a.reads;
  leaves = λ c. (
    λ now. (a.leaves c).0 ((b.leaves c).0 now),
    λ was. (b.leaves c).1 ((a.leaves c).1 was),
  );
  at_moment = b.at_moment ∙ a.at_moment;
  since = λ t c. (
    λ now. (a.since t c).0 ((b.since t c).0 now),
    λ was. (b.since t c).1 ((a.since t c).1 was),
  );
}

pub rests_here : {D : Type 0} (reading : D → Option (List ℕ)) (images : D → List ℕ
    → Type 0) (moment : D → ℕ) (images_since : D → ℕ → List ℕ → Type 0) (d : D)
    → Rests reading images moment images_since d d
rests_here reading images moment images_since d =
    record {
      reads = refl;
      leaves = λ c. (λ p. p, λ p. p);
      at_moment = refl;
      since =
          λ t c. (λ p. p, λ p. p);
    }

-- a run that begins with a call that wrote nothing
pub after_rest : {D : Type 0} (reading : D → Option (List ℕ)) (images : D → List ℕ
    → Type 0) (moment : D → ℕ) (images_since : D → ℕ → List ℕ
    → Type 0) (old mid new : D) (P : List ℕ → Type 0)
    → Rests reading images moment images_since old mid → LeavesOnly moment images_since mid new P
    → LeavesOnly moment images_since old new P
after_rest reading images moment images_since old mid new P rests run = record {
  later = omega (arith, rests.at_moment, run.later);
  each = λ c left. run.each c (subst (λ t. images_since new t c) (sym rests.at_moment) left);
  before = λ t c le left. ⊎_elim (λ was. inl ((rests.since t c).0 was)) inr
      (run.before t c (omega (arith, rests.at_moment, le)) left);
}

-- a run of calls that wrote nothing
pub at_rest : {D : Type 0} (reading : D → Option (List ℕ)) (images : D → List ℕ
    → Type 0) (moment : D → ℕ) (images_since : D → ℕ → List ℕ → Type 0) (old new : D) (P : List ℕ
    → Type 0)
    → Rests reading images moment images_since old new
    → ((c : List ℕ) → images_since old (moment old) c → P c)
    → LeavesOnly moment images_since old new P
at_rest reading images moment images_since old new P rests here = record {
  later = omega (arith, rests.at_moment);
  each = λ c left. here c ((rests.since (moment old) c).0 left);
  before = λ t c le left. inl ((rests.since t c).0 left);
}

-- what a crash left before a call that wrote nothing is the only thing that it leaves after it
pub only_still : {D : Type 0} {reading : D → Option (List ℕ)} {images : D → List ℕ
    → Type 0} {moment : D → ℕ} {images_since : D → ℕ → List ℕ
    → Type 0} {old new : D} {bytes : List ℕ}
    → Rests reading images moment images_since old new → Only bytes (images old)
    → Only bytes (images new)
only_still rests only c now = only c ((rests.leaves c).0 now)
