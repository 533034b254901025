-- One fork more on the way of a walk.
use Rattle.std.proofs.Common.{Bool, true, false, not, cond, refl, ◌≡◌, ℕ, ◌+◌, ◌-◌, ◌*◌, ◌%◌, ◌<◌, ◌≤◌, ◌⊎◌, ◌↔◌, List, length, max, sym, ap, ◌∙◌, subst, inl, inr, arith}
use Rattle.std.proofs.lemmas.Bool.{cases_lt, cases_eq}
use Rattle.address_text.specs.declared.address.IpAddress.{IpAddress}
use Rattle.ip_table.specs.declared.tree.Fork.{Fork}
use Rattle.ip_table.specs.declared.tree.Walked.{Walked}
use Rattle.ip_table.specs.Bits.{width_of, first_bits, SharesFirst}
use Rattle.ip_table.specs.Prefixes.{Prefix, Covers}
use Rattle.ip_table.specs.Trees.{prefix_at, fork_at, here, child, child_pair, bit_behind, IsChild, IsFork, IsTree, StandsBelow, AllPrefixes, IsTrueOf, IsDone, GoesOn}
use Rattle.ip_table.specs.Visits.{IsVisit}
use Rattle.ip_table.proofs.FirstBits.{halves, one_more, fewer, shares_fewer}
use Rattle.ip_table.proofs.Sightings.{done_past, sound_past}
use Rattle.ip_table.proofs.Walks.{Here, On, shallow, row_bits, ways}

-- whether the address has the bits of a fork, by how many bits of its row it shares
pub same_way : (prefixes : List Prefix) (forks : List Fork) (a : IpAddress) (width at : ℕ)
    → IsFork prefixes forks width at → (fork : Fork)
    → fork ≡ fork_at forks at
    → (shared : ℕ) → ((n : ℕ) → n ≤ (prefix_at prefixes fork.row).length
    → (n ≤ shared ↔ (first_bits n (prefix_at prefixes fork.row).address ≡ first_bits n a)))
    → (fork_at forks at).depth ≤ shared
    ↔ (first_bits (fork_at forks at).depth (here prefixes forks at).address
    ≡ first_bits (fork_at forks at).depth a)
same_way prefixes forks a width at ok fork is shared same =
    subst (λ (n : Fork). n.depth ≤ shared
    ↔ (first_bits n.depth (prefix_at prefixes n.row).address ≡ first_bits n.depth a)) is
    (same fork.depth
    (omega (
      arith,
      ok.depth,
      ap (λ (n : Fork). n.depth) is,
      ap (λ (n : Fork). (prefix_at prefixes n.row).length) is,
    )))

other_bit : (on : Bool) → cond (not on) 1 0 ≡ 1 - cond on 1 0
other_bit true = refl
other_bit false = refl

-- a row that shares fewer bits than it has doesn't contain the address
pub not_here : (prefixes : List Prefix) (forks : List Fork) (a : IpAddress) (width at : ℕ)
    → IsFork prefixes forks width at → (fork : Fork)
    → fork ≡ fork_at forks at
    → (shared : ℕ) → ((n : ℕ) → n ≤ (prefix_at prefixes fork.row).length
    → (n ≤ shared ↔ (first_bits n (prefix_at prefixes fork.row).address ≡ first_bits n a)))
    → shared < fork.long → Covers (here prefixes forks at) a → ⊥
not_here prefixes forks a width at ok fork is shared same less c =
    let e : (prefix_at prefixes fork.row).length ≤ shared =
    (same (prefix_at prefixes fork.row).length (omega arith)).1
    (subst (λ (n : Fork). first_bits (prefix_at prefixes n.row).length
    (prefix_at prefixes n.row).address ≡ first_bits (prefix_at prefixes n.row).length a) (sym is)
    c.bits) in
    omega (
      arith,
      e,
      less,
      ok.long,
      ap (λ (n : Fork). n.long) is,
      ap (λ (n : Fork). (prefix_at prefixes n.row).length) is,
    )

-- what a fork tells of the one to which the next bit leads, and of the other one
module _ (forks : List Fork) (a : IpAddress) (at : ℕ) (fork : Fork) (is : fork ≡ fork_at forks at)
    (on : Bool) (depth : ℕ) (level : depth ≡ (fork_at forks at).depth)
    (bit : cond on 1 0 ≡ bit_behind depth a) where
  bit_is : cond on 1 0 ≡ bit_behind (fork_at forks at).depth a
  bit_is = bit ∙ ap (λ d. bit_behind d a) level

  pub next_pair : (w : ℕ) → w ≡ child_pair fork (cond on 1 0)
      → w ≡ child_pair (fork_at forks at) (bit_behind (fork_at forks at).depth a)
  next_pair w e =
      e ∙ ap (λ (n : Fork). child_pair n (cond on 1 0)) is
      ∙ ap (child_pair (fork_at forks at)) bit_is

  pub other_pair : (w : ℕ) → w ≡ child_pair fork (cond (not on) 1 0)
      → w ≡ child_pair (fork_at forks at) (1 - bit_behind (fork_at forks at).depth a)
  other_pair w e =
      e ∙ ap (child_pair fork) (other_bit on)
      ∙ ap (λ (n : Fork). child_pair n (1 - cond on 1 0)) is
      ∙ ap (λ b. child_pair (fork_at forks at) (1 - b)) bit_is

module _ (prefixes : List Prefix) (forks : List Fork) (a : IpAddress) (all : AllPrefixes prefixes)
    (tree : IsTree prefixes forks (width_of a))
    (at : ℕ) (within : at < length forks) where
  -- The address shares fewer bits with the row that stands here than all rows here and below do: so
  -- it does with each.
  module _ (walked : Walked) (done : IsDone prefixes a walked (fork_at forks at).row)
      (differ : ¬ (first_bits (fork_at forks at).depth (here prefixes forks at).address
      ≡ first_bits (fork_at forks at).depth a)) where
    covers_not : (row : ℕ) → StandsBelow forks at row → (n : ℕ) → (fork_at forks at).depth ≤ n
        → SharesFirst n (prefix_at prefixes row).address a → ⊥
    covers_not row s n more shares =
        let b = row_bits prefixes forks (width_of a) all tree at row within s in
        differ (sym b.1 ∙ fewer (fork_at forks at).depth n _ a more shares.bits)

    pub done_aside : (row : ℕ) → StandsBelow forks at row → IsDone prefixes a walked row
    done_aside row s =
        let d = (fork_at forks at).depth in
        let fork = tree.each at within in
        let b = row_bits prefixes forks (width_of a) all tree at row within s in
        record {
          covers = λ c. absurd (covers_not row s (prefix_at prefixes row).length b.0 c);
          apart = λ n shares. elim (cases_lt walked.past d) [
            | inl less ↦
                done.apart
                (λ c. differ (fewer d (here prefixes forks at).length _ a fork.depth c.bits))
                record {
                  family = fork.family;
                  bits = sym (fewer walked.past d _ _ (omega arith) b.1) ∙ shares.bits;
                }
            | inr more ↦ covers_not row s walked.past more shares
          ];
        }

    pub turned : (old : Walked) → IsTrueOf prefixes a walked
        → ((r : ℕ) → IsDone prefixes a old r → IsDone prefixes a walked r)
        → IsVisit prefixes forks a at old (record { walked = walked; next = 0; place = 0 })
    turned old s keeps = record {
      goes = λ (some : 0 < 0). absurd (omega arith);
      place = λ (some : 0 < 0). absurd (omega arith);
      sound = s;
      each = λ row h family before. elim before [
        | inl ahead ↦ inr (done_aside row ahead)
        | inr over ↦ inr (keeps row over)
      ];
    }

  -- A row on the way that doesn't contain the address shares more bits than the fork is deep.
  pub past_deep : (first_bits (fork_at forks at).depth (here prefixes forks at).address
      ≡ first_bits (fork_at forks at).depth a) → (walked : Walked)
      → IsDone prefixes a walked (fork_at forks at).row
      → (Covers (here prefixes forks at) a → ⊥) → (fork_at forks at).depth < walked.past
  past_deep way walked done not = elim (cases_lt (fork_at forks at).depth walked.past) [
    | inl deep ↦ deep
    | inr few ↦ absurd (done.apart not record {
      family = (tree.each at within).family;
      bits = fewer walked.past (fork_at forks at).depth (here prefixes forks at).address a few way;
    })
  ]

  -- The address has the bits that all rows here and below have in common.
  module _ (way : first_bits (fork_at forks at).depth (here prefixes forks at).address
      ≡ first_bits (fork_at forks at).depth a)
      (mid new : Walked) (other next : ℕ)
      (other_is : other ≡ child (fork_at forks at) (1 - bit_behind (fork_at forks at).depth a))
      (next_is : next ≡ child (fork_at forks at) (bit_behind (fork_at forks at).depth a))
      (same : new.found ≡ mid.found) (kept : new.long ≡ mid.long)
      (past : ((new.past ≡ max mid.past ((fork_at forks at).depth + 1)) × (0 < other))
      ⊎ ((new.past ≡ mid.past) × (other ≡ 0))) where
    -- a row that stands aside begins with the bits of the way so far, and then with the other bit
    sound_aside : new.past ≡ max mid.past ((fork_at forks at).depth + 1) → 0 < other
        → IsTrueOf prefixes a mid → IsTrueOf prefixes a new
    sound_aside more some s =
        let d = (fork_at forks at).depth in
        let bit = bit_behind d a in
        let kid : IsChild prefixes forks at (1 - bit) other =
        subst (λ i. IsChild prefixes forks at (1 - bit) i) (sym other_is)
        ((tree.each at within).children (1 - bit) (omega arith) (subst (λ i. 0 < i) other_is some))
        in
        let fork = tree.each other kid.within in
        let own = (here prefixes forks other).address in
        let low : d < 128 =
        omega (arith, kid.deeper, shallow prefixes forks (width_of a) all tree other kid.within)
        in
        let turn : first_bits (d + 1) own ≡ 2 * first_bits d a + (1 - bit) = kid.bits
        ∙ ap (λ x. 2 * x + (1 - bit)) way in
        let start : first_bits d own ≡ first_bits d a = omega (arith, halves d own low, turn) in
        sound_past prefixes a mid new (d + 1) (fork_at forks other).row fork.row
        (λ c. absurd (omega (
          arith,
          turn,
          one_more d a low,
          (shares_fewer (d + 1) (here prefixes forks other).length own a
              (omega (arith, fork.depth, kid.deeper)) c).bits,
        )))
        (λ n less. record { family = fork.family; bits = fewer n d own a (omega arith) start })
        same kept more s

    sound_same : new.past ≡ mid.past → IsTrueOf prefixes a mid → IsTrueOf prefixes a new
    sound_same e s =
        record {
          found = λ r f. let b = s.found r (sym same ∙ f) in (b.0, b.1, kept ∙ b.2);
          below =
              λ n h. s.below n (omega arith);
        }

    pub sound : IsTrueOf prefixes a mid → IsTrueOf prefixes a new
    sound s = elim past [ inl more ↦ sound_aside more.0 more.1 s | inr none ↦ sound_same none.0 s ]

    -- the bits before the next window are among those that lead to the fork
    pub goes : 0 < next → GoesOn prefixes forks a at next
    goes some =
        let d = (fork_at forks at).depth in
        let bit = bit_behind d a in
        let kid : IsChild prefixes forks at bit next =
        subst (λ i. IsChild prefixes forks at bit i) (sym next_is)
        ((tree.each at within).children bit (omega arith) (subst (λ i. 0 < i) next_is some)) in
        let own = (here prefixes forks next).address in
        let low : d < 128 =
        omega (arith, kid.deeper, shallow prefixes forks (width_of a) all tree next kid.within)
        in
        let begin : first_bits d own ≡ first_bits d a =
        omega (arith, halves d own low, kid.bits, way) in
        record {
          within = kid.within;
          deeper = kid.deeper;
          meets = fewer (fork_at forks next).start d own a kid.start begin;
        }

    no_less : mid.past ≤ new.past
    no_less = elim past [ inl more ↦ omega (arith, more.0) | inr none ↦ omega (arith, none.0) ]

    -- a row behind the other bit is not on the way
    aside : (row : ℕ) → row < length prefixes
        → (0 < child (fork_at forks at)
        (bit_behind (fork_at forks at).depth (prefix_at prefixes row).address))
        → StandsBelow forks
        (child (fork_at forks at)
        (bit_behind (fork_at forks at).depth (prefix_at prefixes row).address)) row
        → bit_behind (fork_at forks at).depth (prefix_at prefixes row).address
        ≡ bit_behind (fork_at forks at).depth a ⊎ IsDone prefixes a new row
    aside row h some s =
        elim (cases_eq (bit_behind (fork_at forks at).depth (prefix_at prefixes row).address)
        (bit_behind (fork_at forks at).depth a)) [
          | inl one ↦ inl one
          | inr two ↦
              let d = (fork_at forks at).depth in
              let own = (prefix_at prefixes row).address in
              let kid = (tree.each at within).children (bit_behind d own) (omega arith) some in
              let b = row_bits prefixes forks (width_of a) all tree
              (child (fork_at forks at) (bit_behind d own)) row kid.within s in
              let long : d + 1 ≤ (prefix_at prefixes row).length = omega (arith, kid.deeper, b.0) in
              let differ : first_bits (d + 1) own ≡ first_bits (d + 1) a
              → ⊥ = λ e. two (ap (λ x. x % 2) e) in
              let turned : bit_behind d own ≡ 1 - bit_behind d a = omega arith in
              elim past [
                | inl more ↦ inr record {
                  covers = λ c. absurd (differ (shares_fewer (d + 1) _ _ a long c).bits);
                  apart = λ n shares.
                      differ (shares_fewer (d + 1) new.past _ a (omega (arith, more.0))
                      shares).bits;
                }
                | inr none ↦
                    absurd (omega (
                      arith,
                      subst (λ b. 0 < child (fork_at forks at) b) turned some,
                      other_is,
                      none.1,
                    ))
              ]
        ]

    pub each : (old : Walked) → IsDone prefixes a mid (fork_at forks at).row
        → ((r : ℕ) → IsDone prefixes a old r → IsDone prefixes a mid r)
        → (row : ℕ) → row < length prefixes → (StandsBelow forks at row ⊎ IsDone prefixes a old row)
        → ((0 < next) × StandsBelow forks next row) ⊎ IsDone prefixes a new row
    each old done keeps row h before =
        elim before [
          | inr over ↦ inr (done_past prefixes a mid new no_less same row (keeps row over))
          | inl ahead ↦ elim (ways prefixes forks (width_of a) all tree at row within ahead) [
            | Here is ↦
                inr (done_past prefixes a mid new no_less same row
                (subst (λ r. IsDone prefixes a mid r) is done))
            | On some stands ↦ elim (aside row h some stands) [
              | inr over ↦ inr over
              | inl one ↦
                  let is = ap (child (fork_at forks at)) one ∙ sym next_is in
                  inl (subst (λ i. 0 < i) is some, subst (λ i. StandsBelow forks i row) is stands)
            ]
          ]
        ]

    pub visited : (old : Walked) (deep : ℕ)
        → deep ≡ child_pair (fork_at forks at) (bit_behind (fork_at forks at).depth a) % 256
        → IsTrueOf prefixes a mid → IsDone prefixes a mid (fork_at forks at).row
        → ((r : ℕ) → IsDone prefixes a old r → IsDone prefixes a mid r)
        → IsVisit prefixes forks a at old (record { walked = new; next = next; place = deep })
    visited old deep is s done keeps = record {
      goes = goes;
      place = λ (some : 0 < next).
          let bit = bit_behind (fork_at forks at).depth a in
          let kid : IsChild prefixes forks at bit next =
          subst (λ i. IsChild prefixes forks at bit i) (sym next_is)
          ((tree.each at within).children bit (omega arith) (subst (λ i. 0 < i) next_is some)) in
          omega (arith, is, kid.child_depth);
      sound = sound s;
      each = λ row h family before. each old done keeps row h before;
    }
