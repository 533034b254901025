-- A row is put into the tree of its family.
use Rattle.std.proofs.Common.{◌≡◌, ◌≢◌, ℕ, ◌+◌, ◌-◌, ◌*◌, ◌/◌, ◌%◌, ◌<◌, ◌≤◌, ◌⊎◌, ◌↔◌, List, [], ◌∷◌, ◌++◌, length, refl, sym, ap, ◌∙◌, subst, inl, inr, arith, zero, suc, length-append, length-set, get_or-set_same, get_or-set_other}
use Rattle.std.specs.Prelude.{slice_set}
use Rattle.std.proofs.lemmas.Bool.{cases_lt, cases_eq}
use Rattle.std.proofs.lemmas.List.{get_or_append_left, get_or_push}
use Rattle.ip_table.specs.declared.tree.Fork.{Fork}
use Rattle.ip_table.specs.Bits.{width_of, first_bits}
use Rattle.ip_table.specs.Prefixes.{Prefix}
use Rattle.ip_table.specs.Trees.{prefix_at, fork_at, here, child_pair, child, child_depth, pair_of, bit_behind, Leads, IsChild, IsFork, AllStand, AllPrefixes, AreApart, IsCarried, IsGrown, window, taken_by, leaf, linked, grown}
use Rattle.ip_table.proofs.Octets.{one_prefix}
use Rattle.ip_table.proofs.FirstBits.{one_more, fewer}
use Rattle.ip_table.proofs.Walks.{width_low, shallow, one_further}

-- The forks of a tree are kept: their depths, where their windows begin, and the bits of the rows
-- there and below.
record Keeps (prefixes : List Prefix) (forks new : List Fork) : Type 0 where
  pub long : length forks ≤ length new
  pub depth : (i : ℕ) → i < length forks → (fork_at new i).depth ≡ (fork_at forks i).depth
  pub start : (i : ℕ) → i < length forks → (fork_at new i).start ≡ (fork_at forks i).start
  pub bits : (i : ℕ) → i < length forks
      → first_bits (fork_at forks i).depth (here prefixes new i).address
      ≡ first_bits (fork_at forks i).depth
      (here prefixes forks i).address

kid_kept : (prefixes : List Prefix) (forks new : List Fork) → Keeps prefixes forks new
    → (i bit k : ℕ) → i < length forks
    → child_pair (fork_at new i) bit ≡ child_pair (fork_at forks i) bit → IsChild prefixes forks i bit k
    → IsChild prefixes new i bit k
kid_kept prefixes forks new keeps i bit k h same kid =
    let up = keeps.depth i h in
    let down = keeps.depth k kid.within in
    let own = (here prefixes new k).address in
    let d = (fork_at forks i).depth in
    record {
      within = omega (arith, kid.within, keeps.long);
      deeper = omega (arith, kid.deeper, up, down);
      child_depth = ap (λ w. 255 - w % 256) same ∙ kid.child_depth ∙ sym down;
      start = omega (arith, kid.start, up, keeps.start k kid.within);
      bits = subst (λ n. first_bits (n + 1) own
          ≡ 2 * first_bits n (here prefixes new i).address + bit) (sym up)
          (fewer (d + 1) (fork_at forks k).depth _ _ (omega (arith, kid.deeper))
          (keeps.bits k kid.within) ∙ kid.bits
          ∙ ap (λ x. 2 * x + bit) (sym (keeps.bits i h)));
    }

-- where each fork leads as before, a way stays one
same_leads : (forks new : List Fork)
    → ((i bit : ℕ) → child (fork_at new i) bit ≡ child (fork_at forks i) bit) → (k above at : ℕ)
    → Leads forks k above at → Leads new k above at
same_leads forks new same zero above at l = l
same_leads forks new same (suc k) above at l =
    let e = same above l.0 in (
      l.0,
      l.1,
      subst (λ i. 0 < i) (sym e) l.2,
      subst (λ i. Leads new k i at) (sym e)
          (same_leads forks new same k (child (fork_at forks above) l.0) at l.3),
    )

-- a leaf leads nowhere
no_child : (prefixes : List Prefix) (start depth row b : ℕ)
    → child_pair (leaf prefixes start depth row) b ≡ 0
no_child prefixes start depth row zero = refl
no_child prefixes start depth row (suc b) = refl

-- what stands at a place after a write
at_set : (forks : List Fork) (at i : ℕ) (fork : Fork) → at < length forks
    → ((i ≡ at) × (fork_at (slice_set forks at fork) i ≡ fork))
    ⊎ ((i ≢ at) × (fork_at (slice_set forks at fork) i ≡ fork_at forks i))
at_set forks at i fork h = elim (cases_eq i at) [
  | inl e ↦
      inl (e, ap (λ k. fork_at (slice_set forks at fork) k) e ∙ get_or-set_same forks at fork _ h)
  | inr ne ↦ inr (ne, get_or-set_other forks at i fork _ ne)
]

-- A link changes none of these.
pub record Alike (n m : Fork) : Type 0 where
  pub row : n.row ≡ m.row
  pub window : n.window ≡ m.window
  pub start : n.start ≡ m.start
  pub long : n.long ≡ m.long
  pub depth : n.depth ≡ m.depth

pub linked_alike : (n : Fork) (b k : ℕ) → Alike (linked n b k) n
linked_alike n zero k =
    record { row = refl; window = refl; start = refl; long = refl; depth = refl }
linked_alike n (suc b) k =
    record { row = refl; window = refl; start = refl; long = refl; depth = refl }

linked_child : (n : Fork) (b k : ℕ) → child_pair (linked n b k) b ≡ k
linked_child n zero k = refl
linked_child n (suc b) k = refl

linked_other : (n : Fork) (b other k : ℕ) → b < 2 → other < 2 → other ≢ b
    → child_pair (linked n b k) other ≡ child_pair n other
linked_other n zero zero k low below ne = absurd (ne refl)
linked_other n zero (suc o) k low below ne = refl
linked_other n (suc b) zero k low below ne = refl
linked_other n (suc b) (suc o) k low below ne = absurd (omega arith)

-- the two parts of what is told
told_at : (at d : ℕ) → d ≤ 128 → pair_of at d / 256 ≡ at
told_at at d low = omega arith

told_depth : (at d : ℕ) → d ≤ 128 → 255 - pair_of at d % 256 ≡ d
told_depth at d low = omega arith

-- A fork for a row can stand between another fork and what that leads to by a bit.
pub record Fits (prefixes : List Prefix) (forks : List Fork) (above bit row : ℕ)
    (fork : Fork) : Type 0 where
  pub row_is : fork.row ≡ row
  pub low : fork.start ≤ 96
  pub flat : width_of (prefix_at prefixes row).address ≡ 32 → fork.start ≡ 0
  pub start : fork.start ≤ (fork_at forks above).depth
  pub behind : fork.window ≡ window fork.start (prefix_at prefixes row).address
  pub long : fork.long ≡ (prefix_at prefixes row).length
  pub deeper : (fork_at forks above).depth < fork.depth
  pub depth : fork.depth ≤ (prefix_at prefixes row).length
  pub keeps : 0 < child (fork_at forks above) bit
      → (side : ℕ) × (side < 2) × (child fork side ≡ child (fork_at forks above) bit)
  pub kids : (side : ℕ) → side < 2 → 0 < child fork side
      → (child fork side ≡ child (fork_at forks above) bit)
      × (fork.depth < (fork_at forks (child fork side)).depth)
      × (child_depth fork side ≡ (fork_at forks (child fork side)).depth)
      × (first_bits (fork.depth + 1) (here prefixes forks (child fork side)).address
      ≡ 2 * first_bits fork.depth (prefix_at prefixes row).address + side)

module _ (prefixes : List Prefix) (forks : List Fork) (width at row : ℕ)
    (all : AllPrefixes prefixes)
    (c : IsCarried prefixes forks width at row) where
  -- The row is as long as the fork is deep: it takes this place, and the one that stood here is
  -- carried on.
  module _ (new : List Fork) (is : new
      ≡ slice_set forks at (taken_by (fork_at forks at) prefixes row)) where
    put : (i : ℕ) → ((i ≡ at) × (fork_at new i ≡ taken_by (fork_at forks at) prefixes row))
        ⊎ ((i ≢ at) × (fork_at new i ≡ fork_at forks i))
    put i = subst (λ ns. ((i ≡ at) × (fork_at ns i ≡ taken_by (fork_at forks at) prefixes row))
        ⊎ ((i ≢ at) × (fork_at ns i ≡ fork_at forks i)))
        (sym is)
        (at_set forks at i (taken_by (fork_at forks at) prefixes row) c.inside)

    same_long : length new ≡ length forks
    same_long = ap length is ∙ length-set forks at _

    same_depth : (i : ℕ) → (fork_at new i).depth ≡ (fork_at forks i).depth
    same_depth i = elim (put i) [
      | inl e ↦ ap (λ (n : Fork). n.depth) e.1 ∙ ap (λ k. (fork_at forks k).depth) (sym e.0)
      | inr e ↦ ap (λ (n : Fork). n.depth) e.1
    ]

    same_start : (i : ℕ) → (fork_at new i).start ≡ (fork_at forks i).start
    same_start i = elim (put i) [
      | inl e ↦ ap (λ (n : Fork). n.start) e.1 ∙ ap (λ k. (fork_at forks k).start) (sym e.0)
      | inr e ↦ ap (λ (n : Fork). n.start) e.1
    ]

    word_same : (i bit : ℕ) → child_pair (fork_at new i) bit ≡ child_pair (fork_at forks i) bit
    word_same i bit = elim (put i) [
      | inl e ↦ ap (λ (n : Fork). child_pair n bit) e.1 ∙ ap (λ k. child_pair (fork_at forks k) bit) (sym e.0)
      | inr e ↦ ap (λ (n : Fork). child_pair n bit) e.1
    ]

    child_same : (i bit : ℕ) → child (fork_at new i) bit ≡ child (fork_at forks i) bit
    child_same i bit = ap (λ w. w / 256) (word_same i bit)

    same_bits : (i : ℕ) → first_bits (fork_at forks i).depth (here prefixes new i).address
        ≡ first_bits (fork_at forks i).depth (here prefixes forks i).address
    same_bits i = elim (put i) [
      | inl e ↦
          ap (λ (n : Fork). first_bits (fork_at forks i).depth (prefix_at prefixes n.row).address)
          e.1
          ∙ subst (λ k. first_bits (fork_at forks k).depth (prefix_at prefixes row).address
          ≡ first_bits (fork_at forks k).depth (here prefixes forks k).address) (sym e.0)
          (sym c.bits)
      | inr e ↦
          ap (λ (n : Fork). first_bits (fork_at forks i).depth (prefix_at prefixes n.row).address)
          e.1
    ]

    kept : Keeps prefixes forks new
    kept = record {
      long = omega (arith, same_long);
      depth = λ i h. same_depth i;
      start =
          λ i h. same_start i;
      bits = λ i h. same_bits i;
    }

    put_kids : (i : ℕ) → i < length forks → (bit : ℕ) → bit < 2 → 0 < child (fork_at new i) bit
        → IsChild prefixes new i bit (child (fork_at new i) bit)
    put_kids i h bit low some =
        let e = child_same i bit in
        subst (λ k. IsChild prefixes new i bit k) (sym e)
        (kid_kept prefixes forks new kept i bit _ h (word_same i bit)
        ((c.tree.each i h).children bit low (subst (λ k. 0 < k) e some)))

    put_fork : (i : ℕ) → i < length forks → IsFork prefixes new width i
    put_fork i h = elim (put i) [
      | inl e ↦
          let this : (fork_at new i).row ≡ row = ap (λ (n : Fork). n.row) e.1 in
          record {
            row = subst (λ r. r < length prefixes) (sym this) c.within;
            family = ap (λ r. width_of (prefix_at prefixes r).address) this ∙ c.family;
            depth = omega (
              arith,
              same_depth i,
              ap (λ k. (fork_at forks k).depth) e.0,
              ap (λ r. (prefix_at prefixes r).length) this,
              c.long,
            );
            long = ap (λ (n : Fork). n.long) e.1
                ∙ ap (λ r. (prefix_at prefixes r).length) (sym this);
            low = omega (arith, same_start i, (c.tree.each i h).low);
            flat = λ v4. same_start i ∙ (c.tree.each i h).flat v4;
            behind = ap (λ (n : Fork). n.window) e.1
                ∙ ap (λ s. window s (prefix_at prefixes row).address)
                (sym (ap (λ (n : Fork). n.start) e.1))
                ∙ ap (λ r. window (fork_at new i).start (prefix_at prefixes r).address) (sym this);
            children = put_kids i h;
          }
      | inr e ↦
          let before = c.tree.each i h in
          let this : (fork_at new i).row ≡ (fork_at forks i).row = ap (λ (n : Fork). n.row) e.1 in
          record {
            row = subst (λ r. r < length prefixes) (sym this) before.row;
            family = ap (λ r. width_of (prefix_at prefixes r).address) this ∙ before.family;
            depth = omega (
              arith,
              same_depth i,
              ap (λ r. (prefix_at prefixes r).length) this,
              before.depth,
            );
            long = ap (λ (n : Fork). n.long) e.1 ∙ before.long
                ∙ ap (λ r. (prefix_at prefixes r).length) (sym this);
            low = omega (arith, same_start i, before.low);
            flat = λ v4. same_start i ∙ before.flat v4;
            behind = ap (λ (n : Fork). n.window) e.1 ∙ before.behind
                ∙ ap (λ (n : Fork). window n.start (prefix_at prefixes n.row).address) (sym e.1);
            children = put_kids i h;
          }
    ]

    rows_apart : (i j : ℕ) → i < length forks → j < length forks
        → (fork_at new i).row ≡ (fork_at new j).row → i ≡ j
    rows_apart i j h k e = elim (put i) [
      | inl x ↦ elim (put j) [
        | inl y ↦ x.0 ∙ sym y.0
        | inr y ↦
            absurd (c.fresh j k (sym (ap (λ (n : Fork). n.row) y.1) ∙ sym e
            ∙ ap (λ (n : Fork). n.row) x.1))
      ]
      | inr x ↦ elim (put j) [
        | inl y ↦
            absurd (c.fresh i h (sym (ap (λ (n : Fork). n.row) x.1) ∙ e
            ∙ ap (λ (n : Fork). n.row) y.1))
        | inr y ↦
            c.tree.apart i j h k (sym (ap (λ (n : Fork). n.row) x.1) ∙ e
            ∙ ap (λ (n : Fork). n.row) y.1)
      ]
    ]

    put_others : AllStand prefixes new width (fork_at forks at).row
    put_others r h family ne = elim (cases_eq r row) [
      | inl e ↦ record {
        steps = c.steps;
        at = at;
        within = subst (λ n. at < n) (sym same_long) c.inside;
        leads = same_leads forks new child_same c.steps 0 at c.leads;
        is = elim (put at) [
          | inl x ↦ ap (λ (n : Fork). n.row) x.1 ∙ sym e
          | inr x ↦ absurd (x.0 refl)
        ];
      }
      | inr other ↦
          let s = c.others r h family other in
          record {
            steps = s.steps;
            at = s.at;
            within = subst (λ n. s.at < n) (sym same_long) s.within;
            leads = same_leads forks new child_same s.steps 0 s.at s.leads;
            is = elim (put s.at) [
              | inl x ↦ absurd (ne (sym s.is ∙ ap (λ k. (fork_at forks k).row) x.0))
              | inr x ↦ ap (λ (n : Fork). n.row) x.1
                  ∙ s.is
            ];
          }
    ]

    pub carried_on : IsCarried prefixes new width at (fork_at forks at).row
    carried_on =
        let before = c.tree.each at c.inside in
        record {
          tree = record {
            root = same_depth 0 ∙ c.tree.root;
            begin = same_start 0 ∙ c.tree.begin;
            each = λ i h. put_fork i (subst (λ n. i < n) same_long h);
            apart = λ i j h k e. rows_apart i j (subst (λ n. i < n) same_long h)
                (subst (λ n. j < n) same_long k) e;
          };
          within = before.row;
          family = before.family;
          fresh = λ i h e. elim (put i) [
            | inl x ↦ c.fresh at c.inside (sym e ∙ ap (λ (n : Fork). n.row) x.1)
            | inr x ↦
                x.0 (c.tree.apart i at (subst (λ n. i < n) same_long h) c.inside
                (sym (ap (λ (n : Fork). n.row) x.1) ∙ e))
          ];
          inside = subst (λ n. at < n) (sym same_long) c.inside;
          steps = c.steps;
          leads = same_leads forks new child_same c.steps 0 at c.leads;
          bits = subst (λ d. first_bits d (here prefixes new at).address
              ≡ first_bits d (here prefixes forks at).address) (sym (same_depth at))
              (same_bits at);
          long = omega (arith, same_depth at, before.depth);
          others = put_others;
        }

    -- The row that stood here is longer, since another one has all the bits that lead here.
    pub goes_deeper : AreApart prefixes → (prefix_at prefixes row).length ≡ (fork_at forks at).depth
        → (fork_at new at).depth < (here prefixes forks at).length
    goes_deeper apart e =
        let before = c.tree.each at c.inside in
        elim (cases_lt (fork_at forks at).depth (here prefixes forks at).length) [
          | inl less ↦ omega (arith, same_depth at)
          | inr equal ↦
              let level : (here prefixes forks at).length ≡ (fork_at forks at).depth =
              omega (arith, before.depth) in
              absurd (c.fresh at c.inside (apart (fork_at forks at).row row before.row c.within
              (one_prefix _ _ (all _ before.row) (all row c.within) (level ∙ sym e) record {
                family = before.family ∙ sym c.family;
                bits = subst (λ n. first_bits n (here prefixes forks at).address
                    ≡ first_bits n (prefix_at prefixes row).address) (sym level) c.bits;
              })))
        ]

  -- The row is longer, and gets a fork of its own behind its next bit.
  module _ (bit : ℕ) (bit_is : bit
      ≡ bit_behind (fork_at forks at).depth (prefix_at prefixes row).address) (fork : Fork)
      (fits : Fits prefixes forks at bit row fork)
      (new : List Fork) (is : new ≡ grown forks at bit fork) where
    low_bit : bit < 2
    low_bit = omega arith

    abbrev link : ℕ
    link = pair_of (length forks) fork.depth

    fork_low : fork.depth ≤ 128
    fork_low =
        omega (
          arith,
          fits.depth,
          (all row c.within).within,
          width_low (prefix_at prefixes row).address,
        )

    long_set : length (slice_set forks at (linked (fork_at forks at) bit link)) ≡ length forks
    long_set = length-set forks at _

    longer : length new ≡ length forks + 1
    longer = ap length is ∙ omega (arith, length-append {A = Fork}, long_set)

    grew : (i : ℕ) → i < length forks
        → ((i ≡ at) × (fork_at new i ≡ linked (fork_at forks at) bit link))
        ⊎ ((i ≢ at) × (fork_at new i ≡ fork_at forks i))
    grew i h =
        let front : fork_at new i
        ≡ fork_at (slice_set forks at (linked (fork_at forks at) bit link)) i =
        ap (λ ns. fork_at ns i) is
        ∙ get_or_append_left (slice_set forks at (linked (fork_at forks at) bit link)) _ _ i
        (subst (λ n. i < n) (sym long_set) h) in
        elim (at_set forks at i (linked (fork_at forks at) bit link) c.inside) [
          | inl e ↦ inl (e.0, front ∙ e.1)
          | inr e ↦ inr (e.0, front ∙ e.1)
        ]

    last : fork_at new (length forks) ≡ fork
    last = ap (λ ns. fork_at ns (length forks)) is ∙ get_or_push _ _ _ _ long_set

    alike : (i : ℕ) → i < length forks → Alike (fork_at new i) (fork_at forks i)
    alike i h = elim (grew i h) [
      | inl e ↦ subst (λ k. Alike (fork_at new i) (fork_at forks k)) (sym e.0)
          (subst (λ n. Alike n (fork_at forks at)) (sym e.1)
          (linked_alike (fork_at forks at) bit link))
      | inr e ↦
          subst (λ n. Alike n (fork_at forks i)) (sym e.1) record {
            row = refl;
            window =
                refl;
            start = refl;
            long = refl;
            depth = refl;
          }
    ]

    -- where a fork leads now
    leads_now : (i b : ℕ) → i < length forks → b < 2
        → ((i ≡ at) × (b ≡ bit) × (child_pair (fork_at new i) b ≡ link))
        ⊎ (child_pair (fork_at new i) b ≡ child_pair (fork_at forks i) b)
    leads_now i b h low = elim (grew i h) [
      | inl e ↦ elim (cases_eq b bit) [
        | inl same ↦ inl (
          e.0,
          same,
          ap (λ (n : Fork). child_pair n b) e.1
              ∙ ap (λ x. child_pair (linked (fork_at forks at) bit link) x) same
              ∙ linked_child _ bit _,
        )
        | inr other ↦
            inr (ap (λ (n : Fork). child_pair n b) e.1 ∙ linked_other _ bit b _ low_bit low other
            ∙ ap (λ k. child_pair (fork_at forks k) b) (sym e.0))
      ]
      | inr e ↦ inr (ap (λ (n : Fork). child_pair n b) e.1)
    ]

    grown_keeps : Keeps prefixes forks new
    grown_keeps = record {
      long = omega (arith, longer);
      depth = λ i h. (alike i h).depth;
      start = λ i h. (alike i h).start;
      bits = λ i h. ap (λ r. first_bits (fork_at forks i).depth (prefix_at prefixes r).address)
          (alike i h).row;
    }

    on_word : child_pair (fork_at new at) bit ≡ link
    on_word = elim (grew at c.inside) [
      | inl y ↦ ap (λ (n : Fork). child_pair n bit) y.1 ∙ linked_child _ bit _
      | inr y ↦ absurd (y.0 refl)
    ]

    on_child : child (fork_at new at) bit ≡ length forks
    on_child = ap (λ w. w / 256) on_word ∙ told_at (length forks) fork.depth fork_low

    new_kid : IsChild prefixes new at bit (length forks)
    new_kid =
        let d = (fork_at forks at).depth in
        let up = (alike at c.inside).depth in
        let fresh_row : (fork_at new (length forks)).row ≡ row = ap (λ (n : Fork). n.row) last
        ∙ fits.row_is in
        let low : d < 128 =
        omega (
          arith,
          fits.deeper,
          fits.depth,
          (all row c.within).within,
          width_low (prefix_at prefixes row).address,
        ) in
        record {
          within = omega (arith, longer);
          deeper = omega (arith, ap (λ (n : Fork). n.depth) last, up, fits.deeper);
          child_depth = ap (λ w. 255 - w % 256) on_word ∙ told_depth (length forks) fork.depth fork_low
              ∙ sym (ap (λ (n : Fork). n.depth) last);
          start = omega (arith, ap (λ (n : Fork). n.start) last, up, fits.start);
          bits = subst (λ n. first_bits (n + 1) (here prefixes new (length forks)).address
              ≡ 2 * first_bits n (here prefixes new at).address + bit)
              (sym up)
              (ap (λ r. first_bits (d + 1) (prefix_at prefixes r).address) fresh_row
              ∙ one_more d (prefix_at prefixes row).address low
              ∙ ap (λ b. 2 * first_bits d (prefix_at prefixes row).address + b) (sym bit_is)
              ∙ ap (λ x. 2 * x + bit) (sym c.bits)
              ∙ ap (λ r. 2 * first_bits d (prefix_at prefixes r).address + bit)
              (sym (alike at c.inside).row));
        }

    -- what the new fork leads to is what stood behind the bit before
    last_kid : (side : ℕ) → side < 2 → 0 < child fork side
        → IsChild prefixes new (length forks) side (child fork side)
    last_kid side low some =
        let k = child fork side in
        let f = fits.kids side low some in
        let kid : IsChild prefixes forks at bit k =
        subst (λ i. IsChild prefixes forks at bit i) (sym f.0)
        ((c.tree.each at c.inside).children bit low_bit (subst (λ i. 0 < i) f.0 some)) in
        let same = alike k kid.within in
        let depth : (fork_at new (length forks)).depth ≡ fork.depth =
        ap (λ (n : Fork). n.depth) last in
        record {
          within = omega (arith, kid.within, longer);
          deeper = omega (arith, depth, same.depth, f.1);
          child_depth = ap (λ (n : Fork). child_depth n side) last ∙ f.2 ∙ sym same.depth;
          start = omega (arith, depth, same.start, kid.start, fits.deeper);
          bits = subst (λ n. first_bits (n + 1) (here prefixes new k).address
              ≡ 2 * first_bits n (here prefixes new (length forks)).address + side)
              (sym depth)
              (ap (λ r. first_bits (fork.depth + 1) (prefix_at prefixes r).address) same.row ∙ f.3
              ∙ ap (λ r. 2 * first_bits fork.depth (prefix_at prefixes r).address + side)
              (sym (ap (λ (n : Fork). n.row) last ∙ fits.row_is)));
        }

    grown_kids : (i : ℕ) → i < length forks → (b : ℕ) → b < 2 → 0 < child (fork_at new i) b
        → IsChild prefixes new i b (child (fork_at new i) b)
    grown_kids i h b low some = elim (leads_now i b h low) [
      | inl e ↦
          subst (λ k. IsChild prefixes new i b k)
          (sym (ap (λ w. w / 256) e.2 ∙ told_at (length forks) fork.depth fork_low))
          (subst (λ x. IsChild prefixes new i x (length forks)) (sym e.1)
          (subst (λ x. IsChild prefixes new x bit (length forks)) (sym e.0) new_kid))
      | inr e ↦
          let leads = ap (λ w. w / 256) e in
          subst (λ k. IsChild prefixes new i b k) (sym leads)
          (kid_kept prefixes forks new grown_keeps i b _ h e
          ((c.tree.each i h).children b low (subst (λ k. 0 < k) leads some)))
    ]

    old_fork : (i : ℕ) → i < length forks → IsFork prefixes new width i
    old_fork i h =
        let before = c.tree.each i h in
        let same = alike i h in
        record {
          row = subst (λ r. r < length prefixes) (sym same.row) before.row;
          family = ap (λ r. width_of (prefix_at prefixes r).address) same.row ∙ before.family;
          depth = omega (
            arith,
            same.depth,
            ap (λ r. (prefix_at prefixes r).length) same.row,
            before.depth,
          );
          long = same.long ∙ before.long ∙ ap (λ r. (prefix_at prefixes r).length) (sym same.row);
          low = omega (arith, same.start, before.low);
          flat = λ v4. same.start ∙ before.flat v4;
          behind = same.window ∙ before.behind
              ∙ ap (λ s. window s (here prefixes forks i).address) (sym same.start)
              ∙ ap (λ r. window (fork_at new i).start (prefix_at prefixes r).address)
              (sym same.row);
          children = grown_kids i h;
        }

    last_fork : IsFork prefixes new width (length forks)
    last_fork =
        let this : (fork_at new (length forks)).row ≡ row = ap (λ (n : Fork). n.row) last
        ∙ fits.row_is in
        record {
          row = subst (λ r. r < length prefixes) (sym this) c.within;
          family = ap (λ r. width_of (prefix_at prefixes r).address) this ∙ c.family;
          depth = omega (
            arith,
            ap (λ (n : Fork). n.depth) last,
            ap (λ r. (prefix_at prefixes r).length) this,
            fits.depth,
          );
          long = ap (λ (n : Fork). n.long) last ∙ fits.long
              ∙ ap (λ r. (prefix_at prefixes r).length) (sym this);
          low = omega (arith, ap (λ (n : Fork). n.start) last, fits.low);
          flat = λ v4. ap (λ (n : Fork). n.start) last ∙ fits.flat (c.family ∙ v4);
          behind = ap (λ (n : Fork). n.window) last ∙ fits.behind
              ∙ ap (λ (n : Fork). window n.start (prefix_at prefixes row).address) (sym last)
              ∙ ap (λ r. window (fork_at new (length forks)).start (prefix_at prefixes r).address)
              (sym this);
          children = λ side low some.
              let e : child (fork_at new (length forks)) side ≡ child fork side =
              ap (λ (n : Fork). child n side) last in
              subst (λ k. IsChild prefixes new (length forks) side k) (sym e)
              (last_kid side low (subst (λ k. 0 < k) e some));
        }

    grown_fork : (i : ℕ) → i < length new → IsFork prefixes new width i
    grown_fork i h = elim (cases_lt i (length forks)) [
      | inl old ↦ old_fork i old
      | inr above ↦ let at_end : length forks ≡ i = omega (arith, longer) in
          subst (λ k. IsFork prefixes new width k) at_end last_fork
    ]

    grown_apart : (i j : ℕ) → i < length new → j < length new
        → (fork_at new i).row ≡ (fork_at new j).row → i ≡ j
    grown_apart i j h k e =
        let end : (x : ℕ) → x < length new → length forks ≤ x
        → length forks ≡ x = λ x a b. omega (arith, longer) in
        let last_row : (x : ℕ) → length forks ≡ x → (fork_at new x).row ≡ row =
        λ x at_end. subst (λ y. (fork_at new y).row ≡ row) at_end (ap (λ (n : Fork). n.row) last
        ∙ fits.row_is) in
        elim (cases_lt i (length forks)) [
          | inl x ↦ elim (cases_lt j (length forks)) [
            | inl y ↦ c.tree.apart i j x y (sym (alike i x).row ∙ e ∙ (alike j y).row)
            | inr y ↦ absurd (c.fresh i x (sym (alike i x).row ∙ e ∙ last_row j (end j k y)))
          ]
          | inr x ↦ elim (cases_lt j (length forks)) [
            | inl y ↦ absurd (c.fresh j y (sym (alike j y).row ∙ sym e ∙ last_row i (end i h x)))
            | inr y ↦ sym (end i h x) ∙ end j k y
          ]
        ]

    -- a way stays one, with the new fork on it where it stands between
    grown_leads : (k above down : ℕ) → above < length forks → Leads forks k above down
        → (m : ℕ) × Leads new m above down
    grown_leads zero above down h l = (0, l)
    grown_leads (suc k) above down h l =
        let next = child (fork_at forks above) l.0 in
        let rest =
        grown_leads k next down ((c.tree.each above h).children l.0 l.1 l.2).within l.3 in
        elim (leads_now above l.0 h l.1) [
          | inr w ↦
              let e = ap (λ x. x / 256) w in (
                suc rest.0,
                (
                  l.0,
                  l.1,
                  subst (λ i. 0 < i) (sym e) l.2,
                  subst (λ i. Leads new rest.0 i down) (sym e) rest.1,
                ),
              )
          | inl e ↦
              let old : child (fork_at forks at) bit ≡ next =
              ap (λ i. child (fork_at forks i) bit) (sym e.0) ∙ ap
              (λ b. child (fork_at forks above) b) (sym e.1) in
              let side = fits.keeps (subst (λ i. 0 < i) (sym old) l.2) in
              let on : child (fork_at new (length forks)) side.0 ≡ next =
              ap (λ (n : Fork). child n side.0) last ∙ side.2 ∙ old in
              let from : Leads new (suc rest.0) (length forks) down = (
                side.0,
                side.1,
                subst (λ i. 0 < i) (sym on) l.2,
                subst (λ i. Leads new rest.0 i down) (sym on) rest.1,
              ) in
              let to : child (fork_at new above) l.0 ≡ length forks = ap (λ w. w / 256) e.2
              ∙ told_at (length forks) fork.depth fork_low in (
                suc (suc rest.0),
                (
                  l.0,
                  l.1,
                  omega (arith, to, h),
                  subst (λ i. Leads new (suc rest.0) i down) (sym to) from,
                ),
              )
        ]

    all_stand : AllStand prefixes new width (length prefixes)
    all_stand r h family ne = elim (cases_eq r row) [
      | inl e ↦
          let to = grown_leads c.steps 0 at (omega (arith, c.inside)) c.leads in
          record {
            steps = suc to.0;
            at = length forks;
            within = omega (arith, longer);
            leads = subst (λ i. Leads new (suc to.0) 0 i) on_child
                (one_further new to.0 0 at bit to.1 low_bit (omega (arith, on_child, c.inside)));
            is = ap (λ (n : Fork). n.row) last ∙ fits.row_is ∙ sym e;
          }
      | inr other ↦
          let s = c.others r h family other in
          let to = grown_leads s.steps 0 s.at (omega (arith, c.inside)) s.leads in
          record {
            steps = to.0;
            at = s.at;
            within = omega (arith, s.within, longer);
            leads = to.1;
            is = (alike s.at s.within).row ∙ s.is;
          }
    ]

    pub is_grown : IsGrown prefixes new width (length forks)
    is_grown =
        let some : 0 < length forks = omega (arith, c.inside) in
        record {
          tree = record {
            root = (alike 0 some).depth ∙ c.tree.root;
            begin = (alike 0 some).start ∙ c.tree.begin;
            each = grown_fork;
            apart = grown_apart;
          };
          all = all_stand;
          long = longer;
        }

  -- No fork stands behind the next bit: the row gets a leaf.
  pub leaf_fits : (start : ℕ) → start ≤ 96 → start ≤ (fork_at forks at).depth
      → (width_of (prefix_at prefixes row).address ≡ 32 → start ≡ 0)
      → (bit : ℕ) → child (fork_at forks at) bit ≡ 0
      → (fork_at forks at).depth < (prefix_at prefixes row).length
      → Fits prefixes forks at bit row
      (leaf prefixes start (prefix_at prefixes row).length row)
  leaf_fits start low up flat bit free deeper = record {
    row_is = refl;
    low = low;
    flat = flat;
    start = up;
    behind = refl;
    long = refl;
    deeper = deeper;
    depth = omega arith;
    keeps = λ some. absurd (omega (arith, free));
    kids = λ side low some.
        absurd (omega (
          arith,
          no_child prefixes start (prefix_at prefixes row).length row side,
        ));
  }

  -- The row has d bits in common with the one that stands behind its next bit.
  module _ (bit next d : ℕ) (bit_is : bit
      ≡ bit_behind (fork_at forks at).depth (prefix_at prefixes row).address)
      (next_is : next ≡ child (fork_at forks at) bit) (some : 0 < next)
      (deeper : (fork_at forks at).depth < (prefix_at prefixes row).length)
      (same : (n : ℕ) → n ≤ 128 → (n ≤ d
      ↔ ((n ≤ (prefix_at prefixes row).length)
      × (first_bits n (here prefixes forks next).address
      ≡ first_bits n (prefix_at prefixes row).address)))) where
    stands_next : IsChild prefixes forks at bit next
    stands_next =
        let low : bit < 2 = omega arith in
        subst (λ i. IsChild prefixes forks at bit i) (sym next_is)
        ((c.tree.each at c.inside).children bit low (subst (λ i. 0 < i) next_is some))

    pub next_inside : next < length forks
    next_inside = stands_next.within

    next_low : (fork_at forks next).depth ≤ 128
    next_low = shallow prefixes forks width all c.tree next next_inside

    -- the bit of the way is one of them
    past_bit : (fork_at forks at).depth < d
    past_bit =
        let up = (fork_at forks at).depth in
        let low : up < 128 = omega (arith, stands_next.deeper, next_low) in
        let bits : first_bits (up + 1) (here prefixes forks next).address
        ≡ first_bits (up + 1) (prefix_at prefixes row).address =
        stands_next.bits ∙ ap (λ x. 2 * x + bit) c.bits
        ∙ ap (λ b. 2 * first_bits up (prefix_at prefixes row).address + b) bit_is
        ∙ sym (one_more up (prefix_at prefixes row).address low) in
        omega (arith, (same (up + 1) (omega arith)).1 (omega (arith, deeper), bits))

    pub between_fits : (start : ℕ) → start ≤ 96 → start ≤ (fork_at forks at).depth
        → (width_of (prefix_at prefixes row).address ≡ 32 → start ≡ 0)
        → d < (fork_at forks next).depth
        → Fits prefixes forks at bit row
        (linked (leaf prefixes start d row)
        (bit_behind d (here prefixes forks next).address)
        (pair_of next (fork_at forks next).depth))
    between_fits start low up flat less =
        let bare = leaf prefixes start d row in
        let turn = bit_behind d (here prefixes forks next).address in
        let link = pair_of next (fork_at forks next).depth in
        let fork = linked bare turn link in
        let a = linked_alike bare turn link in
        let to : child fork turn ≡ next = ap (λ w. w / 256) (linked_child bare turn link)
        ∙ told_at next (fork_at forks next).depth next_low in
        let turn_low : turn < 2 = omega arith in
        let own = (same d (omega (arith, less, next_low))).0 (omega arith) in
        record {
          row_is = a.row;
          low = omega (arith, a.start, low);
          flat = λ v4. a.start ∙ flat v4;
          start = omega (arith, a.start, up);
          behind = a.window ∙ ap (λ s. window s (prefix_at prefixes row).address) (sym a.start);
          long = a.long;
          deeper = omega (arith, a.depth, past_bit);
          depth = omega (arith, a.depth, own.0);
          keeps = λ has. (turn, turn_low, to ∙ next_is);
          kids = λ side low has. elim (cases_eq side turn) [
            | inl is ↦
                let on : child fork side ≡ next = ap (child fork) is ∙ to in (
                  on ∙ next_is,
                  omega (arith, a.depth, less, ap (λ i. (fork_at forks i).depth) on),
                  ap (child_depth fork) is ∙ ap (λ w. 255 - w % 256) (linked_child bare turn link)
                      ∙ told_depth next (fork_at forks next).depth next_low
                      ∙ ap (λ i. (fork_at forks i).depth) (sym on),
                  subst (λ n. first_bits (n + 1) (here prefixes forks (child fork side)).address
                      ≡ 2 * first_bits n (prefix_at prefixes row).address + side) (sym a.depth)
                      (ap (λ i. first_bits (d + 1) (here prefixes forks i).address) on
                      ∙ one_more d (here prefixes forks next).address
                      (omega (arith, less, next_low))
                      ∙ ap (λ x. 2 * x + turn) own.1
                      ∙ ap (λ b. 2 * first_bits d (prefix_at prefixes row).address + b)
                      (sym is)),
                )
            | inr not ↦ absurd (omega (
              arith,
              linked_other bare turn side link turn_low low not,
              no_child prefixes start d row side,
            ))
          ];
        }

    -- It has all bits of the rows there: it is carried on.
    pub further : (fork_at forks next).depth ≤ d → IsCarried prefixes forks width next row
    further all_of =
        let own = (same (fork_at forks next).depth next_low).0 all_of in
        let low : bit < 2 = omega arith in
        record {
          tree = c.tree;
          within = c.within;
          family = c.family;
          fresh = c.fresh;
          inside = next_inside;
          steps = suc c.steps;
          leads = subst (λ i. Leads forks (suc c.steps) 0 i) (sym next_is)
              (one_further forks c.steps 0 at bit c.leads low (subst (λ i. 0 < i) next_is some));
          bits = own.1;
          long = own.0;
          others = c.others;
        }

    pub next_deeper : (fork_at forks at).depth < (fork_at forks next).depth
    next_deeper = stands_next.deeper

-- The first row of the family stands at the root.
module _ (prefixes : List Prefix) (forks new : List Fork) (width row : ℕ) (none : length forks
    ≡ 0) (others : AllStand prefixes forks width row)
    (within : row < length prefixes) (family : width_of (prefix_at prefixes row).address ≡ width)
    (is : new ≡ forks ++ leaf prefixes 0 0 row ∷ []) where
  one_long : length new ≡ 1
  one_long = omega (arith, ap length is, length-append {A = Fork}, none)

  root_is : fork_at new 0 ≡ leaf prefixes 0 0 row
  root_is = ap (λ ns. fork_at ns 0) is ∙ get_or_push forks _ _ 0 none

  -- no other row is of the family
  only : (r : ℕ) → r < length prefixes → width_of (prefix_at prefixes r).address ≡ width → r ≡ row
  only r h of_it = elim (cases_eq r row) [
    | inl e ↦ e
    | inr other ↦ absurd (omega (arith, none, (others r h of_it other).within))
  ]

  alone_fork : IsFork prefixes new width 0
  alone_fork =
      let this : (fork_at new 0).row ≡ row = ap (λ (n : Fork). n.row) root_is in
      record {
        row = subst (λ r. r < length prefixes) (sym this) within;
        family = ap (λ r. width_of (prefix_at prefixes r).address) this ∙ family;
        depth = omega (arith, ap (λ (n : Fork). n.depth) root_is);
        long = ap (λ (n : Fork). n.long) root_is
            ∙ ap (λ r. (prefix_at prefixes r).length) (sym this);
        low = omega (arith, ap (λ (n : Fork). n.start) root_is);
        flat = λ v4. ap (λ (n : Fork). n.start) root_is;
        behind = ap (λ (n : Fork). n.window) root_is
            ∙ ap (λ (n : Fork). window n.start (prefix_at prefixes n.row).address) (sym root_is);
        children =
            λ b below some.
            absurd (omega (
              arith,
              no_child prefixes 0 0 row b,
              ap (λ (n : Fork). child_pair n b) root_is,
            ));
      }

  pub alone : IsGrown prefixes new width (length forks)
  alone = record {
    tree = record {
      root = ap (λ (n : Fork). n.depth) root_is;
      begin = ap (λ (n : Fork). n.start) root_is;
      each = λ i h. let first : 0 ≡ i = omega (arith, one_long) in
          subst (λ k. IsFork prefixes new width k) first alone_fork;
      apart = λ i j h k e. omega (arith, one_long);
    };
    all = λ r h of_it ne. record {
      steps = 0;
      at = 0;
      within = omega (arith, one_long);
      leads = refl;
      is = ap (λ (n : Fork). n.row) root_is ∙ sym (only r h of_it);
    };
    long = omega (arith, one_long, none);
  }
