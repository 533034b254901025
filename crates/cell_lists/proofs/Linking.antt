-- The lists of all owners when a cell comes or goes.
use Rattle.std.proofs.Common.{◌≡◌, ◌≢◌, ◌<◌, ◌+◌, ◌-◌, ◌^◌, ℕ, zero, suc, List, [], ◌∷◌, ◌++◌, length, map, get_or, set, get_or-set_same, get_or-set_other, add-one, arith, refl, sym, ap, ◌∙◌, subst, inl, inr}
use Rattle.std.specs.List.{All, Contains}
use Rattle.std.proofs.lemmas.List.Elements.{Contains-get_or}
use Rattle.std.specs.Prelude.{slice_index}
use Rattle.std.proofs.lemmas.Bool.{cases_eq, eq-eqb, ne_eqb}
use Rattle.std.proofs.lemmas.List.{length-set, length-append}
use Rattle.cell_lists.specs.declared.links.Head.{Head}
use Rattle.cell_lists.specs.Lists.{Lists, without, EachOnce, AreApart, IsFree, list_at}
use Rattle.cell_lists.specs.Linked.{IsHeadOf, IsIntact, AreLinked, list_from, lists_in, head_at, behind_first, behind_gone, next_without, before_without, head_without}
use Rattle.cell_lists.proofs.Members.{in_none, in_cases, in_without, once_without, not_without, few_once}
use Rattle.cell_lists.proofs.Chains.{frame_head, read_head, behind_cases, came, went_from, first_went, before_in, next_in, next_at}

-- heads stand for no other lists
pub read : (n b : ℕ → ℕ) (heads : List Head) (lists : List (List ℕ)) → AreLinked n b heads lists
    → map (list_from n) heads ≡ lists
read n b [] [] l = refl
read n b [] (x ∷ xs) l = let e = l.long in absurd (omega arith)
read n b (h ∷ hs) [] l = let e = l.long in absurd (omega arith)
read n b (h ∷ hs) (x ∷ xs) l =
    let first = read_head n b h x (l.each 0) in
    let e = l.long in
    let rest = read n b hs xs (record { long = omega arith; each = λ o. l.each (suc o) }) in cc

pub intact_of : (heads : List Head) (next before : List ℕ) (lists : List (List ℕ))
    → AreLinked (slice_index next) (slice_index before) heads lists → AreApart lists (length next)
    → length before ≡ length next → length next < 2 ^ 32
    → IsIntact heads next before × (lists_in heads next ≡ lists)
intact_of heads next before lists linked apart long few =
    let e : lists_in heads next ≡ lists = read (slice_index next) (slice_index before) heads lists linked in (
      record {
        linked = subst (AreLinked (slice_index next) (slice_index before) heads) (sym e) linked;
        apart = subst (λ l. AreApart l (length next)) (sym e) apart;
        long = long;
        few = few;
      },
      e,
    )

-- ---- one list of many

module _ (lists : List (List ℕ)) (o : ℕ) (cs : List ℕ) (there : o < length lists) where
  pub list_now : (p : ℕ) → p ≡ o → list_at (set lists o cs) p ≡ cs
  list_now p same = ap (list_at (set lists o cs)) same ∙ get_or-set_same lists o cs [] there

  pub list_beside : (p : ℕ) → p ≢ o → list_at (set lists o cs) p ≡ list_at lists p
  list_beside p apart = get_or-set_other lists o p cs [] apart

  pub still_apart : (size : ℕ) → AreApart lists size → EachOnce cs
      → ((d : ℕ) → Contains cs d → (d < size) × ((p : ℕ) → p ≢ o → Contains (list_at lists p) d → ⊥))
      → AreApart (set lists o cs) size
  still_apart size apart once each = record {
    within = λ p d w. elim (cases_eq p o) [
      | inl same ↦ (each d (now p d same w)).0
      | inr other ↦ apart.within p d (beside p d other w)
    ];
    once = λ p. elim (cases_eq p o) [
      | inl same ↦ subst EachOnce (sym (list_now p same)) once
      | inr other ↦ subst EachOnce (sym (list_beside p other)) (apart.once p)
    ];
    alone = λ p q d w v. elim (cases_eq p o) [
      | inl same ↦ elim (cases_eq q o) [
        | inl both ↦ same ∙ sym both
        | inr other ↦ absurd ((each d (now p d same w)).1 q other (beside q d other v))
      ]
      | inr other ↦ elim (cases_eq q o) [
        | inl same ↦ absurd ((each d (now q d same v)).1 p other (beside p d other w))
        | inr both ↦ apart.alone p q d (beside p d other w) (beside q d both v)
      ]
    ];
  }
    where
      now : (p d : ℕ) → p ≡ o → Contains (list_at (set lists o cs) p) d → Contains cs d
      now p d same w = subst (λ l. Contains l d) (list_now p same) w

      beside : (p d : ℕ) → p ≢ o → Contains (list_at (set lists o cs) p) d → Contains (list_at lists p) d
      beside p d other w = subst (λ l. Contains l d) (list_beside p other) w

pub relinked : (n b n' b' : ℕ → ℕ) (heads : List Head) (lists : List (List ℕ)) (o : ℕ) (head : Head) (cs : List ℕ)
    → AreLinked n b heads lists → o < length heads → IsHeadOf n' b' head cs
    → ((p d : ℕ) → p ≢ o → Contains (list_at lists p) d → (n' d ≡ n d) × (b' d ≡ b d))
    → AreLinked n' b' (set heads o head) (set lists o cs)
relinked n b n' b' heads lists o head cs linked below is same = record {
  long = length-set lists o cs ∙ linked.long ∙ sym (length-set heads o head);
  each = λ p. elim (cases_eq p o) [
    | inl e ↦ subst (λ h. IsHeadOf n' b' h (list_at (set lists o cs) p))
        (sym (ap (head_at (set heads o head)) e ∙ get_or-set_same heads o head _ below))
        (subst (IsHeadOf n' b' head) (sym (list_now lists o cs there p e)) is)
    | inr ne ↦ subst (λ h. IsHeadOf n' b' h (list_at (set lists o cs) p))
        (sym (get_or-set_other heads o p head _ ne))
        (subst (IsHeadOf n' b' (head_at heads p)) (sym (list_beside lists o cs there p ne))
        (frame_head n b n' b' (head_at heads p) (list_at lists p) (linked.each p)
        (λ d w. (same p d ne w).0) (λ d w. (same p d ne w).1)))
  ];
}
  where
    there : o < length lists
    there = let e = linked.long in omega arith

-- an owner whose list has a cell is there
pub owner_below : (lists : List (List ℕ)) (o x : ℕ) → Contains (list_at lists o) x → o < length lists
owner_below [] o x w = absurd (in_none x w)
owner_below (l ∷ ls) zero x w = omega arith
owner_below (l ∷ ls) (suc o) x w = let r = owner_below ls o x w in omega arith

-- a count is that of the list
pub counted : (n b : ℕ → ℕ) (head : Head) (cs : List ℕ) → IsHeadOf n b head cs → head.count ≡ length cs
counted n b head [] is = is
counted n b head (c ∷ cs) is = is.1

module _ (heads : List Head) (next before : List ℕ) (o x : ℕ) (intact : IsIntact heads next before) where
  abbrev those : List (List ℕ)
  those = lists_in heads next

  abbrev is_head : IsHeadOf (slice_index next) (slice_index before) (head_at heads o) (list_at (lists_in heads next) o)
  is_head = intact.linked.each o

  -- ---- a cell comes

  module _ (below : o < length heads) (inside : x < length next) (free : IsFree (lists_in heads next) x) where
    pub behind_inside : behind_first (head_at heads o) x < length before
    behind_inside =
        let l = intact.long in
        elim (behind_cases _ _ (head_at heads o) (list_at those o) x is_head) [
          | inl e ↦ omega arith
          | inr i ↦ (let w = intact.apart.within o _ i in omega arith)
        ]

    once_more : EachOnce (x ∷ list_at (lists_in heads next) o)
    once_more = (free o, intact.apart.once o)

    below_all : (d : ℕ) → Contains (x ∷ list_at (lists_in heads next) o) d → d < length next
    below_all d w = elim (in_cases x d (list_at those o) w) [
      | inl e ↦ omega arith
      | inr i ↦ intact.apart.within o d i
    ]

    pub count_fits : (head_at heads o).count + 1 < 2 ^ 32
    count_fits =
        let few = few_once (length next) (x ∷ list_at those o) once_more below_all in
        let e = counted _ _ (head_at heads o) (list_at those o) is_head in
        let m = intact.few in omega arith

    abbrev put_heads : List Head
    put_heads = set heads o (record { first = x; count = (head_at heads o).count + 1 })

    abbrev put_next : List ℕ
    put_next = set next x (behind_first (head_at heads o) x)

    abbrev put_before : List ℕ
    put_before = set before (behind_first (head_at heads o) x) x

    pub put_intact : IsIntact put_heads put_next put_before
        × (lists_in put_heads put_next ≡ set (lists_in heads next) o (x ∷ list_at (lists_in heads next) o))
    put_intact = intact_of put_heads put_next put_before (set those o (x ∷ list_at those o))
        (relinked (slice_index next) (slice_index before) (slice_index put_next) (slice_index put_before) heads those o
        (record { first = x; count = (head_at heads o).count + 1 }) (x ∷ list_at those o) intact.linked below
        (came (slice_index next) (slice_index before) (slice_index put_next) (slice_index put_before) (head_at heads o)
        (list_at those o) x is_head (intact.apart.once o) (free o)
        (get_or-set_same next x _ 0 inside) (λ d ne. get_or-set_other next x d _ 0 ne)
        (get_or-set_same before _ x 0 behind_inside) (λ d ne. get_or-set_other before _ d x 0 ne))
        (λ p d ne w. (
          get_or-set_other next x d _ 0 (λ e. free p (subst (Contains (list_at those p)) e w)),
          get_or-set_other before _ d x 0 (λ e. not_behind p d ne w e),
        )))
        (subst (AreApart _) (sym (length-set next x _))
        (still_apart those o (x ∷ list_at those o) there (length next) intact.apart once_more
        (λ d w. (
          below_all d w,
          λ p ne v. elim (in_cases x d (list_at those o) w) [
            | inl e ↦ free p (subst (Contains (list_at those p)) (sym e) v)
            | inr i ↦ ne (intact.apart.alone p o d v i)
          ],
        ))))
        (length-set before _ x ∙ intact.long ∙ sym (length-set next x _))
        (let l = length-set next x (behind_first (head_at heads o) x) in let m = intact.few in omega arith)
      where
        there : o < length (lists_in heads next)
        there = let e = intact.linked.long in omega arith

        not_behind : (p d : ℕ) → p ≢ o → Contains (list_at (lists_in heads next) p) d → d ≡ behind_first (head_at heads o) x → ⊥
        not_behind p d ne w e = elim (behind_cases _ _ (head_at heads o) (list_at those o) x is_head) [
          | inl same ↦ free p (subst (Contains (list_at those p)) (e ∙ same) w)
          | inr i ↦ ne (intact.apart.alone p o _ (subst (Contains (list_at those p)) e w) i)
        ]

  -- ---- a cell goes

  module _ (here : Contains (list_at (lists_in heads next) o) x) where
    there : o < length (lists_in heads next)
    there = owner_below (lists_in heads next) o x here

    pub owner_there : o < length heads
    owner_there = let t = there in let e = intact.linked.long in omega arith

    pub cell_inside : x < length next
    cell_inside = intact.apart.within o x here

    pub some_count : 0 < (head_at heads o).count
    some_count = let e = counted _ _ (head_at heads o) (list_at those o) is_head in
        let w = here.1 in omega arith

    pub front_in : (head_at heads o).first ≢ x → Contains (list_at (lists_in heads next) o) (slice_index before x)
    front_in ne = of (list_at those o) is_head here
      where
        of : (cs : List ℕ) → IsHeadOf (slice_index next) (slice_index before) (head_at heads o) cs → Contains cs x
            → Contains cs (slice_index before x)
        of [] is w = absurd (in_none x w)
        of (c ∷ cs) is w = elim (in_cases c x cs w) [
          | inl e ↦ absurd (ne (is.0 ∙ e))
          | inr i ↦ before_in (slice_index next) (slice_index before) c cs x is.2 i
        ]

    pub next_inside : Contains (list_at (lists_in heads next) o) (slice_index next x)
    next_inside = of (list_at those o) is_head here
      where
        of : (cs : List ℕ) → IsHeadOf (slice_index next) (slice_index before) (head_at heads o) cs → Contains cs x
            → Contains cs (slice_index next x)
        of [] is w = absurd (in_none x w)
        of (c ∷ cs) is w = next_in (slice_index next) (slice_index before) c cs x is.2 w

    abbrev fewer : List ℕ
    fewer = without x (list_at (lists_in heads next) o)

    fewer_each : (d : ℕ) → Contains (without x (list_at (lists_in heads next) o)) d
        → (d < length next) × ((p : ℕ) → p ≢ o → Contains (list_at (lists_in heads next) p) d → ⊥)
    fewer_each d w =
        let v = in_without x (list_at those o) d w in
        (intact.apart.within o d v, λ p ne u. ne (intact.apart.alone p o d u v))

    fewer_apart : AreApart (set (lists_in heads next) o (without x (list_at (lists_in heads next) o))) (length next)
    fewer_apart = still_apart those o fewer there (length next) intact.apart
        (once_without x (list_at those o) (intact.apart.once o)) fewer_each

    pub free_then : IsFree (set (lists_in heads next) o (without x (list_at (lists_in heads next) o))) x
    free_then p w = elim (cases_eq p o) [
      | inl same ↦ not_without x (list_at those o) (intact.apart.once o)
          (subst (λ l. Contains l x) (list_now those o fewer there p same) w)
      | inr other ↦ other (intact.apart.alone p o x
          (subst (λ l. Contains l x) (list_beside those o fewer there p other) w) here)
    ]

    abbrev taken_heads : List Head
    taken_heads = set heads o (head_without (head_at heads o) next x)

    abbrev taken_next : List ℕ
    taken_next = next_without (head_at heads o) next before x

    abbrev taken_before : List ℕ
    taken_before = before_without (head_at heads o) next before x

    abbrev front : ℕ
    front = slice_index before x

    abbrev behind : ℕ
    behind = slice_index next x

    pub taken_intact : IsIntact taken_heads taken_next taken_before
        × (lists_in taken_heads taken_next ≡ set (lists_in heads next) o (without x (list_at (lists_in heads next) o)))
    taken_intact = elim (cases_eq (head_at heads o).first x) [
      | inl first ↦ rw (eq-eqb (head_at heads o).first x first)
          (intact_of (set heads o (record { first = slice_index next x; count = (head_at heads o).count - 1 })) next before
          (set those o fewer)
          (relinked (slice_index next) (slice_index before) (slice_index next) (slice_index before) heads those o
          (record { first = slice_index next x; count = (head_at heads o).count - 1 }) fewer intact.linked owner_there
          (first_went (slice_index next) (slice_index before) (head_at heads o) (list_at those o) x is_head here first)
          (λ p d ne w. (refl, refl)))
          fewer_apart intact.long intact.few)
      | inr ne ↦ rw (ne_eqb (head_at heads o).first x ne) (from_within ne)
    ]
      where
        from_within : (head_at heads o).first ≢ x →
            IsIntact (set heads o (record { first = (head_at heads o).first; count = (head_at heads o).count - 1 }))
            (set next front (behind_gone behind x front)) (set before behind front)
            × (lists_in (set heads o (record { first = (head_at heads o).first; count = (head_at heads o).count - 1 }))
            (set next front (behind_gone behind x front)) ≡ set (lists_in heads next) o (without x (list_at (lists_in heads next) o)))
        from_within ne =
            let f = front_in ne in
            let f_in = intact.apart.within o _ f in
            let n_in = intact.apart.within o _ next_inside in
            let long = intact.long in
            let b_in : behind < length before = omega arith in
            intact_of (set heads o (record { first = (head_at heads o).first; count = (head_at heads o).count - 1 }))
            (set next front (behind_gone behind x front)) (set before behind front)
            (set those o fewer)
            (relinked (slice_index next) (slice_index before)
            (slice_index (set next front (behind_gone behind x front))) (slice_index (set before behind front)) heads those o
            (record { first = (head_at heads o).first; count = (head_at heads o).count - 1 }) fewer intact.linked owner_there
            (went_from (slice_index next) (slice_index before)
            (slice_index (set next front (behind_gone behind x front))) (slice_index (set before behind front))
            (head_at heads o) (list_at those o) x is_head (intact.apart.once o) here ne
            (get_or-set_same next front _ 0 f_in) (λ d apart. get_or-set_other next front d _ 0 apart)
            (get_or-set_same before behind _ 0 b_in) (λ d apart. get_or-set_other before behind d _ 0 apart))
            (λ p d apart w. (
              get_or-set_other next front d _ 0 (λ e. apart (intact.apart.alone p o _ (subst (Contains (list_at those p)) e w) f)),
              get_or-set_other before behind d _ 0 (λ e. apart (intact.apart.alone p o _ (subst (Contains (list_at those p)) e w) next_inside)),
            )))
            (subst (AreApart _) (sym (length-set next front _)) fewer_apart)
            (length-set before behind front ∙ intact.long ∙ sym (length-set next front _))
            (let l = length-set next front (behind_gone behind x front) in let m = intact.few in omega arith)

-- ---- what comes behind the last

-- what stands past the end of a list may as well stand at its end
pub at_more : {X : Type 0} (xs : List X) (d : X) (k : ℕ) → get_or (xs ++ d ∷ []) k d ≡ get_or xs k d
at_more [] d zero = refl
at_more [] d (suc k) = refl
at_more (x ∷ xs) d zero = refl
at_more (x ∷ xs) d (suc k) = at_more xs d k

apart_more : (lists : List (List ℕ)) (size : ℕ) → AreApart lists size → AreApart (lists ++ [] ∷ []) size
apart_more lists size apart = record {
  within = λ p d w. apart.within p d (of p d w);
  once = λ p. subst EachOnce (sym (at_more lists [] p)) (apart.once p);
  alone = λ p q d w v. apart.alone p q d (of p d w) (of q d v);
}
  where
    of : (p d : ℕ) → Contains (list_at (lists ++ [] ∷ []) p) d → Contains (list_at lists p) d
    of p d w = subst (λ l. Contains l d) (at_more lists [] p) w

-- an owner more, without cells
pub owner_more : (heads : List Head) (next before : List ℕ) → IsIntact heads next before
    → IsIntact (heads ++ record { first = 0; count = 0 } ∷ []) next before
owner_more heads next before intact =
    (intact_of (heads ++ record { first = 0; count = 0 } ∷ []) next before (lists_in heads next ++ [] ∷ [])
    (record {
      long = let l = intact.linked.long in omega (arith, length-append (lists_in heads next) ([] ∷ []), length-append heads (record { first = 0; count = 0 } ∷ []));
      each = λ p. subst (λ h. IsHeadOf (slice_index next) (slice_index before) h (list_at (lists_in heads next ++ [] ∷ []) p))
          (sym (at_more heads (record { first = 0; count = 0 }) p))
          (subst (IsHeadOf (slice_index next) (slice_index before) (head_at heads p)) (sym (at_more (lists_in heads next) [] p))
          (intact.linked.each p));
    })
    (apart_more (lists_in heads next) (length next) intact.apart)
    intact.long intact.few).0

-- a cell more, in no list
pub cell_more : (heads : List Head) (next before : List ℕ) → IsIntact heads next before → length next + 1 < 2 ^ 32
    → IsIntact heads (next ++ 0 ∷ []) (before ++ 0 ∷ [])
    × (lists_in heads (next ++ 0 ∷ []) ≡ lists_in heads next)
cell_more heads next before intact fits =
    let long_next = length-append next (0 ∷ []) in
    let long_before = length-append before (0 ∷ []) in
    let long = intact.long in
    intact_of heads (next ++ 0 ∷ []) (before ++ 0 ∷ []) (lists_in heads next)
    (record {
      long = intact.linked.long;
      each = λ p. frame_head (slice_index next) (slice_index before) (slice_index (next ++ 0 ∷ [])) (slice_index (before ++ 0 ∷ []))
          (head_at heads p) (list_at (lists_in heads next) p) (intact.linked.each p)
          (λ d w. at_more next 0 d) (λ d w. at_more before 0 d);
    })
    (record {
      within = λ p d w. let b = intact.apart.within p d w in omega arith;
      once = intact.apart.once;
      alone = intact.apart.alone;
    })
    (omega arith) (omega arith)

-- ---- the same for links as calls leave them

-- the lists that are told then, and each of them
pub record AreNow (heads : List Head) (next before : List ℕ) (all : List (List ℕ)) (o : ℕ) (cs : List ℕ) : Type 0 where
  pub intact : IsIntact heads next before
  pub lists : lists_in heads next ≡ set all o cs
  pub here : list_at (lists_in heads next) o ≡ cs
  pub others : (p : ℕ) → p ≢ o → list_at (lists_in heads next) p ≡ list_at all p

are_now : (heads : List Head) (next before : List ℕ) (all : List (List ℕ)) (o : ℕ) (cs : List ℕ)
    → IsIntact heads next before × (lists_in heads next ≡ set all o cs) → o < length all
    → AreNow heads next before all o cs
are_now heads next before all o cs is there = record {
  intact = is.0;
  lists = is.1;
  here = ap (λ l. list_at l o) is.1 ∙ list_now all o cs there o refl;
  others = λ p ne. ap (λ l. list_at l p) is.1 ∙ list_beside all o cs there p ne;
}

pub put_as_told : (heads : List Head) (next before next' before' : List ℕ) (all : List (List ℕ)) (o x : ℕ) (head head' : Head)
    → IsIntact heads next before → lists_in heads next ≡ all → o < length all → x < length next → IsFree all x
    → head ≡ head_at heads o → head' ≡ record { first = x; count = head.count + 1 }
    → next' ≡ set next x (behind_first head x) → before' ≡ set before (behind_first head x) x
    → AreNow (set heads o head') next' before' all o (x ∷ list_at all o)
put_as_told heads next before next' before' all o x head head' intact told below inside free is is' e_next e_before =
    are_now (set heads o head') next' before' all o (x ∷ list_at all o)
    (rw (is', e_next, e_before, is, ← told) (put_intact heads next before o x intact
    (let t = ap length told in let l = intact.linked.long in omega arith) inside (subst (λ l. IsFree l x) (sym told) free)))
    below

pub taken_long : (head : Head) (next before : List ℕ) (x : ℕ) → length (next_without head next before x) ≡ length next
taken_long head next before x = elim (cases_eq head.first x) [
  | inl e ↦ rw (eq-eqb head.first x e) refl
  | inr ne ↦ rw (ne_eqb head.first x ne) (length-set next _ _)
]

-- the cell stands in no list then
pub record AreWithout (heads : List Head) (next before : List ℕ) (all : List (List ℕ)) (o x : ℕ) : Type 0 where
  pub now : AreNow heads next before all o (without x (list_at all o))
  pub free : IsFree (lists_in heads next) x

pub taken_as_told : (heads : List Head) (next before next' before' : List ℕ) (all : List (List ℕ)) (o x : ℕ) (head head' : Head)
    → IsIntact heads next before → lists_in heads next ≡ all → Contains (list_at all o) x
    → head ≡ head_at heads o → head' ≡ head_without head next x
    → next' ≡ next_without head next before x → before' ≡ before_without head next before x
    → AreWithout (set heads o head') next' before' all o x
taken_as_told heads next before next' before' all o x head head' intact told here is is' e_next e_before =
    let stood = subst (λ l. Contains (list_at l o) x) (sym told) here in
    let left = are_now (set heads o head') next' before' all o (without x (list_at all o))
    (rw (is', e_next, e_before, is, ← told) (taken_intact heads next before o x intact stood))
    (owner_below all o x here) in
    record {
      now = left;
      free = subst (λ l. IsFree l x) (sym left.lists) (rw (← told) (free_then heads next before o x intact stood));
    }

-- what stands behind a cell, by its place
pub behind_as_told : (heads : List Head) (next before : List ℕ) (all : List (List ℕ)) (o x k : ℕ)
    → IsIntact heads next before → lists_in heads next ≡ all
    → slice_index (list_at all o) k ≡ x → k + 1 < length (list_at all o)
    → slice_index next x ≡ slice_index (list_at all o) (k + 1)
behind_as_told heads next before all o x k intact told stands below =
    of (list_at all o) (subst (λ l. IsHeadOf (slice_index next) (slice_index before) (head_at heads o) (list_at l o)) told
    (intact.linked.each o)) stands below
  where
    of : (cs : List ℕ) → IsHeadOf (slice_index next) (slice_index before) (head_at heads o) cs
        → slice_index cs k ≡ x → k + 1 < length cs → slice_index next x ≡ slice_index cs (k + 1)
    of [] is at fits = absurd (omega arith)
    of (c ∷ cs) is at fits = rw add-one (ap (slice_index next) (sym at)
        ∙ next_at (slice_index next) (slice_index before) c cs k is.2 (omega arith))

-- each cell of a list is there
pub within_as_told : (heads : List Head) (next before : List ℕ) (all : Lists) (o : ℕ)
    → IsIntact heads next before → lists_in heads next ≡ all.lists → length next ≡ all.cells
    → All (λ c. c < all.cells) (list_at all.lists o)
within_as_told heads next before all o intact told long k d below =
    let c = intact.apart.within o (get_or (list_at all.lists o) k d)
    (subst (λ l. Contains (list_at l o) (get_or (list_at all.lists o) k d)) (sym told)
    (Contains-get_or (list_at all.lists o) k d below)) in
    omega arith

-- so is the first, where there is one
pub first_as_told : (heads : List Head) (next before : List ℕ) (cells : ℕ) (o : ℕ) (head : Head)
    → IsIntact heads next before → length next ≡ cells → head ≡ head_at heads o → head.count ≢ 0
    → head.first < cells
first_as_told heads next before cells o head intact long is some =
    let count = ap (λ (h : Head). h.count) is in
    let first = ap (λ (h : Head). h.first) is in
    let c = of (list_at (lists_in heads next) o) (intact.linked.each o) (λ e. some (count ∙ e)) (intact.apart.within o) in
    omega arith
  where
    of : (cs : List ℕ) → IsHeadOf (slice_index next) (slice_index before) (head_at heads o) cs
        → (head_at heads o).count ≢ 0 → ((c : ℕ) → Contains cs c → c < length next)
        → (head_at heads o).first < length next
    of [] stands more within = absurd (more stands)
    of (c ∷ cs) stands more within = within _ (0, omega arith, sym stands.0)
