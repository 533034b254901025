-- What puts and removals do to blocks, told block by block.
use Rattle.std.proofs.Common.{◌≡◌, ◌⊎◌, ℕ, Bool, true, false, cond, List, [], ◌∷◌, Option, None, Some, is_some, Ordering, Less, Equal, Greater, inl, inr, ap, ◌∙◌, sym, refl, subst}
use Rattle.std.specs.Prelude.{◌↔◌, ◌&&◌, Contains, not}
use Rattle.std.specs.BTreeMap.{insert_entry, is_at}
use Rattle.std.specs.Cmp.{tied_itself}
use Rattle.std.specs.List.{AllByRecursion, list_any}
use Rattle.std.specs.Map.{remove_entry}
use Rattle.std.specs.Ordering.{is_eq, match_ordering, ordering_reverse}
use Rattle.std.specs.Str.{bytes_eq}
use Rattle.std.proofs.lemmas.Slice.Eq.{bytes_eq-Decides}
use Rattle.cidr_blocks.specs.Prefixes.{Prefix}
use Rattle.cidr_blocks.specs.Order.{block_cmp_total}
use Rattle.cidr_blocks.specs.Places.{block_cmp}
use Rattle.cidr_blocks.proofs.Elements.{at_each, first, later, none, which}
use Rattle.cidr_blocks.proofs.Ties.{one}
use Rattle.cidr_changes.specs.declared.changes.CidrChange.{CidrChange}
use Rattle.cidr_changes.specs.Changes.{BlocksRise, Rows, is_elsewhere, is_named, is_other, location_of, put, put_all, removed, removed_all, stands_at}
use Rattle.cidr_changes.specs.Laws.{PutsAll, RemovesAll}
use Rattle.cidr_changes.proofs.Members.{IsMore, behind, in_front}
use Rattle.cidr_changes.proofs.Named.{any_of}
use Rattle.cidr_changes.proofs.Rising.{Row, rising_remove}

abbrev Text : Type 0
Text = List ℕ

abbrev row_of : Prefix → Text → Row
row_of b name = (b, name)

itself : (b : Prefix) → block_cmp b b ≡ Equal
itself b = tied_itself block_cmp_total b

-- what is found under a block stands there, and what stands there is found
module _ (b : Prefix) where
  looked_by : (o : Ordering) (r : Row) (rows : Rows) (other : Text) → block_cmp b r.0 ≡ o
      → (location_of rows b ≡ Some other → Contains rows (b, other))
      → cond (is_eq o) (Some r.1) (location_of rows b) ≡ Some other
      → Contains (r ∷ rows) (b, other)
  looked_by Less r rows other e rest told = later r (b, other) rows (rest told)
  looked_by Equal r rows other e rest told =
      let same : b ≡ r.0 = one b r.0 e in
      let name : r.1 ≡ other = cc in
      subst (λ q. Contains (r ∷ rows) (q, other)) (sym same)
      (subst (λ n. Contains (r ∷ rows) (r.0, n)) name (first r rows))
  looked_by Greater r rows other e rest told = later r (b, other) rows (rest told)

  looked : (rows : Rows) (other : Text) → location_of rows b ≡ Some other
      → Contains rows (b, other)
  looked [] other told = absurd (let no : ⊥ = cc in no)
  looked (r ∷ rows) other told =
      looked_by (block_cmp b r.0) r rows other refl (looked rows other) told

  found_by : (r : Row) (rows : Rows) (name : Text)
      → AllByRecursion (λ other. block_cmp r.0 other.0 ≡ Less) rows
      → (Contains rows (b, name) → location_of rows b ≡ Some name)
      → (r ≡ (b, name)) ⊎ Contains rows (b, name) → location_of (r ∷ rows) b ≡ Some name
  found_by r rows name above rest (inl e) =
      subst (λ (x : Row). location_of (x ∷ rows) b ≡ Some name) (sym e)
      (subst (λ o. cond (is_eq o) (Some name) (location_of rows b) ≡ Some name) (sym (itself b)) refl)
  found_by r rows name above rest (inr c) =
      let less : block_cmp r.0 b ≡ Less =
      at_each (λ (other : Row). block_cmp r.0 other.0 ≡ Less) rows (b, name) above c in
      let greater : block_cmp b r.0 ≡ Greater =
      block_cmp_total.antisymm b r.0 ∙ ap ordering_reverse less in
      subst (λ o. cond (is_eq o) (Some r.1) (location_of rows b) ≡ Some name) (sym greater) (rest c)

  found : (rows : Rows) (name : Text) → BlocksRise rows → Contains rows (b, name)
      → location_of rows b ≡ Some name
  found [] name rise c = absurd (none (b, name) c)
  found (r ∷ rows) name rise c =
      found_by r rows name rise.0 (found rows name rise.1) (which r (b, name) rows c)

module _ (name : Text) where
  -- a put of one block
  module _ (b : Prefix) where
    insert_by : (o : Ordering) (r : Row) (rows : Rows) → block_cmp b r.0 ≡ o
        → cond (is_eq o) (Some r.1) (location_of rows b) ≡ None
        → (location_of rows b ≡ None
        → IsMore b name rows (insert_entry block_cmp rows b name))
        → IsMore b name (r ∷ rows) (match_ordering o ((b, name) ∷ r ∷ rows) ((r.0, name) ∷ rows)
        (r ∷ insert_entry block_cmp rows b name))
    insert_by Less r rows e never rest = in_front b name (r ∷ rows)
    insert_by Equal r rows e never rest = absurd (let no : ⊥ = cc in no)
    insert_by Greater r rows e never rest =
        behind b name (r ∷ []) rows (insert_entry block_cmp rows b name) (rest never)

    inserted : (rows : Rows) → location_of rows b ≡ None
        → IsMore b name rows (insert_entry block_cmp rows b name)
    inserted [] never = in_front b name []
    inserted (r ∷ rows) never =
        insert_by (block_cmp b r.0) r rows refl never (inserted rows)

  abbrev pub NotElsewhere : Rows → Prefix → Type 0
  NotElsewhere rows b = (other : Text) → Contains rows (b, other) → other ≡ name

  stays : (b : Prefix) (rows : Rows) → Contains rows (b, name) → IsMore b name rows rows
  stays b rows there row = (λ c. inr c, back)
    where
      back : ((b, name) ≡ row) ⊎ Contains rows row → Contains rows row
      back (inl e) = subst (Contains rows) e there
      back (inr c) = c

  put_by : (found : Option Text) (b : Prefix) (rows : Rows) → location_of rows b ≡ found
      → NotElsewhere rows b
      → IsMore b name rows (cond (is_some found) rows (insert_entry block_cmp rows b name))
  put_by None b rows e own = inserted b rows e
  put_by (Some other) b rows e own =
      let there = looked b rows other e in
      stays b rows (subst (λ n. Contains rows (b, n)) (own other there) there)

  one_put : (b : Prefix) (rows : Rows) → NotElsewhere rows b → IsMore b name rows (put name b rows)
  one_put b rows = put_by (location_of rows b) b rows refl

  still : (b other : Prefix) (rows : Rows) → NotElsewhere rows b → NotElsewhere rows other
      → NotElsewhere (put name b rows) other
  still b other rows own_b own n c = go ((one_put b rows own_b (other, n)).0 c)
    where
      go : (row_of b name ≡ row_of other n) ⊎ Contains rows (other, n) → n ≡ name
      go (inl e) = sym (ap (λ (r : Row). r.1) e)
      go (inr d) = own n d

  abbrev pub IsPut : List Prefix → (rows : Rows) → Row → Type 0
  IsPut blocks rows row = Contains rows row ⊎ ((row.1 ≡ name) × Contains blocks row.0)

  -- one block after another
  module _ (b : Prefix) (blocks : List Prefix) (rows : Rows) (row : Row)
      (more : IsMore b name rows (put name b rows)) where
    out_one : ((b, name) ≡ row) ⊎ Contains rows row → IsPut (b ∷ blocks) rows row
    out_one (inl e) = inr (
      sym (ap (λ (r : Row). r.1) e),
      subst (Contains (b ∷ blocks)) (ap (λ (r : Row). r.0) e) (first b blocks),
    )
    out_one (inr c) = inl c

    out : IsPut blocks (put name b rows) row → IsPut (b ∷ blocks) rows row
    out (inl c) = out_one ((more row).0 c)
    out (inr both) = inr (both.0, later b row.0 blocks both.1)

    into_rest : row.1 ≡ name → (b ≡ row.0) ⊎ Contains blocks row.0
        → IsPut blocks (put name b rows) row
    into_rest named (inl e) =
        inl ((more row).1 (inl (ap (λ p. (p, name)) e ∙ ap (λ n. (row.0, n)) (sym named))))
    into_rest named (inr c) = inr (named, c)

    into : IsPut (b ∷ blocks) rows row → IsPut blocks (put name b rows) row
    into (inl c) = inl ((more row).1 (inr c))
    into (inr both) = into_rest both.0 (which b row.0 blocks both.1)

  pub all_put : (blocks : List Prefix) (rows : Rows)
      → ((b : Prefix) → Contains blocks b → NotElsewhere rows b) → (row : Row)
      → Contains (put_all name blocks rows) row ↔ IsPut blocks rows row
  all_put [] rows own row = (λ c. inl c, back)
    where
      back : IsPut [] rows row → Contains rows row
      back (inl c) = c
      back (inr both) = absurd (none row.0 both.1)
  all_put (b ∷ blocks) rows own row =
      let own_b = own b (first b blocks) in
      let more = one_put b rows own_b in
      let rest = all_put blocks (put name b rows)
      (λ other c. still b other rows own_b (own other (later b other blocks c))) row in (
        λ c. out b blocks rows row more (rest.0 c),
        λ s. rest.1 (into b blocks rows row more s),
      )

  -- a removal of one block
  module _ (b : Prefix) where
    abbrev rest : Rows → Rows
    rest rows = remove_entry (is_at (block_cmp b)) rows

    abbrev IsLeft : Rows → Row → Type 0
    IsLeft rows row = Contains rows row × (row.0 ≡ b → ⊥)

    kept : (r : Row) (rows : Rows) (row : Row) → Contains (rest rows) row ↔ IsLeft rows row
        → (r.0 ≡ b → ⊥) → Contains (r ∷ rest rows) row ↔ IsLeft (r ∷ rows) row
    kept r rows row more other = (
      λ c. out_of (which r row (rest rows) c),
      λ both. back both.1 (which r row rows both.0),
    )
      where
        out_of : (r ≡ row) ⊎ Contains (rest rows) row → IsLeft (r ∷ rows) row
        out_of (inl e) = (
          subst (Contains (r ∷ rows)) e (first r rows),
          λ at_b. other (ap (λ (x : Row). x.0) e ∙ at_b),
        )
        out_of (inr c) = let both = more.0 c in (later r row rows both.0, both.1)

        back : (row.0 ≡ b → ⊥) → (r ≡ row) ⊎ Contains rows row → Contains (r ∷ rest rows) row
        back apart (inl e) = subst (Contains (r ∷ rest rows)) e (first r (rest rows))
        back apart (inr c) = later r row (rest rows) (more.1 (c, apart))

    left_by : (o : Ordering) (r : Row) (rows : Rows) → block_cmp b r.0 ≡ o
        → AllByRecursion (λ other. block_cmp r.0 other.0 ≡ Less) rows → (row : Row)
        → Contains (rest rows) row ↔ IsLeft rows row
        → Contains (cond (is_eq o) rows (r ∷ rest rows)) row ↔ IsLeft (r ∷ rows) row
    left_by Equal r rows e above row more =
        let same : b ≡ r.0 = one b r.0 e in (
          λ c. (
            later r row rows c,
            λ at_b.
                let less : block_cmp r.0 row.0 ≡ Less =
                at_each (λ (other : Row). block_cmp r.0 other.0 ≡ Less) rows row above c in
                let is_r : row.0 ≡ r.0 = at_b ∙ same in
                let tied : block_cmp r.0 r.0 ≡ Equal = itself r.0 in
                let no : ⊥ =
                let f : block_cmp r.0 r.0 ≡ Less =
                subst (λ p. block_cmp r.0 p ≡ Less) is_r less in cc in no,
          ),
          λ both. go both.1 (sym same) (which r row rows both.0),
        )
      where
        go : (row.0 ≡ b → ⊥) → r.0 ≡ b → (r ≡ row) ⊎ Contains rows row → Contains rows row
        go other is_b (inl e) = absurd (other (sym (ap (λ (x : Row). x.0) e) ∙ is_b))
        go other is_b (inr c) = c
    left_by Less r rows e above row more =
        kept r rows row more (λ at_b. let f : block_cmp b b ≡ Less =
        subst (λ p. block_cmp b p ≡ Less) at_b e in let t = itself b in let no : ⊥ = cc in no)
    left_by Greater r rows e above row more =
        kept r rows row more (λ at_b. let f : block_cmp b b ≡ Greater =
        subst (λ p. block_cmp b p ≡ Greater) at_b e in let t = itself b in let no : ⊥ = cc in no)

    left : (rows : Rows) → BlocksRise rows → (row : Row)
        → Contains (rest rows) row ↔ IsLeft rows row
    left [] rise row = (λ c. absurd (none row c), λ both. both.0)
    left (r ∷ rows) rise row =
        left_by (block_cmp b r.0) r rows refl rise.0 row (left rows rise.1 row)

    abbrev IsTaken : Rows → Row → Type 0
    IsTaken rows row = Contains rows row × (row.1 ≡ name → row.0 ≡ b → ⊥)

    -- a block that stands under the name
    named_there : (rows : Rows) (row : Row) → BlocksRise rows → Contains rows row → row.0 ≡ b
        → stands_at name rows b ≡ bytes_eq row.1 name
    named_there rows row rise c at_b =
        ap (is_named name) (found b rows row.1 rise
        (subst (λ p. Contains rows (p, row.1)) at_b c))

    taken_by : (stands : Bool) (rows : Rows) → stands_at name rows b ≡ stands → BlocksRise rows
        → (row : Row) → Contains (cond stands (rest rows) rows) row ↔ IsTaken rows row
    taken_by true rows e rise row = (
      λ c. let both = (left rows rise row).0 c in (both.0, λ named at_b. both.1 at_b),
      λ both. (left rows rise row).1 (
        both.0,
        λ at_b. both.1
            ((bytes_eq-Decides row.1 name).0 (sym (named_there rows row rise both.0 at_b) ∙ e))
            at_b,
      ),
    )
    taken_by false rows e rise row = (
      λ c. (
        c,
        λ named at_b. let t : bytes_eq row.1 name ≡ true = (bytes_eq-Decides row.1 name).1 named in
            let f : bytes_eq row.1 name ≡ false = sym (named_there rows row rise c at_b) ∙ e in
            let no : ⊥ = cc in no,
      ),
      λ both. both.0,
    )

    one_taken : (rows : Rows) → BlocksRise rows → (row : Row)
        → Contains (removed name b rows) row ↔ IsTaken rows row
    one_taken rows = taken_by (stands_at name rows b) rows refl

    pub rising_by : (stands : Bool) (rows : Rows) → BlocksRise rows
        → BlocksRise (cond stands (rest rows) rows)
    rising_by true rows rise = rising_remove (is_at (block_cmp b)) rows rise
    rising_by false rows rise = rise

  all_taken : (blocks : List Prefix) (rows : Rows) → BlocksRise rows → (row : Row)
      → Contains (removed_all name blocks rows) row
      ↔ (Contains rows row × (row.1 ≡ name → Contains blocks row.0 → ⊥))
  all_taken [] rows rise row = (λ c. (c, λ named d. none row.0 d), λ both. both.0)
  all_taken (b ∷ blocks) rows rise row =
      let here = one_taken b rows rise row in
      let more = all_taken blocks (removed name b rows) (rising_by b (stands_at name rows b) rows rise)
      row in (
        λ c. let both = more.0 c in let at = here.0 both.0 in
            (at.0, λ named d. apart at.1 both.1 named (which b row.0 blocks d)),
        λ both. more.1 (
          here.1 (
            both.0,
            λ named at_b. both.1 named
                (subst (Contains (b ∷ blocks)) (sym at_b) (first b blocks)),
          ),
          λ named d. both.1 named (later b row.0 blocks d),
        ),
      )
    where
      apart : (row.1 ≡ name → row.0 ≡ b → ⊥) → (row.1 ≡ name → Contains blocks row.0 → ⊥)
          → row.1 ≡ name → (b ≡ row.0) ⊎ Contains blocks row.0 → ⊥
      apart here further named (inl e) = here named (sym e)
      apart here further named (inr c) = further named c

-- a put that isn't refused
not_any : {X : Type 0} (test : X → Bool) (xs : List X) (x : X) → list_any test xs ≡ false
    → Contains xs x → (b : Bool) → test x ≡ b → test x ≡ false
not_any test xs x never c true e =
    let any = any_of test xs x e c in absurd (let no : ⊥ = cc in no)
not_any test xs x never c false e = e

own_by : (other name : Text) (b : Bool) → bytes_eq other name ≡ b → not b ≡ false → other ≡ name
own_by other name true e is = (bytes_eq-Decides other name).0 e
own_by other name false e is = absurd (let no : ⊥ = cc in no)

not_in_use : (put any : Bool) → put ≡ true → put && any ≡ false → any ≡ false
not_in_use true any is e = e
not_in_use false any is e = absurd (let no : ⊥ = cc in no)

of_put : (b : Bool) (change : CidrChange) (rows : Rows) → b ≡ true
    → cond b (put_all change.location change.blocks rows)
    (removed_all change.location change.blocks rows) ≡ put_all change.location change.blocks rows
of_put true change rows is = refl
of_put false change rows is = absurd (let no : ⊥ = cc in no)

of_removal : (b : Bool) (change : CidrChange) (rows : Rows) → b ≡ false
    → cond b (put_all change.location change.blocks rows)
    (removed_all change.location change.blocks rows)
    ≡ removed_all change.location change.blocks rows
of_removal true change rows is = absurd (let no : ⊥ = cc in no)
of_removal false change rows is = refl

pub puts : PutsAll
puts change rows row is rise unused =
    let name = change.location in
    let none_elsewhere = not_in_use change.put (list_any (is_elsewhere name rows) change.blocks) is
    unused in
    subst (λ r. Contains r row
    ↔ (Contains rows row ⊎ ((row.1 ≡ name) × Contains change.blocks row.0)))
    (sym (of_put change.put change rows is))
    (all_put name change.blocks rows
    (λ b c other there. own_by other name (bytes_eq other name) refl
    (sym (ap (is_other name) (found b rows other rise there))
    ∙ not_any (is_elsewhere name rows) change.blocks b none_elsewhere c (is_elsewhere name rows b) refl))
    row)

pub removes : RemovesAll
removes change rows row is rise =
    let name = change.location in
    subst (λ r. Contains r row
    ↔ (Contains rows row × (row.1 ≡ name → Contains change.blocks row.0 → ⊥)))
    (sym (of_removal change.put change rows is)) (all_taken name change.blocks rows rise row)
