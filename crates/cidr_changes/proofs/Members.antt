-- What the locations of blocks hold is these blocks, each under its own name.
use Rattle.std.proofs.Common.{◌≡◌, ◌⊎◌, ℕ, List, [], ◌∷◌, ◌++◌, Ordering, Less, Equal, Greater, inl, inr, ap, ◌∙◌, sym, refl, subst, arith}
use Rattle.std.specs.Prelude.{◌↔◌, Contains}
use Rattle.std.specs.Ordering.{match_ordering}
use Rattle.std.proofs.lemmas.List.{append_assoc}
use Rattle.std.proofs.lemmas.List.Elements.{Contains-append_cases, Contains-append_left, Contains-append_right}
use Rattle.std.proofs.lemmas.Map.Lookups.{exact_bytes}
use Rattle.cidr_blocks.specs.Prefixes.{Prefix}
use Rattle.cidr_blocks.specs.declared.places.CidrLocation.{CidrLocation}
use Rattle.cidr_blocks.specs.Places.{name_cmp, rows_at, rows_of}
use Rattle.cidr_blocks.proofs.Elements.{first, later, none, which}
use Rattle.cidr_changes.specs.Changes.{Rows}
use Rattle.cidr_changes.specs.Gathered.{gathered, grown, of_block, with_row}
use Rattle.cidr_changes.specs.Laws.{GatherAll, GatherOnce}
use Rattle.cidr_changes.proofs.Gather.{gathered_count}
use Rattle.cidr_changes.proofs.Rising.{Row}

module _ (block : Prefix) (name : List ℕ) where
  abbrev pub new : Row
  new = (block, name)

  -- rows with the new one among them
  abbrev pub IsMore : (before after : List Row) → Type 0
  IsMore before after = (row : Row) → Contains after row ↔ ((new ≡ row) ⊎ Contains before row)

  joined : (rows : List Row) (row : Row) → (new ≡ row) ⊎ Contains rows row
      → Contains (new ∷ rows) row
  joined rows row (inl e) = subst (Contains (new ∷ rows)) e (first new rows)
  joined rows row (inr c) = later new row rows c

  pub in_front : (rows : List Row) → IsMore rows (new ∷ rows)
  in_front rows row = (which new row rows, joined rows row)

  module _ (xs rest more : List Row) (is : IsMore rest more) (row : Row) where
    in_rest : (new ≡ row) ⊎ Contains rest row → (new ≡ row) ⊎ Contains (xs ++ rest) row
    in_rest (inl e) = inl e
    in_rest (inr c) = inr (Contains-append_right xs rest row c)

    taken : Contains xs row ⊎ Contains more row → (new ≡ row) ⊎ Contains (xs ++ rest) row
    taken (inl c) = inr (Contains-append_left xs rest row c)
    taken (inr c) = in_rest ((is row).0 c)

    in_either : Contains xs row ⊎ Contains rest row → Contains (xs ++ more) row
    in_either (inl c) = Contains-append_left xs more row c
    in_either (inr c) = Contains-append_right xs more row ((is row).1 (inr c))

    put : (new ≡ row) ⊎ Contains (xs ++ rest) row → Contains (xs ++ more) row
    put (inl e) = Contains-append_right xs more row ((is row).1 (inl e))
    put (inr c) = in_either (Contains-append_cases xs rest row c)

    pub behind : Contains (xs ++ more) row ↔ ((new ≡ row) ⊎ Contains (xs ++ rest) row)
    behind = (λ c. taken (Contains-append_cases xs more row c), put)

  grown_rows : (at : List ℕ) (blocks : List Prefix)
      → rows_at at (blocks ++ block ∷ []) ≡ rows_at at blocks ++ (block, at) ∷ []
  grown_rows at [] = refl
  grown_rows at (b ∷ blocks) = ap (λ rows. (b, at) ∷ rows) (grown_rows at blocks)

  by : (o : Ordering) (l : CidrLocation) (ls : List CidrLocation) → name_cmp name l.name ≡ o
      → IsMore (rows_of ls) (rows_of (with_row name block ls))
      → IsMore (rows_of (l ∷ ls)) (rows_of (match_ordering o
      (of_block name block ∷ l ∷ ls) (grown l block ∷ ls) (l ∷ with_row name block ls)))
  by Less l ls e is = in_front (rows_of (l ∷ ls))
  by Equal l ls e is =
      let same : name ≡ l.name = exact_bytes name l.name e in
      let rows : List Row = rows_at l.name l.blocks in
      let grows : rows_of (grown l block ∷ ls) ≡ rows ++ (new ∷ rows_of ls) =
      ap (λ r. r ++ rows_of ls) (grown_rows l.name l.blocks)
      ∙ append_assoc rows ((block, l.name) ∷ []) (rows_of ls)
      ∙ ap (λ n. rows ++ ((block, n) ∷ rows_of ls)) (sym same) in
      subst (IsMore (rows_of (l ∷ ls))) (sym grows)
      (behind rows (rows_of ls) (new ∷ rows_of ls) (in_front (rows_of ls)))
  by Greater l ls e is =
      behind (rows_at l.name l.blocks) (rows_of ls) (rows_of (with_row name block ls)) is

  one_more : (ls : List CidrLocation) → IsMore (rows_of ls) (rows_of (with_row name block ls))
  one_more [] = in_front []
  one_more (l ∷ ls) = by (name_cmp name l.name) l ls refl (one_more ls)

module _ (row r : Row) (rows : Rows) (ls : List CidrLocation) where
  turned : (r ≡ row) ⊎ Contains (rows_of ls) row → Contains (r ∷ rows) row ⊎ Contains (rows_of ls) row
  turned (inl e) = inl (subst (Contains (r ∷ rows)) e (first r rows))
  turned (inr c) = inr c

  there : Contains rows row ⊎ Contains (rows_of (with_row r.1 r.0 ls)) row
      → Contains (r ∷ rows) row ⊎ Contains (rows_of ls) row
  there (inl c) = inl (later r row rows c)
  there (inr c) = turned ((one_more r.0 r.1 ls row).0 c)

  front : (r ≡ row) ⊎ Contains rows row → Contains rows row ⊎ Contains (rows_of (with_row r.1 r.0 ls)) row
  front (inl e) = inr ((one_more r.0 r.1 ls row).1 (inl e))
  front (inr c) = inl c

  back : Contains (r ∷ rows) row ⊎ Contains (rows_of ls) row
      → Contains rows row ⊎ Contains (rows_of (with_row r.1 r.0 ls)) row
  back (inl c) = front (which r row rows c)
  back (inr c) = inr ((one_more r.0 r.1 ls row).1 (inr c))

held : (rows : Rows) (ls : List CidrLocation) (row : Row)
    → Contains (rows_of (gathered rows ls)) row ↔ (Contains rows row ⊎ Contains (rows_of ls) row)
held [] ls row = (λ c. inr c, from)
  where
    from : Contains [] row ⊎ Contains (rows_of ls) row → Contains (rows_of ls) row
    from (inl c) = absurd (none row c)
    from (inr c) = c
held (r ∷ rows) ls row =
    let rest = held rows (with_row r.1 r.0 ls) row in
    (λ c. there row r rows ls (rest.0 c), λ s. rest.1 (back row r rows ls s))

pub all : GatherAll
all rows row = (λ c. only ((held rows [] row).0 c), λ c. (held rows [] row).1 (inl c))
  where
    only : Contains rows row ⊎ Contains [] row → Contains rows row
    only (inl c) = c
    only (inr c) = absurd (none row c)

pub once : GatherOnce
once rows = let e = gathered_count rows [] in omega (arith, e)
