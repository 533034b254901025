-- The numbers of collections, which rise.
use Rattle.std.proofs.Common.{◌≡◌, ℕ, zero, suc, ◌+◌, ◌<◌, ◌≤◌, List, [], ◌∷◌, length, get_or, drop, Option, None, Some, ap, ◌∙◌, sym, refl, subst, arith}
use Rattle.std.specs.List.{AllByRecursion}
use Rattle.std.specs.Prelude.{cond}
use Rattle.std.proofs.lemmas.Bool.{eq-eqb}
use Rattle.std.proofs.lemmas.List.{drop_more, length-drop}
use Rattle.std.proofs.lemmas.Option.{slice_get_read}
use Rattle.cidr_changes.specs.CollectionRecord.{Collection}
use Rattle.cidr_commands.specs.Stored.{IdsRise, IsId, IsNextId, NextIdOrNone, PlaceOrNone, collection_with}

abbrev pub Held : Type 0
Held = ℕ × Collection

-- what holds of all of them holds at a place
pub all_at : (P : Held → Type 0) (list : List Held) (k : ℕ) (held : Held) → AllByRecursion P list
    → k < length list → get_or list k held ≡ held → P held
all_at P [] k held all lt is = absurd (omega (arith, lt))
all_at P (x ∷ list) zero held all lt is = subst P is all.0
all_at P (x ∷ list) (suc k) held all lt is = all_at P list k held all.1 (omega (arith, lt)) is

pub rise_rest : (list : List Held) (i : ℕ) → IdsRise list → IdsRise (drop i list)
rise_rest list zero rise = rise
rise_rest [] (suc i) rise = tt
rise_rest (held ∷ list) (suc i) rise = rise_rest list i rise.1

-- the first one of them is the next
next_here : (held : Held) (list : List Held) (id : ℕ) → IdsRise (held ∷ list) → id < held.0
    → IsNextId (held ∷ list) id held.0
next_here held list id rise above = record {
  there = (held.1, (zero, omega arith, refl));
  above = above;
  least = least;
}
  where
    least : (other : ℕ) → IsId (held ∷ list) other → id < other → held.0 ≤ other
    least other (collection, (zero, lt, is)) over =
        let same : held.0 ≡ other = ap (λ (h : Held). h.0) is in omega (arith, same)
    least other (collection, (suc k, lt, is)) over =
        let h : held.0 < other =
        all_at (λ h. held.0 < h.0) list k (other, collection) rise.0 (omega (arith, lt)) is in
        omega (arith, h)

-- the first one of them is not above the number
next_behind : (held : Held) (list : List Held) (id : ℕ) → held.0 ≤ id → (next : Option ℕ)
    → NextIdOrNone list id next → NextIdOrNone (held ∷ list) id next
next_behind held list id low None none = most
  where
    most : (other : ℕ) → IsId (held ∷ list) other → other ≤ id
    most other (collection, (zero, lt, is)) =
        let same : held.0 ≡ other = ap (λ (h : Held). h.0) is in omega (arith, same, low)
    most other (collection, (suc k, lt, is)) =
        none other (collection, (k, omega (arith, lt), is))
next_behind held list id low (Some next) first = record {
  there = (let t = first.there in (t.0, (suc t.1.0, (let lt = t.1.1 in omega (arith, lt)), t.1.2)));
  above = first.above;
  least = least;
}
  where
    least : (other : ℕ) → IsId (held ∷ list) other → id < other → next ≤ other
    least other (collection, (zero, lt, is)) over =
        let same : held.0 ≡ other = ap (λ (h : Held). h.0) is in
        absurd (omega (arith, same, low, over))
    least other (collection, (suc k, lt, is)) over =
        first.least other (collection, (k, omega (arith, lt), is)) over

module _ (list : List Held) (id i : ℕ) (held : Held) (lt : i < length list)
    (is : held ≡ get_or list i held) where
  rest : drop i list ≡ held ∷ drop (i + 1) list
  rest = drop_more list i held lt ∙ ap (λ (h : Held). h ∷ drop (i + 1) list) (sym is)

  pub here : IdsRise list → id < held.0 → IsNextId (drop i list) id held.0
  here rise above = subst (λ l. IsNextId l id held.0) (sym rest)
      (next_here held (drop (i + 1) list) id (subst IdsRise rest (rise_rest list i rise)) above)

  pub behind : held.0 ≤ id → (next : Option ℕ) → NextIdOrNone (drop (i + 1) list) id next
      → NextIdOrNone (drop i list) id next
  behind low next h = subst (λ l. NextIdOrNone l id next) (sym rest)
      (next_behind held (drop (i + 1) list) id low next h)

module _ (list : List Held) (i id : ℕ) (held : Held) (lt : i < length list)
    (is : held ≡ get_or list i held) (same : held.0 ≡ id)
    (left : collection_with id (drop i list) ≡ collection_with id list) where
  pub found_here : PlaceOrNone list id (Some i)
  found_here = (
    held.1,
    slice_get_read list (length list) i held refl lt is ∙ ap (λ n. Some (n, held.1)) same,
    sym left ∙ ap (collection_with id) (rest list id i held lt is)
        ∙ ap (λ b. cond b (Some held.1) (collection_with id (drop (i + 1) list)))
        (eq-eqb id held.0 (sym same)),
  )

pub none_left : (list : List Held) (i id : ℕ) → (length list ≤ i)
    → NextIdOrNone (drop i list) id None
none_left list i id over other (collection, (k, lt, is)) =
    absurd (let e = length-drop i list in omega (arith, e, lt, over))
