-- Rows of which no block stands twice.
use Rattle.std.proofs.Common.{◌≡◌, ◌≢◌, ℕ, zero, suc, ◌+◌, ◌<◌, drop, List, [], ◌∷◌, ◌++◌, length, get_or, ap, ◌∙◌, sym, arith}
use Rattle.std.specs.List.{AllByRecursion}
use Rattle.std.proofs.lemmas.List.{drop_more, append_assoc}
use Rattle.ip_table.specs.Prefixes.{Prefix}
use Rattle.ip_table.specs.Rows.{HasRow}
use Rattle.cidr_blocks.specs.declared.places.CidrLocation.{CidrLocation}
use Rattle.cidr_blocks.specs.Places.{StandOnce, rows_at, rows_of}

abbrev pub Row : Type 0
Row = Prefix × List ℕ

-- none of the first ones
all_front : (P : Row → Type 0) (xs ys : List Row) → AllByRecursion P (xs ++ ys)
    → AllByRecursion P xs
all_front P [] ys all = tt
all_front P (x ∷ xs) ys all = (all.0, all_front P xs ys all.1)

-- the first ones of them
pub front : (xs ys : List Row) → StandOnce (xs ++ ys) → StandOnce xs
front [] ys once = tt
front (x ∷ xs) ys once = (all_front (λ other. other.0 ≢ x.0) xs ys once.0, front xs ys once.1)

behind : (P : Row → Type 0) (xs : List Row) (y : Row) (ys : List Row)
    → AllByRecursion P (xs ++ y ∷ ys) → P y
behind P [] y ys all = all.0
behind P (x ∷ xs) y ys all = behind P xs y ys all.1

-- a block that stands behind some rows stands in none of them
pub fresh : (xs : List Row) (p : Prefix) (name : List ℕ) (ys : List Row)
    → StandOnce (xs ++ (p, name) ∷ ys) → HasRow xs p → ⊥
fresh [] p name ys once h = absurd (let lt = h.1.1 in omega (arith, lt))
fresh (x ∷ xs) p name ys once (value, (zero, lt, is)) =
    behind (λ other. other.0 ≢ x.0) xs (p, name) ys once.0 (ap (λ (r : Row). r.0) (sym is))
fresh (x ∷ xs) p name ys once (value, (suc k, lt, is)) =
    fresh xs p name ys once.1 (value, (k, omega (arith, lt), is))

-- the next row of a location
pub next_row : (rows : List Row) (name : List ℕ) (blocks : List Prefix) (i : ℕ) (block : Prefix)
    → i < length blocks → block ≡ get_or blocks i block
    → rows ++ rows_at name (drop i blocks)
    ≡ rows ++ (block, name) ∷ rows_at name (drop (i + 1) blocks)
next_row rows name blocks i block lt is =
    ap (λ bs. rows ++ rows_at name bs) (drop_more blocks i block lt)
    ∙ ap (λ b. rows ++ (b, name) ∷ rows_at name (drop (i + 1) blocks)) (sym is)

-- the rows of the next location
pub next_rows : (rows : List Row) (locations : List CidrLocation) (i : ℕ) (location : CidrLocation)
    → i < length locations → location ≡ get_or locations i location
    → rows ++ rows_of (drop i locations)
    ≡ (rows ++ rows_at location.name location.blocks) ++ rows_of (drop (i + 1) locations)
next_rows rows locations i location lt is =
    ap (λ ls. rows ++ rows_of ls) (drop_more locations i location lt)
    ∙ ap (λ (l : CidrLocation).
    rows ++ (rows_at l.name l.blocks ++ rows_of (drop (i + 1) locations)))
    (sym is)
    ∙ sym (append_assoc rows (rows_at location.name location.blocks)
    (rows_of (drop (i + 1) locations)))
