-- Latencies that are read one after another.
use Rattle.std.proofs.Common.{◌≡◌, ◌+◌, ◌<◌, ◌≤◌, ◌&&◌, ◌||◌, ℕ, Bool, true, false, not, Option, Some, None, List, [], ◌∷◌, ◌++◌, length, map, arith, refl, sym, ap, ◌∙◌, if◌then◌else◌, length-append, append_assoc}
use Rattle.std.proofs.lemmas.List.{append-nil}
use Rattle.std.specs.Option.{is_some}
use Rattle.std.specs.Prelude.{nat_le}
use Rattle.std.specs.Str.{bytes_eq}
use Rattle.std.proofs.lemmas.Bool.{and_left, and_parts, and_right, le-leb, lt-leb}
use Rattle.std.proofs.lemmas.Slice.Eq.{bytes_eq-Decides}
use Rattle.geo_latency.specs.Lines.{all_there, are_latencies, each_once, has_region, if_latencies, in_front}
use Rattle.geo_latency.specs.Regions.{latency_of}
use Rattle.geo_latency.specs.Rows.{region_latency_of}

-- a latency is told of a region that is there
is_told : (v : Bool) (latency : ℕ) (rest : Option ℕ) → (b : Bool) → is_some rest ≡ b
    → is_some (if v then Some latency else rest) ≡ v || b
is_told true latency rest b e = refl
is_told false latency rest b e = e

pub told : (rows : List (List ℕ × ℕ)) (region : List ℕ)
    → is_some (latency_of rows region) ≡ has_region rows region
told [] region = refl
told (row ∷ rows) region =
    is_told (bytes_eq row.0 region) row.1 (latency_of rows region) (has_region rows region)
    (told rows region)

-- equal either way
turned : (a b : List ℕ) (v : Bool) → bytes_eq a b ≡ v → bytes_eq b a ≡ v
turned a b true e = (bytes_eq-Decides b a).1 (sym ((bytes_eq-Decides a b).0 e))
turned a b false e = go (bytes_eq b a) refl where
  go : (v : Bool) → bytes_eq b a ≡ v → bytes_eq b a ≡ false
  go true is =
      let no : bytes_eq a b ≡ true = (bytes_eq-Decides a b).1 (sym ((bytes_eq-Decides b a).0 is)) in
      absurd (let never : true ≡ false = sym no ∙ e in let no_more : ⊥ = cc in no_more)
  go false is = is

abbrev Rows : Type 0
Rows = List (List ℕ × ℕ)

module _ (row : List ℕ × ℕ) (more : Rows) where
  -- a region that stands behind others
  there : (rows : Rows) (region : List ℕ) → bytes_eq row.0 region ≡ true
      → has_region (rows ++ row ∷ more) region ≡ true
  there [] region e = rw e refl
  there (r ∷ rows) region e = rw (there rows region e) (or_true (bytes_eq r.0 region)) where
    or_true : (b : Bool) → b || true ≡ true
    or_true true = refl
    or_true false = refl

  -- a region twice
  twice : (rows : Rows) → has_region rows row.0 ≡ true → each_once (rows ++ row ∷ more) ≡ false
  twice [] e = absurd (let no : ⊥ = cc in no)
  twice (r ∷ rows) e = go (bytes_eq r.0 row.0) refl (twice rows) where
    go : (v : Bool) → bytes_eq r.0 row.0 ≡ v
        → (has_region rows row.0 ≡ true → each_once (rows ++ row ∷ more) ≡ false)
        → each_once (r ∷ (rows ++ row ∷ more)) ≡ false
    go true is later =
        and_left (not (has_region (rows ++ row ∷ more) r.0)) (each_once (rows ++ row ∷ more))
        (ap not (there rows r.0 (turned r.0 row.0 true is)))
    go false is later =
        and_right (not (has_region (rows ++ row ∷ more) r.0)) (each_once (rows ++ row ∷ more))
        (later (sym (ap (λ v. v || has_region rows row.0) is) ∙ e))

module _ (row : List ℕ × ℕ) where
  -- a region that stands not among others
  absent : (rows : Rows) (region : List ℕ) → bytes_eq row.0 region ≡ false
      → has_region (rows ++ row ∷ []) region ≡ has_region rows region
  absent [] region e = rw e refl
  absent (r ∷ rows) region e = ap (λ v. bytes_eq r.0 region || v) (absent rows region e)

  -- one region more, each once
  pub once_more : (rows : Rows) → each_once rows ≡ true → false ≡ has_region rows row.0
      → each_once (rows ++ row ∷ []) ≡ true
  once_more [] once e = refl
  once_more (r ∷ rows) once e = go (bytes_eq r.0 row.0) refl (once_more rows) where
    parts : (not (has_region rows r.0) ≡ true) × (each_once rows ≡ true)
    parts = and_parts (not (has_region rows r.0)) (each_once rows) once

    go : (v : Bool) → bytes_eq r.0 row.0 ≡ v
        → (each_once rows ≡ true → false ≡ has_region rows row.0
        → each_once (rows ++ row ∷ []) ≡ true)
        → each_once (r ∷ (rows ++ row ∷ [])) ≡ true
    go true is later =
        absurd (let no : false ≡ true = e ∙ ap (λ v. v || has_region rows row.0) is in
        let never : ⊥ = cc in never)
    go false is later =
        rw (absent rows r.0 (turned r.0 row.0 false is), parts.0)
        (later (parts.1) (e ∙ ap (λ v. v || has_region rows row.0) is))

-- what was read, in front of what is told in the rest
abbrev pub behind : Rows → Option Rows → Option Rows
behind rows None = None
behind rows (Some more) = Some (rows ++ more)

abbrev pub with_rest : Rows → (fields : List (List ℕ)) → Option Rows
with_rest rows fields = if_latencies (behind rows (all_there (map region_latency_of fields)))

-- nothing was read yet
pub at_start : (fields : List (List ℕ))
    → if_latencies (all_there (map region_latency_of fields)) ≡ with_rest [] fields
at_start fields = go (all_there (map region_latency_of fields)) where
  go : (o : Option Rows) → if_latencies o ≡ if_latencies (behind [] o)
  go None = refl
  go (Some rows) = refl

module _ (rows : Rows) (field : List ℕ) (fields : List (List ℕ)) where
  -- a field that is no latency
  pub none_told : None ≡ region_latency_of field → with_rest rows (field ∷ fields) ≡ None
  none_told e = rw (sym e) refl

  module _ (row : List ℕ × ℕ) (is : Some row ≡ region_latency_of field) where
    abbrev later : Option Rows
    later = all_there (map region_latency_of fields)

    -- latencies that break a rule, whatever stands behind
    broken : ((more : Rows) → are_latencies (rows ++ row ∷ more) ≡ false)
        → with_rest rows (field ∷ fields) ≡ None
    broken breaks =
        ap (λ o. if_latencies (behind rows (in_front o later))) (sym is) ∙ go later where
          go : (o : Option Rows) → if_latencies (behind rows (in_front (Some row) o)) ≡ None
          go None = refl
          go (Some more) = rw (breaks more) refl

    pub repeated : true ≡ has_region rows row.0 → with_rest rows (field ∷ fields) ≡ None
    repeated e =
        broken (λ more. and_right (nat_le 1 (length (rows ++ row ∷ more))
        && nat_le (length (rows ++ row ∷ more)) 32) (each_once (rows ++ row ∷ more))
        (twice row more rows (sym e)))

    pub too_many : 32 ≤ length rows → with_rest rows (field ∷ fields) ≡ None
    too_many many =
        broken (λ more. and_left (nat_le 1 (length (rows ++ row ∷ more))
        && nat_le (length (rows ++ row ∷ more)) 32) (each_once (rows ++ row ∷ more))
        (and_right (nat_le 1 (length (rows ++ row ∷ more)))
        (nat_le (length (rows ++ row ∷ more)) 32)
        (lt-leb (length (rows ++ row ∷ more)) 32
        (omega (arith, length-append rows (row ∷ more))))))

    -- one that was read more
    pub one_more : with_rest rows (field ∷ fields) ≡ with_rest (rows ++ row ∷ []) fields
    one_more = ap (λ o. if_latencies (behind rows (in_front o later))) (sym is) ∙ go later where
      go : (o : Option Rows) → if_latencies (behind rows (in_front (Some row) o))
          ≡ if_latencies (behind (rows ++ row ∷ []) o)
      go None = refl
      go (Some more) = ap (λ l. if_latencies (Some l)) (sym (append_assoc rows (row ∷ []) more))

-- nothing is left
pub at_end : (rows : Rows) → 1 ≤ length rows → length rows ≤ 32 → each_once rows ≡ true
    → with_rest rows [] ≡ Some rows
at_end rows some few once =
    ap (λ l. if_latencies (Some l)) (append-nil rows)
    ∙ rw (le-leb 1 (length rows) some, le-leb (length rows) 32 few, once) refl

-- what is known of a text before a field and behind it
module _ (all : Option Rows) (rows : Rows) (whole : List (List ℕ)) (field : List ℕ)
    (fields : List (List ℕ)) (before : all ≡ with_rest rows whole)
    (cut : whole ≡ field ∷ fields) where
  here : all ≡ with_rest rows (field ∷ fields)
  here = before ∙ ap (with_rest rows) cut

  pub no_latency : None ≡ region_latency_of field → None ≡ all
  no_latency e = sym (here ∙ none_told rows field fields e)

  module _ (row : List ℕ × ℕ) (is : Some row ≡ region_latency_of field) where
    pub no_more : 32 ≤ length rows → None ≡ all
    no_more many = sym (here ∙ too_many rows field fields row is many)

    pub no_second : true ≡ has_region rows row.0 → None ≡ all
    no_second e = sym (here ∙ repeated rows field fields row is e)

    module _ (once : each_once rows ≡ true) (fresh : false ≡ has_region rows row.0)
        (few : length rows < 32) (grown : Rows) (pushed : grown ≡ rows ++ row ∷ []) where
      pub told_next : all ≡ with_rest grown fields
      told_next =
          here ∙ one_more rows field fields row is ∙ ap (λ r. with_rest r fields) (sym pushed)

      pub once_next : each_once grown ≡ true
      once_next = ap each_once pushed ∙ once_more row rows once fresh

      long : length grown ≡ length rows + 1
      long = omega (arith, ap length pushed, length-append rows (row ∷ []))

      pub few_next : length grown ≤ 32
      few_next = omega (arith, long, few)

      pub told_all : fields ≡ [] → Some grown ≡ all
      told_all none =
          sym (told_next ∙ ap (with_rest grown) none
          ∙ at_end grown (omega (arith, long)) few_next once_next)
