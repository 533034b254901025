-- Zones in the order of their numbers.
use Rattle.std.proofs.Common.{◌≡◌, ◌≢◌, ℕ, zero, suc, ◌+◌, ◌<◌, ◌≤◌, List, [], ◌∷◌, ◌++◌, length, get_or, ap, ◌∙◌, sym, refl, Bool, true, false, Option, None, Some, subst, arith, inl, inr, cond}
use Rattle.std.specs.Prelude.{◌⊎◌, ◌==◌, slice_get, option_map}
use Rattle.std.proofs.lemmas.Bool.{cases_eq, eqb-true, eq-eqb}
use Rattle.std.proofs.lemmas.List.{length-map}
use Rattle.std.proofs.lemmas.Option.{slice_get_read, slice_get_within, slice_get-map}
use Rattle.zone_changes.specs.Suffix.{EndsWith}
use Rattle.zone_list.specs.Kept.{Listed, named, named_of}
use Rattle.zone_list.specs.Found.{IsSplit, IsPast, LongestOrNone, IsAsLong, IsNextZone}
use Rattle.zone_list.specs.Zones.{Zone, AreListed, IsOne, IsZoneId, placed_in}
use Rattle.zone_changes.proofs.Among.{among_at, place_of}
use Rattle.zone_list.proofs.Members.{filled, in_all}

-- the zone at a place
pub kept_at : (list : List Listed) (i : ℕ) (k : Listed) → i < length list → k ≡ get_or list i k
    → slice_get (named_of list) i ≡ Some (named k)
kept_at list i k lt is =
    slice_get-map named list i
    ∙ ap (λ (o : Option Listed). option_map named o)
    (slice_get_read list (length list) i k refl lt is)

pub as_many : (list : List Listed) → length (named_of list) ≡ length list
as_many list = length-map list named

pub one_at : (zones : List Zone) (i : ℕ) (x y : Zone) → slice_get zones i ≡ Some x
    → slice_get zones i ≡ Some y → x ≡ y
one_at zones i x y e f = grind (arith, e, f)

-- of two places the earlier has the smaller number
pub listed_at : (zones : List Zone) (j k : ℕ) (x y : Zone) → AreListed zones → j < k
    → slice_get zones j ≡ Some x → slice_get zones k ≡ Some y → x.id < y.id
listed_at [] j k x y listed lt at_j at_k = absurd (grind (arith, at_j))
listed_at (zone ∷ zones) j zero x y listed lt at_j at_k = absurd (omega (arith, lt))
listed_at (zone ∷ zones) zero (suc k) x y listed lt at_j at_k =
    let e : zone ≡ x = grind (arith, at_j) in
    let lower =
    in_all (λ other. (zone.id < other.id)
    × (zone.apex ≢ other.apex)) zones y listed.0 (among_at zones k y at_k) in
    subst (λ (z : Zone). z.id < y.id) e lower.0
listed_at (zone ∷ zones) (suc j) (suc k) x y listed lt at_j at_k =
    listed_at zones j k x y listed.1 (omega (arith, lt)) at_j at_k

up_to : (j k : ℕ) → j ≤ k → (j < k) ⊎ (j ≡ k)
up_to j k le = elim (cases_eq j k) [ inl e ↦ inr e | inr ne ↦ inl (omega (arith, le, ne)) ]

-- the numbers don't fall
no_lower : (zones : List Zone) (j k : ℕ) (x y : Zone) → AreListed zones → j ≤ k
    → slice_get zones j ≡ Some x → slice_get zones k ≡ Some y → x.id ≤ y.id
no_lower zones j k x y listed le at_j at_k = elim (up_to j k le) [
  | inl lt ↦ (let h = listed_at zones j k x y listed lt at_j at_k in omega (arith, h))
  | inr e ↦
      (let same : x ≡ y =
      one_at zones k x y (subst (λ n. slice_get zones n ≡ Some x) e at_j) at_k in
      let h : x.id ≡ y.id = ap (λ (z : Zone). z.id) same in omega (arith, h))
]

module _ (zones : List Zone) (id : ℕ) (listed : AreListed zones) where
  pub low_up : (low high m : ℕ) (x : Zone) → IsSplit zones id low high → low ≤ m → m < high
      → slice_get zones m ≡ Some x → x.id < id → IsSplit zones id (m + 1) high
  low_up low high m x split from to at_m below = record {
    order = omega (arith, to);
    within = split.within;
    before = λ k y lt at_k. (let h = no_lower zones k m y x listed (omega (arith, lt)) at_k at_m in
        omega (arith, h, below));
    behind = split.behind;
  }

  pub high_down : (low high m : ℕ) (x : Zone) → IsSplit zones id low high → low ≤ m → m < high
      → slice_get zones m ≡ Some x → (x.id < id → ⊥) → IsSplit zones id low m
  high_down low high m x split from to at_m above = record {
    order = from;
    within = (let w = split.within in omega (arith, w, to));
    before = split.before;
    behind = λ k y le at_k. (let h = no_lower zones m k x y listed le at_m at_k in
        omega (arith, h, above));
  }

  -- no zone has a number that isn't that of the first one from it on
  pub not_found : (n : ℕ) → IsSplit zones id n n
      → ((x : Zone) → slice_get zones n ≡ Some x → x.id ≢ id) → IsZoneId zones id → ⊥
  not_found n split other (zone, there, its_id) =
      let place = place_of zones zone there in
      let from : n ≤ place.0 = at_or_behind place.0 place.1 in
      elim (up_to n place.0 from) [
        | inl lt ↦ further place.0 lt place.1
        | inr e ↦ other zone (subst (λ k. slice_get zones k ≡ Some zone) (sym e) place.1) its_id
      ]
    where
      at_or_behind : (k : ℕ) → slice_get zones k ≡ Some zone → n ≤ k
      at_or_behind k at =
          elim (low_or_high k n) [
            | inl lt ↦
                (let h = split.before k zone lt at in absurd (omega (arith, h, its_id)))
            | inr le ↦ le
          ]
        where
          low_or_high : (a b : ℕ) → (a < b) ⊎ (b ≤ a)
          low_or_high a zero = inr (omega arith)
          low_or_high zero (suc b) = inl (omega arith)
          low_or_high (suc a) (suc b) =
              elim (low_or_high a b) [
                | inl lt ↦ inl (omega (arith, lt))
                | inr le ↦ inr (omega (arith, le))
              ]

      further : (k : ℕ) → n < k → slice_get zones k ≡ Some zone → ⊥
      further k lt at =
          let inside = slice_get_within zones k zone at in
          let first = filled zones n (omega (arith, lt, inside)) in
          let h = listed_at zones n k first.0 zone listed lt first.1 at in
          let up = split.behind n first.0 (omega arith) first.1 in
          omega (arith, h, up, its_id)

  pub next_zone : (n : ℕ) (x : Zone) → IsPast zones id n → slice_get zones n ≡ Some x
      → IsNextZone zones id x.id
  next_zone n x past at = record {
    there = (x, among_at zones n x at, refl);
    above = past.behind n x (omega arith) at;
    least = least;
  }
    where
      low_or_high : (a b : ℕ) → (a < b) ⊎ (b ≤ a)
      low_or_high a zero = inr (omega arith)
      low_or_high zero (suc b) = inl (omega arith)
      low_or_high (suc a) (suc b) =
          elim (low_or_high a b) [
            | inl lt ↦ inl (omega (arith, lt))
            | inr le ↦ inr (omega (arith, le))
          ]

      least : (zone : Zone) → IsOne zones zone → id < zone.id → x.id ≤ zone.id
      least zone there above =
          let place = place_of zones zone there in
          elim (low_or_high place.0 n) [
            | inl lt ↦
                (let h = past.before place.0 zone lt place.1 in absurd (omega (arith, h, above)))
            | inr le ↦ no_lower zones n place.0 x zone listed le at place.1
          ]

  pub no_next : (n : ℕ) → IsPast zones id n → length zones ≤ n → (zone : Zone) → IsOne zones zone
      → zone.id ≤ id
  no_next n past all zone there =
      let place = place_of zones zone there in
      let inside = slice_get_within zones place.0 zone place.1 in
      past.before place.0 zone (omega (arith, inside, all)) place.1

  -- the zone at the first place from a number has a larger one
  pub past_at : (n : ℕ) (x : Zone) → IsSplit zones id n n → slice_get zones n ≡ Some x → id < x.id
      → IsPast zones id n
  past_at n x split at above = record {
    within = split.within;
    before = λ k y lt at_k. (let h = split.before k y lt at_k in omega (arith, h));
    behind = λ k y le at_k. (let h = no_lower zones n k x y listed le at at_k in
        omega (arith, h, above));
  }

  -- it has this number
  pub past_behind : (n : ℕ) (x : Zone) → IsSplit zones id n n → slice_get zones n ≡ Some x
      → (x.id ≤ id) → IsPast zones id (n + 1)
  past_behind n x split at le_id = record {
    within = (let inside = slice_get_within zones n x at in omega (arith, inside));
    before = λ k y lt at_k. (let h = no_lower zones k n y x listed (omega (arith, lt)) at_k at in
        omega (arith, h, le_id));
    behind = λ k y le at_k. (let h = listed_at zones n k x y listed (omega (arith, le)) at at_k in
        let up = split.behind n x (omega arith) at in omega (arith, h, up));
  }

-- two zones of one number are one
pub one_zone : (zones : List Zone) → AreListed zones → (x y : Zone) → IsOne zones x → IsOne zones y
    → x.id ≡ y.id → x ≡ y
one_zone [] listed x y at_x at_y e = absurd at_x
one_zone (zone ∷ zones) listed x y (inl ex) (inl ey) e = sym ex ∙ ey
one_zone (zone ∷ zones) listed x y (inl ex) (inr at_y) e =
    let lower =
    in_all (λ other. (zone.id < other.id) × (zone.apex ≢ other.apex)) zones y listed.0 at_y in
    let h = lower.0 in
    let f : zone.id ≡ x.id = ap (λ (z : Zone). z.id) ex in
    absurd (omega (arith, h, f, e))
one_zone (zone ∷ zones) listed x y (inr at_x) (inl ey) e =
    let lower =
    in_all (λ other. (zone.id < other.id) × (zone.apex ≢ other.apex)) zones x listed.0 at_x in
    let h = lower.0 in
    let f : zone.id ≡ y.id = ap (λ (z : Zone). z.id) ey in
    absurd (omega (arith, h, f, e))
one_zone (zone ∷ zones) listed x y (inr at_x) (inr at_y) e = one_zone zones listed.1 x y at_x at_y e

pub its_placed : (zones : List Zone) → AreListed zones → (x : Zone) → IsOne zones x
    → placed_in zones x.id ≡ x.placed
its_placed [] listed x there = absurd there
its_placed (zone ∷ zones) listed x (inl e) =
    let same : (zone.id == x.id) ≡ true = eq-eqb zone.id x.id (ap (λ (z : Zone). z.id) e) in
    ap (λ b. cond b zone.placed (placed_in zones x.id)) same ∙ ap (λ (z : Zone). z.placed) e
its_placed (zone ∷ zones) listed x (inr there) =
    let lower =
    in_all (λ other. (zone.id < other.id) × (zone.apex ≢ other.apex)) zones x listed.0 there in
    ap (λ b. cond b zone.placed (placed_in zones x.id)) (apart zone.id x.id lower.0)
    ∙ its_placed zones listed.1 x there
  where
    by : (a b : ℕ) (t : Bool) → (a == b) ≡ t → a < b → (a == b) ≡ false
    by a b true e lt = absurd (let same = eqb-true a b e in omega (arith, same, lt))
    by a b false e lt = e

    apart : (a b : ℕ) → a < b → (a == b) ≡ false
    apart a b lt = by a b (a == b) refl lt

pub none_placed : (zones : List Zone) (id : ℕ) → (IsZoneId zones id → ⊥) → placed_in zones id ≡ []
none_placed [] id none = refl
none_placed (zone ∷ zones) id none =
    ap (λ b. cond b zone.placed (placed_in zones id)) (by (zone.id == id) refl)
    ∙ none_placed zones id (λ h. none (h.0, inr h.1, h.2))
  where
    by : (t : Bool) → (zone.id == id) ≡ t → (zone.id == id) ≡ false
    by true e = absurd (none (zone, inl refl, eqb-true zone.id id e))
    by false e = e

-- ---- the longest name

in_more : (zones : List Zone) (zone x : Zone) → IsOne (zones ++ zone ∷ []) x
    → IsOne zones x ⊎ (zone ≡ x)
in_more [] zone x (inl e) = inr e
in_more [] zone x (inr there) = absurd there
in_more (z ∷ zones) zone x (inl e) = inl (inl e)
in_more (z ∷ zones) zone x (inr there) =
    elim (in_more zones zone x there) [ inl before ↦ inl (inr before) | inr e ↦ inr e ]

front_in : (zones : List Zone) (zone x : Zone) → IsOne zones x → IsOne (zones ++ zone ∷ []) x
front_in [] zone x there = absurd there
front_in (z ∷ zones) zone x (inl e) = inl e
front_in (z ∷ zones) zone x (inr there) = inr (front_in zones zone x there)

last_in : (zones : List Zone) (zone : Zone) → IsOne (zones ++ zone ∷ []) zone
last_in [] zone = inl refl
last_in (z ∷ zones) zone = inr (last_in zones zone)

module _ (name : List (List ℕ)) (zone : Zone) where
  -- a zone that doesn't hold the name changes nothing
  pub passed_by : (EndsWith name zone.apex → ⊥) → (found : Option (ℕ × ℕ)) (zones : List Zone)
      → LongestOrNone zones name found → LongestOrNone (zones ++ zone ∷ []) name found
  passed_by other None zones none = λ x there above. elim (in_more zones zone x there) [
    | inl before ↦ none x before above
    | inr e ↦ other (subst (λ (z : Zone). EndsWith name z.apex) (sym e) above)
  ]
  passed_by other (Some (id, labels)) zones longest = record {
    zone = longest.zone;
    there = front_in zones zone longest.zone longest.there;
    its_id = longest.its_id;
    above = longest.above;
    as_long = longest.as_long;
    longest = λ x there above. elim (in_more zones zone x there) [
      | inl before ↦ longest.longest x before above
      | inr e ↦ absurd (other (subst (λ (z : Zone). EndsWith name z.apex) (sym e) above))
    ];
  }

  -- nor does one with a name that is no longer
  pub no_longer : (found : Option (ℕ × ℕ)) → IsAsLong found (length zone.apex) → (zones : List Zone)
      → LongestOrNone zones name found → LongestOrNone (zones ++ zone ∷ []) name found
  no_longer None long zones none = absurd long
  no_longer (Some (id, labels)) long zones longest = record {
    zone = longest.zone;
    there = front_in zones zone longest.zone longest.there;
    its_id = longest.its_id;
    above = longest.above;
    as_long = longest.as_long;
    longest = λ x there above. elim (in_more zones zone x there) [
      | inl before ↦ longest.longest x before above
      | inr e ↦
          (let l : length zone.apex ≡ length x.apex = ap (λ (z : Zone). length z.apex) e in
          omega (arith, long, l))
    ];
  }

  pub now_longest : EndsWith name zone.apex → (found : Option (ℕ × ℕ))
      → (IsAsLong found (length zone.apex) → ⊥) → (zones : List Zone)
      → LongestOrNone zones name found
      → LongestOrNone (zones ++ zone ∷ []) name (Some (zone.id, length zone.apex))
  now_longest above None longer zones none = record {
    zone = zone;
    there = last_in zones zone;
    its_id = refl;
    above = above;
    as_long = refl;
    longest = λ x there holds. elim (in_more zones zone x there) [
      | inl before ↦ absurd (none x before holds)
      | inr e ↦
          (let l : length zone.apex ≡ length x.apex = ap (λ (z : Zone). length z.apex) e in
          omega (arith, l))
    ];
  }
  now_longest above (Some (id, labels)) longer zones longest = record {
    zone = zone;
    there = last_in zones zone;
    its_id = refl;
    above = above;
    as_long = refl;
    longest = λ x there holds. elim (in_more zones zone x there) [
      | inl before ↦ (let h = longest.longest x before holds in omega (arith, h, longer))
      | inr e ↦
          (let l : length zone.apex ≡ length x.apex = ap (λ (z : Zone). length z.apex) e in
          omega (arith, l))
    ];
  }
