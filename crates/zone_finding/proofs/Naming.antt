-- Zones with their sets, and the same without them.
use Rattle.std.proofs.Common.{◌≡◌, ◌≢◌, ℕ, zero, suc, ◌<◌, ◌≤◌, List, [], ◌∷◌, length, map, get_or, ap, ◌∙◌, sym, refl, Option, None, Some, subst, arith, inl, inr}
use Rattle.std.specs.Prelude.{slice_get, option_map}
use Rattle.std.specs.List.{AllByRecursion}
use Rattle.std.proofs.lemmas.List.{length-map}
use Rattle.std.proofs.lemmas.Option.{slice_get_read, slice_get_within, slice_get-map}
use Rattle.zone_list.specs.Suffix.{EndsWith}
use Rattle.zone_list.specs.Stored.{Kept}
use Rattle.zone_list.specs.Sets.{IsAmong}
use Rattle.zone_list.proofs.Among.{among_at}
use Rattle.zone_list.specs.Orders.{IsOrder, slotted_at, slotted_of, set_in}
use Rattle.zone_list.proofs.Orders.{of_zone}
use Rattle.zone_list.specs.Found.{IsAt, LongestOrNone, NextZoneOrNone}
use Rattle.zone_list.specs.Kept.{AreIntact, HasId, Listed, named, named_of, IsIntact, zone_in, zones_in}
use Rattle.zone_list.specs.Zones.{AreListed, AreZones, IsZoneId, StandsAlone, Zone, placed_in}
use Rattle.zone_list.proofs.Listing.{its_placed, none_placed, one_zone}
use Rattle.zone_list.proofs.Members.{in_all}
use Rattle.zone_finding.specs.Looking.{IsZoneForOrNone, IsApex}
use Rattle.zone_finding.specs.Stored.{IsNone, IsOrderIn}

abbrev Before : Zone → Zone → Type 0
Before zone other = (zone.id < other.id) × (zone.apex ≢ other.apex)

pub in_map : {X Y : Type 0} (f : X → Y) (xs : List X) (x : X) → IsAmong xs x → IsAmong (map f xs) (f x)
in_map f [] x there = absurd there
in_map f (y ∷ xs) x (inl e) = inl (ap f e)
in_map f (y ∷ xs) x (inr there) = inr (in_map f xs x there)

pub of_map : {X Y : Type 0} (f : X → Y) (xs : List X) (y : Y) → IsAmong (map f xs) y
    → (x : X) × IsAmong xs x × (f x ≡ y)
of_map f [] y there = absurd there
of_map f (x ∷ xs) y (inl e) = (x, inl refl, e)
of_map f (x ∷ xs) y (inr there) = let rest = of_map f xs y there in (rest.0, inr rest.1, rest.2)

-- what stands at a place of a list that is mapped
pub of_map_at : {X Y : Type 0} (f : X → Y) (xs : List X) (i : ℕ) (y : Y) → slice_get (map f xs) i ≡ Some y
    → (x : X) × (slice_get xs i ≡ Some x) × (f x ≡ y)
of_map_at f [] i y at = absurd (grind (arith, at))
of_map_at f (x ∷ xs) zero y at = (x, refl, (let e : f x ≡ y = grind (arith, at) in e))
of_map_at f (x ∷ xs) (suc i) y at = of_map_at f xs i y at

pub map_at : {X Y : Type 0} (f : X → Y) (xs : List X) (i : ℕ) (x : X) → slice_get xs i ≡ Some x
    → slice_get (map f xs) i ≡ Some (f x)
map_at {X} f xs i x at = slice_get-map f xs i ∙ ap (λ (o : Option X). option_map f o) at

module _ (slots : List (Option Kept)) where
  pub with_sets : (list : List Listed) → AreListed (named_of list) → AreListed (zones_in slots list)
  with_sets [] listed = tt
  with_sets (k ∷ list) listed = (later list listed.0, with_sets list listed.1)
    where
      later : (rest : List Listed) → AllByRecursion (Before (named k)) (named_of rest)
          → AllByRecursion (Before (zone_in slots k)) (zones_in slots rest)
      later [] all = tt
      later (j ∷ rest) all = (all.0, later rest all.1)

  -- a zone of a number, with its sets and without them
  pub one_with : (list : List Listed) (id : ℕ) → HasId list id → IsZoneId (zones_in slots list) id
  one_with list id (k, there, is) = (zone_in slots k, in_map (zone_in slots) list k there, is)

  pub one_of : (list : List Listed) (id : ℕ) → IsZoneId (zones_in slots list) id → HasId list id
  one_of list id (zone, there, is) =
      let k = of_map (zone_in slots) list zone there in
      (k.0, k.1, ap (λ (z : Zone). z.id) k.2 ∙ is)

  pub one_named : (list : List Listed) (id : ℕ) → IsZoneId (zones_in slots list) id
      → IsZoneId (named_of list) id
  one_named list id is =
      let k = one_of list id is in (named k.0, in_map named list k.0 k.1, k.2)

  -- ---- what is found

  pub found_at : (list : List Listed) (id i : ℕ) → IsAt (named_of list) id i
      → (k : Listed) × (slice_get list i ≡ Some k) × (k.id ≡ id)
  found_at list id i found =
      let k = of_map_at named list i found.zone found.there in
      (k.0, k.1, ap (λ (z : Zone). z.id) k.2 ∙ found.its_id)

  pub holds : (list : List Listed) (name : List (List ℕ)) (found : Option (ℕ × ℕ))
      → LongestOrNone (named_of list) name found
      → (id : Option ℕ) → id ≡ option_map (λ (p : ℕ × ℕ). p.0) found
      → IsZoneForOrNone (zones_in slots list) name id
  holds list name None none None e = λ zone there above.
      let k = of_map (zone_in slots) list zone there in
      none (named k.0) (in_map named list k.0 k.1)
      (subst (λ (z : Zone). EndsWith name z.apex) (sym k.2) above)
  holds list name None none (Some id) e = absurd cc
  holds list name (Some (id, labels)) longest None e = absurd cc
  holds list name (Some (id, labels)) longest (Some n) e =
      let k = of_map named list longest.zone longest.there in
      let same : n ≡ id = (let f : Some n ≡ Some id = e in cc) in record {
        zone = zone_in slots k.0;
        there = in_map (zone_in slots) list k.0 k.1;
        its_id = ap (λ (z : Zone). z.id) k.2 ∙ (longest.its_id ∙ sym same);
        above = subst (λ (z : Zone). EndsWith name z.apex) (sym k.2) longest.above;
        longest = λ other there above.
            (let j = of_map (zone_in slots) list other there in
            let short = longest.longest (named j.0) (in_map named list j.0 j.1)
            (subst (λ (z : Zone). EndsWith name z.apex) (sym j.2) above) in
            let as_long : length longest.zone.apex ≡ length k.0.apex =
            ap (λ (z : Zone). length z.apex) (sym k.2) in
            let its : length j.0.apex ≡ length other.apex = ap (λ (z : Zone). length z.apex) j.2 in
            let labels_are = longest.as_long in
            omega (arith, short, as_long, its, labels_are));
      }

  pub next_with : (list : List Listed) (id : ℕ) (next : Option ℕ) → NextZoneOrNone (named_of list) id next
      → NextZoneOrNone (zones_in slots list) id next
  next_with list id None none = λ zone there.
      let k = of_map (zone_in slots) list zone there in
      subst (λ (z : Zone). z.id ≤ id) k.2 (none (named k.0) (in_map named list k.0 k.1))
  next_with list id (Some next) is = record {
    there = (let j = is.there in let k = of_map named list j.0 j.1 in
        (zone_in slots k.0, in_map (zone_in slots) list k.0 k.1, ap (λ (z : Zone). z.id) k.2 ∙ j.2));
    above = is.above;
    least = λ zone there above.
        (let k = of_map (zone_in slots) list zone there in
        let its : k.0.id ≡ zone.id = ap (λ (z : Zone). z.id) k.2 in
        let up : id < k.0.id = omega (arith, above, its) in
        let h = is.least (named k.0) (in_map named list k.0 k.1) up in
        omega (arith, h, its));
  }

  -- ---- what is kept

  pub alone : (k : Listed) → IsIntact slots k → StandsAlone (zone_in slots k)
  alone k stands = record {
    numbered = stands.numbered;
    sets = of_zone (set_in slots k.id) k.order stands.order;
    each = stands.each;
  }

  pub all_alone : (list : List Listed) → AllByRecursion (IsIntact slots) list
      → AllByRecursion StandsAlone (zones_in slots list)
  all_alone [] each = tt
  all_alone (k ∷ list) each = (alone k each.0, all_alone list each.1)

  module _ (list : List Listed) (kept : AreIntact slots list) where
    pub are_zones : AreZones (zones_in slots list)
    are_zones = record { listed = with_sets list kept.listed; each = all_alone list kept.each }

    pub its_sets : (k : Listed) → IsAmong list k
        → placed_in (zones_in slots list) k.id ≡ slotted_of slots k.id k.order
    its_sets k there =
        its_placed (zones_in slots list) are_zones.listed (zone_in slots k)
        (in_map (zone_in slots) list k there)

    pub stands_here : (k : Listed) → IsAmong list k → IsIntact slots k
    stands_here k there = in_all (IsIntact slots) list k kept.each there

    pub order_is : (id i : ℕ) → IsAt (named_of list) id i → (k : Listed) → i < length list
        → k ≡ get_or list i k → IsOrderIn slots list id k.order
    order_is id i found k inside is =
        let j = found_at list id i found in
        let at : slice_get list i ≡ Some k = slice_get_read list (length list) i k refl inside is in
        let same : j.0 ≡ k = (let e = j.1 in let f = at in cc) in
        let its_id : k.id ≡ id = ap (λ (l : Listed). l.id) (sym same) ∙ j.2 in
        let there : IsAmong list k = among_at list i k at in record {
          order_is = subst (λ n. IsOrder slots n k.order) its_id (stands_here k there).order;
          placed = ap (placed_in (zones_in slots list)) (sym its_id)
              ∙ (its_sets k there ∙ ap (λ n. slotted_of slots n k.order) its_id);
          there = (zone_in slots k, in_map (zone_in slots) list k there, its_id);
        }

    pub none_is : (id : ℕ) → (IsZoneId (named_of list) id → ⊥) → IsNone (zones_in slots list) id
    none_is id none =
        let no : IsZoneId (zones_in slots list) id → ⊥ = λ is. none (one_named list id is) in
        (no, none_placed (zones_in slots list) id no)

  pub apex_at : (list : List Listed) (id i : ℕ) → IsAt (named_of list) id i → (k : Listed)
      → i < length list → k ≡ get_or list i k → IsApex (zones_in slots list) id k.apex
  apex_at list id i found k inside is =
      let j = found_at list id i found in
      let at : slice_get list i ≡ Some k = slice_get_read list (length list) i k refl inside is in
      let same : j.0 ≡ k = (let e = j.1 in let f = at in cc) in (
        zone_in slots k,
        in_map (zone_in slots) list k (among_at list i k at),
        ap (λ (l : Listed). l.id) (sym same) ∙ j.2,
        refl,
      )

-- how many sets a zone has
pub as_many_sets : (slots : List (Option Kept)) (list : List Listed) (id i : ℕ) → AreListed (named_of list)
    → IsAt (named_of list) id i → (k : Listed) → i < length list → k ≡ get_or list i k
    → length k.order ≡ length (placed_in (zones_in slots list) id)
as_many_sets slots list id i listed found k inside is =
    let j = found_at slots list id i found in
    let at : slice_get list i ≡ Some k = slice_get_read list (length list) i k refl inside is in
    let same : j.0 ≡ k = (let e = j.1 in let f = at in cc) in
    let its_id : k.id ≡ id = ap (λ (l : Listed). l.id) (sym same) ∙ j.2 in
    sym (ap length (ap (placed_in (zones_in slots list)) (sym its_id)
    ∙ its_placed (zones_in slots list) (with_sets slots list listed) (zone_in slots k)
    (in_map (zone_in slots) list k (among_at list i k at)))
    ∙ length-map k.order (slotted_at (set_in slots k.id)))

-- a zone that is found stands inside the list
pub inside_of : (list : List Listed) (id i : ℕ) → IsAt (named_of list) id i → i < length list
inside_of list id i found =
    let within = slice_get_within (named_of list) i found.zone found.there in
    let many = length-map list named in
    omega (arith, within, many)

-- the zone that is found at a place
pub it_is : (list : List Listed) (id i : ℕ) → IsAt (named_of list) id i → (k : Listed)
    → k ≡ get_or list i k → (i < length list) × (slice_get list i ≡ Some k) × (k.id ≡ id)
it_is list id i found k is =
    let inside = inside_of list id i found in
    let at : slice_get list i ≡ Some k = slice_get_read list (length list) i k refl inside is in
    let j = found_at [] list id i found in
    let same : j.0 ≡ k = (let e = j.1 in let f = at in cc) in
    (inside, at, ap (λ (l : Listed). l.id) (sym same) ∙ j.2)

-- a zone has one name
pub one_name : (zones : List Zone) → AreListed zones → (id other : ℕ) (name other_name : List (List ℕ))
    → id ≡ other → IsApex zones id name → IsApex zones other other_name → name ≡ other_name
one_name zones listed id other name other_name e x y =
    sym x.3
    ∙ (ap (λ (z : Zone). z.apex) (one_zone zones listed x.0 y.0 x.1 y.1 (x.2 ∙ (e ∙ sym y.2))) ∙ y.3)
