-- Where a block goes among locations.
use Rattle.std.proofs.Common.{◌≡◌, ℕ, ◌+◌, ◌<◌, List, ◌∷◌, ◌++◌, length, get_or, take, drop, Some, slice_set, Equal, ap, ◌∙◌, sym, refl}
use Rattle.std.specs.Ordering.{match_ordering}
use Rattle.std.proofs.lemmas.List.{drop_more, take-append-drop, take-set, drop-set}
use Rattle.std.specs.Prelude.{unwrap_or}
use Rattle.std.proofs.lemmas.Option.{slice_get_read, slice_get_within}
use Rattle.cidr_blocks.specs.Prefixes.{Prefix}
use Rattle.cidr_changes.specs.declared.gathering.Spot.TheVariants.{At}
use Rattle.cidr_blocks.specs.declared.places.CidrLocation.{CidrLocation}
use Rattle.cidr_changes.specs.Gathered.{IsSpot, grown, of_block, with_row}
use Rattle.cidr_blocks.specs.Places.{name_cmp}

-- the location has the name
pub at_name : (name : List ℕ) (block : Prefix) (location : CidrLocation) (rest : List CidrLocation)
    → name_cmp name location.name ≡ Equal
    → with_row name block (location ∷ rest) ≡ grown location block ∷ rest
at_name name block location rest same =
    ap (λ o. match_ordering o (of_block name block ∷ location ∷ rest)
    (grown location block ∷ rest) (location ∷ with_row name block rest)) same

pub found : (locations : List CidrLocation) (name : List ℕ) (i : ℕ) (location : CidrLocation)
    → i < length locations → location ≡ get_or locations i location
    → name_cmp name location.name ≡ Equal
    → ((block : Prefix) → with_row name block locations
    ≡ take i locations ++ with_row name block (drop i locations))
    → IsSpot locations name (At i)
found locations name i location lt is same so_far = (
  location,
  slice_get_read locations (length locations) i location refl lt is,
  λ block. so_far block
      ∙ ap (λ ls. take i locations ++ with_row name block ls) (drop_more locations i location lt)
      ∙ ap (λ (l : CidrLocation).
      take i locations ++ with_row name block (l ∷ drop (i + 1) locations))
      (sym is)
      ∙ ap (λ ls. take i locations ++ ls)
      (at_name name block location (drop (i + 1) locations) same),
)

-- an element that is put at a place
pub set_at : {X : Type 0} (xs : List X) (i : ℕ) (y : X) → i < length xs
    → slice_set xs i y ≡ take i xs ++ y ∷ drop (i + 1) xs
set_at xs i y lt =
    sym (take-append-drop i (slice_set xs i y))
    ∙ ap (λ l. l ++ drop i (slice_set xs i y)) (take-set xs i y)
    ∙ ap (λ l. take i xs ++ l) (drop-set xs i y lt)

inside : (x y : CidrLocation) → Some x ≡ Some y → x ≡ y
inside x y e = ap (λ o. unwrap_or o x) e

-- a location grows where it stands
pub grown_at : (locations : List CidrLocation) (name : List ℕ) (block : Prefix) (i : ℕ)
    → IsSpot locations name (At i) → (location new : CidrLocation)
    → location ≡ get_or locations i location → new ≡ grown location block
    → slice_set locations i new ≡ with_row name block locations
grown_at locations name block i spot location new is grows =
    let lt : i < length locations = slice_get_within locations i spot.0 spot.1 in
    let same : spot.0 ≡ location =
    inside spot.0 location
    (sym spot.1 ∙ slice_get_read locations (length locations) i location refl lt is) in
    set_at locations i new lt
    ∙ ap (λ (l : CidrLocation). take i locations ++ l ∷ drop (i + 1) locations) grows
    ∙ ap (λ (l : CidrLocation). take i locations ++ grown l block ∷ drop (i + 1) locations)
    (sym same)
    ∙ sym (spot.2 block)
