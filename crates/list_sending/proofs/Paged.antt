-- The page that a list gives, by the places of its sets.
use Rattle.std.proofs.Common.{◌≡◌, ℕ, zero, suc, ◌+◌, ◌<◌, ◌≤◌, List, [], ◌∷◌, ◌++◌, length, drop, take, Bool, true, false, cond}
use Rattle.std.proofs.Common.{inl, inr, Option, None, Some, ap, ◌∙◌, subst, sym, arith, refl, append-nil}
use Rattle.std.specs.Prelude.{not, slice_get}
use Rattle.std.specs.List.{AllByRecursion, filter}
use Rattle.std.specs.Option.{option_map}
use Rattle.std.proofs.lemmas.List.{drop-take, length-drop, take_all}
use Rattle.std.proofs.lemmas.Option.{slice_get_past}
use Rattle.std.proofs.Math.Seq.{take-length}
use Rattle.set_sending.specs.Laws.{ListsAreWhole}
use Rattle.set_sending.specs.PiecesOfListWriting.{list_front, list_rest, sets_pieces}
use Rattle.page_laws.specs.Laws.{IsAsked, IsPlace, StartsArePlaces, start_key}
use Rattle.rdata_layout.specs.declared.types.RType.{RType}
use Rattle.record_set.specs.Sets.{key_of}
use Rattle.record_set.specs.declared.sets.RecordSet.{RecordSet}
use Rattle.record_set.specs.declared.sets.SetKey.{SetKey}
use Rattle.page_laws.specs.Json.{line_of}
use Rattle.page_laws.specs.Paging.{Start, is_before, next_of, page, page_reply}
use Rattle.set_octets.specs.Octets.{AreOfType}
use Rattle.set_search.specs.Found.{IsCount}
use Rattle.set_search.specs.declared.bounds.Bound.TheVariants.{From}
use Rattle.config_zones.specs.Zones.{AreZones, Zone}
use Rattle.zone_model.specs.Slotted.{Slotted, sets_of}
use Rattle.zone_model.specs.Zones.{IsAmong}
use Rattle.config_zones.proofs.Holding.{kept_in}
use Rattle.list_sending.specs.Pages.{IsFirst, IsPage, sets_in}

-- ---- the first set

-- where a test holds of the first n sets and of no others, those of which it doesn't hold are the rest
rest_behind : (before : RecordSet → Bool) (sets : List RecordSet) (n : ℕ)
    → ((k : ℕ) (x : RecordSet) → k < n → slice_get sets k ≡ Some x → before x ≡ true)
    → ((k : ℕ) (x : RecordSet) → n ≤ k → slice_get sets k ≡ Some x → before x ≡ false)
    → filter (λ s. not (before s)) sets ≡ drop n sets
rest_behind before [] zero front behind = refl
rest_behind before [] (suc n) front behind = refl
rest_behind before (set ∷ sets) zero front behind =
    ap (λ b. cond (not b) (set ∷ filter (λ s. not (before s)) sets)
    (filter (λ s. not (before s)) sets)) (behind zero set (omega arith) refl)
    ∙ ap (λ ss. set ∷ ss)
    (rest_behind before sets zero (λ k x lt at. absurd (omega (arith, lt)))
    (λ k x le at. behind (suc k) x (omega arith) at))
rest_behind before (set ∷ sets) (suc n) front behind =
    ap (λ b. cond (not b) (set ∷ filter (λ s. not (before s)) sets)
    (filter (λ s. not (before s)) sets)) (front zero set (omega arith) refl)
    ∙ rest_behind before sets n (λ k x lt at. front (suc k) x (omega (arith, lt)) at)
    (λ k x le at. behind (suc k) x (omega (arith, le)) at)

abbrev pub key_with : (name : List (List ℕ)) (ident : Option (List ℕ)) → RType → SetKey
key_with name ident rtype = record { name = name; rtype = rtype; ident = ident }

module _ (law : StartsArePlaces) (start : Start) (sets : List RecordSet) (asked : IsAsked start) where
  pub first_by_key : (name : List (List ℕ)) (key : SetKey) (n : ℕ) → start.name ≡ Some name
      → key ≡ start_key name start → IsCount sets (From key) n → IsFirst start sets n
  first_by_key name key n is same count = record {
    within = count.within;
    rest = rest_behind (is_before start) sets n
        (λ k x lt at. place x ∙ count.before k x lt at) (λ k x le at. place x ∙ count.behind k x le at);
  }
    where
      place : (x : RecordSet)
          → is_before start x ≡ Rattle.zone_model.specs.Placing.comes_before key x
      place x =
          subst (λ k. is_before start x ≡ Rattle.zone_model.specs.Placing.comes_before k x) (sym same)
          (subst (λ o. IsPlace start o x) is (law start x asked))

  pub first_of_all : start.name ≡ None → IsFirst start sets 0
  first_of_all is = record {
    within = omega arith;
    rest = rest_behind (is_before start) sets 0 (λ k x lt at. absurd (omega (arith, lt)))
        (λ k x le at. subst (λ o. IsPlace start o x) is (law start x asked));
  }

-- ---- the page

at_dropped : (sets : List RecordSet) (n i : ℕ) → slice_get (drop n sets) i ≡ slice_get sets (n + i)
at_dropped sets zero i = ap (slice_get sets) (let e : i ≡ zero + i = omega arith in e)
at_dropped [] (suc n) i = refl
at_dropped (set ∷ sets) (suc n) i =
    at_dropped sets n i
    ∙ ap (slice_get (set ∷ sets)) (let e : suc (n + i) ≡ suc n + i = omega arith in e)

module _ (start : Start) (items : ℕ) (sets : List RecordSet) (first : ℕ) (is : IsFirst start sets first) where
  pub page_within : first + items ≤ length sets → IsPage start items sets first (first + items)
  page_within within = record {
    within = within;
    sets_are = ap (take items) is.rest ∙ sym (drop-take first items sets);
    next = ap (λ ss. slice_get ss items) is.rest ∙ at_dropped sets first items;
  }

  pub page_of_rest : length sets ≤ first + items → IsPage start items sets first (length sets)
  page_of_rest past = record {
    within = omega arith;
    sets_are = ap (take items) is.rest
        ∙ (take_all items (drop first sets) (omega (arith, past, length-drop first sets))
        ∙ ap (drop first) (sym (take-length sets)));
    next = ap (λ ss. slice_get ss items) is.rest
        ∙ (at_dropped sets first items
        ∙ (slice_get_past sets (first + items) past
        ∙ sym (slice_get_past sets (length sets) (omega arith))));
  }

-- ---- its text

all_taken : (P : RecordSet → Type 0) (sets : List RecordSet) (n : ℕ) → AllByRecursion P sets
    → AllByRecursion P (take n sets)
all_taken P [] zero all = tt
all_taken P [] (suc n) all = tt
all_taken P (set ∷ sets) zero all = tt
all_taken P (set ∷ sets) (suc n) all = (all.0, all_taken P sets n all.1)

all_dropped : (P : RecordSet → Type 0) (sets : List RecordSet) (n : ℕ) → AllByRecursion P sets
    → AllByRecursion P (drop n sets)
all_dropped P [] zero all = tt
all_dropped P [] (suc n) all = tt
all_dropped P (set ∷ sets) zero all = all
all_dropped P (set ∷ sets) (suc n) all = all_dropped P sets n all.1

abbrev HasType : RecordSet → Type 0
HasType set = AreOfType set.rtype set.body

each_has : (placed : List Slotted) → ((p : Slotted) → IsAmong placed p → HasType p.set)
    → AllByRecursion HasType (sets_of placed)
each_has [] has = tt
each_has (p ∷ placed) has = (has p (inl refl), each_has placed (λ q there. has q (inr there)))

module _ (law : ListsAreWhole) (zones : List Zone) (are : AreZones zones) (zone : ℕ) (start : Start) (items first end : ℕ)
    (is : IsPage start items (sets_in zones zone) first end) where
  abbrev its : List RecordSet
  its = sets_in zones zone

  abbrev page_sets : List RecordSet
  page_sets = drop first (take end its)

  pub page_text : (next : Option SetKey) (empty front : List ℕ)
      → next ≡ option_map key_of (slice_get its end) → empty ≡ [] → front ≡ empty ++ list_front next
      → front ++ (sets_pieces false zone page_sets ++ (list_rest ++ []))
      ≡ line_of (page_reply zone start items its)
  page_text next empty front n none f =
      let kept = kept_in zones are.each zone in
      let of_type = each_has _ (λ p there. (kept.spelled p there).of_type) in
      ap (λ t. front ++ (sets_pieces false zone page_sets ++ t)) (append-nil list_rest)
      ∙ (ap (λ t. t ++ (sets_pieces false zone page_sets ++ list_rest))
      (f ∙ ap (λ t. t ++ list_front next) none ∙ ap list_front (n ∙ ap (option_map key_of) (sym is.next)))
      ∙ (ap (λ ss. list_front (option_map key_of (next_of start items its)) ++ (sets_pieces false zone ss ++ list_rest)) (sym is.sets_are)
      ∙ law zone (page start items its) (next_of start items its)
      (subst (AllByRecursion HasType) (sym is.sets_are)
      (all_dropped HasType (take end its) first (all_taken HasType its end of_type)))))
