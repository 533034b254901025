-- Starts as keys, and the sets before them.
use Rattle.std.proofs.Common.{◌≡◌, ◌≢◌, ℕ, suc, ◌+◌, ◌≤◌, Bool, true, false, cond, List, [], ◌∷◌, length, drop, ap, ◌∙◌, sym, refl, subst, arith}
use Rattle.std.proofs.Common.{Option, None, Some, add-one}
use Rattle.std.specs.Prelude.{not, unwrap_or}
use Rattle.std.specs.Cmp.{IsTotalOrder}
use Rattle.std.specs.List.{AllByRecursion, filter}
use Rattle.std.specs.Ordering.{is_lt, match_ordering, nat_cmp, ordering_then}
use Rattle.std.specs.declared.cmp.Ordering.{Ordering}
use Rattle.std.specs.declared.cmp.Ordering.TheVariants.{Equal, Greater, Less}
use Rattle.rdata_layout.specs.Types.{number_of}
use Rattle.rdata_layout.specs.declared.types.RType.{RType}
use Rattle.rdata_layout.specs.declared.types.RType.TheVariants as rtype
use Rattle.record_set.specs.Sets.{ident_of, key_of}
use Rattle.record_set.specs.declared.sets.RecordSet.{RecordSet}
use Rattle.record_set.specs.declared.sets.SetKey.{SetKey}
use Rattle.page_laws.specs.Laws.{IsAsked, IsPlace, PagesFollow, StartsArePlaces, start_key}
use Rattle.reply_model.specs.Paging.{Start, from_start, ident_part, is_before, name_part, start_cmp, type_part}
use Rattle.dns_name.specs.Order.{zone_cmp}
use Rattle.zone_model.specs.KeyLaws.{KeysAreOrdered}
use Rattle.zone_model.specs.Keys.{ident_cmp, key_cmp}
use Rattle.zone_model.specs.Placing.{comes_before}
use Rattle.zone_model.specs.Zones.{IsRising}

-- ---- starts as keys

abbrev is_less : Ordering → Bool
is_less o = match_ordering o true false false

as_less : (o : Ordering) → is_less o ≡ is_lt o
as_less Less = refl
as_less Equal = refl
as_less Greater = refl

-- what isn't Less comes as late as what is Equal
late : (o p : Ordering) → p ≢ Less → is_less (ordering_then o Equal) ≡ is_lt (ordering_then o p)
late Less p h = refl
late Greater p h = refl
late Equal Less h = absurd (h refl)
late Equal Equal h = refl
late Equal Greater h = refl

late_both : (o p q : Ordering) → p ≢ Less → q ≢ Less
    → is_less (ordering_then (ordering_then o Equal) Equal)
    ≡ is_lt (ordering_then (ordering_then o p) q)
late_both Less p q h k = refl
late_both Greater p q h k = refl
late_both Equal Less q h k = absurd (h refl)
late_both Equal Equal Less h k = absurd (k refl)
late_both Equal Equal Equal h k = refl
late_both Equal Equal Greater h k = refl
late_both Equal Greater q h k = refl

-- no type comes before A
least_type : (t : RType) → nat_cmp (number_of t) (number_of rtype.A) ≢ Less
least_type rtype.A e = absurd cc
least_type rtype.Ns e = absurd cc
least_type rtype.Cname e = absurd cc
least_type rtype.Soa e = absurd cc
least_type rtype.Ptr e = absurd cc
least_type rtype.Mx e = absurd cc
least_type rtype.Txt e = absurd cc
least_type rtype.Aaaa e = absurd cc
least_type rtype.Srv e = absurd cc
least_type rtype.Spf e = absurd cc
least_type rtype.Caa e = absurd cc

-- no identifier comes before none
least_ident : (ident : Option (List ℕ)) → ident_cmp ident None ≢ Less
least_ident None e = absurd cc
least_ident (Some ident) e = absurd cc

place_by : (name : Option (List (List ℕ))) (type : Option RType) (ident : Option (List ℕ))
    (set : RecordSet)
    → (name ≡ None → type ≡ None) → (type ≡ None → ident ≡ None)
    → IsPlace (record { name = name; rtype = type; ident = ident }) name set
place_by None None None set h k = refl
place_by None None (Some ident) set h k = absurd (let e = k refl in cc)
place_by None (Some type) ident set h k = absurd (let e = h refl in cc)
place_by (Some name) None None set h k =
    late_both (zone_cmp set.name name) (nat_cmp (number_of set.rtype) (number_of rtype.A))
    (ident_cmp (ident_of set.routing) None) (least_type set.rtype) (least_ident (ident_of set.routing))
place_by (Some name) None (Some ident) set h k = absurd (let e = k refl in cc)
place_by (Some name) (Some type) None set h k =
    late (ordering_then (zone_cmp set.name name) (nat_cmp (number_of set.rtype) (number_of type)))
    (ident_cmp (ident_of set.routing) None) (least_ident (ident_of set.routing))
place_by (Some name) (Some type) (Some ident) set h k =
    as_less (ordering_then
    (ordering_then (zone_cmp set.name name) (nat_cmp (number_of set.rtype) (number_of type)))
    (ident_cmp (ident_of set.routing) (Some ident)))

pub starts_are_places : StartsArePlaces
starts_are_places start set asked =
    place_by start.name start.rtype start.ident set asked.0 asked.1

-- ---- the sets before a start

-- where a test that holds of a set holds of all sets before it, those of which it doesn't hold are
-- the rest
module _ (before : RecordSet → Bool) where
  abbrev Stays : List RecordSet → Type 0
  Stays [] = Rattle.std.specs.Prelude.⊤
  Stays (set ∷ sets) =
      AllByRecursion (λ later. before later ≡ true → before set ≡ true) sets × Stays sets

  none_later : (set : RecordSet) (sets : List RecordSet) → before set ≡ false
      → AllByRecursion (λ later. before later ≡ true → before set ≡ true) sets
      → (filter (λ s. not (before s)) sets ≡ sets) × (filter before sets ≡ [])
  none_later set [] none all = (refl, refl)
  none_later set (later ∷ sets) none all =
      let rest = none_later set sets none all.1 in
      let its = by (before later) refl in (
        ap (λ b. cond (not b) (later ∷ filter (λ s. not (before s)) sets)
            (filter (λ s. not (before s)) sets)) its ∙ ap (λ ss. later ∷ ss) rest.0,
        ap (λ b. cond b (later ∷ filter before sets) (filter before sets)) its ∙ rest.1,
      )
    where
      by : (b : Bool) → before later ≡ b → before later ≡ false
      by true e = absurd (let k = all.0 e in cc)
      by false e = e

  rest_by : (set : RecordSet) (sets : List RecordSet) → Stays (set ∷ sets) → (b : Bool)
      → before set ≡ b
      → filter (λ s. not (before s)) sets ≡ drop (length (filter before sets)) sets
      → filter (λ s. not (before s)) (set ∷ sets)
      ≡ drop (length (filter before (set ∷ sets))) (set ∷ sets)
  rest_by set sets stays true e rest =
      ap (λ b. cond (not b) (set ∷ filter (λ s. not (before s)) sets)
      (filter (λ s. not (before s)) sets)) e
      ∙ (rest
      ∙ sym (ap (λ b. drop (length (cond b (set ∷ filter before sets) (filter before sets)))
      (set ∷ sets)) e))
  rest_by set sets stays false e rest =
      let none = none_later set sets e stays.0 in
      ap (λ b. cond (not b) (set ∷ filter (λ s. not (before s)) sets)
      (filter (λ s. not (before s)) sets)) e
      ∙ (ap (λ ss. set ∷ ss) none.0
      ∙ sym (ap (λ b. drop (length (cond b (set ∷ filter before sets) (filter before sets)))
      (set ∷ sets)) e
      ∙ ap (λ ss. drop (length ss) (set ∷ sets)) none.1))

  rest_is : (sets : List RecordSet) → Stays sets
      → filter (λ s. not (before s)) sets ≡ drop (length (filter before sets)) sets
  rest_is [] stays = refl
  rest_is (set ∷ sets) stays =
      rest_by set sets stays (before set) refl (rest_is sets stays.1)

module _ (ordered : KeysAreOrdered) where
  less : (o : Ordering) → is_lt o ≡ true → o ≡ Less
  less Less e = refl
  less Equal e = absurd cc
  less Greater e = absurd cc

  earlier : (key : SetKey) (set later : RecordSet) → key_cmp (key_of set) (key_of later) ≡ Less
      → comes_before key later ≡ true → comes_before key set ≡ true
  earlier key set later up e =
      ap is_lt (ordered.total.trans (key_of set) (key_of later) key up
      (less (key_cmp (key_of later) key) e))

  stays_at : (key : SetKey) (sets : List RecordSet) → IsRising sets → Stays (comes_before key) sets
  stays_at key [] rising = tt
  stays_at key (set ∷ sets) rising = (all sets rising.0, stays_at key sets rising.1)
    where
      all : (others : List RecordSet)
          → AllByRecursion (λ later. key_cmp (key_of set) (key_of later) ≡ Less) others
          → AllByRecursion (λ later. comes_before key later ≡ true → comes_before key set ≡ true)
          others
      all [] rise = tt
      all (later ∷ others) rise = (earlier key set later rise.0, all others rise.1)

  stays_nowhere : (before : RecordSet → Bool) → ((set : RecordSet) → before set ≡ false)
      → (sets : List RecordSet) → Stays before sets
  stays_nowhere before never [] = tt
  stays_nowhere before never (set ∷ sets) = (all sets, stays_nowhere before never sets)
    where
      all : (others : List RecordSet)
          → AllByRecursion (λ later. before later ≡ true → before set ≡ true) others
      all [] = tt
      all (later ∷ others) = (λ e. absurd (let n = never later in cc), all others)

  stays_so : (before other : RecordSet → Bool) → ((set : RecordSet) → before set ≡ other set)
      → (sets : List RecordSet) → Stays other sets → Stays before sets
  stays_so before other same [] stays = tt
  stays_so before other same (set ∷ sets) stays = (all sets stays.0, stays_so before other same sets stays.1)
    where
      all : (others : List RecordSet)
          → AllByRecursion (λ later. other later ≡ true → other set ≡ true) others
          → AllByRecursion (λ later. before later ≡ true → before set ≡ true) others
      all [] h = tt
      all (later ∷ others) h =
          (λ e. same set ∙ h.0 (sym (same later) ∙ e), all others h.1)

  stays_by : (start : Start) (sets : List RecordSet) → IsRising sets
      → (name : Option (List (List ℕ))) → ((set : RecordSet) → IsPlace start name set)
      → Stays (is_before start) sets
  stays_by start sets rising None place = stays_nowhere (is_before start) place sets
  stays_by start sets rising (Some name) place =
      stays_so (is_before start) (comes_before (start_key name start)) place sets
      (stays_at (start_key name start) sets rising)

  pub pages_follow : PagesFollow
  pages_follow start sets rising asked =
      rest_is (is_before start) sets
      (stays_by start sets rising start.name (λ set. starts_are_places start set asked))
