-- What sets name is there after a command.
use Rattle.std.proofs.Common.{◌≡◌, ℕ, Bool, true, false, cond, List, [], ◌∷◌, ◌++◌, length, map, Option, None, Some, Result, Ok, Err, ◌∙◌, sym, refl, subst}
use Rattle.std.specs.Prelude.{not, nat_eq, nat_le, ◌||◌, Contains}
use Rattle.std.proofs.lemmas.Bool.{eqb-true}
use Rattle.cidr_changes.specs.declared.changes.CidrChange.{CidrChange}
use Rattle.cidr_changes.specs.declared.faults.CidrFault.{CidrFault}
use Rattle.cidr_changes.specs.declared.faults.CidrFault.TheVariants.{CollectionExists, IdsEnded, TooManyCidrCollections, CidrCollectionInUse}
use Rattle.cidr_changes.specs.CidrLocationRecord.{CidrLocation}
use Rattle.cidr_changes.specs.CollectionRecord.{Collection}
use Rattle.cidr_changes.specs.Changed.{changed_collection}
use Rattle.cidr_changes.specs.Laws.{IsStarOrLocation, KeepPlaced}
use Rattle.cidr_changes.specs.Refusals.{first_of, refuse_if, unless}
use Rattle.cidr_changes.proofs.Named.{any_of}
use Rattle.cidr_commands.specs.declared.command.CidrCommand.TheVariants.{Create, Change, Delete}
use Rattle.cidr_commands.specs.Commands.{any_has_block, created, delete_refusal, deleted, is_there, is_used, of_there, put_back, replaced, with_locations_at, without}
use Rattle.cidr_commands.specs.Kept.{IsThere, IsThereIn, KeepsUsed}
use Rattle.cidr_commands.specs.Stored.{Stored, collection_with}
use Rattle.cidr_commands.proofs.Ids.{Held}
use Rattle.cidr_commands.proofs.Kept.{the_ok}

module _ (n : ℕ) (name : List ℕ) where
  abbrev There : List Held → Type 0
  There list = IsThereIn (collection_with n list) name

  -- one collection more at the end
  more_by : (b : Bool) (held : Held) (rest more : Option Collection)
      → (IsThereIn rest name → IsThereIn more name)
      → IsThereIn (cond b (Some held.1) rest) name → IsThereIn (cond b (Some held.1) more) name
  more_by true held rest more to there = there
  more_by false held rest more to there = to there

  there_more : (new : Held) (list : List Held) → There list → There (list ++ new ∷ [])
  there_more new [] there = absurd there
  there_more new (held ∷ list) there =
      more_by (nat_eq n held.0) held (collection_with n list) (collection_with n (list ++ new ∷ []))
      (there_more new list) there

  -- without another collection
  module _ (id : ℕ) (other : nat_eq n id ≡ false) where
    left_by : (gone own : Bool) (held : Held) (list : List Held) → nat_eq held.0 id ≡ gone
        → nat_eq n held.0 ≡ own → (There list → There (without id list))
        → IsThereIn (cond own (Some held.1) (collection_with n list)) name
        → There (cond (not gone) (held ∷ without id list) (without id list))
    left_by true true held list e f rest there =
        let at : n ≡ held.0 = eqb-true n held.0 f in
        let g : nat_eq n id ≡ true = subst (λ m. nat_eq m id ≡ true) (sym at) e in
        absurd (let no : ⊥ = cc in no)
    left_by true false held list e f rest there = rest there
    left_by false true held list e f rest there =
        subst (λ b. IsThereIn (cond b (Some held.1) (collection_with n (without id list))) name)
        (sym f) there
    left_by false false held list e f rest there =
        subst (λ b. IsThereIn (cond b (Some held.1) (collection_with n (without id list))) name)
        (sym f) (rest there)

    there_left : (list : List Held) → There list → There (without id list)
    there_left [] there = there
    there_left (held ∷ list) there =
        left_by (nat_eq held.0 id) (nat_eq n held.0) held list refl refl (there_left list) there

  -- with other locations of a collection
  module _ (id : ℕ) (ls : List CidrLocation) (placed : n ≡ id → IsStarOrLocation ls name) where
    own_by : (changed : Bool) (held : Held) → nat_eq held.0 id ≡ changed → nat_eq n held.0 ≡ true
        → IsStarOrLocation held.1.locations name
        → IsStarOrLocation (cond changed (record held.1 { locations = ls }) held.1).locations name
    own_by true held e f there = placed (eqb-true n held.0 f ∙ eqb-true held.0 id e)
    own_by false held e f there = there

    at_by : (own : Bool) (held : Held) (list : List Held) → nat_eq n held.0 ≡ own
        → (There list → There (map (with_locations_at id ls) list))
        → IsThereIn (cond own (Some held.1) (collection_with n list)) name
        → IsThereIn (cond own (Some (with_locations_at id ls held).1)
        (collection_with n (map (with_locations_at id ls) list))) name
    at_by true held list f rest there = own_by (nat_eq held.0 id) held refl f there
    at_by false held list f rest there = rest there

    there_at : (list : List Held) → There list → There (map (with_locations_at id ls) list)
    there_at [] there = there
    there_at (held ∷ list) there =
        at_by (nat_eq n held.0) held list refl (there_at list) there

module _ (stored : Stored) (used : List (ℕ × List ℕ)) (after : Stored) (named : ℕ × List ℕ)
    (member : Contains used named) (there : IsThere stored.list named) where
  by_create : (taken many last : Bool) (name : List ℕ)
      → unless (first_of (refuse_if taken CollectionExists ∷ refuse_if many TooManyCidrCollections
      ∷ refuse_if last IdsEnded ∷ [])) (Ok (created stored name)) ≡ Ok after
      → IsThere after.list named
  by_create true many last name ok = absurd (let no : ⊥ = cc in no)
  by_create false true last name ok = absurd (let no : ⊥ = cc in no)
  by_create false false true name ok = absurd (let no : ⊥ = cc in no)
  by_create false false false name ok =
      subst (λ (s : Stored). IsThere s.list named) (the_ok (created stored name) after ok)
      (there_more named.0 named.1 (stored.next, record { name = name; locations = [] }) stored.list
      there)

  by_result : (id : ℕ) (result : Result Collection CidrFault)
      → ((c : Collection) → result ≡ Ok c → named.0 ≡ id → IsStarOrLocation c.locations named.1)
      → put_back stored id result ≡ Ok after → IsThere after.list named
  by_result id (Err fault) is ok = absurd (let no : ⊥ = cc in no)
  by_result id (Ok c) is ok =
      subst (λ (s : Stored). IsThere s.list named) (the_ok (replaced stored id c) after ok)
      (there_at named.0 named.1 id c.locations (is c refl) stored.list there)

  by_change : KeepPlaced → (id : ℕ) (changes : List CidrChange) (found : Option Collection)
      → of_there id found (λ c. put_back stored id (changed_collection c changes id used)) ≡ Ok after
      → IsThere after.list named
  by_change law id changes None ok = absurd (let no : ⊥ = cc in no)
  by_change law id changes (Some c) ok =
      by_result id (changed_collection c changes id used)
      (λ d e own. law c changes id used d e named.1
      (subst (λ m. Contains used (m, named.1)) own member)) ok

  not_named : (id : ℕ) (b : Bool) → nat_eq named.0 id ≡ b → is_used id used ≡ false
      → nat_eq named.0 id ≡ false
  not_named id true e none =
      let any : is_used id used ≡ true =
      any_of (λ (n : ℕ × List ℕ). nat_eq n.0 id) used named e member in
      absurd (let no : ⊥ = cc in no)
  not_named id false e none = e

  by_end : (has_block in_use : Bool) (id : ℕ) → is_used id used ≡ in_use
      → unless (first_of (refuse_if (has_block || in_use) CidrCollectionInUse ∷ []))
      (Ok (deleted stored id)) ≡ Ok after
      → IsThere after.list named
  by_end true in_use id e ok = absurd (let no : ⊥ = cc in no)
  by_end false true id e ok = absurd (let no : ⊥ = cc in no)
  by_end false false id e ok =
      subst (λ (s : Stored). IsThere s.list named) (the_ok (deleted stored id) after ok)
      (there_left named.0 named.1 id (not_named id (nat_eq named.0 id) refl e) stored.list there)

  by_delete : (id : ℕ) (found : Option Collection)
      → of_there id found (λ c. unless (delete_refusal id used c) (Ok (deleted stored id))) ≡ Ok after
      → IsThere after.list named
  by_delete id None ok = absurd (let no : ⊥ = cc in no)
  by_delete id (Some c) ok = by_end (any_has_block c.locations) (is_used id used) id refl ok

pub kept_used : KeepPlaced → KeepsUsed
kept_used law stored (Create name) used after ok named member there =
    by_create stored used after named member there (is_there name stored.list)
    (nat_le 100 (length stored.list)) (nat_eq stored.next 4294967295) name ok
kept_used law stored (Change id changes) used after ok named member there =
    by_change stored used after named member there law id changes (collection_with id stored.list) ok
kept_used law stored (Delete id) used after ok named member there =
    by_delete stored used after named member there id (collection_with id stored.list) ok
