-- What a command makes of sound collections is sound.
use Rattle.std.proofs.Common.{◌≡◌, ◌≢◌, ◌≤◌, ◌<◌, ◌+◌, ℕ, Bool, true, false, cond, List, [], ◌∷◌, ◌++◌, length, map, Option, None, Some, Result, Ok, Err, ◌∙◌, sym, refl, subst, arith}
use Rattle.std.specs.Prelude.{not, nat_eq, nat_le, ◌||◌}
use Rattle.std.specs.List.{AllByRecursion, filter}
use Rattle.std.specs.List.Sorted.{IsStrictlySortedBy}
use Rattle.std.specs.Str.{bytes_eq}
use Rattle.std.proofs.lemmas.Bool.{eq-eqb, leb-false}
use Rattle.std.proofs.lemmas.List.{length-append, length-map}
use Rattle.std.proofs.lemmas.Slice.Eq.{bytes_eq-Decides}
use Rattle.cidr_changes.specs.declared.changes.CidrChange.{CidrChange}
use Rattle.cidr_changes.specs.declared.faults.CidrFault.{CidrFault}
use Rattle.cidr_changes.specs.declared.faults.CidrFault.TheVariants.{CollectionExists, IdsEnded, TooManyCidrCollections, CidrCollectionInUse}
use Rattle.cidr_changes.specs.CidrLocationRecord.{CidrLocation}
use Rattle.cidr_changes.specs.CollectionRecord.{Collection}
use Rattle.cidr_changes.specs.Changed.{changed_collection}
use Rattle.cidr_changes.specs.Laws.{HaveNames, KeepCollections}
use Rattle.cidr_changes.specs.Idents.{IsCollectionName}
use Rattle.cidr_changes.specs.Places.{IsCollection}
use Rattle.cidr_changes.specs.Refusals.{first_of, refuse_if, unless}
use Rattle.cidr_commands.specs.declared.command.CidrCommand.TheVariants.{Create, Change, Delete}
use Rattle.cidr_commands.specs.Commands.{any_has_block, created, delete_refusal, deleted, is_there, is_used, of_there, put_back, replaced, with_locations_at}
use Rattle.cidr_commands.specs.Kept.{KeepsSound}
use Rattle.cidr_commands.specs.Stored.{IdsRise, IsSound, NamesDiffer, Stored, collection_with}
use Rattle.cidr_commands.proofs.Ids.{Held}

each : (P Q : Held → Type 0) → ((held : Held) → P held → Q held) → (list : List Held)
    → AllByRecursion P list → AllByRecursion Q list
each P Q f [] all = tt
each P Q f (held ∷ list) all = (f held all.0, each P Q f list all.1)

-- one more at the end
module _ (new : Held) where
  all_more : (P : Held → Type 0) (list : List Held) → AllByRecursion P list → P new
      → AllByRecursion P (list ++ new ∷ [])
  all_more P [] all p = (p, tt)
  all_more P (held ∷ list) all p = (all.0, all_more P list all.1 p)

  rise_more : (list : List Held) → IdsRise list → AllByRecursion (λ held. held.0 < new.0) list
      → IdsRise (list ++ new ∷ [])
  rise_more [] rise low = (tt, tt)
  rise_more (held ∷ list) rise low =
      (all_more (λ other. held.0 < other.0) list rise.0 low.0, rise_more list rise.1 low.1)

  differ_more : (list : List Held) → NamesDiffer list
      → AllByRecursion (λ held. new.1.name ≢ held.1.name) list → NamesDiffer (list ++ new ∷ [])
  differ_more [] differ other = (tt, tt)
  differ_more (held ∷ list) differ other = (
    all_more (λ next. next.1.name ≢ held.1.name) list differ.0 other.0,
    differ_more list differ.1 other.1,
  )

-- fewer
module _ (test : Held → Bool) where
  all_by : (P : Held → Type 0) (b : Bool) (held : Held) (list : List Held) → P held
      → AllByRecursion P (filter test list)
      → AllByRecursion P (cond b (held ∷ filter test list) (filter test list))
  all_by P true held list p rest = (p, rest)
  all_by P false held list p rest = rest

  all_fewer : (P : Held → Type 0) (list : List Held) → AllByRecursion P list
      → AllByRecursion P (filter test list)
  all_fewer P [] all = tt
  all_fewer P (held ∷ list) all = all_by P (test held) held list all.0 (all_fewer P list all.1)

  rise_by : (b : Bool) (held : Held) (list : List Held)
      → AllByRecursion (λ other. held.0 < other.0) (filter test list) → IdsRise (filter test list)
      → IdsRise (cond b (held ∷ filter test list) (filter test list))
  rise_by true held list low rest = (low, rest)
  rise_by false held list low rest = rest

  rise_fewer : (list : List Held) → IdsRise list → IdsRise (filter test list)
  rise_fewer [] rise = tt
  rise_fewer (held ∷ list) rise =
      rise_by (test held) held list (all_fewer (λ other. held.0 < other.0) list rise.0)
      (rise_fewer list rise.1)

  differ_by : (b : Bool) (held : Held) (list : List Held)
      → AllByRecursion (λ other. other.1.name ≢ held.1.name) (filter test list)
      → NamesDiffer (filter test list)
      → NamesDiffer (cond b (held ∷ filter test list) (filter test list))
  differ_by true held list other rest = (other, rest)
  differ_by false held list other rest = rest

  differ_fewer : (list : List Held) → NamesDiffer list → NamesDiffer (filter test list)
  differ_fewer [] differ = tt
  differ_fewer (held ∷ list) differ =
      differ_by (test held) held list
      (all_fewer (λ other. other.1.name ≢ held.1.name) list differ.0) (differ_fewer list differ.1)

  count_by : (b : Bool) (held : Held) (list : List Held)
      → length (filter test list) ≤ length list
      → length (cond b (held ∷ filter test list) (filter test list)) ≤ length (held ∷ list)
  count_by true held list le = omega (arith, le)
  count_by false held list le = omega (arith, le)

  count_fewer : (list : List Held) → length (filter test list) ≤ length list
  count_fewer [] = omega arith
  count_fewer (held ∷ list) = count_by (test held) held list (count_fewer list)

-- other locations at a number
module _ (id : ℕ) (locations : List CidrLocation) where
  name_by : (b : Bool) (c : Collection)
      → (cond b (record c { locations = locations }) c).name ≡ c.name
  name_by true c = refl
  name_by false c = refl

  all_at : (P Q : Held → Type 0)
      → ((held : Held) → P held → Q (with_locations_at id locations held))
      → (list : List Held) → AllByRecursion P list
      → AllByRecursion Q (map (with_locations_at id locations) list)
  all_at P Q f [] all = tt
  all_at P Q f (held ∷ list) all = (f held all.0, all_at P Q f list all.1)

  rise_at : (list : List Held) → IdsRise list
      → IdsRise (map (with_locations_at id locations) list)
  rise_at [] rise = tt
  rise_at (held ∷ list) rise = (
    all_at (λ other. held.0 < other.0) (λ other. held.0 < other.0) (λ other h. h) list rise.0,
    rise_at list rise.1,
  )

  differ_at : (list : List Held) → NamesDiffer list
      → NamesDiffer (map (with_locations_at id locations) list)
  differ_at [] differ = tt
  differ_at (held ∷ list) differ = (
    all_at (λ other. other.1.name ≢ held.1.name)
        (λ other. other.1.name ≢ (with_locations_at id locations held).1.name)
        (λ other h e. h (sym (name_by (nat_eq other.0 id) other.1) ∙ e
        ∙ name_by (nat_eq held.0 id) held.1)) list differ.0,
    differ_at list differ.1,
  )

-- a collection with the locations of another one
with_those : (b : Bool) (c other : Collection) → IsCollection c → IsCollection other
    → IsCollection (cond b (record c { locations = other.locations }) c)
with_those true c other is those = record {
  name = is.name;
  each = those.each;
  rising = those.rising;
  once = those.once;
  few = those.few;
}
with_those false c other is those = is

-- a collection without blocks
pub without_blocks : (name : List ℕ) → IsCollectionName name
    → IsCollection (record { name = name; locations = [] })
unfolding IsStrictlySortedBy
without_blocks name named = record {
  name = named;
  each = tt;
  rising = tt;
  once = tt;
  few = omega arith;
}

not_taken_by : (b : Bool) (held : Held) (name : List ℕ) (list : List Held)
    → bytes_eq held.1.name name ≡ b → (b || is_there name list) ≡ false
    → (is_there name list ≡ false → AllByRecursion (λ held. name ≢ held.1.name) list)
    → AllByRecursion (λ held. name ≢ held.1.name) (held ∷ list)
not_taken_by true held name list e none rest = absurd (let no : ⊥ = cc in no)
not_taken_by false held name list e none rest = (
  λ same. absurd (let f : bytes_eq held.1.name name ≡ true =
      (bytes_eq-Decides held.1.name name).1 (sym same) in let no : ⊥ = cc in no),
  rest none,
)

not_taken : (name : List ℕ) (list : List Held) → is_there name list ≡ false
    → AllByRecursion (λ held. name ≢ held.1.name) list
not_taken name [] none = tt
not_taken name (held ∷ list) none =
    not_taken_by (bytes_eq held.1.name name) held name list refl none (not_taken name list)

module _ (stored : Stored) (sound : IsSound stored) where
  keeps_created : (name : List ℕ) → IsCollectionName name
      → is_there name stored.list ≡ false → nat_le 100 (length stored.list) ≡ false
      → nat_eq stored.next 4294967295 ≡ false → IsSound (created stored name)
  keeps_created name named fresh room more = record {
    few = (let e = length-append stored.list (new ∷ []) in
        let f = leb-false 100 (length stored.list) room in omega (arith, e, f));
    from = omega arith;
    to = (let t = sound.to in omega (arith, t, not_last));
    ids = all_more new (λ held. (1 ≤ held.0) × (held.0 < stored.next + 1)) stored.list
        (each (λ held. (1 ≤ held.0) × (held.0 < stored.next))
        (λ held. (1 ≤ held.0) × (held.0 < stored.next + 1))
        (λ held h. (h.0, (let lt = h.1 in omega (arith, lt)))) stored.list sound.ids)
        (sound.from, omega arith);
    rising = rise_more new stored.list sound.rising
        (each (λ held. (1 ≤ held.0) × (held.0 < stored.next)) (λ held. held.0 < stored.next)
        (λ held h. h.1) stored.list sound.ids);
    names = differ_more new stored.list sound.names (not_taken name stored.list fresh);
    each = all_more new (λ held. IsCollection held.1) stored.list sound.each
        (without_blocks name named);
  }
    where
      new : Held
      new = (stored.next, record { name = name; locations = [] })

      not_last : stored.next ≢ 4294967295
      not_last e = let f = eq-eqb stored.next 4294967295 e in let no : ⊥ = cc in no

  keeps_replaced : (id : ℕ) (collection : Collection) → IsCollection collection
      → IsSound (replaced stored id collection)
  keeps_replaced id collection is =
      let ls = collection.locations in
      record {
        few = (let e = length-map stored.list (with_locations_at id ls) in let f = sound.few in
            omega (arith, e, f));
        from = sound.from;
        to = sound.to;
        ids = all_at id ls (λ held. (1 ≤ held.0) × (held.0 < stored.next))
            (λ held. (1 ≤ held.0) × (held.0 < stored.next)) (λ held h. h) stored.list sound.ids;
        rising = rise_at id ls stored.list sound.rising;
        names = differ_at id ls stored.list sound.names;
        each = all_at id ls (λ held. IsCollection held.1) (λ held. IsCollection held.1)
            (λ held h. with_those (nat_eq held.0 id) held.1 collection h is) stored.list sound.each;
      }

  keeps_deleted : (id : ℕ) → IsSound (deleted stored id)
  keeps_deleted id =
      let test : Held → Bool = λ held. not (nat_eq held.0 id) in
      record {
        few = (let e = count_fewer test stored.list in let f = sound.few in omega (arith, e, f));
        from = sound.from;
        to = sound.to;
        ids = all_fewer test (λ held. (1 ≤ held.0) × (held.0 < stored.next)) stored.list sound.ids;
        rising = rise_fewer test stored.list sound.rising;
        names = differ_fewer test stored.list sound.names;
        each = all_fewer test (λ held. IsCollection held.1) stored.list sound.each;
      }

-- the collection of a number is one
there_by : (b : Bool) (id : ℕ) (held : Held) (list : List Held) (collection : Collection)
    → IsCollection held.1
    → (collection_with id list ≡ Some collection → IsCollection collection)
    → cond b (Some held.1) (collection_with id list) ≡ Some collection → IsCollection collection
there_by true id held list collection is rest e =
    subst IsCollection (let same : held.1 ≡ collection = cc in same) is
there_by false id held list collection is rest e = rest e

there : (id : ℕ) (list : List Held) (collection : Collection)
    → AllByRecursion (λ held. IsCollection held.1) list
    → collection_with id list ≡ Some collection → IsCollection collection
there id [] collection all e = absurd (let no : ⊥ = cc in no)
there id (held ∷ list) collection all e =
    there_by (nat_eq id held.0) id held list collection all.0 (there id list collection all.1) e

abbrev pub the_answer : Stored → Result Stored CidrFault
the_answer stored = Ok stored

pub the_ok : (x y : Stored) → the_answer x ≡ the_answer y → x ≡ y
the_ok x y e = cc

module _ (stored : Stored) (sound : IsSound stored) (after : Stored) where
  by_create : (taken many last : Bool) (name : List ℕ) → IsCollectionName name
      → is_there name stored.list ≡ taken → nat_le 100 (length stored.list) ≡ many
      → nat_eq stored.next 4294967295 ≡ last
      → unless (first_of (refuse_if taken CollectionExists ∷ refuse_if many TooManyCidrCollections
      ∷ refuse_if last IdsEnded ∷ [])) (Ok (created stored name)) ≡ Ok after
      → IsSound after
  by_create true many last name named t m l ok = absurd (let no : ⊥ = cc in no)
  by_create false true last name named t m l ok = absurd (let no : ⊥ = cc in no)
  by_create false false true name named t m l ok = absurd (let no : ⊥ = cc in no)
  by_create false false false name named t m l ok =
      subst IsSound (the_ok (created stored name) after ok)
      (keeps_created stored sound name named t m l)

  by_result : (id : ℕ) (result : Result Collection CidrFault)
      → ((c : Collection) → result ≡ Ok c → IsCollection c)
      → put_back stored id result ≡ Ok after → IsSound after
  by_result id (Err fault) is ok = absurd (let no : ⊥ = cc in no)
  by_result id (Ok c) is ok =
      subst IsSound (the_ok (replaced stored id c) after ok)
      (keeps_replaced stored sound id c (is c refl))

  by_change : KeepCollections → (id : ℕ) (changes : List CidrChange) (used : List (ℕ × List ℕ))
      → HaveNames changes → (found : Option Collection) → collection_with id stored.list ≡ found
      → of_there id found
      (λ c. put_back stored id (changed_collection c changes id used)) ≡ Ok after
      → IsSound after
  by_change law id changes used named None e ok = absurd (let no : ⊥ = cc in no)
  by_change law id changes used named (Some c) e ok =
      by_result id (changed_collection c changes id used)
      (λ d. law c changes id used d (there id stored.list c sound.each e) named) ok

  by_end : (in_use : Bool) (id : ℕ)
      → unless (first_of (refuse_if in_use CidrCollectionInUse ∷ [])) (Ok (deleted stored id)) ≡ Ok after
      → IsSound after
  by_end true id ok = absurd (let no : ⊥ = cc in no)
  by_end false id ok =
      subst IsSound (the_ok (deleted stored id) after ok) (keeps_deleted stored sound id)

  by_delete : (id : ℕ) (used : List (ℕ × List ℕ)) (found : Option Collection)
      → of_there id found
      (λ c. unless (delete_refusal id used c) (Ok (deleted stored id))) ≡ Ok after
      → IsSound after
  by_delete id used None ok = absurd (let no : ⊥ = cc in no)
  by_delete id used (Some c) ok = by_end (any_has_block c.locations || is_used id used) id ok

pub kept : KeepCollections → KeepsSound
kept law stored (Create name) used after sound named ok =
    by_create stored sound after (is_there name stored.list) (nat_le 100 (length stored.list))
    (nat_eq stored.next 4294967295) name named refl refl refl ok
kept law stored (Change id changes) used after sound named ok =
    by_change stored sound after law id changes used named (collection_with id stored.list) refl ok
kept law stored (Delete id) used after sound named ok =
    by_delete stored sound after id used (collection_with id stored.list) ok
