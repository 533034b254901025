-- Room for edits, taken and kept.
use Rattle.std.proofs.Common.{◌≡◌, ◌≢◌, ◌≤◌, ◌<◌, ◌+◌, ◌-◌, ◌%◌, ◌^◌, ℕ, zero, suc, List, [], ◌∷◌, length, map, set, ap, ◌∙◌, sym, refl, Option, Some, Vec, subst, arith, inl, inr}
use Rattle.std.specs.Prelude.{◌⊎◌, IfOk, OnOk, Result, Ok, Err, slice_get, slice_set, vec_capacity}
use Rattle.std.specs.List.{AllByRecursion, sum_by}
use Rattle.std.proofs.lemmas.List.Sums.{sum_by-cons}
use Rattle.std.specs.declared.alloc.Global.{Global}
use Rattle.std.proofs.lemmas.Bool.{cases_eq}
use Rattle.zone_list.specs.RecordSetRecord.{RecordSet}
use Rattle.zone_list.specs.Octets.{HasSpelling, set_octets}
use Rattle.cidr_routing.specs.Stored.{Stored}
use Rattle.zone_list.specs.Stored.{Kept, Slots}
use Rattle.zone_list.proofs.Among.{among_at}
use Rattle.zone_list.specs.Orders.{IsOrderBy, slotted_by, set_in}
use Rattle.zone_list.specs.SumsRecord.{Sums}
use Rattle.zone_list.specs.Sums.{sums_of}
use Rattle.zone_list.specs.Kept.{AreIntact, HasId, Listed, named, named_of, IsIntact, zone_in, zones_in}
use Rattle.zone_list.specs.Zones.{AreListed, CanStand, IsZoneId, placed_in, Zone}
use Rattle.zone_list.proofs.Listing.{listed_at}
use Rattle.zone_table.specs.declared.edits.ZoneEdit.{ZoneEdit}
use Rattle.zone_table.specs.declared.edits.ZoneEdit.TheVariants as edit
use Rattle.zone_table.specs.declared.needs.Need.{Need}
use Rattle.zone_table.specs.Edits.{HasRoom, HasRoomFor, HasRoomIn, IsAllowed, IsReady, Prepared, StayReady}
use Rattle.zone_table.specs.Needs.{NeedsFor, AreSpelled, CanTake, NeedsOfEdit, HasRoomToAdd, IsPrepared, IsReadyFor, IsRoomFor, KeepsRoom, NeedsNone, ZoneButRoom, zone_but_room, same_rows}
use Rattle.zone_table.specs.Tables.{Table}
use Rattle.zone_finding.specs.Counted.{AreCounted}
use Rattle.zone_finding.proofs.Naming.{in_map, map_at, of_map_at}

-- ---- rows

same_row : (k now : Listed) → now.id ≡ k.id → now.apex ≡ k.apex → now.order ≡ k.order → now.sums ≡ k.sums
    → zone_but_room now ≡ zone_but_room k
same_row k now id apex order sums =
    ap (λ (n : ℕ). record { id = n; apex = now.apex; order = now.order; sums = now.sums }) id
    ∙ (ap (λ (a : List (List ℕ)). record { id = k.id; apex = a; order = now.order; sums = now.sums }) apex
    ∙ (ap (λ (o : List ℕ). record { id = k.id; apex = k.apex; order = o; sums = now.sums }) order
    ∙ ap (λ (x : Sums). record { id = k.id; apex = k.apex; order = k.order; sums = x }) sums))

pub rows_kept : (list : List Listed) (i : ℕ) (k now : Listed) → slice_get list i ≡ Some k
    → now.id ≡ k.id → now.apex ≡ k.apex → now.order ≡ k.order → now.sums ≡ k.sums
    → same_rows list (slice_set list i now)
rows_kept [] i k now at id apex order sums = absurd (grind (arith, at))
rows_kept (j ∷ list) zero k now at id apex order sums =
    let one : j ≡ k = grind (arith, at) in
    ap (λ r. r ∷ map zone_but_room list) (same_row k now id apex order sums ∙ ap zone_but_room (sym one))
rows_kept (j ∷ list) (suc i) k now at id apex order sums =
    ap (λ rs. zone_but_room j ∷ rs) (rows_kept list i k now at id apex order sums)

abbrev zone_of_row : List (Option Kept) → ZoneButRoom → Zone
zone_of_row slots r = record { id = r.id; apex = r.apex; placed = slotted_by (set_in slots r.id) r.order }

by_rows : (slots : List (Option Kept)) (list : List Listed)
    → zones_in slots list ≡ map (zone_of_row slots) (map zone_but_room list)
by_rows slots [] = refl
by_rows slots (k ∷ list) = ap (λ zs. zone_in slots k ∷ zs) (by_rows slots list)

pub rows_zones : (slots : List (Option Kept)) (list now : List Listed) → same_rows list now
    → zones_in slots now ≡ zones_in slots list
rows_zones slots list now same =
    by_rows slots now ∙ (ap (map (zone_of_row slots)) same ∙ sym (by_rows slots list))

named_by_rows : (list : List Listed)
    → named_of list ≡ map (λ (r : ZoneButRoom). record { id = r.id; apex = r.apex; placed = [] }) (map zone_but_room list)
named_by_rows [] = refl
named_by_rows (k ∷ list) = ap (λ zs. named k ∷ zs) (named_by_rows list)

rows_named : (list now : List Listed) → same_rows list now → named_of now ≡ named_of list
rows_named list now same =
    named_by_rows now
    ∙ (ap (map (λ (r : ZoneButRoom). record { id = r.id; apex = r.apex; placed = [] })) same
    ∙ sym (named_by_rows list))

rows_stand : (slots : List (Option Kept)) (list now : List Listed) → same_rows list now
    → AllByRecursion (IsIntact slots) list → AllByRecursion (IsIntact slots) now
rows_stand slots [] [] same each = tt
rows_stand slots [] (j ∷ now) same each = absurd (let h = ap length same in omega (arith, h))
rows_stand slots (k ∷ list) [] same each = absurd (let h = ap length same in omega (arith, h))
rows_stand slots (k ∷ list) (j ∷ now) same each =
    let first : zone_but_room j ≡ zone_but_room k = head_same same in
    let rest : same_rows list now = tail_same same in (
      by first each.0,
      rows_stand slots list now rest each.1,
    )
  where
    head_same : zone_but_room j ∷ map zone_but_room now ≡ zone_but_room k ∷ map zone_but_room list → zone_but_room j ≡ zone_but_room k
    head_same e = cc

    tail_same : zone_but_room j ∷ map zone_but_room now ≡ zone_but_room k ∷ map zone_but_room list → map zone_but_room now ≡ map zone_but_room list
    tail_same e = cc

    stands_row : ZoneButRoom → Type 0
    stands_row r = IsOrderBy (set_in slots r.id) r.order
        × AllByRecursion (λ p. CanStand r.apex p.set) (slotted_by (set_in slots r.id) r.order)
        × (r.sums ≡ sums_of (slotted_by (set_in slots r.id) r.order)) × (0 < r.id)

    by : zone_but_room j ≡ zone_but_room k → IsIntact slots k → IsIntact slots j
    by e stands =
        let h : stands_row (zone_but_room j) = subst stands_row (sym e) (stands.order, stands.each, stands.counted, stands.numbered) in
        record { numbered = h.3; order = h.0; each = h.1; counted = h.2 }

rows_ids : (list now : List Listed) → same_rows list now → (id : ℕ) → HasId list id → HasId now id
rows_ids [] now same id is = absurd is.1
rows_ids (k ∷ list) [] same id is = absurd (let h = ap length same in omega (arith, h))
rows_ids (k ∷ list) (j ∷ now) same id (l, inl e, its) =
    (j, inl refl, ap (λ (r : ZoneButRoom). r.id) (head_same same) ∙ (ap (λ (x : Listed). x.id) e ∙ its))
  where
    head_same : zone_but_room j ∷ map zone_but_room now ≡ zone_but_room k ∷ map zone_but_room list → zone_but_room j ≡ zone_but_room k
    head_same e = cc
rows_ids (k ∷ list) (j ∷ now) same id (l, inr there, its) =
    let rest = rows_ids list now (tail_same same) id (l, there, its) in (rest.0, inr rest.1, rest.2)
  where
    tail_same : zone_but_room j ∷ map zone_but_room now ≡ zone_but_room k ∷ map zone_but_room list → map zone_but_room now ≡ map zone_but_room list
    tail_same e = cc

-- the same zones are kept
pub rows_are_kept : (slots : List (Option Kept)) (list now : List Listed) → same_rows list now
    → AreIntact slots list → AreIntact slots now
rows_are_kept slots list now same kept = record {
  listed = subst AreListed (sym (rows_named list now same)) kept.listed;
  each = rows_stand slots list now same kept.each;
  owned = λ zone slot set at. rows_ids list now same zone (kept.owned zone slot set at);
}

-- what is counted of all zones stays
sum_by_rows : (f : ZoneButRoom → ℕ) (list : List Listed) → sum_by (λ (k : Listed). f (zone_but_room k)) list ≡ sum_by f (map zone_but_room list)
sum_by_rows f [] = refl
sum_by_rows f (k ∷ list) =
    sum_by-cons (λ (k : Listed). f (zone_but_room k)) k list
    ∙ (ap (λ n. f (zone_but_room k) + n) (sum_by_rows f list) ∙ sym (sum_by-cons f (zone_but_room k) (map zone_but_room list)))

pub rows_counted : (store : Slots) (list now : List Listed) (octets : ℕ) → same_rows list now
    → AreCounted store list octets → AreCounted store now octets
rows_counted store list now octets same counted = record {
  sets = (let a = sum_by_rows (λ (r : ZoneButRoom). length r.order) now in let b = sum_by_rows (λ (r : ZoneButRoom). length r.order) list in
      let e = ap (sum_by (λ (r : ZoneButRoom). length r.order)) same in let was = counted.sets in
      omega (arith, a, b, e, was));
  all_octets = counted.all_octets
      ∙ ap (λ n. n % 2 ^ 64) (sum_by_rows (λ (r : ZoneButRoom). r.sums.octets) list
      ∙ (ap (sum_by (λ (r : ZoneButRoom). r.sums.octets)) (sym same) ∙ sym (sum_by_rows (λ (r : ZoneButRoom). r.sums.octets) now)));
}

-- ---- the store

module _ (slots now : List (Option Kept)) (stay : (zone slot : ℕ) → set_in now zone slot ≡ set_in slots zone slot) where
  same_get : (zone : ℕ) → set_in now zone ≡ set_in slots zone
  same_get zone = λ i slot. stay zone slot i

  still_stand : (list : List Listed) → AllByRecursion (IsIntact slots) list → AllByRecursion (IsIntact now) list
  still_stand [] each = tt
  still_stand (k ∷ list) each = (
    record {
      numbered = each.0.numbered;
      order = subst (λ get. IsOrderBy get k.order) (sym (same_get k.id)) each.0.order;
      each = subst (λ get. AllByRecursion (λ p. CanStand k.apex p.set) (slotted_by get k.order))
          (sym (same_get k.id)) each.0.each;
      counted = each.0.counted ∙ ap (λ get. sums_of (slotted_by get k.order)) (sym (same_get k.id));
    },
    still_stand list each.1,
  )

  pub still_kept : (list : List Listed) → AreIntact slots list → AreIntact now list
  still_kept list kept = record {
    listed = kept.listed;
    each = still_stand list kept.each;
    owned = λ zone slot set at. kept.owned zone slot set (sym (stay zone slot) ∙ at);
  }

  pub still_zones : (list : List Listed) → zones_in now list ≡ zones_in slots list
  still_zones [] = refl
  still_zones (k ∷ list) =
      ap (λ get. record { id = k.id; apex = k.apex; placed = slotted_by get k.order } ∷ zones_in now list)
      (same_get k.id)
      ∙ ap (λ zs. zone_in slots k ∷ zs) (still_zones list)

-- ---- rooms of zones

set_here : {X : Type 0} (xs : List X) (i : ℕ) (x y : X) → i < length xs
    → slice_get (slice_set xs i x) i ≡ Some y → x ≡ y
set_here [] i x y lt at = absurd (omega (arith, lt))
set_here (z ∷ xs) zero x y lt at = grind (arith, at)
set_here (z ∷ xs) (suc i) x y lt at = set_here xs i x y (omega (arith, lt)) at

set_elsewhere : {X : Type 0} (xs : List X) (i j : ℕ) (x : X) → i ≢ j
    → slice_get (slice_set xs i x) j ≡ slice_get xs j
set_elsewhere [] i j x apart = refl
set_elsewhere (z ∷ xs) zero zero x apart = absurd (apart refl)
set_elsewhere (z ∷ xs) zero (suc j) x apart = refl
set_elsewhere (z ∷ xs) (suc i) zero x apart = refl
set_elsewhere (z ∷ xs) (suc i) (suc j) x apart = set_elsewhere xs i j x (λ e. apart (ap suc e))

-- two places of one number are one
one_place : (zones : List Zone) → AreListed zones → (i j : ℕ) (x y : Zone)
    → slice_get zones i ≡ Some x → slice_get zones j ≡ Some y → x.id ≡ y.id → i ≡ j
one_place zones listed i j x y at_i at_j e = elim (cases_eq i j) [
  | inl same ↦ same
  | inr ne ↦ elim (one_lower i j ne) [
    | inl lt ↦ (let h = listed_at zones i j x y listed lt at_i at_j in absurd (omega (arith, h, e)))
    | inr lt ↦ (let h = listed_at zones j i y x listed lt at_j at_i in absurd (omega (arith, h, e)))
  ]
]
  where
    one_lower : (a b : ℕ) → a ≢ b → (a < b) ⊎ (b < a)
    one_lower zero zero ne = absurd (ne refl)
    one_lower zero (suc b) ne = inl (omega arith)
    one_lower (suc a) zero ne = inr (omega arith)
    one_lower (suc a) (suc b) ne =
        elim (one_lower a b (λ e. ne (ap suc e))) [
          | inl lt ↦ inl (omega (arith, lt))
          | inr lt ↦ inr (omega (arith, lt))
        ]

pub can_take : (items : List Listed) (i id more : ℕ) (k now : Listed) → AreListed (named_of items)
    → i < length items → slice_get items i ≡ Some k → k.id ≡ id → more ≤ now.room
    → CanTake (slice_set items i now) id more
can_take items i id more k now listed inside at its_id enough j its at_j e = elim (cases_eq i j) [
  | inl same ↦
      (let it : now ≡ its =
      set_here items i now its inside
      (subst (λ n. slice_get (slice_set items i now) n ≡ Some its) (sym same) at_j) in
      let room : now.room ≡ its.room = ap (λ (x : Listed). x.room) it in omega (arith, enough, room))
  | inr ne ↦
      absurd (ne
      (one_place (named_of items) listed i j (named k) (named its) (map_at named items i k at)
      (map_at named items j its (sym (set_elsewhere items i j now ne) ∙ at_j)) (its_id ∙ sym e)))
]

-- where a zone has more room the others keep theirs
pub room_kept : (items : List Listed) (i : ℕ) (k now : Listed) → i < length items
    → slice_get items i ≡ Some k → k.room ≤ now.room
    → (j : ℕ) (its its_now : Listed) → slice_get items j ≡ Some its
    → slice_get (slice_set items i now) j ≡ Some its_now → its.room ≤ its_now.room
room_kept items i k now inside at more j its its_now at_j now_j = elim (cases_eq i j) [
  | inl same ↦
      (let here : now ≡ its_now =
      set_here items i now its_now inside
      (subst (λ n. slice_get (slice_set items i now) n ≡ Some its_now) (sym same) now_j) in
      let at_i : slice_get items i ≡ Some its =
      subst (λ n. slice_get items n ≡ Some its) (sym same) at_j in
      let was : k ≡ its = grind (arith, at, at_i) in
      let room : k.room ≡ its.room = ap (λ (x : Listed). x.room) was in
      let room_now : now.room ≡ its_now.room = ap (λ (x : Listed). x.room) here in
      omega (arith, more, room, room_now))
  | inr apart ↦
      (let at_now : slice_get items j ≡ Some its_now = sym (set_elsewhere items i j now apart)
      ∙ now_j in
      let one : its ≡ its_now = grind (arith, at_j, at_now) in
      let room : its.room ≡ its_now.room = ap (λ (x : Listed). x.room) one in
      omega (arith, room))
]

pub none_to_take : (items : List Listed) (id more : ℕ) → (IsZoneId (named_of items) id → ⊥)
    → CanTake items id more
none_to_take items id more none i its at e =
    absurd (none (named its, in_map named items its (among_at items i its at), e))

-- the same room
pub same_room : (list : Vec Listed Global) → KeepsRoom list list
same_room list = record {
  spare = omega arith;
  rooms = λ i its its_now at now_at.
      (let one : its ≡ its_now = (let f = at in let g = now_at in cc) in
      let e : its.room ≡ its_now.room = ap (λ (x : Listed). x.room) one in omega (arith, e));
}

-- ---- what is ready

module _ {X E : Type 0} where
  pub ok_so : {P Q : X → Type 0} (r : Result X E) → IfOk r P → ((x : X) → P x → Q x) → IfOk r Q
  ok_so (Ok x) p f = f x p
  ok_so (Err e) p f = tt

  pub on_ok_so : {P Q : Type 0} (r : Result X E) → OnOk r P → (P → Q) → OnOk r Q
  on_ok_so (Ok x) p f = f p
  on_ok_so (Err e) p f = tt

abbrev pub table_of : Slots → Vec Listed Global → Stored → ℕ → Table
table_of store list collections edits = record {
  zones = zones_in store.slots list.items;
  slots = length store.slots;
  rooms = map (λ (k : Listed). k.room) list.items;
  spare = vec_capacity list - length list.items;
  free = store.free;
  cells = store.cells;
  collections = collections;
  edits = edits;
}

pub spelled_of : (zones : List Zone) (made : ZoneEdit) → IsAllowed zones made → AreSpelled made
spelled_of zones (edit.Begin zone name sets) allowed = by sets allowed.2.each
  where
    by : (add : List RecordSet) → AllByRecursion (λ set. CanStand name set) add → AllByRecursion HasSpelling add
    by [] all = tt
    by (set ∷ add) all = (all.0.spelled, by add all.1)
spelled_of zones (edit.End zone) allowed = tt
spelled_of zones (edit.Collections now) allowed = tt
spelled_of zones (edit.Change zone remove add) ((x, there, its), can) =
    by x.apex add (can x.apex (x, there, its, refl)).added.each
  where
    by : (apex : List (List ℕ)) (sets : List RecordSet) → AllByRecursion (λ set. CanStand apex set) sets
        → AllByRecursion HasSpelling sets
    by apex [] all = tt
    by apex (set ∷ sets) all = (all.0.spelled, by apex sets all.1)

bounded : (add : List RecordSet) (n m : ℕ) → n ≤ m → AllByRecursion (λ set. length (set_octets set) ≤ n) add
    → AllByRecursion (λ set. length (set_octets set) ≤ m) add
bounded [] n m le all = tt
bounded (set ∷ add) n m le all = ((let h = all.0 in omega (arith, h, le)), bounded add n m le all.1)

module _ (store : Slots) (list : Vec Listed Global) (collections : Stored) (edits : ℕ) (need : Need) (ready : Prepared)
    (slots_are : need.addable ≤ store.free) (cells_are : need.cells ≤ store.cells) where
  room_to_add : (made : ZoneEdit) → IsPrepared made edits need ready → (add : List RecordSet) → NeedsFor add need
      → HasRoomFor (table_of store list collections edits) ready add
  room_to_add made prepared add adds = record {
    addable = (let a = prepared.addable in let n = adds.addable in omega (arith, a, n));
    slots = (let n = adds.addable in omega (arith, slots_are, n));
    cells = (let n = adds.cells in omega (arith, cells_are, n));
    buffer = bounded add need.buffer ready.buffer prepared.buffer adds.buffer;
  }

  has_room : (made : ZoneEdit) → IsPrepared made edits need ready → NeedsOfEdit list.items made need
      → IsRoomFor list made → HasRoom (table_of store list collections edits) ready made
  has_room (edit.Begin zone name sets) prepared counts room = (
    omega (arith, room),
    (let p = prepared.places in let n = counts.0 in omega (arith, p, n)),
    room_to_add (edit.Begin zone name sets) prepared sets counts.1,
  )
  has_room (edit.End zone) prepared counts room =
      let r = prepared.removable in let n = counts store.slots in omega (arith, r, n)
  has_room (edit.Collections now) prepared counts room = tt
  has_room (edit.Change zone remove add) prepared counts room = (
    (let r = prepared.removable in let n = counts.0 in omega (arith, r, n)),
    take,
    room_to_add (edit.Change zone remove add) prepared add counts.1,
  )
    where
      take : HasRoomIn (table_of store list collections edits) zone (length add)
      take i its its_room at at_room e =
          let k = of_map_at (λ (x : Listed). x.room) list.items i its_room at_room in
          let j = of_map_at (zone_in store.slots) list.items i its at in
          let same : k.0 ≡ j.0 = (let f = k.1 in let g = j.1 in cc) in
          let id : k.0.id ≡ zone = ap (λ (x : Listed). x.id) same ∙ (ap (λ (z : Zone). z.id) j.2 ∙ e) in
          let enough = room i k.0 k.1 id in
          let its_is = k.2 in
          omega (arith, enough, its_is)

  pub is_ready : (made : ZoneEdit) → IsPrepared made edits need ready → NeedsOfEdit list.items made need
      → IsRoomFor list made → IsAllowed (zones_in store.slots list.items) made
      → IsReady (table_of store list collections edits) ready
  is_ready made prepared counts room allowed = record {
    edits = prepared.edits_before;
    allowed = subst (λ m. IsAllowed (zones_in store.slots list.items) m) (sym prepared.made_it) allowed;
    room = subst (λ m. HasRoom (table_of store list collections edits) ready m) (sym prepared.made_it)
        (has_room made prepared counts room);
  }

-- how much an edit wants is told of zones that are the same
pub counts_still : (list now : List Listed) → same_rows list now → (made : ZoneEdit) (need : Need)
    → NeedsOfEdit list made need → NeedsOfEdit now made need
counts_still list now same (edit.Begin zone name sets) need counts = counts
counts_still list now same (edit.End zone) need counts = λ slots.
    counts slots ∙ ap (λ zs. length (placed_in zs zone)) (sym (rows_zones slots list now same))
counts_still list now same (edit.Change zone remove add) need counts = counts
counts_still list now same (edit.Collections given) need counts = counts

module _ (store store_now : Slots) (list now : Vec Listed Global) (collections : Stored) (edits : ℕ)
    (same : zones_in store_now.slots now.items ≡ zones_in store.slots list.items)
    (free : store.free ≤ store_now.free) (cells : store.cells ≤ store_now.cells)
    (keeps : KeepsRoom list now) (rows : same_rows list.items now.items) where
  still_room : (ready : Prepared) (add : List RecordSet) → HasRoomFor (table_of store list collections edits) ready add
      → HasRoomFor (table_of store_now now collections edits) ready add
  still_room ready add room = record {
    addable = room.addable;
    slots = (let n = room.slots in omega (arith, n, free));
    cells = (let n = room.cells in omega (arith, n, cells));
    buffer = room.buffer;
  }

  -- each zone was there
  was_at : (i : ℕ) (k : Listed) → slice_get now.items i ≡ Some k
      → (j : Listed) × (slice_get list.items i ≡ Some j) × (j.id ≡ k.id)
  was_at i k at =
      let r : slice_get (map zone_but_room list.items) i ≡ Some (zone_but_room k) =
      subst (λ rs. slice_get rs i ≡ Some (zone_but_room k)) rows (map_at zone_but_room now.items i k at) in
      let j = of_map_at zone_but_room list.items i (zone_but_room k) r in
      (j.0, j.1, ap (λ (x : ZoneButRoom). x.id) j.2)

  pub stay_ready : StayReady (table_of store list collections edits) (table_of store_now now collections edits)
  stay_ready ready is = record {
    edits = is.edits;
    allowed = subst (λ zs. IsAllowed zs ready.made) (sym same) is.allowed;
    room = by ready.made is.room;
  }
    where
      by : (m : ZoneEdit) → HasRoom (table_of store list collections edits) ready m
          → HasRoom (table_of store_now now collections edits) ready m
      by (edit.Begin zone name sets) room = (
        (let some = room.0 in let spare = keeps.spare in omega (arith, some, spare)),
        room.1,
        still_room ready sets room.2,
      )
      by (edit.End zone) room =
          subst (λ zs. length (placed_in zs zone) ≤ ready.removable) (sym same) room
      by (edit.Collections given) room = tt
      by (edit.Change zone remove add) room = (room.0, enough, still_room ready add room.2)
        where
          enough : HasRoomIn (table_of store_now now collections edits) zone (length add)
          enough i its its_room at at_room e =
              let k = of_map_at (λ (x : Listed). x.room) now.items i its_room at_room in
              let z = of_map_at (zone_in store_now.slots) now.items i its at in
              let one : k.0 ≡ z.0 = (let f = k.1 in let g = z.1 in cc) in
              let j = was_at i k.0 k.1 in
              let had : length add ≤ j.0.room =
              room.1 i (zone_in store.slots j.0) j.0.room (map_at (zone_in store.slots) list.items i j.0 j.1)
              (map_at (λ (x : Listed). x.room) list.items i j.0 j.1)
              (j.2 ∙ (ap (λ (x : Listed). x.id) one ∙ (ap (λ (y : Zone). y.id) z.2 ∙ e))) in
              let more = keeps.rooms i j.0 k.0 j.1 k.1 in
              let its_is = k.2 in
              omega (arith, had, more, its_is)

-- what is ready wants no memory of the store and of the zones
pub ready_for : (store : Slots) (list : Vec Listed Global) (collections : Stored) (edits : ℕ)
    (ready : Prepared)
    → IsReady (table_of store list collections edits) ready → IsReadyFor store list ready
ready_for store list collections edits ready is = record { allowed = is.allowed; room = by ready.made is.room }
  where
    to_add : (add : List RecordSet) → HasRoomFor (table_of store list collections edits) ready add
        → HasRoomToAdd store ready add
    to_add add room = record {
      addable = room.addable;
      slots = room.slots;
      cells = room.cells;
      buffer = room.buffer;
    }

    by : (m : ZoneEdit) → HasRoom (table_of store list collections edits) ready m → NeedsNone store list ready m
    by (edit.Begin zone name sets) room =
        ((let some = room.0 in omega (arith, some)), room.1, to_add sets room.2)
    by (edit.End zone) room = room
    by (edit.Collections given) room = tt
    by (edit.Change zone remove add) room = (room.0, take, to_add add room.2)
      where
        take : CanTake list.items zone (length add)
        take i its at e =
            room.1 i (zone_in store.slots its) its.room (map_at (zone_in store.slots) list.items i its at)
            (map_at (λ (x : Listed). x.room) list.items i its at) e
