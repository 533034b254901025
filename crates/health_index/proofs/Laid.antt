-- How much there is where all was laid out at once, and how much one set more wants.
use Rattle.std.proofs.Common.{◌≡◌, ◌≢◌, ◌≤◌, ◌<◌, ◌+◌, ◌-◌, ◌*◌, ◌⊎◌, ℕ, zero, suc, List, Some, length, arith, refl, ap, sym, ◌∙◌, inl, inr}
use Rattle.std.specs.Prelude.{slice_get}
use Rattle.std.proofs.lemmas.Bool.{cases_lt}
use Rattle.std.proofs.lemmas.Option.{slice_get_within}
use mathlib.Core.Path.{subst}
use Rattle.check_model.specs.declared.checks.Check.{Check}
use Rattle.health_index.specs.Index.{Index}
use Rattle.health_index.specs.Laws.{AliasesHaveRoom}
use Rattle.health_index.specs.Room.{AddsFew, AddsForGroup, AddsLittle, AreApart, HasAsMuch, HasRoomForFirst, HasRoomForGroup, IsLaidAnew}
use Rattle.health_planning.proofs.Few.{no_more_than}
use Rattle.health_planning.proofs.ListedOnce.{slot_below}
use Rattle.health_planning.proofs.MembersOfZoneList.{filled}
use Rattle.health_planning.specs.Building.{AreGiven, AreNoted, HoldsSet, IsBuilt}
use Rattle.health_planning.specs.Changes.{ref_in}
use Rattle.health_planning.specs.DeltaRecord.{Delta}
use Rattle.health_planning.specs.SetRefRecord.{SetRef}
use Rattle.health_planning.specs.Tables.{HaveSlotsBelow}
use Rattle.health_planning.specs.Wired.{group_seat, own_part, seat_of}
use Rattle.health_planning.specs.Zones.{Zone}
use Rattle.health_planning.specs.declared.seats.Seat.{Seat}
use Rattle.health_valves.specs.Laying.{links_of}
use Rattle.health_valves.specs.Valves.{size_of}
use Rattle.health_valves.specs.declared.blueprint.Feeding.{Feeding}
use Rattle.health_valves.specs.declared.blueprint.Trigger.{Trigger}

some_same : {X : Type 0} {x y : X} → Some x ≡ Some y → x ≡ y
some_same e = cc

within_list : (refs : List SetRef) (k : ℕ) (ref : SetRef) → slice_get refs k ≡ Some ref → k < length refs
within_list refs k ref at = slice_get_within refs k ref at

-- ---- what a plan leaves

module _ (zones : List Zone) (index : Index) (list : List (ℕ × Check)) (numbers : List ℕ) (triggers : List Trigger)
    (links : List Feeding) (built : IsBuilt zones list numbers index.refs index.seats triggers links)
    (given : AreGiven index.refs index.members index.seats) (noted : AreNoted index.members index.seats)
    (size : size_of index.valves ≡ length triggers) (laid : links_of index.valves ≡ length links)
    (few : length links ≤ length index.refs * 3 + 51200) where
  member_here : (slot : ℕ) → group_seat index.seats slot ≢ 0 → HoldsSet zones slot
  member_here slot some = by (group_seat index.seats slot) refl
    where
      by : (n : ℕ) → group_seat index.seats slot ≡ n → HoldsSet zones slot
      by zero e = absurd (some e)
      by (suc valve) e =
          let h = (built.groups.valves slot valve e).1 in
          let p = h.here.0 in
          (ref_in h.zone p, (p.set, (h.are.here p h.here.1, h.here.2)))

  told : (valve : ℕ) → 200 ≤ valve → valve < size_of index.valves → (slot : ℕ)
      × ((seat_of index.seats slot ≡ suc valve) ⊎ (group_seat index.seats slot ≡ suc valve))
  told valve behind within = elim (cases_lt valve (200 + length index.refs)) [
    | inl early ↦
        let ref = filled index.refs (valve - 200) (omega (arith, behind, early)) in
        let seat = (built.sets (valve - 200) ref.0 ref.1).seat in
        (ref.0.slot, inl (omega (arith, behind, seat)))
    | inr late ↦
        let g = built.groups.all valve late (omega (arith, within, size)) in
        (g.0, inr g.1)
  ]

  pub laid_anew : IsLaidAnew zones index
  laid_anew = record {
    listed = record {
      here = λ k ref at. (let g = built.sets k ref at in (ref, (g.named, (g.names, refl))));
      once = λ k n one other at at_other same.
          let a = (built.sets k one at).seat in
          let b = (built.sets n other at_other).seat in
          let slots = ap (seat_of index.seats) same in
          omega (arith, a, b, slots);
    };
    own = λ k ref at none. (let a = (built.sets k ref at).seat in absurd (omega (arith, a, none)));
    noted = record { here = λ k ref at. member_here ref.slot (noted.each k ref at); once = noted.once };
    grouped = noted.each;
    given = given;
    told = told;
    links = omega (arith, laid, few);
  }

-- ---- how many there are

-- another slot is left beside those of some sets
left_beside : (zones : List Zone) (slots : ℕ) (refs : List SetRef) (slot : ℕ) → AreApart zones refs
    → HaveSlotsBelow zones slots → slot < slots
    → ((k : ℕ) (ref : SetRef) → slice_get refs k ≡ Some ref → ref.slot ≡ slot → ⊥) → length refs + 1 ≤ slots
left_beside zones slots refs slot are below within beside =
    no_more_than Has own (length refs + 1) slots each
  where
    Has : ℕ → ℕ → Type 0
    Has k x = ((ref : SetRef) × ((slice_get refs k ≡ Some ref) × (ref.slot ≡ x)))
        ⊎ ((k ≡ length refs) × (x ≡ slot))

    own : (a b x : ℕ) → Has a x → Has b x → a ≡ b
    own a b x (inl one) (inl other) = are.once a b one.0 other.0 one.1.0 other.1.0 (one.1.1 ∙ sym other.1.1)
    own a b x (inl one) (inr other) = absurd (beside a one.0 one.1.0 (one.1.1 ∙ other.1))
    own a b x (inr one) (inl other) = absurd (beside b other.0 other.1.0 (other.1.1 ∙ one.1))
    own a b x (inr one) (inr other) = one.0 ∙ sym other.0

    each : (k : ℕ) → k < length refs + 1 → (x : ℕ) × (Has k x × (x < slots))
    each k early = elim (cases_lt k (length refs)) [
      | inl listed ↦
          let ref = filled refs k listed in
          let h = are.here k ref.0 ref.1 in
          let b = slot_below zones slots h.0 h.1.0 below h.1.1.0 in
          let same = h.1.1.1 in
          (ref.0.slot, (inl (ref.0, (ref.1, refl)), omega (arith, b, same)))
      | inr last ↦ (slot, (inr (omega (arith, early, last), refl), within))
    ]

-- each valve behind those of checks is that of a listed set, or one that a noted set tells
few_valves : (zones : List Zone) (index : Index) → IsLaidAnew zones index
    → size_of index.valves ≤ 200 + (length index.refs + length index.members)
few_valves zones index are =
    let few = no_more_than Has own (size_of index.valves - 200) (length index.refs + length index.members) each in
    omega (arith, few)
  where
    Has : ℕ → ℕ → Type 0
    Has k x = ((ref : SetRef) × ((slice_get index.refs x ≡ Some ref) × (seat_of index.seats ref.slot ≡ suc (200 + k))))
        ⊎ ((n : ℕ) × ((ref : SetRef) × ((x ≡ length index.refs + n) × ((slice_get index.members n ≡ Some ref)
        × (group_seat index.seats ref.slot ≡ suc (200 + k))))))

    own : (a b x : ℕ) → Has a x → Has b x → a ≡ b
    own a b x (inl one) (inl other) =
        let same = ap (λ (r : SetRef). seat_of index.seats r.slot) (some_same (sym one.1.0 ∙ other.1.0)) in
        let first = one.1.1 in
        let second = other.1.1 in
        omega (arith, same, first, second)
    own a b x (inl one) (inr other) =
        let within = within_list index.refs x one.0 one.1.0 in
        let past = other.1.1.0 in
        absurd (omega (arith, within, past))
    own a b x (inr one) (inl other) =
        let within = within_list index.refs x other.0 other.1.0 in
        let past = one.1.1.0 in
        absurd (omega (arith, within, past))
    own a b x (inr one) (inr other) =
        let first = one.1.1.0 in
        let second = other.1.1.0 in
        let place : one.0 ≡ other.0 = omega (arith, first, second) in
        let same = ap (λ (r : SetRef). group_seat index.seats r.slot)
        (some_same (sym one.1.1.1.0 ∙ ap (slice_get index.members) place ∙ other.1.1.1.0)) in
        let told = one.1.1.1.1 in
        let told_too = other.1.1.1.1 in
        omega (arith, same, told, told_too)

    each : (k : ℕ) → k < size_of index.valves - 200
        → (x : ℕ) × (Has k x × (x < length index.refs + length index.members))
    each k early =
        let told = are.told (200 + k) (omega arith) (omega (arith, early)) in
        elim told.1 [
          | inl seat ↦
              let t = are.given.sets told.0 (λ none. absurd (omega (arith, seat, none))) in
              let within = within_list index.refs t.0 t.1.0 t.1.1.0 in
              (t.0, (inl (t.1.0, (t.1.1.0, ap (seat_of index.seats) t.1.1.1 ∙ seat)), omega (arith, within)))
          | inr seat ↦
              let t = are.given.groups told.0 (λ none. absurd (omega (arith, seat, none))) in
              let within = within_list index.members t.0 t.1.0 t.1.1.0 in (
                length index.refs + t.0,
                (
                  inr (t.0, (t.1.0, (refl, (t.1.1.0, ap (group_seat index.seats) t.1.1.1 ∙ seat)))),
                  omega (arith, within),
                ),
              )
        ]

pub aliases_have_room : AliasesHaveRoom
aliases_have_room before index slots ref are below room within bare none =
    let listed = left_beside before slots index.refs ref.slot are.listed below within
    (λ k one at same. are.own k one at (ap (seat_of index.seats) same ∙ ap own_part bare)) in
    let noted = left_beside before slots index.members ref.slot are.noted below within
    (λ k one at same. are.grouped k one at (ap (group_seat index.seats) same ∙ none)) in
    let valves = few_valves before index are in
    let links = are.links in
    let refs_room = room.refs in
    let members_room = room.members in
    record {
      noted = omega (arith, noted, members_room);
      alias = record {
        refs = omega (arith, listed, refs_room);
        valves = record {
          valves_below = omega (arith, valves, listed, noted);
          links_below = omega (arith, links, listed);
        };
      };
      first = λ sets few. record {
        refs = omega (arith, listed, refs_room);
        members = omega (arith, noted, members_room, few);
        valves = record {
          valves_below = omega (arith, valves, listed, noted);
          links_below = omega (arith, links, listed);
        };
      };
    }

-- ---- what commands in place add

pub adds_none : (sets : ℕ) (before after : Index) → HasAsMuch before after → AddsFew sets before after
adds_none sets before after as_much =
    let refs = as_much.refs in
    let members = as_much.members in
    let valves = as_much.valves in
    let links = as_much.links in
    record {
      refs = omega (arith, refs);
      members = omega (arith, members);
      valves = omega (arith, valves);
      links = omega (arith, links);
    }

pub as_much : (before after : Index) → after ≡ before → HasAsMuch before after
as_much before after same = record {
  refs = ap (λ (i : Index). length i.refs) same;
  members = ap (λ (i : Index). length i.members) same;
  valves = ap (λ (i : Index). size_of i.valves) same;
  links = ap (λ (i : Index). links_of i.valves) same;
}

pub adds_nothing : (sets : ℕ) (before after : Index) → after ≡ before → AddsFew sets before after
adds_nothing sets before after same = adds_none sets before after (as_much before after same)

-- where nothing changes but seats
pub adds_seats : (sets : ℕ) (before after : Index) (seats : List Seat) → after ≡ record before { seats = seats }
    → AddsFew sets before after
adds_seats sets before after seats same = adds_none sets before after (record {
  refs = ap (λ (i : Index). length i.refs) same;
  members = ap (λ (i : Index). length i.members) same;
  valves = ap (λ (i : Index). size_of i.valves) same;
  links = ap (λ (i : Index). links_of i.valves) same;
})

pub as_much_after : (first second third : Index) → HasAsMuch first second → HasAsMuch second third
    → HasAsMuch first third
as_much_after first second third early late = record {
  refs = late.refs ∙ early.refs;
  members = late.members ∙ early.members;
  valves = late.valves ∙ early.valves;
  links = late.links ∙ early.links;
}

-- the same of an index that is another one as it is seen
pub as_much_by : (before now after : Index) → before ≡ now → length after.refs ≡ length before.refs
    → length after.members ≡ length before.members → size_of after.valves ≡ size_of before.valves
    → links_of after.valves ≡ links_of before.valves → HasAsMuch now after
as_much_by before now after same refs members valves links =
    subst (λ (i : Index). HasAsMuch i after) same
    (record { refs = refs; members = members; valves = valves; links = links })

pub adds_by : (sets : ℕ) (before now after : Index) → before ≡ now → length after.refs ≤ length before.refs + 1
    → length after.members ≤ length before.members + sets → size_of after.valves ≤ size_of before.valves + 2
    → links_of after.valves ≤ links_of before.valves + 2 → AddsFew sets now after
adds_by sets before now after same refs members valves links =
    subst (λ (i : Index). AddsFew sets i after) same
    (record { refs = refs; members = members; valves = valves; links = links })

pub adds_group : (zones : List Zone) (slots : ℕ) (delta : Delta) (before now after : Index) → before ≡ now
    → AddsForGroup zones slots delta before after → AddsLittle zones slots delta now after
adds_group zones slots delta before now after same adds =
    subst (λ (i : Index). AddsLittle zones slots delta i after) same (inr adds)

-- what a command adds to an index it adds to one that is the same
pub adds_still : (zones : List Zone) (slots : ℕ) (delta : Delta) (before now after : Index) → before ≡ now
    → AddsLittle zones slots delta before after → AddsLittle zones slots delta now after
adds_still zones slots delta before now after same adds =
    subst (λ (i : Index). AddsLittle zones slots delta i after) same adds

-- what is room for a group of whose sets none has a valve of its own
pub plain_room : (index : Index) (sets slots fed : ℕ) → fed ≡ 0 → HasRoomForFirst index sets slots
    → HasRoomForGroup index fed sets slots
plain_room index sets slots fed none room =
    let below = room.valves.valves_below in
    let links = room.valves.links_below in
    record {
      refs = room.refs;
      members = room.members;
      few = omega (arith, none);
      valves = record { valves_below = below; links_below = omega (arith, none, links) };
    }
