-- What an index has where an evaluated alias came, and another one leads to its target group; or none does, and nothing
-- decides any set of that.
use Rattle.std.proofs.Common.{◌≡◌, ◌≤◌, ◌<◌, ℕ, zero, suc, true, false, List, [], ◌∷◌, length, map, get_or, arith, refl, ap, sym, ◌∙◌, inl, inr, Option, None, Some}
use Rattle.std.specs.List.{Contains}
use Rattle.std.specs.Option.{option_to_list}
use Rattle.std.specs.Prelude.{All, slice_get}
use Rattle.std.proofs.lemmas.Bool.{cases_eq, false≢true}
use Rattle.std.proofs.lemmas.List.Elements.{Contains-append_cases, Contains-get_or}
use mathlib.Core.Path.{subst}
use Rattle.check_model.specs.Checks.{Checks}
use Rattle.health_index.proofs.Alone.{early_in}
use Rattle.health_index.proofs.CanRegroup.{bare_seat, led_group, moves as moves_by, no_group, rows_there, was_here}
use Rattle.health_index.proofs.GroupLeft.{is_none, is_one}
use Rattle.health_index.proofs.Keyed.{grouped, grouped_sets}
use Rattle.health_index.proofs.Staying.{CameBy, WentBy, group_now, in_filter}
use Rattle.health_index.specs.Index.{Index, StandsFor}
use Rattle.health_index.proofs.Regrouped.{watched_on}
use Rattle.health_index.specs.Founding.{ComesFirst, ComesFirstOwned}
use Rattle.health_index.specs.Laws.{AliasesCanCome, FirstCanCome, FirstOwnedCanCome}
use Rattle.health_index.specs.Leading.{ComesToLead, HasItsCheck, feeders_with}
use Rattle.health_index.specs.Leaving.{HasNoValve, Moves}
use Rattle.health_index.specs.Regrouping.{HasCome}
use Rattle.health_model.proofs.Members.{of_filter}
use Rattle.health_model.specs.Sound.{IsSound}
use Rattle.health_model.specs.Statuses.{Report}
use Rattle.health_planning.proofs.Built.{checks_there, targets_there}
use Rattle.health_planning.proofs.Members.{one_named}
use Rattle.health_planning.proofs.MembersOfZoneList.{set_in}
use Rattle.health_planning.proofs.Watching.{zone_sets}
use Rattle.health_planning.proofs.Wiring.{of_group, passes_it, same_names}
use Rattle.health_planning.specs.DeltaRecord.{Delta}
use Rattle.health_planning.specs.Edits.{Edits, IsAllowed}
use Rattle.health_planning.specs.Looking.{RefersTo}
use Rattle.health_planning.specs.SetRefRecord.{SetRef}
use Rattle.health_planning.specs.Tables.{HaveSlotsApart}
use Rattle.health_planning.specs.Telling.{evaluates, target_in}
use Rattle.health_planning.specs.Wired.{AreMembers, IsLedTo, group_seat, ids_of, is_watched, own_part, seat_of, set_seat, valve_with, watched_of}
use Rattle.health_planning.specs.declared.seats.Seat.{Seat}
use Rattle.health_planning.specs.ZoneEditRecord.{ZoneEdit}
use Rattle.health_planning.specs.Zones.{AreZones, Zone, placed_in}
use Rattle.health_valves.proofs.Members.{in_cases, in_none}
use Rattle.health_valves.specs.Valves.{size_of}
use Rattle.rdata_layout.specs.declared.types.RType.{RType}
use Rattle.record_set.specs.Reasons.{IsAlias}
use Rattle.record_set.specs.declared.sets.Body.{Body}
use Rattle.record_set.specs.declared.sets.Body.TheVariants as body
use Rattle.record_set.specs.declared.sets.RecordSet.{RecordSet}
use Rattle.zone_model.specs.Slotted.{IsHere, Slotted, sets_of}
use Rattle.zone_model.specs.Walks.{HasNoTarget, IsTooDeep, IsWalk}
use Rattle.zone_model.specs.Zones.{IsAmong, group, is_of_group, target_group, target_group_of}

all_of : (P : ℕ → Type 0) (xs : List ℕ) → ((x : ℕ) → Contains xs x → P x) → All P xs
all_of P xs each k d below = each (get_or xs k d) (Contains-get_or xs k d below)

abbrev copies : RecordSet → ℕ → List RecordSet
copies set zero = []
copies set (suc n) = set ∷ copies set n

copies_long : (set : RecordSet) (n : ℕ) → length (copies set n) ≡ n
copies_long set zero = refl
copies_long set (suc n) = ap suc (copies_long set n)

module _ (before after : List Zone) (checks : Checks) (reports : List Report) (index : Index)
    (stands : StandsFor before checks reports index) (are_after : AreZones after)
    (slots_after : HaveSlotsApart after) (sound : IsSound (watched_of after checks)) (delta : Delta)
    (ref : SetRef) (come : HasCome delta ref) (set : RecordSet) (names : RefersTo after ref set)
    (made : ZoneEdit) (allowed : IsAllowed before made) (edits : Edits before made after delta)
    (none_leads : IsLedTo before ref.zone set.name set.rtype → ⊥) where
  abbrev seats : List Seat
  seats = index.seats

  abbrev ids : List ℕ
  ids = ids_of checks.list

  moves : Moves before after delta.removed delta.added
  moves = moves_by before after checks reports index stands are_after slots_after delta ref come set names made allowed edits

  bare : set_seat seats ref.slot ≡ 0
  bare = bare_seat before after checks reports index stands are_after slots_after delta ref come set names made allowed edits

  none : group_seat seats ref.slot ≡ 0
  none = no_group before after checks reports index stands are_after slots_after delta ref come set names made allowed edits

  -- no set of a group tells a valve for it to which none leads
  bare_of : (name : List (List ℕ)) (rtype : RType) → (IsLedTo before ref.zone name rtype → ⊥) → (p : Slotted)
      → IsHere (placed_in before ref.zone) p → name ≡ p.set.name → rtype ≡ p.set.rtype → group_seat seats p.slot ≡ 0
  bare_of name rtype no_leader p here name_is rtype_is = by (group_seat seats p.slot) refl
    where
      its_group : AreMembers before ref.zone name rtype (grouped name rtype (placed_in before ref.zone))
      its_group = record {
        sets = grouped_sets name rtype (placed_in before ref.zone);
        here = λ q m. of_filter (λ (x : Slotted). is_of_group name rtype x.set) (placed_in before ref.zone) q m;
      }

      by : (n : ℕ) → group_seat seats p.slot ≡ n → group_seat seats p.slot ≡ 0
      by zero e = e
      by (suc h) e =
          let x = stands.told.groups p.slot h e in
          let s = x.only p.slot e in
          let m = in_filter (λ (q : Slotted). is_of_group name rtype q.set) (placed_in before ref.zone) p here
          (passes_it name rtype p.set name_is rtype_is) in
          let same = same_names before stands.are_zones stands.slots x.zone ref.zone x.name name x.rtype rtype x.members
          (grouped name rtype (placed_in before ref.zone)) s.0 p x.are s.1 its_group m s.2 in
          absurd (no_leader
          (subst (λ (z : ℕ). IsLedTo before z name rtype) (sym same.0)
          (subst (λ (n : List (List ℕ)). IsLedTo before x.zone n rtype) (sym same.1.0)
          (subst (λ (t : RType). IsLedTo before x.zone x.name t) (sym same.1.1) x.led))))

  alone : HasNoValve after seats ref.zone set.name set.rtype
  alone p here name_is rtype_is = elim (cases_eq p.slot ref.slot) [
    | inl e ↦ ap (group_seat seats) e ∙ none
    | inr apart ↦
        bare_of set.name set.rtype none_leads p (was_here before after checks reports index stands are_after slots_after delta ref come set names made allowed edits ref.zone p here apart)
        name_is rtype_is
  ]

  by_went : (i : ℕ) (r : SetRef) → slice_get delta.removed i ≡ Some r → WentBy seats delta.added r
  by_went i r at = absurd (is_none delta.removed r come.removed (i, at))

  came : CameBy before after seats delta.removed ref
  came = record {
    set = set;
    names = names;
    as_own = inl (ap own_part bare);
    place = inr (ap own_part bare, alone);
  }

  by_came : (i : ℕ) (r : SetRef) → slice_get delta.added i ≡ Some r → CameBy before after seats delta.removed r
  by_came i r at = subst (CameBy before after seats delta.removed) (sym (is_one delta.added ref r come.added (i, at))) came

  its_check : (check : Option ℕ) → set.check ≡ check → HasItsCheck index.ids check
  its_check None is = tt
  its_check (Some id) is =
      subst (λ (l : List ℕ). HasItsCheck l (Some id)) (sym stands.ids) (checks_there after checks sound ref set id names is)

  early : (id : ℕ) → set.check ≡ Some id → valve_with index.ids index.numbers id < 200
  early id is =
      subst (λ (l : List ℕ). valve_with l index.numbers id < 200) (sym stands.ids)
      (early_in after checks index.numbers stands.numbers sound ref.zone (record { slot = ref.slot; set = set }) id names is)

  many : 200 ≤ size_of index.valves
  many = let size = stands.fits.laid.size in let all = stands.wired.many in omega (arith, size, all)

  front_below : (check : Option ℕ) → set.check ≡ check → (x : ℕ)
      → Contains (map (valve_with index.ids index.numbers) (option_to_list check)) x → x < size_of index.valves
  front_below None is x m = absurd (in_none x m)
  front_below (Some id) is x m = elim (in_cases (valve_with index.ids index.numbers id) x [] m) [
    | inl same ↦ (let low = early id is in omega (arith, low, same, many))
    | inr gone ↦ absurd (in_none x gone)
  ]

  pub comes : (name : List (List ℕ)) → set.body ≡ body.Alias name true → IsLedTo before ref.zone name set.rtype
      → (feeders : List ℕ) × ComesToLead after index.ids index.numbers seats index.valves ref feeders
  comes name is led =
      let g = led_group before checks reports index stands ref.zone name set.rtype led in
      let still = group_now before after stands.are_zones are_after delta.removed delta.added moves seats by_went by_came checks.list
      index.numbers stands.net stands.own ids index.valves ref.zone name set.rtype g.members g.valve g.are g.is in
      let front = map (valve_with index.ids index.numbers) (option_to_list set.check) in
      let low = rows_there before checks reports index stands g.valve g.is.within in (
        feeders_with index.ids index.numbers set.check g.valve,
        record {
          set = set;
          names = names;
          on = ap evaluates is;
          bare = bare;
          none = none;
          alone = alone;
          its_check = its_check set.check refl;
          group = g.valve;
          its_target = record {
            name = name;
            rtype = set.rtype;
            target = ap (target_in set.rtype) is;
            members = still.members;
            are = still.are;
            seat = still.is.seat;
          };
          are = refl;
          within = all_of (λ x. x < size_of index.valves) (feeders_with index.ids index.numbers set.check g.valve)
              (λ x m. elim (Contains-append_cases front (g.valve ∷ []) x m) [
                | inl first ↦ front_below set.check refl x first
                | inr last ↦ elim (in_cases g.valve x [] last) [
                  | inl same ↦ omega (arith, low, same)
                  | inr gone ↦ absurd (in_none x gone)
                ]
              ]);
          many = many;
        },
      )

  -- its target group has a set
  some_in : (l : List Slotted) → (l ≡ [] → ⊥) → 1 ≤ length l
  some_in [] none = absurd (none refl)
  some_in (p ∷ l) none = omega arith

  no_target : (its : List RecordSet) (name : List (List ℕ)) → set.body ≡ body.Alias name true
      → group its name set.rtype ≡ [] → HasNoTarget its set
  no_target its name is none =
      subst (λ (b : Body). IsAlias b × (target_group_of its set.rtype b ≡ [])) (sym is) (tt, none)

  pub comes_first : (name : List (List ℕ)) → set.body ≡ body.Alias name true
      → (IsLedTo before ref.zone name set.rtype → ⊥)
      → ((p : Slotted) → IsHere (placed_in after ref.zone) p → name ≡ p.set.name → set.rtype ≡ p.set.rtype
      → is_watched p.set ≡ false)
      → (members : List Slotted) × ((feeders : List ℕ)
      × ComesFirst after index.ids index.numbers seats index.valves ref members feeders)
  comes_first name is no_leader off =
      let members = grouped name set.rtype (placed_in after ref.zone) in
      let on = ap evaluates is in
      let are : AreMembers after ref.zone name set.rtype members = record {
        sets = grouped_sets name set.rtype (placed_in after ref.zone);
        here = λ q m. of_filter (λ (x : Slotted). is_of_group name set.rtype x.set) (placed_in after ref.zone) q m;
      } in
      let of : (p : Slotted) → IsHere members p → (name ≡ p.set.name) × (set.rtype ≡ p.set.rtype) =
      λ p m. of_group (sets_of (placed_in after ref.zone)) name set.rtype p.set
      (subst (λ (l : List RecordSet). IsAmong l p.set) are.sets (set_in members p m)) in
      let apart : (p : Slotted) → IsHere members p → p.slot ≡ ref.slot → ⊥ =
      λ p m e.
      let same = one_named after ref p.set set are_after
      (subst (λ (n : ℕ). IsHere (placed_in after ref.zone) (record { slot = n; set = p.set })) e (are.here p m)) names in
      false≢true (sym (off p (are.here p m) (of p m).0 (of p m).1) ∙ ap is_watched same ∙ watched_on set on) in (
        members,
        (
          map (valve_with index.ids index.numbers) (option_to_list set.check),
          record {
            set = set;
            names = names;
            on = on;
            bare = bare;
            none = none;
            alone = alone;
            its_check = its_check set.check refl;
            its_target = record {
              name = name;
              rtype = set.rtype;
              target = ap (target_in set.rtype) is;
              are = are;
              some = some_in members (λ e. targets_there after checks sound ref set names
                  (no_target (sets_of (placed_in after ref.zone)) name is (sym are.sets ∙ ap (λ (l : List Slotted). sets_of l) e)));
              bare = λ p m.
                  let here = was_here before after checks reports index stands are_after slots_after delta ref come set names made allowed edits
                  ref.zone p (are.here p m) (apart p m) in
                  let plain = off p (are.here p m) (of p m).0 (of p m).1 in (
                    plain,
                    (
                      (stands.wired.its_sets ref.zone p here).plain plain,
                      bare_of name set.rtype no_leader p here (of p m).0 (of p m).1,
                    ),
                  );
            };
            are = refl;
            within = all_of (λ x. x < size_of index.valves) (map (valve_with index.ids index.numbers) (option_to_list set.check))
                (front_below set.check refl);
            many = many;
          },
        ),
      )

  -- it is none of its target group: else a walk of aliases led from it to itself
  loops : (its : List RecordSet) → IsAmong its set → IsAlias set.body → IsAmong (target_group its set) set → (n : ℕ)
      → IsWalk its (set ∷ copies set n)
  loops its here alias self zero = (here, alias)
  loops its here alias self (suc n) = (here, alias, self, loops its here alias self n)

  never_itself : (name : List (List ℕ)) → set.body ≡ body.Alias name true
      → IsAmong (group (sets_of (placed_in after ref.zone)) name set.rtype) set → ⊥
  never_itself name is self =
      let its = sets_of (placed_in after ref.zone) in
      let same = zone_sets after checks ref.zone in
      let here = set_in (placed_in after ref.zone) (record { slot = ref.slot; set = set }) names in
      let alias : IsAlias set.body = subst IsAlias (sym is) tt in
      let target : IsAmong (target_group its set) set =
      subst (λ (b : Body). IsAmong (target_group_of its set.rtype b) set) (sym is) self in
      let long = copies_long set 16 in
      sound.aliases ref.zone set (subst (λ (l : List RecordSet). IsAmong l set) (sym same) here)
      (subst (λ (l : List RecordSet). IsTooDeep l set) (sym same)
      (copies set 16, loops its here alias target 16, omega (arith, long)))

  pub comes_owned : (name : List (List ℕ)) → set.body ≡ body.Alias name true
      → (IsLedTo before ref.zone name set.rtype → ⊥)
      → ((p : Slotted) → IsHere (placed_in after ref.zone) p → name ≡ p.set.name → set.rtype ≡ p.set.rtype
      → set_seat seats p.slot ≡ seat_of seats p.slot)
      → (members : List Slotted) × ((feeders : List ℕ)
      × ComesFirstOwned after index.ids index.numbers index.seats index.valves ref members feeders)
  comes_owned name is no_leader own =
      let members = grouped name set.rtype (placed_in after ref.zone) in
      let are : AreMembers after ref.zone name set.rtype members = record {
        sets = grouped_sets name set.rtype (placed_in after ref.zone);
        here = λ q m. of_filter (λ (x : Slotted). is_of_group name set.rtype x.set) (placed_in after ref.zone) q m;
      } in
      let among : (p : Slotted) → IsHere members p → IsAmong (group (sets_of (placed_in after ref.zone)) name set.rtype) p.set =
      λ p m. subst (λ (l : List RecordSet). IsAmong l p.set) are.sets (set_in members p m) in
      let of : (p : Slotted) → IsHere members p → (name ≡ p.set.name) × (set.rtype ≡ p.set.rtype) =
      λ p m. of_group (sets_of (placed_in after ref.zone)) name set.rtype p.set (among p m) in
      let apart : (p : Slotted) → IsHere members p → p.slot ≡ ref.slot → ⊥ =
      λ p m e.
      let same = one_named after ref p.set set are_after
      (subst (λ (n : ℕ). IsHere (placed_in after ref.zone) (record { slot = n; set = p.set })) e (are.here p m)) names in
      never_itself name is (subst (IsAmong (group (sets_of (placed_in after ref.zone)) name set.rtype)) same (among p m)) in (
        members,
        (
          map (valve_with index.ids index.numbers) (option_to_list set.check),
          record {
            set = set;
            names = names;
            on = ap evaluates is;
            bare = bare;
            none = none;
            alone = alone;
            its_check = its_check set.check refl;
            its_target = record {
              name = name;
              rtype = set.rtype;
              target = ap (target_in set.rtype) is;
              are = are;
              some = some_in members (λ e. targets_there after checks sound ref set names
                  (no_target (sets_of (placed_in after ref.zone)) name is (sym are.sets ∙ ap (λ (l : List Slotted). sets_of l) e)));
              own = λ p m.
                  let here = was_here before after checks reports index stands are_after slots_after delta ref come set names made allowed edits
                  ref.zone p (are.here p m) (apart p m) in (
                    apart p m,
                    (
                      own p (are.here p m) (of p m).0 (of p m).1,
                      bare_of name set.rtype no_leader p here (of p m).0 (of p m).1,
                    ),
                  );
            };
            are = refl;
            within = all_of (λ x. x < size_of index.valves) (map (valve_with index.ids index.numbers) (option_to_list set.check))
                (front_below set.check refl);
            many = many;
          },
        ),
      )

pub can_come : AliasesCanCome
can_come before after checks reports index made delta ref set name stands are_after slots_after sound allowed edits come names is none_leads led =
    comes before after checks reports index stands are_after slots_after sound delta ref come set names made allowed edits none_leads name is led

pub can_come_first : FirstCanCome
can_come_first before after checks reports index made delta ref set name stands are_after slots_after sound allowed edits come names is none_leads no_leader off =
    comes_first before after checks reports index stands are_after slots_after sound delta ref come set names made allowed edits none_leads name is no_leader off

pub can_come_owned : FirstOwnedCanCome
can_come_owned before after checks reports index made delta ref set name stands are_after slots_after sound allowed edits come names is none_leads no_leader own =
    comes_owned before after checks reports index stands are_after slots_after sound delta ref come set names made allowed edits none_leads name is no_leader own
