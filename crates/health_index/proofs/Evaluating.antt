-- What working out one node leaves.
use Rattle.std.proofs.Common.{◌≡◌, ◌≢◌, ◌<◌, ◌∙◌, ℕ, Bool, true, false, arith, refl, ap, sym, inl, inr}
use Rattle.std.proofs.lemmas.Bool.{false≢true}
use Rattle.std.specs.Prelude.{◌↔◌, Contains, IsTrue, List}
use mathlib.Core.Path.{subst}
use Rattle.check_model.specs.Checks.{Checks}
use Rattle.health_valves.specs.Valves.{Feeds, ValvesStandFor, MeetsEquation, size_of, value_of}
use Rattle.health_valves.specs.Pass.{IsIdle, FlipsOnly}
use Rattle.health_valves.specs.declared.valves.Valves.{Valves}
use Rattle.health_model.specs.Nodes.{CheckNode, GroupNode, Node, SetNode, feeders}
use Rattle.health_model.specs.Statuses.{Report}
use Rattle.health_planning.specs.Groups.{ViewsAgree}
use Rattle.health_planning.specs.Zones.{Zone}
use Rattle.zone_model.specs.Slotted.{Slotted}
use Rattle.health_planning.specs.Wired.{IsSpare, ids_of, watched_of, IsVacant}
use Rattle.health_planning.proofs.Ending.{feeder, condition_seated}
use Rattle.health_index.specs.Index.{Index, IsLaidFor, IsNumberBehind, IsNumberOf, IsOwnNumber, healthy_in}
use Rattle.health_index.specs.Values.{MeetsIn, WorksOut}
use Rattle.health_index.proofs.Alone.{early_in}
use Rattle.health_index.proofs.Numbering.{decided_by, of_valve, one_node, valve_for}
use Rattle.health_index.proofs.Truth.{alone_meets, valve_or_meets, of_meet, to_meet, valued}

-- no valve waits still
pub still_idle : (before after : Valves) → FlipsOnly before after → IsIdle before → IsIdle after
still_idle before after turns idle =
    subst IsIdle (sym turns) (record { empty = idle.empty; unmarked = idle.unmarked })

module _ (views : ViewsAgree) (zones : List Zone) (checks : Checks) (reports : List Report)
    (index : Index) (laid : IsLaidFor zones checks reports index) (valves : Valves)
    (fits : ValvesStandFor laid.net laid.own valves) (idle : IsIdle valves)
    (spare : (valve : ℕ) → IsSpare index.numbers valve → value_of valves valve ≡ true)
    (vacant : (valve : ℕ) → valve < laid.net.size → IsVacant laid.net valve → value_of valves valve ≡ true) where
  abbrev after : Index
  after = record index { valves = valves }

  still_laid : IsLaidFor zones checks reports after
  still_laid = record {
    are_zones = laid.are_zones;
    slots = laid.slots;
    are_checks = laid.are_checks;
    sound = laid.sound;
    are_reports = laid.are_reports;
    ids = laid.ids;
    numbers = laid.numbers;
    seen = laid.seen;
    as_many = laid.as_many;
    kin = laid.kin;
    listed = laid.listed;
    net = laid.net;
    own = laid.own;
    wired = laid.wired;
    told = laid.told;
    fits = fits;
    ends = laid.ends;
    spare = spare;
    vacant = vacant;
    idle = idle;
  }

  -- the numbers of nodes stay
  numbers_stay : (number : ℕ) (m : Node)
      → IsNumberOf zones index number m ↔ IsNumberOf zones after number m
  numbers_stay number m =
      let size : size_of valves ≡ size_of index.valves = fits.laid.size ∙ sym laid.fits.laid.size in (
        λ is. elim is [
          | inl own ↦ inl (own_stays m own)
          | inr behind ↦ inr (behind_stays m size behind)
        ],
        λ is. elim is [
          | inl own ↦ inl (own_back m own)
          | inr behind ↦ inr (behind_back m size behind)
        ],
      )
    where
      own_stays : (m : Node) → IsOwnNumber zones index number m → IsOwnNumber zones after number m
      own_stays (CheckNode id) own = own
      own_stays (SetNode zone set) own = own
      own_stays (GroupNode zone name rtype) own = own

      own_back : (m : Node) → IsOwnNumber zones after number m → IsOwnNumber zones index number m
      own_back (CheckNode id) own = own
      own_back (SetNode zone set) own = own
      own_back (GroupNode zone name rtype) own = own

      behind_stays : (m : Node) → size_of valves ≡ size_of index.valves → IsNumberBehind zones index number m
          → IsNumberBehind zones after number m
      behind_stays (CheckNode id) size none = none
      behind_stays (SetNode zone set) size (slot, (here, (tells, is))) = (slot, (here, (tells, omega arith)))
      behind_stays (GroupNode zone name rtype) size none = none

      behind_back : (m : Node) → size_of valves ≡ size_of index.valves → IsNumberBehind zones after number m
          → IsNumberBehind zones index number m
      behind_back (CheckNode id) size none = none
      behind_back (SetNode zone set) size (slot, (here, (tells, is))) = (slot, (here, (tells, omega arith)))
      behind_back (GroupNode zone name rtype) size none = none

  pub works_out : (number : ℕ) (n : Node) (changed : Bool) → IsOwnNumber zones index number n
      → MeetsEquation laid.net laid.own (value_of valves) number
      → ((k : ℕ) → k ≢ number → (Feeds laid.net number k → ⊥)
      → MeetsEquation laid.net laid.own (value_of index.valves) k
      → MeetsEquation laid.net laid.own (value_of valves) k)
      → (IsTrue changed ↔ (value_of valves number ≢ value_of index.valves number))
      → WorksOut zones checks reports n index after changed
  unfolding still_laid
  works_out number n changed is meets spares turned =
      let agrees = views zones (healthy_in index) laid.are_zones in
      let agrees_after = views zones (healthy_in after) laid.are_zones in
      let its = valve_for zones checks reports index laid number n is in
      let was = valued zones checks reports index laid agrees number n its in
      let now = valued zones checks reports after still_laid agrees_after number n its in
      record {
        its = to_meet zones checks reports after still_laid agrees_after number n its meets;
        others = λ m there apart fed_not met.
            elim (valve_or_meets zones checks reports after still_laid agrees_after m there) [
              | inl has ↦
                  let k = has.0 in
                  let other : k ≢ number = λ same.
                  apart (one_node zones checks reports index laid k m n (of_valve zones checks reports index laid k m has.1)
                  (subst (λ (j : ℕ). IsOwnNumber zones index j n) (sym same) is)) in
                  let alone : Feeds laid.net number k → ⊥ = λ feeds.
                  let f = feeder zones checks index.numbers index.seats laid.net laid.own laid.numbers laid.are_zones laid.are_checks laid.sound
                  (λ p w i c at numbered. ap (λ r. r.feeders) (laid.wired.its_checks p w i c at numbered).condition)
                  (condition_seated zones (ids_of checks.list) index.numbers index.seats laid.net laid.own laid.wired.its_sets
                  (early_in zones checks index.numbers laid.numbers laid.sound)) k number m has.1 feeds in
                  let same = one_node zones checks reports index laid number f.node n (of_valve zones checks reports index laid number f.node f.its) is in
                  fed_not (subst (Contains (feeders (watched_of zones checks) m)) same f.feeds) in
                  to_meet zones checks reports after still_laid agrees_after k m has.1
                  (spares k other alone (of_meet zones checks reports index laid agrees k m has.1 met))
              | inr free ↦ free
            ];
        numbers = numbers_stay;
        turned = (
          λ t same. turned.0 t (sym now ∙ same ∙ was),
          λ differ. turned.1 (λ same. differ (now ∙ same ∙ sym was)),
        );
        laid = still_laid;
      }

  -- where the index is one that is known
  pub works_out_of : (now : Index) → index ≡ now → (number : ℕ) (n : Node) (changed : Bool)
      → IsOwnNumber zones index number n
      → MeetsEquation laid.net laid.own (value_of valves) number
      → ((k : ℕ) → k ≢ number → (Feeds laid.net number k → ⊥)
      → MeetsEquation laid.net laid.own (value_of index.valves) k
      → MeetsEquation laid.net laid.own (value_of valves) k)
      → (IsTrue changed ↔ (value_of valves number ≢ value_of index.valves number))
      → WorksOut zones checks reports n now after changed
  works_out_of now same number n changed is meets spares turned =
      subst (λ (i : Index). WorksOut zones checks reports n i after changed) same
      (works_out number n changed is meets spares turned)

-- A set that a check alone decides meets its equation at each moment, and nothing changes.
pub works_alone : ViewsAgree → (zones : List Zone) (checks : Checks) (reports : List Report) (index now : Index)
    → index ≡ now → (laid : IsLaidFor zones checks reports index) (number : ℕ) (n : Node)
    → IsNumberBehind zones index number n → WorksOut zones checks reports n now index false
works_alone views zones checks reports index now same laid number n is =
    subst (λ (i : Index). WorksOut zones checks reports n i index false) same (record {
      its = its n is;
      others = λ m there apart fed_not met. met;
      numbers = λ k m. (λ h. h, λ h. h);
      turned = (λ t e. absurd (false≢true t), λ differ. absurd (differ refl));
      laid = laid;
    })
  where
    its : (n : Node) → IsNumberBehind zones index number n → MeetsIn zones checks reports index n
    its (CheckNode id) none = absurd none
    its (SetNode zone set) (slot, (here, (tells, at))) =
        let p : Slotted = record { slot = slot; set = set } in
        let agrees = views zones (healthy_in index) laid.are_zones in
        elim ((laid.wired.its_sets zone p here).valved (decided_by zones checks reports index laid number zone set (inr (slot, (here, (tells, at)))))) [
          | inl alone ↦ alone_meets zones checks reports index laid agrees zone p here alone.0 alone.1.0 alone.1.1
          | inr g ↦ (let none = tells.0 in let some = g.1 in absurd (omega arith))
        ]
    its (GroupNode zone name rtype) none = absurd none
