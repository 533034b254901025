-- Valves of sets and groups, which stand behind those of checks, where their conditions stay.
use Rattle.std.proofs.Common.{◌≡◌, ◌≤◌, ◌<◌, ℕ, suc, List, ◌∷◌, ◌++◌, map, arith, refl, ap, sym, ◌∙◌, inl, inr, Some, None, Option}
use Rattle.std.specs.Prelude.{◌⊎◌, slice_get}
use Rattle.std.specs.Option.{option_to_list}
use Rattle.check_model.specs.declared.checks.Check.{Check}
use Rattle.health_model.specs.Nodes.{CheckNode, GroupNode, Node, SetNode}
use Rattle.health_planning.specs.Wired.{IsGroupValve, IsSeated, IsTarget, IsValveFor, ids_of, set_condition, valve_with, IsVacant}
use Rattle.health_planning.specs.Zones.{Zone, placed_in}
use Rattle.health_planning.specs.declared.seats.Seat.{Seat}
use Rattle.health_valves.specs.Valves.{Net}
use Rattle.rdata_layout.specs.declared.types.RType.{RType}
use Rattle.record_set.specs.declared.sets.Body.{Body}
use Rattle.record_set.specs.declared.sets.Body.TheVariants as body
use Rattle.zone_model.specs.Slotted.{IsHere, Slotted}

both : {i j : ℕ} {xs ys : List ℕ} → i ≡ j → xs ≡ ys → i ∷ xs ≡ j ∷ ys
both e f = cc

module _ (zones : List Zone) (list list_now : List (ℕ × Check)) (numbers numbers_now : List ℕ)
    (seats : List Seat) (net now : Net) (own own_now : ℕ → ℕ)
    (size : now.size ≡ net.size)
    (condition : (n : ℕ) → 200 ≤ n → now.condition n ≡ net.condition n)
    (counted : (n : ℕ) → 200 ≤ n → own_now n ≡ own n)
    (seated : (zone : ℕ) (p : Slotted) → IsHere (placed_in zones zone) p
    → IsSeated zones (ids_of list) numbers seats net own zone p)
    (placed : (zone : ℕ) (p : Slotted) (id : ℕ) → IsHere (placed_in zones zone) p → p.set.check ≡ Some id
    → valve_with (ids_of list_now) numbers_now id ≡ valve_with (ids_of list) numbers id) where
  group_now : (members : List Slotted) (valve : ℕ) → IsGroupValve seats net own members valve
      → IsGroupValve seats now own_now members valve
  group_now members valve w = record {
    seat = w.seat;
    each = w.each;
    behind = w.behind;
    within = let b = w.within in omega arith;
    condition = condition valve w.behind ∙ w.condition;
    its_own = counted valve w.behind ∙ w.its_own;
  }

  target_now : (zone : ℕ) (rtype : RType) (its : Body) (target : List ℕ)
      → IsTarget zones seats net own zone rtype its target
      → IsTarget zones seats now own_now zone rtype its target
  target_now zone rtype (body.Values ttl values) target is = is
  target_now zone rtype (body.Alias name evaluate) target (inl off) = inl off
  target_now zone rtype (body.Alias name evaluate) target (inr (on, (valve, is, (members, are, w)))) =
      inr (on, (valve, is, (members, are, group_now members valve w)))

  -- the valve of its check
  named_now : (zone : ℕ) (p : Slotted) → IsHere (placed_in zones zone) p → (check : Option ℕ)
      → p.set.check ≡ check
      → map (valve_with (ids_of list) numbers) (option_to_list check)
      ≡ map (valve_with (ids_of list_now) numbers_now) (option_to_list check)
  named_now zone p here None is = refl
  named_now zone p here (Some id) is = both (sym (placed zone p id here is)) refl

  pub seated_now : (zone : ℕ) (p : Slotted) → IsHere (placed_in zones zone) p
      → IsSeated zones (ids_of list_now) numbers_now seats now own_now zone p
  seated_now zone p here =
      let w = seated zone p here in
      record {
        plain = w.plain;
        told = w.told;
        valved = λ on. elim (w.valved on) [
          | inl alone ↦ inl (
            alone.0,
            (
              alone.1.0,
              alone.1.1 ∙ ap suc (sym (placed zone p alone.0 here alone.1.0.1)),
            ),
          )
          | inr g ↦ inr (
            g.0,
            g.1,
            record {
              behind = g.2.behind;
              within = let b = g.2.within in omega arith;
              target = g.2.target;
              its_target = target_now zone p.set.rtype p.set.body g.2.target g.2.its_target;
              condition = condition g.0 g.2.behind ∙ g.2.condition
                  ∙ ap (λ (l : List ℕ). set_condition (l ++ g.2.target)) (named_now zone p here p.set.check refl);
              its_own = counted g.0 g.2.behind ∙ g.2.its_own;
            },
          )
        ];
      }

  -- each valve behind those of checks is vacant or that of a node still
  pub node_now : ((place valve : ℕ) → slice_get numbers place ≡ Some valve → valve < 200)
      → ((valve : ℕ) → 200 ≤ valve → valve < net.size → IsVacant net valve
      ⊎ ((node : Node) × IsValveFor zones list numbers seats net own valve node))
      → (valve : ℕ) → 200 ≤ valve → valve < now.size → IsVacant now valve
      ⊎ ((node : Node) × IsValveFor zones list_now numbers_now seats now own_now valve node)
  node_now early nodes valve behind within = elim (nodes valve behind (omega arith)) [
    | inl vacant ↦ inl (vacant.0, condition valve behind ∙ vacant.1)
    | inr n ↦ inr (by n.0 n.1)
  ]
    where
      by : (node : Node) → IsValveFor zones list numbers seats net own valve node
          → (node : Node) × IsValveFor zones list_now numbers_now seats now own_now valve node
      by (CheckNode id) (place, (check, (at, numbered))) =
          let front = early place valve numbered in
          absurd (omega arith)
      by (SetNode zone set) its = (SetNode zone set, its)
      by (GroupNode zone name rtype) (members, (are, w)) =
          (GroupNode zone name rtype, (members, (are, group_now members valve w)))
