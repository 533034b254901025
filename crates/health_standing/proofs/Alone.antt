-- Sets that a check alone decides: each seat that tells no valve of the set's own tells that of the check.
use Rattle.std.proofs.Common.{◌≡◌, ◌≢◌, ◌<◌, ℕ, suc, Bool, true, false, List, length, arith, refl, ap, sym, ◌∙◌, inl, inr, Option, None, Some}
use Rattle.std.specs.Prelude.{◌&&◌, ◌||◌, ◌⊎◌, is_some}
use Rattle.std.proofs.lemmas.Bool.{false≢true}
use Rattle.check_model.specs.Checks.{Checks}
use Rattle.health_model.specs.Healthy.{by_check, by_target, set_value}
use Rattle.health_model.specs.Sound.{IsSound}
use Rattle.health_planning.proofs.Built.{checks_there}
use Rattle.health_planning.proofs.Numbers.{ids_valves, valve_early}
use Rattle.health_planning.proofs.Told.{only_alone, own_none}
use Rattle.health_planning.specs.Building.{TellsCheck}
use Rattle.health_planning.specs.Telling.{evaluates}
use Rattle.health_planning.specs.Wired.{HaveValves, IsAlone, IsSeated, IsSetValve, check_seat, ids_of, is_watched, only_check, own_part, seat_of, set_seat, valve_with, watched_of}
use Rattle.health_planning.specs.Zones.{Zone, placed_in}
use Rattle.health_planning.specs.declared.seats.Seat.{Seat}
use Rattle.health_valves.specs.Valves.{Net}
use Rattle.rdata_layout.specs.declared.types.RType.{RType}
use Rattle.record_set.specs.declared.sets.Body.{Body}
use Rattle.record_set.specs.declared.sets.Body.TheVariants as body
use Rattle.record_set.specs.declared.sets.RecordSet.{RecordSet}
use Rattle.zone_model.specs.Slotted.{IsHere, Slotted}

some_same : {X : Type 0} {x y : X} → Some x ≡ Some y → x ≡ y
some_same e = cc

-- the valve of a check that a set names is one of the first 200
pub early_in : (zones : List Zone) (checks : Checks) (numbers : List ℕ)
    → HaveValves (length checks.list) numbers → IsSound (watched_of zones checks)
    → (zone : ℕ) (p : Slotted) (id : ℕ) → IsHere (placed_in zones zone) p → p.set.check ≡ Some id
    → valve_with (ids_of checks.list) numbers id < 200
early_in zones checks numbers valves sound zone p id here is =
    let k = checks_there zones checks sound (record { zone = zone; slot = p.slot }) p.set id here is in
    valve_early (ids_of checks.list) numbers (ids_valves checks.list numbers valves) k.0 id k.1

-- a set that a check alone decides is watched
pub alone_watched : (set : RecordSet) (id : ℕ) → IsAlone set id → is_watched set ≡ true
alone_watched set id alone = ap (λ (c : Option ℕ). is_some c || evaluates set.body) alone.1

-- and it is as healthy as the check
pub alone_decides : (check : ℕ → Bool) (healthy_group : List (List ℕ) → RType → Bool)
    (set : RecordSet) (id : ℕ) → IsAlone set id → set_value check healthy_group set ≡ check id
alone_decides check healthy_group set id alone = go set.check set.body alone.1 alone.0
  where
    right : (b : Bool) → b && true ≡ b
    right true = refl
    right false = refl

    go : (named : Option ℕ) (its : Body) → named ≡ Some id → evaluates its ≡ false
        → by_check check named && by_target healthy_group set.rtype its ≡ check id
    go None its is off = let no : ⊥ = cc in absurd no
    go (Some other) (body.Values ttl values) is off = right (check other) ∙ ap check (some_same is)
    go (Some other) (body.Alias name true) is off = absurd (false≢true (sym off))
    go (Some other) (body.Alias name false) is off = right (check other) ∙ ap check (some_same is)

-- what is known of a set with a valve of its own
pub record HasOwn (zones : List Zone) (ids numbers : List ℕ) (seats : List Seat) (net : Net) (own : ℕ → ℕ)
    (zone : ℕ) (p : Slotted) : Type 0 where
  pub valve : ℕ
  pub seat : seat_of seats p.slot ≡ suc valve
  pub told : check_seat seats p.slot ≡ only_check p.set
  pub watched : is_watched p.set ≡ true
  pub is : IsSetValve zones ids numbers seats net own zone p.set valve

-- and of one without
pub record HasTold (ids numbers : List ℕ) (seats : List Seat) (p : Slotted) : Type 0 where
  pub none : seat_of seats p.slot ≡ 0
  pub off : evaluates p.set.body ≡ false
  pub tells : TellsCheck ids numbers seats p

module _ (zones : List Zone) (ids numbers : List ℕ) (seats : List Seat) (net : Net) (own : ℕ → ℕ)
    (early : (zone : ℕ) (p : Slotted) (id : ℕ) → IsHere (placed_in zones zone) p → p.set.check ≡ Some id
    → valve_with ids numbers id < 200)
    (zone : ℕ) (p : Slotted) (here : IsHere (placed_in zones zone) p) where
  -- the seat that tells the valve of a check tells none of the set's own, but one
  pub seat_alone : (id : ℕ) → IsAlone p.set id → set_seat seats p.slot ≡ suc (valve_with ids numbers id)
      → (seat_of seats p.slot ≡ 0) × (set_seat seats p.slot ≢ 0)
  seat_alone id alone is =
      let front = early zone p id here alone.1 in
      (own_none (set_seat seats p.slot) (omega arith), λ none. omega arith)

  plain_off : is_watched p.set ≡ false → evaluates p.set.body ≡ false
  plain_off off = by p.set.check (evaluates p.set.body) off
    where
      by : (check : Option ℕ) (b : Bool) → is_some check || b ≡ false → b ≡ false
      by None b e = e
      by (Some id) b e = absurd (false≢true (sym e))

  pub own_or_told : IsSeated zones ids numbers seats net own zone p → HasOwn zones ids numbers seats net own zone p ⊎ HasTold ids numbers seats p
  own_or_told s = by (is_watched p.set) refl
    where
      by : (b : Bool) → is_watched p.set ≡ b → HasOwn zones ids numbers seats net own zone p ⊎ HasTold ids numbers seats p
      by false off =
          let bare = s.plain off in
          inr (record {
            none = ap own_part bare;
            off = plain_off off;
            tells = record {
              plain = s.plain;
              alone = λ id alone. absurd (false≢true (sym off ∙ alone_watched p.set id alone));
            };
          })
      by true on = elim (s.valved on) [
        | inl its ↦ inr (record {
          none = (seat_alone its.0 its.1.0 its.1.1).0;
          off = its.1.0.0;
          tells = record {
            plain = s.plain;
            alone = λ id alone.
                let same : its.0 ≡ id = some_same (sym its.1.0.1 ∙ alone.1) in (
                  s.told on ∙ only_alone p.set id alone,
                  its.1.1 ∙ ap (λ (n : ℕ). suc (valve_with ids numbers n)) same,
                );
          };
        })
        | inr g ↦ inl (record { valve = g.0; seat = g.1; told = s.told on; watched = on; is = g.2 })
      ]

pub of_own : (zones : List Zone) (ids numbers : List ℕ) (seats : List Seat) (net : Net) (own : ℕ → ℕ)
    (zone : ℕ) (p : Slotted) → HasOwn zones ids numbers seats net own zone p
    → IsSeated zones ids numbers seats net own zone p
of_own zones ids numbers seats net own zone p g = record {
  plain = λ off. absurd (false≢true (sym off ∙ g.watched));
  told = λ on. g.told;
  valved = λ on. inr (g.valve, g.seat, g.is);
}

-- a set that names a check, and is no evaluated alias
named_check : (set : RecordSet) → evaluates set.body ≡ false → is_watched set ≡ true
    → (id : ℕ) × (set.check ≡ Some id)
named_check set off on = by set.check refl (sym (ap (λ (b : Bool). is_some set.check || b) off) ∙ on)
  where
    by : (check : Option ℕ) → set.check ≡ check → is_some set.check || false ≡ true
        → (id : ℕ) × (set.check ≡ Some id)
    by None is some = absurd (false≢true (sym (ap (λ (o : Option ℕ). is_some o || false) is) ∙ some))
    by (Some id) is some = (id, is)

pub of_told : (zones : List Zone) (ids numbers : List ℕ) (seats : List Seat) (net : Net) (own : ℕ → ℕ)
    (zone : ℕ) (p : Slotted) → evaluates p.set.body ≡ false → TellsCheck ids numbers seats p
    → IsSeated zones ids numbers seats net own zone p
of_told zones ids numbers seats net own zone p off tells = record {
  plain = tells.plain;
  told = λ on.
      let id = named_check p.set off on in
      (tells.alone id.0 (off, id.1)).0 ∙ sym (only_alone p.set id.0 (off, id.1));
  valved = λ on.
      let id = named_check p.set off on in
      inl (id.0, ((off, id.1), (tells.alone id.0 (off, id.1)).1));
}
