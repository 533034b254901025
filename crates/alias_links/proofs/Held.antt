-- The set that a reference names, by its place in a zone.
use Rattle.std.proofs.Common.{◌≡◌, ◌≢◌, ℕ, Bool, true, false, List, [], ◌∷◌, Option, None, Some, ap, ◌∙◌}
use Rattle.std.proofs.Common.{sym, refl, subst, inl, inr, cond, arith}
use Rattle.std.specs.Prelude.{◌==◌, slice_get, is_some}
use Rattle.std.specs.List.{AllByRecursion}
use Rattle.std.specs.Option.{option_map, IfSome}
use Rattle.std.proofs.lemmas.Option.{slice_get-map}
use Rattle.rdata_layout.specs.declared.types.RType.{RType}
use Rattle.record_set.specs.Reasons.{IsAlias}
use Rattle.record_set.specs.declared.sets.Body.{Body}
use Rattle.record_set.specs.declared.sets.Body.TheVariants as body
use Rattle.record_set.specs.declared.sets.RecordSet.{RecordSet}
use Rattle.record_set.specs.declared.sets.SetKey.{SetKey}
use Rattle.record_set.specs.Sets.{key_of}
use Rattle.zone_table.specs.Telling.{is_alias, target_in, target_of}
use Rattle.zone_table.proofs.Members.{in_all}
use Rattle.zone_table.specs.Zones.{AreZones, StandsAlone, Zone, placed_in}
use Rattle.zone_table.specs.SetRefRecord.{SetRef}
use Rattle.zone_table.proofs.Among.{among_at}
use Rattle.zone_table.specs.Slotted.{HaveOwnSlots, IsSlotAt, Slotted, sets_of}
use Rattle.zone_table.specs.Sets.{IsAmong, IsRising, group, target_group, target_group_of}
use Rattle.zone_table.specs.Looking.{RefersTo, Targets}
use Rattle.alias_links.specs.After.{sets_in}

-- in slots of their own there is one set in a slot
one_slot : (placed : List Slotted) → HaveOwnSlots placed → (p q : Slotted) → IsAmong placed p
    → IsAmong placed q → p.slot ≡ q.slot → p ≡ q
one_slot [] own p q first second same = absurd first
one_slot (x ∷ placed) own p q (inl d) (inl e) same = sym d ∙ e
one_slot (x ∷ placed) own p q (inl d) (inr second) same =
    absurd (in_all (λ (y : Slotted). x.slot ≢ y.slot) placed q own.0 second
    (ap (λ (y : Slotted). y.slot) d ∙ same))
one_slot (x ∷ placed) own p q (inr first) (inl e) same =
    absurd (in_all (λ (y : Slotted). x.slot ≢ y.slot) placed p own.0 first
    (ap (λ (y : Slotted). y.slot) e ∙ sym same))
one_slot (x ∷ placed) own p q (inr first) (inr second) same =
    one_slot placed own.1 p q first second same

-- the sets of a zone are in slots of their own and in zone order, whichever number it has
record AreKept (placed : List Slotted) : Type 0 where
  own : HaveOwnSlots placed
  rising : IsRising (sets_of placed)

kept_in : (zones : List Zone) → AllByRecursion StandsAlone zones → (id : ℕ)
    → AreKept (placed_in zones id)
kept_in [] each id = record { own = tt; rising = tt }
kept_in (zone ∷ zones) each id = by (kept_in zones each.1 id) (zone.id == id)
  where
    by : AreKept (placed_in zones id) → (b : Bool)
        → AreKept (cond b zone.placed (placed_in zones id))
    by rest true = record { own = each.0.sets.own; rising = each.0.sets.rising }
    by rest false = rest

pub sets_rise : (zones : List Zone) → AreZones zones → (id : ℕ) → IsRising (sets_in zones id)
sets_rise zones are id = (kept_in zones are.each id).rising

-- a reference names one set
pub one_named : (zones : List Zone) (ref : SetRef) (set other : RecordSet) → AreZones zones
    → RefersTo zones ref set → RefersTo zones ref other → set ≡ other
one_named zones ref set other are first second =
    ap (λ (p : Slotted). p.set)
    (one_slot (placed_in zones ref.zone) (kept_in zones are.each ref.zone).own
    (record { slot = ref.slot; set = set })
    (record { slot = ref.slot; set = other }) first second refl)

module _ (zones : List Zone) (ref : SetRef) (id i : ℕ) (same : ref.zone ≡ id)
    (at : IsSlotAt (placed_in zones id) i ref.slot) where
  pub names : RefersTo zones ref at.0
  names =
      subst (λ (z : ℕ). IsAmong (placed_in zones z) (record { slot = ref.slot; set = at.0 }))
      (sym same)
      (among_at (placed_in zones id) i (record { slot = ref.slot; set = at.0 }) at.1)

  pub here : slice_get (sets_in zones id) i ≡ Some at.0
  here =
      slice_get-map (λ (q : Slotted). q.set) (placed_in zones id) i
      ∙ ap (option_map (λ (q : Slotted). q.set)) at.1

  -- what was loaded is the set at the place
  pub loaded : AreZones zones → (held : Option RecordSet) (set : RecordSet) → RefersTo zones ref set
      → held ≡ Some set → held ≡ slice_get (sets_in zones id) i
  loaded are held set named e = e ∙ (ap Some (one_named zones ref set at.0 are named names) ∙ sym here)

  -- the target that is told is that of the set at the place
  pub told : AreZones zones → (found : Option (List (List ℕ) × RType)) → Targets zones ref found
      → (set : RecordSet) → slice_get (sets_in zones id) i ≡ Some set → found ≡ target_of set
  told are None none set e =
      let one : at.0 ≡ set = grind (arith, here, e) in
      sym (subst (λ (s : RecordSet). target_of s ≡ None) one (none at.0 names))
  told are (Some target) (named, is, e) set f =
      let one : at.0 ≡ set = grind (arith, here, f) in
      sym (subst (λ (s : RecordSet). target_of s ≡ Some target)
      (one_named zones ref named at.0 are is names ∙ one) e)

-- ---- targets

pub no_target : (set : RecordSet) → target_of set ≡ None → is_alias set.body ≡ false
no_target set = by set.body
  where
    by : (what : Body) → target_in set.rtype what ≡ None → is_alias what ≡ false
    by (body.Values ttl values) e = refl
    by (body.Alias target evaluate) e = absurd (grind (arith, e))

pub none_without : (set : RecordSet) → target_of set ≡ None → IsAlias set.body → ⊥
none_without set = by set.body
  where
    by : (what : Body) → target_in set.rtype what ≡ None → IsAlias what → ⊥
    by (body.Values ttl values) e is = is
    by (body.Alias target evaluate) e is = grind (arith, e)

module _ (sets : List RecordSet) (set : RecordSet) (target : List (List ℕ) × RType)
    (is : target_of set ≡ Some target) where
  pub is_target : target_group sets set ≡ group sets target.0 target.1
  is_target = by set.body is
    where
      by : (what : Body) → target_in set.rtype what ≡ Some target
          → target_group_of sets set.rtype what ≡ group sets target.0 target.1
      by (body.Values ttl values) e = absurd (grind (arith, e))
      by (body.Alias name evaluate) e =
          let one : (name, set.rtype) ≡ target = grind (arith, e) in
          ap (λ (t : List (List ℕ) × RType). group sets t.0 t.1) one

  pub has_target : IsAlias set.body
  has_target = by set.body is
    where
      by : (what : Body) → target_in set.rtype what ≡ Some target → IsAlias what
      by (body.Values ttl values) e = absurd (grind (arith, e))
      by (body.Alias name evaluate) e = tt

-- what is said of what is held
pub held_so : (P : RecordSet → Type 0) (held : Option RecordSet) (set : RecordSet)
    → held ≡ Some set → IfSome held P → P set
held_so P held set e said = subst (λ (h : Option RecordSet). IfSome h P) e said

pub not_some : {X : Type 0} (o : Option X) → is_some o ≡ false → o ≡ None
not_some None e = refl
not_some (Some x) e = absurd (grind (arith, e))

-- the key of the set that is held
pub key_held : (now : Option RecordSet) (key : SetKey) → IfSome now (λ set. key ≡ key_of set)
    → (set : RecordSet) → now ≡ Some set → key ≡ key_of set
key_held now key is set held = subst (λ (o : Option RecordSet). IfSome o (λ s. key ≡ key_of s)) held is
