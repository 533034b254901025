-- What is known of names, through an edit.
use Rattle.std.proofs.Common.{◌≡◌, ◌≢◌, ℕ, List, ◌∷◌, ap, ◌∙◌, sym, refl, length, Option, None, Some, subst, arith, inl, inr}
use Rattle.std.specs.Prelude.{◌⊎◌, ◌↔◌}
use Rattle.zone_list.specs.Suffix.{EndsWith}
use Rattle.zone_list.specs.Sets.{IsAmong}
use Rattle.zone_list.specs.declared.apexes.NamedZone.{NamedZone}
use Rattle.zone_list.specs.Apexes.{LongestName}
use Rattle.zone_list.specs.Zones.{AreListed, IsZoneId, Zone}
use Rattle.zone_table.specs.declared.edits.ZoneEdit.{ZoneEdit}
use Rattle.zone_table.specs.declared.edits.ZoneEdit.TheVariants as edit
use Rattle.zone_table.specs.declared.refs.Delta.{Delta}
use Rattle.zone_table.specs.Apexes.{KnowsNames, Notes}
use Rattle.zone_table.specs.Edits.{Edits, IsAllowed, zone_of}
use Rattle.zone_finding.specs.Looking.{IsZoneForOrNone, IsApex}
use Rattle.zone_finding.proofs.Naming.{one_name}

-- the zone of the longest name that is known
pub held : (list : List NamedZone) (zones : List Zone) (name : List (List ℕ)) (found : Option ℕ)
    → KnowsNames (Some list) zones → LongestName list name found → IsZoneForOrNone zones name found
held list zones name None knows none = λ zone there above.
    none (record { id = zone.id; name = zone.apex })
    ((knows (record { id = zone.id; name = zone.apex })).1 (zone, there, refl, refl)) above
held list zones name (Some id) knows longest =
    let its = (knows longest.apex).0 longest.there in record {
      zone = its.0;
      there = its.1;
      its_id = its.2 ∙ longest.its_id;
      above = subst (λ (a : List (List ℕ)). EndsWith name a) (sym its.3) longest.above;
      longest = λ other there above.
          (let short =
          longest.longest (record { id = other.id; name = other.apex })
          ((knows (record { id = other.id; name = other.apex })).1 (other, there, refl, refl)) above in
          let same = ap length its.3 in
          omega (arith, short, same));
    }

pub held_by : (known : Option (List NamedZone)) (zones : List Zone) (name : List (List ℕ)) (found : Option ℕ)
    → KnowsNames known zones → known ≢ None
    → ((list : List NamedZone) → known ≡ Some list → LongestName list name found)
    → IsZoneForOrNone zones name found
held_by None zones name found knows some longest = absurd (some refl)
held_by (Some list) zones name found knows some longest =
    held list zones name found knows (longest list refl)

same_number : (a b : ℕ) → (a ≡ b) ⊎ (a ≢ b)
same_number a b = grind arith

module _ (before after : List Zone) (made : ZoneEdit) (delta : Delta)
    (edits : Edits before made after delta) where
  -- another zone has its name before and after
  others : (id : ℕ) (name : List (List ℕ)) → id ≢ zone_of made
      → IsApex before id name ↔ IsApex after id name
  others id name apart = (
    (λ x. (x.0, (edits.others x.0 (λ e. apart (sym x.2 ∙ e))).0 x.1, x.2, x.3)),
    λ x. (x.0, (edits.others x.0 (λ e. apart (sym x.2 ∙ e))).1 x.1, x.2, x.3),
  )

-- ---- through each edit

opened : (before after : List Zone) (zone : ℕ) (name : List (List ℕ)) → AreListed after
    → (IsZoneId before zone → ⊥) → IsApex after zone name
    → ((id : ℕ) (n : List (List ℕ)) → id ≢ zone → IsApex before id n ↔ IsApex after id n)
    → (old new : List NamedZone) → KnowsNames (Some old) before
    → ((other : NamedZone) → IsAmong new other ↔ IsAmong (record { id = zone; name = name } ∷ old) other)
    → KnowsNames (Some new) after
opened before after zone name listed none its others old new knows with = λ apex. (
  (λ is. elim ((with apex).0 is) [
    | inl e ↦ subst (λ (a : NamedZone). IsApex after a.id a.name) e its
    | inr was ↦
        (let x = (knows apex).0 was in
        (others apex.id apex.name (λ e. none (x.0, x.1, x.2 ∙ e))).0 x)
  ]),
  λ x. elim (same_number apex.id zone) [
    | inl e ↦
        (let same : name ≡ apex.name =
        one_name after listed zone apex.id name apex.name (sym e) its x in
        (with apex).1 (inl (ap (λ n. record { id = n; name = name }) (sym e)
        ∙ ap (λ (n : List (List ℕ)). record { id = apex.id; name = n }) same)))
    | inr apart ↦ (with apex).1 (inr ((knows apex).1 ((others apex.id apex.name apart).1 x)))
  ],
)

closed : (before after : List Zone) (zone : ℕ) → (IsZoneId after zone → ⊥)
    → ((id : ℕ) (n : List (List ℕ)) → id ≢ zone → IsApex before id n ↔ IsApex after id n)
    → (old new : List NamedZone) → KnowsNames (Some old) before
    → ((other : NamedZone) → IsAmong new other ↔ (IsAmong old other × (other.id ≢ zone)))
    → KnowsNames (Some new) after
closed before after zone none others old new knows without = λ apex. (
  (λ is. (let x = (without apex).0 is in
      (others apex.id apex.name x.1).0 ((knows apex).0 x.0))),
  λ x. (let apart : apex.id ≢ zone = λ e. none (x.0, x.1, x.2 ∙ e) in
      (without apex).1 ((knows apex).1 ((others apex.id apex.name apart).1 x), apart)),
)

changed : (before after : List Zone) (zone : ℕ) → AreListed after → IsZoneId before zone
    → ((apex : List (List ℕ)) → IsApex before zone apex → IsApex after zone apex)
    → ((id : ℕ) (n : List (List ℕ)) → id ≢ zone → IsApex before id n ↔ IsApex after id n)
    → (list : List NamedZone) → KnowsNames (Some list) before → KnowsNames (Some list) after
changed before after zone listed there stays others list knows = λ apex. (
  (λ is. forth apex ((knows apex).0 is) (same_number apex.id zone)),
  λ x. (knows apex).1 (back apex x (same_number apex.id zone)),
)
  where
    forth : (apex : NamedZone) → IsApex before apex.id apex.name → (apex.id ≡ zone) ⊎ (apex.id ≢ zone)
        → IsApex after apex.id apex.name
    forth apex x (inr apart) = (others apex.id apex.name apart).0 x
    forth apex x (inl e) =
        subst (λ n. IsApex after n apex.name) (sym e)
        (stays apex.name (subst (λ n. IsApex before n apex.name) e x))

    back : (apex : NamedZone) → IsApex after apex.id apex.name → (apex.id ≡ zone) ⊎ (apex.id ≢ zone)
        → IsApex before apex.id apex.name
    back apex x (inr apart) = (others apex.id apex.name apart).1 x
    back apex x (inl e) =
        let was : IsApex before zone there.0.apex = (there.0, there.1, there.2, refl) in
        let same : there.0.apex ≡ apex.name =
        one_name after listed zone apex.id there.0.apex apex.name (sym e)
        (stays there.0.apex was) x in
        subst (λ n. IsApex before n apex.name) (sym e)
        (subst (λ (a : List (List ℕ)). IsApex before zone a) same was)

-- what is known stays right
pub noted : (before after : List Zone) (made : ZoneEdit) (delta : Delta) → Edits before made after delta
    → IsAllowed before made → AreListed after → (old new : Option (List NamedZone))
    → KnowsNames old before → Notes old made new → KnowsNames new after
noted before after (edit.Begin zone name sets) delta edits allowed listed old None knows notes = tt
noted before after (edit.Begin zone name sets) delta edits allowed listed None (Some new) knows notes =
    absurd notes
noted before after (edit.Begin zone name sets) delta edits allowed listed (Some old) (Some new) knows notes =
    opened before after zone name listed allowed.0 edits.its.0
    (λ id n apart. others before after (edit.Begin zone name sets) delta edits id n apart)
    old new knows notes
noted before after (edit.End zone) delta edits allowed listed old None knows notes = tt
noted before after (edit.End zone) delta edits allowed listed None (Some new) knows notes =
    absurd notes
noted before after (edit.End zone) delta edits allowed listed (Some old) (Some new) knows notes =
    closed before after zone edits.its.0
    (λ id n apart. others before after (edit.End zone) delta edits id n apart)
    old new knows notes
noted before after (edit.Change zone remove add) delta edits allowed listed old new knows notes =
    subst (λ (o : Option (List NamedZone)). KnowsNames o after) (sym notes) (by old knows)
  where
    by : (o : Option (List NamedZone)) → KnowsNames o before → KnowsNames o after
    by None known = tt
    by (Some list) known =
        changed before after zone listed allowed.0 edits.its.0
        (λ id n apart. others before after (edit.Change zone remove add) delta edits id n apart)
        list known
noted before after (edit.Collections now) delta edits allowed listed old new knows notes =
    subst (λ (o : Option (List NamedZone)). KnowsNames o after) (sym notes)
    (subst (λ (zs : List Zone). KnowsNames old zs) (sym edits.its.0) knows)

-- what is known of zones that stay
pub still_known : (old new : Option (List NamedZone)) (before after : List Zone) → new ≡ old
    → after ≡ before → KnowsNames old before → KnowsNames new after
still_known old new before after same stay knows =
    subst (λ (o : Option (List NamedZone)). KnowsNames o after) (sym same)
    (subst (λ (zs : List Zone). KnowsNames old zs) (sym stay) knows)
