-- The healthy sets of all zones in one list.
use Rattle.std.proofs.Common.{◌≡◌, ◌≢◌, ℕ, Bool, true, false, cond, List, [], ◌∷◌, ◌++◌, map, Option, Some, ap, ◌∙◌, sym, refl, subst, inl, inr, ◌⊎◌}
use Rattle.std.specs.Prelude.{nat_eq}
use Rattle.std.specs.List.{AllByRecursion, filter}
use Rattle.std.specs.Map.{lookup}
use Rattle.std.proofs.lemmas.Bool.{eq-eqb, eqb-true, false≢true, ne_eqb}
use Rattle.check_model.specs.Checks.{AreDistinct}
use Rattle.zone_model.specs.RecordSetRecord.{RecordSet}
use Rattle.zone_model.specs.SetKeyRecord.{SetKey}
use Rattle.zone_model.specs.Sets.{key_of}
use Rattle.zone_model.specs.Zones.{IsAmong}
use Rattle.health_model.specs.Healthy.{Watched, healthy, healthy_among, healthy_of, sets_of, sets_there}
use Rattle.health_model.specs.Laws.{HealthyAreListed}
use Rattle.health_model.specs.Statuses.{Report}

abbrev Zone : Type 0
Zone = ℕ × List RecordSet

abbrev pair : ℕ → SetKey → ℕ × SetKey
pair zone key = (zone, key)

module _ {X : Type 0} where
  in_left : (xs ys : List X) (x : X) → IsAmong xs x → IsAmong (xs ++ ys) x
  in_left [] ys x m = absurd m
  in_left (y ∷ xs) ys x (inl is) = inl is
  in_left (y ∷ xs) ys x (inr m) = inr (in_left xs ys x m)

  in_right : (xs ys : List X) (x : X) → IsAmong ys x → IsAmong (xs ++ ys) x
  in_right [] ys x m = m
  in_right (y ∷ xs) ys x m = inr (in_right xs ys x m)

  either : (xs ys : List X) (x : X) → IsAmong (xs ++ ys) x → IsAmong xs x ⊎ IsAmong ys x
  either [] ys x m = inr m
  either (y ∷ xs) ys x (inl is) = inl (inl is)
  either (y ∷ xs) ys x (inr m) = elim (either xs ys x m) [
    | inl here ↦ inl (inr here)
    | inr there ↦ inr there
  ]

  put_by : (b : Bool) (y : X) (rest : List X) (x : X) → IsAmong rest x
      → IsAmong (cond b (y ∷ rest) rest) x
  put_by true y rest x m = inr m
  put_by false y rest x m = m

  first_by : (b : Bool) (y : X) (rest : List X) → b ≡ true → IsAmong (cond b (y ∷ rest) rest) y
  first_by true y rest e = inl refl
  first_by false y rest e = absurd (false≢true e)

  kept : (p : X → Bool) (xs : List X) (x : X) → IsAmong xs x → p x ≡ true
      → IsAmong (filter p xs) x
  kept p [] x m e = absurd m
  kept p (y ∷ ys) x (inl is) e =
      subst (IsAmong (filter p (y ∷ ys))) is
      (first_by (p y) y (filter p ys) (ap p is ∙ e))
  kept p (y ∷ ys) x (inr m) e = put_by (p y) y (filter p ys) x (kept p ys x m e)

  passed_by : (p : X → Bool) (b : Bool) (y : X) (ys : List X) (x : X) → p y ≡ b
      → (IsAmong (filter p ys) x → IsAmong ys x × (p x ≡ true))
      → IsAmong (cond b (y ∷ filter p ys) (filter p ys)) x → IsAmong (y ∷ ys) x × (p x ≡ true)
  passed_by p true y ys x e rest (inl is) = (inl is, subst (λ (z : X). p z ≡ true) is e)
  passed_by p true y ys x e rest (inr m) = (let r = rest m in (inr r.0, r.1))
  passed_by p false y ys x e rest m = (let r = rest m in (inr r.0, r.1))

  passed : (p : X → Bool) (xs : List X) (x : X) → IsAmong (filter p xs) x
      → IsAmong xs x × (p x ≡ true)
  passed p [] x m = absurd m
  passed p (y ∷ ys) x m = passed_by p (p y) y ys x refl (passed p ys x) m

module _ {X Y : Type 0} (f : X → Y) where
  mapped : (xs : List X) (x : X) → IsAmong xs x → IsAmong (map f xs) (f x)
  mapped [] x m = absurd m
  mapped (y ∷ ys) x (inl is) = inl (ap f is)
  mapped (y ∷ ys) x (inr m) = inr (mapped ys x m)

  unmapped : (xs : List X) (y : Y) → IsAmong (map f xs) y → (x : X) × IsAmong xs x × (f x ≡ y)
  unmapped [] y m = absurd m
  unmapped (x ∷ xs) y (inl is) = (x, inl refl, is)
  unmapped (x ∷ xs) y (inr m) = (let r = unmapped xs y m in (r.0, inr r.1, r.2))

-- one zone among those of other numbers
other_by : (b : Bool) (held : Zone) (found : Option (List RecordSet)) → b ≡ false
    → cond b (Some held.1) found ≡ found
other_by true held found e = absurd (false≢true (sym e))
other_by false held found e = refl

number_in : (zones : List Zone) (held : Zone) (first : ℕ) → IsAmong zones held
    → AllByRecursion (λ (other : ℕ). first ≢ other) (map (λ (held : Zone). held.0) zones)
    → first ≢ held.0
number_in [] held first m all = absurd m
number_in (zone ∷ zones) held first (inl is) all =
    λ e. all.0 (e ∙ ap (λ (h : Zone). h.0) (sym is))
number_in (zone ∷ zones) held first (inr m) all = number_in zones held first m all.1

found_once : (zones : List Zone) (held : Zone) → IsAmong zones held
    → AreDistinct (map (λ (held : Zone). held.0) zones)
    → lookup (nat_eq held.0) zones ≡ Some held.1
found_once [] held m distinct = absurd m
found_once (zone ∷ zones) held (inl is) distinct =
    subst (λ (h : Zone). lookup (nat_eq h.0) (zone ∷ zones) ≡ Some h.1) is
    (ap (λ (b : Bool). cond b (Some zone.1) (lookup (nat_eq zone.0) zones))
    (eq-eqb zone.0 zone.0 refl))
found_once (zone ∷ zones) held (inr m) distinct =
    other_by (nat_eq held.0 zone.0) zone (lookup (nat_eq held.0) zones)
    (ne_eqb held.0 zone.0 (λ e. number_in zones held zone.0 m distinct.0 (sym e)))
    ∙ found_once zones held m distinct.1

module _ (watched : Watched) (reports : List Report) where
  of_zone : (zone : ℕ) (sets : List RecordSet) (one : RecordSet) → IsAmong sets one
      → healthy watched reports zone one ≡ true
      → IsAmong (healthy_of watched reports (zone, sets)) (zone, key_of one)
  of_zone zone sets one m e =
      mapped (λ (one : RecordSet). (zone, key_of one))
      (filter (healthy watched reports zone) sets) one
      (kept (healthy watched reports zone) sets one m e)

  listed_by : (b : Bool) (zone : ℕ) (held : Zone) (zones : List Zone) (one : RecordSet)
      → nat_eq zone held.0 ≡ b
      → (IsAmong (sets_there (lookup (nat_eq zone) zones)) one
      → IsAmong (healthy_among watched reports zones) (zone, key_of one))
      → healthy watched reports zone one ≡ true
      → IsAmong (sets_there (cond b (Some held.1) (lookup (nat_eq zone) zones))) one
      → IsAmong (healthy_among watched reports (held ∷ zones)) (zone, key_of one)
  listed_by true zone held zones one e rest is m =
      let same : zone ≡ held.0 = eqb-true zone held.0 e in
      in_left (healthy_of watched reports held) (healthy_among watched reports zones)
      (zone, key_of one)
      (subst (λ (n : ℕ). IsAmong (healthy_of watched reports (n, held.1)) (zone, key_of one)) same
      (of_zone zone held.1 one m is))
  listed_by false zone held zones one e rest is m =
      in_right (healthy_of watched reports held) (healthy_among watched reports zones)
      (zone, key_of one) (rest m)

  listed_in : (zones : List Zone) (zone : ℕ) (one : RecordSet)
      → healthy watched reports zone one ≡ true
      → IsAmong (sets_there (lookup (nat_eq zone) zones)) one
      → IsAmong (healthy_among watched reports zones) (zone, key_of one)
  listed_in [] zone one is m = absurd m
  listed_in (held ∷ zones) zone one is m =
      listed_by (nat_eq zone held.0) zone held zones one refl (listed_in zones zone one is) is m

  -- a set of a zone of the list
  abbrev IsOf : List Zone → (zone : ℕ) → SetKey → Type 0
  IsOf zones zone key =
      (held : Zone) × IsAmong zones held
      × ((one : RecordSet) × IsAmong held.1 one × (healthy watched reports held.0 one ≡ true)
      × (pair held.0 (key_of one) ≡ pair zone key))

  came_from : (zones : List Zone) (zone : ℕ) (key : SetKey)
      → IsAmong (healthy_among watched reports zones) (zone, key) → IsOf zones zone key
  came_from [] zone key m = absurd m
  came_from (held ∷ zones) zone key m =
      elim (either (healthy_of watched reports held) (healthy_among watched reports zones)
      (zone, key) m) [
        | inl here ↦ (let r = unmapped (λ (one : RecordSet). (held.0, key_of one))
            (filter (healthy watched reports held.0) held.1) (zone, key) here in
            let p = passed (healthy watched reports held.0) held.1 r.0 r.1 in
            (held, inl refl, (r.0, p.0, p.1, r.2)))
        | inr there ↦ (let r = came_from zones zone key there in (r.0, inr r.1, r.2))
      ]

  abbrev IsHealthySet : (zone : ℕ) → SetKey → Type 0
  IsHealthySet zone key =
      (one : RecordSet) × IsAmong (sets_of watched zone) one
      × (healthy watched reports zone one ≡ true) × (key_of one ≡ key)

  told : (zone : ℕ) (key : SetKey) (held : Zone) (one : RecordSet)
      → sets_of watched held.0 ≡ held.1 → IsAmong held.1 one
      → healthy watched reports held.0 one ≡ true → held.0 ≡ zone → key_of one ≡ key
      → IsHealthySet zone key
  told zone key held one found m is same its =
      subst (λ (n : ℕ). IsHealthySet n key) same
      (one, subst (λ (l : List RecordSet). IsAmong l one) (sym found) m, is, its)

number_of : (a b : ℕ) (x y : SetKey) → pair a x ≡ pair b y → a ≡ b
number_of a b x y e = ap (λ (p : ℕ × SetKey). p.0) e

key_in : (a b : ℕ) (x y : SetKey) → pair a x ≡ pair b y → x ≡ y
key_in a b x y e = ap (λ (p : ℕ × SetKey). p.1) e

pub healthy_listed : HealthyAreListed
healthy_listed = record {
  listed = λ watched reports zone one m is.
      listed_in watched reports watched.zones zone one is m;
  only = only_by;
}
  where
    only_by : (watched : Watched) (reports : List Report) (zone : ℕ) (key : SetKey)
        → AreDistinct (map (λ (held : Zone). held.0) watched.zones)
        → IsAmong (healthy_among watched reports watched.zones) (zone, key)
        → IsHealthySet watched reports zone key
    only_by watched reports zone key distinct m =
        let r = came_from watched reports watched.zones zone key m in
        told watched reports zone key r.0 r.2.0
        (ap sets_there (found_once watched.zones r.0 r.1 distinct)) r.2.1 r.2.2
        (number_of r.0.0 zone (key_of r.2.0) key r.2.3) (key_in r.0.0 zone (key_of r.2.0) key r.2.3)
