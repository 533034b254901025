-- The healthy sets of a zone, one after another.
use Rattle.std.proofs.Common.{◌≡◌, ◌∙◌, ℕ, ◌+◌, ◌<◌, ◌≤◌, Bool, true, false, List, [], ◌∷◌, map, length, drop, ap, arith, inl, inr, refl, subst, sym, Some, cond}
use Rattle.std.specs.Prelude.{nat_eq, slice_get}
use Rattle.std.specs.Option.{option_map}
use Rattle.std.proofs.lemmas.Bool.{cases_eq, eq-eqb, ne_eqb}
use Rattle.std.proofs.lemmas.List.{length-map}
use Rattle.std.proofs.lemmas.Option.{slice_get-map}
use Rattle.std.specs.List.{filter}
use Rattle.std.specs.Map.{lookup}
use Rattle.config_edits.specs.Laws.{hosted_in}
use Rattle.config_model.specs.Configs.{Config}
use Rattle.engine_model.specs.Engine.{watched_in}
use Rattle.health_model.specs.Healthy.{sets_of as sets_at, sets_there}
use Rattle.r53_core.specs.Journaled.{State as Kept, config_of}
use Rattle.record_set.specs.declared.sets.RecordSet.{RecordSet}
use Rattle.zone_table.proofs.Members.{filled, left_at, nothing_left}
use Rattle.zone_table.specs.Zones.{Zone, placed_in}
use Rattle.zone_table.specs.SetRefRecord.{SetRef}
use Rattle.zone_model.proofs.Among.{among_at}
use Rattle.zone_model.specs.Hosted.{HostedZone}
use Rattle.zone_model.specs.Slotted.{IsHere, IsSlotAt, Slotted, sets_of}
use Rattle.zone_table.specs.Looking.{RefersTo}

-- counted of what is left as of all
module _ {X : Type 0} (f : X → Bool) (xs : List X) where
  abbrev pub Counted : (count i : ℕ) → Type 0
  Counted count i = count + length (filter f (drop i xs)) ≡ length (filter f xs)

  pub one_more : (count i : ℕ) (x : X) → slice_get xs i ≡ Some x → f x ≡ true → Counted count i
      → Counted (count + 1) (i + 1)
  one_more count i x at is counted =
      let left : filter f (drop i xs) ≡ x ∷ filter f (drop (i + 1) xs) =
      ap (filter f) (left_at xs i x at)
      ∙ ap (λ b. cond b (x ∷ filter f (drop (i + 1) xs)) (filter f (drop (i + 1) xs))) is in
      omega (arith, counted, ap length left)

  pub no_more : (count i : ℕ) (x : X) → slice_get xs i ≡ Some x → f x ≡ false → Counted count i
      → Counted count (i + 1)
  no_more count i x at is counted =
      let left : filter f (drop i xs) ≡ filter f (drop (i + 1) xs) =
      ap (filter f) (left_at xs i x at)
      ∙ ap (λ b. cond b (x ∷ filter f (drop (i + 1) xs)) (filter f (drop (i + 1) xs))) is in
      omega (arith, counted, ap length left)

  pub counted_at : (count i : ℕ) (x : X) → slice_get xs i ≡ Some x → (n : ℕ)
      → n ≡ cond (f x) 1 0 → Counted count i → Counted (count + n) (i + 1)
  counted_at count i x at n is counted = go (f x) refl
    where
      go : (b : Bool) → f x ≡ b → Counted (count + n) (i + 1)
      go true e = subst (λ (k : ℕ). Counted (count + k) (i + 1))
          (sym (is ∙ ap (λ (b : Bool). cond b 1 0) e)) (one_more count i x at e counted)
      go false e = subst (λ (k : ℕ). Counted (count + k) (i + 1))
          (sym (is ∙ ap (λ (b : Bool). cond b 1 0) e))
          (let rest = no_more count i x at e counted in omega (arith, rest))

  pub all_counted : (count i : ℕ) → length xs ≤ i → Counted count i
      → count ≡ length (filter f xs)
  all_counted count i past counted =
      omega (arith, counted, ap (λ l. length (filter f l)) (nothing_left xs i past))

-- the sets of a zone, as what has health and as the table has them
pub sets_watched : (zones : List Zone) (id : ℕ)
    → sets_there (lookup (nat_eq id)
    (map (λ (zone : HostedZone). (zone.id, zone.sets)) (hosted_in zones)))
    ≡ sets_of (placed_in zones id)
sets_watched [] id = refl
sets_watched (zone ∷ zones) id = elim (cases_eq zone.id id) [
  | inl same ↦ rw (eq-eqb id zone.id (sym same), eq-eqb zone.id id same) refl
  | inr apart ↦
      rw (ne_eqb id zone.id (λ e. apart (sym e)), ne_eqb zone.id id apart) (sets_watched zones id)
]

-- what a reference to a place names
pub named_at : (zones : List Zone) (ref : SetRef) (id i : ℕ) (same : ref.zone ≡ id)
    → IsSlotAt (placed_in zones id) i ref.slot → (set : RecordSet)
    → slice_get (sets_of (placed_in zones id)) i ≡ Some set → RefersTo zones ref set
named_at zones ref id i same at set there =
    subst (λ (z : ℕ). IsHere (placed_in zones z) (record { slot = ref.slot; set = set })) (sym same)
    (among_at (placed_in zones id) i (record { slot = ref.slot; set = set })
    (at.1 ∙ ap (λ (s : RecordSet). Some (record { slot = ref.slot; set = s })) one))
  where
    mapped : slice_get (sets_of (placed_in zones id)) i ≡ Some at.0
    mapped = slice_get-map (λ (p : Slotted). p.set) (placed_in zones id) i
        ∙ ap (option_map (λ (p : Slotted). p.set)) at.1

    one : at.0 ≡ set
    one = (let a = mapped in grind (arith, a, there))

-- some set stands at each place
pub set_there : (placed : List Slotted) (i : ℕ) → i < length placed
    → (set : RecordSet) × (slice_get (sets_of placed) i ≡ Some set)
set_there placed i lt =
    let size = length-map placed (λ (p : Slotted). p.set) in
    filled (sets_of placed) i (omega (arith, lt, size))

pub as_long : (placed : List Slotted) → length (sets_of placed) ≡ length placed
as_long placed = length-map placed (λ (p : Slotted). p.set)

-- the sets of a zone of what is kept of a configuration
pub sets_kept : (kept : Kept) (config : Config) → config ≡ config_of kept → (id : ℕ)
    → sets_at (watched_in config) id ≡ sets_of (placed_in kept.config.table.zones id)
sets_kept kept config is id =
    subst (λ (c : Config). sets_at (watched_in c) id ≡ sets_of (placed_in kept.config.table.zones id))
    (sym is) (sets_watched kept.config.table.zones id)
