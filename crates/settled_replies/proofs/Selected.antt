-- One set that is selected.
use Rattle.std.proofs.Common.{◌≡◌, ℕ, List, [], ◌∷◌, Option, None, Some, length, suc, ◌<◌, sym, ap, ◌∙◌, refl, subst, arith, inl, inr}
use Rattle.std.specs.Prelude.{slice_get}
use Rattle.std.proofs.lemmas.List.Elements.{All-head, All-tail}
use Rattle.std.proofs.lemmas.Option.{slice_get_cases}
use Rattle.std.specs.List.{All, cons_option}
use Rattle.record_set.specs.declared.sets.RecordSet.{RecordSet}
use Rattle.reply_records.specs.SelectedRecord.{Selected}
use Rattle.reply_records.specs.SelectedRecord.TheVariants as selected
use Rattle.reply_records.specs.Selecting.{AreOfGroup, HoldsFirst, places_of, selected_sets}
use Rattle.reply_records.specs.Groups.{sets_in}
use Rattle.reply_records.proofs.Targets.{as_many}
use Rattle.zone_lookup.specs.Descent.{sets_at}
use Rattle.zone_lookup.specs.ZonesOfZoneList.{Zone}
use Rattle.settled_replies.specs.Alone.{IsOne}

found_one : (found : Option RecordSet) (set : RecordSet) → slice_get (cons_option found []) 0 ≡ Some set
    → cons_option found [] ≡ set ∷ []
found_one None set is = absurd (grind (arith, is))
found_one (Some one) set is = ap (λ (s : RecordSet). s ∷ []) same
  where
    same : one ≡ set
    same = cc

-- of one place
one_at : (group : List RecordSet) (places : List ℕ) (set : RecordSet) → length places ≡ 1
    → slice_get (sets_at group places) 0 ≡ Some set → sets_at group places ≡ set ∷ []
one_at group [] set one is = absurd (omega (arith, one))
one_at group (place ∷ []) set one is = found_one (slice_get group place) set is
one_at group (place ∷ next ∷ places) set one is = absurd (omega (arith, one))

-- The one set that is selected is held, where the first one is.
pub held_one : (zones : List Zone) (its : Selected) (held : Option RecordSet) → IsOne its
    → HoldsFirst zones its held
    → (set : RecordSet) × (held ≡ Some set) × (selected_sets zones its ≡ set ∷ [])
held_one zones selected.Nothing held one holds = absurd one
held_one zones (selected.Sets group picked) held one (set, is, first) =
    (set, is, one_at (sets_in zones group) (places_of picked) set one first)

-- Each place of a group has its set.
all_there : (group : List RecordSet) (places : List ℕ) → All (λ place. place < length group) places
    → length (sets_at group places) ≡ length places
all_there group [] there = refl
all_there group (place ∷ places) there =
    elim (slice_get_cases group place).1 [
      | inl (set, within, at, same) ↦
          let rest = all_there group places (All-tail (λ place. place < length group) place places there) in
          ap (λ (o : Option RecordSet). length (cons_option o (sets_at group places))) at ∙ ap suc rest
      | inr (past, none) ↦
          let below = All-head (λ place. place < length group) place places there in absurd (omega (arith, below, past))
    ]

-- Where one set is selected, one place is.
pub one_place : (zones : List Zone) (its : Selected) (set : RecordSet) → AreOfGroup zones its
    → selected_sets zones its ≡ set ∷ [] → IsOne its
one_place zones selected.Nothing set there are = absurd (grind (arith, are))
one_place zones (selected.Sets group picked) set there are =
    sym (all_there (sets_in zones group) (places_of picked)
    (subst (λ (n : ℕ). All (λ place. place < n) (places_of picked)) (sym (as_many zones group there.0)) there.2))
    ∙ ap (λ (l : List RecordSet). length l) are

-- the first of some sets, and the others
pub some_first : (sets : List RecordSet) → 0 < length sets
    → (first : RecordSet) × (others : List RecordSet) × (sets ≡ first ∷ others)
some_first [] many = absurd (omega (arith, many))
some_first (first ∷ others) many = (first, others, refl)
