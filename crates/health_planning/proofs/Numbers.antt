-- The valves of checks, by their numbers.
use Rattle.std.proofs.Common.{◌≡◌, ◌≢◌, ◌<◌, ℕ, zero, suc, List, [], ◌∷◌, length, arith, ap, sym, ◌∙◌, inl, inr, Some}
use Rattle.std.specs.Prelude.{◌⊎◌, slice_get, slice_index}
use Rattle.std.proofs.lemmas.Bool.{cases_eq}
use Rattle.std.proofs.lemmas.Option.{get_or_from_slice_get, slice_get-get_or, slice_get_within}
use Rattle.check_model.specs.declared.checks.Check.{Check}
use Rattle.health_planning.specs.Wired.{HaveValves, StandApart, ids_of, place_of, valve_with}
use Rattle.health_planning.proofs.Places.{first_there}
use Rattle.std.proofs.lemmas.List.{length-map}

some_same : {X : Type 0} {x y : X} → Some x ≡ Some y → x ≡ y
some_same e = cc

-- the number at a place, as it is read
pub number_there : (numbers : List ℕ) (place valve : ℕ) → place < length numbers
    → valve ≡ slice_index numbers place → slice_get numbers place ≡ Some valve
number_there numbers place valve within is =
    slice_get-get_or numbers place 0 within ∙ ap Some (sym is)

pub number_is : (numbers : List ℕ) (place valve : ℕ) → slice_get numbers place ≡ Some valve
    → slice_index numbers place ≡ valve
number_is numbers place valve at = get_or_from_slice_get numbers place valve 0 at

-- some number is this one, or none is
pub number_or_none : (numbers : List ℕ) (valve : ℕ)
    → ((place : ℕ) × (slice_get numbers place ≡ Some valve))
    ⊎ ((place : ℕ) → slice_get numbers place ≡ Some valve → ⊥)
number_or_none [] valve = inr (λ place e. let no : ⊥ = cc in absurd no)
number_or_none (x ∷ numbers) valve = elim (cases_eq x valve) [
  | inl same ↦ inl (0, ap Some same)
  | inr apart ↦ elim (number_or_none numbers valve) [
    | inl there ↦ inl (suc there.0, there.1)
    | inr none ↦ inr (nowhere apart none)
  ]
]
  where
    nowhere : x ≢ valve → ((place : ℕ) → slice_get numbers place ≡ Some valve → ⊥)
        → (place : ℕ) → slice_get (x ∷ numbers) place ≡ Some valve → ⊥
    nowhere apart none zero e = apart (some_same e)
    nowhere apart none (suc place) e = none place e

-- as many checks as numbers of checks
pub ids_valves : (list : List (ℕ × Check)) (numbers : List ℕ) → HaveValves (length list) numbers
    → HaveValves (length (ids_of list)) numbers
ids_valves list numbers valves = record {
  as_many = valves.as_many ∙ sym (length-map list (λ (held : ℕ × Check). held.0));
  apart = valves.apart;
  early = valves.early;
}

-- numbers at places that differ do
pub index_apart : (numbers : List ℕ) → StandApart numbers → (a b : ℕ) → a < length numbers
    → b < length numbers → a ≢ b → slice_index numbers a ≢ slice_index numbers b
index_apart numbers apart a b first second differ same =
    differ (apart a b (slice_index numbers a) (slice_get-get_or numbers a 0 first)
    (slice_get-get_or numbers b 0 second ∙ ap Some (sym same)))

module _ (ids numbers : List ℕ) (valves : HaveValves (length ids) numbers) where
  pub number_early : (place : ℕ) → place < length ids → slice_index numbers place < 200
  number_early place within =
      let many = valves.as_many in
      valves.early place (slice_index numbers place) (slice_get-get_or numbers place 0 (omega arith))

  -- the valve of a check that is there stands at its place
  pub valve_there : (place id : ℕ) → slice_get ids place ≡ Some id
      → slice_get numbers (place_of ids id) ≡ Some (valve_with ids numbers id)
  valve_there place id at =
      let within = slice_get_within ids (place_of ids id) id (first_there ids place id at) in
      let many = valves.as_many in
      slice_get-get_or numbers (place_of ids id) 0 (omega arith)

  pub valve_early : (place id : ℕ) → slice_get ids place ≡ Some id
      → valve_with ids numbers id < 200
  valve_early place id at =
      valves.early (place_of ids id) (valve_with ids numbers id) (valve_there place id at)
