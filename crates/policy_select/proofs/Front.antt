-- The first set that isn't for another country, where it settles the choice.
use Rattle.std.proofs.Common.{◌≡◌, ◌≤◌, ◌+◌, ℕ, List, [], ◌∷◌, Option, Some, Bool, true, arith, length, take, refl, sym, ap, ◌∙◌}
use Rattle.std.proofs.lemmas.List.{length-map}
use Rattle.std.proofs.lemmas.Slice.Eq.{bytes_eq-Decides}
use Rattle.std.specs.Prelude.{cond, slice_get, ◌++◌}
use Rattle.std.specs.Option.{option_map, unwrap_or}
use Rattle.answer_model.specs.Choice.{each}
use Rattle.answer_model.specs.Policies.{place_of}
use Rattle.considered_sets.specs.Healthy.{healthy_of}
use Rattle.geo_latency.specs.Nearest.{wanted}
use Rattle.geo_latency.specs.Places.{chosen, is_some_of}
use Rattle.geo_latency.specs.declared.location.Location.{Location}
use Rattle.routing.specs.declared.policies.Place.{Place}
use Rattle.routing.specs.declared.policies.Place.TheVariants.{Country}
use Rattle.zone_table.specs.RecordSetRecord.{RecordSet}
use Rattle.policy_select.specs.Nearby.{AreForOthers, AreNoted, SettlesAt, Settles, noted}
use Rattle.policy_select.proofs.Nearby.{chosen_noted, noted_on}
use Rattle.policy_select.proofs.Noted.{said_at}
use Rattle.policy_select.proofs.Settled.{settled}

-- alone and healthy it is chosen
told_alone : (told : Location) (code : List ℕ) → told.country ≡ Some code
    → chosen (Country code ∷ []) (true ∷ []) (Some told) ≡ Some 0
told_alone told code its =
    let here : is_some_of told.country code ≡ true =
    ap (λ (o : Option (List ℕ)). is_some_of o code) its ∙ (bytes_eq-Decides code code).1 refl in
    ap
    (λ (b : Bool). slice_get
    (healthy_of (true ∷ []) ([] ++ (cond b (0 ∷ []) [] ++ ([] ++ [])))
    ++ ([] ++ (cond b (0 ∷ []) [] ++ ([] ++ [])))) 0) here

alone : (client : Option Location) (place : Place) → Settles client place
    → chosen (place ∷ []) (true ∷ []) client ≡ Some 0
alone client place (told, code, is, none, its, place_is) =
    ap (λ (c : Option Location). chosen (place ∷ []) (true ∷ []) c) is
    ∙ ap (λ (p : Place). chosen (p ∷ []) (true ∷ []) (Some told)) place_is
    ∙ told_alone told code its

-- behind sets of which none is noted it is chosen among all
pub first_settled : (client : Option Location) (country : ℕ) → country ≡ wanted client → (first : Place)
    (group : List RecordSet) (flags : List Bool) → length flags ≡ length group → (from i : ℕ) → from ≤ i
    → AreForOthers country first group from i
    → AreNoted client (take from (each place_of first group)) (take from flags) [] [] []
    → SettlesAt client first group i → slice_get flags i ≡ Some true
    → Some i ≡ chosen (each place_of first group) flags client
first_settled client country is first group flags many from i low others so_far (place, settles, (set, at, says)) healthy =
    let places = each place_of first group in
    let noted_all =
    noted_on client country is first group flags many (place ∷ []) (true ∷ []) (i ∷ []) 0 from i set place true at
    (sym says) healthy (omega arith) (omega arith) (omega arith) low others so_far in
    chosen_noted client places flags (place ∷ []) (true ∷ []) (i ∷ []) (chosen (place ∷ []) (true ∷ []) client)
    (Some i) (
      i + 1,
      noted_all,
      settled client place places flags i settles
          (many ∙ sym (length-map group (λ (s : RecordSet). unwrap_or (place_of s.routing) first)))
          (said_at place_of first group i set set.routing place at refl (sym says)) healthy,
    )
    refl
    (sym (ap (option_map (noted (i ∷ []))) (alone client place settles)))
