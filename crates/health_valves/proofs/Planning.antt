-- The rows of a blueprint stand for its net.
use Rattle.std.proofs.Common.{◌≡◌, ◌<◌, ◌≤◌, ℕ, zero, suc, Bool, true, false, List, [], ◌∷◌, length, map, replicate, arith, refl, ap, sym, ◌∙◌, inl, inr, Some, None, Option}
use Rattle.std.specs.Prelude.{◌==◌, slice_get, slice_index, All}
use Rattle.std.specs.List.Sorted.{IsPermutation}
use Rattle.std.proofs.lemmas.List.Sorted.{All-permutation, length_permutation}
use Rattle.health_valves.proofs.Links.{feeders_moved}
use Rattle.std.proofs.lemmas.Bool.{cases_eq, cases_lt, ne_eqb}
use Rattle.std.proofs.lemmas.List.{get_or_past, get_or-replicate, length-map, length-replicate}
use Rattle.std.proofs.lemmas.Option.{get_or_from_slice_get, slice_get_within}
use mathlib.Core.Path.{subst}
use Rattle.health_valves.specs.Valves.{BothWays, IsCounted, IsLaid, IsOwned, IsRow, count, fed_by, times, value_in}
use Rattle.health_valves.specs.Laying.{row_of}
use Rattle.health_valves.specs.Blueprint.{IsDrawn, Drawn, feeders_in, net_in, own_in, own_of, condition_of}
use Rattle.health_valves.specs.declared.valves.ValveFeeds.{ValveFeeds}
use Rattle.health_valves.specs.declared.blueprint.Feeding.{Feeding}
use Rattle.health_valves.specs.declared.blueprint.Trigger.{Trigger}
use Rattle.health_valves.proofs.Times.{in_times}

pub planned_moved : (blueprint after : Drawn) → after.triggers ≡ blueprint.triggers
    → IsPermutation blueprint.links after.links → IsDrawn blueprint → IsDrawn after
planned_moved blueprint after same moved is =
    let long = length_permutation blueprint.links after.links moved in
    record {
      within = rw same (All-permutation (λ (l : Feeding). l.feeder < length blueprint.triggers) blueprint.links after.links moved is.within);
      to_within = rw same (All-permutation (λ (l : Feeding). l.fed < length blueprint.triggers) blueprint.links after.links moved is.to_within);
      small = λ n. rw same (is.small n);
      few_links = rw long is.few_links;
      few = rw same is.few;
    }

feeders_are : (o : Option Trigger) (feeders : List ℕ) → (condition_of o feeders).feeders ≡ feeders
feeders_are None feeders = refl
feeders_are (Some trigger) feeders = refl

-- what is fed by a link is there
fed_there : (x y n : ℕ) (links : List Feeding)
    → ((k : ℕ) (link : Feeding) → slice_get links k ≡ Some link → link.fed < n)
    → 0 < times x (feeders_in links y) → y < n
fed_there x y n [] within more = absurd (omega arith)
fed_there x y n (link ∷ links) within more = elim (cases_eq link.fed y) [
  | inl same ↦ let b = within 0 link refl in rw (sym same) b
  | inr apart ↦ fed_there x y n links (λ k l is. within (suc k) l is) (rw (ne_eqb link.fed y apart) at more)
]

at_place : {X : Type 0} (P : X → Type 0) (xs : List X) → All P xs → (k : ℕ) (x : X)
    → slice_get xs k ≡ Some x → P x
at_place P xs all k x is =
    subst P (get_or_from_slice_get xs k x x is) (all k x (slice_get_within xs k x is))

is_row : (triggers : List Trigger) (n : ℕ) (row : ValveFeeds) (feeders : List ℕ)
    → slice_get (map row_of triggers) n ≡ Some row → IsRow (condition_of (slice_get triggers n) feeders) row
is_row [] n row feeders e = absurd (let no : ⊥ = cc in no)
is_row (trigger ∷ triggers) zero row feeders e =
    let same : row_of trigger ≡ row = cc in
    record { need = ap (λ (r : ValveFeeds). r.need) (sym same); inverted = ap (λ (r : ValveFeeds). r.inverted) (sym same) }
is_row (trigger ∷ triggers) (suc n) row feeders e = is_row triggers n row feeders e

-- rows and feeds of a blueprint stand for the net of each with its links in some order
pub laid : (blueprint given : Drawn) (rows : List ValveFeeds) (feeds : BothWays) → IsDrawn blueprint
    → given.triggers ≡ blueprint.triggers → IsPermutation given.links blueprint.links
    → rows ≡ map row_of blueprint.triggers → length feeds.fed ≡ length blueprint.triggers
    → ((x y : ℕ) → times y (fed_by feeds x) ≡ times x (feeders_in blueprint.links y))
    → IsLaid (net_in given) rows feeds
laid blueprint given rows feeds drawn same moved are valves fed = record {
  size = ap length are ∙ length-map blueprint.triggers row_of ∙ sym (ap length same);
  valves = valves ∙ sym (ap length same);
  each_row = λ n row e. rw same (is_row blueprint.triggers n row (feeders_in given.links n) (ap (λ l. slice_get l n) (sym are) ∙ e));
  reversed = λ x y b. fed x y ∙ feeders_moved x y given.links blueprint.links moved ∙ ap (times x) (sym (feeders_are (slice_get given.triggers y) (feeders_in given.links y)));
  within = λ x y i.
      let some = in_times y (fed_by feeds x) i in
      let same_times = fed x y in
      let b = fed_there x y (length blueprint.triggers) blueprint.links
      (λ k link is. at_place (λ (l : Feeding). l.fed < length blueprint.triggers) blueprint.links drawn.to_within k link is)
      (omega arith) in
      rw same b;
}

-- ---- counts where no valve is open

count_none : (v : ℕ → Bool) (xs : List ℕ) → ((x : ℕ) → v x ≡ false) → count v xs ≡ 0
count_none v [] none = refl
count_none v (x ∷ xs) none = rw (none x) (count_none v xs none)

pub none_in : (n y : ℕ) → value_in (replicate n false) y ≡ false
none_in n y = elim (cases_lt y n) [
  | inl within ↦ get_or-replicate n y false false within
  | inr past ↦ let long = length-replicate n false in get_or_past (replicate n false) y false (omega arith)
]

feeders_few : (links : List Feeding) (y : ℕ) → length (feeders_in links y) ≤ length links
feeders_few [] y = omega arith
feeders_few (link ∷ links) y = step (link.fed == y) refl (feeders_few links y)
  where
    step : (b : Bool) → (link.fed == y) ≡ b → length (feeders_in links y) ≤ length links
        → length (feeders_in (link ∷ links) y) ≤ suc (length links)
    step true e r = rw e (omega arith)
    step false e r = rw e (omega arith)

own_at : (triggers : List Trigger) (n : ℕ) → n < length triggers
    → slice_index (map (λ (s : Trigger). s.own) triggers) n ≡ own_of (slice_get triggers n)
own_at [] n within = absurd (omega arith)
own_at (trigger ∷ triggers) zero within = refl
own_at (trigger ∷ triggers) (suc n) within = own_at triggers n (omega arith)

pub counted : (blueprint given : Drawn) (counts : List ℕ) (v : ℕ → Bool)
    → IsDrawn blueprint → given.triggers ≡ blueprint.triggers → IsPermutation given.links blueprint.links
    → counts ≡ map (λ (s : Trigger). s.own) blueprint.triggers → ((x : ℕ) → v x ≡ false)
    → IsCounted (net_in given) (own_in given) v counts
counted blueprint given counts v planned same moved are none =
    let long = length_permutation given.links blueprint.links moved in
    record {
      size = ap length are ∙ length-map blueprint.triggers (λ (s : Trigger). s.own) ∙ sym (ap length same);
      small = λ n b.
          let most = planned.small n in
          let its = ap (λ (l : List Trigger). own_of (slice_get l n)) same in
          omega arith;
      few = λ n b.
          let few = feeders_few given.links n in
          let most = planned.few_links in
          let all = ap length (feeders_are (slice_get given.triggers n) (feeders_in given.links n)) in
          omega arith;
      each = λ n b.
          let none_open = count_none v (condition_of (slice_get given.triggers n) (feeders_in given.links n)).feeders none in
          let within : n < length blueprint.triggers = rw same at b in
          let its = ap (λ (l : List ℕ). slice_index l n) are ∙ own_at blueprint.triggers n within in
          let own = ap (λ (l : List Trigger). own_of (slice_get l n)) same in
          omega arith;
    }

pub owned : (blueprint given : Drawn) (owns : List ℕ) → given.triggers ≡ blueprint.triggers
    → owns ≡ map (λ (s : Trigger). s.own) blueprint.triggers → IsOwned (net_in given) (own_in given) owns
owned blueprint given owns same are = record {
  size = ap length are ∙ length-map blueprint.triggers (λ (s : Trigger). s.own) ∙ sym (ap length same);
  each = λ n b.
      let within : n < length blueprint.triggers = rw same at b in
      ap (λ (l : List ℕ). slice_index l n) are ∙ own_at blueprint.triggers n within
      ∙ sym (ap (λ (l : List Trigger). own_of (slice_get l n)) same);
}
