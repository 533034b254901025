-- Changes applied to the sets of some names.
use Rattle.std.proofs.Common.{◌≡◌, ℕ, List, [], ◌∷◌, ◌++◌, ap, ◌∙◌, sym, refl, subst, Bool, true}
use Rattle.std.proofs.Common.{false, cond, not, Less, Equal, Greater}
use Rattle.std.specs.Prelude.{Ok, Err}
use Rattle.std.specs.List.{AllByRecursion, filter}
use Rattle.std.specs.Ordering.{is_gt, is_lt, ordering_reverse}
use Rattle.std.specs.declared.cmp.Ordering.{Ordering}
use Rattle.std.proofs.lemmas.List.Elements.{filter-append}
use Rattle.batch_model.specs.RecordSetRecord.{RecordSet}
use Rattle.batch_model.specs.SetKeyRecord.{SetKey}
use Rattle.batch_model.specs.Sets.{key_of}
use Rattle.zone_table.specs.Keys.{key_cmp}
use Rattle.zone_table.specs.Placing.{comes_before, comes_behind, placed, without, IsThere}
use Rattle.zone_table.specs.Sets.{IsRising, IsZone}
use Rattle.zone_table.proofs.Ordered.{keys_tie, keys_total}
use Rattle.batch_model.specs.declared.batches.Action.{Action}
use Rattle.batch_model.specs.declared.batches.Action.TheVariants as action
use Rattle.batch_model.specs.declared.batches.Change.{Change}
use Rattle.batch_model.specs.declared.refusals.ChangeRefusal.{ChangeRefusal}
use Rattle.batch_model.specs.declared.refusals.ChangeRefusal.TheVariants as refusal
use Rattle.batch_model.specs.Batches.{Leaves}
use Rattle.batch_model.specs.Changing.{Applies, Makes, IsThereAsGiven}
use Rattle.batch_model.proofs.Staying.{zones_stay}
use Rattle.batch_names.proofs.Filtered.{either_first, in_filter, of_filter, passes, fails}

module _ (kept : (name : List (List ℕ)) → Bool) where
  abbrev keeps : RecordSet → Bool
  keeps set = kept set.name

  abbrev spares : RecordSet → Bool
  spares set = not (kept set.name)

  -- ---- one set

  pub placed_few : (given : RecordSet) (sets : List RecordSet) → kept given.name ≡ true
      → filter keeps (placed given sets) ≡ placed given (filter keeps sets)
  placed_few given sets good =
      let key = key_of given in
      filter-append keeps (filter (comes_before key) sets) (given ∷ filter (comes_behind key) sets)
      ∙ ap (λ front. front ++ filter keeps (given ∷ filter (comes_behind key) sets))
      (either_first keeps (comes_before key) sets)
      ∙ ap (λ back. filter (comes_before key) (filter keeps sets) ++ back)
      (passes keeps given (filter (comes_behind key) sets) good
      ∙ ap (λ back. given ∷ back) (either_first keeps (comes_behind key) sets))

  pub without_few : (key : SetKey) (sets : List RecordSet)
      → filter keeps (without key sets) ≡ without key (filter keeps sets)
  without_few key sets =
      filter-append keeps (filter (comes_before key) sets) (filter (comes_behind key) sets)
      ∙ ap (λ front. front ++ filter keeps (filter (comes_behind key) sets))
      (either_first keeps (comes_before key) sets)
      ∙ ap (λ back. filter (comes_before key) (filter keeps sets) ++ back)
      (either_first keeps (comes_behind key) sets)

  there_few : (key : SetKey) (sets : List RecordSet) → kept key.name ≡ true → IsThere sets key
      → IsThere (filter keeps sets) key
  there_few key sets good (set, is) = (
    set,
    record {
      there = in_filter keeps sets set is.there
          (ap (λ (k : SetKey). kept k.name) is.same_key ∙ good);
      same_key = is.same_key;
    },
  )

  there_all : (key : SetKey) (sets : List RecordSet) → IsThere (filter keeps sets) key
      → IsThere sets key
  there_all key sets (set, is) =
      (set, record { there = (of_filter keeps sets set is.there).0; same_key = is.same_key })

  given_few : (given : RecordSet) (sets : List RecordSet) → kept given.name ≡ true
      → IsThereAsGiven sets given → IsThereAsGiven (filter keeps sets) given
  given_few given sets good (set, is, same) = (
    set,
    record {
      there = in_filter keeps sets set is.there
          (ap (λ (k : SetKey). kept k.name) is.same_key ∙ good);
      same_key = is.same_key;
    },
    same,
  )

  given_all : (given : RecordSet) (sets : List RecordSet) → IsThereAsGiven (filter keeps sets) given
      → IsThereAsGiven sets given
  given_all given sets (set, is, same) =
      (set, record { there = (of_filter keeps sets set is.there).0; same_key = is.same_key }, same)

  -- ---- one change

  module _ (apex : List (List ℕ)) where
    makes_few : (which : Action) (given : RecordSet) (sets after : List RecordSet)
        → kept given.name ≡ true → Makes which given sets apex after
        → Makes which given (filter keeps sets) apex (filter keeps after)
    makes_few action.Create given sets after good made = (
      (λ there. made.0 (there_all (key_of given) sets there)),
      ap (filter keeps) made.1 ∙ placed_few given sets good,
    )
    makes_few action.Delete given sets after good made = (
      given_few given sets good made.0,
      made.1,
      ap (filter keeps) made.2 ∙ without_few (key_of given) sets,
    )
    makes_few action.Upsert given sets after good made =
        ap (filter keeps) made ∙ placed_few given sets good

    makes_all : (which : Action) (given : RecordSet) (sets few : List RecordSet)
        → kept given.name ≡ true → Makes which given (filter keeps sets) apex few
        → (after : List RecordSet) × Makes which given sets apex after × (few ≡ filter keeps after)
    makes_all action.Create given sets few good made = (
      placed given sets,
      ((λ there. made.0 (there_few (key_of given) sets good there)), refl),
      made.1 ∙ sym (placed_few given sets good),
    )
    makes_all action.Delete given sets few good made = (
      without (key_of given) sets,
      (given_all given sets made.0, made.1, refl),
      made.2 ∙ sym (without_few (key_of given) sets),
    )
    makes_all action.Upsert given sets few good made =
        (placed given sets, refl, made ∙ sym (placed_few given sets good))

    pub gives_few : (change : Change) (sets after : List RecordSet) → kept change.set.name ≡ true
        → Applies sets apex change (Ok after) → Applies (filter keeps sets) apex change (Ok
        (filter keeps after))
    gives_few change sets after good g =
        (g.0, makes_few change.action change.set sets after good g.1)

    pub gives_all : (change : Change) (sets few : List RecordSet) → kept change.set.name ≡ true
        → Applies (filter keeps sets) apex change (Ok few)
        → (after : List RecordSet) × Applies sets apex change (Ok after) × (few ≡ filter keeps after)
    gives_all change sets few good g =
        let made = makes_all change.action change.set sets few good g.1 in
        (made.0, (g.0, made.1), made.2)

    pub refused_few : (change : Change) (sets : List RecordSet) (why : ChangeRefusal)
        → kept change.set.name ≡ true → Applies sets apex change (Err why)
        → Applies (filter keeps sets) apex change (Err why)
    refused_few change sets refusal.NotInZone good g = g
    refused_few change sets refusal.AlreadyExists good g =
        (g.0, g.1, there_few (key_of change.set) sets good g.2)
    refused_few change sets refusal.NotFound good g =
        (g.0, g.1, λ there. g.2 (there_all (key_of change.set) sets there))
    refused_few change sets refusal.ValuesDiffer good g = (
      g.0,
      g.1,
      there_few (key_of change.set) sets good g.2,
      (λ there. g.3 (given_all change.set sets there)),
    )
    refused_few change sets refusal.ApexProtected good g =
        (g.0, g.1, given_few change.set sets good g.2, g.3)
    refused_few change sets refusal.OutOfMemory good g = g

    pub refused_all : (change : Change) (sets : List RecordSet) (why : ChangeRefusal)
        → kept change.set.name ≡ true → Applies (filter keeps sets) apex change (Err why)
        → Applies sets apex change (Err why)
    refused_all change sets refusal.NotInZone good g = g
    refused_all change sets refusal.AlreadyExists good g =
        (g.0, g.1, there_all (key_of change.set) sets g.2)
    refused_all change sets refusal.NotFound good g =
        (g.0, g.1, λ there. g.2 (there_few (key_of change.set) sets good there))
    refused_all change sets refusal.ValuesDiffer good g = (
      g.0,
      g.1,
      there_all (key_of change.set) sets g.2,
      (λ there. g.3 (given_few change.set sets good there)),
    )
    refused_all change sets refusal.ApexProtected good g =
        (g.0, g.1, given_all change.set sets g.2, g.3)
    refused_all change sets refusal.OutOfMemory good g = g

  -- ---- the other names

  -- a set goes before a key, or has it, or goes behind it
  none_before : (key : SetKey) (set : RecordSet) (sets : List RecordSet)
      → AllByRecursion (λ later. key_cmp (key_of set) (key_of later) ≡ Less) sets
      → key_cmp key (key_of set) ≡ Less → filter (comes_before key) sets ≡ []
  none_before key set [] all low = refl
  none_before key set (later ∷ sets) all low =
      let up = keys_total.trans key (key_of set) (key_of later) low all.0 in
      let down : key_cmp (key_of later) key ≡ Greater =
      keys_total.antisymm (key_of later) key ∙ ap ordering_reverse up in
      fails (comes_before key) later sets (ap is_lt down) ∙ none_before key set sets all.1 low

  -- the first set beside what the two tests leave of the others
  first_spared : (set : RecordSet) (front back sets : List RecordSet)
      → filter spares front ++ filter spares back ≡ filter spares sets
      → filter spares (set ∷ front) ++ filter spares back ≡ filter spares (set ∷ sets)
  first_spared set front back sets rest = by (spares set) refl
    where
      by : (b : Bool) → spares set ≡ b
          → filter spares (set ∷ front) ++ filter spares back ≡ filter spares (set ∷ sets)
      by true e =
          ap (λ s. s ++ filter spares back) (passes spares set front e) ∙ ap (λ s. set ∷ s) rest
          ∙ sym (passes spares set sets e)
      by false e =
          ap (λ s. s ++ filter spares back) (fails spares set front e) ∙ rest
          ∙ sym (fails spares set sets e)

  -- the sets that stand before a key and behind it, without those of the key
  parted : (key : SetKey) (sets : List RecordSet) → IsRising sets
      → ((set : RecordSet) → key_of set ≡ key → spares set ≡ false)
      → filter spares (filter (comes_before key) sets) ++ filter spares (filter
      (comes_behind key) sets)
      ≡ filter spares sets
  parted key [] rising gone = refl
  parted key (set ∷ sets) rising gone =
      by (parted key sets rising.1 gone) (key_cmp (key_of set) key) refl
    where
      by : filter spares (filter (comes_before key) sets)
          ++ filter spares (filter (comes_behind key) sets) ≡ filter spares sets
          → (o : Ordering) → key_cmp (key_of set) key ≡ o
          → filter spares (filter (comes_before key) (set ∷ sets))
          ++ filter spares (filter (comes_behind key) (set ∷ sets))
          ≡ filter spares (set ∷ sets)
      by rest Less e =
          ap (λ s. filter spares s ++ filter spares (filter (comes_behind key) (set ∷ sets)))
          (passes (comes_before key) set sets (ap is_lt e))
          ∙ ap (λ s. filter spares (set ∷ filter (comes_before key) sets) ++ filter spares s)
          (fails (comes_behind key) set sets (ap is_gt e))
          ∙ first_spared set (filter (comes_before key) sets) (filter (comes_behind key) sets) sets
          rest
      by rest Equal e =
          ap (λ s. filter spares s ++ filter spares (filter (comes_behind key) (set ∷ sets)))
          (fails (comes_before key) set sets (ap is_lt e))
          ∙ ap (λ s. filter spares (filter (comes_before key) sets) ++ filter spares s)
          (fails (comes_behind key) set sets (ap is_gt e))
          ∙ rest ∙ sym (fails spares set sets (gone set (keys_tie (key_of set) key e)))
      by rest Greater e =
          let low : key_cmp key (key_of set) ≡ Less =
          keys_total.antisymm key (key_of set) ∙ ap ordering_reverse e in
          let none : filter (comes_before key) sets ≡ [] = none_before key set sets rising.0 low in
          ap (λ s. filter spares s ++ filter spares (filter (comes_behind key) (set ∷ sets)))
          (fails (comes_before key) set sets (ap is_lt e) ∙ none)
          ∙ ap (filter spares) (passes (comes_behind key) set sets (ap is_gt e))
          ∙ ap (λ s. cond (spares set) (set ∷ s) s)
          (ap (λ s. filter spares s ++ filter spares (filter (comes_behind key) sets)) (sym none)
          ∙ rest)

  placed_spared : (given : RecordSet) (sets : List RecordSet) → IsRising sets → kept given.name
      ≡ true
      → filter spares (placed given sets) ≡ filter spares sets
  placed_spared given sets rising good =
      let key = key_of given in
      let no : spares given ≡ false = ap not good in
      filter-append spares (filter (comes_before key) sets) (given ∷ filter (comes_behind key) sets)
      ∙ ap (λ back. filter spares (filter (comes_before key) sets) ++ back)
      (fails spares given (filter (comes_behind key) sets) no)
      ∙ parted key sets rising (λ set e. ap (λ (k : SetKey). not (kept k.name)) e ∙ no)

  without_spared : (given : RecordSet) (sets : List RecordSet) → IsRising sets
      → kept given.name ≡ true → filter spares (without (key_of given) sets) ≡ filter spares sets
  without_spared given sets rising good =
      let key = key_of given in
      filter-append spares (filter (comes_before key) sets) (filter (comes_behind key) sets)
      ∙ parted key sets rising (λ set e. ap (λ (k : SetKey). not (kept k.name)) e ∙ ap not good)

  makes_spared : (apex : List (List ℕ)) (which : Action) (given : RecordSet)
      (sets after : List RecordSet) → IsRising sets → kept given.name ≡ true
      → Makes which given sets apex after → filter spares after ≡ filter spares sets
  makes_spared apex action.Create given sets after rising good made =
      ap (filter spares) made.1 ∙ placed_spared given sets rising good
  makes_spared apex action.Delete given sets after rising good made =
      ap (filter spares) made.2 ∙ without_spared given sets rising good
  makes_spared apex action.Upsert given sets after rising good made =
      ap (filter spares) made ∙ placed_spared given sets rising good

  -- ---- all changes

  abbrev pub AreKept : List Change → Type 0
  AreKept changes = AllByRecursion (λ (change : Change). kept change.set.name ≡ true) changes

  pub leaves_few : (apex : List (List ℕ)) (changes : List Change) (sets after : List RecordSet)
      → AreKept changes → Leaves sets apex changes after
      → Leaves (filter keeps sets) apex changes (filter keeps after)
  leaves_few apex [] sets after all left = ap (filter keeps) left
  leaves_few apex (change ∷ changes) sets after all left = (
    filter keeps left.0,
    gives_few apex change sets left.0 all.0 left.1,
    leaves_few apex changes left.0 after all.1 left.2,
  )

  pub leaves_all : (apex : List (List ℕ)) (changes : List Change) (sets few : List RecordSet)
      → AreKept changes → Leaves (filter keeps sets) apex changes few
      → (after : List RecordSet) × Leaves sets apex changes after × (few ≡ filter keeps after)
  leaves_all apex [] sets few all left = (sets, refl, left)
  leaves_all apex (change ∷ changes) sets few all left =
      let first = gives_all apex change sets left.0 all.0 left.1 in
      let rest =
      leaves_all apex changes first.0 few all.1
      (subst (λ s. Leaves s apex changes few) first.2 left.2) in
      (rest.0, (first.0, first.1, rest.1), rest.2)

  pub leaves_spared : (apex : List (List ℕ)) (changes : List Change) (sets after : List RecordSet)
      → IsZone sets apex → AreKept changes → Leaves sets apex changes after
      → filter spares after ≡ filter spares sets
  leaves_spared apex [] sets after zone all left = ap (filter spares) left
  leaves_spared apex (change ∷ changes) sets after zone all left =
      leaves_spared apex changes left.0 after (zones_stay sets apex change left.0 zone left.1) all.1
      left.2
      ∙ makes_spared apex change.action change.set sets left.0 zone.rising all.0 left.1.1

pub leaves_zone : (apex : List (List ℕ)) (changes : List Change) (sets after : List RecordSet)
    → IsZone sets apex → Leaves sets apex changes after → IsZone after apex
leaves_zone apex [] sets after zone left = subst (λ s. IsZone s apex) (sym left) zone
leaves_zone apex (change ∷ changes) sets after zone left =
    leaves_zone apex changes left.0 after (zones_stay sets apex change left.0 zone left.1) left.2
