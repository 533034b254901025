-- Files that are no store open to nothing, and are told so at one place.
use Rattle.std.proofs.Common.{◌≡◌, ◌≢◌, ◌⊎◌, inl, inr, ℕ, List, [], ◌∷◌, ◌++◌, length, drop, ◌∙◌}
use Rattle.std.proofs.Common.{sym, refl, subst, arith, append-nil}
use Rattle.command_codec.specs.Laws as codec
use Rattle.config_model.specs.Configs.{Config}
use Rattle.config_model.specs.Laws.{OneOutcome}
use Rattle.gate_journal.specs.Layout.{OpensTo, front}
use Rattle.gate_journal.specs.Read.{IsBroken, IsRead}
use Rattle.snapshot_octets.specs.Laws.{OneConfiguration}
use Rattle.store_model.proofs.Readings.{Begins, at_gate, count_is, is_long, no_break_closed}
use Rattle.store_model.proofs.Readings.{none_ahead, not_broken, one_entry, one_place, opens_read}
use Rattle.store_model.proofs.Readings.{snapshot_is, two_readings}
use Rattle.store_model.proofs.Sides.{none_decides, one_side, opens_active, two_sides}
use Rattle.store_model.proofs.Taken.{takes_next}
use Rattle.store_model.specs.Laws.{BaselessIsNoStore, BrokenIsNoStore, FaultyIsNoStore}
use Rattle.store_model.specs.Laws.{NoStoreOrConfig, OneFault}
use Rattle.store_model.specs.Opening.{IsBase, IsFaulty, IsNoBase, IsNoEntry, IsNoStore}
use Rattle.store_model.specs.Opening.{IsUnreadable, MakesConfig, AcceptsEntry}
use Rattle.zone_journal.specs.Pairs.{OpensPair, active_of}
use Rattle.zone_journal.specs.declared.answers.Side.{Side}
use Rattle.zone_journal.specs.declared.answers.Side.TheVariants.{A, B}

-- what was read of a file and makes a configuration has a base
has_base : (file : List ℕ) (p g : ℕ) (s : List ℕ) (es : List (List ℕ)) (config : Config)
    → IsRead p file g s es → MakesConfig s es config → IsNoBase file → ⊥
has_base file p g s es config r makes (inl short) =
    omega (arith, short, count_is file p g s es r, is_long file p g s es r)
has_base file p g s es config r makes (inr never) =
    never makes.base
    (subst (λ l. IsBase l makes.base) (sym (snapshot_is file p g s es r)) makes.is_base)

-- A fault behind entries that make a configuration.
record IsFault (place : ℕ) (file : List ℕ) (g : ℕ) (s : List ℕ) (entries : List (List ℕ))
    (before : Config) : Type 0 where
  read : IsRead place file g s entries
  makes : MakesConfig s entries before
  faulty : IsFaulty place file g s entries before

-- the same of an equal generation and an equal snapshot
as_fault : (place : ℕ) (file : List ℕ) (fault : IsNoEntry place file) (g : ℕ) (s : List ℕ)
    → fault.generation ≡ g → fault.snapshot ≡ s → IsFault place file g s fault.entries fault.before
as_fault place file fault g s same_g same_s =
    subst (λ (k : ℕ × List ℕ). IsFault place file k.0 k.1 fault.entries fault.before)
    (λ i. (same_g i, same_s i))
    (record { read = fault.read; makes = fault.makes; faulty = fault.faulty })

-- ---- what opening finds

pub broken_is_no_store : BrokenIsNoStore
broken_is_no_store x y side place (inl shut) = inl shut
broken_is_no_store x y side place (inr (active, is, short)) = inr (active, inl (is, inl short))

pub baseless_is_no_store : BaselessIsNoStore
baseless_is_no_store x y side place generation octets entries active read never =
    inr (
      active,
      inl (
        refl,
        inr (λ config base. never config
            (subst (λ l. IsBase l config)
            (snapshot_is (active_of side x y) place generation octets entries read) base)),
      ),
    )

pub faulty_is_no_store : FaultyIsNoStore
faulty_is_no_store x y side place generation octets entries before active read makes faulty =
    inr (
      active,
      inr (record {
        generation = generation;
        snapshot = octets;
        entries = entries;
        read = read;
        before = before;
        makes = makes;
        faulty = faulty;
      }),
    )

-- ---- one fault

module _ (one_command : codec.ReadAsNothingElse) (one_outcome : OneOutcome)
    (one_base : OneConfiguration) where
  module _ (file : List ℕ) (g : ℕ) (s : List ℕ) where
    -- None stands before an entry of a longer list that makes a configuration.
    none_before : (p q : ℕ) (es more : List (List ℕ)) (e : List ℕ) (before config : Config)
        → IsFault p file g s es before → IsRead q file g s (es ++ e ∷ more)
        → MakesConfig s (es ++ e ∷ more) config → IsFaulty p file g s es before → ⊥
    none_before p q es more e before config f later all (inl broken) =
        not_broken file p g s es f.read q e more later broken
    none_before p q es more e before config f later all (inr (other, read, never)) =
        let next = takes_next one_command one_outcome one_base s es more e before config f.makes
        all in
        let same = one_entry file p g s es f.read q _ e other more later read in
        never next.0 (subst (λ l. AcceptsEntry before l next.0) (sym same) next.1)

    -- So what is read up to a later place ends there.
    ends_there : (p q : ℕ) (es fs : List (List ℕ)) (before config : Config)
        → IsFault p file g s es before → IsRead q file g s fs → MakesConfig s fs config
        → Begins es fs → p ≡ q
    ends_there p q es fs before config f later all ([], is) =
        one_place file p g s es f.read q fs later (is ∙ append-nil es)
    ends_there p q es fs before config f later all (e ∷ more, is) =
        absurd (none_before p q es more e before config f
        (subst (λ l. IsRead q file g s l) is later)
        (subst (λ l. MakesConfig s l config) is all) f.faulty)

    module _ (gate : ℕ) (rest : List ℕ) (closed : gate ≢ 1) where
      -- none stands at a closed gate
      none_closed : (p : ℕ) (es : List (List ℕ)) (before : Config) → drop p file ≡ gate ∷ rest
          → IsRead p file g s es → IsFaulty p file g s es before → ⊥
      none_closed p es before here r (inl broken) =
          no_break_closed gate rest closed (subst IsBroken here broken)
      none_closed p es before here r (inr (other, read, never)) =
          none_ahead file p g s es r gate rest closed here _ other [] read

      -- a closed gate ends what is read
      closed_ends : (p q : ℕ) (es fs : List (List ℕ)) → drop p file ≡ gate ∷ rest
          → IsRead p file g s es → IsRead q file g s fs → Begins es fs → p ≡ q
      closed_ends p q es fs here r later ([], is) =
          one_place file p g s es r q fs later (is ∙ append-nil es)
      closed_ends p q es fs here r later (e ∷ more, is) =
          absurd (none_ahead file p g s es r gate rest closed here q e more
          (subst (λ l. IsRead q file g s l) is later))

      -- none stands in a file whose entries up to a closed gate make a configuration
      none_in : (p q : ℕ) (es fs : List (List ℕ)) (before config : Config)
          → drop q file ≡ gate ∷ rest → IsRead q file g s fs → MakesConfig s fs config
          → IsFault p file g s es before → Begins es fs ⊎ Begins fs es → ⊥
      none_in p q es fs before config here r makes f (inl begins) =
          let same = ends_there p q es fs before config f r makes begins in
          none_closed p es before (subst (λ n. drop n file ≡ gate ∷ rest) (sym same) here) f.read
          f.faulty
      none_in p q es fs before config here r makes f (inr begins) =
          let same = closed_ends q p fs es here r f.read begins in
          none_closed p es before (subst (λ n. drop n file ≡ gate ∷ rest) same here) f.read
          f.faulty

  opened_is_readable : (file : List ℕ) (g : ℕ) (s : List ℕ) (es : List (List ℕ))
      (config : Config) (place : ℕ) → OpensTo file g s es → MakesConfig s es config
      → IsUnreadable place file → ⊥
  opened_is_readable file g s es config place o makes (inl (is, none)) =
      has_base file (length (front g s es)) g s es config (opens_read file g s es o) makes none
  opened_is_readable file g s es config place o makes (inr fault) =
      let r = opens_read file g s es o in
      let two = two_readings file place (length (front g s es)) fault.generation g fault.snapshot s
      fault.entries es fault.read r in
      none_in file g s o.gate o.rest o.closed place (length (front g s es)) fault.entries es
      fault.before config (at_gate file g s es o) r makes
      (as_fault place file fault g s two.generation two.snapshot) two.entries

  module _ (x y : List ℕ) (g : ℕ) (s : List ℕ) (es : List (List ℕ)) (config : Config)
      (place : ℕ) (makes : MakesConfig s es config) where
    opened_is_store : (side : Side) → IsNoStore x y side place → OpensPair x y g s es → ⊥
    opened_is_store side (inl shut) (inl by) = shut.2 (opens_active A x y g s es by).0
    opened_is_store side (inl shut) (inr by) = shut.3 (opens_active B y x g s es by).0
    opened_is_store A (inr active) (inl by) =
        opened_is_readable x g s es config place by.0 makes active.1
    opened_is_store A (inr active) (inr by) =
        two_sides x y active.0 (opens_active B y x g s es by)
    opened_is_store B (inr active) (inl by) =
        two_sides x y (opens_active A x y g s es by) active.0
    opened_is_store B (inr active) (inr by) =
        opened_is_readable y g s es config place by.0 makes active.1

  pub no_store_or_config : NoStoreOrConfig
  no_store_or_config x y config side place o none =
      opened_is_store x y o.generation o.snapshot o.entries config place o.opens.makes side none
      o.opens.opens

  -- of two faults in a file each stands where the other does
  one_place_of : (file : List ℕ) (p q : ℕ) → IsNoEntry p file → IsNoEntry q file → p ≡ q
  one_place_of file p q fault other =
      let two = two_readings file p q fault.generation other.generation fault.snapshot
      other.snapshot fault.entries other.entries fault.read other.read in
      either (as_fault p file fault other.generation other.snapshot two.generation two.snapshot)
      two.entries
    where
      either : IsFault p file other.generation other.snapshot fault.entries fault.before
          → Begins fault.entries other.entries ⊎ Begins other.entries fault.entries → p ≡ q
      either one (inl begins) =
          ends_there file other.generation other.snapshot p q fault.entries other.entries
          fault.before other.before one other.read other.makes begins
      either one (inr begins) =
          sym (ends_there file other.generation other.snapshot q p other.entries fault.entries
          other.before fault.before
          (as_fault q file other other.generation other.snapshot refl refl) one.read one.makes
          begins)

  unreadable_once : (file : List ℕ) (p q : ℕ) → IsUnreadable p file → IsUnreadable q file → p ≡ q
  unreadable_once file p q (inl (is, none)) (inl (other, again)) = is ∙ sym other
  unreadable_once file p q (inl (is, none)) (inr fault) =
      absurd (has_base file q fault.generation fault.snapshot fault.entries fault.before
      fault.read fault.makes none)
  unreadable_once file p q (inr fault) (inl (is, none)) =
      absurd (has_base file p fault.generation fault.snapshot fault.entries fault.before
      fault.read fault.makes none)
  unreadable_once file p q (inr fault) (inr other) = one_place_of file p q fault other

  pub one_fault : OneFault
  one_fault x y side other place elsewhere (inl shut) (inl again) =
      (shut.0 ∙ sym again.0, shut.1 ∙ sym again.1)
  one_fault x y side other place elsewhere (inl shut) (inr active) =
      absurd (none_decides x y other shut.2 shut.3 active.0)
  one_fault x y side other place elsewhere (inr active) (inl shut) =
      absurd (none_decides x y side shut.2 shut.3 active.0)
  one_fault x y side other place elsewhere (inr active) (inr again) =
      let same = one_side x y side other active.0 again.0 in (
        same,
        unreadable_once (active_of side x y) place elsewhere active.1
            (subst (λ k. IsUnreadable elsewhere (active_of k x y)) (sym same) again.1),
      )
