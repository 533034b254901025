-- The commands of entries, made one after another.
use Rattle.std.proofs.Common.{◌≡◌, ◌≢◌, ℕ, List, [], ◌∷◌, ◌++◌, ap, ◌∙◌, sym, refl, subst, inr}
use Rattle.std.proofs.Common.{Result, Ok, Err}
use Rattle.command_bounds.specs.Laws.{SpelledAreBounded}
use Rattle.command_codec.specs.Commands.{Spells}
use Rattle.command_codec.specs.Laws as codec
use Rattle.command_codec.specs.Reading.{read}
use Rattle.command_octets.specs.declared.commands.Command.{Command}
use Rattle.config_model.specs.Applying.{Decides, Outcome}
use Rattle.config_model.specs.Configs.{Config}
use Rattle.config_model.specs.Laws.{KeepsSound, OneOutcome}
use Rattle.config_model.specs.Sound.{Sound}
use Rattle.config_model.specs.declared.refusals.Made.{Made}
use Rattle.config_model.specs.declared.refusals.Refusal.{Refusal}
use Rattle.config_model.specs.declared.refusals.Refusal.TheVariants.{OutOfMemory}
use Rattle.snapshot_octets.specs.Laws.{OneConfiguration}
use Rattle.store_model.specs.Opening.{IsRefused, MakesConfig, AcceptsAll, AcceptsEntry}

-- ---- from behind

pub last_is_taken : (entries : List (List ℕ)) (base config after : Config) (entry : List ℕ)
    → AcceptsAll base entries config → AcceptsEntry config entry after
    → AcceptsAll base (entries ++ entry ∷ []) after
last_is_taken [] base config after entry is taken =
    (after, subst (λ (c : Config). AcceptsEntry c entry after) is taken, refl)
last_is_taken (first ∷ entries) base config after entry all taken =
    (all.0, all.1, last_is_taken entries all.0 config after entry all.2 taken)

-- What is taken up to a place, and from there on.
pub record IsSplit (base : Config) (entries more : List (List ℕ)) (after : Config) : Type 0 where
  pub middle : Config
  pub front : AcceptsAll base entries middle
  pub back : AcceptsAll middle more after

front_more : (first : List ℕ) (entries more : List (List ℕ)) (base next after : Config)
    → AcceptsEntry base first next → IsSplit next entries more after
    → IsSplit base (first ∷ entries) more after
front_more first entries more base next after taken split = record {
  middle = split.middle;
  front = (next, taken, split.front);
  back = split.back;
}

pub split_at : (entries more : List (List ℕ)) (base after : Config)
    → AcceptsAll base (entries ++ more) after → IsSplit base entries more after
split_at [] more base after all = record { middle = base; front = refl; back = all }
split_at (first ∷ entries) more base after all = front_more first entries more base all.0 after
    all.1 (split_at entries more all.0 after all.2)

-- Of the last one: the configuration before it, up to which all others are taken.
pub record IsLast (base : Config) (entries : List (List ℕ)) (entry : List ℕ) (after : Config)
    : Type 0 where
  pub config : Config
  pub others : AcceptsAll base entries config
  pub last : AcceptsEntry config entry after

pub last_was_taken : (entries : List (List ℕ)) (base after : Config) (entry : List ℕ)
    → AcceptsAll base (entries ++ entry ∷ []) after → IsLast base entries entry after
last_was_taken entries base after entry all =
    let split = split_at entries (entry ∷ []) base after all in
    let end : after ≡ split.back.0 = split.back.2 in
    record {
      config = split.middle;
      others = split.front;
      last = subst (λ (c : Config). AcceptsEntry split.middle entry c) (sym end) split.back.1;
    }

-- with one more entry
pub makes_more : (snapshot : List ℕ) (entries : List (List ℕ)) (before after : Config)
    (entry : List ℕ)
    → MakesConfig snapshot entries before → AcceptsEntry before entry after
    → MakesConfig snapshot (entries ++ entry ∷ []) after
makes_more snapshot entries before after entry makes taken = record {
  base = makes.base;
  is_base = makes.is_base;
  taken = last_is_taken entries makes.base before after entry makes.taken taken;
}

-- ---- one after another

same_given : (given other : Command) → ◌≡◌ {A = Result Command ℕ} (Ok given) (Ok other)
    → given ≡ other
same_given given other e = cc

same_pair : (p q : Config × Made) → ◌≡◌ {A = Outcome} (Ok p) (Ok q) → p ≡ q
same_pair p q e = cc

same_after : (after other : Config) (what made : Made)
    → ◌≡◌ {A = Outcome} (Ok (after, what)) (Ok (other, made)) → after ≡ other
same_after after other what made e =
    ap (λ (p : Config × Made). p.0) (same_pair (after, what) (other, made) e)

no_want : (after : Config) (what : Made) → ◌≢◌ {A = Outcome} (Ok (after, what)) (Err OutOfMemory)
no_want after what e = cc

-- another refusal than want of memory
no_want_refused : (why : Refusal) → why ≢ OutOfMemory
    → ◌≢◌ {A = Outcome} (Err why) (Err OutOfMemory)
no_want_refused why other e = let same : why ≡ OutOfMemory = cc in other same

not_both : (after : Config) (what : Made) (why : Refusal)
    → ◌≡◌ {A = Outcome} (Ok (after, what)) (Err why) → ⊥
not_both after what why e = absurd (Prim.cc)

not_read : (given : Command) (place : ℕ) → ◌≡◌ {A = Result Command ℕ} (Err place) (Ok given) → ⊥
not_read given place e = absurd (Prim.cc)

module _ (one_command : codec.ReadAsNothingElse) where
  one_given : (entry : List ℕ) (given other : Command) → Spells entry given → Spells entry other
      → given ≡ other
  one_given entry given other s t =
      same_given given other (sym (one_command entry given (read entry) s refl)
      ∙ one_command entry other (read entry) t refl)

  -- octets that aren't read as a command are taken by no configuration
  pub unread_are_refused : (config : Config) (entry : List ℕ) (place : ℕ) → read entry ≡ Err place
      → IsRefused config entry
  unread_are_refused config entry place unread after taken =
      not_read taken.given place
      (one_command entry taken.given (Err place) taken.spelled unread)

  module _ (one_outcome : OneOutcome) where
    pub one_after : (config : Config) (entry : List ℕ) (after other : Config)
        → AcceptsEntry config entry after → AcceptsEntry config entry other → after ≡ other
    one_after config entry after other t u =
        let same = one_given entry t.given u.given t.spelled u.spelled in
        same_after after other t.what u.what
        (one_outcome config u.given (Ok (after, t.what)) (Ok (other, u.what))
        (inr (subst (λ (g : Command). Decides config g (Ok (after, t.what))) same t.decides))
        (inr u.decides) (no_want after t.what) (no_want other u.what))

    pub one_end : (entries : List (List ℕ)) (config after other : Config)
        → AcceptsAll config entries after → AcceptsAll config entries other → after ≡ other
    one_end [] config after other t u = t ∙ sym u
    one_end (entry ∷ entries) config after other t u =
        let same = one_after config entry t.0 u.0 t.1 u.1 in
        one_end entries u.0 after other
        (subst (λ (c : Config). AcceptsAll c entries after) same t.2) u.2

    -- a command that is refused isn't taken
    pub refused_are_refused : (config : Config) (entry : List ℕ) (given : Command) (why : Refusal)
        → Spells entry given → Decides config given (Err why) → why ≢ OutOfMemory
        → IsRefused config entry
    refused_are_refused config entry given why spelled refused other after taken =
        let same = one_given entry taken.given given taken.spelled spelled in
        not_both after taken.what why
        (one_outcome config given (Ok (after, taken.what)) (Err why)
        (inr (subst (λ (g : Command). Decides config g (Ok (after, taken.what))) same
        taken.decides))
        (inr refused) (no_want after taken.what) (no_want_refused why other))

    module _ (one_base : OneConfiguration) where
      pub one_config : (snapshot : List ℕ) (entries : List (List ℕ)) (config other : Config)
          → MakesConfig snapshot entries config → MakesConfig snapshot entries other
          → config ≡ other
      one_config snapshot entries config other m n =
          let base = one_base snapshot m.base n.base m.is_base.is n.is_base.is in
          one_end entries n.base config other
          (subst (λ (c : Config). AcceptsAll c entries config) base m.taken) n.taken

      -- What a longer list of entries makes takes the entry behind a shorter one.
      pub takes_next : (snapshot : List ℕ) (entries more : List (List ℕ)) (entry : List ℕ)
          (before config : Config)
          → MakesConfig snapshot entries before
          → MakesConfig snapshot (entries ++ entry ∷ more) config
          → (after : Config) × AcceptsEntry before entry after
      takes_next snapshot entries more entry before config m n =
          let split = split_at entries (entry ∷ more) n.base config n.taken in
          let same = one_config snapshot entries split.middle before
          (record { base = n.base; is_base = n.is_base; taken = split.front }) m in (
            split.back.0,
            subst (λ (c : Config). AcceptsEntry c entry split.back.0) same split.back.1,
          )

-- ---- soundness

module _ (bounded : SpelledAreBounded) (keeps : KeepsSound) where
  pub taken_are_sound : (entries : List (List ℕ)) (base config : Config) → Sound base
      → AcceptsAll base entries config → Sound config
  taken_are_sound [] base config sound is = subst Sound (sym is) sound
  taken_are_sound (entry ∷ entries) base config sound all =
      let first : AcceptsEntry base entry all.0 = all.1 in
      taken_are_sound entries all.0 config
      (keeps base all.0 first.given first.what sound (bounded entry first.given first.spelled)
      first.decides) all.2
