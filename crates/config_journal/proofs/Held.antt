-- The files that hold a configuration, behind the append of a command.
use Rattle.std.proofs.Common.{◌≡◌, ℕ, List, [], ◌∷◌, ◌++◌, Option, Some, Ok, inl, inr, ◌∙◌, sym, subst}
use Rattle.config_journal.specs.Holding.{Holds}
use Rattle.config_journal.specs.States.{IsReady, Ready, State, config_of}
use Rattle.r53_state.specs.Applying.{Decides, Outcome}
use Rattle.r53_state.specs.MadeRecord.{Made}
use Rattle.r53_state.specs.Configs.{Config}
use Rattle.gate_journal.specs.declared.answers.Appended.{Appended}
use Rattle.gate_journal.specs.declared.answers.Appended.TheVariants as appended
use Rattle.store_model.proofs.Weakening.{each_pair_weakens}
use Rattle.store_model.specs.Leaving.{IsPlanFor, MayOpen, OpensEither}
use Rattle.store_model.specs.Laws.{AcceptedAreTaken, AppendsMayOpen, AppendsOpen, PlanGoesOn}
use Rattle.store_model.specs.Opening.{OpensAs, AcceptsEntry}
use Rattle.zone_journal.specs.Appending.{AppendLeaves, MayLeave}
use Rattle.zone_journal.specs.Pairs.{EachPair, BothRead, OpensPair}

module _ {D : Type 0} (reading : D → Option (List ℕ)) (old new : State)
    (generation : new.journal.generation ≡ old.journal.generation)
    (plan : new.journal.plan ≡ old.journal.plan) (entry : List ℕ)
    (taken : AcceptsEntry (config_of old) entry (config_of new)) where
  -- what was read holds the configuration before, and what is read is an entry more
  pub one_more : PlanGoesOn → AppendsOpen reading → (a_old a_new b_old b_new : D)
      → ((g : ℕ) (s : List ℕ) (es : List (List ℕ)) (x y : List ℕ) → reading a_old ≡ Some x
      → reading b_old ≡ Some y → OpensPair x y g s es
      → BothRead reading a_new b_new (AppendLeaves appended.Done g s es entry))
      → BothRead reading a_old b_old (Holds old) → BothRead reading a_new b_new (Holds new)
  one_more goes_on opens a_old a_new b_old b_new leaves held =
      let h = held.has in
      let now = opens a_new b_new appended.Done old.journal.generation h.snapshot h.entries entry
      (config_of old) (config_of new) h.opens.makes taken
      (leaves old.journal.generation h.snapshot h.entries held.x held.y held.a_reads held.b_reads
      h.opens.opens) in
      record {
        x = now.x;
        y = now.y;
        a_reads = now.a_reads;
        b_reads = now.b_reads;
        has = record {
          snapshot = h.snapshot;
          entries = h.entries ++ entry ∷ [];
          opens = subst (λ g. OpensAs now.x now.y g h.snapshot (h.entries ++ entry ∷ []) (config_of new))
              (sym generation) now.has;
          plan = λ p e. subst (λ g. IsPlanFor p.snapshot p.from g h.snapshot
              (h.entries ++ entry ∷ []) (config_of new)) (sym generation)
              (goes_on p.snapshot p.from old.journal.generation h.snapshot h.entries
              (config_of old) (config_of new) entry (h.plan p (sym plan ∙ e)) taken);
        };
      }

module _ {D : Type 0} (moment : D → ℕ) (images_since : D → ℕ → List ℕ → Type 0) where
  -- the files open to one of two, whatever the append came to
  either : (result : Appended) (before after : Config) (x y : List ℕ)
      → MayOpen result before after x y → OpensEither before after x y
  either appended.Done before after x y opens = opens
  either (appended.Full n) before after x y opens = inl opens
  either appended.DiskFault before after x y opens = opens

  pub at_each_moment : {reading : D → Option (List ℕ)} → AppendsMayOpen moment images_since
      → (old : State) (entry : List ℕ) (after : Config)
      → AcceptsEntry (config_of old) entry after → (a_old a_new b_old b_new : D)
      → (result : Appended)
      → ((g : ℕ) (s : List ℕ) (es : List (List ℕ)) (x y : List ℕ) → reading a_old ≡ Some x
      → reading b_old ≡ Some y → OpensPair x y g s es
      → EachPair moment images_since a_old a_new b_old b_new (MayLeave result g s es entry))
      → BothRead reading a_old b_old (Holds old)
      → EachPair moment images_since a_old a_new b_old b_new
      (OpensEither (config_of old) after)
  at_each_moment may old entry after taken a_old a_new b_old b_new result leaves held =
      let h = held.has in
      each_pair_weakens (MayOpen result (config_of old) after) (OpensEither (config_of old) after)
      (either result (config_of old) after) moment images_since a_old a_new b_old b_new
      (may a_old a_new b_old b_new result old.journal.generation h.snapshot h.entries entry
      (config_of old) after h.opens.makes taken
      (leaves old.journal.generation h.snapshot h.entries held.x held.y held.a_reads held.b_reads
      h.opens.opens))

-- ---- by the views of values

-- what is decided of the values inside is decided of the values
pub decided : (inside now : State) → inside ≡ now → (its ready : Ready) → its ≡ ready
    → (outcome : Outcome) → Decides (config_of inside) its.prepared.command outcome
    → Decides (config_of now) ready.prepared.command outcome
decided inside now same its ready one outcome decides =
    subst (λ (s : State). Decides (config_of s) ready.prepared.command outcome) same
    (subst (λ (r : Ready). Decides (config_of inside) r.prepared.command outcome) one decides)

-- a command that is ready is an entry that is taken
pub taken_of : AcceptedAreTaken → (now : State) (ready : Ready) → IsReady now ready
    → (entry : List ℕ) → entry ≡ ready.entry → (after : Config) (what : Made)
    → Decides (config_of now) ready.prepared.command (Ok (after, what))
    → AcceptsEntry (config_of now) entry after
taken_of law now ready is entry same after what decides =
    subst (λ (e : List ℕ). AcceptsEntry (config_of now) e after) (sym (same ∙ is.entry))
    (law (config_of now) after ready.prepared.command what is.prepared.bounded is.spelled decides)
