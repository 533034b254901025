-- What comes of a command.
use Rattle.std.proofs.Common.{◌≡◌, ◌≢◌, ◌≤◌, ◌⊎◌, inl, inr, ℕ, List, Option, Result, Ok, Err, sym, refl, subst}
use Rattle.serve_turns.specs.Holding.{Holds}
use Rattle.serve_turns.specs.Journaled.{config_of}
use Rattle.reply_sending.specs.CommandRecord.{Command}
use Rattle.reply_sending.specs.Applying.{Decides, Outcome as Applied}
use Rattle.reply_sending.specs.Configs.{Config}
use Rattle.reply_sending.specs.Laws.{OneOutcome}
use Rattle.reply_sending.specs.MadeRecord.{Made}
use Rattle.reply_sending.specs.RefusalRecord.{Refusal}
use Rattle.reply_sending.specs.RefusalRecord.TheVariants as refusal
use Rattle.serve_turns.specs.Engine.{Engine, Fits, grown, size_of}
use Rattle.line_server.specs.Asking.{CommandAsksDisk}
use Rattle.line_server.specs.Leaving.{StepOrNone, RepliesOr, StoreLeaves, Halted, Written, taken_of}
use Rattle.line_server.specs.Replying.{Commanded}
use Rattle.serve_turns.specs.Stores.{CommandGives, StandsFor, State as Store, Untouched}
use Rattle.serve_turns.specs.Kept.{IsAccepted}
use Rattle.reply_sending.specs.Outcomes.{text_of}
use Rattle.serve_turns.specs.Replies.{command_outcome, memory_text}
use Rattle.serve_turns.specs.Laws.{StandingOpens}
use Rattle.serve_turns.specs.Leaving.{OpensEither}
use Rattle.whole_writing.specs.Output.{OutputOf}
use Rattle.whole_writing.specs.declared.output.Output.{Output}
use Rattle.whole_writing.specs.declared.output.Output.TheVariants as output
use Rattle.zone_journal.specs.Pairs.{EachPair, BothRead}
use Rattle.zone_journal.specs.Standing.{StandsOn}

-- a reply that was written, or a part of it
pub written : (o : Output) (held : List ℕ) (out : Option (List ℕ)) (reply : List ℕ)
    → OutputOf held out o reply → Written (taken_of o) held out reply
written output.Whole held out reply is = is
written output.Failed held out reply is = is

pub leaves : (May : Type 0) (o : Output) (Steps : (old after : Engine) → (reply : List ℕ) → Type 0)
    (engine : Engine) (P : Engine → Type 0) (held : List ℕ) (out : Option (List ℕ))
    → RepliesOr May (taken_of o) Steps engine P held out
    → StoreLeaves May (taken_of o) Steps engine P held out
leaves May output.Whole Steps engine P held out replies = replies
leaves May output.Failed Steps engine P held out replies = replies

not_faulty : refusal.OutOfMemory ≢ refusal.DiskFault
not_faulty e = absurd (Prim.cc)

module _ (engine : Engine) (given : Command) (came : Result Made Refusal) (new : Store) where
  pub commanded : (May : Type 0) → (came ≡ Err refusal.DiskFault → ⊥) → Untouched came May
      → CommandGives engine given came new
      → (o : Output) (held : List ℕ) (out : Option (List ℕ))
      → OutputOf held out o (text_of (command_outcome given came))
      → RepliesOr May (taken_of o) (Commanded given) engine (λ after. StandsFor after new) held out
  commanded May whole untouched (inl (is, stands)) o held out told =
      inl (
        untouched refusal.OutOfMemory is not_faulty,
        written o held out memory_text
            (subst (λ (r : Result Made Refusal). OutputOf held out o
            (text_of (command_outcome given r))) is told),
        stands,
      )
  commanded May whole untouched (inr (inl (is, accepted, fitting, stands))) o held out told =
      absurd (whole is)
  commanded May whole untouched (inr (inr (after, steps, stands))) o held out told =
      inr (
        after,
        text_of (command_outcome given came),
        (came, steps, refl),
        stands,
        written o held out (text_of (command_outcome given came)) told,
      )

  -- what the store stands for, whatever is told of the reply
  pub made : CommandGives engine given came new
      → (after : Engine) × StepOrNone (Commanded given) engine after × StandsFor after new
  made (inl (is, stands)) = (engine, inl (engine.journal, refl), stands)
  made (inr (inl (is, accepted, fitting, stands))) = (engine, inl (engine.journal, refl), stands)
  made (inr (inr (after, steps, stands))) =
      (after, inr (text_of (command_outcome given came), (came, steps, refl)), stands)

-- ---- where a disk failed

apart : {X : Type 0} {what : Made} {why : Refusal}
    → ◌≡◌ {A = Result Made Refusal} (Ok what) (Err why) → X
apart e = absurd (Prim.cc)

full_apart : {X : Type 0} {full : ℕ}
    → ◌≡◌ {A = Result Made Refusal} (Err (refusal.JournalFull full)) (Err refusal.DiskFault) → X
full_apart e = absurd (Prim.cc)

memory_apart : {X : Type 0}
    → ◌≡◌ {A = Result Made Refusal} (Err refusal.OutOfMemory) (Err refusal.DiskFault) → X
memory_apart e = absurd (Prim.cc)

decided_apart : {X : Type 0} {after : Config × Made} {why : Refusal}
    → ◌≡◌ {A = Applied} (Ok after) (Err why) → X
decided_apart e = absurd (Prim.cc)

no_memory : {after : Config × Made} → ◌≢◌ {A = Applied} (Ok after) (Err refusal.OutOfMemory)
no_memory e = absurd (Prim.cc)

refused_same : (why other : Refusal) → ◌≡◌ {A = Applied} (Err why) (Err other) → why ≡ other
refused_same why other e = cc

-- it stands for what it stood for
pub at_fault : (engine : Engine) (given : Command) (new : Store)
    → CommandGives engine given (Err refusal.DiskFault) new → StandsFor engine new
at_fault engine given new (inl (is, stands)) = stands
at_fault engine given new (inr (inl (is, accepted, fitting, stands))) = stands
at_fault engine given new (inr (inr (after, inl (why, not_memory, decides, is, same), stands))) =
    subst (λ (e : Engine). StandsFor e new) same stands
at_fault engine given new (inr (inr (after, inr (made, (what, decides, inl (full, is_full, is, same))), stands))) =
    subst (λ (e : Engine). StandsFor e new) same stands
at_fault engine given new (inr (inr (after, inr (made, (what, decides, inr (fitting, is, same))), stands))) =
    apart (sym is)

-- the step that it would have made
pub fits : (law : OneOutcome) (engine : Engine) (given : Command) (new : Store)
    → CommandGives engine given (Err refusal.DiskFault) new → IsAccepted engine.config given
    → Fits (size_of given) engine.journal
fits law engine given new (inl (is, stands)) accepted = memory_apart (sym is)
fits law engine given new (inr (inl (is, also, fitting, stands))) accepted = fitting
fits law engine given new (inr (inr (after, inl (why, not_memory, decides, is, same), stands)))
    (made, what, accepts) =
    decided_apart (law engine.config given (Ok (made, what)) (Err why) (inr accepts) (inr decides)
    no_memory (λ short. not_memory (refused_same why refusal.OutOfMemory short)))
fits law engine given new (inr (inr (after, inr (made, (what, decides, inl (full, is_full, is, same))), stands)))
    accepted = full_apart (sym is)
fits law engine given new (inr (inr (after, inr (made, (what, decides, inr (fitting, is, same))), stands)))
    accepted = fitting

-- it was accepted, and fits
pub asked : (law : OneOutcome) (engine : Engine) (given : Command) (old new : Store)
    → StandsFor engine old → CommandGives engine given (Err refusal.DiskFault) new
    → IsAccepted (config_of old.kept) given → CommandAsksDisk given engine
asked law engine given old new stands gives accepted =
    let its = subst (λ (c : Config). IsAccepted c given) (sym stands.config) accepted in
    (its, fits law engine given new gives its)

-- the step, and what the images open to
module _ {D : Type 0} (reading : D → Option (List ℕ)) (images : D → List ℕ → Type 0)
    (moment : D → ℕ) (images_since : D → ℕ → List ℕ → Type 0)
    (counts_now : (disk : D) (t : ℕ) (c : List ℕ) → t ≤ moment disk → images disk c
    → images_since disk t c) (a_old a_new b_old b_new : D) where
  -- each pair of images, where that holds since the beginning of the call
  pub now : (P : List ℕ → List ℕ → Type 0)
      → EachPair moment images_since a_old a_new b_old b_new P
      → (x y : List ℕ) → images a_new x → images b_new y → P x y
  now P each x y of_a of_b =
      each.each x y (counts_now a_new (moment a_old) x each.a_later of_a)
      (counts_now b_new (moment b_old) y each.b_later of_b)

  pub torn : (law : OneOutcome) (engine : Engine) (given : Command) (old new : Store)
      → StandingOpens reading images → StandsFor engine old
      → StandsOn reading images old.kept.journal a_old b_old
      → BothRead reading a_old b_old (Holds old.kept)
      → CommandGives engine given (Err refusal.DiskFault) new
      → IsAccepted (config_of old.kept) given
      → ((after : Config) (what : Made) → Decides (config_of old.kept) given (Ok (after, what))
      → ((a_new ≡ a_old) × (b_new ≡ b_old))
      ⊎ EachPair moment images_since a_old a_new b_old b_new
      (OpensEither (config_of old.kept) after))
      → Halted images a_new b_new (Commanded given) engine
  torn law engine given old new opens stands on held gives accepted moments =
      let its = subst (λ (c : Config). IsAccepted c given) (sym stands.config) accepted in
      let fitting = fits law engine given new gives its in
      let what : Result Made Refusal = Ok its.1 in (
        record engine { config = its.0; journal = grown (size_of given) engine.journal },
        text_of (command_outcome given what),
        (what, inr (its.0, (its.1, its.2, inr (fitting, refl, refl))), refl),
        λ x y of_a of_b. subst (λ (c : Config). OpensEither c its.0 x y) (sym stands.config)
            (opens_either x y of_a of_b (moments its.0 its.1
            (subst (λ (c : Config). Decides c given (Ok (its.0, its.1))) stands.config its.2))),
      )
    where
      after : Config
      after = (subst (λ (c : Config). IsAccepted c given) (sym stands.config) accepted).0

      opens_either : (x y : List ℕ) → images a_new x → images b_new y
          → ((a_new ≡ a_old) × (b_new ≡ b_old))
          ⊎ EachPair moment images_since a_old a_new b_old b_new
          (OpensEither (config_of old.kept) after)
          → OpensEither (config_of old.kept) after x y
      opens_either x y of_a of_b (inl (a_same, b_same)) = inl (record {
        generation = old.kept.journal.generation;
        snapshot = held.has.snapshot;
        entries = held.has.entries;
        opens = opens old.kept.journal a_old b_old held.x held.y old.kept.journal.generation
            held.has.snapshot held.has.entries (config_of old.kept) on held.a_reads held.b_reads
            held.has.opens x y (subst (λ (d : D). images d x) a_same of_a)
            (subst (λ (d : D). images d y) b_same of_b);
      })
      opens_either x y of_a of_b (inr each) =
          now (OpensEither (config_of old.kept) after) each x y of_a of_b
