-- What each kind of line leaves, as what a line leaves in a session.
use Rattle.std.proofs.Common.{◌≡◌, ◌≢◌, ◌⊎◌, ◌∙◌, inl, inr, ℕ, List, [], ◌++◌, Option, Some, Result, Ok, Err, ap, append-nil, arith, refl, subst, sym}
use Rattle.std.specs.Prelude.{⊤}
use Rattle.line_bounds.specs.LineRecord.{Line}
use Rattle.line_bounds.specs.Configs.{Config}
use Rattle.list_sending.specs.Engine.{Engine}
use Rattle.line_faults.specs.declared.fault.LineFault.{LineFault}
use Rattle.line_faults.specs.declared.fault.LineFault.TheVariants.{BadLine, OutOfMemory, Unsupported}
use Rattle.line_server.specs.Leaving.{CameTo, HasCause, Replies, RepliesOr, StepLeaves, StoreLeaves, Written, taken_of}
use Rattle.line_server.specs.Standing.{Server, StandsFor}
use Rattle.line_server.specs.Stores.{StandsFor as StoreStandsFor}
use Rattle.line_server.specs.declared.answers.Taken.{Taken}
use Rattle.line_server.specs.declared.answers.Taken.TheVariants as taken
use Rattle.r53_io.specs.Network.{Incoming}
use Rattle.rand_core.specs.Stream.{Stream}
use Rattle.line_bounds.specs.Outcomes.{reply_of, text_of}
use Rattle.line_bounds.specs.OutcomeRecord.TheVariants as outcome
use Rattle.list_sending.specs.Asking.{Asks}
use Rattle.list_sending.specs.Replies.{memory_text}
use Rattle.list_sending.specs.Serving.{Datagram}
use Rattle.list_sending.specs.Sessions.{told_alone}
use Rattle.list_sending.specs.Steps.{LineSteps, OctetsStep, State, Step, Surroundings, replied}
use Rattle.session_server.specs.Taking.{LineLeaves, OrMemory, PartOf, PartOfOctets}
use Rattle.whole_writing.specs.Output.{OutputOf}
use Rattle.whole_writing.specs.declared.output.Output.{Output}
use Rattle.whole_writing.specs.declared.output.Output.TheVariants as output

nothing_sent : {X : Type 0} {before : List X} {sent : Option (List X)} → sent ≡ Some before
    → sent ≡ Some (before ++ [])
nothing_sent {before = before} is = is ∙ ap Some (sym (append-nil before))

-- A disk that isn't asked doesn't fail.
pub none_torn : (answer : Taken) (link_old link_new out_old out_new : ℕ)
    → HasCause answer 0 0 0 0 link_old link_new out_old out_new → answer ≡ taken.DiskFault → ⊥
none_torn taken.Replied link_old link_new out_old out_new cause is = absurd (Prim.cc)
none_torn taken.WriteFault link_old link_new out_old out_new cause is = absurd (Prim.cc)
none_torn taken.DiskFault link_old link_new out_old out_new (inl rose) is = omega (arith, rose)
none_torn taken.DiskFault link_old link_new out_old out_new (inr rose) is = omega (arith, rose)
none_torn taken.LinkFault link_old link_new out_old out_new cause is = absurd (Prim.cc)

-- The network that isn't asked doesn't fail.
pub none_unsent : (answer : Taken) (a_old a_new b_old b_new out_old out_new : ℕ)
    → HasCause answer a_old a_new b_old b_new 0 0 out_old out_new → answer ≡ taken.LinkFault → ⊥
none_unsent taken.Replied a_old a_new b_old b_new out_old out_new cause is = absurd (Prim.cc)
none_unsent taken.WriteFault a_old a_new b_old b_new out_old out_new cause is = absurd (Prim.cc)
none_unsent taken.DiskFault a_old a_new b_old b_new out_old out_new cause is = absurd (Prim.cc)
none_unsent taken.LinkFault a_old a_new b_old b_new out_old out_new rose is = omega (arith, rose)

-- ---- other words for the same

or_mapped : (Steps Other : Step → Type 0) (old : State) → ((step : Step) → Steps step → Other step)
    → (step : Step) → OrMemory Steps old step → OrMemory Other old step
or_mapped Steps Other old made step (inl memory) = inl memory
or_mapped Steps Other old made step (inr steps) = inr (made step steps)

module _ (Steps Other : Step → Type 0) (Part OtherPart Given OtherGiven : Type 0)
    (Opens OtherOpens : Config → Type 0) (old : State) (P : State → Type 0) (held : List ℕ)
    (before : List Datagram) (out : Option (List ℕ)) (sent : Option (List Datagram)) where
  pub mapped : (answer : Taken) → ((step : Step) → Steps step → Other step) → (Part → OtherPart)
      → (OtherGiven → Given) → ((after : Config) → Opens after → OtherOpens after)
      → LineLeaves answer Steps Part Given Opens old P held before out sent
      → LineLeaves answer Other OtherPart OtherGiven OtherOpens old P held before out sent
  mapped taken.Replied made part given opens (step, came, here, was, so) =
      (step, or_mapped Steps Other old made step came, here, was, so)
  mapped taken.WriteFault made part given opens (step, came, here, was, so) =
      (step, or_mapped Steps Other old made step came, here, was, so)
  mapped taken.DiskFault made part given opens (was, so, torn) = (
    was,
    so,
    λ is.
        let t = torn (given is) in (t.0, made t.0 t.1, opens t.0.new.engine.config t.2),
  )
  mapped taken.LinkFault made part given opens (was, its) = (was, part its)

-- ---- lines on the store

module _ (Steps : Step → Type 0) (Part Given : Type 0) (Opens : Config → Type 0) (old : State)
    (server : Server) (network : Option (List Incoming)) (random : Stream) (held : List ℕ)
    (before : List Datagram) (out : Option (List ℕ)) (sent : Option (List Datagram))
    (unsent : sent ≡ Some before) where
  abbrev Here : State → Type 0
  Here new = StandsFor new server network random

  pub memory : (o : Output) → Here old → OutputOf held out o memory_text
      → CameTo o (OrMemory Steps old) (λ new. StandsFor new server network random) held before out
      sent
  memory o here was =
      (told_alone memory_text old, inl refl, here, was, nothing_sent unsent)

  pub stepped : (o : Output) (after : Engine) (reply : List ℕ) → Steps (replied old after reply)
      → StandsFor (record old { engine = after }) server network random
      → OutputOf held out o reply
      → CameTo o (OrMemory Steps old) (λ new. StandsFor new server network random) held before out
      sent
  stepped o after reply steps here was =
      (replied old after reply, inr steps, here, was, nothing_sent unsent)

  -- by what was written
  pub by_output : (o : Output) (answer : Taken) → taken_of o ≡ answer
      → CameTo o (OrMemory Steps old) (λ new. StandsFor new server network random) held before out
      sent
      → LineLeaves answer Steps Part Given Opens old
      (λ new. StandsFor new server network random) held before out sent
  by_output o answer is came =
      subst (λ (t : Taken). LineLeaves t Steps Part Given Opens old
      (λ new. StandsFor new server network random) held before out sent) is (go o came)
    where
      go : (o : Output)
          → CameTo o (OrMemory Steps old) (λ new. StandsFor new server network random) held before
          out sent
          → LineLeaves (taken_of o) Steps Part Given Opens old
          (λ new. StandsFor new server network random) held before out sent
      go output.Whole its = its
      go output.Failed its = its

  module _ (May : Type 0) (Makes : (old after : Engine) → (reply : List ℕ) → Type 0)
      (as_step : (after : Engine) (reply : List ℕ) → Makes old.engine after reply
      → Steps (replied old after reply))
      (rest : (after : Engine) → StoreStandsFor after server.store
      → StandsFor (record old { engine = after }) server network random) where
    by_either : (o : Output) (answer : Taken)
        → ((reply : List ℕ) → Written answer held out reply → OutputOf held out o reply)
        → RepliesOr May answer Makes old.engine (λ after. StoreStandsFor after server.store) held out
        → CameTo o (OrMemory Steps old) (λ new. StandsFor new server network random) held before
        out sent
    by_either o answer is (inl (may, was, here)) =
        memory o (rest old.engine here) (is memory_text was)
    by_either o answer is (inr (after, reply, makes, here, was)) =
        stepped o after reply (as_step after reply makes) (rest after here) (is reply was)

    none_written : (answer : Taken) → ((reply : List ℕ) → Written answer held out reply → ⊥)
        → RepliesOr May answer Makes old.engine (λ after. StoreStandsFor after server.store) held out
        → ⊥
    none_written answer none (inl (may, was, here)) = none memory_text was
    none_written answer none (inr (after, reply, makes, here, was)) = none reply was

    -- a line that asks no disk
    pub of_replies : (answer : Taken)
        → RepliesOr May answer Makes old.engine (λ after. StoreStandsFor after server.store) held out
        → LineLeaves answer Steps Part Given Opens old
        (λ new. StandsFor new server network random) held before out sent
    of_replies taken.Replied replies =
        by_either output.Whole taken.Replied (λ reply was. was) replies
    of_replies taken.WriteFault replies =
        by_either output.Failed taken.WriteFault (λ reply was. was) replies
    of_replies taken.DiskFault replies =
        absurd (none_written taken.DiskFault (λ reply was. was) replies)
    of_replies taken.LinkFault replies =
        absurd (none_written taken.LinkFault (λ reply was. was) replies)

    -- a line that asks the disks
    pub of_store : (answer : Taken)
        → (answer ≡ taken.DiskFault → Given → (after : Engine) × (reply : List ℕ)
        × Makes old.engine after reply × Opens after.config)
        → StoreLeaves May answer Makes old.engine (λ after. StoreStandsFor after server.store) held
        out
        → LineLeaves answer Steps Part Given Opens old
        (λ new. StandsFor new server network random) held before out sent
    of_store taken.Replied torn replies =
        by_either output.Whole taken.Replied (λ reply was. was) replies
    of_store taken.WriteFault torn replies =
        by_either output.Failed taken.WriteFault (λ reply was. was) replies
    of_store taken.DiskFault torn (was, (journal, here)) = (
      was,
      unsent,
      λ given.
          let t = torn refl given in
          (replied old t.0 t.1, as_step t.0 t.1 t.2, t.3),
    )
    of_store taken.LinkFault torn none = absurd none

-- ---- lines on the network

module _ (Steps : Step → Type 0) (Part Given : Type 0) (Opens : Config → Type 0) (old : State)
    (Stands P : State → Type 0) (Sent : Option (List Datagram) → Type 0) (held : List ℕ)
    (before : List Datagram) (out : Option (List ℕ)) (sent : Option (List Datagram)) where
  pub of_network : (answer : Taken) → ((step : Step) → Steps step → Stands step.new → P step.new)
      → (answer ≡ taken.LinkFault → Sent sent → Part) → StepLeaves answer Steps Sent Stands held before out sent
      → LineLeaves answer Steps Part Given Opens old P held before out sent
  of_network taken.Replied here part (step, steps, stands, was, so) =
      (step, inr steps, here step steps stands, was, so)
  of_network taken.WriteFault here part (step, steps, stands, was, so) =
      (step, inr steps, here step steps stands, was, so)
  of_network taken.DiskFault here part none = absurd none
  of_network taken.LinkFault here part (was, its) = (was, part refl its)

-- ---- lines of octets

asked_steps : (around : Surroundings) (octets : List ℕ) (asked : Line) → Asks octets (Ok asked)
    → (old : State) (step : Step) → LineSteps around asked old step
    → OctetsStep around octets old step
asked_steps around octets asked asks old step steps = (Ok asked, asks, steps)

-- a line that was read
pub of_asked : (around : Surroundings) (octets : List ℕ) (asked : Line) → Asks octets (Ok asked)
    → (answer : Taken) (network : Option (List Incoming)) (Given : Type 0) (Opens : Config → Type 0)
    (old : State) (P : State → Type 0) (held : List ℕ) (before : List Datagram)
    (out : Option (List ℕ)) (sent : Option (List Datagram))
    → LineLeaves answer (LineSteps around asked old) (PartOf around asked old before network sent)
    Given Opens old P held before out sent
    → LineLeaves answer (OctetsStep around octets old)
    (PartOfOctets around octets old before network sent) Given Opens old P held before out sent
of_asked around octets asked asks answer network Given Opens old P held before out sent =
    mapped (LineSteps around asked old) (OctetsStep around octets old)
    (PartOf around asked old before network sent)
    (PartOfOctets around octets old before network sent) Given Given Opens Opens old P held before
    out sent answer (asked_steps around octets asked asks old) (λ part. (asked, asks, part))
    (λ given. given) (λ after opens. opens)

memory_told : text_of (outcome.NotRead OutOfMemory) ≡ memory_text
unfolding reply_of
memory_told = refl

-- ---- lines that ask less

module _ (Steps : Step → Type 0) (Part Given : Type 0) (Opens : Config → Type 0) (old : State)
    (P : State → Type 0) (held : List ℕ) (before : List Datagram) (out : Option (List ℕ))
    (sent : Option (List Datagram)) where
  pub no_disk : (answer : Taken)
      → LineLeaves answer Steps Part ⊤ (λ after. ⊥) old P held before out sent
      → LineLeaves answer Steps Part Given Opens old P held before out sent
  no_disk answer leaves =
      mapped Steps Steps Part Part ⊤ Given (λ after. ⊥) Opens old P held before out sent answer
      (λ step steps. steps) (λ part. part) (λ given. tt) (λ after none. absurd none) leaves

  pub no_fault : (answer : Taken)
      → LineLeaves answer Steps ⊥ ⊤ (λ after. ⊥) old P held before out sent
      → LineLeaves answer Steps Part Given Opens old P held before out sent
  no_fault answer leaves =
      mapped Steps Steps ⊥ Part ⊤ Given (λ after. ⊥) Opens old P held before out sent answer
      (λ step steps. steps) (λ none. absurd none) (λ given. tt) (λ after none. absurd none) leaves

-- ---- lines that aren't read

pub not_memory : (asked : Line) → ◌≡◌ {A = Result Line LineFault} (Ok asked) (Err OutOfMemory) → ⊥
not_memory asked e = absurd (Prim.cc)

pub same_fault : (fault : LineFault)
    → ◌≡◌ {A = Result Line LineFault} (Err fault) (Err OutOfMemory) → fault ≡ OutOfMemory
same_fault fault e = cc

module _ (around : Surroundings) (octets : List ℕ) (old : State) (server : Server)
    (network : Option (List Incoming)) (random : Stream)
    (here : StandsFor old server network random) (held : List ℕ) (before : List Datagram)
    (out : Option (List ℕ)) (sent : Option (List Datagram)) (unsent : sent ≡ Some before) where
  refused : (fault : LineFault) → Asks octets (Err fault) → (o : Output)
      → OutputOf held out o (text_of (outcome.NotRead fault))
      → CameTo o (OrMemory (OctetsStep around octets old) old)
      (λ new. StandsFor new server network random) held before out sent
  refused fault asks o was =
      stepped (OctetsStep around octets old) ⊤ ⊤ (λ after. ⊤) old server network random held before
      out sent unsent o old.engine (text_of (outcome.NotRead fault)) (Err fault, asks, refl) here was

  wanted : (o : Output) → OutputOf held out o (text_of (outcome.NotRead OutOfMemory))
      → CameTo o (OrMemory (OctetsStep around octets old) old)
      (λ new. StandsFor new server network random) held before out sent
  wanted o was =
      memory (OctetsStep around octets old) ⊤ ⊤ (λ after. ⊤) old server network random held before
      out sent unsent o here
      (subst (λ (t : List ℕ). OutputOf held out o t) memory_told was)

  told_fault : (fault : LineFault) → (fault ≢ OutOfMemory → Asks octets (Err fault)) → (o : Output)
      → OutputOf held out o (text_of (outcome.NotRead fault))
      → CameTo o (OrMemory (OctetsStep around octets old) old)
      (λ new. StandsFor new server network random) held before out sent
  told_fault (BadLine reason member change) asks o was =
      refused (BadLine reason member change) (asks (λ e. absurd (Prim.cc))) o was
  told_fault (Unsupported member change) asks o was =
      refused (Unsupported member change) (asks (λ e. absurd (Prim.cc))) o was
  told_fault OutOfMemory asks o was = wanted o was

pub of_fault : (around : Surroundings) (octets : List ℕ) (fault : LineFault)
    → (fault ≢ OutOfMemory → Asks octets (Err fault)) → (answer : Taken) (Part Given : Type 0)
    (Opens : Config → Type 0) (old : State) (server : Server) (network : Option (List Incoming))
    (random : Stream) → StandsFor old server network random → (held : List ℕ)
    (before : List Datagram) (out : Option (List ℕ)) (sent : Option (List Datagram))
    → sent ≡ Some before → Written answer held out (text_of (outcome.NotRead fault))
    → LineLeaves answer (OctetsStep around octets old) Part Given Opens old
    (λ new. StandsFor new server network random) held before out sent
of_fault around octets fault asks taken.Replied Part Given Opens old server network random here held
    before out sent unsent was =
    told_fault around octets old server network random here held before out sent unsent fault asks
    output.Whole was
of_fault around octets fault asks taken.WriteFault Part Given Opens old server network random here
    held before out sent unsent was =
    told_fault around octets old server network random here held before out sent unsent fault asks
    output.Failed was
of_fault around octets fault asks taken.DiskFault Part Given Opens old server network random here
    held before out sent unsent was =
    absurd was
of_fault around octets fault asks taken.LinkFault Part Given Opens old server network random here
    held before out sent unsent was =
    absurd was

-- ---- what was written

pub as_written : (o : Output) (answer : Taken) → answer ≡ taken_of o → (held : List ℕ)
    (out : Option (List ℕ)) (reply : List ℕ) → OutputOf held out o reply
    → Written answer held out reply
as_written o answer is held out reply was =
    subst (λ (t : Taken). Written t held out reply) (sym is) (go o was)
  where
    go : (o : Output) → OutputOf held out o reply → Written (taken_of o) held out reply
    go output.Whole its = its
    go output.Failed its = its
