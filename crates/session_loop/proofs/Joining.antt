-- A session over some lines, and one over the lines behind them, are one over all.
use Rattle.std.proofs.Common.{◌≡◌, ◌∙◌, ℕ, List, [], ◌∷◌, ◌++◌, Bool, true, false, Option, Some, ap, append_assoc, refl, subst, sym}
use Rattle.line_splitting.specs.Lines.{Event, Line, TooLong}
use Rattle.line_splitting.specs.Reading.{Reader, events, is_over_limit, whole}
use Rattle.r53_io.specs.Network.{Incoming}
use Rattle.rand_core.specs.Stream.{Stream}
use Rattle.session_loop.specs.Ending.{AllTold, Ends, First, IsAll, IsPartWritten, IsBroken, AreReplied, IsHalted, IsUnsent}
use Rattle.session_loop.specs.Turning.{GoesOn, beyond, input_of}
use Rattle.session_loop.specs.declared.ended.Ended.{Ended}
use Rattle.session_loop.specs.declared.ended.Ended.TheVariants as ended
use Rattle.session_server.specs.Replies.{too_long_text}
use Rattle.session_server.specs.Serving.{Datagram}
use Rattle.session_server.specs.Sessions.{ComesTo, Session, begun, joined, told_alone}
use Rattle.session_server.specs.Steps.{State, Step, Surroundings}
use Rattle.session_server.specs.Standing.{Server}
use Rattle.session_server.specs.Taking.{PartOfOctets}
use Rattle.whole_writing.specs.Output.{OutputOf}
use Rattle.whole_writing.specs.declared.output.Output.TheVariants as output

-- what comes of both
abbrev pub followed : Session → Session → Session
followed s t = record {
  new = t.new;
  output = s.output ++ t.output;
  sent = s.sent ++ t.sent;
}

regroup : (step : Step) (s t : Session) → followed (joined step s) t ≡ joined step (followed s t)
regroup step s t =
    ap (λ (o : List ℕ). record {
      new = t.new;
      output = o;
      sent = step.sent ++ s.sent ++ t.sent;
    }) (append_assoc step.reply s.output t.output)
    ∙ ap (λ (d : List Datagram). record {
      new = t.new;
      output = step.reply ++ (s.output ++ t.output);
      sent = d;
    }) (append_assoc step.sent s.sent t.sent)

module _ (around : Surroundings) where
  pub comes_join : (done more : List Event) (choices others : List Bool) (start : State)
      (s t : Session) → ComesTo around done choices start s → ComesTo around more others s.new t
      → ComesTo around (done ++ more) (choices ++ others) start (followed s t)
  comes_join [] more [] others start s t is comes =
      subst (λ (u : Session). ComesTo around more others u.new t
      → ComesTo around more others start (followed u t)) (sym is) (λ its. its) comes
  comes_join [] more (choice ∷ choices) others start s t none comes = absurd none
  comes_join (TooLong ∷ done) more choices others start s t (rest, first, is) comes = (
    followed rest t,
    comes_join done more choices others start rest t first
        (subst (λ (u : Session). ComesTo around more others u.new t) is comes),
    ap (λ (u : Session). followed u t) is ∙ regroup (told_alone too_long_text start) rest t,
  )
  comes_join (Line line ∷ done) more [] others start s t none comes = absurd none
  comes_join (Line line ∷ done) more (choice ∷ choices) others start s t
      (step, rest, steps, first, is) comes = (
        step,
        followed rest t,
        steps,
        comes_join done more choices others step.new rest t first
            (subst (λ (u : Session). ComesTo around more others u.new t) is comes),
        ap (λ (u : Session). followed u t) is ∙ regroup step rest t,
      )

  pub first_join : (lines middle more : List Event) (start : State) (s t : Session)
      → First around lines start middle s → First around middle s.new more t
      → First around lines start more (followed s t)
  first_join lines middle more start s t f g = record {
    done = f.done ++ g.done;
    choices = f.choices ++ g.choices;
    parts = f.parts ∙ ap (λ (l : List Event). f.done ++ l) g.parts
        ∙ sym (append_assoc f.done g.done more);
    comes = comes_join f.done g.done f.choices g.choices start s t f.comes g.comes;
  }

pub told_join : (s t : Session) (held : List ℕ) (before : List Datagram) (out : Option (List ℕ))
    (sent : Option (List Datagram)) → AllTold t (held ++ s.output) (before ++ s.sent) out sent
    → AllTold (followed s t) held before out sent
told_join s t held before out sent told = record {
  replies = told.replies ∙ ap Some (append_assoc held s.output t.output);
  datagrams = told.datagrams ∙ ap Some (append_assoc before s.sent t.sent);
}

-- ---- turns

module _ (around : Surroundings) (first middle : Reader) (left : List ℕ) (had : Option (List ℕ))
    (start : State) (before_it : Server) (came : Option (List Incoming)) (drawn : Stream)
    (held : List ℕ) (before : List Datagram) (was_out : Option (List ℕ))
    (was_sent : Option (List Datagram))
    (g : GoesOn around first middle left had start before_it came drawn held before was_out
    was_sent) where
  pub goes_join : (last : Reader) (after : Option (List ℕ)) (server : Server)
      (network : Option (List Incoming)) (random : Stream) (out : Option (List ℕ))
      (sent : Option (List Datagram))
      → GoesOn around middle last g.rest after g.session.new server network random
      (held ++ g.session.output) (before ++ g.session.sent) out sent
      → GoesOn around first last left after start server network random held before out sent
  unfolding first_join
  goes_join last after server network random out sent h = record {
    seen = g.seen ++ h.seen;
    rest = h.rest;
    session = followed g.session h.session;
    parts = g.parts ∙ ap (λ (l : List ℕ). g.seen ++ l) h.parts
        ∙ sym (append_assoc g.seen h.seen h.rest);
    has = h.has;
    first = first_join around (events first left) (events middle g.rest) (events last h.rest) start
        g.session h.session g.first h.first;
    cut = h.cut ∙ g.cut;
    beyond = h.beyond ∙ g.beyond;
    going = λ is. g.going (h.going is);
    whole = λ is more. append_assoc g.first.done h.first.done (whole last more)
        ∙ ap (λ (l : List Event). g.first.done ++ l) (h.whole is more)
        ∙ g.whole (h.going is) (h.seen ++ more)
        ∙ ap (λ (l : List ℕ). whole first l) (sym (append_assoc g.seen h.seen more));
    told = told_join g.session h.session held before out sent h.told;
    stands = h.stands;
  }

  module _ {D : Type 0} (images : D → List ℕ → Type 0) (a b : D)
      (after : Option (List ℕ)) (network : Option (List Incoming)) (random : Stream)
      (out : Option (List ℕ)) (sent : Option (List Datagram)) where
    told_on : (more : List Event)
        → AreReplied images a b around (events middle g.rest) g.session.new more
        (held ++ g.session.output) (before ++ g.session.sent) network random out sent
        → AreReplied images a b around (events first left) start more held before network random out sent
    told_on more h = record {
      session = followed g.session h.session;
      first = first_join around (events first left) (events middle g.rest) more start g.session
          h.session g.first h.first;
      told = told_join g.session h.session held before out sent h.told;
      rest = h.rest;
      files = h.files;
    }

    all_on : IsAll images a b around (input_of middle g.rest) g.session.new
        (held ++ g.session.output) (before ++ g.session.sent) after network random out sent
        → IsAll images a b around (input_of first left) start held before after network random out
        sent
    all_on h = (h.0 ∙ ap Some g.beyond, told_on [] h.1)

    broken_on : middle.ended ≡ false
        → IsBroken images a b around (input_of middle g.rest) g.session.new
        (held ++ g.session.output) (before ++ g.session.sent) after network random out sent
        → IsBroken images a b around (input_of first left) start held before after network random out
        sent
    unfolding told_on first_join
    broken_on going h = record {
      seen = g.seen ++ h.seen;
      unseen = h.unseen;
      more = h.more;
      parts = g.parts ∙ ap (λ (l : List ℕ). g.seen ++ l) h.parts
          ∙ sym (append_assoc g.seen h.seen h.unseen);
      has = h.has;
      all = told_on h.more h.all;
      ending = ap (λ (l : List Event). g.first.done ++ l) h.ending ∙ g.whole going h.seen;
    }

    pub ends_join : (how : Ended) → (how ≡ ended.ReadFault → middle.ended ≡ false)
        → Ends how images a b around (input_of middle g.rest) g.session.new
        (held ++ g.session.output) (before ++ g.session.sent) after network random out sent
        → Ends how images a b around (input_of first left) start held before after network random
        out sent
    ends_join ended.Done going h = (sym g.cut ∙ h.0, all_on h.1)
    ends_join ended.InputTooLong going h = (sym g.cut ∙ h.0, all_on h.1)
    ends_join ended.ReadFault going h = broken_on (going refl) h
    ends_join ended.WriteFault going h = record {
      session = followed g.session h.session;
      event = h.event;
      more = h.more;
      step = h.step;
      first = first_join around (events first left) (events middle g.rest) (h.event ∷ h.more) start
          g.session h.session g.first h.first;
      comes = h.comes;
      reply = subst (λ (l : List ℕ). OutputOf l out output.Failed h.step.reply)
          (append_assoc held g.session.output h.session.output) h.reply;
      datagrams = h.datagrams ∙ ap (λ (l : List Datagram). Some (l ++ h.step.sent))
          (append_assoc before g.session.sent h.session.sent);
      rest = h.rest;
      files = h.files;
    }
    ends_join ended.DiskFault going h = record {
      session = followed g.session h.session;
      octets = h.octets;
      more = h.more;
      step = h.step;
      first = first_join around (events first left) (events middle g.rest)
          (Line h.octets ∷ h.more) start g.session h.session g.first h.first;
      told = told_join g.session h.session held before out sent h.told;
      rest = h.rest;
      asks = h.asks;
      steps = h.steps;
      files = h.files;
    }
    ends_join ended.LinkFault going h = record {
      session = followed g.session h.session;
      octets = h.octets;
      more = h.more;
      first = first_join around (events first left) (events middle g.rest)
          (Line h.octets ∷ h.more) start g.session h.session g.first h.first;
      replies = h.replies ∙ ap Some (append_assoc held g.session.output h.session.output);
      part = subst (λ (l : List Datagram). PartOfOctets around h.octets h.session.new l network sent)
          (append_assoc before g.session.sent h.session.sent) h.part;
      files = h.files;
    }
