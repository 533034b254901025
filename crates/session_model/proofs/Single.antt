-- One step of a line, and one session of an input.
use Rattle.std.proofs.Common.{◌≡◌, ◌⊎◌, inl, inr, ℕ, zero, suc, List, [], ◌∷◌, Bool, true, false, Option, None, Some, Result, Ok, Err, ap, ◌∙◌, sym, refl, subst}
use Rattle.answer_model.specs.Laws.{OneReply}
use Rattle.answer_model.specs.Reply.{Asker}
use Rattle.batch_json.specs.Lines.{IsJson, line_of}
use Rattle.batch_json.specs.declared.asking.Line.{Line}
use Rattle.batch_json.specs.declared.asking.Line.TheVariants as line
use Rattle.check_lines.specs.declared.observing.Observation.{Observation}
use Rattle.config_model.specs.declared.refusals.Made.{Made}
use Rattle.config_model.specs.declared.refusals.Refusal.{Refusal}
use Rattle.engine_model.specs.Engine.{Engine, served_in}
use Rattle.engine_model.specs.Laws.{OneCommandStep, OneCompactionStep, OneReportStep}
use Rattle.engine_model.specs.declared.answers.Compacted.{Compacted}
use Rattle.engine_model.specs.declared.answers.Reported.{Reported}
use Rattle.geo_latency.specs.declared.tables.Tables.{Tables}
use Rattle.line_faults.specs.declared.fault.LineFault.{LineFault}
use Rattle.line_splitting.specs.Lines.{Event, Line as Asked, TooLong}
use Rattle.r53_io.specs.Network.{Dns, Incoming, Quiet, Report}
use Rattle.reply_model.specs.Outcomes.{text_of}
use Rattle.serde_json.specs.Data.{Data}
use Rattle.session_model.specs.Asking.{Asks}
use Rattle.session_model.specs.Laws.{OneAsked, OneSession, OneStep}
use Rattle.session_model.specs.Replies.{command_outcome, compact_outcome, query_text, report_outcome}
use Rattle.session_model.specs.Replies.{too_long_text}
use Rattle.session_model.specs.Serving.{TurnsOutcome, TakesTurn, TakesTurns, after_packet, after_report}
use Rattle.session_model.specs.Serving.{words_of}
use Rattle.session_model.specs.Sessions.{ComesTo, LineComes, Session, joined, told_alone}
use Rattle.session_model.specs.Steps.{LineSteps, OctetsStep, State, Step, Surroundings, ToldSteps}
use Rattle.session_model.specs.Steps.{after_turns, at_first_turn, replied}

some_same : {X : Type 0} {x y : X} → Some x ≡ Some y → x ≡ y
some_same e = cc

apart : {X : Type 0} → true ≡ false → X
apart e = absurd (Prim.cc)

-- ---- what is asked

pub asked : OneAsked
asked line told other (inl (v, is_v, so)) (inl (w, is_w, too)) =
    so ∙ ap line_of (some_same (sym is_v.is_it ∙ is_w.is_it)) ∙ sym too
asked line told other (inl (v, is_v, so)) (inr (none, too)) = absurd (none v is_v)
asked line told other (inr (none, so)) (inl (w, is_w, too)) = absurd (none w is_w)
asked line told other (inr (none, so)) (inr (none_too, too)) = so ∙ sym too

-- ---- turns

module _ (reply : OneReply) (tables : Tables) where
  turn : (came : Incoming) (old new other : TurnsOutcome) → TakesTurn tables came old new
      → TakesTurn tables came old other → new ≡ other
  turn (Dns peer packet) old new other (answer, gives, so) (told, gives_too, too) =
      so ∙ ap (λ (a : Option (List ℕ)). after_packet peer a old)
      (reply (served_in old.engine tables)
      (record { peer = peer.address; words = words_of 8 old.words }) packet answer told gives
      gives_too) ∙ sym too
  turn (Report octets) old new other (inl (seen, known, so)) (inl (found, known_too, too)) =
      so ∙ ap (λ (s : Observation). after_report s old)
      (some_same (sym known.0 ∙ known_too.0)) ∙ sym too
  turn (Report octets) old new other (inl (seen, known, so)) (inr (none, too)) =
      absurd (none seen known)
  turn (Report octets) old new other (inr (none, so)) (inl (found, known_too, too)) =
      absurd (none found known_too)
  turn (Report octets) old new other (inr (none, so)) (inr (none_too, too)) = so ∙ sym too
  turn Quiet old new other so too = so ∙ sym too

  turns : (n : ℕ) (arrivals : List Incoming) (old : TurnsOutcome) (left rest : List Incoming)
      (new other : TurnsOutcome) → TakesTurns tables n arrivals old left new
      → TakesTurns tables n arrivals old rest other → (left ≡ rest) × (new ≡ other)
  turns zero arrivals old left rest new other so too = (so.0 ∙ sym too.0, so.1 ∙ sym too.1)
  turns (suc n) [] old left rest new other so too = (so.0 ∙ sym too.0, so.1 ∙ sym too.1)
  turns (suc n) (came ∷ more) old left rest new other (mid, one, others) (then, one_too, others_too) =
      turns n more then left rest new other
      (subst (λ (s : TurnsOutcome). TakesTurns tables n more s left new)
      (turn came old mid then one one_too) others)
      others_too

-- ---- a line

module _ (reply : OneReply) (command : OneCommandStep) (report : OneReportStep)
    (compaction : OneCompactionStep) (around : Surroundings) where
  both : {X Y : Type 0} (f : X → Y → Step) {x z : X} {y w : Y} → (x ≡ z) × (y ≡ w)
      → f x y ≡ f z w
  both f {x} {z} {y} {w} (e, d) = ap (λ a. f a y) e ∙ ap (λ b. f z b) d

  line_step : (asked : Line) (old : State) (step other : Step) → LineSteps around asked old step
      → LineSteps around asked old other → step ≡ other
  line_step (line.Control given) old step other (came, after, steps, so) (told, then, steps_too, too) =
      so ∙ both (λ (e : Engine) (r : Result Made Refusal). replied old e
      (text_of (command_outcome given r)))
      (let same = command old.engine after then given came told steps steps_too in (same.1, same.0))
      ∙ sym too
  line_step (line.List list) old step other so too = so ∙ sym too
  line_step (line.Status id) old step other so too = so ∙ sym too
  line_step (line.Observe seen) old step other (came, after, steps, so) (told, then, steps_too, too) =
      so ∙ both (λ (e : Engine) (r : Reported). replied old e (text_of (report_outcome seen.id r)))
      (let same = report old.engine after then seen.id seen.checker seen.pass came told steps
      steps_too in (same.1, same.0))
      ∙ sym too
  line_step (line.Query asked) old step other (answer, gives, so) (told, gives_too, too) =
      so ∙ ap (λ (a : Option (List ℕ)). replied old old.engine (query_text a))
      (reply (served_in old.engine around.tables)
      (record { peer = asked.address; words = asked.words }) asked.packet answer told gives
      gives_too) ∙ sym too
  line_step (line.Bind ports) old step other (inl (is, so)) (inl (is_too, too)) = so ∙ sym too
  line_step (line.Bind ports) old step other (inl (is, so)) (inr (none, too)) =
      apart (sym is ∙ none)
  line_step (line.Bind ports) old step other (inr (none, so)) (inl (is, too)) =
      apart (sym is ∙ none)
  line_step (line.Bind ports) old step other (inr (none, so)) (inr (none_too, too)) = so ∙ sym too
  line_step (line.Serve n) old step other (inl (none, so)) (inl (none_too, too)) = so ∙ sym too
  line_step (line.Serve n) old step other (inl (none, so)) (inr (is, rest, told, turned, too)) =
      apart (sym is ∙ none)
  line_step (line.Serve n) old step other (inr (is, left, served, turned, so)) (inl (none, too)) =
      apart (sym is ∙ none)
  line_step (line.Serve n) old step other (inr (is, left, served, turned, so))
      (inr (is_too, rest, told, turned_too, too)) =
      so ∙ both (λ (l : List Incoming) (s : TurnsOutcome). after_turns old l s)
      (turns reply around.tables n old.arrivals (at_first_turn old) left rest served told turned
      turned_too)
      ∙ sym too
  line_step (line.Compact pieces) old step other (came, after, steps, so)
      (told, then, steps_too, too) =
      so ∙ both (λ (e : Engine) (r : Compacted). replied old e (text_of (compact_outcome r)))
      (let same = compaction old.engine after then pieces came told steps steps_too in
      (same.1, same.0))
      ∙ sym too

  told_step : (told : Result Line LineFault) (old : State) (step other : Step)
      → ToldSteps around told old step → ToldSteps around told old other → step ≡ other
  told_step (Ok asked) old step other so too = line_step asked old step other so too
  told_step (Err fault) old step other so too = so ∙ sym too

  pub octets_step : (line : List ℕ) (old : State) (step other : Step)
      → OctetsStep around line old step → OctetsStep around line old other → step ≡ other
  octets_step line old step other (told, asks, steps) (found, asks_too, steps_too) =
      told_step found old step other
      (subst (λ (t : Result Line LineFault). ToldSteps around t old step)
      (asked line told found asks asks_too) steps)
      steps_too

pub step : OneReply → OneCommandStep → OneReportStep → OneCompactionStep → OneStep
step reply command report compaction around line old one other =
    octets_step reply command report compaction around line old one other

-- ---- a session

module _ (one : OneStep) (around : Surroundings) where
  line_comes : (line : List ℕ) (wanted : Bool) (old : State) (its other : Step)
      → LineComes around line wanted old its → LineComes around line wanted old other
      → its ≡ other
  line_comes line true old its other so too = so ∙ sym too
  line_comes line false old its other so too = one around line old its other so too

  pub comes : (lines : List Event) (choices : List Bool) (old : State) (session other : Session)
      → ComesTo around lines choices old session → ComesTo around lines choices old other
      → session ≡ other
  comes [] [] old session other so too = so ∙ sym too
  comes [] (choice ∷ choices) old session other never too = absurd never
  comes (TooLong ∷ lines) choices old session other (more, rest, so) (then, rest_too, too) =
      so ∙ ap (λ (s : Session). joined (told_alone too_long_text old) s)
      (comes lines choices old more then rest rest_too) ∙ sym too
  comes (Asked line ∷ lines) [] old session other never too = absurd never
  comes (Asked line ∷ lines) (choice ∷ choices) old session other (its, more, came, rest, so)
      (found, then, came_too, rest_too, too) =
      let same : its ≡ found = line_comes line choice old its found came came_too in
      so ∙ ap (λ (s : Step). joined s more) same
      ∙ ap (λ (s : Session). joined found s) (comes lines choices found.new more then
      (subst (λ (s : Step). ComesTo around lines choices s.new more) same rest) rest_too)
      ∙ sym too

pub session : OneStep → OneSession
session one around lines choices old its other = comes one around lines choices old its other
