-- A session has one beginning.
use Rattle.std.proofs.Common.{◌≡◌, ◌∙◌, ℕ, List, [], Bool, false, Option, None, ap, refl, subst, sym}
use Rattle.config_model.specs.Configs.{Config}
use Rattle.engine_model.specs.Engine.{Engine, Journal, Plan}
use Rattle.health_model.specs.Statuses.{Report}
use Rattle.r53_io.specs.Network.{Incoming}
use Rattle.rand_core.specs.Stream.{Stream}
use Rattle.session_model.specs.Steps.{State}
use Rattle.session_run.specs.Laws.{NoStoreOrBeginning, OneBeginning}
use Rattle.session_run.specs.Running.{Given, IsBeginning}
use Rattle.store_model.specs.Laws.{NoStoreOrConfig, OneShape, PairOpensToOneConfig}
use Rattle.zone_journal.specs.declared.answers.Side.{Side}

journals : (j k : Journal) → j.side ≡ k.side → j.generation ≡ k.generation → j.length ≡ k.length
    → j.plan ≡ k.plan → j ≡ k
journals j k side generation length plan =
    ap (λ (s : Side). record { side = s; generation = j.generation; length = j.length; plan = j.plan }) side
    ∙ ap (λ (g : ℕ). record { side = k.side; generation = g; length = j.length; plan = j.plan }) generation
    ∙ ap (λ (n : ℕ). record { side = k.side; generation = k.generation; length = n; plan = j.plan }) length
    ∙ ap (λ (p : Option Plan). record {
      side = k.side;
      generation = k.generation;
      length = k.length;
      plan = p;
    }) plan

engines : (e f : Engine) → e.config ≡ f.config → e.reports ≡ f.reports → e.journal ≡ f.journal
    → e ≡ f
engines e f config reports journal =
    ap (λ (c : Config). record { config = c; reports = e.reports; journal = e.journal }) config
    ∙ ap (λ (r : List Report). record { config = f.config; reports = r; journal = e.journal }) reports
    ∙ ap (λ (j : Journal). record { config = f.config; reports = f.reports; journal = j }) journal

states : (s t : State) → s.engine ≡ t.engine → s.bound ≡ t.bound → s.arrivals ≡ t.arrivals
    → s.words ≡ t.words → s ≡ t
states s t engine bound arrivals words =
    ap (λ (e : Engine). record { engine = e; bound = s.bound; arrivals = s.arrivals; words = s.words }) engine
    ∙ ap (λ (b : Bool). record { engine = t.engine; bound = b; arrivals = s.arrivals; words = s.words }) bound
    ∙ ap (λ (l : List Incoming). record { engine = t.engine; bound = t.bound; arrivals = l; words = s.words }) arrivals
    ∙ ap (λ (w : Stream). record { engine = t.engine; bound = t.bound; arrivals = t.arrivals; words = w }) words

pub one : PairOpensToOneConfig → OneShape → OneBeginning
one configs shapes given start other a b =
    let same = shapes given.x given.y start.engine.journal.side other.engine.journal.side
    start.engine.journal.generation other.engine.journal.generation
    start.engine.journal.length other.engine.journal.length a.shape b.shape in
    states start other
    (engines start.engine other.engine
    (configs given.x given.y start.engine.config other.engine.config a.config b.config)
    (a.reports ∙ sym b.reports)
    (journals start.engine.journal other.engine.journal same.0 same.1 same.2
    (a.plan ∙ sym b.plan)))
    (a.bound ∙ sym b.bound) (a.coming ∙ sym b.coming) (a.random ∙ sym b.random)

pub none : NoStoreOrConfig → NoStoreOrBeginning
none law given start side place is told =
    law given.x given.y start.engine.config side place is.config told
