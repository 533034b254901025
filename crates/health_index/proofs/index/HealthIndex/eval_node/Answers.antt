use Rattle.std.proofs.Common.{◌≡◌, ◌≤◌, ◌<◌, ◌⊎◌, ◌∙◌, ℕ, List, arith, refl, ap, sym, inl, inr, Some}
use Rattle.std.specs.Prelude.{slice_get}
use mathlib.Core.Path.{subst}
use Rattle.health_valves.specs.Valves.{ValvesStandFor, size_of}
use Rattle.health_valves.specs.declared.valves.Valves.{Valves}
use Rattle.health_index.specs.Index.{HasNode, Index, IsLaidFor, IsNumberOf}
use Rattle.health_planning.specs.Wired.{IsSpare, IsVacant}
use Rattle.health_index.proofs.Evaluating.{still_idle, works_alone, works_out_of}
use Rattle.health_index.proofs.Numbering.{not_vacant, past, there}
use Rattle.health_index.proofs.index.HealthIndex.eval_node.Goals as goal

-- a spare valve is not that of a node
not_of_node : (numbers : List ℕ) (valve node size : ℕ) {P Q : Type 0} → IsSpare numbers valve
    → ((place : ℕ) × (slice_get numbers place ≡ Some node)) ⊎ (((200 ≤ node) × Q) ⊎ ((size ≤ node) × P))
    → node < size → valve ≡ node → ⊥
not_of_node numbers valve node size spare (inl low) within e = spare.1 low.0 (low.1 ∙ ap Some (sym e))
not_of_node numbers valve node size spare (inr (inl high)) within e =
    let late = high.0 in
    let early = spare.0 in
    omega arith
not_of_node numbers valve node size spare (inr (inr behind)) within e = let late = behind.0 in omega arith

pub returns-then-node-len-clause-meets : goal.returns-then-node-len-clause-meets
returns-then-node-len-clause-meets g c net own fits ends within =
    let now = ap (λ (i : Index). size_of i.valves) c.self.view_is in
    let many = c.len.ensures in
    absurd (omega arith)

pub returns-then-node-len-clause-works_out : goal.returns-then-node-len-clause-works_out
returns-then-node-len-clause-works_out g c zones checks reports n laid is =
    let now = ap (λ (i : Index). size_of i.valves) c.self.view_is in
    let many = c.len.ensures in
    elim is [
      | inl own ↦
          let within = there zones checks reports c.args.self.now laid c.args.node n own in
          let size = laid.fits.laid.size in
          absurd (omega arith)
      | inr behind ↦ works_alone c.views_agree.ensures zones checks reports c.args.self.now c.args.self.now refl laid c.args.node n behind
    ]

pub eval_node-requires-clause-node : goal.eval_node-requires-clause-node
eval_node-requires-clause-node g c = let many = c.len.ensures in omega arith

pub invariant_of-self : goal.invariant_of-self
invariant_of-self g c =
    let w = c.self.invariant in
    record {
      net = w.net;
      own = w.own;
      fits = c.eval_node.ensures.fits w.net w.own w.fits;
      idle = still_idle _ _ c.eval_node.ensures.rest w.idle;
      as_many = w.as_many;
      apart = w.apart;
      numbers = w.numbers;
      within = w.within;
      seated = w.seated;
      given = w.given;
      alone = w.alone;
      spare = w.spare;
    }

pub returns-clause-fits : goal.returns-clause-fits
returns-clause-fits g c net own fits =
    c.eval_node.ensures.fits net own
    (subst (λ (valves : Valves). ValvesStandFor net own valves) (ap (λ (i : Index). i.valves) (sym c.self.view_is)) fits)

pub returns-clause-works_out : goal.returns-clause-works_out
returns-clause-works_out g c zones checks reports n laid is =
    let inner = subst (IsLaidFor zones checks reports) (sym c.self.view_is) laid in
    let its = subst (λ (i : Index). IsNumberOf zones i c.args.node n) (sym c.self.view_is) is in
    let has = subst (λ (i : Index). HasNode i c.args.node) (sym c.self.view_is) c.requires.node in
    let many = c.len.ensures in
    let e = c.eval_node.ensures in
    elim its [
      | inl own ↦
          works_out_of c.views_agree.ensures zones checks reports _ inner c.eval_node.new.self (e.fits inner.net inner.own inner.fits)
          (still_idle _ _ e.rest inner.idle)
          (λ valve spare.
          e.others valve (λ same. not_of_node c.self.inside.numbers.items valve c.args.node (size_of c.self.inside.valves) spare has (omega arith) same) ∙ inner.spare valve spare)
          (λ valve within vacant.
          e.others valve (λ same. not_vacant zones checks reports _ inner c.args.node n own (subst (IsVacant inner.net) same vacant)) ∙ inner.vacant valve within vacant)
          _ c.self.view_is
          c.args.node n c.eval_node.result own (e.meets inner.net inner.own inner.fits inner.ends) (λ k. e.spares inner.net inner.own k inner.fits) e.changed
      | inr behind ↦
          let late = past zones checks reports _ inner c.args.node n behind in
          absurd (omega arith)
    ]
