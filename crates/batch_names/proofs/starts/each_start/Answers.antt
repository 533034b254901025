use Rattle.std.specs.declared.alloc.Global.{Global}
use Rattle.std.proofs.Common.{Vec, ℕ, List, ◌≡◌, ◌+◌, ◌++◌, ◌∷◌, [], take, sym, ◌∙◌, ap, subst}
use Rattle.std.proofs.lemmas.List.{take_more}
use Rattle.zone_table.specs.Zones.{placed_in}
use Rattle.zone_table.specs.Slotted.{sets_of}
use Rattle.batch_names.specs.Starts.{AreStarts}
use Rattle.batch_names.proofs.Starting.{no_more_start, one_more_start}
use Rattle.batch_names.proofs.starts.each_start.Goals as goal
use Rattle.batch_names.proofs.starts.each_start.Goals.{in-Some+in_ok-push, in_default}

pub loop-change-preserved : goal.loop-change-preserved
loop-change-preserved c =
    let sets = sets_of (placed_in c.args.zones.now.zones c.args.zone) in
    let changes = c.args.changes.now in
    let i = c.loop-change.change-index in
    let x = c.change-item in
    let more : take i changes ++ x.result ∷ [] ≡ take (i + 1) changes =
    ap (λ v. take i changes ++ v ∷ []) x.is
    ∙ sym (take_more changes i x.result c.loop-change-test.true) in
    subst (λ front. AreStarts sets front c.match-start_of.starts.items) more
    (elim c.match-start_of.branch [
      | in-Some+in_ok-push w ↦
          subst (λ (s : List ℕ). AreStarts sets (take i changes ++ x.result ∷ []) s)
          (sym (ap (λ (v : Vec ℕ Global). v.items) w.starts-is ∙ w.in_ok-push.ensures.items))
          (one_more_start sets (take i changes) x.result c.loop-change.starts.items
          c.loop-change.invariant w.in-Some.start w.in-Some.ensures)
      | in_default w ↦
          subst (λ (s : List ℕ). AreStarts sets (take i changes ++ x.result ∷ []) s)
          (sym (ap (λ (v : Vec ℕ Global). v.items) w.starts-is))
          (no_more_start sets (take i changes) x.result c.loop-change.starts.items
          c.loop-change.invariant w.in_default.ensures)
    ])
