use Rattle.std.proofs.Common.{◌≡◌, ◌+◌, ◌++◌, ◌∷◌, [], take, refl, sym, ◌∙◌, ap, subst}
use Rattle.std.specs.Prelude.{Ok, Err}
use Rattle.std.proofs.lemmas.List.{take_more}
use Rattle.std.proofs.lemmas.Option.{slice_get_read}
use Rattle.batch_limits.specs.Batches.{Leaves, Prepares}
use Rattle.batch_limits.specs.Changing.{Applies}
use Rattle.batch_limits.proofs.Staying.{zones_stay}
use Rattle.batch_limits.proofs.Telling.{leaves_more, refused_told}
use Rattle.zone_rules.specs.Lent.{sets_lent}
use Rattle.change_batch.proofs.whole.lend_after.Goals as goal

pub loop-i-preserved : goal.loop-i-preserved
loop-i-preserved c =
    let sets = c.args.sets.now in
    let apex = c.args.apex.now in
    let changes = c.args.changes.now in
    let x = c.index-changes-i in
    let gives : Applies (sets_lent c.loop-i.after.items) apex x.result (Ok (sets_lent c.apply.new.sets.items)) =
    c.in-Ok-apply.ensures.ok in
    let more : take c.loop-i.i changes ++ x.result ∷ [] ≡ take (c.loop-i.i + 1) changes =
    ap (λ v. take c.loop-i.i changes ++ v ∷ []) x.is
    ∙ sym (take_more changes c.loop-i.i x.result c.loop-i-test.true) in
    record {
      leaves = subst (λ front. Leaves sets apex front (sets_lent c.apply.new.sets.items)) more
          (leaves_more sets apex (take c.loop-i.i changes) x.result (sets_lent c.loop-i.after.items)
          (sets_lent c.apply.new.sets.items) c.loop-i.invariant.leaves gives);
      zone = zones_stay (sets_lent c.loop-i.after.items) apex x.result (sets_lent c.apply.new.sets.items)
          c.loop-i.invariant.zone gives;
    }

pub returns-in-Err-apply-clause-refused : goal.returns-in-Err-apply-clause-refused
returns-in-Err-apply-clause-refused c =
    let x = c.index-changes-i in
    subst (λ why. Prepares c.args.sets.now c.args.apex.now c.args.changes.now (Err why))
    (sym c.at.ensures)
    (refused_told c.args.sets.now c.args.apex.now c.args.changes.now c.loop-i.i x.result
    (sets_lent c.loop-i.after.items) c.in-Err-apply.why c.requires.limits
    (slice_get_read c.args.changes.now _ c.loop-i.i x.result refl c.loop-i-test.true x.is)
    c.loop-i.invariant.leaves c.in-Err-apply.ensures.err)
