use Rattle.std.proofs.Common.{◌++◌, ◌∷◌, [], ◌∙◌, ap, append_assoc, append-nil, arith, refl, subst, sym, take, List, ℕ}
use Rattle.policy_select.specs.Records.{data_of}
use Rattle.zone_model.proofs.Lists.{take_more}
use Rattle.reply_records.proofs.Written.{all_of}
use Rattle.reply_records.specs.Seeing.{Sees}
use Rattle.reply_records.proofs.seen.note_held.Goals as goal

pub loop-i-init : goal.loop-i-init
loop-i-init c = record {
  within = c.requires.within;
  room = refl;
  sees = λ set rdatas held sees.
      subst (λ (ds : List (List ℕ)). Sees ds c.args.values.now c.args.seen.now)
      (sym (append-nil rdatas)) sees;
}

pub loop-i-preserved : goal.loop-i-preserved
loop-i-preserved c = record {
  within = c.note.ensures.within;
  room = c.note.ensures.room ∙ c.loop-i.invariant.room;
  sees = λ set rdatas held sees.
      let x = c.value_at.result.now in
      let so_far = take c.loop-i.i (data_of set.body) in
      subst (λ (ds : List (List ℕ)). Sees ds c.note.new.values c.note.new.seen)
      (append_assoc rdatas so_far (x ∷ [])
      ∙ ap (λ (ds : List (List ℕ)). rdatas ++ ds)
      (sym (take_more (data_of set.body) c.loop-i.i x (c.value_at.ensures set held))))
      (c.note.ensures.sees (rdatas ++ so_far) (c.loop-i.invariant.sees set rdatas held sees));
}

pub returns-clause-sees : goal.returns-clause-sees
returns-clause-sees c = λ set rdatas held sees.
    let counted = c.count_of-i-end.ensures.count set held in
    let behind = c.loop-i-test.false in
    subst (λ (ds : List (List ℕ)). Sees (rdatas ++ ds) c.loop-i.values c.loop-i.seen)
    (all_of (data_of set.body) c.loop-i.i (omega (arith, counted, behind)))
    (c.loop-i.invariant.sees set rdatas held sees)
