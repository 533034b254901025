-- A batch makes one edit, or has one refusal.
use Rattle.std.proofs.Common.{◌≡◌, ◌≢◌, List, [], ◌∷◌, ap, ◌∙◌, sym, subst, map, inl, inr}
use Rattle.std.proofs.Common.{arith}
use Rattle.std.specs.Prelude.{Result, Ok, Err}
use Rattle.record_set.specs.declared.sets.RecordSet.{RecordSet}
use Rattle.record_set.specs.declared.sets.SetKey.{SetKey}
use Rattle.record_set.specs.Sets.{key_of}
use Rattle.batch_names.specs.AllZones.{placed_in}
use Rattle.config_model.specs.Slotted.{sets_of}
use Rattle.change_batch.specs.BatchRefusalRecord.{BatchRefusal}
use Rattle.change_batch.specs.BatchRefusalRecord.TheVariants as batch
use Rattle.change_batch.proofs.Answering.{one_answer}
use Rattle.config_model.specs.Differences.{AreMissing, IsDifference}
use Rattle.batch_edits.specs.Edits.{after_edit}
use Rattle.batch_edits.specs.Laws.{OneBatchEdit}
use Rattle.batch_edits.specs.declared.editing.Edit.{Edit}

one_missing : (others sets found more : List RecordSet) → AreMissing sets others found
    → AreMissing sets others more → found ≡ more
one_missing others [] found more are also = are ∙ sym also
one_missing others (set ∷ sets) found more (inl a) (inl b) =
    one_missing others sets found more a.1 b.1
one_missing others (set ∷ sets) found more (inl a) (inr b) = absurd (b.0 a.0)
one_missing others (set ∷ sets) found more (inr a) (inl b) = absurd (a.0 b.0)
one_missing others (set ∷ sets) found more (inr a) (inr b) =
    a.1.1
    ∙ ap (λ (s : List RecordSet). set ∷ s) (one_missing others sets a.1.0 b.1.0 a.1.2 b.1.2)
    ∙ sym b.1.1

one_difference : (before after : List RecordSet) (edit other : Edit)
    → IsDifference before after edit.remove edit.add
    → IsDifference before after other.remove other.add → edit ≡ other
one_difference before after edit other is also =
    let gone : is.goes.0 ≡ also.goes.0 =
    one_missing after before is.goes.0 also.goes.0 is.goes.1 also.goes.1 in
    let remove : edit.remove ≡ other.remove =
    is.goes.2 ∙ ap (map key_of) gone ∙ sym also.goes.2 in
    let add : edit.add ≡ other.add =
    one_missing before after edit.add other.add is.comes also.comes in
    let parts : (edit.remove, edit.add) ≡ (other.remove, other.add) = cc in
    ap (λ (p : List SetKey × List RecordSet). record { remove = p.0; add = p.1 }) parts

abbrev made : List RecordSet → Result (List RecordSet) BatchRefusal
made sets = Ok sets

-- the sets of an answer
abbrev sets_in : List RecordSet → Result (List RecordSet) BatchRefusal → List RecordSet
sets_in else_these (Ok sets) = sets
sets_in else_these (Err why) = else_these

abbrev refusal_in : BatchRefusal → Result (List RecordSet) BatchRefusal → BatchRefusal
refusal_in else_this (Ok sets) = else_this
refusal_in else_this (Err why) = why

no_memory : (sets : List RecordSet) → made sets ≢ Err batch.OutOfMemory
no_memory sets e = grind (arith, e)

pub one_batch_edit : OneBatchEdit
one_batch_edit zones zone apex changes (Ok edit) (Ok other) is also calm calm_too =
    let sets = sets_of (placed_in zones zone) in
    let one : after_edit edit sets ≡ after_edit other sets =
    ap (sets_in [])
    (one_answer sets apex changes (Ok (after_edit edit sets)) (Ok (after_edit other sets)) is.0.after
    also.0.after (no_memory (after_edit edit sets)) (no_memory (after_edit other sets))) in
    ap Ok
    (one_difference sets (after_edit edit sets) edit other is.0.difference
    (subst (λ a. IsDifference sets a other.remove other.add) (sym one) also.0.difference))
one_batch_edit zones zone apex changes (Ok edit) (Err why) is also calm calm_too =
    let sets = sets_of (placed_in zones zone) in
    let one =
    one_answer sets apex changes (Ok (after_edit edit sets)) (Err why) is.0.after also
    (no_memory (after_edit edit sets)) (λ e. calm_too (ap (λ w. Err w) (ap (refusal_in why) e))) in
    absurd (grind (arith, one))
one_batch_edit zones zone apex changes (Err why) (Ok other) is also calm calm_too =
    let sets = sets_of (placed_in zones zone) in
    let one =
    one_answer sets apex changes (Err why) (Ok (after_edit other sets)) is also.0.after
    (λ e. calm (ap (λ w. Err w) (ap (refusal_in why) e))) (no_memory (after_edit other sets)) in
    absurd (grind (arith, one))
one_batch_edit zones zone apex changes (Err why) (Err because) is also calm calm_too =
    let sets = sets_of (placed_in zones zone) in
    ap (λ w. Err w)
    (ap (refusal_in why)
    (one_answer sets apex changes (Err why) (Err because) is also
    (λ e. calm (ap (λ w. Err w) (ap (refusal_in why) e)))
    (λ e. calm_too (ap (λ w. Err w) (ap (refusal_in because) e)))))
