use Rattle.std.proofs.Common.{◌≡◌, ◌∙◌, ap, sym, List, ℕ, Some}
use Rattle.std.specs.Prelude.{slice_get}
use Rattle.std.specs.Str.{bytes_eq}
use Rattle.policy_select.specs.Records.{data_of}
use Rattle.record_set.specs.declared.sets.RecordSet.{RecordSet}
use Rattle.policy_select.specs.Bodies.{wires_of}
use Rattle.reply_records.proofs.Joined.{any_not, any_so}
use Rattle.reply_records.proofs.Shown.{its_data, of_held}
use Rattle.reply_records.proofs.joint.has_value.Goals as goal

pub returns-then-is_same : goal.returns-then-is_same
returns-then-is_same c = λ set held.
    let x = c.value.result.now in
    let rdata = c.args.rdata.now in
    let rdatas = data_of set.body in
    let wire = of_held (λ (s : RecordSet). slice_get (wires_of s.body) c.loop-i.i ≡ Some x)
    c.args.scratch.now set held c.value.ensures.wire in
    let at = ap (λ (ds : List (List ℕ)). slice_get ds c.loop-i.i) (sym (its_data set.body)) ∙ wire in
    sym (any_so (bytes_eq rdata) rdatas c.loop-i.i x at (sym c.is_same.ensures ∙ c.if-is_same.true))
    ∙ c.loop-i.invariant set held

pub loop-i-preserved : goal.loop-i-preserved
loop-i-preserved c = λ set held.
    let x = c.value.result.now in
    let rdata = c.args.rdata.now in
    let rdatas = data_of set.body in
    let wire = of_held (λ (s : RecordSet). slice_get (wires_of s.body) c.loop-i.i ≡ Some x)
    c.args.scratch.now set held c.value.ensures.wire in
    let at = ap (λ (ds : List (List ℕ)). slice_get ds c.loop-i.i) (sym (its_data set.body)) ∙ wire in
    sym (any_not (bytes_eq rdata) rdatas c.loop-i.i x at
    (sym c.is_same.ensures ∙ c.if-is_same.false)) ∙ c.loop-i.invariant set held
