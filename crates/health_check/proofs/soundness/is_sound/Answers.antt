use Rattle.std.proofs.Common.{ap, ◌∙◌, sym, arith}
use Rattle.std.proofs.lemmas.Bool.{false≢true}
use Rattle.check_model.specs.Commands.{is_too_deep}
use Rattle.check_model.proofs.Walks.{not_deep, shallow_of}
use Rattle.health_check.proofs.Marked.{none_changed}
use Rattle.health_check.proofs.soundness.is_sound.Goals as goal

pub returns-then-is_too_deep_with : goal.returns-then-is_too_deep_with
returns-then-is_too_deep_with c = (
  λ t. absurd (false≢true t),
  λ sound. absurd (false≢true (sym (not_deep c.args.list.now sound.shallow)
      ∙ ap is_too_deep (sym (none_changed c.args.list.now c.args.next sound.ids))
      ∙ sym c.is_too_deep_with.ensures ∙ c.if-is_too_deep_with.true)),
)

pub returns : goal.returns
returns c = (
  λ t. (let few = c.if-list-gt-MAX_CHECKS.false in
      let some = c.if-next-eq0.false in
      let fits = c.ranges.next in
      let ids = c.have_ids.ensures.0 c.if-not-have_ids.false in
      record {
        few = omega (arith, few);
        from = omega (arith, some);
        to = omega (arith, fits);
        ids = ids;
        rising = c.ids_rise.ensures.0 c.if-not-ids_rise.false;
        children = c.have_children.ensures.0 c.if-not-have_children.false;
        shallow = shallow_of c.args.list.now
            (ap is_too_deep (sym (none_changed c.args.list.now c.args.next ids))
            ∙ sym c.is_too_deep_with.ensures ∙ c.if-is_too_deep_with.false);
        bounded = c.are_bounded.ensures.0 t;
      }),
  λ sound. c.are_bounded.ensures.1 sound.bounded,
)
