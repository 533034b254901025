use Rattle.std.proofs.Common.{◌∙◌, ◌∷◌, [], sym, arith}
use Rattle.query_engine.specs.Groups.{sets_in}
use Rattle.reply_records.specs.Groups.{sets_in_zone}
use Rattle.settled_replies.proofs.Descending.{comes_by}
use Rattle.settled_replies.proofs.Lasting.{first_of}
use Rattle.settled_replies.proofs.Selected.{held_one, one_place}
use Rattle.settled_replies.proofs.alone.scope_for.Goals as goal

pub returns-clause-comes : goal.returns-clause-comes
returns-clause-comes g c =
    let zones = c.args.zones.now.zones in
    let group = c.args.group in
    let zone = sets_in_zone zones group.zone in
    let sets = sets_in zones group in
    let front = c.requires.first in
    let others = first_of sets front.0 front.1 in
    let one = held_one zones c.descend_held-selected.result c.descend_held-selected.new.scratch
    (c.is_one.ensures.0 c.if-not-is_one.false) c.descend_held-selected.ensures.held in (
      one.0,
      one.1,
      λ healthy agrees.
          let gives = c.descend_held-selected.ensures.gives healthy agrees in (
            c.descend_held-selected.new.used,
            (
              comes_by _ zone sets front.0 others.0 others.1 (c.requires.wordless front.0 front.2) one.0
                  c.descend_held-selected.new.used (sym gives.sets ∙ one.2)
                  (sym gives.count ∙ c.if-choices-ne1.false) (sym gives.uses),
              sym c.told_scope.ensures,
            ),
          ),
    )

pub returns-then-choices-ne1-clause-none : goal.returns-then-choices-ne1-clause-none
returns-then-choices-ne1-clause-none g c = λ none healthy agrees its.
    let one = its (0 ∷ 0 ∷ 0 ∷ 0 ∷ 0 ∷ 0 ∷ 0 ∷ 0 ∷ []) in
    let gives = c.descend_held-selected.ensures.gives healthy agrees in
    c.if-choices-ne1.true (gives.count ∙ one.2)

pub returns-then-not-is_one-clause-none : goal.returns-then-not-is_one-clause-none
returns-then-not-is_one-clause-none g c = λ none healthy agrees its.
    let one = its (0 ∷ 0 ∷ 0 ∷ 0 ∷ 0 ∷ 0 ∷ 0 ∷ 0 ∷ []) in
    let gives = c.descend_held-selected.ensures.gives healthy agrees in
    let place = c.is_one.ensures.1 (one_place c.args.zones.now.zones c.descend_held-selected.result one.0
    c.descend_held-selected.ensures.places (gives.sets ∙ one.1)) in
    absurd (grind (arith, place, c.if-not-is_one.true))
