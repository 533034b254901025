use Rattle.std.proofs.Common.{◌≡◌, ◌≤◌, ◌+◌, length, drop, get_or, arith, ap, sym, ◌∙◌, true, length-drop}
use Rattle.octets.specs.Octal.{has_octal, octal_of}
use Rattle.dns_name.specs.Text.{add_character}
use Rattle.dns_name.proofs.Reading.{advances, stops, at_dot, at_escape, at_bad_escape, at_graphic, at_bad_byte}
use Rattle.dns_name.proofs.spelling.Spelling.take.Goals as goal

pub returns-in-Ok-clause-ok : goal.returns-in-Ok-clause-ok
returns-in-Ok-clause-ok c = λ done label s.
    let e = c.in-Ok.ensures.ok done label s in
    advances c.args.text.now done label c.args.at c.requires.within 0 _ _ _ _ _
    (at_dot done label c.args.at (get_or c.args.text.now c.args.at 0)
    (drop (c.args.at + 1) c.args.text.now) c.if-b-eq46.true
    ∙ e.1) (omega (arith, c.requires.within)) e.0

pub returns-in-Err-clause-err : goal.returns-in-Err-clause-err
returns-in-Err-clause-err c = λ done label s.
    stops c.args.text.now done label c.args.at c.requires.within _
    (at_dot done label c.args.at (get_or c.args.text.now c.args.at 0)
    (drop (c.args.at + 1) c.args.text.now) c.if-b-eq46.true
    ∙ c.in-Err.ensures.err done label s)

pub returns-in_default-clause-err : goal.returns-in_default-clause-err
returns-in_default-clause-err c = λ done label s.
    stops c.args.text.now done label c.args.at c.requires.within _
    (at_bad_escape done label c.args.at (get_or c.args.text.now c.args.at 0)
    (drop (c.args.at + 1) c.args.text.now) c.if-b-eq92.true (ap has_octal (sym c.behind.ensures)
    ∙ c.in_default.ensures.none))

pub returns-in-Ok-add_character-clause-ok : goal.returns-in-Ok-add_character-clause-ok
returns-in-Ok-add_character-clause-ok c = λ done label s.
    let e = c.in-Ok-add_character.ensures.ok done label 3 s in
    let found : has_octal (drop (c.args.at + 1) c.args.text.now) ≡ true =
    ap has_octal (sym c.behind.ensures) ∙ c.in-Some.ensures.found in
    let value : octal_of (drop (c.args.at + 1) c.args.text.now) ≡ c.in-Some.value =
    ap octal_of (sym c.behind.ensures) ∙ sym c.in-Some.ensures.some in
    let room : 3 ≤ length (drop (c.args.at + 1) c.args.text.now) =
    omega (arith, ap length c.behind.ensures, c.in-Some.ensures.room) in
    advances c.args.text.now done label c.args.at c.requires.within 3 _ _ _ _ _
    (at_escape done label c.args.at (get_or c.args.text.now c.args.at 0)
    (drop (c.args.at + 1) c.args.text.now) c.if-b-eq92.true found
    ∙ ap (λ v. add_character done label c.args.at v 3) value
    ∙ e.1)
    (omega (arith, room, length-drop (c.args.at + 1) c.args.text.now)) e.0

pub returns-in-Err-add_character-clause-err : goal.returns-in-Err-add_character-clause-err
returns-in-Err-add_character-clause-err c = λ done label s.
    let found : has_octal (drop (c.args.at + 1) c.args.text.now) ≡ true =
    ap has_octal (sym c.behind.ensures) ∙ c.in-Some.ensures.found in
    let value : octal_of (drop (c.args.at + 1) c.args.text.now) ≡ c.in-Some.value =
    ap octal_of (sym c.behind.ensures) ∙ sym c.in-Some.ensures.some in
    stops c.args.text.now done label c.args.at c.requires.within _
    (at_escape done label c.args.at (get_or c.args.text.now c.args.at 0)
    (drop (c.args.at + 1) c.args.text.now) c.if-b-eq92.true found
    ∙ ap (λ v. add_character done label c.args.at v 3) value
    ∙ c.in-Err-add_character.ensures.err done label 3 s)

pub returns-then-not-is_graphic-clause-err : goal.returns-then-not-is_graphic-clause-err
returns-then-not-is_graphic-clause-err c = λ done label s.
    stops c.args.text.now done label c.args.at c.requires.within _
    (at_bad_byte done label c.args.at (get_or c.args.text.now c.args.at 0)
    (drop (c.args.at + 1) c.args.text.now) c.if-b-eq46.false c.if-b-eq92.false
    (sym c.is_graphic.ensures
    ∙ c.if-not-is_graphic.true))

pub returns-in-Ok-add_character-2-clause-ok : goal.returns-in-Ok-add_character-2-clause-ok
returns-in-Ok-add_character-2-clause-ok c = λ done label s.
    let e = c.in-Ok-add_character-2.ensures.ok done label 0 s in
    advances c.args.text.now done label c.args.at c.requires.within 0 _ _ _ _ _
    (at_graphic done label c.args.at (get_or c.args.text.now c.args.at 0)
    (drop (c.args.at + 1) c.args.text.now) c.if-b-eq46.false c.if-b-eq92.false
    (sym c.is_graphic.ensures
    ∙ c.if-not-is_graphic.false) ∙ e.1)
    (omega (arith, c.requires.within)) e.0

pub returns-in-Err-add_character-2-clause-err : goal.returns-in-Err-add_character-2-clause-err
returns-in-Err-add_character-2-clause-err c = λ done label s.
    stops c.args.text.now done label c.args.at c.requires.within _
    (at_graphic done label c.args.at (get_or c.args.text.now c.args.at 0)
    (drop (c.args.at + 1) c.args.text.now) c.if-b-eq46.false c.if-b-eq92.false
    (sym c.is_graphic.ensures
    ∙ c.if-not-is_graphic.false) ∙ c.in-Err-add_character-2.ensures.err done label 0 s)
