use Rattle.std.proofs.Common.{◌≡◌, ℕ, ◌+◌, ap, sym, ◌∙◌, subst, List, length, Some}
use Rattle.octet_region.specs.declared.cells.Cell.{Cell}
use Rattle.octet_region.specs.Cells.{cells_for, octets_at, number_at, begin_as}
use Rattle.octet_region.specs.Chains.{octets_in}
use Rattle.octet_region.specs.Shape.{octets_by, octets_of, IsIntact}
use Rattle.octet_region.proofs.Sound.{live_chain, live_cells, last_there, free_sound, free_here, free_there2}
use Rattle.octet_region.proofs.chains.free_along.Goals as goal

some_same : (xs ys : List ℕ) → Some xs ≡ Some ys → xs ≡ ys
some_same xs ys e = cc

pub last_along-last-requires : goal.last_along-last-requires
last_along-last-requires c =
    live_chain c.args.cells.now c.args.first c.args.free c.args.spare c.requires.sound c.requires.live

pub number_as-requires-clause-within : goal.number_as-requires-clause-within
number_as-requires-clause-within c =
    last_there c.args.cells.now c.args.first c.args.free c.args.spare c.requires.sound c.requires.live
    c.last_along-last.result.0 c.last_along-last.ensures.last

pub returns-clause-sound : goal.returns-clause-sound
returns-clause-sound c =
    let a = c.last_along-last in
    let e = c.begin_as.ensures ∙ ap (λ (w : List Cell). begin_as w c.args.first 0) c.number_as.ensures in
    let s =
    free_sound c.args.cells.now c.args.first c.args.free c.args.spare c.requires.sound c.requires.live
    a.result.0 a.ensures.last a.result.1 a.ensures.count in
    subst (λ (w : List Cell). IsIntact w c.args.first (c.args.spare + a.result.1)) (sym e) s

pub returns-clause-count : goal.returns-clause-count
returns-clause-count c = λ octets known.
    let cells = c.args.cells.now in
    let first = c.args.first in
    let a = c.last_along-last in
    let is : octets_of cells first ≡ Some (octets_in cells first) =
    ap (λ b. octets_by (octets_at cells) (number_at cells) (length cells) first b) c.requires.live in
    let same = some_same (octets_in cells first) octets (sym is ∙ known) in
    a.ensures.count
    ∙ sym (live_cells cells first c.args.free c.args.spare c.requires.sound c.requires.live)
    ∙ ap (λ (o : List ℕ). cells_for (length o)) same

pub returns-clause-gone : goal.returns-clause-gone
returns-clause-gone c =
    let a = c.last_along-last in
    let e = c.begin_as.ensures ∙ ap (λ (w : List Cell). begin_as w c.args.first 0) c.number_as.ensures in
    ap (λ (w : List Cell). octets_of w c.args.first) e
    ∙ free_here c.args.cells.now c.args.first c.args.free c.args.spare c.requires.sound c.requires.live
    a.result.0 a.ensures.last

pub returns-clause-others : goal.returns-clause-others
returns-clause-others c = λ q ne.
    let a = c.last_along-last in
    let e = c.begin_as.ensures ∙ ap (λ (w : List Cell). begin_as w c.args.first 0) c.number_as.ensures in
    ap (λ (w : List Cell). octets_of w q) e
    ∙ free_there2 c.args.cells.now c.args.first c.args.free c.args.spare c.requires.sound c.requires.live
    a.result.0 a.ensures.last q ne
