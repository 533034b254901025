use Rattle.std.proofs.Common.{◌≡◌, ◌∙◌, Some, ap, subst, arith}
use Rattle.gate_journal.specs.Disk.{written, WriteLeaves}
use Rattle.gate_journal.proofs.Moments.{started, goes_on}
use Rattle.file_building.specs.Building.{IsShut, Plan}
use Rattle.file_building.proofs.Gates.{frees_shut, write_told}
use Rattle.file_building.proofs.build.copy.Goals as goal

pub returns-clause-copied : goal.returns-clause-copied
returns-clause-copied g c = λ whole y told.
    let next_is : c.plan.inside.next ≡ c.args.plan.now.next =
    ap (λ (p : Plan). p.next) c.plan.view_is in
    subst (λ r. WriteLeaves r y c.plan.inside.next c.fill.new.piece
    (g.D.Disk.reading c.write_at.new.self)) whole (c.write_at.ensures.reading y told)
    ∙ ap (λ n. Some (written y n c.fill.new.piece)) next_is

pub returns-clause-told : goal.returns-clause-told
returns-clause-told g c =
    λ y told. write_told c.write_at.result y _ _ _ (c.write_at.ensures.reading y told)

pub returns-clause-any_moment : goal.returns-clause-any_moment
returns-clause-any_moment g c = λ y told shut.
    let D = g.D.Disk in
    let at_start =
    started D.moment D.images_since c.args.other.now IsShut
    (λ f left. shut f (g.met.D.Disk.only_now c.args.other.now f left)) in
    goes_on D.moment D.images_since D.images _ _ c.write_at.new.self IsShut at_start
    c.write_at.ensures.time
    (λ f now. frees_shut c.write_at.result _ _ (D.images c.args.other.now)
    (D.images c.write_at.new.self)
    (omega (arith, c.requires.begun, ap (λ (p : Plan). p.next) c.plan.view_is)) shut
    (c.write_at.ensures.images y told) f now)
