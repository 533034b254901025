use Rattle.std.proofs.Common.{◌≡◌, sym, ap, subst, length, rules}
use Rattle.file_building.proofs.Moments.{started}
use Rattle.file_building.specs.Layout.{OpensTo}
use Rattle.file_building.specs.Append.{UnlessFault, HasCause as FileCause, MovesOn as FileMoves}
use Rattle.zone_journal.specs.Standing.{State, StandsWith}
use Rattle.zone_journal.specs.Appending.{Fits}
use Rattle.zone_journal.proofs.Appends.{unless}
use Rattle.zone_journal.proofs.journal.ZoneJournal.append_to.Goals as goal

pub returns-in-Some-clause-any_moment : goal.returns-in-Some-clause-any_moment
returns-in-Some-clause-any_moment g c = λ n s es x told o.
    let D = g.D.Disk in
    started D.moment D.images_since c.args.active.now (λ f. OpensTo f n s es)
    (λ f left.
    (subst (λ l. OpensTo l n s es)
    (sym (c.requires.journal.durable x told f (g.met.D.Disk.only_now c.args.active.now f left)))
    o))

pub returns-clause-stands : goal.returns-clause-stands
returns-clause-stands g c =
    let D = g.D.Disk in
    let old = c.args.self.now in
    let at_is : c.self.inside.journal ≡ old.at = ap (λ (v : State). v.at) c.self.view_is in
    let moved = ap (λ (v : State). record v { at = c.append.new.self }) c.self.view_is in
    let fits : Fits old (length c.args.entry.now) = search rules in
    let moves =
    subst (λ n. FileMoves c.append.result n (length c.args.entry.now) c.append.new.self) at_is
    c.append.ensures.moves in
    let cause =
    subst (λ n. FileCause c.append.result n (length c.args.entry.now)) at_is
    c.append.ensures.cause in
    subst (λ v.
    UnlessFault c.append.result
    (StandsWith D.reading D.images v c.append.new.disk c.args.other.now)) (sym moved)
    (unless D.reading D.images old c.args.active.now c.append.new.disk c.args.other.now c.requires
    c.args.entry.now fits c.append.ensures.untold c.append.result c.append.new.self moves cause
    c.append.ensures.stands c.append.ensures.leaves)
