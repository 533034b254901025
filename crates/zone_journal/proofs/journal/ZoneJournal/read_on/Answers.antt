use Rattle.std.proofs.Common.{◌≡◌, ◌∙◌, ⊎_elim, sym, ap, subst}
use Rattle.file_building.specs.Append.{EndsAt}
use Rattle.file_building.specs.Read.{IsRead, ReadsOn as ReadsFile, NextGives as NextOfFile, UnlessSome}
use Rattle.file_building.proofs.Reading.{stands_reads}
use Rattle.zone_journal.specs.Standing.{State, ReadsWith, StandsWith}
use Rattle.zone_journal.specs.Opening.{NextGives, OnNone, UnlessSome as UnlessSomeOfPair, IsNoMore, on_side}
use Rattle.zone_journal.proofs.Openings.{next_gives, reads_still, at_none, unless_some, no_more}
use Rattle.zone_journal.proofs.journal.ZoneJournal.read_on.Goals as goal

pub returns-clause-gives : goal.returns-clause-gives
returns-clause-gives g c = λ s es x told r.
    let old = c.args.self.now in
    let new : State =
    record {
      side = c.self.inside.side;
      generation = c.self.inside.generation;
      at =
          c.next-read.new.self;
      plan = c.self.inside.plan;
    } in
    let moved : new ≡ record c.args.self.now { at = c.next-read.new.self } =
    ap (λ (v : State). record v { at = c.next-read.new.self }) c.self.view_is in
    let at_is : c.self.inside.journal ≡ old.at = ap (λ (v : State). v.at) c.self.view_is in
    let here = subst (λ n. IsRead n x old.generation s es) (sym at_is) r in
    let gives =
    subst (λ n. NextOfFile c.next-read.result n c.next-read.new.self x old.generation s es)
    at_is (c.next-read.ensures.gives old.generation s es x told here) in
    let side = c.on_side.ensures
    ∙ ap (λ (v : State). on_side v.side c.next-read.result) c.self.view_is in
    subst (λ q. NextGives q old new x s es) (sym side)
    (next_gives c.next-read.result old new x s es moved gives)

pub next-read-requires : goal.next-read-requires
next-read-requires g c =
    let D = g.D.Disk in
    subst (λ n. ReadsFile D.reading D.images n c.args.active.now)
    (sym (ap (λ (v : State). v.at) c.self.view_is))
    (⊎_elim (λ reads. reads.journal)
    (λ stands. stands_reads D.reading D.images c.args.self.now.at c.args.active.now
    stands.journal) c.requires)

pub returns-clause-reads_on : goal.returns-clause-reads_on
returns-clause-reads_on g c = λ reads.
    let D = g.D.Disk in
    let new : State =
    record {
      side = c.self.inside.side;
      generation = c.self.inside.generation;
      at =
          c.next-read.new.self;
      plan = c.self.inside.plan;
    } in
    let moved : new ≡ record c.args.self.now { at = c.next-read.new.self } =
    ap (λ (v : State). record v { at = c.next-read.new.self }) c.self.view_is in
    subst (λ v. ReadsWith D.reading D.images v c.next-read.new.disk c.args.other.now) (sym moved)
    (reads_still D.reading D.images D.moment D.images_since c.args.self.now c.args.active.now
    c.next-read.new.disk c.args.other.now
    c.next-read.ensures.rests reads c.next-read.new.self c.next-read.ensures.reads_on)

pub returns-clause-at_end : goal.returns-clause-at_end
returns-clause-at_end g c =
    let D = g.D.Disk in
    let new : State =
    record {
      side = c.self.inside.side;
      generation = c.self.inside.generation;
      at =
          c.next-read.new.self;
      plan = c.self.inside.plan;
    } in
    let moved : new ≡ record c.args.self.now { at = c.next-read.new.self } =
    ap (λ (v : State). record v { at = c.next-read.new.self }) c.self.view_is in
    let stays =
    subst (λ n. UnlessSome c.next-read.result (c.next-read.new.self ≡ n))
    (ap (λ (v : State). v.at) c.self.view_is) c.next-read.ensures.stays in
    subst (λ q. OnNone q (StandsWith D.reading D.images new c.next-read.new.disk c.args.other.now))
    (sym c.on_side.ensures)
    (subst (λ v. OnNone (on_side c.self.inside.side c.next-read.result)
    (StandsWith D.reading D.images v c.next-read.new.disk c.args.other.now)) (sym moved)
    (at_none D.reading D.images D.moment D.images_since c.args.self.now c.args.active.now
    c.next-read.new.disk c.args.other.now
    c.next-read.ensures.rests c.next-read.result c.self.inside.side c.next-read.new.self
    c.next-read.ensures.at_end stays c.requires))

pub returns-clause-stands : goal.returns-clause-stands
returns-clause-stands g c = λ stands.
    let D = g.D.Disk in
    let new : State =
    record {
      side = c.self.inside.side;
      generation = c.self.inside.generation;
      at =
          c.next-read.new.self;
      plan = c.self.inside.plan;
    } in
    let moved : new ≡ record c.args.self.now { at = c.next-read.new.self } =
    ap (λ (v : State). record v { at = c.next-read.new.self }) c.self.view_is in
    let stays =
    subst (λ n. UnlessSome c.next-read.result (c.next-read.new.self ≡ n))
    (ap (λ (v : State). v.at) c.self.view_is) c.next-read.ensures.stays in
    subst (λ q.
    UnlessSomeOfPair q (StandsWith D.reading D.images new c.next-read.new.disk c.args.other.now))
    (sym c.on_side.ensures)
    (subst (λ v. UnlessSomeOfPair (on_side c.self.inside.side c.next-read.result)
    (StandsWith D.reading D.images v c.next-read.new.disk c.args.other.now)) (sym moved)
    (unless_some D.reading D.images D.moment D.images_since c.args.self.now c.args.active.now
    c.next-read.new.disk c.args.other.now
    c.next-read.ensures.rests c.next-read.result c.self.inside.side c.next-read.new.self stays
    stands))

pub returns-clause-ended : goal.returns-clause-ended
returns-clause-ended g c = λ x told stands.
    let at_is = sym (ap (λ (v : State). v.at) c.self.view_is) in
    subst IsNoMore (sym c.on_side.ensures) (no_more c.next-read.result c.self.inside.side
    (c.next-read.ensures.ended x told (subst (λ n. EndsAt n x) at_is (stands.journal.file x told))))
