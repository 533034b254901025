use Rattle.std.proofs.Common.{◌∙◌, inl, inr, refl, sym}
use Rattle.file_building.proofs.Moments.{only_still, rests_joined}
use Rattle.zone_journal.proofs.Syncs.{same_now, both}
use Rattle.zone_journal.proofs.Openings.{from_a, from_b}
use Rattle.zone_journal.proofs.journal.ZoneJournal.open.Goals as goal

pub returns-in-File-A-default-clause-gives : goal.returns-in-File-A-default-clause-gives
returns-in-File-A-default-clause-gives g c = λ x y tx ty.
    from_a c.begin.result x y (c.begin.ensures.gives x y (c.choose.ensures.a_rests.reads
    ∙ c.settle.ensures.reading ∙ tx) (c.choose.ensures.b_rests.reads
    ∙ c.settle-2.ensures.reading ∙ ty))

pub returns-in-File-B-default-clause-gives : goal.returns-in-File-B-default-clause-gives
returns-in-File-B-default-clause-gives g c = λ x y tx ty.
    from_b c.begin-in-File-B-default.result x y
    (c.begin-in-File-B-default.ensures.gives y x (c.choose.ensures.b_rests.reads
    ∙ c.settle-2.ensures.reading ∙ ty) (c.choose.ensures.a_rests.reads
    ∙ c.settle.ensures.reading ∙ tx))

pub returns-in_default-settle-clause-syncs : goal.returns-in_default-settle-clause-syncs
returns-in_default-settle-clause-syncs g c = λ x y tx ty.
    inl (c.in_default-settle.ensures.images x tx, same_now (g.D.Disk.images c.args.b.now))

pub returns-in_default-settle-2-clause-syncs : goal.returns-in_default-settle-2-clause-syncs
returns-in_default-settle-2-clause-syncs g c = λ x y tx ty.
    inr (inl (c.in-Whole.ensures.images x tx, c.in_default-settle-2.ensures.images y ty))

pub begin-requires-clause-other : goal.begin-requires-clause-other
begin-requires-clause-other g c = λ y told.
    only_still c.choose.ensures.b_rests
    (c.in-Whole-settle.ensures.only refl y (sym c.choose.ensures.b_rests.reads ∙ told))

pub begin-requires-in-File-B-default-clause-active
    : goal.begin-requires-in-File-B-default-clause-active
begin-requires-in-File-B-default-clause-active g c = λ y told.
    only_still c.choose.ensures.b_rests
    (c.in-Whole-settle.ensures.only refl y (sym c.choose.ensures.b_rests.reads ∙ told))

pub returns-in-Neither-clause-syncs : goal.returns-in-Neither-clause-syncs
returns-in-Neither-clause-syncs g c = λ x y tx ty. (
  only_still c.choose.ensures.a_rests (c.in-Whole.ensures.only refl x (c.settle.ensures.reading
      ∙ tx)),
  only_still c.choose.ensures.b_rests
      (c.in-Whole-settle.ensures.only refl y (c.settle-2.ensures.reading ∙ ty)),
)

pub returns-in-File-A-default-clause-syncs : goal.returns-in-File-A-default-clause-syncs
returns-in-File-A-default-clause-syncs g c = λ x y tx ty.
    both g.D.Disk.images c.begin.result x y _ _ _ _ (
      only_still (rests_joined c.choose.ensures.a_rests c.begin.ensures.rests)
          (c.in-Whole.ensures.only refl x (c.settle.ensures.reading ∙ tx)),
      only_still c.choose.ensures.b_rests
          (c.in-Whole-settle.ensures.only refl y (c.settle-2.ensures.reading ∙ ty)),
    )

pub returns-in-File-B-default-clause-syncs : goal.returns-in-File-B-default-clause-syncs
returns-in-File-B-default-clause-syncs g c = λ x y tx ty.
    both g.D.Disk.images c.begin-in-File-B-default.result x y _ _ _ _ (
      only_still c.choose.ensures.a_rests (c.in-Whole.ensures.only refl x (c.settle.ensures.reading
          ∙ tx)),
      only_still (rests_joined c.choose.ensures.b_rests c.begin-in-File-B-default.ensures.rests)
          (c.in-Whole-settle.ensures.only refl y (c.settle-2.ensures.reading ∙ ty)),
    )
