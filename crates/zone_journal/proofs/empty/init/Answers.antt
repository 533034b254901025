use Rattle.std.proofs.Common.{◌∙◌, inl, inr, refl}
use Rattle.zone_journal.proofs.Syncs.{same_now}
use Rattle.zone_journal.proofs.Stores.{made_from, makes_told}
use Rattle.zone_journal.proofs.empty.init.Goals as goal

pub returns-in-Whole-make_store-clause-any_moment
    : goal.returns-in-Whole-make_store-clause-any_moment
returns-in-Whole-make_store-clause-any_moment g c = λ x y tx ty.
    let D = g.D.Disk in
    made_from D.reading D.images D.moment D.images_since g.met.D.Disk.only_now _ c.settle.new.disk
    c.look.new.disk _ _ c.settle-2.new.disk c.look-2.new.disk x y
    (c.settle.ensures.unwritten x tx) c.look.ensures.rests (c.settle-2.ensures.unwritten y ty)
    c.look-2.ensures.rests
    (c.in-Whole-settle.ensures.only refl y (c.settle-2.ensures.reading ∙ ty))
    (c.in-NotOpen.ensures.tells x (c.settle.ensures.reading ∙ tx))
    (c.in-NotOpen-look.ensures.tells y (c.settle-2.ensures.reading ∙ ty))
    (c.make_store.ensures.any_moment x (c.look.ensures.rests.reads ∙ c.settle.ensures.reading ∙ tx))
    (makes_told c.make_store.result x _ _ (c.make_store.ensures.made x (c.look.ensures.rests.reads
    ∙ c.settle.ensures.reading ∙ tx)))

pub returns-in-Failed-clause-any_moment : goal.returns-in-Failed-clause-any_moment
returns-in-Failed-clause-any_moment g c = λ x y tx ty.
    let D = g.D.Disk in
    inr (made_from D.reading D.images D.moment D.images_since g.met.D.Disk.only_now _
    c.settle.new.disk c.look.new.disk _ _ c.settle-2.new.disk c.look-2.new.disk x y
    (c.settle.ensures.unwritten x tx) c.look.ensures.rests (c.settle-2.ensures.unwritten y ty)
    c.look-2.ensures.rests
    (c.in-Whole-settle.ensures.only refl y (c.settle-2.ensures.reading ∙ ty))
    (c.in-NotOpen.ensures.tells x (c.settle.ensures.reading ∙ tx))
    (c.in-NotOpen-look.ensures.tells y (c.settle-2.ensures.reading ∙ ty))
    (c.make_store.ensures.any_moment x (c.look.ensures.rests.reads ∙ c.settle.ensures.reading ∙ tx))
    (makes_told c.make_store.result x _ _ (c.make_store.ensures.made x (c.look.ensures.rests.reads
    ∙ c.settle.ensures.reading ∙ tx))))

pub returns-in_default-clause-any_moment : goal.returns-in_default-clause-any_moment
returns-in_default-clause-any_moment g c = λ x y tx ty.
    inl (
      c.settle.ensures.unwritten x tx,
      inl (c.in_default.ensures.images x tx, same_now (g.D.Disk.images c.args.b.now)),
    )

pub returns-in_default-settle-clause-any_moment : goal.returns-in_default-settle-clause-any_moment
returns-in_default-settle-clause-any_moment g c = λ x y tx ty.
    inl (
      c.settle.ensures.unwritten x tx,
      inr (inl (c.in-Whole.ensures.images x tx, c.in_default-settle.ensures.images y ty)),
    )
