use Rattle.std.proofs.Common.{◌∙◌, inl, inr, refl, sym}
use Rattle.std.proofs.lemmas.Bool.{false≢true}
use Rattle.alias_links.proofs.Changing.{filled_by_kept, filled_by_new, filler}
use Rattle.alias_links.specs.After.{sets_in}
use Rattle.alias_links.proofs.groups.is_filled.Goals as goal

pub returns-then-adds_to : goal.returns-then-adds_to
returns-then-adds_to c =
    let sets = sets_in c.args.zones.now.zones c.args.zone in
    let one = c.adds_to.ensures.0 c.if-adds_to.true in (
      λ e. filled_by_new sets c.args.remove.now c.args.add.now c.requires c.args.name.now
          c.args.rtype one.0 one.1 one.2,
      λ some. refl,
    )

pub returns : goal.returns
returns c =
    let sets = sets_in c.args.zones.now.zones c.args.zone in (
      λ e. (let one = c.stays_in.ensures.0 e in
          filled_by_kept sets c.args.remove.now c.args.add.now c.requires c.args.name.now c.args.rtype
          one.0 one.1 one.2),
      λ some. elim (filler sets c.args.remove.now c.args.add.now c.args.name.now c.args.rtype some) [
        | inl new ↦ absurd (false≢true (sym c.if-adds_to.false ∙ c.adds_to.ensures.1 new))
        | inr kept ↦ c.stays_in.ensures.1 kept
      ],
    )
