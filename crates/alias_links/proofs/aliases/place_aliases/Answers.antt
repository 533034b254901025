use Rattle.std.proofs.Common.{◌∙◌, [], ◌∷◌, refl, subst, sym}
use Rattle.std.proofs.lemmas.Option.{slice_get_read}
use Rattle.zone_table.proofs.Equation.{with_all_rises}
use Rattle.zone_table.specs.Sets.{IsRising}
use Rattle.alias_links.specs.Aliases.{aliases_of}
use Rattle.alias_links.proofs.Kept.{all_placed, placed_more}
use Rattle.alias_links.proofs.aliases.place_aliases.Goals as goal

pub loop-i-preserved : goal.loop-i-preserved
loop-i-preserved c =
    let add = c.args.add.now in
    let set = c.index-add-i in
    let at = slice_get_read add _ c.loop-i.i set.result refl c.loop-i-test.true set.is in
    let old = c.loop-i.aliases.items in
    let new = c.place_alias.new.aliases.items in
    record {
      rising = subst IsRising (sym c.in_ok-place_alias.ensures)
          (with_all_rises (aliases_of (set.result ∷ [])) old c.loop-i.invariant.rising);
      rest = placed_more add c.loop-i.i set.result old new at c.in_ok-place_alias.ensures
          ∙ c.loop-i.invariant.rest;
    }

pub returns : goal.returns
returns c =
    all_placed c.args.add.now c.loop-i.i c.loop-i.aliases.items c.loop-i-test.false
    ∙ c.loop-i.invariant.rest
