use Rattle.std.proofs.Common.{◌≡◌, ◌+◌, ap, ◌∙◌, refl}
use Rattle.std.specs.Prelude.{is_some}
use Rattle.record_set.specs.declared.sets.Body.{Body}
use Rattle.record_set.specs.declared.sets.Body.TheVariants as body
use Rattle.record_set.specs.declared.sets.RecordSet.{RecordSet}
use Rattle.zone_table.specs.Telling.{is_alias, target_in, target_of}
use Rattle.alias_links.specs.Aliases.{is_alias_set}
use Rattle.alias_links.proofs.Held.{told}
use Rattle.alias_links.proofs.places.is_alias_at.Goals as goal

-- a target is told of an alias alone
told_of_aliases : (set : RecordSet) → is_some (target_of set) ≡ is_alias_set set
told_of_aliases set = by set.body
  where
    by : (what : Body) → is_some (target_in set.rtype what) ≡ is_alias what
    by (body.Values ttl values) = refl
    by (body.Alias target evaluate) = refl

pub returns : goal.returns
returns c set there =
    let g = c.args.group in
    let at = c.member.ensures in
    c.is_some.ensures
    ∙ ap is_some (told c.args.zones.now.zones c.member.result g.zone (g.start + c.args.i) at.zone at.slot
    c.well_formed-2.ensures c.target.result c.target.ensures set there)
    ∙ told_of_aliases set
