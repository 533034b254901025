use Rattle.std.proofs.Common.{◌≡◌, ◌∙◌, sym}
use Rattle.record_set.specs.declared.sets.Body.TheVariants as body
use Rattle.record_set.specs.declared.sets.RecordSet.{RecordSet}
use Rattle.zone_table.specs.Bodies.{alias_of}
use Rattle.alias_links.proofs.Held.{held_so}
use Rattle.alias_links.proofs.Kept.{an_alias, no_alias, whole}
use Rattle.alias_links.proofs.aliases.alias_in.Goals as goal

pub returns-in_default : goal.returns-in_default
returns-in_default c =
    λ set held same. no_alias set
    (sym (held_so (λ (s : RecordSet). c.alias.result ≡ alias_of s.body) c.args.scratch.now set held
    c.alias.ensures) ∙ c.in_default.is)

pub returns : goal.returns
returns c =
    λ set held same. (let scratch = c.args.scratch.now in
    let alias = c.in-Some.alias in
    let is = an_alias set alias
    (sym (held_so (λ (s : RecordSet). c.alias.result ≡ alias_of s.body) scratch set held
    c.alias.ensures) ∙ c.in-Some.is) in (
      whole set c.args.key.now c.routing.result (body.Alias alias.0 alias.1) c.check.result same
          (held_so (λ (s : RecordSet). c.routing.result ≡ s.routing) scratch set held c.routing.ensures)
          is.0
          (held_so (λ (s : RecordSet). c.check.result ≡ s.check) scratch set held c.check.ensures),
      is.1,
    ))
