-- Parts of batches at values from outside.
use Rattle.std.proofs.Common.{◌≡◌, true, [], ◌∷◌, Some, None, Ok, refl}
use Rattle.std.specs.Prelude.{codes}
use Rattle.batch_model.specs.declared.batches.Action.TheVariants.{Upsert}
use Rattle.batch_model.specs.BodyRecord.TheVariants.{Alias}
use Rattle.line_reading.specs.Reading.{bad}
use Rattle.line_faults.specs.declared.member.Member.TheVariants as m
use Rattle.line_faults.specs.declared.fault.LineReason.TheVariants.{Both, Missing}
use Rattle.set_lines.specs.ChangeLines.{action_of}
use Rattle.set_lines.specs.Sets.{body_with}

pub upsert : action_of (codes "UPSERT") ≡ Some Upsert
upsert = refl

pub lower_upsert : action_of (codes "upsert") ≡ None
lower_upsert = refl

-- an alias has no time to live and no values
pub an_alias : body_with None None (Some (record { target = codes "www" ∷ []; evaluate = true }))
    ≡ Ok (record { body = Alias (codes "www" ∷ []) true; characters = 0 })
an_alias = refl

pub alias_with_ttl :
    body_with (Some 60) None (Some (record { target = codes "www" ∷ []; evaluate = true }))
    ≡ bad Both m.AliasTarget
alias_with_ttl = refl

-- of two that are missing the time to live is told
pub nothing : body_with None None None ≡ bad Missing m.Ttl
nothing = refl

pub no_values : body_with (Some 60) None None ≡ bad Missing m.ResourceRecords
no_values = refl
