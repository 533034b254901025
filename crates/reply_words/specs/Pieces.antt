-- Objects that stand in replies.
use Rattle.std.specs.Prelude.{[], ◌∷◌}
use Rattle.line_faults.specs.declared.member.Member.TheVariants as m
use Rattle.reply_model.specs.Json.{field, object_of}
use Rattle.serde_json.specs.Data.{Data}

-- an id alone
abbrev pub id_object : (id : Data) → Data
id_object id = object_of (field m.Id id ∷ [])
