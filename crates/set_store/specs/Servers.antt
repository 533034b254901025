-- NS sets, as they are counted.
use Rattle.std.specs.Prelude.{ℕ, ◌==◌, if◌then◌else◌, length, Option, None, Some}
use Rattle.set_search.specs.Types.{number_of}
use Rattle.set_search.specs.RecordSetRecord.{RecordSet}

-- how many labels the name of an NS set has, whose type has the number 2; nothing of another set
abbrev pub server_labels : RecordSet → Option ℕ
server_labels set = if number_of set.rtype == 2 then Some (length set.name) else None
