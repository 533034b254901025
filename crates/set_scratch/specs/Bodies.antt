-- What a set answers, one thing at a time.
use Rattle.std.specs.Prelude.{ℕ, List, [], Bool, Option, None, Some, length, map}
use Rattle.set_parts.specs.Datum.{Datum}
use Rattle.set_parts.specs.BodyRecord.{Body}
use Rattle.set_parts.specs.BodyRecord.TheVariants as body

-- the time to live; an alias has none of its own, and 0 stands for it
abbrev pub ttl_of : Body → ℕ
ttl_of (body.Values ttl values) = ttl
ttl_of (body.Alias target evaluate) = 0

-- the values; an alias has none
abbrev pub values_of : Body → List Datum
values_of (body.Values ttl values) = values
values_of (body.Alias target evaluate) = []

-- how many values there are; none is told of an alias
abbrev pub count_of : Body → Option ℕ
count_of (body.Values ttl values) = Some (length values)
count_of (body.Alias target evaluate) = None

-- the octets of each value on the wire
abbrev pub wires_of : Body → List (List ℕ)
wires_of what = map (λ value. value.wire) (values_of what)

-- the target of an alias, and whether the health of the target's sets counts; none where it is no alias
abbrev pub alias_of : Body → Option (List (List ℕ) × Bool)
alias_of (body.Values ttl values) = None
alias_of (body.Alias target evaluate) = Some (target, evaluate)
