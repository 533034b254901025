-- Bounds told by parts of keys that are borrowed.
use Rattle.std.specs.Option.{option_copied}
use Rattle.set_search.specs.declared.bounds.Bound.{Bound}
use Rattle.set_search.specs.declared.bounds.Bound.TheVariants as bound
use Rattle.set_search.specs.declared.bounds.Stop.{Stop}
use Rattle.set_search.specs.declared.bounds.Stop.TheVariants as stop

-- the bound that is told by parts of a key
abbrev pub bound_of : Stop → Bound
bound_of (stop.From name rtype ident) = bound.From
    (record { name = name.now; rtype = rtype; ident = option_copied ident })
bound_of (stop.Past name rtype ident) = bound.Past
    (record { name = name.now; rtype = rtype; ident = option_copied ident })
bound_of (stop.PastGroup name rtype) = bound.PastGroup name.now rtype
