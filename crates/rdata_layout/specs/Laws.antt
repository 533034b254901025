-- Laws over the definitions of this crate.
use Rattle.std.specs.Prelude.{◌≡◌}
use Rattle.rdata_layout.specs.declared.types.RType.{RType}
use Rattle.rdata_layout.specs.Types.{number_of, text_of}

-- No two types have one number.
abbrev pub TypesHaveTheirOwnNumber : Type 0
TypesHaveTheirOwnNumber = (rtype other : RType) → number_of rtype ≡ number_of other → rtype ≡ other

-- No two types have one text.
abbrev pub TypesHaveTheirOwnText : Type 0
TypesHaveTheirOwnText = (rtype other : RType) → text_of rtype ≡ text_of other → rtype ≡ other
