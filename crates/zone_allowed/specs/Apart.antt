-- Keys of which no two are one.
use Rattle.std.specs.Prelude.{◌≢◌, List, [], ◌∷◌, ⊤}
use Rattle.std.specs.List.{AllByRecursion}
use Rattle.zone_table.specs.SetKeyRecord.{SetKey}

abbrev pub AreApart : List SetKey → Type 0
AreApart [] = ⊤
AreApart (key ∷ keys) = AllByRecursion (λ other. key ≢ other) keys × AreApart keys
