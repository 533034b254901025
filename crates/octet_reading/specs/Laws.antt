-- What the tests of this crate tell.
use Rattle.std.specs.Prelude.{◌≡◌, ◌↔◌, ◌⊎◌, ℕ, List, [], ◌++◌, length, true, Result, Ok, Err}
use Rattle.rdata_layout.specs.Labels.{wire}
use Rattle.rdata_layout.specs.Names.{IsName, AreOctets}
use Rattle.rdata_layout.specs.declared.types.RType.{RType}
use Rattle.rdata_layout.specs.Layout.{IsLayout}
use Rattle.octet_reading.specs.Layouts.{is_layout}
use Rattle.octet_reading.specs.Names.{name_at}

-- octets that begin with a name, and what stands behind it
pub record BeginsWithName (octets : List ℕ) (labels : List (List ℕ)) (rest : List ℕ) : Type 0 where
  pub name : IsName labels
  pub spelled : octets ≡ wire labels ++ rest

-- octets that begin with no name, and that are one with more octets behind them
pub record CanGoOn (octets : List ℕ) : Type 0 where
  pub labels : List (List ℕ)
  pub more : List ℕ
  pub begins : BeginsWithName (octets ++ more) labels []
  pub not_yet : (others : List (List ℕ)) (rest : List ℕ) → BeginsWithName octets others rest → ⊥

-- octets that begin with no name, whatever follows them
abbrev pub CanBeNoName : List ℕ → Type 0
CanBeNoName octets = (more : List ℕ) (labels : List (List ℕ)) (rest : List ℕ)
    → BeginsWithName (octets ++ more) labels rest → ⊥

-- What reading a name tells. The three exclude one another.
abbrev pub TellsName : List ℕ → Result (List (List ℕ) × List ℕ) ℕ → Type 0
TellsName octets (Ok x) = BeginsWithName octets x.0 x.1
TellsName octets (Err left) =
    ((left ≡ 0) × CanGoOn octets) ⊎ ((left ≡ length octets) × CanBeNoName octets)

abbrev pub NamesAreTold : Type 0
NamesAreTold = (octets : List ℕ) → AreOctets octets → TellsName octets (name_at octets)

-- The test of layouts holds of those octets that are a value of the type.
abbrev pub LayoutsAreTold : Type 0
LayoutsAreTold = (type : RType) (octets : List ℕ) → AreOctets octets
    → (is_layout type octets ≡ true) ↔ IsLayout type octets
