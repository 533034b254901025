-- What reading a field tells.
use Rattle.std.specs.Prelude.{◌≡◌, ℕ, ◌<◌, ◌^◌, List, [], ◌∷◌, length, ⊤}
use Rattle.octets.specs.Numbers.{two_octets, four_octets}
use Rattle.octet_reading.specs.Rules.{IsReadAs}
use Rattle.octet_reading.specs.Types.{number_of}
use Rattle.set_octets.specs.Texts.{IsIdent, IsRegion, IsSubdivision, IsLocation}
use Rattle.set_octets.specs.Octets.{text_octets, continent_number, role_number, AreCapitals}
use Rattle.set_fields.specs.Numbers.{type_at, continent_at, role_at, ttl_at}
use Rattle.set_fields.specs.Texts.{country_at, ident_at, region_at, sub_at, location_at}

-- the letters of a country
pub record IsCountry (letters : List ℕ) : Type 0 where
  pub two : length letters ≡ 2
  pub capital : AreCapitals letters

-- Each field is read as it is written.
pub record FieldsAreRead : Type 0 where
  pub types : IsReadAs (λ type. ⊤) (λ type. two_octets (number_of type)) type_at
  pub continents : IsReadAs (λ where_to. ⊤) (λ where_to. continent_number where_to ∷ [])
      continent_at
  pub roles : IsReadAs (λ part. ⊤) (λ part. role_number part ∷ []) role_at
  pub times : IsReadAs (λ ttl. ttl < 2 ^ 31) four_octets ttl_at
  pub countries : IsReadAs IsCountry (λ letters. letters) country_at
  pub idents : IsReadAs IsIdent text_octets ident_at
  pub regions : IsReadAs IsRegion text_octets region_at
  pub subdivisions : IsReadAs IsSubdivision text_octets sub_at
  pub locations : IsReadAs IsLocation text_octets location_at
