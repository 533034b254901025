-- Each field is read as it is written.
use Rattle.set_octets.specs.Texts.{is_printable, is_region_byte, is_subdivision_byte}
use Rattle.set_fields.specs.Laws.{FieldsAreRead}
use Rattle.set_fields.proofs.Numbered.{type_read, continent_read, role_read, ttl_read}
use Rattle.set_fields.proofs.Textual.{texts_read, country_read, location_read}

pub fields_are_read : FieldsAreRead
fields_are_read = record {
  types = type_read;
  continents = continent_read;
  roles = role_read;
  times = ttl_read;
  countries = country_read;
  idents = texts_read is_printable 128;
  regions = texts_read is_region_byte 32;
  subdivisions = texts_read is_subdivision_byte 3;
  locations = location_read;
}
