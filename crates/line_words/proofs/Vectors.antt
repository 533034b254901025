-- Texts at values from outside (API Reference, ResourceRecordSet and GeoLocation).
use Rattle.std.proofs.Common.{◌≡◌, [], Some, None, Ok, refl}
use Rattle.std.specs.Prelude.{codes}
use Rattle.rdata_layout.specs.declared.types.RType.TheVariants.{Aaaa}
use Rattle.routing.specs.declared.policies.Continent.TheVariants.{Oc}
use Rattle.line_reading.specs.Reading.{bad, unsupported}
use Rattle.line_faults.specs.declared.member.Member.TheVariants as m
use Rattle.line_faults.specs.declared.fault.LineReason.TheVariants.{OutOfRange}
use Rattle.line_words.specs.Words.{ident_of_text, region_of_text, subdivision_of_text, location_of_text, continent_of_text, role_of_text, type_of, type_named}

pub identifier : ident_of_text (codes "us east, 1") ≡ Some (codes "us east, 1")
identifier = refl

pub no_identifier : ident_of_text [] ≡ None
no_identifier = refl

pub region : region_of_text (codes "ap-southeast-2") ≡ Some (codes "ap-southeast-2")
region = refl

pub capital_region : region_of_text (codes "US-east-1") ≡ None
capital_region = refl

pub subdivision : subdivision_of_text (codes "NSW") ≡ Some (codes "NSW")
subdivision = refl

pub long_subdivision : subdivision_of_text (codes "NSW1") ≡ None
long_subdivision = refl

pub any_location : location_of_text (codes "*") ≡ Some (codes "*")
any_location = refl

pub location : location_of_text (codes "Office_2-b") ≡ Some (codes "Office_2-b")
location = refl

pub long_location : location_of_text (codes "abcdefghijklmnopq") ≡ None
long_location = refl

pub two_stars : location_of_text (codes "**") ≡ None
two_stars = refl

pub oceania : continent_of_text (codes "OC") ≡ Some Oc
oceania = refl

pub lower_role : role_of_text (codes "primary") ≡ None
lower_role = refl

pub quad_a : type_of m.«Type» (codes "AAAA") ≡ Ok Aaaa
unfolding type_named
quad_a = refl

pub ds : type_of m.StartRecordType (codes "DS") ≡ unsupported m.«Type»
ds = refl

pub lower_type : type_of m.StartRecordType (codes "a") ≡ bad OutOfRange m.StartRecordType
unfolding type_named
lower_type = refl
