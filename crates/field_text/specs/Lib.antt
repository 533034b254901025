pub mod Laws
pub mod OctetsOfText
pub mod Spelling
pub mod Written
pub use Rattle.address_text.specs.AddressOfText
pub use Rattle.rdata_layout.specs.Fields
pub use Rattle.rdata_layout.specs.Layout
pub use Rattle.rdata_layout.specs.Types
pub use Rattle.rdata_layout.specs.declared.fields.Field as FieldRecord
pub use Rattle.rdata_layout.specs.declared.fields.Tail as TailRecord
pub use Rattle.rdata_layout.specs.declared.types.RType as RTypeRecord
pub use Rattle.rdata_layout.specs.Labels
pub use Rattle.rdata_layout.specs.Names
pub use Rattle.rdata_layout.specs.Stored
pub use Rattle.value_text.specs.Fields as FieldsOfValueText
pub use Rattle.value_text.specs.Laws as LawsOfValueText
pub use Rattle.value_text.specs.Strings
pub use Rattle.value_text.specs.declared.fields.Field as FieldRecordOfValueText
pub use Rattle.rdata_layout.specs.Wildcard
pub use Rattle.rdata_layout.specs.Order
pub use Rattle.rdata_layout.specs.OrderLaws
pub use Rattle.rdata_layout.specs.Suffix
