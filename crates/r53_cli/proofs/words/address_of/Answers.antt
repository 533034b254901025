use Rattle.std.proofs.Common.{subst}
use Rattle.rdata_layout.specs.declared.types.RType.TheVariants.{A}
use Rattle.rdata.specs.declared.faults.ValueFault.{ValueFault}
use Rattle.rdata.specs.declared.faults.ValueFault.TheVariants.{BadField, MissingField, SurplusField, TooLong}
use Rattle.rdata.specs.Reading.{Reads}
use Rattle.rdata.specs.Steps.{FailsWith}
use Rattle.r53_cli.proofs.Addresses.{no_address}
use Rattle.r53_cli.proofs.words.address_of.Goals as goal

pub returns-in-Err-BadField-clause-none : goal.returns-in-Err-BadField-clause-none
returns-in-Err-BadField-clause-none c =
    no_address c.one_reading.ensures c.args.text.now (BadField c.in-Err-BadField.field-0-0)
    (subst (λ (fault : ValueFault). FailsWith (Reads A c.args.text.now) fault)
    c.in-Err-BadField.field-0-is c.in-Err-BadField.ensures)

pub returns-in-Err-MissingField-clause-none : goal.returns-in-Err-MissingField-clause-none
returns-in-Err-MissingField-clause-none c =
    no_address c.one_reading.ensures c.args.text.now (MissingField c.in-Err-MissingField.field-0-0)
    (subst (λ (fault : ValueFault). FailsWith (Reads A c.args.text.now) fault)
    c.in-Err-MissingField.field-0-is c.in-Err-MissingField.ensures)

pub returns-in-Err-SurplusField-clause-none : goal.returns-in-Err-SurplusField-clause-none
returns-in-Err-SurplusField-clause-none c =
    no_address c.one_reading.ensures c.args.text.now (SurplusField c.in-Err-SurplusField.field-0-0)
    (subst (λ (fault : ValueFault). FailsWith (Reads A c.args.text.now) fault)
    c.in-Err-SurplusField.field-0-is c.in-Err-SurplusField.ensures)

pub returns-in-Err-TooLong-clause-none : goal.returns-in-Err-TooLong-clause-none
returns-in-Err-TooLong-clause-none c =
    no_address c.one_reading.ensures c.args.text.now (TooLong)
    (subst (λ (fault : ValueFault). FailsWith (Reads A c.args.text.now) fault)
    c.in-Err-TooLong.field-0-is c.in-Err-TooLong.ensures)
