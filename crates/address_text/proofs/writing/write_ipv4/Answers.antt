use Rattle.address_text.proofs.Placing.{whole, ◌then◌}
use Rattle.address_text.proofs.writing.write_ipv4.Goals as goal

pub returns-clause-written : goal.returns-clause-written
returns-clause-written c =
    whole (
    c.put_decimal-end.ensures.wrote then c.put-end.ensures then c.put_decimal-end-2.ensures.wrote
    then c.put-end-2.ensures
    then c.put_decimal-end-3.ensures.wrote then c.put-end-3.ensures
    then c.put_decimal.ensures.wrote)
