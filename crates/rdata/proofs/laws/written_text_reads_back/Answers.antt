use Rattle.rdata.proofs.Backs.{written_back}
use Rattle.rdata.proofs.laws.written_text_reads_back.Goals as goal

pub returns : goal.returns
returns c =
    written_back c.written_field_is_one_field.ensures c.written_field_reads_back.ensures
    c.string_is_one_field.ensures
    c.written_string_reads_back.ensures
