use Rattle.command_codec.proofs.Commands.{fault_within, rest_within}
use Rattle.command_codec.proofs.reading.read_whole.Goals as goal

pub overflow_sub-result : goal.overflow_sub-result
overflow_sub-result c =
    rest_within c.written_reads_back.ensures c.sets_are_told.ensures
    c.check_commands_are_read.ensures c.cidr_commands_are_read.ensures c.args.bytes.now _
    c.in-Ok.rest.now c.in-Ok.ensures

pub overflow_sub-result-in-Err-Bad : goal.overflow_sub-result-in-Err-Bad
overflow_sub-result-in-Err-Bad c =
    fault_within c.written_reads_back.ensures c.sets_are_told.ensures
    c.check_commands_are_read.ensures c.cidr_commands_are_read.ensures c.args.bytes.now
    c.in-Err-Bad.field-0 c.in-Err-Bad.left
    c.in-Err-Bad.field-0-is c.in-Err-Bad.ensures
