use Rattle.octet_reading.proofs.Naming.{is_short, is_broken}
use Rattle.octet_reading.proofs.names.no_name.Goals as goal

pub returns-in-Short : goal.returns-in-Short
returns-in-Short c = is_short c.args.bytes.now c.name_read.result c.name_read.ensures c.in-Short.is

pub returns-in-Broken : goal.returns-in-Broken
returns-in-Broken c =
    is_broken c.args.bytes.now c.name_read.result c.name_read.ensures c.requires c.in-Broken.is
