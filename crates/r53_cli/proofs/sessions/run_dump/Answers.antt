use Rattle.r53_cli.proofs.Running.{still_held}
use Rattle.r53_cli.proofs.sessions.run_dump.Goals as goal

pub returns-clause-dumps : goal.returns-clause-dumps
returns-clause-dumps g c = record {
  answer = c.dump_store.result;
  status_is = c.of_dumped.ensures.told;
  told = c.dump_store.ensures.told;
  writes = c.dump_store.ensures.writes;
  unwritten = still_held g.K.Sink.held c.dump_store.result c.args.out.now c.dump_store.new.out
      c.dump_store.ensures.unwritten;
  a_unwritten = c.dump_store.ensures.a_unwritten;
  b_unwritten = c.dump_store.ensures.b_unwritten;
  disk_failed = c.dump_store.ensures.disk_failed;
  sink_failed = c.dump_store.ensures.sink_failed;
}
