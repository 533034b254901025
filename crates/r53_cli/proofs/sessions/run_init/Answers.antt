use Rattle.std.proofs.Common.{subst, sym, ◌∙◌}
use Rattle.r53_cli.proofs.Running.{init_is_no_usage}
use Rattle.zone_journal.specs.Making.{InitGives}
use Rattle.zone_journal.specs.declared.answers.Init.{Init}
use Rattle.r53_cli.proofs.sessions.run_init.Goals as goal

pub returns-clause-makes : goal.returns-clause-makes
returns-clause-makes g c = record {
  answer = c.init.result;
  status_is = c.of_init.ensures;
  failed = c.init.ensures.failed;
  leaves = λ x y a_reads b_reads. record {
    gives = c.init.ensures.gives x y a_reads b_reads;
    any_moment = c.init.ensures.any_moment x y a_reads b_reads;
    empty_opens = λ is. c.init_opens.ensures x y c.init.new.a c.init.new.b
        (subst (λ (i : Init). InitGives g.D.Disk.reading g.D.Disk.images i x y c.init.new.a
        c.init.new.b) is (c.init.ensures.gives x y a_reads b_reads));
  };
  b_unwritten = c.init.ensures.b_unwritten;
}

pub returns-clause-built : goal.returns-clause-built
returns-clause-built g c = λ is. init_is_no_usage c.init.result (sym c.of_init.ensures ∙ is)
