use Rattle.session_model.proofs.Single.{step}
use Rattle.session_model.proofs.laws.one_step.Goals as goal

pub returns : goal.returns
returns c = step c.one_reply.ensures.one c.one_command_step.ensures c.one_report_step.ensures
    c.one_compaction_step.ensures
