use Rattle.r53_cli.proofs.Forms.{one_form}
use Rattle.r53_cli.proofs.laws.one_form.Goals as goal

pub returns : goal.returns
returns c = one_form c.one_reading.ensures
