use Rattle.dns_message.proofs.OptionLists.{one_list}
use Rattle.dns_message.proofs.laws.one_list_of_options.Goals as goal

pub returns : goal.returns
returns c = one_list
