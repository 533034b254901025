use Rattle.session_server.proofs.Asked.{read_asks}
use Rattle.session_server.proofs.laws.read_lines_ask.Goals as goal

pub returns : goal.returns
returns c = read_asks
