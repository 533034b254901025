use Rattle.std.proofs.Common.{◌≡◌, take}
use Rattle.json.specs.Print.{escape}
use Rattle.json_text.proofs.quoting.is_plain.Given as goal

abbrev pub invariant-loop-b : goal.invariant-loop-b
invariant-loop-b l = escape (take l.b-index l.text) ≡ take l.b-index l.text
