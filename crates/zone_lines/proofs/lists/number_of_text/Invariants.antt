use Rattle.std.proofs.Common.{◌≡◌, ◌≤◌, drop}
use Rattle.zone_lines.specs.Zones.{number_of_text}
use Rattle.zone_lines.proofs.lists.number_of_text.Given as goal

-- of the rest as of all
abbrev pub invariant-loop-digit : goal.invariant-loop-digit
invariant-loop-digit l = record {
  small : l.number ≤ 300;
  rest : number_of_text l.number (drop l.digit-index l.digits) ≡ number_of_text 0 l.digits;
}
