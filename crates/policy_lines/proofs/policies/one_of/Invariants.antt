use Rattle.std.proofs.Common.{◌≡◌, drop, false}
use Rattle.policy_lines.specs.Policies.{one_of}
use Rattle.policy_lines.proofs.policies.one_of.Given as goal

-- of the rest as of all
abbrev pub invariant-loop-member : goal.invariant-loop-member
invariant-loop-member l = one_of l.one (drop l.member-index l.members) ≡ one_of false l.members
