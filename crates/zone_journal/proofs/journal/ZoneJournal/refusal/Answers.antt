use Rattle.std.proofs.Common.{◌≡◌, ◌∙◌, Some, sym, ap, arith}
use Rattle.zone_journal.specs.Standing.{State}
use Rattle.zone_journal.proofs.journal.ZoneJournal.refusal.Goals as goal

pub length-length-requires-clause-from : goal.length-length-requires-clause-from
length-length-requires-clause-from c =
    let is : c.args.self.now.plan ≡ Some c.in-Some.plan =
    ap (λ (v : State). v.plan) (sym c.self.view_is) ∙ c.in-Some.is in
    omega (
      arith,
      (c.requires.plan c.in-Some.plan is).from,
      c.gate-at.ensures,
      ap (λ (v : State). v.at) c.self.view_is,
    )
