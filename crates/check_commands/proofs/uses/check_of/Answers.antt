use Rattle.std.proofs.Common.{◌∙◌, ap, sym, refl, Some}
use Rattle.std.specs.Prelude.{unwrap_or}
use Rattle.record_set.specs.declared.sets.RecordSet.{RecordSet}
use Rattle.zone_table.specs.WatchRecord.{Watch}
use Rattle.check_commands.proofs.Followed.{number_told}
use Rattle.check_commands.proofs.Looked.{one_named}
use Rattle.check_commands.proofs.uses.check_of.Goals as goal

pub returns-in-Some : goal.returns-in-Some
returns-in-Some c =
    let w = c.in-Some.ensures in
    let same = ap (λ (x : Watch). x.check) w.2 in
    let told = c.number_of.ensures ∙ ap (λ o. unwrap_or o 0) same in
    record {
      its = λ named check names is.
          told
          ∙ (ap (λ (s : RecordSet). unwrap_or s.check 0)
          (one_named c.args.zones.now.zones c.args.set w.0 named c.well_formed-2.ensures w.1 names)
          ∙ ap (λ o. unwrap_or o 0) is);
      only = λ some.
          (w.0, w.1, number_told w.0.check (λ none. some (told ∙ none)) ∙ ap (λ n. Some n) (sym told));
    }

pub returns-in-None : goal.returns-in-None
returns-in-None c = record {
  its = λ named check names is. absurd (c.in-None.ensures named names);
  only = λ some. absurd (some refl);
}
