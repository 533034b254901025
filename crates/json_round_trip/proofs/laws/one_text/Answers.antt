use Rattle.std.proofs.Common.{ap, sym, ◌∙◌}
use Rattle.std.proofs.lemmas.Option.{same_Some}
use Rattle.json_round_trip.proofs.Back.{told_reads_back}
use Rattle.json_round_trip.proofs.laws.one_text.Goals as goal
use Rattle.serde_json.specs.Read.{read}

pub returns : goal.returns
returns c = λ d e d_told e_told d_shallow e_shallow same.
    same_Some d e (sym (told_reads_back d d_told d_shallow) ∙ ap read same
    ∙ told_reads_back e e_told e_shallow)
