-- Summaries and counts as they are written out: of a drill over no events and over four, and of a reply
-- that a name doesn't exist.
use Rattle.std.proofs.Common.{◌≡◌, ◌++◌, codes, List, ℕ, Option, Some, refl, [], ◌∷◌}
use Rattle.std.specs.Fmt.{digits}
use Rattle.drill_run.specs.Counting.{no_counts, reply_counted}
use Rattle.drill_run.specs.Drills.{summary_of}

pub no_events : summary_of 0 72 no_counts ≡
    codes "{\"Batches\":0,\"Drill\":0,\"Healthy\":72,\"NxDomain\":0,\"Ok\":\"drill\",\"Records\":0,"
    ++ codes "\"ReplyBytes\":0,\"Reports\":0}\n"
unfolding digits
no_events = refl

pub four_events : summary_of 4 73
    (record { batches = 1; missing = 0; records = 2; octets = 97; reports = 1 }) ≡
    codes "{\"Batches\":1,\"Drill\":4,\"Healthy\":73,\"NxDomain\":0,\"Ok\":\"drill\",\"Records\":2,"
    ++ codes "\"ReplyBytes\":97,\"Reports\":1}\n"
unfolding digits
four_events = refl

-- a header with AA, RCODE 3, one question and one record of the authority section
pub absent_name : reply_counted
    (Some (18 ∷ 52 ∷ 133 ∷ 3 ∷ 0 ∷ 1 ∷ 0 ∷ 0 ∷ 0 ∷ 1 ∷ 0 ∷ 0 ∷ [])) no_counts
    ≡ record { batches = 0; missing = 1; records = 0; octets = 12; reports = 0 }
absent_name = refl
