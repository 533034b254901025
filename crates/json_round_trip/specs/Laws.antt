-- Texts and what they are read as.
use Rattle.std.specs.Prelude.{◌≡◌, ◌≤◌, Some}
use Rattle.serde_json.specs.Data.{Data, depth}
use Rattle.serde_json.specs.Read.{max_depth, read}
use Rattle.serde_json.specs.Written.{compact_text}
use Rattle.json_round_trip.specs.Told.{IsTold}

abbrev pub TextsReadBack : Type 0
TextsReadBack = (d : Data) → IsTold d → depth d ≤ max_depth → read (compact_text d) ≡ Some d

abbrev pub OneText : Type 0
OneText = (d e : Data) → IsTold d → IsTold e → depth d ≤ max_depth → depth e ≤ max_depth
    → compact_text d ≡ compact_text e → d ≡ e
