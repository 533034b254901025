use Rattle.std.proofs.Common.{◌∷◌, sym, ap, ◌∙◌}
use Rattle.std.specs.Option.{option_copied}
use Rattle.geo_latency.proofs.Placed.{placed}
use Rattle.geo_latency.specs.Lines.{later, place_fields}
use Rattle.geo_latency.proofs.lines.read_place.Goals as goal

pub returns : goal.returns
returns c =
    let prefix = c.first_piece.result.0.now in
    c.place_row.ensures
    ∙ (sym (placed prefix c.in-Some-location.location.now)
    ∙ (sym (ap (λ o. place_fields (prefix ∷ later 0x20 (option_copied o))) c.in-Some-location.is)
    ∙ (sym (ap place_fields c.first_piece.ensures.parts)
    ∙ sym (ap (λ o. place_fields (later 0x20 (option_copied o))) c.in-Some.is))))
