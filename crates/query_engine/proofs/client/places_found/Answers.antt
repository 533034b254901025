use Rattle.query_engine.proofs.client.places_found.Goals as goal

pub returns : goal.returns
returns c =
    (c.locates_as_told.ensures.once _ _ _ _ c.locate.ensures.rows c.locate.ensures.located).1
