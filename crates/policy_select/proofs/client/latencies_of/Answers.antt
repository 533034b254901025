use Rattle.policy_select.proofs.client.latencies_of.Goals as goal

pub returns-clause-told : goal.returns-clause-told
returns-clause-told c =
    (c.locates_as_told.ensures.once _ _ _ _ c.locate.ensures.rows c.locate.ensures.located).0

pub returns-clause-scope : goal.returns-clause-scope
returns-clause-scope c =
    (c.locates_as_told.ensures.once _ _ _ _ c.locate.ensures.rows c.locate.ensures.located).1
