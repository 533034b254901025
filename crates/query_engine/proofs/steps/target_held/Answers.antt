use Rattle.std.proofs.Common.{◌∙◌, ap}
use Rattle.dns_name.specs.Stored.{labels_of}
use Rattle.query_engine.proofs.Stepping.{first_value}
use Rattle.query_engine.proofs.steps.target_held.Goals as goal

pub returns : goal.returns
returns c = λ set rdata held first.
    c.name_in.ensures ∙ ap labels_of
    (first_value c.args.scratch.now set c.value.result.now rdata held c.value.ensures.wire first)
