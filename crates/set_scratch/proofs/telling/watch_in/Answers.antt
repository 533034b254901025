use Rattle.std.proofs.Common.{[], ◌++◌, ℕ, Bool, Option, ap, ◌∙◌}
use Rattle.set_parts.specs.Octets.{check_octets}
use Rattle.set_scratch.specs.declared.telling.Watch.{Watch}
use Rattle.set_scratch.proofs.Told.{alone}
use Rattle.set_scratch.proofs.telling.watch_in.Goals as goal

pub returns : goal.returns
returns c = λ set spells.
    let body = c.body_of-body.ensures set [] spells.is (alone c.args.octets.now set spells) in
    let check = c.check_in.ensures set.check []
    (c.behind_body.ensures set.body (check_octets set.check ++ []) spells.is.body body) in
    let counts = c.evaluates_in.ensures set.body (check_octets set.check ++ []) spells.is.body body in
    ap (λ (k : Option ℕ). record { check = k; evaluates = c.evaluates_in.result }) check
    ∙ ap (λ (b : Bool). record { check = set.check; evaluates = b }) counts
