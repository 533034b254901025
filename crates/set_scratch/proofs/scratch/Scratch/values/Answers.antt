use Rattle.std.proofs.Common.{◌+◌, ◌∙◌, ap, length}
use Rattle.set_scratch.specs.Bodies.{values_of}
use Rattle.set_scratch.proofs.Held.{each_held, told}
use Rattle.set_scratch.proofs.Placed.{starts_long}
use Rattle.set_scratch.proofs.scratch.Scratch.values.Goals as goal

pub returns : goal.returns
returns c =
    let inside = c.self.inside in
    each_held c.args.self.now
    (told inside.octets.items inside.starts.items inside.places _ c.args.self.now c.self.view_is
    c.self.invariant.of_set)
    (λ set is. c.len.ensures ∙ inside.starts.ok.0 ∙ ap length is.1.values
    ∙ starts_long (inside.places.body + 7) (values_of set.body))
