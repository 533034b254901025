use Rattle.std.proofs.Common.{[], ◌∙◌, sym}
use Rattle.std.proofs.lemmas.List.{append-nil}
use Rattle.set_parts.specs.Octets.{check_octets}
use Rattle.set_scratch.proofs.Held.{each_held}
use Rattle.set_scratch.proofs.scratch.Scratch.check.Goals as goal

pub returns : goal.returns
returns c =
    each_held c.args.self.now c.last.ensures
    (λ set is. c.check_in.ensures set.check [] (is ∙ sym (append-nil (check_octets set.check))))
