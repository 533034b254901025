-- From the reply to a packet to what a run leaves.
use Rattle.std.proofs.Common.{◌≡◌, ℕ, ◌<◌, List, [], length, take, Option, Some, subst}
use Rattle.octets.specs.Counts.{Rose}
use Rattle.r53_cli.specs.declared.once.Once.{Once}
use Rattle.r53_cli.specs.declared.status.Status.{Status}
use Rattle.r53_cli.specs.declared.status.Status.TheVariants as status
use Rattle.r53_cli.specs.Run.{Outside, Responds, Ran, HasCause, Appends, AppendsPart}
use Rattle.r53_cli.specs.Streams.{packet_limit, input_limit}

pub ran : (result : Status) (once : Once) (packet : List ℕ) (before after : Outside)
    → Responds result once packet before.held after.held
    → ((input : List ℕ) → before.left ≡ Some input
    → (length input < input_limit) × (after.left ≡ Some []) × (packet ≡ take packet_limit input))
    → Ran result once before after
ran status.Done once packet before after responds read = (
  λ input h. (let r = read input h in (r.0, r.1)),
  λ input held h k. let r = read input h in
      subst (λ p. Appends once p held after.held) r.2 (responds held k),
)
ran status.WriteFault once packet before after responds read = (
  λ input h. (let r = read input h in (r.0, r.1)),
  λ input held h k. let r = read input h in
      subst (λ p. AppendsPart once p held after.held) r.2 (responds held k),
)
ran status.ReadFault once packet before after responds read = absurd responds
ran status.InputTooLong once packet before after responds read = absurd responds
ran status.OutOfMemory once packet before after responds read = absurd responds
ran status.Usage once packet before after responds read = absurd responds
ran (status.NotAStore disk place) once packet before after responds read = absurd responds
ran (status.AlreadyAStore disk) once packet before after responds read = absurd responds
ran (status.BadTables line) once packet before after responds read = absurd responds
ran status.DiskFault once packet before after responds read = absurd responds
ran status.LinkFault once packet before after responds read = absurd responds

pub caused : (result : Status) (once : Once) (packet : List ℕ) (held after : Option (List ℕ))
    (input_before input_now output_before output_now : ℕ) → Responds result once packet held after
    → (result ≡ status.WriteFault → Rose output_before output_now)
    → HasCause result input_before input_now output_before output_now
caused status.Done once packet held after a b c d responds failed = tt
caused status.WriteFault once packet held after a b c d responds failed =
    failed (λ _. status.WriteFault)
caused status.ReadFault once packet held after a b c d responds failed = absurd responds
caused status.InputTooLong once packet held after a b c d responds failed = absurd responds
caused status.OutOfMemory once packet held after a b c d responds failed = absurd responds
caused status.Usage once packet held after a b c d responds failed = absurd responds
caused (status.NotAStore disk place) once packet held after a b c d responds failed =
    absurd responds
caused (status.AlreadyAStore disk) once packet held after a b c d responds failed =
    absurd responds
caused (status.BadTables line) once packet held after a b c d responds failed =
    absurd responds
caused status.DiskFault once packet held after a b c d responds failed =
    absurd responds
caused status.LinkFault once packet held after a b c d responds failed =
    absurd responds
