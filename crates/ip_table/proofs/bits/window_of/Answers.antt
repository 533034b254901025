use Rattle.std.proofs.Common.{◌/◌, ◌-◌, ◌%◌, ◌^◌, ap, ◌∙◌, arith}
use Rattle.ip_table.proofs.FirstBits.{window_of_half}
use Rattle.ip_table.proofs.bits.window_of.Goals as goal

pub returns-then-depth-le32 : goal.returns-then-depth-le32
returns-then-depth-le32 c = λ a is.
    c.window_of_half.ensures
    ∙ ap (λ h. h / 2 ^ (32 - c.args.depth) % 2 ^ 32) (c.first_half.ensures ∙ ap (λ n. n / 2 ^ 64) is)
    ∙ window_of_half a c.args.depth (omega arith)
