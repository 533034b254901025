use Rattle.std.proofs.Common.{◌≡◌, ◌/◌, ◌-◌, ◌%◌, ◌^◌, cond, not, nat_eq, bit_and, subst, sym, ap, ◌∙◌, arith}
use Rattle.ip_table.specs.Trees.{bit_behind}
use Rattle.ip_table.proofs.FirstBits.{masked, bit_of_half}
use Rattle.ip_table.proofs.bits.has_bit.Goals as goal

pub returns-then-depth-lt64 : goal.returns-then-depth-lt64
returns-then-depth-lt64 c = λ a is.
    c.has_bit_of_half.ensures
    ∙ ap (λ h. h / 2 ^ (63 - c.args.depth) % 2) (c.first_half.ensures ∙ ap (λ n. n / 2 ^ 64) is)
    ∙ bit_of_half a c.args.depth (omega arith)

pub returns : goal.returns
returns c =
    λ a is. subst (λ n. cond (not (nat_eq (bit_and n (2 ^ 127 / 2 ^ c.min.result)) 0)) 1 0
    ≡ bit_behind c.args.depth a) (sym is)
    (masked a c.args.depth c.min.result c.min.ensures)
