use Rattle.std.proofs.Common.{ℕ, ◌*◌, ◌^◌, sym, ap, ◌∙◌, arith}
use Rattle.std.proofs.lemmas.Nat.{shl_whole}
use Rattle.ip_table.specs.Bits.{number_of}
use Rattle.ip_table.proofs.bits.number_of.Goals as goal

pub returns-in-V4 : goal.returns-in-V4
unfolding number_of
returns-in-V4 c =
    shl_whole c.from.result 32 96 128 (omega arith) (omega arith)
    ∙ ap (λ (n : ℕ). n * 2 ^ 96) (c.from.ensures ∙ c.from_be_bytes.ensures)
    ∙ ap number_of (sym c.in-V4.is)

pub returns-in-V6 : goal.returns-in-V6
unfolding number_of
returns-in-V6 c = c.from_be_bytes-in-V6.ensures ∙ ap number_of (sym c.in-V6.is)
