use Rattle.std.proofs.Common.{◌∙◌, ap, length, arith}
use Rattle.r53_disk.specs.Memory.{reading_of}
use Rattle.r53_disk.proofs.Kept.{bytes_written, bytes_tried}
use Rattle.r53_disk.proofs.memory.MemoryDisk.write.Goals as goal

pub note_write-requires : goal.note_write-requires
note_write-requires c =
    omega (arith, c.requires, ap length (c.self.invariant ∙ ap reading_of c.self.view_is))

pub invariant_of-self-in_default : goal.invariant_of-self-in_default
invariant_of-self-in_default c =
    bytes_tried _ _ _ _ c.args.at c.args.from.now c.self.invariant c.in_default.ensures.kept

pub invariant_of-self-in-Ok : goal.invariant_of-self-in-Ok
invariant_of-self-in-Ok c =
    bytes_written _ _ _ _ _ c.args.at c.args.from.now c.self.invariant
    (omega (arith, c.requires, ap length (ap reading_of c.self.view_is))) c.in-Ok.ensures.kept
    c.in-Ok.ensures.reads
