use Rattle.r53_disk.proofs.Kept.{bytes_synced}
use Rattle.r53_disk.proofs.memory.MemoryDisk.settle.Goals as goal

pub invariant_of-self-in-Ok : goal.invariant_of-self-in-Ok
invariant_of-self-in-Ok c = bytes_synced _ _ _ _ c.self.invariant c.in-Ok.ensures.kept
