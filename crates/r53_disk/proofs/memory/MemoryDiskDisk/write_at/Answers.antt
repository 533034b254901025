use Rattle.r53_disk.proofs.Kept.{told, frees, elapses_write}
use Rattle.r53_disk.proofs.memory.MemoryDiskDisk.write_at.Goals as goal

pub returns-clause-reading : goal.returns-clause-reading
returns-clause-reading c = told _ _ c.args.at c.args.from.now c.requires _ c.write.ensures.after

pub returns-clause-images : goal.returns-clause-images
returns-clause-images c = frees _ _ c.args.at c.args.from.now c.requires _ c.write.ensures.after

pub returns-clause-time : goal.returns-clause-time
returns-clause-time c =
    elapses_write _ _ c.args.at c.args.from.now c.requires _ c.write.ensures.after
