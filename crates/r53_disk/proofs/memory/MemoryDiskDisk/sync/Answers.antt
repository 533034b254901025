use Rattle.r53_disk.proofs.Kept.{reads_same, settles, elapses_sync}
use Rattle.r53_disk.proofs.memory.MemoryDiskDisk.sync.Goals as goal

pub returns-clause-reading : goal.returns-clause-reading
returns-clause-reading c = reads_same _ _ _ c.settle.ensures.after

pub returns-clause-images : goal.returns-clause-images
returns-clause-images c = settles _ _ _ c.settle.ensures.after

pub returns-clause-time : goal.returns-clause-time
returns-clause-time c = elapses_sync _ _ _ c.settle.ensures.after
