-- The record that a disk in memory keeps of its calls, as the steps that it stands for.
use Rattle.std.specs.Prelude.{List, [], ◌∷◌}
use Rattle.r53_disk.specs.Memory.{Trace, Wrote, Tried, Synced}
use Rattle.r53_disk.specs.declared.record.Call.{Call}
use Rattle.r53_disk.specs.declared.record.Call.TheVariants as call

abbrev pub trace_of : Call → Trace
trace_of (call.Write at from) = Wrote at from.items
trace_of (call.Try at from) = Tried at from.items
trace_of call.Sync = Synced

abbrev pub traces_of : List Call → List Trace
traces_of [] = []
traces_of (call ∷ calls) = trace_of call ∷ traces_of calls
