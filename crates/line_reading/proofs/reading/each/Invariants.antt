use Rattle.std.proofs.Common.{◌≡◌, ℕ, drop, length, Result}
use Rattle.serde_json.specs.Data.{Data}
use Rattle.serde_json.specs.View.{items_view}
use Rattle.line_faults.specs.declared.fault.LineFault.{LineFault}
use Rattle.line_reading.specs.Reading.{ReadsItem, each}
use Rattle.line_reading.proofs.Items.{with_front}
use Rattle.line_reading.proofs.reading.each.Given as goal

abbrev pub invariant-loop-index : goal.invariant-loop-index
invariant-loop-index g l = record {
  reads : (reads : ℕ → Data → Result g.row.T.Denot LineFault)
      → ReadsItem (λ k v r. goal.F-post g l.read k v r) reads
      → with_front l.list.items (each reads l.index (items_view (drop l.index l.items)))
      ≡ each reads 0 (items_view l.items);
  size : length l.list.items ≡ l.index;
}
