use Rattle.std.proofs.Common.{◌≡◌, ◌∙◌, ◌+◌, ◌-◌, ◌≤◌, ◌++◌, length, take, drop, sym, ap, subst, arith, rules, refl}
use Rattle.byteorder.specs.Endian.{big_bytes}
use Rattle.gate_journal.specs.Layout.{header_text, inner}
use Rattle.file_building.specs.Building.{Plan}
use Rattle.file_building.proofs.PartLemmas.{reaches_less, filled, from_front, recast, room}
use Rattle.file_building.proofs.plan.Compaction.fill.Goals as goal

pub read_behind-requires-clause-reaches : goal.read_behind-requires-clause-reaches
read_behind-requires-clause-reaches g c =
    let p = c.self.inside in
    let snapshot : length c.deref.result.now ≡ length p.snapshot.items =
    ap length c.deref.ensures.value in
    let l1 = c.put_part-text_end.auto.piece in
    let l2 = c.put_part-number_end.auto.piece ∙ l1 in
    let l3 = c.put_part-count_end.auto.piece ∙ l2 in
    let l4 = c.put_part-snapshot_end.auto.piece ∙ l3 in
    let s1 : c.saturating_sub-in_number.result ≡ p.next - 1 - 7 = search rules in
    let number : c.write_u64.new.buf ≡ big_bytes 8 c.args.generation = search rules in
    let count : c.write_u32.new.buf ≡ big_bytes 4 (length p.snapshot.items) = search rules in
    let eight : length c.write_u64.new.buf ≡ 8 = ap length number in
    let four_long : length c.write_u32.new.buf ≡ 4 = ap length count in
    let s2 : c.saturating_sub-in_count.result
    ≡ c.saturating_sub-in_number.result - length c.write_u64.new.buf =
    omega (arith, c.saturating_sub-in_count.ensures, eight) in
    let s3 : c.saturating_sub-in_snapshot.result
    ≡ c.saturating_sub-in_count.result - length c.write_u32.new.buf =
    omega (arith, c.saturating_sub-in_snapshot.ensures, four_long) in
    let s4 : c.saturating_sub-in_entries.result
    ≡ c.saturating_sub-in_snapshot.result - length c.deref.result.now =
    omega (arith, c.saturating_sub-in_entries.ensures, c.len-2.ensures, snapshot) in
    let within : length c.args.piece.now + (p.next - 1) ≤ 19 + length c.deref.result.now +
    (c.args.at - p.from) =
    omega (
      arith,
      snapshot,
      c.requires.within,
      ap (λ (q : Plan). q.next) c.self.view_is,
      ap (λ (q : Plan). q.from) c.self.view_is,
      ap (λ (q : Plan). length q.snapshot) c.self.view_is,
    ) in
    let from : p.from ≤ c.args.at =
    omega (arith, c.requires.from, ap (λ (q : Plan). q.from) c.self.view_is) in
    let left =
    room (length c.args.piece.now) _ _ _ (p.next - 1) c.put_part-text_end.result
    c.put_part-number_end.result c.put_part-count_end.result c.put_part-snapshot_end.result
    c.saturating_sub-in_number.result c.saturating_sub-in_count.result
    c.saturating_sub-in_snapshot.result c.saturating_sub-in_entries.result
    (length c.write_u64.new.buf) (length c.write_u32.new.buf) (length c.deref.result.now)
    (c.args.at - p.from) l1 l2 l3 eight four_long s1 s2 s3 s4
    c.put_part-text_end.ensures.room c.put_part-number_end.ensures.room
    c.put_part-count_end.ensures.room c.put_part-snapshot_end.ensures.room within in
    reaches_less (g.D.Disk.reading c.args.active.now) _ c.args.at (omega (arith, left, from, l4))
    c.requires.reaches

pub returns-clause-bytes : goal.returns-clause-bytes
returns-clause-bytes g c = λ whole x told.
    let p = c.self.inside in
    let snapshot : length c.deref.result.now ≡ length p.snapshot.items =
    ap length c.deref.ensures.value in
    let l1 = c.put_part-text_end.auto.piece in
    let l2 = c.put_part-number_end.auto.piece ∙ l1 in
    let l3 = c.put_part-count_end.auto.piece ∙ l2 in
    let l4 = c.put_part-snapshot_end.auto.piece ∙ l3 in
    let s1 : c.saturating_sub-in_number.result ≡ p.next - 1 - 7 = search rules in
    let number : c.write_u64.new.buf ≡ big_bytes 8 c.args.generation = search rules in
    let count : c.write_u32.new.buf ≡ big_bytes 4 (length p.snapshot.items) = search rules in
    let eight : length c.write_u64.new.buf ≡ 8 = ap length number in
    let four_long : length c.write_u32.new.buf ≡ 4 = ap length count in
    let s2 : c.saturating_sub-in_count.result
    ≡ c.saturating_sub-in_number.result - length c.write_u64.new.buf =
    omega (arith, c.saturating_sub-in_count.ensures, eight) in
    let s3 : c.saturating_sub-in_snapshot.result
    ≡ c.saturating_sub-in_count.result - length c.write_u32.new.buf =
    omega (arith, c.saturating_sub-in_snapshot.ensures, four_long) in
    let s4 : c.saturating_sub-in_entries.result
    ≡ c.saturating_sub-in_snapshot.result - length c.deref.result.now =
    omega (arith, c.saturating_sub-in_entries.ensures, c.len-2.ensures, snapshot) in
    let within : length c.args.piece.now + (p.next - 1) ≤ 19 + length c.deref.result.now +
    (c.args.at - p.from) =
    omega (
      arith,
      snapshot,
      c.requires.within,
      ap (λ (q : Plan). q.next) c.self.view_is,
      ap (λ (q : Plan). q.from) c.self.view_is,
      ap (λ (q : Plan). length q.snapshot) c.self.view_is,
    ) in
    let from : p.from ≤ c.args.at =
    omega (arith, c.requires.from, ap (λ (q : Plan). q.from) c.self.view_is) in
    let left =
    room (length c.args.piece.now) _ _ _ (p.next - 1) c.put_part-text_end.result
    c.put_part-number_end.result c.put_part-count_end.result c.put_part-snapshot_end.result
    c.saturating_sub-in_number.result c.saturating_sub-in_count.result
    c.saturating_sub-in_snapshot.result c.saturating_sub-in_entries.result
    (length c.write_u64.new.buf) (length c.write_u32.new.buf) (length c.deref.result.now)
    (c.args.at - p.from) l1 l2 l3 eight four_long s1 s2 s3 s4
    c.put_part-text_end.ensures.room c.put_part-number_end.ensures.room
    c.put_part-count_end.ensures.room c.put_part-snapshot_end.ensures.room within in
    let n = length c.args.piece.now in
    let one =
    recast n n c.args.piece.now 0 (p.next - 1) c.put_part-text_end.new.piece
    c.put_part-text_end.result (p.next - 1 - 7) c.saturating_sub-in_number.result header_text header_text refl
    s1 refl c.put_part-text_end.ensures.bytes in
    let two =
    recast n _ c.put_part-text_end.new.piece c.put_part-text_end.result
    c.saturating_sub-in_number.result c.put_part-number_end.new.piece
    c.put_part-number_end.result
    (c.saturating_sub-in_number.result - length c.write_u64.new.buf)
    c.saturating_sub-in_count.result c.write_u64.new.buf (big_bytes 8 c.args.generation) l1 s2
    number c.put_part-number_end.ensures.bytes in
    let three =
    recast n _ c.put_part-number_end.new.piece c.put_part-number_end.result
    c.saturating_sub-in_count.result c.put_part-count_end.new.piece c.put_part-count_end.result
    (c.saturating_sub-in_count.result - length c.write_u32.new.buf)
    c.saturating_sub-in_snapshot.result c.write_u32.new.buf
    (big_bytes 4 (length p.snapshot.items)) l2 s3 count c.put_part-count_end.ensures.bytes in
    let four =
    recast n _ c.put_part-count_end.new.piece c.put_part-count_end.result
    c.saturating_sub-in_snapshot.result c.put_part-snapshot_end.new.piece
    c.put_part-snapshot_end.result
    (c.saturating_sub-in_snapshot.result - length c.deref.result.now)
    c.saturating_sub-in_entries.result c.deref.result.now p.snapshot.items l3 s4
    c.deref.ensures.value c.put_part-snapshot_end.ensures.bytes in
    let last : c.read_behind.new.piece
    ≡ take c.put_part-snapshot_end.result c.put_part-snapshot_end.new.piece
    ++ take (n - c.put_part-snapshot_end.result)
    (drop c.saturating_sub-in_entries.result (drop p.from (take c.args.at x))) =
    c.read_behind.ensures.bytes whole x told
    ∙ ap (λ m. take c.put_part-snapshot_end.result c.put_part-snapshot_end.new.piece
    ++ take (m - c.put_part-snapshot_end.result)
    (drop (p.from + c.saturating_sub-in_entries.result) x)) l4
    ∙ ap (λ l. take c.put_part-snapshot_end.result c.put_part-snapshot_end.new.piece
    ++ l) (sym
    (from_front c.args.at p.from c.saturating_sub-in_entries.result
    (n - c.put_part-snapshot_end.result) x from left)) in
    subst (λ (q : Plan). c.read_behind.new.piece
    ≡ take n (drop (q.next - 1) (inner c.args.generation q.snapshot
    ++ drop q.from (take c.args.at x)))) c.self.view_is
    (filled n (p.next - 1) _ _ _ _ _ _ _ _ c.args.piece.now _ _ _ _ _ _ c.args.generation
    p.snapshot.items one two three four last)
