use Rattle.std.proofs.Common.{◌≡◌, ◌∙◌, ◌++◌, ◌∷◌, [], List, length, refl, sym, ap, arith}
use Rattle.std.proofs.lemmas.List.{length_push}
use Rattle.ip_table.specs.declared.tree.Fork.{Fork}
use Rattle.ip_table.specs.Bits.{width_of}
use Rattle.ip_table.specs.Prefixes.{Prefix}
use Rattle.ip_table.proofs.Inserting.{count, kept, pushed, absent, no_prefix, table_v4, table_v6}
use Rattle.ip_table.proofs.table.IpTable.insert.Goals as goal

pub returns-then-has_row : goal.returns-then-has_row
returns-then-has_row g c = (c.has_row.ensures.0 c.if-has_row.true, refl, refl)

pub returns-then-len-ge-MAX_ROWS : goal.returns-then-len-ge-MAX_ROWS
returns-then-len-ge-MAX_ROWS g c =
    let i = c.self.inside in (
      absent i.prefixes.items i.values.items c.args.self.now c.self.invariant.values c.self.view_is
          c.args.prefix c.has_row.result c.if-has_row.false
          c.has_row.ensures,
      omega (
        arith,
        count i.prefixes.items i.values.items c.args.self.now c.self.invariant.values
            c.self.view_is,
        c.self.invariant.few,
        c.len.ensures,
        i.prefixes.ok.0,
        c.if-len-ge-MAX_ROWS.true,
      ),
      refl,
      refl,
    )

pub returns-then-not-make_room : goal.returns-then-not-make_room
returns-then-not-make_room g c =
    let i = c.self.inside in (
      absent i.prefixes.items i.values.items c.args.self.now c.self.invariant.values c.self.view_is
          c.args.prefix c.has_row.result c.if-has_row.false
          c.has_row.ensures,
      omega (
        arith,
        count i.prefixes.items i.values.items c.args.self.now c.self.invariant.values
            c.self.view_is,
        c.len.ensures,
        i.prefixes.ok.0,
        c.if-len-ge-MAX_ROWS.false,
      ),
      refl,
      kept i.prefixes.items i.values.items c.args.self.now c.self.invariant.values c.self.view_is _
          _ c.make_room.ensures.prefixes
          c.make_room.ensures.values,
    )

pub add_row-requires-clause-absent : goal.add_row-requires-clause-absent
add_row-requires-clause-absent g c =
    let i = c.self.inside in
    no_prefix i.prefixes.items i.values.items c.args.self.now c.self.invariant.values c.self.view_is
    c.args.prefix c.has_row.result c.if-has_row.false
    c.has_row.ensures c.make_room.new.prefixes.items c.make_room.ensures.prefixes

pub invariant_of-self-in-V4 : goal.invariant_of-self-in-V4
invariant_of-self-in-V4 g c =
    let i = c.self.inside in
    let family : width_of c.args.prefix.address ≡ 32 =
    ap width_of (sym c.address.ensures.value ∙ c.in-V4.is) in
    table_v4 i.prefixes.items (length i.values.items) i.v4.items i.v6.items c.self.invariant
    c.args.prefix c.address.ensures.prefix
    (no_prefix i.prefixes.items i.values.items c.args.self.now c.self.invariant.values
    c.self.view_is c.args.prefix c.has_row.result
    c.if-has_row.false c.has_row.ensures i.prefixes.items refl)
    (omega (arith, c.len.ensures, i.prefixes.ok.0, c.if-len-ge-MAX_ROWS.false))
    c.add_row.new.prefixes.items (c.add_row.ensures.items
    ∙ ap (λ (ps : List Prefix). ps ++ c.args.prefix ∷ []) c.make_room.ensures.prefixes)
    (length c.push_reserved.new.self.items)
    (ap length (c.push_reserved.ensures.items
    ∙ ap (λ vs. vs ++ c.args.value ∷ []) c.make_room.ensures.values)
    ∙ length_push i.values.items c.args.value)
    c.add_row.new.forks.items _ c.add_row.ensures.grown
    (omega (
      arith,
      c.self.invariant.few_v4,
      ap (λ (ns : List Fork). length ns) c.make_room.ensures.forks,
    )) family

pub returns-else-not-make_room : goal.returns-else-not-make_room
returns-else-not-make_room g c =
    let i = c.self.inside in (
      absent i.prefixes.items i.values.items c.args.self.now c.self.invariant.values c.self.view_is
          c.args.prefix c.has_row.result c.if-has_row.false
          c.has_row.ensures,
      omega (
        arith,
        count i.prefixes.items i.values.items c.args.self.now c.self.invariant.values
            c.self.view_is,
        c.len.ensures,
        i.prefixes.ok.0,
        c.if-len-ge-MAX_ROWS.false,
      ),
      pushed i.prefixes.items i.values.items c.args.self.now c.self.invariant.values c.self.view_is
          _ _ c.args.prefix c.args.value
          (c.add_row.ensures.items
          ∙ ap (λ (ps : List Prefix). ps ++ c.args.prefix ∷ []) c.make_room.ensures.prefixes)
          (c.push_reserved.ensures.items
          ∙ ap (λ vs. vs ++ c.args.value ∷ []) c.make_room.ensures.values),
    )

pub returns-then-not-make_room-2 : goal.returns-then-not-make_room-2
returns-then-not-make_room-2 g c =
    let i = c.self.inside in (
      absent i.prefixes.items i.values.items c.args.self.now c.self.invariant.values c.self.view_is
          c.args.prefix c.has_row.result c.if-has_row.false
          c.has_row.ensures,
      omega (
        arith,
        count i.prefixes.items i.values.items c.args.self.now c.self.invariant.values
            c.self.view_is,
        c.len.ensures,
        i.prefixes.ok.0,
        c.if-len-ge-MAX_ROWS.false,
      ),
      refl,
      kept i.prefixes.items i.values.items c.args.self.now c.self.invariant.values c.self.view_is _
          _ c.make_room-in-V6.ensures.prefixes
          c.make_room-in-V6.ensures.values,
    )

pub add_row-requires-in-V6-clause-absent : goal.add_row-requires-in-V6-clause-absent
add_row-requires-in-V6-clause-absent g c =
    let i = c.self.inside in
    no_prefix i.prefixes.items i.values.items c.args.self.now c.self.invariant.values c.self.view_is
    c.args.prefix c.has_row.result c.if-has_row.false
    c.has_row.ensures c.make_room-in-V6.new.prefixes.items c.make_room-in-V6.ensures.prefixes

pub invariant_of-self-in-V6 : goal.invariant_of-self-in-V6
invariant_of-self-in-V6 g c =
    let i = c.self.inside in
    let family : width_of c.args.prefix.address ≡ 128 =
    ap width_of (sym c.address.ensures.value ∙ c.in-V6.is) in
    table_v6 i.prefixes.items (length i.values.items) i.v4.items i.v6.items c.self.invariant
    c.args.prefix c.address.ensures.prefix
    (no_prefix i.prefixes.items i.values.items c.args.self.now c.self.invariant.values
    c.self.view_is c.args.prefix c.has_row.result
    c.if-has_row.false c.has_row.ensures i.prefixes.items refl)
    (omega (arith, c.len.ensures, i.prefixes.ok.0, c.if-len-ge-MAX_ROWS.false))
    c.add_row-in-V6.new.prefixes.items
    (c.add_row-in-V6.ensures.items
    ∙ ap (λ (ps : List Prefix). ps ++ c.args.prefix ∷ []) c.make_room-in-V6.ensures.prefixes)
    (length c.push_reserved-in-V6.new.self.items)
    (ap length (c.push_reserved-in-V6.ensures.items
    ∙ ap (λ vs. vs ++ c.args.value ∷ []) c.make_room-in-V6.ensures.values)
    ∙ length_push i.values.items c.args.value)
    c.add_row-in-V6.new.forks.items _ c.add_row-in-V6.ensures.grown
    (omega (
      arith,
      c.self.invariant.few_v6,
      ap (λ (ns : List Fork). length ns) c.make_room-in-V6.ensures.forks,
    )) family

pub returns-else-not-make_room-2 : goal.returns-else-not-make_room-2
returns-else-not-make_room-2 g c =
    let i = c.self.inside in (
      absent i.prefixes.items i.values.items c.args.self.now c.self.invariant.values c.self.view_is
          c.args.prefix c.has_row.result c.if-has_row.false
          c.has_row.ensures,
      omega (
        arith,
        count i.prefixes.items i.values.items c.args.self.now c.self.invariant.values
            c.self.view_is,
        c.len.ensures,
        i.prefixes.ok.0,
        c.if-len-ge-MAX_ROWS.false,
      ),
      pushed i.prefixes.items i.values.items c.args.self.now c.self.invariant.values c.self.view_is
          _ _ c.args.prefix c.args.value
          (c.add_row-in-V6.ensures.items
          ∙ ap (λ (ps : List Prefix). ps
          ++ c.args.prefix ∷ []) c.make_room-in-V6.ensures.prefixes)
          (c.push_reserved-in-V6.ensures.items
          ∙ ap (λ vs. vs ++ c.args.value ∷ []) c.make_room-in-V6.ensures.values),
    )
