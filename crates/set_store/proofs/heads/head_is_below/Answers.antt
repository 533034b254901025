use Rattle.std.proofs.Common.{sym, subst}
use Rattle.set_search.specs.Suffix.{EndsWith}
use Rattle.set_scratch.specs.Names.{name_at}
use Rattle.set_store.proofs.Named.{name_of_head, read_one, never}
use Rattle.set_store.proofs.heads.head_is_below.Goals as goal

pub unreachable-requires : goal.unreachable-requires
unreachable-requires c =
    let is = c.requires in
    never (name_at c.args.octets.now) _ _
    (name_of_head c.base_fields_are_read.ensures is.0 is.1 c.args.octets.now is.2 is.3) c.in-Err.ensures

pub returns : goal.returns
returns c it rest is e =
    let same = read_one (name_at c.args.octets.now) _ _
    (name_of_head c.base_fields_are_read.ensures it rest c.args.octets.now is e) c.in-Ok.ensures in (
      (λ t. subst (λ n. EndsWith n c.args.name.now) (sym same) (c.ends_with.ensures.0 t)),
      λ ends. c.ends_with.ensures.1 (subst (λ n. EndsWith n c.args.name.now) same ends),
    )
