use Rattle.std.proofs.Common.{◌∙◌, arith, ap, sym}
use Rattle.std.proofs.lemmas.List.{take_more_set}
use Rattle.dns_name.specs.Written.{text_of}
use Rattle.dns_name.proofs.name.Name.write_text.Goals as goal

pub returns-then-is_root-clause-written : goal.returns-then-is_root-clause-written
returns-then-is_root-clause-written c =
    take_more_set c.args.into.now 0 46 (omega (arith, c.fits-into))
    ∙ ap text_of (sym (c.is_root.ensures.0 c.if-is_root.true))
