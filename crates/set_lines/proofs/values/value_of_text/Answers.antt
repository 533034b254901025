use Rattle.set_lines.proofs.values.value_of_text.Goals as goal

pub returns : goal.returns
returns c = (c.texts_read_as_values.ensures c.args.rtype c.args.text.now c.from_text.result).0 c.from_text.ensures
