use Rattle.std.proofs.Common.{refl}
use Rattle.hex.specs.Hex.{encode_with}
use Rattle.json_text.proofs.pieces.hex_digits.Goals as goal

pub returns : goal.returns
unfolding encode_with
returns c = refl
