-- Ids and kinds at values from outside.
use Rattle.std.proofs.Common.{◌≡◌, refl}
use Rattle.std.specs.Prelude.{codes}
use Rattle.line_reading.specs.Kinds.{id_of, without_prefix}

pub first_zone : id_of 90 (codes "Z1") ≡ 1
first_zone = refl

pub last_zone : id_of 90 (codes "Z4294967294") ≡ 4294967294
last_zone = refl

-- the last number is no id
pub beyond_last : id_of 90 (codes "Z4294967295") ≡ 0
beyond_last = refl

pub leading_zero : id_of 90 (codes "Z01") ≡ 0
leading_zero = refl

pub no_number : id_of 90 (codes "Z") ≡ 0
no_number = refl

pub lower_zone : id_of 90 (codes "z1") ≡ 0
lower_zone = refl

pub check : id_of 104 (codes "h12") ≡ 12
check = refl

pub with_a_letter : id_of 104 (codes "h1a") ≡ 0
with_a_letter = refl

pub prefix_off : without_prefix (codes "/hostedzone/Z7") ≡ codes "Z7"
prefix_off = refl

pub prefix_once : without_prefix (codes "/hostedzone//hostedzone/Z7") ≡ codes "/hostedzone/Z7"
prefix_once = refl
