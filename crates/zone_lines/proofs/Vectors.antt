-- Parts of lines on zones at values from outside.
use Rattle.std.proofs.Common.{◌≡◌, [], Some, None, Ok, refl}
use Rattle.std.specs.Prelude.{codes}
use Rattle.dns_name.specs.Text.{name_of_text}
use Rattle.zone_lines.specs.Zones.{items_of, default_server}

pub first_server : name_of_text (codes "ns1.r53.invalid.") ≡ Ok (default_server (codes "ns1"))
first_server = refl

pub most_items : items_of (codes "300") ≡ Some 300
most_items = refl

pub too_many_items : items_of (codes "301") ≡ None
too_many_items = refl

pub leading_zeros : items_of (codes "007") ≡ Some 7
leading_zeros = refl

pub no_items : items_of (codes "0") ≡ None
no_items = refl

pub no_digits : items_of [] ≡ None
no_digits = refl

pub a_sign : items_of (codes "+1") ≡ None
a_sign = refl
