-- Names and words at values from outside (API Reference, CidrCollectionChange).
use Rattle.std.proofs.Common.{◌≡◌, true, false, Some, None, refl}
use Rattle.std.specs.Prelude.{codes}
use Rattle.cidr_lines.specs.Collections.{collection_name, location_name, is_put}

pub put : is_put (codes "PUT") ≡ Some true
put = refl

pub removal : is_put (codes "DELETE_IF_EXISTS") ≡ Some false
removal = refl

pub no_star : location_name (codes "*") ≡ None
no_star = refl

pub sixteen : location_name (codes "abcdefghijklmnop") ≡ Some (codes "abcdefghijklmnop")
sixteen = refl

pub seventeen : location_name (codes "abcdefghijklmnopq") ≡ None
seventeen = refl

pub collection : collection_name (codes "abcdefghijklmnopq") ≡ Some (codes "abcdefghijklmnopq")
collection = refl
