-- The definitions at values from outside.
use Rattle.std.proofs.Common.{◌≡◌, Some, None, [], ◌∷◌, refl}
use Rattle.std.specs.Prelude.{codes}
use Rattle.ip_table.specs.IpAddressRecord.TheVariants.{V4}
use Rattle.ip_table.specs.Bits as bits
use Rattle.prefix_text.specs.Prefixes.{plain_number, block_of, prefix_of_text}

zero : plain_number 128 (codes "0") ≡ Some 0
zero = refl

leading_zero : plain_number 128 (codes "024") ≡ None
leading_zero = refl

most : plain_number 128 (codes "128") ≡ Some 128
most = refl

above : plain_number 128 (codes "129") ≡ None
above = refl

nothing : plain_number 128 [] ≡ None
nothing = refl

no_mark : prefix_of_text (codes "198.51.100.0") ≡ None
no_mark = refl

bit_behind : block_of (V4 (198 ∷ 51 ∷ 101 ∷ 0 ∷ [])) 23 ≡ None
unfolding bits.number_of
bit_behind = refl

too_long : block_of (V4 (0 ∷ 0 ∷ 0 ∷ 0 ∷ [])) 33 ≡ None
too_long = refl

whole : block_of (V4 (198 ∷ 51 ∷ 100 ∷ 0 ∷ [])) 22
    ≡ Some (record { address = V4 (198 ∷ 51 ∷ 100 ∷ 0 ∷ []); length = 22 })
unfolding bits.number_of
whole = refl
