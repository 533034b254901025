-- What a region holds, and what its calls answer and leave.
use Rattle.std.specs.Prelude.{◌≡◌, ℕ, ◌+◌, ◌-◌, ◌%◌, ◌≤◌, Bool, true, false, List, [], length, refl, Option, None, Some}
use Rattle.std.specs.Prelude.{◌++◌, drop, take, if◌then◌else◌, IsTrue, ◌↔◌}
use Rattle.std.specs.Coded.{Coded, code_by, coded×, coded_ℕ, coded_list}
use Rattle.std.specs.FinMap as map
use Rattle.std.specs.Ordering.{nat_cmp}
use Rattle.octet_region.specs.Cells.{cells_for}

-- octets by handles
abbrev pub Held : Type 0
Held = map.FinMap nat_cmp (List ℕ)

-- octets by handles, how many cells are free, and how many there are
pub record Stored : Type 0 where
  pub held : Held
  pub spare : ℕ
  pub cells : ℕ

abbrev pub stored_code : Coded Stored
stored_code =
    code_by (Held × (ℕ × ℕ))
    (coded× (map.code coded_ℕ (coded_list coded_ℕ)) (coded× coded_ℕ coded_ℕ))
    (λ s. (s.held, (s.spare, s.cells)))
    (λ p. record { held = p.0; spare = p.1.0; cells = p.1.1 })
    (λ _. refl)

-- What `free` does: nothing where the handle isn't live, else its cells come back.
abbrev pub Frees : (known : Option (List ℕ)) → (old : Stored) → (handle : ℕ) → Bool → (new : Stored) → Type 0
Frees None old handle answer new = (answer ≡ false) × (new ≡ old)
Frees (Some octets) old handle answer new = (answer ≡ true) × (new ≡ record old {
  held = map.remove old.held handle;
  spare = old.spare + cells_for (length octets);
})

-- how many octets are known, if any are
abbrev pub length_of : (known : Option (List ℕ)) → Option ℕ
length_of None = None
length_of (Some octets) = Some (length octets)

-- the first 32 of the octets that are known, or all where they are fewer
abbrev pub front_of : (known : Option (List ℕ)) → List ℕ
front_of None = []
front_of (Some octets) = take 32 octets

-- the octets that are known from a place on, up to the end of the 32 among which the place is
abbrev pub piece_of : (known : Option (List ℕ)) → (place : ℕ) → List ℕ
piece_of None place = []
piece_of (Some octets) place = take (32 - place % 32) (drop place octets)

-- the same up to the end of the 32 behind those
abbrev pub pieces_of : (known : Option (List ℕ)) → (place : ℕ) → List ℕ
pieces_of None place = []
pieces_of (Some octets) place = take (64 - place % 32) (drop place octets)

-- What `copy_to` answers and leaves: all octets, in front of those that were there.
abbrev pub Copies : (known : Option (List ℕ)) → (old : List ℕ) → Option ℕ → (new : List ℕ) → Type 0
Copies None old answer new = (answer ≡ None) × (new ≡ old)
Copies (Some octets) old answer new = (answer ≡ Some (length octets))
    × (new ≡ octets ++ drop (length octets) old)

-- What `read_at` answers and leaves: as many octets as there is room for, from a place on; or, where they end
-- before, what was there.
abbrev pub CopiesFrom : (known : Option (List ℕ)) → (offset : ℕ) → (old : List ℕ) → Bool → (new : List ℕ) → Type 0
CopiesFrom None offset old answer new = (answer ≡ false) × (new ≡ old)
CopiesFrom (Some octets) offset old answer new =
    (IsTrue answer ↔ (offset + length old ≤ length octets))
    × (new ≡ (if answer then take (length old) (drop offset octets) else old))

-- whether octets stand at a place of those that are known
abbrev pub StandsAt : (known : Option (List ℕ)) → (offset : ℕ) → (octets : List ℕ) → Bool → Type 0
StandsAt None offset octets answer = answer ≡ false
StandsAt (Some known) offset octets answer = IsTrue answer
    ↔ (take (length octets) (drop offset known) ≡ octets)
