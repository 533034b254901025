-- The blocks of a collection after changes are those of a collection.
use Rattle.std.proofs.Common.{◌≡◌, Bool, true, false, cond, List, [], ◌∷◌, Result, Ok, refl, subst}
use Rattle.std.specs.List.{AllByRecursion}
use Rattle.std.specs.Prelude.{not, ◌||◌}
use Rattle.cidr_blocks.specs.Prefixes.{IsPrefix, Prefix}
use Rattle.cidr_changes.specs.Laws.{HasName, HaveNames}
use Rattle.cidr_changes.specs.declared.changes.CidrChange.{CidrChange}
use Rattle.cidr_changes.specs.declared.faults.CidrFault.{CidrFault}
use Rattle.cidr_changes.specs.declared.faults.CidrFault.TheVariants.{BlockLength, CidrBlockInUse}
use Rattle.cidr_blocks.specs.declared.places.CidrLocation.{CidrLocation}
use Rattle.cidr_changes.specs.Changed.{after_changes, with_locations}
use Rattle.cidr_changes.specs.Changes.{Rows, changed, has_bad_length, has_block_in_use, put_all, removed_all}
use Rattle.cidr_blocks.specs.Places.{IsBlock, IsCidrLocation, is_block}
use Rattle.cidr_changes.specs.Refusals.{first_of, refuse_if, unless}
use Rattle.cidr_changes.proofs.Rising.{AreFine, put_fine, removed_fine}

-- all are prefixes
abbrev ArePrefixes : List Prefix → Type 0
ArePrefixes blocks = AllByRecursion (λ (block : Prefix). IsPrefix block.address block.length) blocks

blocks_by : (b : Bool) (block : Prefix) (blocks : List Prefix) → is_block block ≡ b
    → IsPrefix block.address block.length → (not b || has_bad_length blocks) ≡ false
    → (has_bad_length blocks ≡ false → AllByRecursion IsBlock blocks)
    → AllByRecursion IsBlock (block ∷ blocks)
blocks_by true block blocks e prefix none rest = (record { prefix_is = prefix; fits = e }, rest none)
blocks_by false block blocks e prefix none rest = absurd (let no : ⊥ = cc in no)

pub are_blocks : (blocks : List Prefix) → ArePrefixes blocks → has_bad_length blocks ≡ false
    → AllByRecursion IsBlock blocks
are_blocks [] prefixes none = tt
are_blocks (block ∷ blocks) prefixes none =
    blocks_by (is_block block) block blocks refl prefixes.0 none (are_blocks blocks prefixes.1)

changed_by : (b : Bool) (change : CidrChange) (rows : Rows)
    → HasName change → has_bad_length change.blocks ≡ false
    → AreFine rows
    → AreFine (cond b (put_all change.location change.blocks rows)
    (removed_all change.location change.blocks rows))
changed_by true change rows named none fine =
    put_fine change.location named.name change.blocks rows
    (are_blocks change.blocks named.prefixes none) fine
changed_by false change rows named none fine =
    removed_fine change.location change.blocks rows fine

pub changed_fine : (change : CidrChange) (rows : Rows)
    → HasName change → has_bad_length change.blocks ≡ false
    → AreFine rows → AreFine (changed change rows)
changed_fine change rows = changed_by change.put change rows

abbrev pub the_answer : {X : Type 0} → X → Result X CidrFault
the_answer x = Ok x

pub the_ok : {X : Type 0} (x y : X) → the_answer x ≡ the_answer y → x ≡ y
the_ok x y e = cc

module _ (after : Rows) where
  step : (b in_use : Bool) (change : CidrChange) (rest : Result Rows CidrFault)
      → has_bad_length change.blocks ≡ b
      → unless (first_of (refuse_if b BlockLength ∷ refuse_if in_use CidrBlockInUse ∷ [])) rest ≡ Ok after
      → (has_bad_length change.blocks ≡ false) × (rest ≡ Ok after)
  step true in_use change rest e ok = absurd (let no : ⊥ = cc in no)
  step false true change rest e ok = absurd (let no : ⊥ = cc in no)
  step false false change rest e ok = (e, ok)

  pub after_fine : (changes : List CidrChange) (rows : Rows)
      → HaveNames changes
      → AreFine rows → after_changes changes rows ≡ Ok after → AreFine after
  after_fine [] rows named fine ok = subst AreFine (the_ok rows after ok) fine
  after_fine (change ∷ changes) rows named fine ok =
      let s = step (has_bad_length change.blocks) (has_block_in_use change rows) change
      (after_changes changes (changed change rows)) refl ok in
      after_fine changes (changed change rows) named.1
      (changed_fine change rows named.0 s.0 fine) s.1

pub with_fine : (locations : List CidrLocation) (rows : Rows) → AllByRecursion IsCidrLocation locations
    → AreFine rows → AreFine (with_locations locations rows)
with_fine [] rows all fine = fine
with_fine (location ∷ locations) rows all fine =
    with_fine locations (put_all location.name location.blocks rows) all.1
    (put_fine location.name all.0.name location.blocks rows all.0.are_blocks fine)
