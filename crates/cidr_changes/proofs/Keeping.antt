-- What changes make of a collection is one.
use Rattle.std.proofs.Common.{◌≡◌, ℕ, Bool, true, false, List, [], ◌∷◌, length, Option, None, Some, Result, Ok, Err, refl, subst, arith}
use Rattle.std.specs.Prelude.{nat_lt, option_map}
use Rattle.std.proofs.lemmas.Bool.{ltb-false}
use Rattle.cidr_changes.specs.declared.faults.CidrFault.{CidrFault}
use Rattle.cidr_changes.specs.declared.faults.CidrFault.TheVariants.{TooManyCidrBlocks, CidrLocationInUse}
use Rattle.cidr_blocks.specs.declared.places.Collection.{Collection}
use Rattle.cidr_changes.specs.Changed.{after_changes, finished, least, unplaced, with_locations}
use Rattle.cidr_changes.specs.Changes.{Rows}
use Rattle.cidr_changes.specs.Gathered.{locations_of}
use Rattle.cidr_changes.specs.Laws.{KeepCollections}
use Rattle.cidr_blocks.specs.Places.{IsCollection}
use Rattle.cidr_changes.specs.Refusals.{first_of, refuse_if, unless}
use Rattle.cidr_changes.proofs.Fine.{after_fine, the_ok, with_fine}
use Rattle.cidr_changes.proofs.Gather.{gathered_all, gathered_count, none_gathered}
use Rattle.cidr_changes.proofs.Rising.{AreFine, none_fine}

module _ (collection : Collection) (id : ℕ) (used : List (ℕ × List ℕ)) (after : Collection)
    (is : IsCollection collection) where
  made : (rows : Rows) → AreFine rows → nat_lt 1000 (length rows) ≡ false
      → record collection { locations = locations_of rows } ≡ after → IsCollection after
  made rows fine few same =
      let g = gathered_all rows [] fine.good fine.rising (none_gathered rows) in
      subst IsCollection same (record {
        name = is.name;
        each = g.each;
        rising = g.rising;
        once = g.once;
        few = (let e = gathered_count rows [] in let f = ltb-false 1000 (length rows) few in
            omega (arith, e, f));
      })

  by_rules : (many : Bool) (unplaced : Option (List ℕ)) (rows : Rows) → AreFine rows
      → nat_lt 1000 (length rows) ≡ many
      → unless (first_of (refuse_if many TooManyCidrBlocks ∷ option_map CidrLocationInUse unplaced ∷ []))
      (Ok (record collection { locations = locations_of rows })) ≡ Ok after
      → IsCollection after
  by_rules true unplaced rows fine e ok = absurd (let no : ⊥ = cc in no)
  by_rules false (Some name) rows fine e ok = absurd (let no : ⊥ = cc in no)
  by_rules false None rows fine e ok =
      made rows fine e (the_ok (record collection { locations = locations_of rows }) after ok)

  by_changes : (result : Result Rows CidrFault) → ((rows : Rows) → result ≡ Ok rows → AreFine rows)
      → finished collection id used result ≡ Ok after → IsCollection after
  by_changes (Err fault) fine ok = absurd (let no : ⊥ = cc in no)
  by_changes (Ok rows) fine ok =
      by_rules (nat_lt 1000 (length rows)) (least (unplaced id (locations_of rows) used)) rows
      (fine rows refl) refl ok

pub keep : KeepCollections
keep collection changes id used after is named ok =
    by_changes collection id used after is
    (after_changes changes (with_locations collection.locations []))
    (λ rows. after_fine rows changes (with_locations collection.locations []) named
    (with_fine collection.locations [] is.each none_fine)) ok
