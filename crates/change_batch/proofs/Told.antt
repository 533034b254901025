-- What is told of a batch.
use Rattle.std.proofs.Common.{◌≡◌, ℕ, ◌+◌, List, drop, set, suc, ◌∙◌, subst, arith}
use Rattle.std.proofs.lemmas.Option.{slice_get_within}
use Rattle.set_search.specs.RecordSetRecord.{RecordSet}
use Rattle.set_search.specs.Sameness.{Same}
use Rattle.set_search.specs.Sets.{key_of}
use Rattle.set_search.specs.SetKeyRecord.{SetKey}
use Rattle.std.specs.List.{remove, filter}
use Rattle.set_search.specs.Placing.{placed, without, comes_behind}
use Rattle.batch_limits.specs.Changing.{IsThereAsGiven}
use Rattle.change_batch.proofs.Edits.{replaced}
use Rattle.set_search.specs.Found.{FindsAt}

-- the set that is kept is equal to the one that is given, or no set is
pub as_given : (sets : List RecordSet) (given : RecordSet) (n : ℕ)
    → (f : FindsAt sets (key_of given) n) → Same f.kept given → IsThereAsGiven sets given
as_given sets given n f same = (f.kept, f.keeps, same)

pub not_as_given : (sets : List RecordSet) (given : RecordSet) (n : ℕ)
    → (f : FindsAt sets (key_of given) n) → (Same f.kept given → ⊥) → IsThereAsGiven sets given → ⊥
not_as_given sets given n f differs (kept, keeps, same) =
    differs (subst (λ s. Same s given) (f.only kept keeps) same)

-- the sets without the one at its place
pub removed : (sets : List RecordSet) (key : SetKey) (n : ℕ) → FindsAt sets key n
    → remove sets n ≡ without key sets
removed sets key n f =
    let back : filter (comes_behind key) sets ≡ drop (suc n) sets =
    (let b = f.back in let e : n + 1 ≡ suc n = omega arith in
    subst (λ k. filter (comes_behind key) sets ≡ drop k sets) e b) in
    let front = f.front in
    cc

-- the sets with one in the place of that of its key
pub put_in_place : (sets : List RecordSet) (given : RecordSet) (n : ℕ)
    → FindsAt sets (key_of given) n → set sets n given ≡ placed given sets
put_in_place sets given n f =
    let back : filter (comes_behind (key_of given)) sets ≡ drop (suc n) sets =
    (let b = f.back in let e : n + 1 ≡ suc n = omega arith in
    subst (λ k. filter (comes_behind (key_of given)) sets ≡ drop k sets) e b) in
    let front = f.front in
    let edit = replaced sets n given (slice_get_within sets n f.kept f.there) in
    edit ∙ cc
