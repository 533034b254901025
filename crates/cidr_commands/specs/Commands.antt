-- What a command on collections makes of them, or its first refusal (Route 53 API Reference,
-- CreateCidrCollection, ChangeCidrCollection and DeleteCidrCollection). Record sets use collections
-- by number, and locations by name.
use Rattle.std.specs.Prelude.{◌≡◌, ℕ, ◌+◌, Bool, not, ◌||◌, nat_lt, nat_le, nat_eq, if◌then◌else◌, ◌⊎◌, List, [], ◌∷◌, ◌++◌, length, map, Option, None, Some, IsSome, Result, Ok, Err, IsOk, ⊤}
use Rattle.std.specs.List.{filter, list_any}
use Rattle.std.specs.Str.{bytes_eq}
use Rattle.cidr_changes.specs.declared.faults.CidrFault.{CidrFault}
use Rattle.cidr_changes.specs.declared.faults.CidrFault.TheVariants.{CollectionExists, IdsEnded, TooManyCidrCollections, NoSuchCidrCollection, CidrCollectionInUse, OutOfMemory}
use Rattle.cidr_changes.specs.CidrLocationRecord.{CidrLocation}
use Rattle.cidr_changes.specs.CollectionRecord.{Collection}
use Rattle.cidr_changes.specs.Idents.{IsCollectionName}
use Rattle.cidr_changes.specs.Changed.{changed_collection}
use Rattle.cidr_changes.specs.Laws.{HaveNames}
use Rattle.cidr_changes.specs.Refusals.{first_of, refuse_if, unless}
use Rattle.cidr_commands.specs.declared.command.CidrCommand.{CidrCommand}
use Rattle.cidr_commands.specs.declared.command.CidrCommand.TheVariants.{Create, Change, Delete}
use Rattle.cidr_commands.specs.Stored.{Stored, collection_with}

-- A collection has the name.
abbrev pub is_there : (name : List ℕ) → List (ℕ × Collection) → Bool
is_there name list = list_any (λ held. bytes_eq held.1.name name) list

-- The first refusal of a new collection.
abbrev pub create_refusal : Stored → (name : List ℕ) → Option CidrFault
create_refusal stored name = first_of (
    refuse_if (is_there name stored.list) CollectionExists
    ∷ refuse_if (nat_le 100 (length stored.list)) TooManyCidrCollections
    ∷ refuse_if (nat_eq stored.next 4294967295) IdsEnded
    ∷ [])

-- with a new collection, which has no blocks
abbrev pub created : Stored → (name : List ℕ) → Stored
created stored name = record {
  next = stored.next + 1;
  list = stored.list ++ (stored.next, record { name = name; locations = [] }) ∷ [];
}

abbrev pub create_answer : Stored → (name : List ℕ) → Result Stored CidrFault
create_answer stored name = unless (create_refusal stored name) (Ok (created stored name))

-- a collection, with these locations where it has the number
abbrev pub with_locations_at : (id : ℕ) → List CidrLocation → ℕ × Collection → ℕ × Collection
with_locations_at id locations held =
    (held.0, if nat_eq held.0 id then record held.1 { locations = locations } else held.1)

-- with the locations of this collection at a number
abbrev pub replaced : Stored → (id : ℕ) → Collection → Stored
replaced stored id collection =
    record stored { list = map (with_locations_at id collection.locations) stored.list }

-- A location has a block.
abbrev pub any_has_block : List CidrLocation → Bool
any_has_block locations =
    list_any (λ (location : CidrLocation). nat_lt 0 (length location.blocks)) locations

-- A set names the collection.
abbrev pub is_used : (id : ℕ) → (used : List (ℕ × List ℕ)) → Bool
is_used id used = list_any (λ named. nat_eq named.0 id) used

-- The first refusal of the end of a collection.
abbrev pub delete_refusal : (id : ℕ) → (used : List (ℕ × List ℕ)) → Collection → Option CidrFault
delete_refusal id used collection = first_of (
    refuse_if (any_has_block collection.locations || is_used id used) CidrCollectionInUse
    ∷ [])

-- the collections without the one of a number
abbrev pub without : (id : ℕ) → List (ℕ × Collection) → List (ℕ × Collection)
without id list = filter (λ held. not (nat_eq held.0 id)) list

abbrev pub deleted : Stored → (id : ℕ) → Stored
deleted stored id = record stored { list = without id stored.list }

-- with a collection that was changed, or why it wasn't
abbrev pub put_back : Stored → (id : ℕ) → Result Collection CidrFault → Result Stored CidrFault
put_back stored id (Err fault) = Err fault
put_back stored id (Ok collection) = Ok (replaced stored id collection)

-- what a command makes of the collection of a number, which it has to name
abbrev pub of_there : (id : ℕ) → Option Collection → (Collection → Result Stored CidrFault)
    → Result Stored CidrFault
of_there id None answer = Err (NoSuchCidrCollection id)
of_there id (Some collection) answer = answer collection

-- The collections after a command, or its first refusal.
abbrev pub outcome : Stored → CidrCommand → (used : List (ℕ × List ℕ)) → Result Stored CidrFault
outcome stored (Create name) used = create_answer stored name
outcome stored (Change id changes) used = of_there id (collection_with id stored.list)
    (λ collection. put_back stored id (changed_collection collection changes id used))
outcome stored (Delete id) used = of_there id (collection_with id stored.list)
    (λ collection. unless (delete_refusal id used collection) (Ok (deleted stored id)))

-- Where memory may be wanted: where a new collection or the end of one isn't refused, and where the
-- collection is there that is changed. What changes come to isn't known before they are tried.
abbrev pub MayWant : Stored → CidrCommand → (used : List (ℕ × List ℕ)) → Type 0
MayWant stored (Create name) used = IsOk (create_answer stored name)
MayWant stored (Change id changes) used = IsSome (collection_with id stored.list)
MayWant stored (Delete id) used = IsOk (outcome stored (Delete id) used)

-- A fault is the one that is defined, or tells that memory was wanted, where it may be.
abbrev pub IsFaultWhere : {X : Type 0} → (may : Type 0) → (defined : Result X CidrFault) → CidrFault
    → Type 0
IsFaultWhere may defined fault = ((fault ≡ OutOfMemory) × may) ⊎ (defined ≡ Err fault)

-- A call answers what is defined, or that memory was wanted, where it may be.
abbrev pub GivesWhere : {X : Type 0} → (may : Type 0) → (result defined : Result X CidrFault)
    → Type 0
GivesWhere may result defined = ((result ≡ Err OutOfMemory) × may) ⊎ (result ≡ defined)

-- A new collection has a name of 1 to 64 letters, digits, `_` and `-`, a location one of 1 to 16.
abbrev pub HasNames : CidrCommand → Type 0
HasNames (Create name) = IsCollectionName name
HasNames (Change id changes) = HaveNames changes
HasNames (Delete id) = ⊤
