-- What is counted of a zone's sets, where one comes or goes.
use Rattle.std.proofs.Common.{◌≡◌, ℕ, ◌+◌, ◌%◌, ◌^◌, ◌<◌, List, Some, set, ap, ◌∙◌, arith}
use Rattle.std.specs.Prelude.{slice_get}
use Rattle.std.specs.List.{sum_by}
use Rattle.zone_order.specs.Slotted.{Slotted, IsPut, IsTakenAt}
use Rattle.zone_changes.specs.declared.sums.Sums.{Sums}
use Rattle.zone_changes.specs.Sums.{AreSmall, aliases_in, checked_in, labels_in, octets_in, plus, servers_in, starred_in, sums_of}
use Rattle.zone_changes.proofs.Cells.{sum_insert, sum_remove, sum_set}

all_six : (x y : Sums) → x.octets ≡ y.octets → x.aliases ≡ y.aliases → x.servers ≡ y.servers
    → x.labels ≡ y.labels → x.checked ≡ y.checked → x.starred ≡ y.starred → x ≡ y
all_six x y octets aliases servers labels checked starred =
    ap (λ (n : ℕ). record { octets = n; aliases = x.aliases; servers = x.servers; labels = x.labels; checked = x.checked; starred = x.starred }) octets
    ∙ (ap (λ (n : ℕ). record { octets = y.octets; aliases = n; servers = x.servers; labels = x.labels; checked = x.checked; starred = x.starred }) aliases
    ∙ (ap (λ (n : ℕ). record { octets = y.octets; aliases = y.aliases; servers = n; labels = x.labels; checked = x.checked; starred = x.starred }) servers
    ∙ (ap (λ (n : ℕ). record { octets = y.octets; aliases = y.aliases; servers = y.servers; labels = n; checked = x.checked; starred = x.starred }) labels
    ∙ (ap (λ (n : ℕ). record { octets = y.octets; aliases = y.aliases; servers = y.servers; labels = y.labels; checked = n; starred = x.starred }) checked
    ∙ ap (λ (n : ℕ). record { octets = y.octets; aliases = y.aliases; servers = y.servers; labels = y.labels; checked = y.checked; starred = n }) starred))))

more : (before after given counted : ℕ) → after ≡ before + given → counted ≡ (before % 2 ^ 64 + given) % 2 ^ 64
    → counted ≡ after % 2 ^ 64
more before after given counted sum is = omega (arith, sum, is)

fewer : (before after was left : ℕ) → after + was ≡ before → left < 2 ^ 64
    → (left + was) % 2 ^ 64 ≡ before % 2 ^ 64 → left ≡ after % 2 ^ 64
fewer before after was left sum few is = omega (arith, sum, few, is)

swapped : (before after given was counted left : ℕ) → after + was ≡ before + given
    → counted ≡ (before % 2 ^ 64 + given) % 2 ^ 64 → left < 2 ^ 64 → (left + was) % 2 ^ 64 ≡ counted
    → left ≡ after % 2 ^ 64
swapped before after given was counted left sum is few without = omega (arith, sum, is, few, without)

-- one more comes
pub put_sums : (before : List Slotted) (given : Slotted) (after : List Slotted) → IsPut before given after
    → (sums counted : Sums) → sums ≡ sums_of before → counted ≡ plus sums given → counted ≡ sums_of after
put_sums before given after put sums counted so_far is =
    let now = is ∙ ap (λ s. plus s given) so_far in
    all_six counted (sums_of after)
    (more (sum_by octets_in before) (sum_by octets_in after) (octets_in given) counted.octets
    (ap (sum_by octets_in) put.inserted ∙ sum_insert octets_in before put.at given)
    (ap (λ (s : Sums). s.octets) now))
    (more (sum_by aliases_in before) (sum_by aliases_in after) (aliases_in given) counted.aliases
    (ap (sum_by aliases_in) put.inserted ∙ sum_insert aliases_in before put.at given)
    (ap (λ (s : Sums). s.aliases) now))
    (more (sum_by servers_in before) (sum_by servers_in after) (servers_in given) counted.servers
    (ap (sum_by servers_in) put.inserted ∙ sum_insert servers_in before put.at given)
    (ap (λ (s : Sums). s.servers) now))
    (more (sum_by labels_in before) (sum_by labels_in after) (labels_in given) counted.labels
    (ap (sum_by labels_in) put.inserted ∙ sum_insert labels_in before put.at given)
    (ap (λ (s : Sums). s.labels) now))
    (more (sum_by checked_in before) (sum_by checked_in after) (checked_in given) counted.checked
    (ap (sum_by checked_in) put.inserted ∙ sum_insert checked_in before put.at given)
    (ap (λ (s : Sums). s.checked) now))
    (more (sum_by starred_in before) (sum_by starred_in after) (starred_in given) counted.starred
    (ap (sum_by starred_in) put.inserted ∙ sum_insert starred_in before put.at given)
    (ap (λ (s : Sums). s.starred) now))

-- one comes in place of another
pub replaced_sums : (before : List Slotted) (given was : Slotted) (after : List Slotted) (at : ℕ)
    → slice_get before at ≡ Some was → after ≡ set before at given → (sums counted left : Sums)
    → sums ≡ sums_of before → counted ≡ plus sums given → AreSmall left
    → plus left was ≡ counted → left ≡ sums_of after
replaced_sums before given was after at there replaced sums counted left so_far is small without =
    let now = is ∙ ap (λ s. plus s given) so_far in
    all_six left (sums_of after)
    (swapped (sum_by octets_in before) (sum_by octets_in after) (octets_in given) (octets_in was) counted.octets left.octets
    (ap (λ ps. sum_by octets_in ps + octets_in was) replaced ∙ sum_set octets_in before at was given there)
    (ap (λ (s : Sums). s.octets) now) small.octets (ap (λ (s : Sums). s.octets) without))
    (swapped (sum_by aliases_in before) (sum_by aliases_in after) (aliases_in given) (aliases_in was) counted.aliases left.aliases
    (ap (λ ps. sum_by aliases_in ps + aliases_in was) replaced ∙ sum_set aliases_in before at was given there)
    (ap (λ (s : Sums). s.aliases) now) small.aliases (ap (λ (s : Sums). s.aliases) without))
    (swapped (sum_by servers_in before) (sum_by servers_in after) (servers_in given) (servers_in was) counted.servers left.servers
    (ap (λ ps. sum_by servers_in ps + servers_in was) replaced ∙ sum_set servers_in before at was given there)
    (ap (λ (s : Sums). s.servers) now) small.servers (ap (λ (s : Sums). s.servers) without))
    (swapped (sum_by labels_in before) (sum_by labels_in after) (labels_in given) (labels_in was) counted.labels left.labels
    (ap (λ ps. sum_by labels_in ps + labels_in was) replaced ∙ sum_set labels_in before at was given there)
    (ap (λ (s : Sums). s.labels) now) small.labels (ap (λ (s : Sums). s.labels) without))
    (swapped (sum_by checked_in before) (sum_by checked_in after) (checked_in given) (checked_in was) counted.checked left.checked
    (ap (λ ps. sum_by checked_in ps + checked_in was) replaced ∙ sum_set checked_in before at was given there)
    (ap (λ (s : Sums). s.checked) now) small.checked (ap (λ (s : Sums). s.checked) without))
    (swapped (sum_by starred_in before) (sum_by starred_in after) (starred_in given) (starred_in was) counted.starred left.starred
    (ap (λ ps. sum_by starred_in ps + starred_in was) replaced ∙ sum_set starred_in before at was given there)
    (ap (λ (s : Sums). s.starred) now) small.starred (ap (λ (s : Sums). s.starred) without))

-- one goes
pub taken_sums : (before : List Slotted) (at slot : ℕ) (after : List Slotted)
    → (t : IsTakenAt before at slot after) → (sums left : Sums) → sums ≡ sums_of before
    → AreSmall left
    → plus left (record { slot = slot; set = t.set }) ≡ sums → left ≡ sums_of after
taken_sums before at slot after t sums left so_far small without =
    let was : Slotted = record { slot = slot; set = t.set } in
    let now = without ∙ so_far in
    all_six left (sums_of after)
    (fewer (sum_by octets_in before) (sum_by octets_in after) (octets_in was) left.octets
    (ap (λ ps. sum_by octets_in ps + octets_in was) t.removed ∙ sum_remove octets_in before at was t.there)
    small.octets (ap (λ (s : Sums). s.octets) now))
    (fewer (sum_by aliases_in before) (sum_by aliases_in after) (aliases_in was) left.aliases
    (ap (λ ps. sum_by aliases_in ps + aliases_in was) t.removed ∙ sum_remove aliases_in before at was t.there)
    small.aliases (ap (λ (s : Sums). s.aliases) now))
    (fewer (sum_by servers_in before) (sum_by servers_in after) (servers_in was) left.servers
    (ap (λ ps. sum_by servers_in ps + servers_in was) t.removed ∙ sum_remove servers_in before at was t.there)
    small.servers (ap (λ (s : Sums). s.servers) now))
    (fewer (sum_by labels_in before) (sum_by labels_in after) (labels_in was) left.labels
    (ap (λ ps. sum_by labels_in ps + labels_in was) t.removed ∙ sum_remove labels_in before at was t.there)
    small.labels (ap (λ (s : Sums). s.labels) now))
    (fewer (sum_by checked_in before) (sum_by checked_in after) (checked_in was) left.checked
    (ap (λ ps. sum_by checked_in ps + checked_in was) t.removed ∙ sum_remove checked_in before at was t.there)
    small.checked (ap (λ (s : Sums). s.checked) now))
    (fewer (sum_by starred_in before) (sum_by starred_in after) (starred_in was) left.starred
    (ap (λ ps. sum_by starred_in ps + starred_in was) t.removed ∙ sum_remove starred_in before at was t.there)
    small.starred (ap (λ (s : Sums). s.starred) now))
