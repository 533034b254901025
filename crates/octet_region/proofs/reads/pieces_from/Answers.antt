use Rattle.std.proofs.Common.{◌<◌, ◌++◌, [], ap, sym, ◌∙◌, subst, refl, take, drop}
use Rattle.octet_region.specs.Cells.{link_at, number_at, octets_at}
use Rattle.octet_region.specs.Chains.{octets_in}
use Rattle.octet_region.specs.Shape.{IsChain}
use Rattle.octet_region.proofs.Pieces.{below, chain_on, more_is, last_is, next_is, pieces_last, pieces_more}
use Rattle.octet_region.proofs.reads.pieces_from.Goals as goal

pub returns-then-not-goes_on : goal.returns-then-not-goes_on
returns-then-not-goes_on c =
    let cells = c.args.cells.now in
    let first = c.args.first in
    let last = last_is c.link_at-link.result (link_at cells first) c.link_at-link.ensures c.if-not-goes_on.ensures.1 in
    ap (λ xs. xs ++ []) c.piece_from.ensures
    ∙ pieces_last cells first c.requires.chain c.args.from last

pub front_in-requires : goal.front_in-requires
front_in-requires c =
    let cells = c.args.cells.now in
    let first = c.args.first in
    let more = more_is c.link_at-link.result (link_at cells first) c.link_at-link.ensures
    (c.if-not-goes_on.ensures.0 refl) in
    let next = next_is c.next_of.result c.link_at-link.result (link_at cells first) c.next_of.ensures
    c.link_at-link.ensures in
    subst (λ d. IsChain cells d) (sym next) (chain_on cells first c.requires.chain more)

pub returns : goal.returns
returns c =
    let cells = c.args.cells.now in
    let first = c.args.first in
    let more = more_is c.link_at-link.result (link_at cells first) c.link_at-link.ensures
    (c.if-not-goes_on.ensures.0 refl) in
    let next = next_is c.next_of.result c.link_at-link.result (link_at cells first) c.next_of.ensures
    c.link_at-link.ensures in
    let near : c.args.from < 32 = below c.args.from (number_at cells first) c.requires.near more in
    ap (λ xs. xs ++ c.front_in.result.now) (c.behind.ensures ∙ ap (drop c.args.from) c.octets_at.ensures.value)
    ∙ ap (λ xs. drop c.args.from (octets_at cells first) ++ xs)
    (c.front_in.ensures ∙ ap (λ d. take 32 (octets_in cells d)) next)
    ∙ pieces_more cells first c.requires.chain c.args.from more near
