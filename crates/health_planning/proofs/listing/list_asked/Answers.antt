use Rattle.std.proofs.Common.{inl, inr, ◌∙◌, sym}
use Rattle.std.proofs.lemmas.Bool.{false≢true}
use Rattle.policy_select.specs.Changes.{ref_in}
use Rattle.health_planning.proofs.listing.list_asked.Goals as goal

pub returns-clause-all : goal.returns-clause-all
returns-clause-all c asked zone p here watched = elim (asked zone p here watched) [
  | inl whole ↦ absurd (false≢true (sym c.if-whole.false ∙ whole))
  | inr one ↦ elim one [
    | inl known ↦
        let l = c.list_those.ensures.all known.0 (ref_in zone p) p.set known.1 here watched in
        (l.0, c.list_those-2.ensures.goes_on l.0 (ref_in zone p) l.1)
    | inr came ↦ c.list_those-2.ensures.all came.0 (ref_in zone p) p.set came.1 here watched
  ]
]

pub list_those-requires-2-clause-listed : goal.list_those-requires-2-clause-listed
list_those-requires-2-clause-listed c =
    (c.requires.listed.0, (c.requires.listed.1.0, c.list_those.ensures.listed c.requires.listed.0 c.requires.listed.1.0 c.requires.listed.1.1))

pub returns-clause-listed : goal.returns-clause-listed
returns-clause-listed c first before are =
    c.list_those-2.ensures.listed first before (c.list_those.ensures.listed first before are)
