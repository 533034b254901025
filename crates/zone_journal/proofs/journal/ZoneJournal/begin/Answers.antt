use Rattle.std.proofs.Common.{◌∙◌, [], Err, refl, sym, subst, ⊎_elim}
use Rattle.file_building.specs.Read.{IsRead, BeginGives as FileBegins}
use Rattle.zone_journal.specs.Pairs.{Yields}
use Rattle.zone_journal.proofs.journal.ZoneJournal.begin.Goals as goal

pub returns-in-Ok-clause-gives : goal.returns-in-Ok-clause-gives
returns-in-Ok-clause-gives g c = λ x y tx ty.
    let chosen = c.requires.chosen.is_open x tx in
    let gives = c.in-Ok.ensures.gives x tx in (
      refl,
      (
        gives.0,
        subst (λ n. Yields c.args.side n y) (sym chosen.1) (c.requires.chosen.yields y ty),
      ),
      subst (λ n. IsRead c.in-Ok.journal x n c.in-Ok.snapshot.items []) chosen.1 gives.1,
      refl,
    )

pub returns-in-Ok-clause-reads_on : goal.returns-in-Ok-clause-reads_on
returns-in-Ok-clause-reads_on g c = record {
  journal = c.in-Ok.ensures.reads_on;
  generation = λ x told. (c.requires.chosen.is_open x (sym c.begin.ensures.rests.reads ∙ told)).1;
  fits = c.ranges.generation.fits;
  yields = c.requires.chosen.yields;
  durable = c.requires.other;
  no_plan = refl;
}

pub returns-in-Err-Bad-clause-gives : goal.returns-in-Err-Bad-clause-gives
returns-in-Err-Bad-clause-gives g c = λ x y tx ty.
    let chosen = c.requires.chosen.is_open x tx in
    ⊎_elim (λ shut. absurd (shut.1 chosen.0))
    (λ short. (
      refl,
      (
        chosen.0,
        subst (λ n. Yields c.args.side n y) (sym chosen.1) (c.requires.chosen.yields y ty),
      ),
      short.0,
      short.2,
    ))
    (subst (λ e. FileBegins (Err e) x) c.in-Err-Bad.field-0-is
    (c.in-Err-Bad.ensures.gives x tx))
