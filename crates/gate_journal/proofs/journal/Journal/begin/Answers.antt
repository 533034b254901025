use Rattle.std.proofs.Common.{◌+◌, ◌<◌, ◌^◌, ◌∙◌, [], rules, take, drop, sym, ap, subst, arith}
use Rattle.r53_disk.proofs.Moments.{rests_joined, only_still}
use Rattle.gate_journal.specs.Read.{IsRead}
use Rattle.gate_journal.proofs.AppendLemmas.{reaches}
use Rattle.gate_journal.proofs.Reading.{begun}
use Rattle.gate_journal.proofs.journal.Journal.begin.Goals as goal

pub read_whole-requires : goal.read_whole-requires
read_whole-requires g c =
    reaches _ _ (λ bytes told.
    let was =
    sym (c.read_count.ensures.rests.reads ∙ c.look.ensures.rests.reads
    ∙ c.size.ensures.rests.reads) ∙ told in
    omega (
      arith,
      c.in-Bytes.ensures.size bytes was,
      c.if-size-from.false,
      c.if-size-lt20.false,
      c.from.ensures,
      c.in-Ok.ensures.length,
    ))

pub returns-clause-gives : goal.returns-clause-gives
returns-clause-gives g c =
    λ bytes told.
    let at_look = c.size.ensures.rests.reads ∙ told in
    let at_count = c.look.ensures.rests.reads ∙ at_look in
    let at_snapshot = c.read_count.ensures.rests.reads ∙ at_count in
    let looked = c.in-Open.ensures.tells bytes at_look in
    let g_fits : c.in-Open.field-0 < 2 ^ 64 = search rules in
    let snapshot = c.in-Some-read_whole.ensures.bytes bytes at_snapshot
    ∙ ap (λ k. take k (drop 20 bytes)) c.in-Ok.ensures.length in
    let read =
    begun bytes c.in-Open.field-0 c.in-Some.count c.in-Some-read_whole.snapshot.items looked.0
    g_fits looked.2
    (omega (arith, c.from.type_inv, c.from.ensures)) (c.in-Some.ensures.count bytes at_count)
    snapshot
    (c.in-Some-read_whole.ensures.length ∙ c.in-Ok.ensures.length) in
    let here =
    subst (λ n. IsRead (20 + n) bytes c.in-Open.field-0 c.in-Some-read_whole.snapshot.items [])
    (sym c.from-at.ensures) read in (
      looked.0,
      subst (λ n. IsRead (20 + c.from-at.result) bytes n c.in-Some-read_whole.snapshot.items [])
          looked.1 here,
    )

pub returns-clause-reads_on : goal.returns-clause-reads_on
returns-clause-reads_on g c =
    let rests =
    rests_joined
    (rests_joined (rests_joined c.size.ensures.rests c.look.ensures.rests)
    c.read_count.ensures.rests) c.read_whole.ensures.rests in
    record {
      file = λ bytes told.
          let was = sym rests.reads ∙ told in
          record {
            generation = _;
            snapshot = _;
            entries = [];
            read =
                (returns-clause-gives g c bytes was).1;
          };
      durable = λ bytes told. only_still rests (c.requires bytes (sym rests.reads ∙ told));
    }
