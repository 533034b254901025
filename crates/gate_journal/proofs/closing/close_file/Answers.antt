use Rattle.std.proofs.Common.{◌∙◌, inl}
use Rattle.r53_disk.proofs.Moments.{started, goes_on, weaker, after_rest, rests_joined, only_still, settled_within}
use Rattle.gate_journal.specs.Closing.{IsWholeOrShut}
use Rattle.gate_journal.proofs.Closings.{no_bytes, first_open, closes, torn_shut, settled}
use Rattle.gate_journal.proofs.closing.close_file.Goals as goal

pub returns-then-size-eq0-clause-closed : goal.returns-then-size-eq0-clause-closed
returns-then-size-eq0-clause-closed g c = λ bytes told.
    let to_close =
    no_bytes bytes c.in-Bytes.size (c.in-Bytes.ensures.size bytes told) c.if-size-eq0.true in
    closes c.write_synced.result bytes _ _ to_close
    (c.write_synced.ensures.kept bytes (c.size.ensures.rests.reads ∙ told))

pub returns-then-size-eq0-clause-any_moment : goal.returns-then-size-eq0-clause-any_moment
returns-then-size-eq0-clause-any_moment g c = λ bytes told.
    let D = g.D.Disk in
    let to_close =
    no_bytes bytes c.in-Bytes.size (c.in-Bytes.ensures.size bytes told) c.if-size-eq0.true in
    let only = only_still c.size.ensures.rests (c.requires bytes told) in
    after_rest D.reading D.images D.moment D.images_since _ _ _ (IsWholeOrShut bytes)
    c.size.ensures.rests
    (weaker D.moment D.images_since _ _ _ (IsWholeOrShut bytes)
    (c.write_synced.ensures.any_moment bytes (c.size.ensures.rests.reads ∙ told))
    (λ f left. torn_shut bytes _ to_close only f left))

pub returns-then-gate-eq-OPEN-clause-closed : goal.returns-then-gate-eq-OPEN-clause-closed
returns-then-gate-eq-OPEN-clause-closed g c = λ bytes told.
    let rests = rests_joined c.size.ensures.rests c.read_byte.ensures.rests in
    let to_close =
    first_open bytes c.in-Some.gate (c.in-Some.ensures.byte bytes (c.size.ensures.rests.reads
    ∙ told)) c.if-gate-eq-OPEN.true in
    closes c.write_synced-then-gate-eq-OPEN.result bytes _ _ to_close
    (c.write_synced-then-gate-eq-OPEN.ensures.kept bytes (rests.reads ∙ told))

pub returns-then-gate-eq-OPEN-clause-any_moment : goal.returns-then-gate-eq-OPEN-clause-any_moment
returns-then-gate-eq-OPEN-clause-any_moment g c = λ bytes told.
    let D = g.D.Disk in
    let rests = rests_joined c.size.ensures.rests c.read_byte.ensures.rests in
    let to_close =
    first_open bytes c.in-Some.gate (c.in-Some.ensures.byte bytes (c.size.ensures.rests.reads
    ∙ told)) c.if-gate-eq-OPEN.true in
    let only = only_still rests (c.requires bytes told) in
    after_rest D.reading D.images D.moment D.images_since _ _ _ (IsWholeOrShut bytes) rests
    (weaker D.moment D.images_since _ _ _ (IsWholeOrShut bytes)
    (c.write_synced-then-gate-eq-OPEN.ensures.any_moment bytes (rests.reads ∙ told))
    (λ f left. torn_shut bytes _ to_close only f left))

pub returns-clause-closed : goal.returns-clause-closed
returns-clause-closed g c = λ bytes told.
    let rests = rests_joined c.size.ensures.rests c.read_byte.ensures.rests in
    settled c.sync.result bytes c.in-Some.gate _ _ _ c.if-gate-eq-OPEN.false
    (c.in-Some.ensures.byte bytes (c.size.ensures.rests.reads ∙ told))
    (c.sync.ensures.reading ∙ rests.reads ∙ told) (c.sync.ensures.images bytes (rests.reads ∙ told))

pub returns-clause-any_moment : goal.returns-clause-any_moment
returns-clause-any_moment g c = λ bytes told.
    let D = g.D.Disk in
    let rests = rests_joined c.size.ensures.rests c.read_byte.ensures.rests in
    let only = only_still rests (c.requires bytes told) in
    let at_start =
    started D.moment D.images_since c.read_byte.new.disk (IsWholeOrShut bytes)
    (λ f left. inl (only f (g.met.D.Disk.only_now c.read_byte.new.disk f left))) in
    after_rest D.reading D.images D.moment D.images_since _ _ _ (IsWholeOrShut bytes) rests
    (goes_on D.moment D.images_since D.images _ _ _ (IsWholeOrShut bytes) at_start
    c.sync.ensures.time
    (λ f left.
    inl (only f
    (settled_within c.sync.result bytes _ _ (c.sync.ensures.images bytes (rests.reads ∙ told))
    (g.met.D.Disk.is_image _ bytes (rests.reads ∙ told)) f left))))
