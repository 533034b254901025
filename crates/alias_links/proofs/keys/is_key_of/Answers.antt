use Rattle.std.proofs.Common.{◌≡◌, ◌∙◌, refl, subst, sym}
use Rattle.std.proofs.lemmas.Bool.{false≢true}
use Rattle.std.proofs.lemmas.Option.{slice_get_read}
use Rattle.record_set.specs.declared.sets.SetKey.{SetKey}
use Rattle.zone_table.specs.Changes.{IsKeyOf}
use Rattle.zone_table.proofs.Among.{among_at}
use Rattle.alias_links.proofs.Looping.{none_at_all, one_more}
use Rattle.alias_links.proofs.keys.is_key_of.Goals as goal

pub returns-then-is_same_key : goal.returns-then-is_same_key
returns-then-is_same_key c =
    let keys = c.args.keys.now in
    let key = c.index-keys-i in
    let at = slice_get_read keys _ c.loop-i.i key.result refl c.loop-i-test.true key.is in
    let same = c.is_same_key.ensures.0 c.if-is_same_key.true in (
      λ e. subst (λ (k : SetKey). IsKeyOf keys k) same (among_at keys c.loop-i.i key.result at),
      λ there. refl,
    )

pub loop-i-preserved : goal.loop-i-preserved
loop-i-preserved c =
    let keys = c.args.keys.now in
    let key = c.index-keys-i in
    one_more (λ (k : SetKey). k ≡ c.args.key.now) keys c.loop-i.i key.result
    (slice_get_read keys _ c.loop-i.i key.result refl c.loop-i-test.true key.is)
    (λ e. false≢true (sym c.if-is_same_key.false ∙ c.is_same_key.ensures.1 e)) c.loop-i.invariant

pub returns : goal.returns
returns c = (
  λ e. absurd (false≢true e),
  λ there. absurd (none_at_all (λ (k : SetKey). k ≡ c.args.key.now) c.args.keys.now c.loop-i.i
      c.loop-i-test.false c.loop-i.invariant c.args.key.now there refl),
)
