use Rattle.std.proofs.Common.{◌≡◌, List, [], ◌∷◌, ℕ, sym, ap, ◌∙◌, codes, map}
use Rattle.std.specs.String.{string_bytes}
use Rattle.std.proofs.lemmas.Bool.{false≢true}
use Rattle.std.proofs.lemmas.List.Elements.{All-map}
use Rattle.r53_cli.specs.Once.{IsPlain}
use Rattle.r53_cli.proofs.Addresses.{ok_so}
use Rattle.r53_cli.proofs.OnceWords.{form_taken, All-under_map}
use Rattle.r53_cli.proofs.words.once_of.Goals as goal

pub returns-then-not-are_plain-clause-none : goal.returns-then-not-are_plain-clause-none
returns-then-not-are_plain-clause-none c = λ once f.
    absurd (false≢true (sym c.if-not-are_plain.true
    ∙ c.are_plain.ensures.1 (All-under_map IsPlain string_bytes c.args.words.now f.plain)))

pub returns-clause-some : goal.returns-clause-some
returns-clause-some c =
    let plain =
    All-map IsPlain string_bytes c.args.words.now
    (c.are_plain.ensures.0 c.if-not-are_plain.false) in
    let form : map string_bytes c.args.words.now
    ≡ codes "once" ∷ c.in-Some.name.now ∷ c.in-Some.ttl.now ∷ c.in-Some.address.now ∷ [] =
    c.in-Some.ensures.some
    ∙ ap (λ (t : List ℕ). t ∷ c.in-Some.name.now ∷ c.in-Some.ttl.now ∷ c.in-Some.address.now ∷ [])
    (c.is_word.ensures.0 c.if-not-is_word.false) in
    ok_so c.record.result c.record.ensures.some
    (λ found spelled. form_taken _ _ _ _ form plain found spelled)
