-- The next arrival of a script.
use Rattle.std.proofs.Common.{◌≡◌, ℕ, ◌+◌, ◌<◌, List, ◌∷◌, length, drop, map, get_or, sym, ◌∙◌, ap, subst, refl}
use Rattle.std.proofs.lemmas.List.{drop_more}
use Rattle.std.proofs.lemmas.List.Elements.{All-get_or}
use Rattle.std.specs.List.{All}
use Rattle.r53_io.specs.Network.{Incoming, Dns, Report, Quiet}
use Rattle.r53_io.specs.Script.{Script, incoming_of, FitsDatagram, Delivers, IsToFail, called, AfterReceive}
use Rattle.r53_io.specs.declared.network.Arrival.{Arrival}
use Rattle.r53_io.specs.declared.script_link.Scripted.{Scripted}

pub fits : (items : List Scripted) (at : ℕ) (next : Scripted) → at < length items
    → next ≡ get_or items at next → All FitsDatagram items → FitsDatagram next
fits items at next within is each =
    subst FitsDatagram (sym is) (All-get_or FitsDatagram items at next within each)

pub comes : (items : List Scripted) (at : ℕ) (next : Scripted) → at < length items
    → next ≡ get_or items at next
    → map incoming_of (drop at items) ≡ incoming_of next ∷ map incoming_of (drop (at + 1) items)
comes items at next within is =
    ap (map incoming_of) (drop_more items at next within)
    ∙ ap (λ n. incoming_of n ∷ map incoming_of (drop (at + 1) items)) (sym is)

-- the script after an arrival that is delivered
module _ (old new : Script) (next : Incoming) (rest : List Incoming)
    (stays : ¬ IsToFail old) (comes : old.coming ≡ next ∷ rest)
    (after : new ≡ record (called old) { coming = rest })
  where
    pub delivered : (answer : Arrival) (before now : List ℕ) → Delivers next answer before now
        → AfterReceive old answer new
    delivered answer before now is = by_next next comes is
      where
        by_next : (n : Incoming) → old.coming ≡ n ∷ rest → Delivers n answer before now → AfterReceive old answer new
        by_next (Dns peer octets) c d = subst (λ a. AfterReceive old a new) (sym d.0) (stays, (octets, rest, c, refl, after))
        by_next (Report octets) c d = subst (λ a. AfterReceive old a new) (sym d.0) (stays, (octets, rest, c, refl, after))
        by_next Quiet c d = subst (λ a. AfterReceive old a new) (sym d.0) (stays, (rest, c, after))
