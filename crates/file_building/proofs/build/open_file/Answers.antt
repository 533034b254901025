use Rattle.std.proofs.Common.{◌⊎◌, ◌≡◌, inl, [], ◌∷◌, subst}
use Rattle.gate_journal.specs.Disk.{written}
use Rattle.gate_journal.specs.Synced.{WritesSynced}
use Rattle.gate_journal.proofs.Moments.{joined}
use Rattle.file_building.specs.Building.{IsShut, gate_opened}
use Rattle.file_building.proofs.Gates.{all_shut, written_shut, opening, keeps_told}
use Rattle.file_building.proofs.build.open_file.Goals as goal

pub returns-clause-opened : goal.returns-clause-opened
returns-clause-opened g c = λ y told whole.
    subst (λ r. WritesSynced r (written y c.args.next (0 ∷ [])) 0 (1 ∷ [])
    (g.D.Disk.reading c.write_synced-2.new.disk) (g.D.Disk.images c.write_synced-2.new.disk))
    whole (c.write_synced-2.ensures.kept _ (c.in-Whole.ensures.kept y told).0)

pub returns-clause-told : goal.returns-clause-told
returns-clause-told g c =
    λ y told. keeps_told c.write_synced-2.result _ _ _ _ _
    (c.write_synced-2.ensures.kept _ (c.in-Whole.ensures.kept y told).0)

pub returns-clause-any_moment : goal.returns-clause-any_moment
returns-clause-any_moment g c = λ y told shut all.
    let kept = c.in-Whole.ensures.kept y told in
    joined g.D.Disk.moment g.D.Disk.images_since _ _ _ _ _ (λ f. IsShut f
    ⊎ (f ≡ gate_opened y c.args.next)) (c.write_synced.ensures.any_moment y told)
    (c.write_synced-2.ensures.any_moment _ kept.0)
    (λ f left. inl (all_shut c.args.next _ _ c.requires.begun all f left))
    (λ f left. opening (written y c.args.next (0 ∷ [])) _ kept.1
    (written_shut y c.args.next (0 ∷ []) c.requires.begun shut) f left)
