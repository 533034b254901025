use Rattle.first_version.proofs.Stores.{stores_open}
use Rattle.first_version.proofs.laws.former_stores_open.Goals as goal

pub returns : goal.returns
returns c =
    stores_open c.former_version_stays.ensures c.empty_is_former.ensures c.commands_keep_sound.ensures
    c.empty_is_sound.ensures
    c.sound_have_snapshots.ensures
