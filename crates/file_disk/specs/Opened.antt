-- What a source keeps of the opening of its file.
use Rattle.file_disk.specs.Source.{Opening, Open, Missing, Refused}
use Rattle.file_disk.specs.declared.source.Opened.{Opened}
use Rattle.file_disk.specs.declared.source.Opened.TheVariants as opened

abbrev pub opening_of : {F : Type 0} → Opened F → Opening
opening_of (opened.Open file) = Open
opening_of opened.Missing = Missing
opening_of opened.Refused = Refused
