-- What is sent of a query in words.
use Rattle.std.specs.Prelude.{◌≡◌, ℕ, List, Ok}
use Rattle.dns_name.specs.Text.{name_of_text}
use Rattle.scenario_words.specs.Asking.{IsType}
use Rattle.scenario_words.specs.Packets.{packet}
use Rattle.scenario_words.specs.Parting.{before, behind}
use Rattle.scenario_words.specs.declared.asked.Asked.{Asked}
use Rattle.scenario_words.specs.declared.asking.Query.{Query}

-- It is the packet of a query for the name and the type that the text begins with.
pub record IsSent (text : List ℕ) (asked : Asked) : Type 0 where
  pub query : Query
  pub name : name_of_text (before 0x20 text) ≡ Ok query.name
  pub qtype : IsType (before 0x20 (behind 0x20 text)) query.qtype
  pub octets : asked.packet.items ≡ packet query
  pub sender : asked.from ≡ query.from
  pub random : asked.words ≡ query.words
