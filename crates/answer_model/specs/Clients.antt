-- Where a client's address comes from (RFC 7871, 7.2.1), what is told of it, and how far that
-- reaches.
use Rattle.std.specs.Prelude.{ℕ, ◌==◌, List, take, Option, None, Some, if◌then◌else◌}
use Rattle.address_text.specs.declared.address.IpAddress.{IpAddress}
use Rattle.address_text.specs.declared.address.IpAddress.TheVariants.{V4, V6}
use Rattle.choice_model.specs.Choice.{ClientRows}
use Rattle.cidr_blocks.specs.declared.places.Collection.{Collection}
use Rattle.cidr_blocks.specs.Places.{rows_of}
use Rattle.choice_model.specs.Stored.{collection_with}
use Rattle.ecs_option.specs.declared.subnet.ClientSubnet.{ClientSubnet}
use Rattle.choice_model.specs.TablesRecord.{Tables}
use Rattle.answer_model.specs.Location.{told_in, scope_in}

-- the address of a client subnet: FAMILY 1 is IPv4, and 2 is IPv6
abbrev pub subnet_address : ClientSubnet → IpAddress
subnet_address subnet =
    if subnet.family == 1 then V4 (take 4 subnet.address) else V6 subnet.address

-- The client's address: that of the client subnet where its source length is above 0, else the
-- packet's.
abbrev pub client_address : Option ClientSubnet → (peer : IpAddress) → IpAddress
client_address None peer = peer
client_address (Some subnet) peer = if subnet.source == 0 then peer else subnet_address subnet

-- What is told of a client, and the scope of each table and of each collection for it.
pub record Client : Type 0 where
  pub rows : ClientRows
  pub places : ℕ
  pub latencies : ℕ
  pub blocks : (collection : ℕ) → ℕ

-- the location among the blocks of a collection, and the scope; none and 0 where it isn't there
abbrev pub location_in : Option Collection → IpAddress → Option (List ℕ)
location_in None address = None
location_in (Some collection) address = told_in (rows_of collection.locations) address

abbrev pub blocks_scope : Option Collection → IpAddress → ℕ
blocks_scope None address = 0
blocks_scope (Some collection) address = scope_in (rows_of collection.locations) address

-- what the tables and the collections tell of the client with an address
abbrev pub client_with : Tables → List (ℕ × Collection) → IpAddress → Client
client_with tables collections address = record {
  rows = record {
    location = told_in tables.places address;
    latencies = told_in tables.latencies address;
    block = λ id. location_in (collection_with id collections) address;
  };
  places = scope_in tables.places address;
  latencies = scope_in tables.latencies address;
  blocks = λ id. blocks_scope (collection_with id collections) address;
}
